-- One log has one outcome, and what is paid is told as a desk must.
use Rattle.std.proofs.Common.{◌≡◌, ◌∙◌, ℕ, List, [], ◌∷◌, All, map, Option, Some, None, ap, ap₂, refl, subst, sym}
use Rattle.std.specs.List.{concat}
use Rattle.call_types.specs.declared.feed.Cut.{Cut}
use Rattle.call_types.specs.declared.feed.Cut.TheVariants.{BodyCut, NoMemory, ReadFault, ShardCut, WriteFault}
use Rattle.call_types.specs.declared.reply.Reply.{Reply}
use Rattle.desk_base.specs.Answering.{Task}
use Rattle.desk_base.specs.Telling.{Telling}
use Rattle.desk_base.specs.Telling.Telling.{Head as TheHead, Piece}
use Rattle.drive_base.specs.declared.plan.SetPlan.{SetPlan}
use Rattle.receipts.specs.Events.{Log, sections_of, tale_of}
use Rattle.receipts.specs.Laws.{CutBodyChangesNothing, IsOfFeed, OutcomesAreOne}
use Rattle.receipts.specs.Paying.{ChangesNothing, EndsAs, IsTaleOf, Outcome, Owes, OwesCut}
use Rattle.receipts.specs.Paying.Outcome.{CutOff, Replied}

-- the reply of a tale's head, and the bytes of its pieces
abbrev reply_in : Reply → List Telling → Reply
reply_in other [] = other
reply_in other (TheHead reply ∷ tale) = reply
reply_in other (Piece bytes ∷ tale) = other

abbrev pieces_in : List Telling → List (List ℕ)
pieces_in [] = []
pieces_in (TheHead reply ∷ tale) = pieces_in tale
pieces_in (Piece bytes ∷ tale) = bytes ∷ pieces_in tale

pieces_are : (pieces : List (List ℕ)) → pieces_in (map Piece pieces) ≡ pieces
pieces_are [] = refl
pieces_are (bytes ∷ pieces) = ap (λ rest. bytes ∷ rest) (pieces_are pieces)

same_tales : (a b : Reply) (x y : List ℕ) (tale : List Telling) → IsTaleOf a x tale → IsTaleOf b y tale → Replied a x ≡ Replied b y
same_tales a b x y tale one two =
    let same = sym one.1 ∙ two.1 in
    let replies : a ≡ b = ap (reply_in a) same in
    let pieces : one.0 ≡ two.0 = sym (pieces_are one.0) ∙ (ap pieces_in same ∙ pieces_are two.0) in
    let bytes : x ≡ y = sym one.2 ∙ (ap concat pieces ∙ two.2) in
    ap₂ Replied replies bytes

abbrev some_is : Cut → Option Cut → Cut
some_is other None = other
some_is other (Some why) = why

same_cuts : (cut : Option Cut) (a b : Cut) → cut ≡ Some a → cut ≡ Some b → a ≡ b
same_cuts cut a b one two = ap (some_is a) (sym one ∙ two)

abbrev is_cut : Option Cut → Type 0
is_cut None = ⊥
is_cut (Some why) = Unit {0}

none_or_some : (cut : Option Cut) (why : Cut) → cut ≡ None → cut ≡ Some why → ⊥
none_or_some cut why none some = subst is_cut (sym some ∙ none) tt

pub outcomes_are_one : OutcomesAreOne
outcomes_are_one cut log (Replied a x) (Replied b y) ends also tells too = same_tales a b x y (tale_of log) tells too
outcomes_are_one cut log (Replied a x) (CutOff why tale) ends also tells too = absurd (none_or_some cut why ends also)
outcomes_are_one cut log (CutOff why tale) (Replied b y) ends also tells too = absurd (none_or_some cut why also ends)
outcomes_are_one cut log (CutOff why tale) (CutOff other more) ends also tells too = ap₂ CutOff (same_cuts cut why other ends also) (tells ∙ sym too)

-- a call that is cut by its feed did nothing of its own
cut_nothing : (set : SetPlan) (task : Task) (cut : Cut) (tale : List Telling) (log : Log) → IsOfFeed cut → OwesCut set task cut tale log
    → All ChangesNothing (sections_of log)
cut_nothing set task ReadFault tale log is owed = owed.2
cut_nothing set task (BodyCut read stated) tale log is owed = owed.5
cut_nothing set task WriteFault tale log is owed = absurd is
cut_nothing set task (ShardCut whys) tale log is owed = absurd is
cut_nothing set task NoMemory tale log is owed = absurd is

outcome_nothing : (set : SetPlan) (task : Task) (outcome : Outcome) (cut : Cut) (log : Log) → IsOfFeed cut → EndsAs (Some cut) outcome
    → Owes set task outcome log → All ChangesNothing (sections_of log)
outcome_nothing set task (Replied reply bytes) cut log is ends owes = absurd (subst is_cut ends tt)
outcome_nothing set task (CutOff why tale) cut log is ends owes =
    cut_nothing set task why tale log (subst IsOfFeed (ap (some_is why) ends) is) owes

pub cut_changes_nothing : CutBodyChangesNothing
cut_changes_nothing set task cut log is x = outcome_nothing set task x.outcome cut log is x.ends x.owes
