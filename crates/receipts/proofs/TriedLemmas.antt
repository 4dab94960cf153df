-- What was tried to be told is what was told, with the telling that broke; so what is paid is told as a desk must.
use Rattle.std.proofs.Common.{◌≡◌, ◌⊎◌, ◌∙◌, ℕ, List, [], ◌∷◌, ◌++◌, All, length, map, Option, Some, None, append-nil, ap, ap₂, inl, inr, refl, subst, sym, arith}
use Rattle.std.proofs.lemmas.List.{length-append, map-append}
use Rattle.std.proofs.lemmas.List.Folds.{concat-append}
use Rattle.std.proofs.lemmas.Grind.{flat_map-append}
use Rattle.call_types.specs.declared.feed.Cut.{Cut}
use Rattle.call_types.specs.declared.feed.Cut.TheVariants as cut_of
use Rattle.call_types.specs.declared.reply.Reply.{Reply}
use Rattle.desk_base.specs.Answering.{Task}
use Rattle.desk_base.specs.Telling.{Telling}
use Rattle.desk_base.specs.Telling.Telling.{Head as TheHead, Piece}
use Rattle.drive_base.specs.declared.plan.SetPlan.{SetPlan}
use Rattle.receipts.specs.Events.{IsUntold, Log, cuts_of, tale_of, tried_in, tried_of}
use Rattle.receipts.specs.Events.Event.{BarredFrom, Called, Fed, Told, Turned}
use Rattle.receipts.specs.Laws.{PayIsTold, TellsAs}
use Rattle.receipts.specs.Paying.{EndsAs, Outcome, Owes, OwesCut, OwesPart, Pays, TellingBroke, TellsOutcome}
use Rattle.receipts.specs.Paying.Outcome.{CutOff, Replied}
use Rattle.receipts.proofs.GrowLemmas.{all_head, all_tail}
use Rattle.receipts.proofs.JoinLemmas.{cuts_join, tales_join}

-- no sink failed
abbrev pub NoneBroke : List Cut → Type 0
NoneBroke [] = Unit {0}
NoneBroke (cut_of.ReadFault ∷ cuts) = NoneBroke cuts
NoneBroke (cut_of.BodyCut read stated ∷ cuts) = NoneBroke cuts
NoneBroke (cut_of.WriteFault ∷ cuts) = ⊥
NoneBroke (cut_of.ShardCut whys ∷ cuts) = NoneBroke cuts
NoneBroke (cut_of.NoMemory ∷ cuts) = NoneBroke cuts

none_rest : (cut : Cut) (cuts : List Cut) → NoneBroke (cut ∷ cuts) → NoneBroke cuts
none_rest cut_of.ReadFault cuts none = none
none_rest (cut_of.BodyCut read stated) cuts none = none
none_rest cut_of.WriteFault cuts none = absurd none
none_rest (cut_of.ShardCut whys) cuts none = none
none_rest cut_of.NoMemory cuts none = none

-- then what was tried was told
pub tried_is_told : (log : Log) → NoneBroke (cuts_of log) → tried_of log ≡ tale_of log
tried_is_told [] none = refl
tried_is_told (Turned slot made shown ∷ log) none = tried_is_told log none
tried_is_told (BarredFrom slot why ∷ log) none = tried_is_told log none
tried_is_told (Called drive made ∷ log) none = tried_is_told log none
tried_is_told (Fed bytes None ∷ log) none = tried_is_told log none
tried_is_told (Fed bytes (Some cut) ∷ log) none = tried_is_told log (none_rest cut (cuts_of log) none)
tried_is_told (Told telling None ∷ log) none = ap (λ rest. telling ∷ rest) (tried_is_told log none)
tried_is_told (Told telling (Some cut_of.ReadFault) ∷ log) none = tried_is_told log none
tried_is_told (Told telling (Some (cut_of.BodyCut read stated)) ∷ log) none = tried_is_told log none
tried_is_told (Told telling (Some cut_of.WriteFault) ∷ log) none = absurd none
tried_is_told (Told telling (Some (cut_of.ShardCut whys)) ∷ log) none = tried_is_told log none
tried_is_told (Told telling (Some cut_of.NoMemory) ∷ log) none = tried_is_told log none

pub told_none : (log : Log) → All IsUntold log → tale_of log ≡ []
told_none [] none = refl
told_none (Turned slot made shown ∷ log) none = told_none log (all_tail IsUntold _ log none)
told_none (BarredFrom slot why ∷ log) none = told_none log (all_tail IsUntold _ log none)
told_none (Called drive made ∷ log) none = told_none log (all_tail IsUntold _ log none)
told_none (Fed bytes cut ∷ log) none = told_none log (all_tail IsUntold _ log none)
told_none (Told telling None ∷ log) none = absurd (all_head IsUntold (Told telling None) log none)
told_none (Told telling (Some cut) ∷ log) none = told_none log (all_tail IsUntold _ log none)

-- where one cut stands in a list of one, no other does
one_alone : (front back : List Cut) (cut : Cut) → front ++ cut ∷ back ≡ cut ∷ [] → (front ≡ []) × (back ≡ [])
one_alone [] [] cut same = (refl, refl)
one_alone [] (other ∷ back) cut same = absurd (let long : length (cut ∷ other ∷ back) ≡ 1 = ap length same in omega (arith, long))
one_alone (other ∷ front) back cut same = absurd (
    let long : length (other ∷ front ++ cut ∷ back) ≡ 1 = ap length same in
    let joined = length-append front (cut ∷ back) in
    omega (arith, long, joined))

-- the one telling broke behind all others
pub record BreaksLast (telling : Telling) (log : Log) : Type 0 where
  pub before : Log
  pub rest : Log
  pub parts : log ≡ before ++ Told telling (Some cut_of.WriteFault) ∷ rest
  pub last : All IsUntold rest
  pub no_cut_before : cuts_of before ≡ []
  pub no_cut_behind : cuts_of rest ≡ []

pub breaks_last : (telling : Telling) (log before rest : Log) → log ≡ before ++ Told telling (Some cut_of.WriteFault) ∷ rest → All IsUntold rest
    → cuts_of log ≡ cut_of.WriteFault ∷ [] → BreaksLast telling log
breaks_last telling log before rest parts last one =
    let joined = sym (cuts_join before (Told telling (Some cut_of.WriteFault) ∷ rest)) ∙ (sym (ap cuts_of parts) ∙ one) in
    let alone = one_alone (cuts_of before) (cuts_of rest) cut_of.WriteFault joined in
    record { before = before; rest = rest; parts = parts; last = last; no_cut_before = alone.0; no_cut_behind = alone.1 }

tries_join : (log more : Log) → tried_of (log ++ more) ≡ tried_of log ++ tried_of more
tries_join log more = flat_map-append tried_in log more

-- what was told stands before it, and it was tried last
pub told_before : (telling : Telling) (log : Log) (x : BreaksLast telling log) → tale_of log ≡ tale_of x.before
told_before telling log x =
    ap tale_of x.parts ∙ (tales_join x.before (Told telling (Some cut_of.WriteFault) ∷ x.rest)
    ∙ (ap (λ l. tale_of x.before ++ l) (told_none x.rest x.last) ∙ append-nil (tale_of x.before)))

pub tried_last : (telling : Telling) (log : Log) → BreaksLast telling log → tried_of log ≡ tale_of log ++ telling ∷ []
tried_last telling log x =
    let front = tried_is_told x.before (subst NoneBroke (sym x.no_cut_before) tt) in
    let back = tried_is_told x.rest (subst NoneBroke (sym x.no_cut_behind) tt) ∙ told_none x.rest x.last in
    ap tried_of x.parts ∙ (tries_join x.before (Told telling (Some cut_of.WriteFault) ∷ x.rest)
    ∙ (ap₂ (λ a b. a ++ telling ∷ b) front back ∙ ap (λ l. l ++ telling ∷ []) (sym (told_before telling log x))))

-- one piece more behind a tale
one_piece_more : (reply : Reply) (pieces : List (List ℕ)) (piece : List ℕ)
    → (TheHead reply ∷ map Piece pieces) ++ Piece piece ∷ [] ≡ TheHead reply ∷ map Piece (pieces ++ piece ∷ [])
one_piece_more reply pieces piece = ap (λ rest. TheHead reply ∷ rest) (sym (map-append Piece pieces (piece ∷ [])))

broken_tale : (set : SetPlan) (task : Task) (tale : List Telling) (log : Log) → tale ≡ tale_of log → cuts_of log ≡ cut_of.WriteFault ∷ []
    → TellingBroke set task tale log → TellsAs task.call (Some cut_of.WriteFault) (tried_of log)
broken_tale set task tale log told one (inl (none, reply, x)) =
    let last = breaks_last (TheHead reply) log x.before x.rest x.parts x.last one in
    inr (reply, [], omega arith, tried_last (TheHead reply) log last ∙ ap (λ l. l ++ TheHead reply ∷ []) (sym told ∙ none))
broken_tale set task tale log told one (inr x) =
    let last = breaks_last (Piece x.piece) log x.before x.rest x.parts x.last one in
    let bytes = concat-append x.tale_is.0 (x.piece ∷ []) ∙ ap₂ (λ a b. a ++ b) x.tale_is.2 (append-nil x.piece) in
    let long = ap length bytes in
    let few = x.few in
    inr (
      x.reply,
      x.tale_is.0 ++ x.piece ∷ [],
      omega (arith, long, few),
      tried_last (Piece x.piece) log last ∙ (ap (λ l. l ++ Piece x.piece ∷ []) (sym told ∙ x.tale_is.1) ∙ one_piece_more x.reply x.tale_is.0 x.piece),
    )

part_tale : (set : SetPlan) (task : Task) (tale : List Telling) (log : Log) → tried_of log ≡ tale → OwesPart set task tale log
    → TellsAs task.call (Some cut_of.NoMemory) (tried_of log)
part_tale set task tale log tried (inl none) = inl (tried ∙ none.0)
part_tale set task tale log tried (inr (reply, bytes, is, few, front)) =
    let long = ap length is.2 in
    inr (reply, is.0, omega (arith, long, few), tried ∙ is.1)

-- nor did one where the call is cut for want of memory
pub unbroken : (cuts : List Cut) → (cuts ≡ []) ⊎ (cuts ≡ cut_of.NoMemory ∷ []) → NoneBroke cuts
unbroken cuts (inl none) = subst NoneBroke (sym none) tt
unbroken cuts (inr own) = subst NoneBroke (sym own) tt

cut_tale : (set : SetPlan) (task : Task) (why : Cut) (tale : List Telling) (log : Log) → tale ≡ tale_of log → OwesCut set task why tale log
    → TellsAs task.call (Some why) (tried_of log)
cut_tale set task cut_of.ReadFault tale log told x = inl (tried_is_told log (subst NoneBroke (sym x.1) tt) ∙ (sym told ∙ x.0))
cut_tale set task (cut_of.BodyCut read stated) tale log told x = inl (tried_is_told log (subst NoneBroke (sym x.1) tt) ∙ (sym told ∙ x.0))
cut_tale set task cut_of.WriteFault tale log told x = broken_tale set task tale log told x.1 x.0
cut_tale set task (cut_of.ShardCut whys) tale log told x =
    let long = ap length x.tale_is.2 in
    let less = x.less in
    (_, x.tale_is.0, omega (arith, long, less), tried_is_told log (subst NoneBroke (sym x.uncut) tt) ∙ (sym told ∙ x.tale_is.1))
cut_tale set task cut_of.NoMemory tale log told x =
    part_tale set task tale log (tried_is_told log (unbroken (cuts_of log) x.1) ∙ sym told) x.0

outcome_tale : (set : SetPlan) (task : Task) (cut : Option Cut) (outcome : Outcome) (log : Log) → EndsAs cut outcome → TellsOutcome outcome log
    → Owes set task outcome log → TellsAs task.call cut (tried_of log)
outcome_tale set task cut (Replied reply bytes) log ends tells owes = subst (λ c. TellsAs task.call c (tried_of log)) (sym ends)
    (reply, tells.0, ap length tells.2 ∙ owes.whole, tried_is_told log (subst NoneBroke (sym owes.uncut) tt) ∙ tells.1)
outcome_tale set task cut (CutOff why tale) log ends tells owes =
    subst (λ c. TellsAs task.call c (tried_of log)) (sym ends) (cut_tale set task why tale log tells owes)

pub pay_is_told : PayIsTold
pay_is_told set task cut log x = outcome_tale set task cut x.outcome log x.ends x.tells x.owes

-- what a call that is cut pays, and one that isn't
pub record PaysCut (set : SetPlan) (task : Task) (why : Cut) (log : Log) : Type 0 where
  pub tale : List Telling
  pub told : tale ≡ tale_of log
  pub owes : OwesCut set task why tale log

abbrev why_of : Cut → Option Cut → Cut
why_of other None = other
why_of other (Some why) = why

abbrev has_cut : Option Cut → Type 0
has_cut None = ⊥
has_cut (Some why) = Unit {0}

cut_by_outcome : (set : SetPlan) (task : Task) (why : Cut) (outcome : Outcome) (log : Log) → EndsAs (Some why) outcome → TellsOutcome outcome log
    → Owes set task outcome log → PaysCut set task why log
cut_by_outcome set task why (Replied reply bytes) log ends tells owes = absurd (subst has_cut ends tt)
cut_by_outcome set task why (CutOff other tale) log ends tells owes =
    record { tale = tale; told = tells; owes = subst (λ w. OwesCut set task w tale log) (sym (ap (why_of why) ends)) owes }

pub pays_cut : (set : SetPlan) (task : Task) (why : Cut) (log : Log) → Pays set task (Some why) log → PaysCut set task why log
pays_cut set task why log x = cut_by_outcome set task why x.outcome log x.ends x.tells x.owes

uncut_by_outcome : (set : SetPlan) (task : Task) (outcome : Outcome) (log : Log) → EndsAs None outcome → Owes set task outcome log → cuts_of log ≡ []
uncut_by_outcome set task (Replied reply bytes) log ends owes = owes.uncut
uncut_by_outcome set task (CutOff why tale) log ends owes = absurd (subst has_cut (sym ends) tt)

pub pays_uncut : (set : SetPlan) (task : Task) (log : Log) → Pays set task None log → cuts_of log ≡ []
pays_uncut set task log x = uncut_by_outcome set task x.outcome log x.ends x.owes

-- the one telling that broke
pub record OneBroke (log : Log) : Type 0 where
  pub telling : Telling
  pub last : BreaksLast telling log

one_broke : (set : SetPlan) (task : Task) (tale : List Telling) (log : Log) → TellingBroke set task tale log → cuts_of log ≡ cut_of.WriteFault ∷ [] → OneBroke log
one_broke set task tale log (inl (none, reply, x)) one =
    record { telling = TheHead reply; last = breaks_last (TheHead reply) log x.before x.rest x.parts x.last one }
one_broke set task tale log (inr x) one = record { telling = Piece x.piece; last = breaks_last (Piece x.piece) log x.before x.rest x.parts x.last one }

pub pays_broken : (set : SetPlan) (task : Task) (log : Log) → Pays set task (Some cut_of.WriteFault) log → OneBroke log
pays_broken set task log x = let cut = pays_cut set task cut_of.WriteFault log x in one_broke set task cut.tale log cut.owes.0 cut.owes.1
