-- What was sent to a sink, put together.
use Rattle.std.proofs.Common.{◌≡◌, ℕ, List, [], ◌∷◌, ◌++◌, Option, Some, None, refl, sym, ap, ◌∙◌, subst, append_assoc, append-nil}
use Rattle.std.specs.Prelude.{Result, Ok, Err}
use Rattle.std.specs.Io.KnownBytes.{append_known}
use Rattle.io_base.specs.Sink.{Gave}
use Rattle.io_base.specs.Trail.{GiveCall, given_more}
use Rattle.io_base.specs.declared.fault.IoFault.{IoFault}
use Rattle.serve_loop.specs.Sending.{Sent, SentBy, SentFront, SentSince, SinkView}

-- ---- what was given, and more

pub append_both : (given : Option (List ℕ)) (first second : List ℕ) → append_known (append_known given first) second ≡ append_known given (first ++ second)
append_both None first second = refl
append_both (Some given) first second = ap Some (append_assoc given first second)

pub append_none : (given : Option (List ℕ)) → append_known given [] ≡ given
append_none None = refl
append_none (Some given) = ap Some (append-nil given)

-- ---- gives one after another

sent_by_both : (first later : List GiveCall) (a b : List ℕ) → SentBy first a → SentBy later b → SentBy (later ++ first) (a ++ b)
sent_by_both first [] a b one none = subst (SentBy first) (sym (ap (λ l. a ++ l) none ∙ append-nil a)) one
sent_by_both first (call ∷ later) a b one (earlier, last, by, own, is) =
    (a ++ earlier, last, sent_by_both first later a earlier one by, own, ap (λ l. a ++ l) is ∙ sym (append_assoc a earlier last))

pub since_both : (a b : List ℕ) (old mid new : List GiveCall) → SentSince a old mid → SentSince b mid new → SentSince (a ++ b) old new
since_both a b old mid new one two = record {
  more = two.more ++ one.more;
  grew = two.grew ∙ ap (λ l. two.more ++ l) one.grew ∙ sym (append_assoc two.more one.more old);
  sent = sent_by_both one.more two.more a b one.sent two.sent;
}

pub sent_both : (a b : List ℕ) (old mid new : SinkView) → Sent a old mid → Sent b mid new → Sent (a ++ b) old new
sent_both a b old mid new one two = record {
  given = two.given ∙ ap (λ g. append_known g b) one.given ∙ append_both old.given a b;
  gives = since_both a b old.gives mid.gives new.gives one.gives two.gives;
}

-- nothing was given
pub sent_none : (sink : SinkView) → Sent [] sink sink
sent_none sink = record { given = sym (append_none sink.given); gives = record { more = []; grew = refl; sent = refl } }

-- ---- one give

-- what one give that answered so sent
abbrev pub OneGive : Result (Unit {0}) IoFault → List ℕ → SinkView → SinkView → Type 0
OneGive (Ok _) text old new = Sent text old new
OneGive (Err _) text old new = SentFront text old new

pub one_give : (result : Result (Unit {0}) IoFault) (text : List ℕ) (old new : SinkView) → Gave result text old.given new.given
    → new.gives ≡ given_more old.gives text result → OneGive result text old new
one_give (Ok value) text old new gave trail = record {
  given = gave;
  gives = record { more = given_more [] text (Ok value); grew = trail; sent = ([], text, refl, refl, refl) };
}
one_give (Err fault) text old new gave trail = record {
  count = gave.count;
  within = gave.within;
  front = record {
    given = gave.front;
    gives = record { more = given_more [] text (Err fault); grew = trail; sent = ([], _, refl, (gave.count, refl), refl) };
  };
}
