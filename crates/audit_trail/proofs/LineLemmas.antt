-- Escaped names have no line feed.
use Rattle.std.proofs.Common.{◌≡◌, ◌≢◌, ◌≤◌, ◌+◌, ℕ, List, ◌++◌, true, false, refl, sym, ap, subst, ◌∙◌, arith, length-append}
use Rattle.std.specs.Prelude.{Bool, Option, Result, Ok, Err, IsErr, if◌then◌else◌}
use Rattle.fault_base.specs.Counts.{Rose}
use Rattle.std.specs.Io.KnownBytes.{append_known}
use Rattle.std.proofs.lemmas.List.{take-append-le}
use Rattle.io_base.specs.Count.{CountsFault}
use Rattle.io_base.specs.Sink.{Gave, GaveFront}
use Rattle.io_base.proofs.Giving.{append_known-joined, GaveFront-joined}
use Rattle.std.proofs.lemmas.Bool.{true≢false}
use Rattle.percent_encoding.specs.AsciiSet.{should_percent_encode}
use Rattle.percent_encoding.proofs.PercentLemmas.{All-percent_encode, IsEscapeByte}
use Rattle.audit_trail.specs.declared.lines.LineAudit.{LineAudit}
use Rattle.audit_trail.specs.LineAudit.{line_room}
use Rattle.audit_trail.specs.declared.lines.TheConstants.{ESCAPED}
use Rattle.audit_trail.specs.Lines.{NamesKeepTheLine}

feed_is_escaped : should_percent_encode ESCAPED 10 ≡ true
unfolding should_percent_encode
feed_is_escaped = refl

kept_is_none : (b : ℕ) → should_percent_encode ESCAPED b ≡ false → b ≢ 10
kept_is_none b kept is = true≢false (sym feed_is_escaped ∙ ap (should_percent_encode ESCAPED) (sym is) ∙ kept)

escape_is_none : (b : ℕ) → IsEscapeByte b → b ≢ 10
escape_is_none b h is = grind arith

pub names_keep : NamesKeepTheLine
names_keep name = All-percent_encode (λ b. b ≢ 10) ESCAPED name kept_is_none escape_is_none

-- a front of a piece is one of the piece with what follows it
pub front_wider : (old new : Option (List ℕ)) (piece rest : List ℕ) → GaveFront piece old new → GaveFront (piece ++ rest) old new
front_wider old new piece rest front = record {
  count = front.count;
  within = omega (arith, front.within, length-append piece rest);
  front = front.front ∙ ap (append_known old) (sym (take-append-le front.count piece rest front.within));
}

-- a give after others: all their bytes, or a front of them where it failed
pub gave_more : {A E : Type 0} (r : Result A E) (old mid new : Option (List ℕ)) (xs ys : List ℕ) → mid ≡ append_known old xs → Gave r ys mid new
    → Gave r (xs ++ ys) old new
gave_more (Ok value) old mid new xs ys first gave = append_known-joined old mid new xs ys first gave
gave_more (Err fault) old mid new xs ys first gave = GaveFront-joined old mid new xs ys first gave

-- a fault after gives that counted none
pub counted_more : {A E : Type 0} (r : Result A E) (old mid new : ℕ) → mid ≡ old → CountsFault r mid new → CountsFault r old new
counted_more r old mid new same counted = subst (λ (n : ℕ). CountsFault r n new) same counted

-- a give that failed gave a front, and counted
pub err_gave : {A E : Type 0} (r : Result A E) (xs : List ℕ) (old new : Option (List ℕ)) → IsErr r → GaveFront xs old new → Gave r xs old new
err_gave (Ok value) xs old new is front = absurd (let apart : false ≡ true = is in cc)
err_gave (Err fault) xs old new is front = front

pub err_counted : {A E : Type 0} (r : Result A E) (old mid new : ℕ) → IsErr r → mid ≡ old → Rose mid new → CountsFault r old new
err_counted (Ok value) old mid new is same rose = absurd (let apart : false ≡ true = is in cc)
err_counted (Err fault) old mid new is same rose = subst (λ (n : ℕ). Rose n new) same rose

-- at most one place is lost
pub room_least : {K : Type 0} (old new : LineAudit K) → line_room old ≤ line_room new + 1
room_least {K} old new = at_most old.is_cut (line_room new)
  where
    at_most : (cut : Bool) (n : ℕ) → (if cut then 0 else 1) ≤ n + 1
    at_most true n = omega arith
    at_most false n = omega arith
