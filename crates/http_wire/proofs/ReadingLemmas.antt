-- What was read, out of what arrived.
use Rattle.std.proofs.Common.{◌≡◌, ℕ, ◌<◌, false, List, [], ◌∷◌, ◌++◌, length, take, drop, min, inl, inr, refl, sym, ap, ◌∙◌, subst, arith, append-nil, take-append-drop}
use Rattle.std.specs.Prelude.{◌==◌}
use Rattle.std.proofs.lemmas.List.{length-take, take-append-le, take-take}
use Rattle.http_wire.specs.declared.fault.WireFault.{WireFault}
use Rattle.http_wire.specs.declared.fault.WireFault.TheVariants.{BadHead, HeadTooLong, ChunkedBody, BodyCut, ReadFault, NoMemory}
use Rattle.http_wire.specs.declared.reading.Reading.{Reading}
use Rattle.http_wire.specs.declared.reading.Reading.TheVariants.{Whole, End, Refused}
use Rattle.http_wire.specs.Heads.{IsOpen}
use Rattle.http_wire.specs.Answers.{TakesHead, EndsAfter, Decides, BringsFront}
use Rattle.http_wire.specs.Taking.{HasEnded, SourceView}
use Rattle.http_wire.proofs.SourceLemmas.{taken_none}

pub taken_decides : (r : Reading) (text waits : List ℕ) (after : SourceView) (faults faults_after : ℕ)
    → TakesHead r text waits → faults_after ≡ faults → Decides r text waits after faults faults_after
taken_decides (Whole head n) text waits after faults faults_after takes same = (takes, same)
taken_decides End text waits after faults faults_after takes same = absurd takes
taken_decides (Refused BadHead) text waits after faults faults_after takes same = ((inr takes.0, same), takes.1)
taken_decides (Refused HeadTooLong) text waits after faults faults_after takes same = absurd takes
taken_decides (Refused ChunkedBody) text waits after faults faults_after takes same = ((takes.0, same), takes.1)
taken_decides (Refused (BodyCut read stated)) text waits after faults faults_after takes same = absurd takes
taken_decides (Refused ReadFault) text waits after faults faults_after takes same = absurd takes
taken_decides (Refused NoMemory) text waits after faults faults_after takes same = (same, takes)

no_bytes : (text : List ℕ) → length text ≡ 0 → text ≡ []
no_bytes [] none = refl
no_bytes (b ∷ text) none = absurd (omega (arith, none))

pub ended_decides : (r : Reading) (text : List ℕ) (after : SourceView) (faults faults_after : ℕ)
    → EndsAfter r (length text) → IsOpen text → HasEnded after → faults_after ≡ faults → Decides r text text after faults faults_after
ended_decides (Whole head n) text after faults faults_after ends waits at_end same = absurd ends
ended_decides End text after faults faults_after ends waits at_end same =
    (no_bytes text ends, no_bytes text ends, at_end, same)
ended_decides (Refused fault) text after faults faults_after ends waits at_end same =
    subst (λ (f : WireFault). Decides (Refused f) text text after faults faults_after) (sym ends.0)
    ((waits, at_end, ends.1, refl, refl, same), refl)

some_bytes : (text : List ℕ) → (length text == 0) ≡ false → 0 < length text
some_bytes [] some = absurd (cc)
some_bytes (b ∷ text) some = omega arith

-- the first of the bytes that waited were copied to the front of the buffer, and no take was asked
pub brings_waiting : (n : ℕ) (room into text from now : List ℕ) (source : SourceView) (faults : ℕ) → from ≡ text → (length from == 0) ≡ false → 0 < length room
    → n ≡ min (length room) (length from) → into ≡ take n from ++ drop n room → length into ≡ length room → now ≡ drop n text
    → BringsFront n into text now source source faults faults
brings_waiting n room into text from now source faults is some any count copied long passed =
    let waits : 0 < length from = some_bytes from some in
    let fits : length (take n from) ≡ n = length-take n from ∙ omega (arith, count) in
    let front : take n into ≡ take n from =
    ap (take n) copied ∙ take-append-le n (take n from) (drop n room) (omega (arith, fits)) ∙ take-take n n from (omega arith) in
    record {
      fits = omega (arith, count, long);
      piece = [];
      joined = append-nil text ∙ sym (take-append-drop n text) ∙ ap (λ t. take n t ++ drop n text) (sym is) ∙ ap (λ t. t ++ drop n text) (sym front)
          ∙ ap (λ t. take n into ++ t) (sym passed);
      took = taken_none source;
      asked = inl refl;
      ends = λ none. absurd (omega (arith, none, count, waits, any));
      counted = refl;
    }
