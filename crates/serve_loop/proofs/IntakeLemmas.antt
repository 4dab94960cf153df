-- What an intake gives, and what it passes over.
use Rattle.std.proofs.Common.{zero, suc, ◌≡◌, inl, inr, ◌≤◌, ◌<◌, ◌+◌, ◌-◌, ℕ, true, false, List, [], ◌∷◌, ◌++◌, length, take, Option, Some, None, refl, sym, ap, ◌∙◌, subst, arith, append_assoc, append-nil, length-append}
use Rattle.std.proofs.Math.Seq.{take-append_seam}
use Rattle.std.proofs.lemmas.Bool.{false≢true}
use Rattle.std.proofs.lemmas.List.{length-take, take_all}
use Rattle.std.specs.Prelude.{Result, Ok, Err}
use Rattle.std.specs.Io.KnownBytes.{prepend_known}
use Rattle.io_base.specs.Trail.{TakeCall, obtained}
use Rattle.http_wire.specs.Answers.{Wired, GivesBody, GivesPart}
use Rattle.http_wire.specs.Taking.{HandsOn, SourceView, Taken, meets_end, took_none}
use Rattle.http_wire.specs.declared.fault.WireFault.{WireFault}
use Rattle.http_wire.specs.declared.fault.WireFault.TheVariants as fault
use Rattle.http_wire.proofs.SourceLemmas.{taken_both}
use Rattle.call_types.specs.Feeds.{Gave, GaveFront}
use Rattle.serve_loop.specs.Intakes.{AreLast, feed_of, handed, settled, unread_of, with_waiting}

pub prepend_both : (first second : List ℕ) (left : Option (List ℕ)) → prepend_known first (prepend_known second left) ≡ prepend_known (first ++ second) left
prepend_both first second None = refl
prepend_both first second (Some left) = ap Some (sym (append_assoc first second left))

pub prepend_none : (left : Option (List ℕ)) → left ≡ prepend_known [] left
prepend_none None = refl
prepend_none (Some left) = refl

some_of : (n : ℕ) → (n ≡ 0 → ⊥) → 0 < n
some_of zero never = absurd (never refl)
some_of (suc n) never = omega arith

-- ---- bytes that wait, and the takes that brought them

-- what was handed on is what stands before the bytes that wait
handed_front : (front waits all : List ℕ) → all ≡ front ++ waits → handed waits all ≡ front
handed_front front waits all is =
    let long : length all - length waits ≡ length front = omega (arith, ap length is, length-append front waits) in
    ap (λ n. take n all) long ∙ ap (take (length front)) is ∙ take-append_seam front waits

-- so it is where nothing waits
pub last_none : (waits : List ℕ) (takes : List TakeCall) → waits ≡ [] → AreLast waits takes
last_none waits takes none =
    subst (λ w. AreLast w takes) (sym none)
    (sym (append-nil (handed [] (obtained takes)) ∙ take_all (length (obtained takes) - 0) (obtained takes) (omega arith)))

-- the takes that count answered what was handed on
obtained_settled : (waits : List ℕ) (takes : List TakeCall) → obtained (settled waits takes) ≡ handed waits (obtained takes)
obtained_settled [] takes = sym (take_all (length (obtained takes) - 0) (obtained takes) (omega arith))
obtained_settled (byte ∷ waits) takes = refl

module _ (bytes before waits : List ℕ) (source after : SourceView) (last : AreLast before source.takes) (hands : HandsOn bytes before waits source after) where
  all_after : obtained after.takes ≡ (handed before (obtained source.takes) ++ bytes) ++ waits
  all_after =
      let front = handed before (obtained source.takes) in
      hands.took.takes ∙ ap (λ l. l ++ hands.piece) last ∙ append_assoc front before hands.piece ∙ ap (λ l. front ++ l) hands.are
      ∙ sym (append_assoc front bytes waits)

  -- what waits is still the last of what the takes answered
  pub last_after : AreLast waits after.takes
  last_after =
      all_after
      ∙ ap (λ l. l ++ waits) (sym (handed_front (handed before (obtained source.takes) ++ bytes) waits (obtained after.takes) all_after))

  -- bytes that were handed on were taken, where what waits counts as not taken
  pub taken_on : Taken bytes (with_waiting before source) (with_waiting waits after)
  taken_on = record {
    left = ap (prepend_known before) hands.took.left ∙ prepend_both before hands.piece after.left
        ∙ ap (λ l. prepend_known l after.left) hands.are ∙ sym (prepend_both bytes waits after.left);
    takes = obtained_settled waits after.takes
        ∙ handed_front (handed before (obtained source.takes) ++ bytes) waits (obtained after.takes) all_after
        ∙ ap (λ l. l ++ bytes) (sym (obtained_settled before source.takes));
  }

-- all that waited and came was taken, where nothing counts as waiting any more
pub taken_all : (text before piece : List ℕ) (source after : SourceView) → AreLast before source.takes → text ≡ before ++ piece → Taken piece source after
    → Taken text (with_waiting before source) after
taken_all text before piece source after last are took =
    let all = taken_on text before [] source after last (record { piece = piece; took = took; are = sym are ∙ sym (append-nil text) }) in
    record { left = all.left ∙ ap (prepend_known text) (sym (prepend_none after.left)); takes = all.takes }

-- the source at an end: what waits was taken
pub taken_shut : (bytes waits : List ℕ) (old source : SourceView) → AreLast waits source.takes → Taken bytes old (with_waiting waits source)
    → Taken (bytes ++ waits) old source
taken_shut bytes waits old source last took = record {
  left = took.left ∙ prepend_both bytes waits source.left;
  takes = last ∙ ap (λ l. l ++ waits) (sym (obtained_settled waits source.takes) ∙ took.takes) ∙ append_assoc (obtained old.takes) bytes waits;
}

-- one take that stands for others shows no end
pub shows_none : (bytes : List ℕ) → meets_end 0 (Ok bytes) false ≡ true → ⊥
shows_none [] ended = false≢true ended
shows_none (byte ∷ bytes) ended = false≢true ended

-- so nothing waits where the takes that count show one
pub none_waits : (waits : List ℕ) (takes : List TakeCall) → took_none (settled waits takes) ≡ true → waits ≡ []
none_waits [] takes ended = refl
none_waits (byte ∷ waits) takes ended = absurd (shows_none (handed (byte ∷ waits) (obtained takes)) ended)

-- ---- one take

-- the wire with its refusal lifted
abbrev pub lifted : Wired → Wired
lifted wire = record wire { refused = None }

-- what a wire gives of a body is handed on
pub part_hands : (n : ℕ) (into : List ℕ) (old mid new : Wired) (source from after : SourceView) (faults faults_after : ℕ)
    → mid ≡ lifted old → from ≡ source → GivesPart n into mid new from after faults faults_after
    → HandsOn (take n into) old.waits new.waits source after
part_hands n into old mid new source from after faults faults_after is same part =
    let waits : mid.waits ≡ old.waits = ap (λ w. w.waits) is in
    record {
      piece = part.piece;
      took = subst (λ s. Taken part.piece s after) same part.took;
      are = ap (λ w. w ++ part.piece) (sym waits) ∙ part.joined;
    }

-- where a wire gives none of a body, a source that was at its end still is
part_still : (n : ℕ) (into : List ℕ) (old mid new : Wired) (source from after : SourceView) (faults faults_after : ℕ)
    → mid ≡ lifted old → from ≡ source → GivesPart n into mid new from after faults faults_after → take n into ≡ []
    → took_none (settled old.waits source.takes) ≡ true → took_none (settled new.waits after.takes) ≡ true
part_still n into old mid new source from after faults faults_after is same part none ended =
    let zero_is : n ≡ 0 = omega (arith, length-take n into, ap length none, part.fits) in
    let nothing : part.piece ≡ [] = elim part.asked [ inl empty ↦ empty | inr all ↦ all.1 ∙ none ] in
    let waits : new.waits ≡ old.waits =
    ap (λ l. l ++ new.waits) (sym none) ∙ sym part.joined ∙ ap (λ l. mid.waits ++ l) nothing ∙ append-nil mid.waits ∙ ap (λ (w : Wired). w.waits) is in
    ap (λ (s : SourceView). took_none (settled new.waits s.takes)) (part.still zero_is ∙ same)
    ∙ ap (λ w. took_none (settled w source.takes)) waits ∙ ended

-- what a wire gives of a body is what a feed gives
pub part_gave : (n stated : ℕ) (into : List ℕ) (old mid new : Wired) (source from after : SourceView) (faults faults_after : ℕ)
    → mid ≡ lifted old → from ≡ source → old.body_left ≤ stated → AreLast old.waits source.takes → GivesPart n into mid new from after faults faults_after
    → GaveFront n into (feed_of stated old source) (feed_of stated new after)
part_gave n stated into old mid new source from after faults faults_after is same most last part =
    let body : mid.body_left ≡ old.body_left = ap (λ w. w.body_left) is in
    let now : new.body_left ≡ mid.body_left - n = part.left_now in
    let within : n ≤ mid.body_left = part.within in
    let long : length (take n into) ≡ n = length-take n into ∙ omega (arith, part.fits) in
    let took = taken_on (take n into) old.waits new.waits source after last
    (part_hands n into old mid new source from after faults faults_after is same part) in
    record {
      fits = part.fits;
      within = omega (arith, body, most, within);
      some = λ room some. some_of n (λ none. elim (part.ends none) [ inl empty ↦ omega (arith, empty, room) | inr all ↦ omega (arith, all, body, some, most) ]);
      gave = record {
        stated = refl;
        given = omega (arith, body, now, within, long, most);
        left = took.left;
        taken = ap Some took.takes;
        ended = part_still n into old mid new source from after faults faults_after is same part;
      };
    }

-- what waits is still the last of what the takes answered, whatever a take comes to
pub last_body : (result : Result ℕ WireFault) (into : List ℕ) (old mid new : Wired) (source from after : SourceView) (faults faults_after : ℕ)
    → mid ≡ lifted old → from ≡ source → AreLast old.waits source.takes → GivesBody result into mid new from after faults faults_after
    → AreLast new.waits after.takes
last_body (Ok n) into old mid new source from after faults faults_after is same last gives =
    last_after (take n into) old.waits new.waits source after last (part_hands n into old mid new source from after faults faults_after is same gives)
last_body (Err (fault.BodyCut read all)) into old mid new source from after faults faults_after is same last gives =
    last_none new.waits after.takes gives.0.waits.1
last_body (Err fault.ReadFault) into old mid new source from after faults faults_after is same last gives = last_none new.waits after.takes gives.0.waits.1
last_body (Err fault.BadHead) into old mid new source from after faults faults_after is same last gives = absurd gives
last_body (Err fault.HeadTooLong) into old mid new source from after faults faults_after is same last gives = absurd gives
last_body (Err fault.ChunkedBody) into old mid new source from after faults faults_after is same last gives = absurd gives
last_body (Err fault.NoMemory) into old mid new source from after faults faults_after is same last gives = absurd gives

-- and no more is left of the body than was stated
pub within_body : (result : Result ℕ WireFault) (stated : ℕ) (into : List ℕ) (old mid new : Wired) (from after : SourceView) (faults faults_after : ℕ)
    → mid ≡ lifted old → old.body_left ≤ stated → GivesBody result into mid new from after faults faults_after → new.body_left ≤ stated
within_body (Ok n) stated into old mid new from after faults faults_after is most gives =
    omega (arith, gives.left_now, ap (λ (w : Wired). w.body_left) is, most)
within_body (Err (fault.BodyCut read all)) stated into old mid new from after faults faults_after is most gives =
    omega (arith, gives.0.kept.0, ap (λ (w : Wired). w.body_left) is, most)
within_body (Err fault.ReadFault) stated into old mid new from after faults faults_after is most gives =
    omega (arith, gives.0.kept.0, ap (λ (w : Wired). w.body_left) is, most)
within_body (Err fault.BadHead) stated into old mid new from after faults faults_after is most gives = absurd gives
within_body (Err fault.HeadTooLong) stated into old mid new from after faults faults_after is most gives = absurd gives
within_body (Err fault.ChunkedBody) stated into old mid new from after faults faults_after is most gives = absurd gives
within_body (Err fault.NoMemory) stated into old mid new from after faults faults_after is most gives = absurd gives

-- ---- the rest of a body

-- what a feed over a wire gave was taken
from_some : (a b : List ℕ) → Some a ≡ Some b → a ≡ b
from_some a b is = cc

pub taken_of : (bytes : List ℕ) (stated stated_after : ℕ) (old new : Wired) (source after : SourceView)
    → Gave bytes (feed_of stated old source) (feed_of stated_after new after) → Taken bytes (unread_of old source) (unread_of new after)
taken_of bytes stated stated_after old new source after gave = record { left = gave.left; takes = from_some _ _ gave.taken }

-- some of the rest of a body was passed over
pub record PassedSoFar (old now : Wired) (source after : SourceView) (faults faults_after : ℕ) : Type 0 where
  pub rest : List ℕ
  pub long : length rest + now.body_left ≡ old.body_left
  pub took : Taken rest (unread_of old source) (unread_of now after)
  pub passes : now.refused ≡ None
  pub counted : faults_after ≡ faults

pub passed_more : (n stated stated_after : ℕ) (into : List ℕ) (old now new : Wired) (source mid after : SourceView) (faults faults_mid faults_after : ℕ)
    → now.body_left ≤ stated → new.body_left ≤ stated_after → stated_after ≡ stated → PassedSoFar old now source mid faults faults_mid
    → GaveFront n into (feed_of stated now mid) (feed_of stated_after new after) → faults_after ≡ faults_mid → new.refused ≡ None
    → PassedSoFar old new source after faults faults_after
passed_more n stated stated_after into old now new source mid after faults faults_mid faults_after most most_new same so_far gave counted passes =
    let long : length (take n into) ≡ n = length-take n into ∙ omega (arith, gave.fits) in
    let given = gave.gave.given in
    record {
      rest = so_far.rest ++ take n into;
      long = omega (arith, long, given, most, most_new, same, so_far.long, gave.within, length-append so_far.rest (take n into));
      took = taken_both so_far.rest (take n into) (unread_of old source) (unread_of now mid) (unread_of new after) so_far.took
          (taken_of (take n into) stated stated_after now new mid after gave.gave);
      passes = passes;
      counted = counted ∙ so_far.counted;
    }
