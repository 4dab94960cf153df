-- One call of one drive, and of one drive of a list.
use Rattle.std.proofs.Common.{◌≡◌, ◌∙◌, ℕ, ◌<◌, List, [], ◌∷◌, length, slice_index_or, slice_set, ap, refl, subst, sym, inl, inr, arith}
use Rattle.std.specs.Int.{IsBitSet}
use Rattle.field_reader.specs.Spelling.{IsBytes}
use Rattle.std.proofs.lemmas.Bool.{cases_eq}
use Rattle.std.proofs.lemmas.List.{get_or-set_other, get_or-set_same, get_or_default, length-set, set-get_or}
use Rattle.drive_base.proofs.ViewLemmas.{at_each_view, length-views, none_since, view_at-views}
use Rattle.drive_base.specs.Calls.{Seen, Showed, WasMade}
use Rattle.drive_base.specs.View.{AllOnlyRead, DriveView, OnlyRead, view, views, view_at}
use Rattle.drive_base.specs.declared.drive.Drive.{Ghosts}
use Rattle.file_access.proofs.SightLemmas.{calls_tell_what_was_so}
use Rattle.get_read.specs.Account.{WasSeen}
use Rattle.get_read.specs.Readers.{AreCalls}

-- what is only read is so, told otherwise
untouched : (drive : DriveView) → OnlyRead drive drive
untouched drive = record { goes_on = record { tells = refl; count = omega arith }; files = λ told. refl; trail = none_since drive.trail }

-- what was shown is bytes
pub shown_bytes : (name : List ℕ) (at : ℕ) (bytes : List ℕ) (old new : DriveView) → WasSeen (Showed name at bytes) old new → IsBytes bytes
shown_bytes name at bytes old new seen = (calls_tell_what_was_so seen.made (Showed name at bytes) old new seen.was seen.tells).1

module _ {D : Type 0} (ghosts : Ghosts D) where
  -- the call is one of the drives' calls
  pub called_once : (out k : ℕ) (seen : Seen) (drives : List D) (e now : D) → k < length drives → (IsBitSet out k → ⊥)
      → (seen_so : WasSeen seen (view ghosts (slice_index_or drives k e)) (view ghosts now))
      → AreCalls ghosts out (record { drive = k; made = seen_so.made } ∷ []) drives (slice_set drives k now)
  called_once out k seen drives e now low in_use seen_so =
      let was = view ghosts (slice_index_or drives k e) in
      let before : view_at (views ghosts drives) k ≡ was = view_at-views ghosts drives k e low in
      let after : view_at (views ghosts (slice_set drives k now)) k ≡ view ghosts now =
      view_at-views ghosts (slice_set drives k now) k e (omega (arith, length-set drives k now)) ∙ ap (view ghosts) (get_or-set_same drives k now e low) in (
        record {
          within = omega (arith, length-views ghosts drives);
          in_use = in_use;
          was = subst (λ (v : DriveView). WasMade seen_so.made v (view_at (views ghosts (slice_set drives k now)) k)) (sym before)
              (subst (λ (v : DriveView). WasMade seen_so.made was v) (sym after) seen_so.was);
          reading = seen_so.reading;
        },
        λ other d apart. get_or-set_other drives k other now d apart,
      )

  -- without a call they are as before
  pub none_called : (drives : List D) (k : ℕ) (e now : D) → now ≡ slice_index_or drives k e → slice_set drives k now ≡ drives
  none_called drives k e now same = ap (slice_set drives k) same ∙ set-get_or drives k e

  -- and all drives were only read, where that one was
  pub only_read_at : (k : ℕ) (drives : List D) (e now : D) → k < length drives → OnlyRead (view ghosts (slice_index_or drives k e)) (view ghosts now)
      → AllOnlyRead (views ghosts drives) (views ghosts (slice_set drives k now))
  only_read_at k drives e now low read = at_each_view ghosts (λ _. OnlyRead) drives (slice_set drives k now) (length-set drives k now)
      (λ j d inside. elim (cases_eq j k) [
        | inl same ↦
            subst (λ (v : DriveView). OnlyRead v (view ghosts (slice_index_or (slice_set drives k now) j d)))
            (ap (view ghosts) (sym (ap (λ (i : ℕ). slice_index_or drives i d) same ∙ get_or_default drives k d e low)))
            (subst (λ (v : DriveView). OnlyRead (view ghosts (slice_index_or drives k e)) v)
            (ap (view ghosts) (sym (ap (λ (i : ℕ). slice_index_or (slice_set drives k now) i d) same ∙ get_or-set_same drives k now d low))) read)
        | inr apart ↦
            subst (λ (v : DriveView). OnlyRead (view ghosts (slice_index_or drives j d)) v)
            (ap (view ghosts) (sym (get_or-set_other drives k j now d apart))) (untouched (view ghosts (slice_index_or drives j d)))
      ])
