-- What holds of each drive after one of them was called.
use Rattle.std.proofs.Common.{◌≡◌, ℕ, ◌<◌, ◌∙◌, List, Some, None, ap, length, slice_index_or, set, subst}
use Rattle.std.specs.Prelude.{Result, Ok, Err}
use Rattle.std.proofs.lemmas.List.{length-set}
use Rattle.call_types.specs.declared.why.Why.{Why}
use Rattle.call_types.specs.declared.why.Why.TheVariants.{Good}
use Rattle.drive_base.specs.declared.drive.Drive.{Ghosts}
use Rattle.drive_base.specs.View.{AllOnlyRead, DriveView, OnlyRead, view, views}
use Rattle.drive_base.proofs.ViewLemmas.{at_each_view}
use Rattle.file_access.specs.declared.fault.FetchFault.{FetchFault}
use Rattle.file_access.specs.declared.fault.FetchFault.TheVariants.{Because}
use Rattle.file_access.proofs.EachLemmas.{set_each}
use Rattle.term_gate.specs.Reading.{DriveIsRead, ReadsDrive}
use Rattle.term_gate.specs.declared.record.Format.{Format as DriveFormat}

-- each drive was only read, and one drive more
pub only_more : (D : Type 0) (ghosts : Ghosts D) (old now : List D) (i : ℕ) (was x : D) → length now ≡ length old → i < length now
    → ((d : D) → was ≡ slice_index_or old i d) → OnlyRead (view ghosts was) (view ghosts x)
    → ((k : ℕ) (d : D) → OnlyRead (view ghosts (slice_index_or old k d)) (view ghosts (slice_index_or now k d)))
    → AllOnlyRead (views ghosts old) (views ghosts (set now i x))
only_more D ghosts old now i was x long low is one others =
    at_each_view ghosts (λ k. OnlyRead) old (set now i x) (length-set now i x ∙ long)
    (λ k d below. set_each D (λ (j : ℕ) (a b : D). OnlyRead (view ghosts a) (view ghosts b)) old now i x low
    (λ e. subst (λ (a : D). OnlyRead (view ghosts a) (view ghosts x)) (is e) one) others k d)

-- a drive whose format was read
pub read_ok : (result : Result DriveFormat FetchFault) (f : DriveFormat) (old new : DriveView) → result ≡ Ok f → ReadsDrive result old new
    → DriveIsRead (Some f) Good old new
read_ok result f old new is reads = subst (λ (r : Result DriveFormat FetchFault). ReadsDrive r old new) is reads

-- a drive of which no format was read
pub read_err : (result : Result DriveFormat FetchFault) (fault : FetchFault) (why : Why) (old new : DriveView) → result ≡ Err fault → fault ≡ Because why
    → ReadsDrive result old new → DriveIsRead None why old new
read_err result fault why old new is because reads =
    subst (λ (r : Result DriveFormat FetchFault). ReadsDrive r old new) (is ∙ ap (λ (f : FetchFault). Err f) because) reads
