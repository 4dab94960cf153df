-- What a reading leaves of its drive, and what two do.
use Rattle.std.proofs.Common.{◌≡◌, ◌≤◌, ◌<◌, ℕ, zero, suc, IsTrue, [], ◌∷◌, arith, refl}
use Rattle.drive_base.specs.Trail.{DriveCall, IsReading}
use Rattle.drive_base.specs.View.{AllOnlyRead, DriveView, OnlyRead, view, view_at}
use Rattle.drive_base.specs.declared.drive.Drive.{Ghosts}
use Rattle.drive_base.proofs.ViewLemmas.{two_calls_only_read}

pub read_by : {D : Type 0} (ghosts : Ghosts D) (old new : D) (call : DriveCall) → IsReading call → ghosts.trail new ≡ call ∷ ghosts.trail old
    → ghosts.tells new ≡ ghosts.tells old → ghosts.count old ≤ ghosts.count new → (IsTrue (ghosts.tells old) → ghosts.files new ≡ ghosts.files old)
    → OnlyRead (view ghosts old) (view ghosts new)
read_by ghosts old new call reads trail tells count files = record {
  goes_on = record { tells = tells; count = count };
  files = files;
  trail = record { more = call ∷ []; readings = (reads, tt); grown = trail };
}

pub read_twice : (old mid new : DriveView) → OnlyRead old mid → OnlyRead mid new → OnlyRead old new
read_twice old mid new one two =
    let both : AllOnlyRead (old ∷ []) (new ∷ []) = two_calls_only_read (old ∷ []) (mid ∷ []) (new ∷ [])
    (record { long = refl; each = λ k lt. at_place k old mid one lt }) (record { long = refl; each = λ k lt. at_place k mid new two lt }) in
    both.each 0 (omega arith)
  where
    at_place : (k : ℕ) (a b : DriveView) → OnlyRead a b → k < 1 → OnlyRead (view_at (a ∷ []) k) (view_at (b ∷ []) k)
    at_place zero a b is lt = is
    at_place (suc k) a b is lt = absurd (omega (arith, lt))
