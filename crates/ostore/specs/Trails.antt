-- The calls that were made of data drives are those in the logs of the calls that were served.
use Rattle.std.specs.Prelude.{◌≡◌, ℕ, List, []}
use Rattle.drive_base.specs.declared.drive.Drive.{Ghosts}
use Rattle.receipts.specs.Events.{Log}
use Rattle.log_laws.specs.Calling.{joined}
use Rattle.op_steps.specs.Trails.{LeadsTrail}
use Rattle.store_shared.specs.Trails.{trail_at}

module _ {D : Type 0} (ghosts : Ghosts D) where
  -- of each drive the calls in these logs, one log behind another, and what their sections read, were made between the one moment and the other, in this
  -- order and with these answers, and no others
  abbrev pub LogsLeadTrails : List Log → List D → List D → Type 0
  LogsLeadTrails logs old new = (k : ℕ) → LeadsTrail k (joined logs) (trail_at ghosts old k) (trail_at ghosts new k)

  -- no call was made yet of any of these
  abbrev pub AreUncalled : List D → Type 0
  AreUncalled drives = (k : ℕ) → trail_at ghosts drives k ≡ []
