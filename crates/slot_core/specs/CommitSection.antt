-- What a commit leaves and tells once its put is off the list.
use Rattle.std.specs.Prelude.{◌≡◌, ◌⊎◌, ℕ, Bool, List, Some, None, Err}
use Rattle.drive_base.specs.Files.{Files}
use Rattle.stamp_id.specs.declared.version.VersionId.{VersionId}
use Rattle.slot_history.specs.Standing.{Flying}
use Rattle.slot_data.specs.Holding.{Holding}
use Rattle.slot_rules.specs.declared.commit.Commit.{Commit}
use Rattle.slot_rules.specs.declared.commit.Committed.{Committed}
use Rattle.slot_rules.specs.declared.site.Ask.{Ask}
use Rattle.slot_rules.specs.declared.site.Drawn.{Drawn}
use Rattle.slot_rules.specs.declared.site.Site.{Site}
use Rattle.slot_core.specs.AuditEntry.{kept_entry}
use Rattle.slot_core.specs.CommitOpening.{IsUnreserved}
use Rattle.slot_core.specs.CommitOutcome.{FitsPut, Lands, kept_with}
use Rattle.slot_core.specs.Commits.{MayCommitData, ShowsTrash}
use Rattle.slot_core.specs.Settlement.{numbers_at}
use Rattle.slot_core.specs.Stubs.{entry_of}
use Rattle.slot_core.specs.Turns.{Leaves}
use Rattle.slot_core.specs.declared.audit_entry.ReserveFault.{ReserveFault}
use Rattle.slot_core.specs.declared.slot.SlotFault.TheVariants.{NotInFlight}
use Rattle.slot_core.specs.declared.stub.Turn.{Turn}

-- the turn of a commit whose put isn't in flight: its audit had no room, or it is refused so, and its entry says that nothing was done
abbrev pub IsMissed : Site → List ℕ → VersionId → Turn Committed → Type 0
IsMissed site name id turn = ((why : ReserveFault) × IsUnreserved site why turn)
    ⊎ ((turn.answer ≡ Err (NotInFlight id)) × (entry_of turn.stub ≡ Some (kept_entry site.turns name None)))

module _ {D : Type 0} (tells : D → Bool) (files : D → Files) where
  -- what a commit leaves, whatever its slot holds beside the put that it ends
  abbrev pub LandedLeaves : Ask → Drawn → Drawn → Commit → Turn Committed → List VersionId → List VersionId → List D → List D → Type 0
  LandedLeaves ask drawn later deed turn trash_old trash_new old new = (holding : Holding) (rest : List Flying)
      → Lands ask.put holding.flights rest → FitsPut deed ask.put → holding.trash ≡ trash_old
      → Leaves tells files (numbers_at ask.site drawn) (numbers_at ask.site later) holding (kept_with holding rest trash_new) old new turn.stub
      (ShowsTrash deed turn.answer trash_old trash_new) (MayCommitData deed (kept_with holding rest trash_new))
