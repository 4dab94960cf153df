-- Both writes of a change and the look before them: what each call answered, and what it left of the drives, whatever these tell.
use Rattle.std.specs.Prelude.{◌≡◌, ◌⊎◌, ◌<◌, ℕ, List, length, slice_index_or, Option, Some, Result, Ok, Err, string_bytes}
use Rattle.std.specs.Result.{IfOk}
use Rattle.call_types.specs.declared.why.Why.{Why}
use Rattle.call_types.specs.declared.why.Why.TheVariants.{Good}
use Rattle.drive_base.specs.declared.drive.Drive.{Ghosts}
use Rattle.drive_base.specs.View.{AllGoOn, AllOnlyRead, views}
use Rattle.drive_base.specs.declared.plan.SetPlan.{SetPlan}
use Rattle.register_core.specs.Looks.{Looks}
use Rattle.register_core.specs.LaneWrites.{letter_at}
use Rattle.register_core.specs.OnLanes.{AllTell, AreUnused}
use Rattle.register_core.specs.Proposals.{Marks, Proposes}
use Rattle.register_core.specs.declared.drafts.Draft.{Draft}
use Rattle.register_core.specs.declared.faults.QuorumFault.{QuorumFault}
use Rattle.register_core.specs.declared.proposals.Prepared.{Prepared}

module _ {D : Type 0} (ghosts : Ghosts D) where
  -- each lane whose letter is good keeps these bytes under a name
  abbrev pub GoodKeep : List ℕ → List ℕ → List Why → List D → Type 0
  GoodKeep name bytes whys lanes = (k : ℕ) (d : D) → k < length lanes → letter_at whys k ≡ Good
      → (ghosts.files (slice_index_or lanes k d)).kept name ≡ Some bytes

  -- enough lanes took the first file of a draft, and the mark after it answered. Each lane goes on; and where those in use tell and later loose names
  -- are unused, these are so after it too, and where it succeeded each lane whose letter is good keeps the last file
  pub record MarksTaken (draft : Draft) (out term from to : ℕ) (result : Result (List Why) QuorumFault) (old new : List D) : Type 0 where
    pub took : Prepared
    pub middle : ℕ
    pub mid : List D
    pub later : Draft
    pub proposes : Proposes ghosts draft out term from middle (Ok took) old mid
    pub marks : Marks ghosts draft took term middle to result later mid new
    pub long : length old ≡ draft.set.drives
    pub lanes_mid : AllGoOn (views ghosts old) (views ghosts mid)
    pub lanes_new : AllGoOn (views ghosts mid) (views ghosts new)
    pub unused : AllTell ghosts.tells out old → AreUnused ghosts.files out term from old → AreUnused ghosts.files out term to new
    pub keep : AllTell ghosts.tells out old → AreUnused ghosts.files out term from old
        → IfOk result (λ whys. GoodKeep (string_bytes draft.name) draft.last.items whys new)

  -- what both writes of a draft answer: where they are refused, the proposal was or the mark
  abbrev pub WritesBoth : Draft → ℕ → ℕ → ℕ → ℕ → Result (List Why) QuorumFault → List D → List D → Type 0
  WritesBoth draft out term from to (Ok whys) old new = MarksTaken draft out term from to (Ok whys) old new
  WritesBoth draft out term from to (Err fault) old new = Proposes ghosts draft out term from to (Err fault) old new
      ⊎ MarksTaken draft out term from to (Err fault) old new

  -- the look was refused, and nothing was written
  pub record LookIsRefused (set : SetPlan) (out : ℕ) (name : List ℕ) (rule : List ℕ → Option ℕ) (longest from to : ℕ)
      (fault : QuorumFault) (old new disks disks_after : List D) : Type 0 where
    pub looks : Looks ghosts set out name rule longest (Err fault) old new disks disks_after
    pub none_used : to ≡ from
    pub lanes_read : AllOnlyRead (views ghosts old) (views ghosts new)
