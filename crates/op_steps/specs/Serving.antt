-- Lanes and data drives that serve, and the section that they don't refuse where they are enough.
use Rattle.std.specs.Prelude.{◌≡◌, ◌≢◌, ◌⊎◌, ℕ, ◌+◌, ◌<◌, ◌≤◌, IsTrue, List, length, Option, MatchOption}
use Rattle.std.specs.Int.{IsBitSet}
use Rattle.audit_trail.specs.declared.entry.Entry.{Entry}
use Rattle.body_print.specs.Names.{manifest_name}
use Rattle.call_types.specs.declared.why.FileKind.TheVariants.{Register}
use Rattle.call_types.specs.declared.why.Why.{Why}
use Rattle.call_types.specs.declared.why.Why.TheVariants.{Lacks}
use Rattle.drive_base.specs.DriveSet.{count_in}
use Rattle.drive_base.specs.Plan.{data_drives, write_drives}
use Rattle.drive_base.specs.View.{DriveView, view_at, views}
use Rattle.drive_base.specs.declared.drive.Drive.{Ghosts}
use Rattle.drive_base.specs.declared.plan.SetPlan.{SetPlan}
use Rattle.fault_base.specs.Counts.{Rose}
use Rattle.stamp_id.specs.declared.version.VersionId.{VersionId}
use Rattle.vote_core.specs.Lane.{lane_at}
use Rattle.register_core.specs.LaneWrites.{letter_at}
use Rattle.register_core.specs.declared.faults.QuorumFault.{QuorumFault}
use Rattle.register_core.specs.declared.faults.QuorumFault.TheVariants.{NoMemory, ReadQuorum, Undecided, WriteQuorum}
use Rattle.slot_history.specs.Standing.{Records}
use Rattle.slot_history.specs.State.{IsHeld, State}
use Rattle.slot_data.specs.Disks.{Disks}
use Rattle.slot_rules.specs.Rules.{IsRegisterName}
use Rattle.slot_core.specs.Calm.{IsCalmUnder, OnlyLooked}
use Rattle.slot_core.specs.Views.{quorum_of}
use Rattle.slot_core.specs.declared.slot.SlotFault.TheVariants.{Quorum}
use Rattle.receipts.specs.Events.{Note}
use Rattle.op_steps.specs.Claims.{Claim, DataHolds}
use Rattle.op_steps.specs.Notes.{refusal_by}
use Rattle.op_steps.specs.Store.{LanesStand, SlotSeen}

-- a drive serves in a section: it is in use, its count of faults doesn't rise, and it shows what it keeps under certain names
pub record DriveServes (IsName : List ℕ → Type 0) (out k : ℕ) (old new : DriveView) : Type 0 where
  pub in_use : IsBitSet out k → ⊥
  pub calm : Rose old.count new.count → ⊥
  pub shows : (name : List ℕ) → IsName name → old.files.shown name ≡ old.files.kept name

-- so does each drive of a set
abbrev pub DrivesServe : (List ℕ → Type 0) → ℕ → ℕ → List DriveView → List DriveView → Type 0
DrivesServe IsName out serving old new = (k : ℕ) → k < length old → IsBitSet serving k → DriveServes IsName out k (view_at old k) (view_at new k)

-- a name is that of an entry's register
abbrev pub IsNameOf : Option Entry → List ℕ → Type 0
IsNameOf entry name = MatchOption entry ⊥ (λ made. name ≡ made.name)

-- a name is that of a manifest
abbrev pub IsManifestName : List ℕ → Type 0
IsManifestName name = (id : VersionId) × (name ≡ manifest_name id)

-- the name of an entry's register is held, and the change of the value there is the base of some lane of a set
abbrev pub IsMarkedOn : ℕ → Records → State → Option Entry → Type 0
IsMarkedOn lanes records state entry = MatchOption entry ⊥ (λ made. IsHeld state.registers made.name × ((k : ℕ) × (k < length (records made.name)) × IsBitSet lanes k
    × ((lane_at (records made.name) k).base.change ≡ (state.registers made.name).change)))

-- an entry says that a section only looked at this name's register
abbrev pub HasLooked : Option Entry → List ℕ → Type 0
HasLooked entry name = MatchOption entry ⊥ (λ told. (told.name ≡ name) × OnlyLooked told.deed)

module _ {D : Type 0} (ghosts : Ghosts D) where
  -- no lane of a set had forgotten what was just written to it, by the letters of a write; drives of a type of which each tells never do
  abbrev pub NoneForgot : ℕ → List Why → Type 0
  NoneForgot lanes whys = ((d : D) → IsTrue (ghosts.tells d)) ⊎ ((k : ℕ) → IsBitSet lanes k → letter_at whys k ≢ Lacks Register)

  -- lanes and data drives of these sets are enough against a fault of a quorum. A read takes as many lanes as a stripe has data blocks. A write takes as many
  -- as must take it. To complete a change that adds data takes a lane with the value (`marked`), and all data drives but those that a write of the data may
  -- have missed beyond its data blocks: none of them, or one where half the drives are parity
  abbrev pub AreEnough : SetPlan → ℕ → ℕ → Type 0 → QuorumFault → Type 0
  AreEnough set lanes disks marked (ReadQuorum whys) = data_drives set.drives set.parity ≤ count_in lanes set.drives
  AreEnough set lanes disks marked (WriteQuorum whys) = (write_drives set.drives set.parity ≤ count_in lanes set.drives) × NoneForgot lanes whys
  AreEnough set lanes disks marked (Undecided k u whys) = marked
      × (set.drives + data_drives set.drives set.parity ≤ count_in disks set.drives + write_drives set.drives set.parity)
  AreEnough set lanes disks marked NoMemory = ⊥

  -- a section of a slot whose lanes stand isn't refused for a fault of a quorum
  pub record SectionComplete (note : Note) (was now : SlotSeen D) (claim : Claim) (old new : List DriveView) : Type 0 where
    -- against which enough lanes and data drives serve, where the slot's data holds
    pub enough : (records : Records) (state : State) (unseen : Disks) (claims : List Claim) (lanes disks : ℕ) (fault : QuorumFault)
        → LanesStand ghosts.tells ghosts.files was records state → DataHolds was.numbers was.holding unseen old claims records state
        → DrivesServe (IsNameOf note.entry) was.numbers.set.out lanes (views ghosts was.lanes) (views ghosts now.lanes)
        → DrivesServe IsManifestName was.numbers.set.out disks old new
        → AreEnough was.numbers.set lanes disks (IsMarkedOn lanes records state note.entry) fault → note.refusal ≡ refusal_by (Quorum fault) → ⊥
    -- that only looked at a calm register, of which as many lanes serve as a stripe has data blocks
    pub calm : (records : Records) (state : State) (name : List ℕ) (lanes : ℕ) (fault : QuorumFault)
        → LanesStand ghosts.tells ghosts.files was records state → IsRegisterName name → IsCalmUnder (quorum_of was.numbers) records state name
        → HasLooked note.entry name
        → DrivesServe (IsNameOf note.entry) was.numbers.set.out lanes (views ghosts was.lanes) (views ghosts now.lanes)
        → data_drives was.numbers.set.drives was.numbers.set.parity ≤ count_in lanes was.numbers.set.drives
        → fault ≢ NoMemory → note.refusal ≡ refusal_by (Quorum fault) → ⊥

  -- so no section is that has a note
  abbrev pub TurnComplete : Option Note → SlotSeen D → SlotSeen D → Claim → List DriveView → List DriveView → Type 0
  TurnComplete note was now claim old new = MatchOption note (Unit {0}) (λ made. SectionComplete made was now claim old new)
