-- Why a section was refused: by the numbers of its slot, by what this keeps in memory, and by the calls of its drives, whatever these tell.
use Rattle.std.specs.Prelude.{◌≡◌, ◌≢◌, ◌⊎◌, ℕ, ◌+◌, ◌<◌, ◌≤◌, Bool, true, false, IsTrue, List, [], length, count_by, slice_index_or, Option, Some, None, MatchOption}
use Rattle.std.specs.Int.{IsBitSet}
use Rattle.audit_trail.specs.declared.entry.Deed.TheVariants.{Done, Kept}
use Rattle.audit_trail.specs.declared.entry.Entry.{Entry}
use Rattle.body_print.specs.Names.{manifest_name}
use Rattle.body_print.specs.Plans.{data_plan}
use Rattle.call_types.specs.Good.{good_count}
use Rattle.call_types.specs.declared.act.Brief.{Brief}
use Rattle.call_types.specs.declared.act.Brief.TheVariants.{Answer}
use Rattle.call_types.specs.declared.refusal.Refusal.{Refusal}
use Rattle.call_types.specs.declared.refusal.Refusal.TheVariants as refusal
use Rattle.call_types.specs.declared.reply.Reply.TheVariants.{Refused}
use Rattle.call_types.specs.declared.why.FileKind.TheVariants.{Manifest as ManifestKind, Register}
use Rattle.call_types.specs.declared.why.Why.{Why}
use Rattle.drive_base.specs.Plan.{data_drives}
use Rattle.drive_base.specs.View.{DriveView, view, view_at}
use Rattle.drive_base.specs.declared.drive.Drive.{Ghosts}
use Rattle.drive_base.specs.declared.plan.SetPlan.{SetPlan}
use Rattle.fault_base.specs.Counts.{Rose}
use Rattle.manifest_file.specs.Spelling.{file_of as manifest_of}
use Rattle.manifest_file.specs.declared.manifest.Manifest.{Manifest}
use Rattle.register_file.specs.Lengths.{longest_file}
use Rattle.register_file.specs.Record.{IsCanonical}
use Rattle.register_file.specs.declared.record.Adds.{Adds}
use Rattle.register_file.specs.declared.record.Next.{Next}
use Rattle.register_file.specs.declared.record.RegFile.{RegFile}
use Rattle.register_core.specs.Found.{HasContent}
use Rattle.register_core.specs.LaneWrites.{letter_at}
use Rattle.register_core.specs.Manifests.{Verifies}
use Rattle.register_core.specs.Records.{ShowsFile}
use Rattle.stamp_id.specs.Rank.{change_of}
use Rattle.stamp_id.specs.declared.version.VersionId.{VersionId}
use Rattle.slot_history.specs.Contents.{IsContentOf, NamesId}
use Rattle.slot_history.specs.Standing.{Flying}
use Rattle.slot_data.specs.Holding.{IsInFlight}
use Rattle.slot_rules.specs.Rules.{IsRegisterName, longest_for}
use Rattle.slot_core.specs.Numbers.{AreSpent}
use Rattle.slot_core.specs.Views.{SlotNumbers, quorum_of}
use Rattle.receipts.specs.Events.{Note}
use Rattle.op_steps.specs.Claims.{Claim}
use Rattle.op_steps.specs.DriveLetters.{Complaints, DriveLetter}
use Rattle.op_steps.specs.Store.{SlotSeen}

-- the put that a section ends is the claim's own, if it ends one
abbrev pub IsPutOf : Claim → Option VersionId → Type 0
IsPutOf claim None = Unit {0}
IsPutOf claim (Some id) = (f : Flying) × (claim.flight ≡ Some f) × (f.id ≡ id)

-- an entry was written, which says that nothing of the section's own was done
abbrev pub SaysIdle : Option Entry → Type 0
SaysIdle entry = MatchOption entry ⊥ (λ made. made.deed ≡ Kept)

-- an entry was written, which says that a call was answered this refusal by the state of its key
abbrev pub SaysRefused : Refusal → Option Entry → Type 0
SaysRefused why entry = MatchOption entry ⊥ (λ made. (call : Brief) × (made.deed ≡ Done call (Answer (Refused why))))

-- a section that wrote this entry looked at a register of this name: that of the entry, or another one
abbrev pub IsLookedAt : Entry → List ℕ → Type 0
IsLookedAt made name = (made.name ≡ name) ⊎ IsRegisterName name

-- an id that a change of the section may have: with the change of the claim's put, or with one that the slot draws next
pub record IsNextId (numbers : SlotNumbers) (claim : Claim) (id : VersionId) : Type 0 where
  pub slot : id.slot ≡ numbers.index
  pub change : ((f : Flying) × (claim.flight ≡ Some f) × (id.change ≡ f.id.change)) ⊎ ((id.change.0.term ≡ numbers.term) × (numbers.seq < id.change.0.seq))

-- a content breaks the rule of a register's contents: it is none of a register of this name, or it names such an id
abbrev pub BreaksRule : SlotNumbers → Claim → List ℕ → List ℕ → Type 0
BreaksRule numbers claim name content = (content ≡ []) ⊎ IsContentOf name content
    → (id : VersionId) × IsNextId numbers claim id × NamesId name content id

-- what is shown under a register's name is no file of a register, or one with a content that breaks the rule
abbrev pub IsBadFile : SlotNumbers → Claim → List ℕ → Option (List ℕ) → Type 0
IsBadFile numbers claim name shown =
    ((file : RegFile) → IsCanonical file → ShowsFile (longest_file (longest_for name)) shown file → ⊥)
    ⊎ ((file : RegFile) × (content : List ℕ) × ShowsFile (longest_file (longest_for name)) shown file × HasContent file content × BreaksRule numbers claim name content)

-- a data drive may be of no use: its manifest of this data doesn't verify, or it has none
abbrev pub of_manifests : SetPlan → Adds → Complaints
of_manifests set adds = record {
  is_bad = λ files. (file : List ℕ) × (files.shown (manifest_name adds.id) ≡ Some file) × ((m : Manifest) → Verifies set adds.print m → file ≢ manifest_of m);
  is_lacking = λ kind drive. (kind ≡ ManifestKind) × (IsTrue drive.tells → drive.files.shown (manifest_name adds.id) ≡ None);
}

-- a file has a change in its base or on its way
abbrev pub Carries : ℕ → RegFile → Type 0
Carries change file = (change_of file.base.change ≡ change) ⊎ ((next : Next) × (file.next ≡ Some next) × (change_of next.change ≡ change))

module _ {D : Type 0} (ghosts : Ghosts D) where
  -- a lane may be: its file is bad, or it forgot the file that was just written to it, where some drive of the type tells nothing
  abbrev pub of_lanes : SlotNumbers → Claim → List ℕ → Complaints
  of_lanes numbers claim name = record {
    is_bad = λ files. IsBadFile numbers claim name (files.shown name);
    is_lacking = λ kind drive. (kind ≡ Register) × (((d : D) → IsTrue (ghosts.tells d)) → ⊥);
  }

  -- the index of a lane of a slot, before a section and after it
  abbrev pub IsLaneOf : SlotSeen D → SlotSeen D → ℕ → Type 0
  IsLaneOf was now k = (k < was.numbers.set.drives) × (k < length was.lanes) × (k < length now.lanes)

  -- a section that wrote this entry looked at a register, where each lane has this letter
  pub record LanesTell (was now : SlotSeen D) (claim : Claim) (made : Entry) (whys : List Why) : Type 0 where
    pub name : List ℕ
    pub looked_at : IsLookedAt made name
    pub each : (k : ℕ) (d : D) → IsLaneOf was now k
        → DriveLetter (of_lanes was.numbers claim name) was.numbers.set.out k (letter_at whys k) (view ghosts (slice_index_or was.lanes k d)) (view ghosts (slice_index_or now.lanes k d))

  -- a lane that was read shows a file under a register's name, if it tells, of which this holds
  pub record LaneShows (was : SlotSeen D) (name : List ℕ) (lane : ℕ) (Holds : RegFile → Type 0) : Type 0 where
    pub within : lane < length was.lanes
    pub in_use : IsBitSet was.numbers.set.out lane → ⊥
    pub file : RegFile
    pub holds : Holds file
    pub shown : (d : D) → IsTrue (ghosts.tells (slice_index_or was.lanes lane d))
        → ShowsFile (longest_file (longest_for name)) ((ghosts.files (slice_index_or was.lanes lane d)).shown name) file

  -- fewer lanes than a read needs were good, or one shows a content that breaks the rule
  pub record LooksTooFew (was now : SlotSeen D) (claim : Claim) (made : Entry) (whys : List Why) : Type 0 where
    pub lanes : LanesTell was now claim made whys
    pub why : (good_count whys < data_drives was.numbers.set.drives was.numbers.set.parity)
        ⊎ ((lane : ℕ) × (content : List ℕ) × LaneShows was lanes.name lane (λ file. HasContent file content) × BreaksRule was.numbers claim lanes.name content)

  -- a change that adds data is on its way on a lane, k lanes carry it and u were not read, so that as many may as must take a write; and of its data fewer
  -- drives have a manifest than a stripe has data blocks, with these letters
  pub record DataIsMissing (was now : SlotSeen D) (claim : Claim) (made : Entry) (k u : ℕ) (whys : List Why) (old new : List DriveView) : Type 0 where
    pub lane_whys : List Why
    pub lanes : LanesTell was now claim made lane_whys
    pub next : Next
    pub begun : (lane : ℕ) × LaneShows was lanes.name lane (λ file. file.next ≡ Some next)
    pub carriers : List Bool
    pub carry : (lane : ℕ) → lane < length was.lanes → slice_index_or carriers lane false ≡ true → LaneShows was lanes.name lane (Carries (change_of next.change))
    pub carry_is : (length carriers ≡ length was.lanes) × (k ≡ count_by (λ has. has) carriers)
    pub unread_is : u + good_count lane_whys ≡ length was.lanes
    pub may_have : quorum_of was.numbers ≤ k + u
    pub adds : Adds
    pub adds_is : next.adds ≡ Some adds
    pub each : (drive : ℕ) → drive < length old
        → DriveLetter (of_manifests was.numbers.set adds) was.numbers.set.out drive (letter_at whys drive) (view_at old drive) (view_at new drive)
    pub few : good_count whys < data_drives (data_plan was.numbers.set adds.id).drives (data_plan was.numbers.set adds.id).parity

  -- why, by the refusal: fewer lanes than a read or a write needs were good, with their letters; the data of a change on its way is missing; the slot's numbers
  -- are spent, or its audit failed, and no entry was written; the claim's own put isn't listed; and a refusal by the state of a key is what the entry says
  abbrev pub RefusalCause : Refusal → Option Entry → SlotSeen D → SlotSeen D → Claim → List DriveView → List DriveView → Type 0
  RefusalCause (refusal.ReadQuorum whys) entry was now claim disks_old disks_new = MatchOption entry ⊥
      (λ made. LooksTooFew was now claim made whys)
  RefusalCause (refusal.WriteQuorum whys) entry was now claim disks_old disks_new = MatchOption entry ⊥
      (λ made. LanesTell was now claim made whys × (good_count whys < quorum_of was.numbers))
  RefusalCause (refusal.Undecided k u whys) entry was now claim disks_old disks_new = MatchOption entry ⊥
      (λ made. DataIsMissing was now claim made k u whys disks_old disks_new)
  RefusalCause refusal.SeqSpent entry was now claim disks_old disks_new = (entry ≡ None) × AreSpent was.numbers
  RefusalCause (refusal.AuditFailed before after) entry was now claim disks_old disks_new =
      (entry ≡ None) × (before ≡ was.faults) × (after ≡ now.faults) × Rose was.faults now.faults
  RefusalCause (refusal.NotInFlight id) entry was now claim disks_old disks_new =
      SaysIdle entry × IsPutOf claim (Some id) × (IsInFlight was.holding.flights id → ⊥)
  RefusalCause other entry was now claim disks_old disks_new = SaysRefused other entry

  -- a section that was refused has its cause
  abbrev pub TurnCause : Option Note → SlotSeen D → SlotSeen D → Claim → List DriveView → List DriveView → Type 0
  TurnCause note was now claim disks_old disks_new = MatchOption note (Unit {0})
      (λ noted. MatchOption noted.refusal (Unit {0}) (λ why. RefusalCause why noted.entry was now claim disks_old disks_new))
