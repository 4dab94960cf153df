-- Data drives that serve a read of a body, and that it isn't refused or cut for want of manifests or blocks where they are enough.
use Rattle.std.specs.Prelude.{◌≡◌, ◌≢◌, ◌⊎◌, ℕ, ◌+◌, ◌<◌, ◌≤◌, List, [], ◌∷◌, ◌++◌, All, length, slice_get, take, MatchOption, Option, Some, None}
use Rattle.std.specs.Int.{IsBitSet}
use Rattle.audit_trail.specs.declared.entry.Deed.TheVariants.{Done}
use Rattle.audit_trail.specs.declared.entry.Entry.{Entry}
use Rattle.body_print.specs.Clashes.{IsClash}
use Rattle.body_print.specs.Names.{manifest_name}
use Rattle.body_print.specs.Plans.{data_plan}
use Rattle.call_types.specs.declared.act.Brief.TheVariants.{Answer, Read}
use Rattle.call_types.specs.declared.names.Key.{Key}
use Rattle.call_types.specs.declared.names.Mode.{Mode}
use Rattle.call_types.specs.declared.names.Pick.{Pick}
use Rattle.call_types.specs.declared.names.Span.{Span}
use Rattle.call_types.specs.declared.names.VersionName.{VersionName}
use Rattle.call_types.specs.declared.reply.Reply.TheVariants.{Found}
use Rattle.call_types.specs.declared.version.Version.{Version}
use Rattle.call_types.specs.declared.why.Why.{Why}
use Rattle.desk_base.specs.Telling.{Effect}
use Rattle.drive_base.specs.Calls.{MadeCall, Tells}
use Rattle.drive_base.specs.Calls.Seen.{Showed}
use Rattle.drive_base.specs.DriveSet.{count_in}
use Rattle.drive_base.specs.Plan.{data_drives, write_drives}
use Rattle.drive_base.specs.View.{DriveView, view_at}
use Rattle.drive_base.specs.declared.drive.Drive.{Ghosts}
use Rattle.drive_base.specs.declared.plan.SetPlan.{SetPlan}
use Rattle.manifest_file.specs.Print.{text_under}
use Rattle.manifest_file.specs.Spelling.{file_of}
use Rattle.manifest_file.specs.declared.manifest.Manifest.{Manifest}
use Rattle.manifest_file.specs.declared.manifest.ManifestPart.{ManifestPart}
use Rattle.receipts.specs.Events.{Event, Log, Note, Shown}
use Rattle.receipts.specs.Events.Event.{BarredFrom, Called, Fed, Told, Turned}
use Rattle.receipts.specs.Letters.{FewBlocks, IsInUse, NoneServes, Serves, Wanted}
use Rattle.receipts.specs.Paying.{LeavesAll}
use Rattle.receipts.specs.Reading.{IsWanted}
use Rattle.receipts.specs.Spans.{body_length}
use Rattle.op_steps.specs.Moves.{IsDataName}
use Rattle.op_steps.specs.Notes.{entry_in}
use Rattle.log_laws.specs.Refusing.{TookPlace}
use Rattle.op_steps.specs.Serving.{DriveServes}
use Rattle.op_steps.specs.Steps.{Ran}
use Rattle.op_steps.specs.Store.{Store}

-- an entry says that a read of a key found a version; what is wanted is that version's data up to the end of a span of its body
pub record FindsData (wanted : Wanted) (entry : Entry) : Type 0 where
  pub at : Key
  pub mode : Mode
  pub pick : Pick
  pub version : Version
  pub whole : Span
  pub id : Option VersionName
  pub deed_is : entry.deed ≡ Done (Read at mode pick) (Answer (Found version whole id))
  pub span : Span
  pub is_wanted : IsWanted version.what span wanted
  pub within : wanted.reach ≤ body_length version.what

-- an event changes nothing of this slot: it is no section of it, or one that wrote no entry, or one that says so
abbrev pub LeavesSlot : ℕ → Event → Type 0
LeavesSlot slot (Turned k made shown) = k ≡ slot → MatchOption (entry_in made) (Unit {0}) (λ entry. LeavesAll entry.deed)
LeavesSlot slot (BarredFrom k why) = Unit {0}
LeavesSlot slot (Called k made) = Unit {0}
LeavesSlot slot (Fed bytes cut) = Unit {0}
LeavesSlot slot (Told telling cut) = Unit {0}

-- it is no section of this slot, or one that wrote no entry, such as the end of a read
abbrev pub IsStill : ℕ → Event → Type 0
IsStill slot (Turned k made shown) = k ≡ slot → entry_in made ≡ None
IsStill slot (BarredFrom k why) = Unit {0}
IsStill slot (Called k made) = Unit {0}
IsStill slot (Fed bytes cut) = Unit {0}
IsStill slot (Told telling cut) = Unit {0}

-- a log is that of a read of such data: before the section that found the version none of its slot changed anything, and behind it none wrote an entry
pub record ReadsData (wanted : Wanted) (log : Log) : Type 0 where
  pub before : Log
  pub slot : ℕ
  pub note : Note
  pub shown : Shown
  pub after : Log
  pub parts : log ≡ before ++ Turned slot (Some note) shown ∷ after
  pub entry : Entry
  pub entry_is : note.entry ≡ Some entry
  pub finds : FindsData wanted entry
  pub idle : All (LeavesSlot slot) before
  pub still : All (IsStill slot) after

-- a call of a drive that is of a set finds it serving: in use, without a fault, and showing what it keeps of manifests and shards
abbrev pub CallServes : SetPlan → ℕ → Event → List DriveView → List DriveView → Type 0
CallServes set disks (Turned k made shown) old new = Unit {0}
CallServes set disks (BarredFrom k why) old new = Unit {0}
CallServes set disks (Called k made) old new = IsBitSet disks k → DriveServes IsDataName set.out k (view_at old k) (view_at new k)
CallServes set disks (Fed bytes cut) old new = Unit {0}
CallServes set disks (Told telling cut) old new = Unit {0}

-- two manifests have one text under their prints, but the data of a part has another id
pub record NamesOther (shown held : Manifest) : Type 0 where
  pub text : text_under shown ≡ text_under held
  pub number : ℕ
  pub part : ManifestPart
  pub other : ManifestPart
  pub part_is : slice_get shown.parts number ≡ Some part
  pub other_is : slice_get held.parts number ≡ Some other
  pub differ : part.id ≢ other.id

module _ {D T : Type 0} (ghosts : Ghosts D) (takes breaks : Effect T) where
  -- each call of a log finds those of a set serving so
  abbrev pub CallsServe : (set : SetPlan) (disks : ℕ) (log : Log) (old new : Store D T) → Ran ghosts takes breaks set log old new → Type 0
  CallsServe set disks [] old new ran = Unit {0}
  CallsServe set disks (event ∷ log) old new (mid, step, ran) = CallServes set disks event old.disks mid.disks × CallsServe set disks log mid new ran

  -- data drives of a set are in use and serve in a log, and are enough for this data: as many of any that took a write of it are among them as a stripe of it
  -- has data blocks
  pub record EnoughServe (set : SetPlan) (disks : ℕ) (wanted : Wanted) (log : Log) (old new : Store D T) (ran : Ran ghosts takes breaks set log old new) : Type 0 where
    pub in_use : (k : ℕ) → k < set.drives → IsBitSet disks k → IsInUse set k
    pub serve : CallsServe set disks log old new ran
    pub enough : set.drives + data_drives (data_plan set wanted).drives (data_plan set wanted).parity
        ≤ count_in disks set.drives + write_drives (data_plan set wanted).drives (data_plan set wanted).parity

  -- they are enough for whatever data a log begins with a read of
  abbrev pub EnoughServeReads : (set : SetPlan) (disks : ℕ) (log : Log) (old new : Store D T) → Ran ghosts takes breaks set log old new → Type 0
  EnoughServeReads set disks log old new ran = (wanted : Wanted) (front more : Log) → log ≡ front ++ more → ReadsData wanted front
      → EnoughServe set disks wanted log old new ran

  -- a drive that isn't one of a set showed another manifest with the print than one of the set keeps, and keeps none that begins so: two texts have one
  -- SHA-256, or it names data of other ids
  pub record ShowsAnother (set : SetPlan) (disks : ℕ) (wanted : Wanted) (log : Log) (old new : Store D T) : Type 0 where
    pub drive : ℕ
    pub within : drive < set.drives
    pub is_other : IsBitSet disks drive → ⊥
    pub shown : Manifest
    pub serves : Serves set wanted shown
    pub made : MadeCall
    pub tells : Tells made (Showed (manifest_name wanted.id) 0 (file_of shown))
    pub called : TookPlace ghosts takes breaks set log old new (Called drive made)
    pub unkept : (file : List ℕ) → (view_at called.before.disks drive).files.kept (manifest_name wanted.id) ≡ Some file
        → file_of shown ≢ take (length (file_of shown)) file
    pub holder : ℕ
    pub is_of_set : IsBitSet disks holder
    pub held : Manifest
    pub held_serves : Serves set wanted held
    pub kept : (view_at called.before.disks holder).files.kept (manifest_name wanted.id) ≡ Some (file_of held)
    pub differ : IsClash (text_under shown) (text_under held) ⊎ NamesOther shown held

  -- a read in a front of a log doesn't say that no drive serves it, and where it had too few blocks it went by such another manifest
  pub record ReadGoesOn (set : SetPlan) (disks : ℕ) (wanted : Wanted) (front : Log) (log : Log) (old new : Store D T) : Type 0 where
    pub manifests : (whys : List Why) → NoneServes set wanted whys front → ⊥
    pub blocks : (next : ℕ) (whys : List Why) → FewBlocks set wanted next whys front → ShowsAnother set disks wanted log old new
