-- What a read of a key finds, tells and begins.
use Rattle.std.specs.Prelude.{◌≡◌, ◌≢◌, ℕ, List, [], ◌∷◌, ◌++◌, Option, Some, None, Result, Ok, Err, Contains, slice_get}
use Rattle.stamp_id.specs.declared.stamp.ChangeId.{ChangeId}
use Rattle.drive_base.specs.declared.drive.Drive.{Ghosts}
use Rattle.call_types.specs.Refusals.{refusal_of}
use Rattle.call_types.specs.declared.act.Brief.TheVariants.{Answer, Read}
use Rattle.call_types.specs.declared.names.Key.{Key}
use Rattle.call_types.specs.declared.names.Mode.{Mode}
use Rattle.call_types.specs.declared.names.Pick.{Pick}
use Rattle.call_types.specs.declared.reply.Reply.{Reply}
use Rattle.call_types.specs.declared.reply.Reply.TheVariants.{Found as FoundReply, Refused as RefusedReply}
use Rattle.call_types.specs.declared.version.Version.{Version}
use Rattle.audit_trail.specs.declared.entry.Deed.TheVariants.{Done}
use Rattle.audit_trail.specs.declared.entry.Entry.{Entry}
use Rattle.register_core.specs.Found.{content_of}
use Rattle.register_core.specs.declared.faults.QuorumFault.{QuorumFault}
use Rattle.register_core.specs.declared.faults.QuorumFault.TheVariants.{NoMemory as NoMemoryQuorum}
use Rattle.version_list.specs.Reads.{Reads}
use Rattle.version_list.specs.Step.{told}
use Rattle.version_list.specs.declared.state.KeyState.{KeyState}
use Rattle.slot_history.specs.Contents.{SpellsKey}
use Rattle.slot_history.specs.Doing.{whole_of}
use Rattle.slot_history.specs.Moving.{IsLast}
use Rattle.slot_history.specs.Names.{key_name}
use Rattle.slot_history.specs.State.{State}
use Rattle.slot_data.specs.Holding.{Pinned}
use Rattle.slot_data.specs.Rows.{pinned_of}
use Rattle.slot_data.specs.declared.rows.PinRow.{PinRow}
use Rattle.slot_rules.specs.Rules.{longest_for, rule_for}
use Rattle.slot_rules.specs.declared.site.Drawn.{Drawn}
use Rattle.slot_rules.specs.declared.site.Site.{Site}
use Rattle.slot_core.specs.Causes.{Completes, LookCause, LookGave}
use Rattle.slot_core.specs.RegisterLook.{CallsForward, late_of}
use Rattle.slot_core.specs.AuditEntry.{WritesDown, has_late}
use Rattle.slot_core.specs.Sections.{IsReadPin}
use Rattle.slot_core.specs.Settlement.{IsReady, SettlesAfter, numbers_at}
use Rattle.slot_core.specs.Views.{SlotNumbers}
use Rattle.slot_core.specs.declared.read_section.Planned.{Planned}
use Rattle.slot_core.specs.declared.slot.SlotFault.{SlotFault}
use Rattle.slot_core.specs.declared.slot.SlotFault.TheVariants.{Quorum, Key as KeyFault, SeqSpent, AuditFailed, NoMemory, NotInFlight}
use Rattle.slot_core.specs.declared.peek_section.Peeked.{Peeked}
use Rattle.slot_core.specs.declared.peek_section.Peeked.TheVariants.{Found, Refused, LacksMemory}
use Rattle.slot_core.specs.declared.audit_entry.Entries.{Entries}
use Rattle.slot_core.specs.declared.read_plan.ReadPlan.{ReadPlan}
use Rattle.slot_core.specs.declared.read_plan.ReadPlan.TheVariants.{Gives, Refuses}
use Rattle.slot_core.specs.declared.read_plan.ReadStart.{ReadStart}
use Rattle.slot_core.specs.declared.stub.Stub.{Stub}
use Rattle.slot_core.specs.declared.stub.Turn.{Turn}
use Rattle.slot_core.specs.LanesStay.{FilesStay}

-- a read of a key in this state gives this version
pub record IsFound (state : KeyState) (pick : Pick) (version : Version) : Type 0 where
  pub place : ℕ
  pub reads : Reads state.versions pick (Ok place)
  pub there : slice_get state.versions place ≡ Some version

-- the reply of a read that gives a version, whole
abbrev pub found_reply : Mode → Version → Reply
found_reply mode version = FoundReply version (whole_of version) (told mode version.id)

-- the entry of a read with this reply
abbrev pub read_entry : ℕ → Key → Mode → Pick → Reply → Entry
read_entry ticket at mode pick reply = record { ticket = ticket; late = None; name = key_name at; deed = Done (Read at mode pick) (Answer reply) }

-- both copies of an entry
pub record AreEntries (entry : Entry) (entries : Entries) : Type 0 where
  pub audit_is : entries.audit ≡ entry
  pub stub_is : entries.stub ≡ entry

-- a read gives a version: its pin and its entries are made
pub record PlansStart (ticket : ℕ) (at : Key) (mode : Mode) (pick : Pick) (start : ReadStart) (row : PinRow) (entries : Entries) : Type 0 where
  pub pin : IsReadPin ticket at start (pinned_of row)
  pub entries_are : AreEntries (read_entry ticket at mode pick (found_reply mode start.version)) entries

-- what a read plans over the state of a key
abbrev pub PlansRead : ℕ → Key → Mode → Pick → KeyState → ReadPlan → Type 0
PlansRead ticket at mode pick state (Gives start row entries) = IsFound state pick start.version × PlansStart ticket at mode pick start row entries
PlansRead ticket at mode pick state (Refuses why entries) =
    Reads state.versions pick (Err why) × AreEntries (read_entry ticket at mode pick (RefusedReply (refusal_of why))) entries

-- the entries of a plan
abbrev pub entries_of : ReadPlan → Entries
entries_of (Gives start row entries) = entries
entries_of (Refuses why entries) = entries

-- a turn that wrote its entry down has this stub
abbrev pub HasStub : Site → Entry → Option SlotFault → Option Stub → Type 0
HasStub site entry fault stub = (made : Stub) × (stub ≡ Some made) × WritesDown site entry fault made

-- what was planned is begun: the answer is given, the pin is listed, and the entry written down
abbrev pub BeginsPlan : Site → ReadPlan → Option ChangeId → Turn ReadStart → List PinRow → List PinRow → Type 0
BeginsPlan site (Gives start row entries) late turn old new =
    (turn.answer ≡ Ok start) × HasStub site (has_late entries.audit late) None turn.stub × (new ≡ old ++ row ∷ [])
BeginsPlan site (Refuses why entries) late turn old new =
    (turn.answer ≡ Err (KeyFault why)) × HasStub site (has_late entries.audit late) (Some (KeyFault why)) turn.stub × (new ≡ old)

-- what a read leaves of the rows of pins: where a version was found, its pin is listed last
abbrev pub PinIsListed : ℕ → Key → Result ReadStart SlotFault → List PinRow → List PinRow → Type 0
PinIsListed ticket at (Ok start) old new = (row : PinRow) × IsReadPin ticket at start (pinned_of row) × (new ≡ old ++ row ∷ [])
PinIsListed ticket at (Err _) old new = new ≡ old

-- no pin has this ticket
abbrev pub IsNewTicket : ℕ → List Pinned → Type 0
IsNewTicket ticket pins = (q : Pinned) → Contains pins q → q.ticket ≢ ticket

-- what is known of a key's register over whose state a read was planned
pub record KnownRead (ticket : ℕ) (at : Key) (mode : Mode) (pick : Pick) (plan : ReadPlan) (late : Option ChangeId) (now : State) : Type 0 where
  pub state : KeyState
  pub spells : SpellsKey (now.registers (key_name at)).content state
  pub plans : PlansRead ticket at mode pick state plan
  pub is_last : IsLast late (now.registers (key_name at))

-- a read was planned over the state that the content of a look spells
pub record PlansOver (ticket : ℕ) (at : Key) (mode : Mode) (pick : Pick) (planned : Planned) : Type 0 where
  pub state : KeyState
  pub spells : SpellsKey (content_of planned.ready.looked.base planned.ready.looked.pending) state
  pub plans : PlansRead ticket at mode pick state planned.plan

module _ {D : Type 0} (ghosts : Ghosts D) where
  -- a read's look: it could conclude, and what it found was planned; or it was refused, or there was not enough memory
  abbrev pub LooksForRead : Site → Drawn → List ℕ → Key → Mode → Pick → Result Planned QuorumFault → List D → List D → List D → List D → Type 0
  LooksForRead site drawn name at mode pick (Ok planned) old new disks disks_after =
      IsReady ghosts site drawn name (rule_for name) (longest_for name) planned.ready old new disks disks_after × PlansOver site.turns at mode pick planned
  LooksForRead site drawn name at mode pick (Err fault) old new disks disks_after = fault ≢ NoMemoryQuorum
      → LookCause ghosts (numbers_at site drawn) (numbers_at site drawn) name (rule_for name) (longest_for name) fault old new disks disks_after

  -- what completing what was pending gives: the plan, and the change that was completed, or a refusal, by its calls and by what it leaves
  abbrev pub FinishesPlan : Site → Drawn → Drawn → List ℕ → Planned → Peeked ReadPlan → List D → List D → Type 0
  FinishesPlan site drawn later name planned (Found plan late) mid new = (plan ≡ planned.plan) × (late ≡ late_of planned.ready.first)
      × SettlesAfter ghosts {E = QuorumFault} site drawn later name planned.ready (Ok late) mid new
      × CallsForward ghosts site drawn later planned.ready.first (Ok late) mid new
  FinishesPlan site drawn later name planned (Refused fault) mid new = (fault ≢ NoMemoryQuorum)
      × SettlesAfter ghosts {E = QuorumFault} site drawn later name planned.ready (Err fault) mid new
      × CallsForward ghosts site drawn later planned.ready.first (Err fault) mid new
  FinishesPlan site drawn later name planned LacksMemory mid new = ⊥

  -- a look gave a content that spells a state of the key for which this is due
  pub record ReadGave (numbers later : SlotNumbers) (at : Key) (Due : KeyState → Type 0) (late : Option ChangeId) (old new disks disks_after : List D) : Type 0 where
    pub content : List ℕ
    pub gave : LookGave ghosts numbers later.count (key_name at) (rule_for (key_name at)) (longest_for (key_name at)) content old new disks disks_after
    pub completes : Completes numbers later gave.looked.pending late
    pub state : KeyState
    pub spells : SpellsKey content state
    pub due : Due state

  -- what a read says of its calls, by its answer and the change that its entry tells as completed, whatever the drives tell: the version that it found is
  -- one that its look gave, and so is a refusal by the state of the key
  abbrev pub ReadCause : SlotNumbers → SlotNumbers → Key → Pick → Result ReadStart SlotFault → Option ChangeId → List D → List D → List D → List D → Type 0
  ReadCause numbers later at pick (Ok start) late old new disks disks_after =
      ReadGave numbers later at (λ state. IsFound state pick start.version) late old new disks disks_after
  ReadCause numbers later at pick (Err (KeyFault why)) late old new disks disks_after =
      ReadGave numbers later at (λ state. Reads state.versions pick (Err why)) late old new disks disks_after
  ReadCause numbers later at pick (Err (Quorum fault)) late old new disks disks_after = (fault ≢ NoMemoryQuorum) × (late ≡ None)
      × LookCause ghosts numbers later (key_name at) (rule_for (key_name at)) (longest_for (key_name at)) fault old new disks disks_after
  ReadCause numbers later at pick (Err SeqSpent) late old new disks disks_after = new ≡ old
  ReadCause numbers later at pick (Err (AuditFailed _ _)) late old new disks disks_after = new ≡ old
  ReadCause numbers later at pick (Err NoMemory) late old new disks disks_after = FilesStay ghosts old new
  ReadCause numbers later at pick (Err (NotInFlight _)) late old new disks disks_after = ⊥
