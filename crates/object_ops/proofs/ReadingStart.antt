-- What the log has after the begin of a read.
use Rattle.std.proofs.Common.{◌≡◌, ◌⊎◌, ◌∙◌, ℕ, Bool, List, [], ◌∷◌, ◌++◌, Option, Some, None, Result, Ok, Err, option_and_then, inl, inr, refl, sym, ap, subst}
use Rattle.audit_trail.specs.declared.entry.Deed.{Deed}
use Rattle.audit_trail.specs.declared.entry.Deed.TheVariants.{Done, Kept}
use Rattle.audit_trail.specs.declared.entry.Entry.{Entry}
use Rattle.call_types.specs.Refusals.{refusal_of}
use Rattle.call_types.specs.declared.act.Brief.TheVariants.{Answer, Read}
use Rattle.call_types.specs.declared.names.Key.{Key as TheKey}
use Rattle.call_types.specs.declared.names.Mode.{Mode}
use Rattle.call_types.specs.declared.names.Pick.{Pick}
use Rattle.call_types.specs.declared.refusal.KeyRefusal.{KeyRefusal}
use Rattle.call_types.specs.declared.refusal.Refusal.{Refusal}
use Rattle.call_types.specs.declared.reply.Reply.{Reply}
use Rattle.call_types.specs.declared.reply.Reply.TheVariants as reply_of
use Rattle.call_types.specs.declared.version.Version.{Version}
use Rattle.call_types.specs.declared.version.What.{What}
use Rattle.call_types.specs.declared.version.What.TheVariants.{Marker, Object}
use Rattle.drive_base.specs.declared.drive.Drive.{Ghosts}
use Rattle.drive_base.specs.Files.{Files}
use Rattle.stamp_id.specs.declared.stamp.ChangeId.{ChangeId}
use Rattle.version_list.specs.Reads.{Reads}
use Rattle.version_list.specs.Step.{told as told_name}
use Rattle.version_list.specs.declared.state.KeyState.{KeyState}
use Rattle.slot_history.specs.Doing.{body_length, whole_of as slot_whole}
use Rattle.slot_core.specs.ReadSection.{IsFound, ReadCause}
use Rattle.slot_core.specs.Sections.{ReadDeed, SaysRead}
use Rattle.slot_core.specs.Stubs.{IsStub, Says, StubOfEntry, Writes, WritesNone}
use Rattle.slot_core.specs.Views.{SlotNumbers}
use Rattle.slot_core.specs.declared.slot.SlotFault.{SlotFault}
use Rattle.slot_core.specs.declared.slot.SlotFault.TheVariants.{AuditFailed, Key, NoMemory, NotInFlight, Quorum, SeqSpent}
use Rattle.slot_core.specs.declared.read_plan.ReadStart.{ReadStart}
use Rattle.slot_core.specs.declared.stub.Stub.{Stub}
use Rattle.receipts.specs.Dues.{IsDueRead}
use Rattle.receipts.specs.Events.{Log, Section, sections_of}
use Rattle.receipts.specs.Events.Event.{Turned}
use Rattle.receipts.specs.Events.Shown.{NoneShown}
use Rattle.receipts.specs.Looks.{IsIdle}
use Rattle.receipts.specs.Paying.{LeavesAll}
use Rattle.receipts.specs.Reading.{EndsBeforeRead, ReadsKey}
use Rattle.receipts.specs.Registers.{key_register, key_slot}
use Rattle.receipts.specs.Spans.{body_length as receipt_length, whole_of}
use Rattle.receipts.proofs.JoinLemmas.{sections_join}
use Rattle.op_steps.specs.Notes.{note_of, noted, refusal_by}
use Rattle.object_ops.specs.Reading.{HasFound, IsFresh}
use Rattle.object_ops.specs.ReadingPlan.{IsOfFault, RefusesSo, StartsSo}
use Rattle.object_ops.specs.declared.reading.Started.{Started}
use Rattle.object_ops.specs.declared.reading.Started.TheVariants as started
use Rattle.object_ops.proofs.ReadingLook.{has_entry, no_refusal, said}
use Rattle.object_ops.proofs.ReadingTell.{more_fresh, turn_fresh}

-- ---- what is due

same_whole : (v : Version) (what : What) → v.what ≡ what → slot_whole v ≡ whole_of v
same_whole v Marker is = ap (λ n. record { at = 0; length = n }) (ap body_length is ∙ sym (ap receipt_length is))
same_whole v (Object data_id print size md5 parts upload kind) is = ap (λ n. record { at = 0; length = n }) (ap body_length is ∙ sym (ap receipt_length is))

pub due_found : (mode : Mode) (pick : Pick) (state : KeyState) (v : Version) → IsFound state pick v
    → IsDueRead mode pick (reply_of.Found v (whole_of v) (told_name mode v.id))
due_found mode pick state v is =
    record { versions = state.versions; answer = Ok is.place; reads = is.reads; replies = (v, is.there, refl) }

due_refused : (mode : Mode) (pick : Pick) (state : KeyState) (why : KeyRefusal) → Reads state.versions pick (Err why)
    → IsDueRead mode pick (reply_of.Refused (refusal_of why))
due_refused mode pick state why is = record { versions = state.versions; answer = Err why; reads = is; replies = refl }

-- what is due by an answer
abbrev pub IsDueBy : Mode → Pick → Result ReadStart SlotFault → Type 0
IsDueBy mode pick (Ok start) = IsDueRead mode pick (reply_of.Found start.version (whole_of start.version) (told_name mode start.version.id))
IsDueBy mode pick (Err (Key why)) = IsDueRead mode pick (reply_of.Refused (refusal_of why))
IsDueBy mode pick (Err (Quorum fault)) = Unit {0}
IsDueBy mode pick (Err SeqSpent) = Unit {0}
IsDueBy mode pick (Err (AuditFailed before after)) = Unit {0}
IsDueBy mode pick (Err NoMemory) = Unit {0}
IsDueBy mode pick (Err (NotInFlight id)) = Unit {0}

module _ {D : Type 0} (ghosts : Ghosts D) where
  pub due_by : (numbers later : SlotNumbers) (at : TheKey) (mode : Mode) (pick : Pick) (answer : Result ReadStart SlotFault) (late : Option ChangeId)
      (old new disks disks_after : List D) → ReadCause ghosts numbers later at pick answer late old new disks disks_after → IsDueBy mode pick answer
  due_by numbers later at mode pick (Ok start) late old new disks disks_after x = due_found mode pick x.state start.version x.due
  due_by numbers later at mode pick (Err (Key why)) late old new disks disks_after x = due_refused mode pick x.state why x.due
  due_by numbers later at mode pick (Err (Quorum fault)) late old new disks disks_after x = tt
  due_by numbers later at mode pick (Err SeqSpent) late old new disks disks_after x = tt
  due_by numbers later at mode pick (Err (AuditFailed before after)) late old new disks disks_after x = tt
  due_by numbers later at mode pick (Err NoMemory) late old new disks disks_after x = tt
  due_by numbers later at mode pick (Err (NotInFlight id)) late old new disks disks_after x = tt

-- a read leaves all as it was
read_leaves : (at : TheKey) (mode : Mode) (pick : Pick) (answer : Result ReadStart SlotFault) (deed : Deed) → ReadDeed at mode pick answer deed → LeavesAll deed
read_leaves at mode pick (Ok start) deed is = subst LeavesAll (sym is) tt
read_leaves at mode pick (Err (Key why)) deed is = subst LeavesAll (sym is) tt
read_leaves at mode pick (Err (Quorum fault)) deed is = subst LeavesAll (sym is) tt
read_leaves at mode pick (Err SeqSpent) deed is = absurd is
read_leaves at mode pick (Err (AuditFailed before after)) deed is = absurd is
read_leaves at mode pick (Err NoMemory) deed is = absurd is
read_leaves at mode pick (Err (NotInFlight id)) deed is = absurd is

-- ---- the log after it

-- a read is refused: it ended before its section found a version, or by the state of the key
abbrev pub RefusesRead : TheKey → Pick → Refusal → Log → Type 0
RefusesRead at pick why log = EndsBeforeRead at (reply_of.Refused why) log ⊎ ReadsKey at pick (reply_of.Refused why) log

abbrev pub AfterStart : TheKey → Pick → Started → Log → Type 0
AfterStart at pick (started.Found version id pin) log = IsFresh log × ReadsKey at pick (reply_of.Found version (whole_of version) id) log
AfterStart at pick (started.Refused why) log = IsFresh log × RefusesRead at pick why log
AfterStart at pick started.LacksMemory log = IsFresh log

-- the sections after it
two_sections : (log : Log) (look own : Section) (k : ℕ) (made : Stub) → sections_of log ≡ look ∷ [] → own ≡ record { note = note_of made; shown = NoneShown }
    → sections_of (log ++ Turned k (noted (Some made)) NoneShown ∷ []) ≡ look ∷ own ∷ []
two_sections log look own k made is own_is = sections_join log (Turned k (noted (Some made)) NoneShown ∷ [])
    ∙ (ap (λ l. l ++ record { note = note_of made; shown = NoneShown } ∷ []) is ∙ ap (λ s. look ∷ s ∷ []) (sym own_is))

module _ (at : TheKey) (mode : Mode) (pick : Pick) (numbers : SlotNumbers) (log : Log) (found : HasFound at.bucket mode log)
    (index : numbers.index ≡ key_slot at) where
  abbrev now_log : Option Stub → Log
  now_log stub = log ++ Turned numbers.index (noted stub) NoneShown ∷ []

  fresh_now : (answer : Result ReadStart SlotFault) (stub : Option Stub) → Says stub (SaysRead at mode pick answer) → IsFresh (now_log stub)
  fresh_now answer stub says = more_fresh log (Turned numbers.index (noted stub) NoneShown ∷ []) found.fresh
      (turn_fresh (SaysRead at mode pick answer) numbers.index stub NoneShown (λ e is. read_leaves at mode pick answer e.deed is.deed_is) says)

  -- the key was read, and this was replied
  reads_key : (whole : Reply) (entry : Entry) (fault : Option SlotFault) (made : Stub) → entry.ticket ≡ numbers.turns → IsStub numbers (Some entry) fault made
      → entry.name ≡ key_register at → entry.deed ≡ Done (Read at mode pick) (Answer whole) → IsDueRead mode pick whole → ReadsKey at pick whole (now_log (Some made))
  reads_key whole entry fault made ticket is named done due = record {
    look = found.look;
    own = record { note = note_of made; shown = NoneShown };
    sections = two_sections log found.look (record { note = note_of made; shown = NoneShown }) numbers.index made found.sections refl;
    mode = mode;
    bucket = found.finds;
    entry = has_entry (key_slot at) (key_register at) (Done (Read at mode pick) (Answer whole)) numbers entry fault made index ticket is named done;
    due = due;
  }

  -- the read was refused
  refused_start : (fault : SlotFault) (made : Stub) (why : Refusal) → made.slot ≡ numbers.index → made.fault ≡ Some fault
      → IsIdle (key_slot at) (key_register at) (note_of made) → IsOfFault fault why → RefusesRead at pick why (now_log (Some made))
  refused_start fault made why slot is idle told = inl (inr (inl (record {
    look = found.look;
    own = record { note = note_of made; shown = NoneShown };
    sections = two_sections log found.look (record { note = note_of made; shown = NoneShown }) numbers.index made found.sections refl;
    mode = mode;
    bucket = found.finds;
    idle = idle;
    refuses = record { slot_is = slot ∙ index; why = why; of_section = told.1; refused = ap (option_and_then refusal_by) is ∙ told.0; told = refl };
  })))

  -- it wrote none
  bare_start : (fault : SlotFault) (stub : Option Stub) (why : Refusal) → WritesNone numbers fault stub → IsOfFault fault why
      → RefusesRead at pick why (now_log stub)
  bare_start fault stub why x told = subst (λ s. RefusesRead at pick why (now_log s)) (sym x.1)
      (refused_start fault x.0 why x.2.slot x.2.fault_is (inl x.2.entry_is) told)

  abbrev Said : Result ReadStart SlotFault → Option Stub → Type 0
  Said answer stub = Says stub (SaysRead at mode pick answer)

  of_entry : (answer : Result ReadStart SlotFault) (fault : Option SlotFault) (stub : Option Stub) (x : Writes numbers fault stub) → Said answer stub
      → SaysRead at mode pick answer x.2.0
  of_entry answer fault stub x says =
      said (SaysRead at mode pick answer) x.0 x.2.0 x.2.2.entry_is (subst (λ s. Says s (SaysRead at mode pick answer)) x.1 says)

  -- a read by the state of the key, or by its version
  read_start : (answer : Result ReadStart SlotFault) (whole : Reply) (fault : Option SlotFault) (stub : Option Stub) (x : Writes numbers fault stub) → Said answer stub
      → ((entry : Entry) → ReadDeed at mode pick answer entry.deed → entry.deed ≡ Done (Read at mode pick) (Answer whole)) → IsDueRead mode pick whole
      → ReadsKey at pick whole (now_log stub)
  read_start answer whole fault stub x says done due =
      let s = of_entry answer fault stub x says in
      subst (λ s. ReadsKey at pick whole (now_log s)) (sym x.1)
      (reads_key whole x.2.0 fault x.0 x.2.1 x.2.2 s.name_is (done x.2.0 s.deed_is) due)

  -- what a refusal leaves
  refused : (fault : SlotFault) (stub : Option Stub) (why : Refusal) → StubOfEntry {T = ReadStart} numbers (Err fault) stub → Said (Err fault) stub
      → IsDueBy mode pick (Err fault) → RefusesSo fault why → RefusesRead at pick why (now_log stub)
  refused (Key refusal) stub why x says due told =
      subst (λ r. RefusesRead at pick r (now_log stub)) (sym told)
      (inr (read_start (Err (Key refusal)) (reply_of.Refused (refusal_of refusal)) (Some (Key refusal)) stub x says (λ entry deed. deed) due))
  refused (Quorum fault) stub why x says due told =
      let s = of_entry (Err (Quorum fault)) (Some (Quorum fault)) stub x says in
      subst (λ s. RefusesRead at pick why (now_log s)) (sym x.1)
      (refused_start (Quorum fault) x.0 why x.2.2.slot x.2.2.fault_is
      (inr (has_entry (key_slot at) (key_register at) Kept numbers x.2.0 (Some (Quorum fault)) x.0 index x.2.1 x.2.2 s.name_is s.deed_is)) told)
  refused SeqSpent stub why x says due told = bare_start SeqSpent stub why x told
  refused (AuditFailed before after) stub why x says due told = bare_start (AuditFailed before after) stub why x told
  refused NoMemory stub why x says due told = absurd (subst no_refusal told.0 tt)
  refused (NotInFlight id) stub why x says due told = absurd (of_entry (Err (NotInFlight id)) (Some (NotInFlight id)) stub x says).deed_is

  pub starts : (answer : Result ReadStart SlotFault) (stub : Option Stub) (begun : Started) → StubOfEntry numbers answer stub → Said answer stub
      → IsDueBy mode pick answer → StartsSo mode answer begun → AfterStart at pick begun (now_log stub)
  starts (Ok start) stub (started.Found version id pin) x says due told = (
    fresh_now (Ok start) stub says,
    subst (λ v. ReadsKey at pick (reply_of.Found v (whole_of v) id) (now_log stub)) (sym told.0)
        (subst (λ i. ReadsKey at pick (reply_of.Found start.version (whole_of start.version) i) (now_log stub)) (sym told.1)
        (read_start (Ok start) (reply_of.Found start.version (whole_of start.version) (told_name mode start.version.id)) None stub x says
        (λ entry deed. deed ∙ ap (λ w. Done (Read at mode pick) (Answer (reply_of.Found start.version w (told_name mode start.version.id))))
        (same_whole start.version start.version.what refl)) due)),
  )
  starts (Ok start) stub (started.Refused why) x says due told = absurd told
  starts (Ok start) stub started.LacksMemory x says due told = absurd told
  starts (Err fault) stub (started.Found version id pin) x says due told = absurd told
  starts (Err fault) stub (started.Refused why) x says due told = (fresh_now (Err fault) stub says, refused fault stub why x says due told)
  starts (Err fault) stub started.LacksMemory x says due told = fresh_now (Err fault) stub says
