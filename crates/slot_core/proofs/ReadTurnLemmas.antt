-- What a read tells and leaves.
use Rattle.std.proofs.Common.{◌≡◌, ◌∙◌, ℕ, List, [], ◌∷◌, ◌++◌, Option, None, Some, Result, Ok, Err, ap, subst, sym, refl, inl, inr, arith}
use Rattle.std.specs.Prelude.{Bool, Contains, MatchOption, slice_get}
use Rattle.std.proofs.lemmas.List.{append-nil}
use Rattle.std.proofs.lemmas.List.Elements.{Contains-push_cases}
use Rattle.std.proofs.lemmas.Option.{get_or_from_slice_get, slice_get_within}
use Rattle.stamp_id.specs.declared.stamp.Ballot.{Ballot}
use Rattle.stamp_id.specs.declared.stamp.ChangeId.{ChangeId}
use Rattle.stamp_id.specs.declared.version.VersionId.{VersionId}
use Rattle.call_types.specs.Refusals.{refusal_of}
use Rattle.call_types.specs.declared.act.Brief.TheVariants.{Read}
use Rattle.call_types.specs.declared.names.Key.{Key}
use Rattle.call_types.specs.declared.names.Mode.{Mode}
use Rattle.call_types.specs.declared.names.Pick.{Pick}
use Rattle.call_types.specs.declared.refusal.KeyRefusal.{KeyRefusal}
use Rattle.call_types.specs.declared.reply.Reply.{Reply}
use Rattle.call_types.specs.declared.reply.Reply.TheVariants.{Refused as RefusedReply}
use Rattle.call_types.specs.declared.version.Version.{Version}
use Rattle.audit_trail.specs.Entries.{with_entry}
use Rattle.audit_trail.specs.declared.entry.Entry.{Entry}
use Rattle.drive_base.specs.declared.drive.Drive.{Ghosts}
use Rattle.drive_base.specs.Files.{Files}
use Rattle.register_core.specs.Found.{content_of}
use Rattle.version_list.specs.Reads.{Reads}
use Rattle.version_list.specs.declared.state.KeyState.{KeyState}
use Rattle.slot_history.specs.Contents.{SpellsKey}
use Rattle.slot_history.specs.Doing.{RepliesRead}
use Rattle.slot_history.specs.Moving.{Finds, IsLast}
use Rattle.slot_history.specs.Names.{key_name}
use Rattle.slot_history.specs.Sections.{SectionMoves}
use Rattle.slot_history.specs.Standing.{Records}
use Rattle.slot_history.specs.State.{State, TakesOut}
use Rattle.slot_data.specs.Holding.{Hands, Holding, Pinned}
use Rattle.slot_data.specs.Holding.Purpose.{ForComplete, ForRead}
use Rattle.slot_data.specs.Laws.{PinBegins}
use Rattle.slot_data.specs.Moves.{IsToPin, MayPin, with_pins}
use Rattle.slot_data.specs.Standing.{DataStands}
use Rattle.slot_data.specs.declared.rows.PinRow.{PinRow}
use Rattle.slot_rules.specs.Rules.{IsRead, longest_for, rule_for}
use Rattle.slot_rules.specs.declared.site.Drawn.{Drawn}
use Rattle.slot_rules.specs.declared.site.Site.{Site}
use Rattle.slot_core.specs.Hands.{HandsStay}
use Rattle.slot_core.specs.PeekSection.{TurnsAt}
use Rattle.slot_core.specs.AuditEntry.{has_late}
use Rattle.slot_core.specs.RegisterLook.{CallsForward, late_of}
use Rattle.slot_core.specs.ReadSection.{BeginsPlan, HasStub, IsFound, IsNewTicket, KnownRead, LooksForRead, PinIsListed, PlansRead, ReadCause, ReadGave, entries_of, found_reply, read_entry}
use Rattle.slot_core.specs.Sections.{IsReadPin, ReadHolds, SaysRead, ShowsNoMore}
use Rattle.slot_core.specs.Settlement.{IsReady, Settled, numbers_at}
use Rattle.slot_core.specs.Stubs.{Says, completed_by, entry_of, late_in}
use Rattle.slot_core.specs.Turns.{EntryMoves, TurnLeaves}
use Rattle.slot_core.specs.Views.{SlotNumbers, last_of, quorum_of}
use Rattle.slot_core.specs.declared.slot.SlotFault.{SlotFault}
use Rattle.slot_core.specs.declared.slot.SlotFault.TheVariants.{Key as KeyFault}
use Rattle.slot_core.specs.declared.read_section.Planned.{Planned}
use Rattle.slot_core.specs.declared.read_plan.ReadPlan.{ReadPlan}
use Rattle.slot_core.specs.declared.read_plan.ReadPlan.TheVariants.{Gives, Refuses}
use Rattle.slot_core.specs.declared.read_plan.ReadStart.{ReadStart}
use Rattle.slot_core.specs.declared.stub.Stub.{Stub}
use Rattle.slot_core.specs.declared.stub.Turn.{Turn}
use Rattle.slot_core.proofs.CalmingLemmas.{look_calms}
use Rattle.slot_core.proofs.CauseLemmas.{gives_of}
use Rattle.slot_core.proofs.TurnLemmas.{refused_turn, wrote_turn}
use Rattle.slot_core.specs.LanesStay.{FilesStay}

-- the entries of a plan are two copies of one
pub same_entries : (ticket : ℕ) (at : Key) (mode : Mode) (pick : Pick) (state : KeyState) (plan : ReadPlan) → PlansRead ticket at mode pick state plan
    → (entries_of plan).stub ≡ (entries_of plan).audit
same_entries ticket at mode pick state (Gives start row entries) plans = plans.1.entries_are.stub_is ∙ sym plans.1.entries_are.audit_is
same_entries ticket at mode pick state (Refuses why entries) plans = plans.1.stub_is ∙ sym plans.1.audit_is

-- the entry of a stub
told_entry : (site : Site) (entry : Entry) (fault : Option SlotFault) (stub : Option Stub) → HasStub site entry fault stub → entry_of stub ≡ Some entry
told_entry site entry fault stub has = ap entry_of has.1 ∙ has.2.entry_is

says_entry : (stub : Option Stub) (entry : Entry) (What : Entry → Type 0) → entry_of stub ≡ Some entry → What entry → Says stub What
says_entry stub entry What is what = subst (λ (e : Option Entry). MatchOption e (Unit {0}) What) (sym is) what

module _ (site : Site) (drawn : Drawn) (at : Key) (mode : Mode) (pick : Pick) where
  -- what a read tells that was planned
  pub begun_turns : (state : KeyState) (plan : ReadPlan) (late : Option ChangeId) (turn : Turn ReadStart) (rows new : List PinRow)
      (audit_old audit_new : Option (List Entry)) (faults_old faults_new : ℕ)
      → BeginsPlan site plan late turn rows new → PlansRead site.turns at mode pick state plan
      → audit_new ≡ with_entry audit_old (has_late (entries_of plan).audit late) → faults_new ≡ faults_old
      → TurnsAt (numbers_at site drawn) audit_old audit_new faults_old faults_new turn.answer turn.stub
  begun_turns state (Gives start row entries) late turn rows new audit_old audit_new faults_old faults_new begins plans added same =
      subst (λ (a : Result ReadStart SlotFault). TurnsAt (numbers_at site drawn) audit_old audit_new faults_old faults_new a turn.stub) (sym begins.0)
      (subst (λ (s : Option Stub). TurnsAt {T = ReadStart} (numbers_at site drawn) audit_old audit_new faults_old faults_new (Ok start) s) (sym begins.1.1)
      (wrote_turn site drawn (has_late entries.audit late) begins.1.0 start audit_old audit_new faults_old faults_new
      (ap (λ (e : Entry). e.ticket) plans.1.entries_are.audit_is) begins.1.2 added same))
  begun_turns state (Refuses why entries) late turn rows new audit_old audit_new faults_old faults_new begins plans added same =
      subst (λ (a : Result ReadStart SlotFault). TurnsAt (numbers_at site drawn) audit_old audit_new faults_old faults_new a turn.stub) (sym begins.0)
      (subst (λ (s : Option Stub). TurnsAt {T = ReadStart} (numbers_at site drawn) audit_old audit_new faults_old faults_new (Err (KeyFault why)) s) (sym begins.1.1)
      (refused_turn {T = ReadStart} site drawn (has_late entries.audit late) begins.1.0 why audit_old audit_new faults_old faults_new
      (ap (λ (e : Entry). e.ticket) plans.1.audit_is) begins.1.2 added same))

  pub begun_says : (state : KeyState) (plan : ReadPlan) (late : Option ChangeId) (turn : Turn ReadStart) (rows new : List PinRow)
      → BeginsPlan site plan late turn rows new → PlansRead site.turns at mode pick state plan → Says turn.stub (SaysRead at mode pick turn.answer)
  begun_says state (Gives start row entries) late turn rows new begins plans =
      says_entry turn.stub (has_late entries.audit late) (SaysRead at mode pick turn.answer) (told_entry site (has_late entries.audit late) None turn.stub begins.1)
      (subst (λ (a : Result ReadStart SlotFault). SaysRead at mode pick a (has_late entries.audit late)) (sym begins.0)
      (record { name_is = ap (λ (e : Entry). e.name) plans.1.entries_are.audit_is; deed_is = ap (λ (e : Entry). e.deed) plans.1.entries_are.audit_is }))
  begun_says state (Refuses why entries) late turn rows new begins plans =
      says_entry turn.stub (has_late entries.audit late) (SaysRead at mode pick turn.answer)
      (told_entry site (has_late entries.audit late) (Some (KeyFault why)) turn.stub begins.1)
      (subst (λ (a : Result ReadStart SlotFault). SaysRead at mode pick a (has_late entries.audit late)) (sym begins.0)
      (record { name_is = ap (λ (e : Entry). e.name) plans.1.audit_is; deed_is = ap (λ (e : Entry). e.deed) plans.1.audit_is }))

  -- and the pin that it lists
  pub begun_pins : (state : KeyState) (plan : ReadPlan) (late : Option ChangeId) (turn : Turn ReadStart) (rows old new : List PinRow) → rows ≡ old
      → BeginsPlan site plan late turn rows new → PlansRead site.turns at mode pick state plan → PinIsListed site.turns at turn.answer old new
  begun_pins state (Gives start row entries) late turn rows old new same begins plans =
      subst (λ (a : Result ReadStart SlotFault). PinIsListed site.turns at a old new) (sym begins.0)
      (row, plans.1.pin, begins.2 ∙ ap (λ (l : List PinRow). l ++ row ∷ []) same)
  begun_pins state (Refuses why entries) late turn rows old new same begins plans =
      subst (λ (a : Result ReadStart SlotFault). PinIsListed site.turns at a old new) (sym begins.0) (begins.2 ∙ same)

-- a pin of a read may begin
id_alone : (id other : VersionId) → Contains (id ∷ []) other → id ≡ other
id_alone id other there = elim (Contains-push_cases [] id other there) [
  | inl none ↦ absurd (let low = none.1 in omega arith)
  | inr same ↦ same
]

version_there : (versions : List Version) (place : ℕ) (v : Version) → slice_get versions place ≡ Some v → Contains versions v
version_there versions place v is = (place, slice_get_within versions place v is, get_or_from_slice_get versions place v v is)

to_pin : (at : Key) (pick : Pick) (state : KeyState) (ticket : ℕ) (start : ReadStart) (now : State) (p : Pinned) (id : VersionId)
    → SpellsKey (now.registers (key_name at)).content state → IsFound state pick start.version → IsReadPin ticket at start p → Contains p.ids id → IsToPin now p id
to_pin at pick state ticket start now p id spells found pin there = record {
  name = key_name at;
  named = pin.named;
  names = record {
    held = inr (inl (at, refl));
    names = inl (record {
      at = at;
      name_is = refl;
      state = state;
      spells = spells;
      version = start.version;
      there = version_there state.versions found.place start.version found.there;
      is = pin.object;
    });
  };
  id_is = id_alone pin.named.id id (subst (λ (l : List VersionId). Contains l id) pin.ids there);
  key = record { at = at; name_is = pin.name_is; given_is = inl refl };
  part = λ complete. absurd (let clash : ForRead ≡ ForComplete = sym pin.purpose ∙ complete in cc);
}

may_pin : (at : Key) (pick : Pick) (state : KeyState) (ticket : ℕ) (start : ReadStart) (now : State) (pins : List Pinned) (p : Pinned)
    → SpellsKey (now.registers (key_name at)).content state → IsFound state pick start.version → IsReadPin ticket at start p → IsNewTicket ticket pins → MayPin now pins p
may_pin at pick state ticket start now pins p spells found pin fresh = record {
  ticket = λ q there same. fresh q there (same ∙ pin.ticket_is);
  each = λ id there. to_pin at pick state ticket start now p id spells found pin there;
}

-- an id, of which nothing is said
some_id : VersionId
some_id =
    let ballot : Ballot = record { term = 1; seq = 1; term_fits = omega arith; seq_fits = omega arith } in
    let change : ChangeId = record { 0 = ballot } in
    record { change = change; slot = 0; slot_fits = omega arith; term_counts = omega arith; seq_counts = omega arith }

finds_read : (at : Key) (mode : Mode) (pick : Pick) (reply : Reply) (state : KeyState) (answer : Result ℕ KeyRefusal) (now : State)
    → SpellsKey (now.registers (key_name at)).content state → Reads state.versions pick answer → RepliesRead mode state.versions answer reply
    → Finds (key_name at) (Read at mode pick) reply now now
finds_read at mode pick reply state answer now spells reads replies = record {
  none_drawn = refl;
  id = some_id;
  does = record { name_is = refl; state = state; spells = spells; answer = answer; reads = reads; replies = replies; stays = refl };
  stays = refl;
}

module _ {D : Type 0} (tells : D → Bool) (files : D → Files) where
  -- a section that did a call which found what it asks for, or was refused it
  found_moves : (numbers later : SlotNumbers) (holding : Holding) (at : Key) (mode : Mode) (pick : Pick) (reply : Reply) (late : Option ChangeId)
      (Known : Records → State → Type 0) (lanes : List D) (ticket : ℕ) (entry : Entry) (told : Option Entry) (records : Records) (state : State)
      → (s : Settled tells files numbers later holding Known lanes records state)
      → told ≡ Some (has_late entry late) → entry ≡ read_entry ticket at mode pick reply
      → IsLast late (s.now.registers (key_name at)) → Finds (key_name at) (Read at mode pick) reply s.now s.now
      → EntryMoves numbers.index told ShowsNoMore records state s.after s.now
  found_moves numbers later holding at mode pick reply late Known lanes ticket entry told records state s is entry_is last finds =
      let moves : SectionMoves numbers.index (has_late (read_entry ticket at mode pick reply) late) records state s.after s.now = record {
        lates = s.lates;
        before = s.now;
        late_steps = s.late_steps;
        carried = s.carried;
        after = s.now;
        moves = record { late = last; deed = inr finds };
        own = inl refl;
        rests = λ p way. inl (s.rests p way);
      } in
      subst (λ (e : Option Entry). EntryMoves numbers.index e ShowsNoMore records state s.after s.now)
      (sym (is ∙ ap (λ (e : Entry). Some (has_late e late)) entry_is)) (moves, tt)

  -- what a read that was planned leaves
  pub begun_leaves : PinBegins → (site : Site) (drawn later : Drawn) (holding kept : Holding) (at : Key) (mode : Mode) (pick : Pick) (plan : ReadPlan) (late : Option ChangeId)
      (lanes : List D) (turn : Turn ReadStart) (rows new : List PinRow) (records : Records) (state : State)
      → BeginsPlan site plan late turn rows new → ReadHolds (numbers_at site drawn) at turn.answer holding kept → IsNewTicket site.turns holding.pins
      → Settled tells files (numbers_at site drawn) (numbers_at site later) holding (λ after now. KnownRead site.turns at mode pick plan late now) lanes records state
      → TurnLeaves tells files (numbers_at site drawn) (numbers_at site later) holding kept lanes turn.stub ShowsNoMore HandsStay records state
  begun_leaves keeps site drawn later holding kept at mode pick (Gives start row entries) late lanes turn rows new records state begins holds fresh s =
      let held = subst (λ (a : Result ReadStart SlotFault). ReadHolds (numbers_at site drawn) at a holding kept) begins.0 holds in
      let p : Pinned = held.0 in
      let pins : List Pinned = holding.pins ++ p ∷ [] in
      let known = s.known in
      let found : IsFound known.state pick start.version = known.plans.0 in
      let taken : TakesOut p pins holding.pins = record { front = holding.pins; rest = []; old_is = refl; new_is = sym (append-nil holding.pins) } in
      let may : MayPin s.now holding.pins p = may_pin at pick known.state site.turns start s.now holding.pins p known.spells found held.1 fresh in
      subst (λ (h : Holding). TurnLeaves tells files (numbers_at site drawn) (numbers_at site later) holding h lanes turn.stub ShowsNoMore HandsStay records state) (sym held.2)
      (record {
        after = s.after;
        now = s.now;
        stands = record { have = s.stands.have; stands = s.stands.stands };
        stay = s.stay;
        moves = found_moves (numbers_at site drawn) (numbers_at site later) holding at mode pick (found_reply mode start.version) late
            (λ after now. KnownRead site.turns at mode pick (Gives start row entries) late now) lanes site.turns entries.audit (entry_of turn.stub) records state s
            (told_entry site (has_late entries.audit late) None turn.stub begins.1) known.plans.1.entries_are.audit_is known.is_last
            (finds_read at mode pick (found_reply mode start.version) known.state (Ok found.place) s.now known.spells found.reads (start.version, found.there, refl));
        calm = look_calms (quorum_of (numbers_at site drawn)) (entry_of turn.stub) (has_late (read_entry site.turns at mode pick (found_reply mode start.version)) late)
            records state s.after s.now
            (told_entry site (has_late entries.audit late) None turn.stub begins.1 ∙ ap (λ (e : Entry). Some (has_late e late)) known.plans.1.entries_are.audit_is) refl s.calm;
        holds = λ disks hands after same d.
            subst (λ (h : Hands). DataStands site.set site.index (last_of (numbers_at site later)) s.after s.now (with_pins holding pins) disks h) (sym same)
            (keeps site.set site.index (last_of (numbers_at site later)) s.after s.now holding disks hands p pins s.stands.stands may taken (s.goes_on disks hands d));
      })
  begun_leaves keeps site drawn later holding kept at mode pick (Refuses why entries) late lanes turn rows new records state begins holds fresh s =
      let same_held : kept ≡ holding = subst (λ (a : Result ReadStart SlotFault). ReadHolds (numbers_at site drawn) at a holding kept) begins.0 holds in
      let known = s.known in
      subst (λ (h : Holding). TurnLeaves tells files (numbers_at site drawn) (numbers_at site later) holding h lanes turn.stub ShowsNoMore HandsStay records state) (sym same_held)
      (record {
        after = s.after;
        now = s.now;
        stands = s.stands;
        stay = s.stay;
        moves = found_moves (numbers_at site drawn) (numbers_at site later) holding at mode pick (RefusedReply (refusal_of why)) late
            (λ after now. KnownRead site.turns at mode pick (Refuses why entries) late now) lanes site.turns entries.audit (entry_of turn.stub) records state s
            (told_entry site (has_late entries.audit late) (Some (KeyFault why)) turn.stub begins.1) known.plans.1.audit_is known.is_last
            (finds_read at mode pick (RefusedReply (refusal_of why)) known.state (Err why) s.now known.spells known.plans.0 refl);
        calm = look_calms (quorum_of (numbers_at site drawn)) (entry_of turn.stub) (has_late (read_entry site.turns at mode pick (RefusedReply (refusal_of why))) late)
            records state s.after s.now
            (told_entry site (has_late entries.audit late) (Some (KeyFault why)) turn.stub begins.1 ∙ ap (λ (e : Entry). Some (has_late e late)) known.plans.1.audit_is) refl s.calm;
        holds = λ disks hands after same d.
            subst (λ (h : Hands). DataStands site.set site.index (last_of (numbers_at site later)) s.after s.now holding disks h) (sym same) (s.goes_on disks hands d);
      })

  -- what a refused read leaves in memory stays
  pub refused_kept : (numbers later : SlotNumbers) (at : Key) (answer : Result ReadStart SlotFault) (fault : SlotFault) (holding kept : Holding) (lanes : List D) (stub : Option Stub)
      (records : Records) (state : State) → answer ≡ Err fault → ReadHolds numbers at answer holding kept
      → TurnLeaves tells files numbers later holding holding lanes stub ShowsNoMore HandsStay records state
      → TurnLeaves tells files numbers later holding kept lanes stub ShowsNoMore HandsStay records state
  refused_kept numbers later at answer fault holding kept lanes stub records state is holds leaves =
      let same : kept ≡ holding = subst (λ (a : Result ReadStart SlotFault). ReadHolds numbers at a holding kept) is holds in
      subst (λ (h : Holding). TurnLeaves tells files numbers later holding h lanes stub ShowsNoMore HandsStay records state) (sym same) leaves

module _ {D : Type 0} (ghosts : Ghosts D) where
  -- what is due is told otherwise
  gave_due : (numbers later : SlotNumbers) (at : Key) (Due Told : KeyState → Type 0) (late : Option ChangeId) (old new disks disks_after : List D)
      → ((state : KeyState) → Due state → Told state)
      → ReadGave ghosts numbers later at Due late old new disks disks_after → ReadGave ghosts numbers later at Told late old new disks disks_after
  gave_due numbers later at Due Told late old new disks disks_after tell gave = record {
    content = gave.content;
    gave = gave.gave;
    completes = gave.completes;
    state = gave.state;
    spells = gave.spells;
    due = tell gave.state gave.due;
  }

  -- the cause of a read that was planned
  pub begun_cause : (site : Site) (numbers later : SlotNumbers) (at : Key) (mode : Mode) (pick : Pick) (plan : ReadPlan) (late : Option ChangeId) (turn : Turn ReadStart) (rows after : List PinRow)
      (old new disks disks_after : List D)
      → BeginsPlan site plan late turn rows after
      → ReadGave ghosts numbers later at (λ state. PlansRead site.turns at mode pick state plan) late old new disks disks_after
      → ReadCause ghosts numbers later at pick turn.answer (completed_by turn.stub) old new disks disks_after
  begun_cause site numbers later at mode pick (Gives start row entries) late turn rows after old new disks disks_after begins gave =
      subst (λ (l : Option ChangeId). ReadCause ghosts numbers later at pick turn.answer l old new disks disks_after)
      (sym (ap late_in (told_entry site (has_late entries.audit late) None turn.stub begins.1)))
      (subst (λ (a : Result ReadStart SlotFault). ReadCause ghosts numbers later at pick a late old new disks disks_after) (sym begins.0)
      (gave_due numbers later at (λ state. PlansRead site.turns at mode pick state (Gives start row entries)) (λ state. IsFound state pick start.version) late old new disks disks_after
      (λ state plans. plans.0) gave))
  begun_cause site numbers later at mode pick (Refuses why entries) late turn rows after old new disks disks_after begins gave =
      subst (λ (l : Option ChangeId). ReadCause ghosts numbers later at pick turn.answer l old new disks disks_after)
      (sym (ap late_in (told_entry site (has_late entries.audit late) (Some (KeyFault why)) turn.stub begins.1)))
      (subst (λ (a : Result ReadStart SlotFault). ReadCause ghosts numbers later at pick a late old new disks disks_after) (sym begins.0)
      (gave_due numbers later at (λ state. PlansRead site.turns at mode pick state (Refuses why entries)) (λ state. Reads state.versions pick (Err why)) late old new disks disks_after
      (λ state plans. plans.0) gave))

  -- the content that a read's look gave
  pub read_gave : (site : Site) (drawn later : Drawn) (name : List ℕ) (at : Key) (mode : Mode) (pick : Pick) (planned : Planned) (late : Option ChangeId)
      (old mid new disks disks_after : List D)
      → name ≡ key_name at → LooksForRead ghosts site drawn name at mode pick (Ok planned) old mid disks disks_after → FilesStay ghosts old mid
      → late ≡ late_of planned.ready.first → CallsForward ghosts site drawn later planned.ready.first (Ok late) mid new
      → ReadGave ghosts (numbers_at site drawn) (numbers_at site later) at (λ state. PlansRead site.turns at mode pick state planned.plan) late old new disks disks_after
  read_gave site drawn later name at mode pick planned late old mid new disks disks_after named looks stay told calls =
      let ready = planned.ready in
      let is = subst (λ (n : List ℕ). IsReady ghosts site drawn n (rule_for n) (longest_for n) ready old mid disks disks_after) named looks.0 in
      let gives = gives_of ghosts site drawn later (key_name at) (rule_for (key_name at)) (longest_for (key_name at)) ready
      (content_of ready.looked.base ready.looked.pending) late old mid new disks disks_after is stay refl told calls in
      record {
        content = content_of ready.looked.base ready.looked.pending;
        gave = gives.0;
        completes = gives.1;
        state = looks.1.state;
        spells = looks.1.spells;
        due = looks.1.plans;
      }

-- the state that a rule kept is that of the content
pub spelled : (kept : Option KeyState) (first second : Option VersionId) (content : List ℕ) (state : KeyState)
    → (s : KeyState) × (kept ≡ Some s) × IsRead first second content s → kept ≡ Some state → SpellsKey content state
spelled kept first second content state read is =
    let same : read.0 ≡ state = (let both : Some read.0 ≡ Some state = sym read.1 ∙ is in cc) in
    subst (λ (s : KeyState). SpellsKey content s) same read.2.spells
