-- What a section leaves of the state, by its entry.
use Rattle.std.proofs.Common.{◌≡◌, ◌≢◌, ◌≤◌, ◌∙◌, ℕ, List, Option, None, Some, Result, Ok, Err, length, ap, subst, sym, refl, inl}
use Rattle.std.specs.Prelude.{Bool, MatchOption}
use Rattle.drive_base.specs.declared.drive.Drive.{Ghosts}
use Rattle.drive_base.specs.Files.{Files}
use Rattle.stamp_id.specs.declared.stamp.ChangeId.{ChangeId}
use Rattle.call_types.specs.declared.refusal.KeyRefusal.{KeyRefusal}
use Rattle.audit_trail.specs.Entries.{with_entry}
use Rattle.audit_trail.specs.declared.entry.Entry.{Entry}
use Rattle.register_file.specs.declared.record.Base.{Base}
use Rattle.register_core.specs.declared.drafts.Draft.{Draft}
use Rattle.register_core.specs.declared.faults.QuorumFault.{QuorumFault}
use Rattle.register_core.specs.declared.faults.QuorumFault.TheVariants.{ReadQuorum, WriteQuorum, Undecided, NoMemory}
use Rattle.slot_history.specs.Moving.{IsLast}
use Rattle.slot_history.specs.Sections.{SectionMoves}
use Rattle.slot_history.specs.Standing.{Records}
use Rattle.slot_history.specs.State.{Register, State}
use Rattle.slot_data.specs.Holding.{Hands, Holding}
use Rattle.slot_data.specs.Standing.{DataStands}
use Rattle.slot_data.proofs.HandsLemmas.{numbers_are_drawn}
use Rattle.slot_rules.specs.Rules.{longest_for, rule_for}
use Rattle.slot_rules.specs.declared.site.Drawn.{Drawn}
use Rattle.slot_rules.specs.declared.site.Site.{Site}
use Rattle.slot_core.specs.Causes.{LookCause}
use Rattle.slot_core.specs.Hands.{HandsStay}
use Rattle.slot_core.specs.RegisterLook.{CallsForward, WritesFirst}
use Rattle.slot_core.specs.PeekSection.{GivesBy, GivesOver, IsRefusal, KnownContent, TurnsAt}
use Rattle.slot_core.specs.AuditEntry.{WritesDown, has_late, kept_entry}
use Rattle.slot_core.specs.Sections.{ShowsContent}
use Rattle.slot_core.specs.Settlement.{Settled, SettledOn, numbers_at}
use Rattle.slot_core.specs.Standing.{SlotStands}
use Rattle.slot_core.specs.Stubs.{AuditHas, entry_of}
use Rattle.slot_core.specs.Turns.{EntryMoves, TurnLeaves}
use Rattle.slot_core.specs.Views.{SlotNumbers, last_of, quorum_of}
use Rattle.slot_core.specs.declared.slot.SlotFault.{SlotFault}
use Rattle.slot_core.specs.declared.slot.SlotFault.TheVariants.{Key as KeyFault}
use Rattle.slot_core.specs.declared.peek_section.Peeked.{Peeked}
use Rattle.slot_core.specs.declared.stub.Stub.{Stub}
use Rattle.slot_core.proofs.CalmingLemmas.{look_calms, none_calms}
use Rattle.slot_core.proofs.CauseLemmas.{writes_have_memory}
use Rattle.slot_core.proofs.LaneLemmas.{have_after_look}
use Rattle.slot_core.specs.LanesStay.{FilesStay, TellsStay}

-- what is known of a register that was settled, as of its content
pub known_content : (name : List ℕ) (base : Base) (content copy : List ℕ) (late : Option ChangeId) (records : Records) (state : State) → copy ≡ content
    → SettledOn name base content late records state → KnownContent name copy late state
known_content name base content copy late records state same known = record {
  content_is = same ∙ ap (λ (r : Register). r.content) (sym known.register_is);
  is_last = known.is_last;
}

-- an entry of which its change is told
pub late_entry : (ticket : ℕ) (name : List ℕ) (late : Option ChangeId) (entry : Entry) (stub : Option Entry) → entry ≡ kept_entry ticket name None
    → stub ≡ Some (has_late entry late) → stub ≡ Some (kept_entry ticket name late)
late_entry ticket name late entry stub is told = told ∙ ap (λ (e : Entry). Some (has_late e late)) is

module _ {D : Type 0} (tells : D → Bool) (files : D → Files) where
  -- what is known may be told otherwise
  pub settled_known : (numbers later : SlotNumbers) (holding : Holding) (Known Told : Records → State → Type 0) (lanes : List D) (records : Records) (state : State)
      → ((after : Records) (now : State) → Known after now → Told after now)
      → Settled tells files numbers later holding Known lanes records state → Settled tells files numbers later holding Told lanes records state
  settled_known numbers later holding Known Told lanes records state tell s = record {
    after = s.after;
    now = s.now;
    stands = s.stands;
    stay = s.stay;
    lates = s.lates;
    late_steps = s.late_steps;
    carried = s.carried;
    rests = s.rests;
    calm = s.calm;
    known = tell s.after s.now s.known;
    goes_on = s.goes_on;
  }

  -- a section that did nothing of its own
  pub kept_turn : (numbers later : SlotNumbers) (holding : Holding) (name : List ℕ) (late : Option ChangeId) (Known : Records → State → Type 0)
      (Shows : State → State → Type 0) (lanes : List D) (stub : Option Stub) (ticket : ℕ) (records : Records) (state : State)
      → entry_of stub ≡ Some (kept_entry ticket name late)
      → ((after : Records) (now : State) → Known after now → IsLast late (now.registers name))
      → ((after : Records) (now : State) → Known after now → Shows now now)
      → Settled tells files numbers later holding Known lanes records state
      → TurnLeaves tells files numbers later holding holding lanes stub Shows HandsStay records state
  kept_turn numbers later holding name late Known Shows lanes stub ticket records state entry last shows s =
      let moves : SectionMoves numbers.index (kept_entry ticket name late) records state s.after s.now = record {
        lates = s.lates;
        before = s.now;
        late_steps = s.late_steps;
        carried = s.carried;
        after = s.now;
        moves = record { late = last s.after s.now s.known; deed = refl };
        own = inl refl;
        rests = λ p way. inl (s.rests p way);
      } in
      record {
        after = s.after;
        now = s.now;
        stands = s.stands;
        stay = s.stay;
        moves = subst (λ (e : Option Entry). EntryMoves numbers.index e Shows records state s.after s.now) (sym entry) (moves, shows s.after s.now s.known);
        calm = look_calms (quorum_of numbers) (entry_of stub) (kept_entry ticket name late) records state s.after s.now entry tt s.calm;
        holds = λ disks hands rest same d. subst (λ (h : Hands). DataStands numbers.set numbers.index (last_of later) s.after s.now holding disks h) (sym same)
            (s.goes_on disks hands d);
      }

  -- a section that wrote no entry: nothing moved
  pub no_turn : (numbers later : SlotNumbers) (holding : Holding) (Shows : State → State → Type 0) (lanes : List D) (stub : Option Stub) (records : Records) (state : State)
      → stub ≡ None → last_of numbers ≤ last_of later → SlotStands tells files later holding.flights lanes records state
      → TurnLeaves tells files numbers later holding holding lanes stub Shows HandsStay records state
  no_turn numbers later holding Shows lanes stub records state none low s = record {
    after = records;
    now = state;
    stands = s;
    stay = λ name k is_out. refl;
    moves = subst (λ (t : Option Stub). EntryMoves numbers.index (entry_of t) Shows records state records state) (sym none) (refl, refl);
    calm = none_calms (quorum_of numbers) (entry_of stub) records state (ap entry_of none);
    holds = λ disks hands rest same d. subst (λ (h : Hands). DataStands numbers.set numbers.index (last_of later) records state holding disks h) (sym same)
        (numbers_are_drawn numbers.set numbers.index (last_of numbers) (last_of later) records state holding disks hands low d);
  }

  -- what a refusal leaves
  pub refusal_leaves : {T : Type 0} (numbers later : SlotNumbers) (holding : Holding) (Known : T → Option ChangeId → State → Type 0) (fault : QuorumFault) (peeked : Peeked T)
      (lanes : List D) (records : Records) (state : State)
      → IsRefusal fault peeked → Settled tells files numbers later holding (λ after now. Unit {0}) lanes records state
      → (fault ≡ NoMemory → SlotStands tells files later holding.flights lanes records state)
      → GivesOver tells files numbers later holding Known peeked lanes records state
  refusal_leaves {T} numbers later holding Known (ReadQuorum whys) peeked lanes records state is s none =
      subst (λ (p : Peeked T). GivesOver tells files numbers later holding Known p lanes records state) (sym is) s
  refusal_leaves {T} numbers later holding Known (WriteQuorum whys) peeked lanes records state is s none =
      subst (λ (p : Peeked T). GivesOver tells files numbers later holding Known p lanes records state) (sym is) s
  refusal_leaves {T} numbers later holding Known (Undecided k u whys) peeked lanes records state is s none =
      subst (λ (p : Peeked T). GivesOver tells files numbers later holding Known p lanes records state) (sym is) s
  refusal_leaves {T} numbers later holding Known NoMemory peeked lanes records state is s none =
      subst (λ (p : Peeked T). GivesOver tells files numbers later holding Known p lanes records state) (sym is) (none refl)

module _ {D : Type 0} (ghosts : Ghosts D) where
  -- the calls of a refusal
  pub refusal_calls : {T : Type 0} (numbers later : SlotNumbers) (name : List ℕ) (Gave : T → Option ChangeId → Type 0) (fault : QuorumFault) (peeked : Peeked T)
      (old new disks disks_after : List D) → IsRefusal fault peeked
      → (fault ≢ NoMemory → LookCause ghosts numbers later name (rule_for name) (longest_for name) fault old new disks disks_after)
      → (fault ≡ NoMemory → FilesStay ghosts old new) → GivesBy ghosts numbers later name Gave peeked old new disks disks_after
  refusal_calls {T} numbers later name Gave (ReadQuorum whys) peeked old new disks disks_after is cause none =
      subst (λ (p : Peeked T). GivesBy ghosts numbers later name Gave p old new disks disks_after) (sym is) (λ same. absurd cc, cause (λ same. absurd cc))
  refusal_calls {T} numbers later name Gave (WriteQuorum whys) peeked old new disks disks_after is cause none =
      subst (λ (p : Peeked T). GivesBy ghosts numbers later name Gave p old new disks disks_after) (sym is) (λ same. absurd cc, cause (λ same. absurd cc))
  refusal_calls {T} numbers later name Gave (Undecided k u whys) peeked old new disks disks_after is cause none =
      subst (λ (p : Peeked T). GivesBy ghosts numbers later name Gave p old new disks disks_after) (sym is) (λ same. absurd cc, cause (λ same. absurd cc))
  refusal_calls {T} numbers later name Gave NoMemory peeked old new disks disks_after is cause none =
      subst (λ (p : Peeked T). GivesBy ghosts numbers later name Gave p old new disks disks_after) (sym is) (none refl)

  -- completing what is pending isn't refused for want of memory
  pub forward_has_memory : (site : Site) (drawn later : Drawn) (first : Option Draft) (fault : QuorumFault) (old new : List D)
      → CallsForward ghosts site drawn later first (Err fault) old new → fault ≡ NoMemory → ⊥
  forward_has_memory site drawn later first fault old new calls same =
      let writes : WritesFirst ghosts site drawn later first (Err NoMemory) old new =
      subst (λ (f : QuorumFault). WritesFirst ghosts site drawn later first (Err f) old new) same calls in
      writes_have_memory ghosts writes.draft site.set.out site.term drawn.count later.count old new writes.writes

  -- lanes that were only looked at stand for the same
  pub stands_looked : (numbers : SlotNumbers) (holding : Holding) (old new : List D) (records : Records) (state : State) → length new ≡ length old
      → FilesStay ghosts old new → TellsStay ghosts old new → SlotStands ghosts.tells ghosts.files numbers holding.flights old records state
      → SlotStands ghosts.tells ghosts.files numbers holding.flights new records state
  stands_looked numbers holding old new records state long stay tells_stay s =
      record { have = have_after_look ghosts numbers old new records long stay tells_stay s.have; stands = s.stands }

-- a refusal shows nothing
pub shows_refused : (name : List ℕ) (answer : Result (List ℕ) SlotFault) (fault : SlotFault) (before after : State) → answer ≡ Err fault → ShowsContent name answer before after
shows_refused name answer fault before after is = subst (λ (a : Result (List ℕ) SlotFault). ShowsContent name a before after) (sym is) tt

-- the entry of a stub that was written down
pub written_entry : (ticket : ℕ) (name : List ℕ) (late : Option ChangeId) (entry : Entry) (stub : Option Stub) (made : Stub) → entry ≡ kept_entry ticket name None
    → stub ≡ Some made → made.entry ≡ Some (has_late entry late) → entry_of stub ≡ Some (kept_entry ticket name late)
written_entry ticket name late entry stub made is some told = ap entry_of some ∙ late_entry ticket name late entry made.entry is told

-- what a section tells that wrote its entry down
has_entry : (entry : Entry) (stub : Stub) (audit_old audit_new : Option (List Entry)) → stub.entry ≡ Some entry → audit_new ≡ with_entry audit_old entry
    → AuditHas (Some stub) audit_old audit_new
has_entry entry stub audit_old audit_new is added =
    subst (λ (e : Option Entry). MatchOption e (audit_new ≡ audit_old) (λ written. audit_new ≡ with_entry audit_old written)) (sym is) added

pub wrote_turn : {T : Type 0} (site : Site) (drawn : Drawn) (entry : Entry) (stub : Stub) (given : T) (audit_old audit_new : Option (List Entry)) (faults_old faults_new : ℕ)
    → entry.ticket ≡ site.turns → WritesDown site entry None stub → audit_new ≡ with_entry audit_old entry → faults_new ≡ faults_old
    → TurnsAt (numbers_at site drawn) audit_old audit_new faults_old faults_new (Ok given) (Some stub)
wrote_turn site drawn entry stub given audit_old audit_new faults_old faults_new ticket writes added same = record {
  stub_is = (stub, refl, (entry, ticket, record { slot = writes.slot; ticket = writes.ticket; entry_is = writes.entry_is; fault_is = writes.fault_is }));
  audit = has_entry entry stub audit_old audit_new writes.entry_is added;
  faults = same;
  unspent = λ spent. absurd cc;
}

-- the same of a section that the state of the key refuses
pub refused_turn : {T : Type 0} (site : Site) (drawn : Drawn) (entry : Entry) (stub : Stub) (why : KeyRefusal) (audit_old audit_new : Option (List Entry)) (faults_old faults_new : ℕ)
    → entry.ticket ≡ site.turns → WritesDown site entry (Some (KeyFault why)) stub → audit_new ≡ with_entry audit_old entry → faults_new ≡ faults_old
    → TurnsAt {T = T} (numbers_at site drawn) audit_old audit_new faults_old faults_new (Err (KeyFault why)) (Some stub)
refused_turn site drawn entry stub why audit_old audit_new faults_old faults_new ticket writes added same = record {
  stub_is = (stub, refl, (entry, ticket, record { slot = writes.slot; ticket = writes.ticket; entry_is = writes.entry_is; fault_is = writes.fault_is }));
  audit = has_entry entry stub audit_old audit_new writes.entry_is added;
  faults = same;
  unspent = λ spent. absurd cc;
}
