-- What a commit leaves, by the entry that it wrote.
use Rattle.std.proofs.Common.{◌≡◌, ◌∙◌, ℕ, List, [], ◌++◌, Option, None, Some, Result, Err, All, ap, subst, sym, refl, inl, inr}
use Rattle.std.specs.Prelude.{MatchOption}
use Rattle.std.proofs.lemmas.List.{append-nil}
use Rattle.drive_base.specs.declared.drive.Drive.{Ghosts}
use Rattle.stamp_id.specs.declared.version.VersionId.{VersionId}
use Rattle.audit_trail.specs.declared.entry.Deed.{Deed}
use Rattle.audit_trail.specs.Entries.{with_entry}
use Rattle.audit_trail.specs.declared.entry.Deed.TheVariants.{Kept as KeptDeed}
use Rattle.audit_trail.specs.declared.entry.Entry.{Entry}
use Rattle.slot_history.specs.Standing.{Flying, Records}
use Rattle.slot_history.specs.State.{State}
use Rattle.slot_data.specs.Bringing.{GoOn}
use Rattle.slot_data.specs.Disks.{Disks}
use Rattle.slot_data.specs.Holding.{Hands, Holding}
use Rattle.slot_data.specs.Standing.{DataStands}
use Rattle.slot_data.specs.declared.rows.FlightRow.{FlightRow}
use Rattle.slot_rules.specs.Deeds.{IsOfNoPart, name_of}
use Rattle.slot_rules.specs.Taking.{TakesRow}
use Rattle.slot_rules.specs.declared.commit.Commit.{Commit}
use Rattle.slot_rules.specs.declared.commit.Committed.{Committed}
use Rattle.slot_rules.specs.declared.site.Drawn.{Drawn}
use Rattle.slot_rules.specs.declared.site.Site.{Site}
use Rattle.slot_core.specs.CommitOutcome.{EntryLeaves, FitsPut, Lands, answer_told, entry_at, entry_told, kept_with}
use Rattle.slot_core.specs.CommitCauses.{CommitCause}
use Rattle.slot_core.specs.Calm.{SectionCalms}
use Rattle.slot_core.specs.Commits.{GoneByAnswer, MayCommitData, NothingBegun, SaysCommit, ShowsTrash, TrashGrows}
use Rattle.slot_core.specs.CommitPlan.{CommitLeaves}
use Rattle.slot_core.specs.CommitSection.{IsMissed}
use Rattle.slot_core.specs.PutEnds.{ChecksLanding}
use Rattle.slot_core.specs.CommitOpening.{IsUnreserved}
use Rattle.slot_core.specs.PeekSection.{TurnsAt}
use Rattle.slot_core.specs.AuditEntry.{Reserves, WritesDown, kept_entry}
use Rattle.slot_core.specs.Settlement.{numbers_at}
use Rattle.slot_core.specs.Stubs.{AuditCounts, Says, StubOfEntry, entry_of}
use Rattle.slot_core.specs.Turns.{EntryMoves, Leaves, TurnLeaves}
use Rattle.slot_core.specs.Views.{SlotNumbers, last_of, quorum_of}
use Rattle.slot_core.specs.declared.commit_write.Outcome.{Outcome}
use Rattle.slot_core.specs.declared.flights.Landing.TheVariants.{Missing}
use Rattle.slot_core.specs.declared.slot.SlotFault.{SlotFault}
use Rattle.slot_core.specs.declared.slot.SlotFault.TheVariants.{NotInFlight}
use Rattle.slot_core.specs.declared.audit_entry.ReserveFault.{ReserveFault}
use Rattle.slot_core.specs.declared.audit_entry.ReserveFault.TheVariants.{Failed, NoMemory}
use Rattle.slot_core.specs.declared.stub.Stub.{Stub}
use Rattle.slot_core.specs.declared.stub.Turn.{Turn}
use Rattle.slot_core.proofs.CalmingLemmas.{none_calms}
use Rattle.slot_core.proofs.CarryLemmas.{entry_leaves, kept_leaves}
use Rattle.slot_core.proofs.ConcludeLemmas.{audit_has, missing_stub, written_entry_of}
use Rattle.slot_core.proofs.DeemingLemmas.{deed_held}
use Rattle.slot_core.proofs.LandLemmas.{LandLaws, land_data, land_stands}
use Rattle.slot_core.proofs.SettlingLemmas.{looked_settled}

-- where no row has the id, none is taken
pub land_missing : (r : Option FlightRow) (id : VersionId) (old new : List FlightRow) → r ≡ None → TakesRow (λ (row : FlightRow). row.id ≡ id) r old new
    → (id ≡ id) × (All (λ (row : FlightRow). row.id ≡ id → ⊥) old × (new ≡ old))
land_missing r id old new none takes = (refl, subst (λ (o : Option FlightRow). TakesRow (λ (row : FlightRow). row.id ≡ id) o old new) none takes)

-- ---- turns that wrote no entry

pub lost_entry : (site : Site) (why : ReserveFault) (turn : Turn Committed) → IsUnreserved site why turn → entry_of turn.stub ≡ None
lost_entry site (Failed before after) turn is = ap entry_of is.stub_is ∙ is.no_entry
lost_entry site NoMemory turn is = ap entry_of is.stub

pub lost_begun : (site : Site) (why : ReserveFault) (turn : Turn Committed) → IsUnreserved site why turn → NothingBegun turn.answer
lost_begun site (Failed before after) turn is = subst NothingBegun (sym is.answer) tt
lost_begun site NoMemory turn is = subst NothingBegun (sym is.answer) tt

pub lost_not_missing : (site : Site) (why : ReserveFault) (turn : Turn Committed) (id : VersionId) → IsUnreserved site why turn → turn.answer ≡ Err (NotInFlight id) → ⊥
lost_not_missing site (Failed before after) turn id is same = let both = sym is.answer ∙ same in absurd cc
lost_not_missing site NoMemory turn id is same = let both = sym is.answer ∙ same in absurd cc

pub lost_gone : (site : Site) (why : ReserveFault) (turn : Turn Committed) (trash : List VersionId) → IsUnreserved site why turn
    → (more : List VersionId) × (trash ≡ trash ++ more) × GoneByAnswer turn.answer more
lost_gone site (Failed before after) turn trash is =
    ([], sym (append-nil trash), subst (λ (a : Result Committed SlotFault). GoneByAnswer a []) (sym is.answer) refl)
lost_gone site NoMemory turn trash is = ([], sym (append-nil trash), subst (λ (a : Result Committed SlotFault). GoneByAnswer a []) (sym is.answer) refl)

pub lost_says : (site : Site) (why : ReserveFault) (turn : Turn Committed) (What : Entry → Type 0) → IsUnreserved site why turn → Says turn.stub What
lost_says site why turn What is = subst (λ (e : Option Entry). MatchOption e (Unit {0}) What) (sym (lost_entry site why turn is)) tt

pub lost_turns : (site : Site) (drawn : Drawn) (why : ReserveFault) (turn : Turn Committed) (before after : Option (List Entry)) (old new : ℕ) → IsUnreserved site why turn
    → after ≡ before → Reserves {T = Unit {0}} old new (Err why) → TurnsAt (numbers_at site drawn) before after old new turn.answer turn.stub
lost_turns site drawn (Failed b a) turn before after old new is same counts = record {
  stub_is = subst (λ (x : Result Committed SlotFault). StubOfEntry (numbers_at site drawn) x turn.stub) (sym is.answer)
      (is.stub, is.stub_is, record { slot = is.slot; ticket = is.ticket; entry_is = is.no_entry; fault_is = is.fault_is });
  audit = subst (λ (e : Option Entry). MatchOption e (after ≡ before) (λ x. after ≡ with_entry before x)) (sym (lost_entry site (Failed b a) turn is)) same;
  faults = subst (λ (x : Result Committed SlotFault). AuditCounts x old new) (sym is.answer) counts;
  unspent = λ spent. let both = sym is.answer ∙ spent in absurd cc;
}
lost_turns site drawn NoMemory turn before after old new is same counts = record {
  stub_is = subst (λ (x : Result Committed SlotFault). StubOfEntry (numbers_at site drawn) x turn.stub) (sym is.answer) is.stub;
  audit = subst (λ (e : Option Entry). MatchOption e (after ≡ before) (λ x. after ≡ with_entry before x)) (sym (lost_entry site NoMemory turn is)) same;
  faults = subst (λ (x : Result Committed SlotFault). AuditCounts x old new) (sym is.answer) counts;
  unspent = λ spent. let both = sym is.answer ∙ spent in absurd cc;
}

-- ---- the refusal of a put that isn't in flight

pub missing_same : (x id : VersionId) (turn : Turn Committed) → turn.answer ≡ Err (NotInFlight id) → turn.answer ≡ Err (NotInFlight x) → x ≡ id
missing_same x id turn is same = let both = sym is ∙ same in cc

pub missing_says : (ticket : ℕ) (deed : Commit) (now : ℕ) (id : VersionId) (turn : Turn Committed) → turn.answer ≡ Err (NotInFlight id)
    → entry_of turn.stub ≡ Some (kept_entry ticket (name_of deed) None) → Says turn.stub (SaysCommit deed now turn.answer)
missing_says ticket deed now id turn is entry =
    subst (λ (e : Option Entry). MatchOption e (Unit {0}) (SaysCommit deed now turn.answer)) (sym entry)
    (subst (λ (a : Result Committed SlotFault). SaysCommit deed now a (kept_entry ticket (name_of deed) None)) (sym is) (record { name_is = refl; deed_is = refl }))

pub missing_turns : (site : Site) (drawn : Drawn) (id : VersionId) (entry : Entry) (turn : Turn Committed) (made : Stub) (before mid after : Option (List Entry)) (old new : ℕ)
    → turn.answer ≡ Err (NotInFlight id) → turn.stub ≡ Some made → WritesDown site entry (Some (NotInFlight id)) made → entry.ticket ≡ site.turns
    → mid ≡ before → after ≡ with_entry mid entry → new ≡ old → TurnsAt (numbers_at site drawn) before after old new turn.answer turn.stub
missing_turns site drawn id entry turn made before mid after old new is some down ticket same added counts = record {
  stub_is = missing_stub site drawn id entry turn.answer turn.stub made is some down ticket;
  audit = audit_has turn.stub entry before after (written_entry_of site entry (Some (NotInFlight id)) turn.stub made some down)
      (added ∙ ap (λ (l : Option (List Entry)). with_entry l entry) same);
  faults = subst (λ (x : Result Committed SlotFault). AuditCounts x old new) (sym is) counts;
  unspent = λ spent. let both = sym is ∙ spent in absurd cc;
}

-- ---- so a turn whose put was missed

pub missed_begun : (site : Site) (name : List ℕ) (id : VersionId) (turn : Turn Committed) → IsMissed site name id turn → NothingBegun turn.answer
missed_begun site name id turn (inl lost) = lost_begun site lost.0 turn lost.1
missed_begun site name id turn (inr kept) = subst NothingBegun (sym kept.0) tt

pub missed_checks : (site : Site) (name : List ℕ) (put : VersionId) (turn : Turn Committed) → IsMissed site name put turn → ChecksLanding (Missing put) turn.answer
missed_checks site name put turn (inl lost) = (
  lost_begun site lost.0 turn lost.1,
  λ x same. absurd (lost_not_missing site lost.0 turn x lost.1 same),
)
missed_checks site name put turn (inr kept) = (subst NothingBegun (sym kept.0) tt, λ x same. missing_same x put turn kept.0 same)

pub missed_says : (site : Site) (deed : Commit) (now : ℕ) (id : VersionId) (turn : Turn Committed) → IsMissed site (name_of deed) id turn
    → Says turn.stub (SaysCommit deed now turn.answer)
missed_says site deed now id turn (inl lost) = lost_says site lost.0 turn (SaysCommit deed now turn.answer) lost.1
missed_says site deed now id turn (inr kept) = missing_says site.turns deed now id turn kept.0 kept.1

pub missed_gone : (site : Site) (name : List ℕ) (id : VersionId) (turn : Turn Committed) (trash : List VersionId) → IsMissed site name id turn
    → TrashGrows turn.answer trash trash
missed_gone site name id turn trash (inl lost) = lost_gone site lost.0 turn trash lost.1
missed_gone site name id turn trash (inr kept) =
    ([], sym (append-nil trash), subst (λ (a : Result Committed SlotFault). GoneByAnswer a []) (sym kept.0) refl)

module _ {D : Type 0} (ghosts : Ghosts D) where
  pub lost_cause : (numbers later : SlotNumbers) (deed : Commit) (put : Option VersionId) (now : ℕ) (site : Site) (why : ReserveFault) (turn : Turn Committed) (entered : Deed)
      (old disks disks_after : List D) → IsUnreserved site why turn → CommitCause ghosts numbers later deed put now turn.answer entered old old disks disks_after
  lost_cause numbers later deed put now site (Failed before after) turn entered old disks disks_after is =
      subst (λ (a : Result Committed SlotFault). CommitCause ghosts numbers later deed put now a entered old old disks disks_after) (sym is.answer) refl
  lost_cause numbers later deed put now site NoMemory turn entered old disks disks_after is =
      subst (λ (a : Result Committed SlotFault). CommitCause ghosts numbers later deed put now a entered old old disks disks_after) (sym is.answer) (λ k d low told. refl)

  -- ---- what turns leave

  -- by the entry
  pub entry_turn : (numbers later : SlotNumbers) (held kept : Holding) (lanes : List D) (entry : Option Entry) (stub : Option Stub) (Shows : State → State → Type 0)
      (Moves : Disks → Hands → Hands → Type 0) (records : Records) (state : State) → entry_of stub ≡ entry
      → EntryLeaves ghosts.tells ghosts.files numbers later held kept lanes entry Shows Moves records state
      → TurnLeaves ghosts.tells ghosts.files numbers later held kept lanes stub Shows Moves records state
  entry_turn numbers later held kept lanes entry stub Shows Moves records state is leaves = record {
    after = leaves.after;
    now = leaves.now;
    stands = leaves.stands;
    stay = leaves.stay;
    moves = subst (λ (e : Option Entry). EntryMoves numbers.index e Shows records state leaves.after leaves.now) (sym is) leaves.moves;
    calm = subst (λ (e : Option Entry). SectionCalms (quorum_of numbers) e records state leaves.after leaves.now) (sym is) leaves.calm;
    holds = leaves.holds;
  }

  -- a section that wrote no entry, where its put ends
  pub lost_leaves : LandLaws → (site : Site) (drawn : Drawn) (deed : Commit) (put : Option VersionId) (before trash : List VersionId) (lanes : List D) (stub : Option Stub)
      (Shows : State → State → Type 0) (holding : Holding) (rest : List Flying) → entry_of stub ≡ None → Lands put holding.flights rest → holding.trash ≡ before → trash ≡ before
      → Leaves ghosts.tells ghosts.files (numbers_at site drawn) (numbers_at site drawn) holding (kept_with holding rest trash) lanes lanes stub Shows
      (MayCommitData deed (kept_with holding rest trash))
  lost_leaves laws site drawn deed put before trash lanes stub Shows holding rest none lands was same records state s =
      let kept : kept_with holding rest holding.trash ≡ kept_with holding rest trash = ap (λ (t : List VersionId). kept_with holding rest t) (was ∙ sym same) in
      record {
        after = records;
        now = state;
        stands = record { have = s.have; stands = land_stands laws site.set (last_of (numbers_at site drawn)) holding rest records state put lands s.stands };
        stay = λ name k is_out. refl;
        moves = subst (λ (e : Option Entry). EntryMoves site.index e Shows records state records state) (sym none) (refl, refl);
        calm = none_calms (quorum_of (numbers_at site drawn)) (entry_of stub) records state none;
        holds = λ disks hands less may d. subst (λ (h : Holding). DataStands site.set site.index (last_of (numbers_at site drawn)) records state h disks less) kept
            (land_data laws site.set site.index (last_of (numbers_at site drawn)) holding rest records state put disks hands less lands s.stands
            (subst (λ (h : Holding). GoOn hands less h) (sym kept) may.goes_on) d);
      }

  -- a section that wrote that it did nothing of its own
  pub missing_leaves : LandLaws → (site : Site) (drawn : Drawn) (deed : Commit) (before trash : List VersionId) (lanes : List D) (stub : Option Stub)
      (answer : Result Committed SlotFault) (id : VersionId) (holding : Holding) (rest : List Flying) → answer ≡ Err (NotInFlight id)
      → entry_of stub ≡ Some (entry_at site.turns (name_of deed) None KeptDeed) → Lands None holding.flights rest → holding.trash ≡ before → trash ≡ before
      → Leaves ghosts.tells ghosts.files (numbers_at site drawn) (numbers_at site drawn) holding (kept_with holding rest trash) lanes lanes stub (ShowsTrash deed answer before trash)
      (MayCommitData deed (kept_with holding rest trash))
  missing_leaves laws site drawn deed before trash lanes stub answer id holding rest told entry lands was same records state s =
      let settled = looked_settled {D = D} ghosts (numbers_at site drawn) holding (λ after now. Unit {0}) lanes lanes records state refl (λ k d low t. refl) (λ k d low. refl) tt s in
      entry_turn (numbers_at site drawn) (numbers_at site drawn) holding (kept_with holding rest trash) lanes (Some (entry_at site.turns (name_of deed) None KeptDeed)) stub
      (ShowsTrash deed answer before trash) (MayCommitData deed (kept_with holding rest trash)) records state entry
      (subst (λ (a : Result Committed SlotFault). EntryLeaves ghosts.tells ghosts.files (numbers_at site drawn) (numbers_at site drawn) holding (kept_with holding rest trash) lanes
      (Some (entry_at site.turns (name_of deed) None KeptDeed)) (ShowsTrash deed a before trash) (MayCommitData deed (kept_with holding rest trash)) records state) (sym told)
      (entry_leaves {D = D} ghosts.tells ghosts.files site drawn drawn drawn holding (kept_with holding rest trash) (name_of deed) None KeptDeed site.turns (λ after now. Unit {0}) lanes lanes
      (λ before_it after. Unit {0}) (λ disks hands less. MayCommitData deed (kept_with holding rest trash) disks hands less) records state (λ after now known. tt) settled
      (kept_leaves {D = D} ghosts.tells ghosts.files laws site drawn deed holding rest None before trash lanes settled.after settled.now settled.stands lands was same)))

  -- a commit whose put was missed
  pub missed_leaves : LandLaws → (site : Site) (drawn : Drawn) (deed : Commit) (id : VersionId) (trash : List VersionId) (lanes : List D) (turn : Turn Committed)
      (holding : Holding) (rest : List Flying) → IsMissed site (name_of deed) id turn → Lands None holding.flights rest → holding.trash ≡ trash
      → Leaves ghosts.tells ghosts.files (numbers_at site drawn) (numbers_at site drawn) holding (kept_with holding rest trash) lanes lanes turn.stub
      (ShowsTrash deed turn.answer trash trash) (MayCommitData deed (kept_with holding rest trash))
  missed_leaves laws site drawn deed id trash lanes turn holding rest (inl lost) lands was =
      lost_leaves laws site drawn deed None trash trash lanes turn.stub (ShowsTrash deed turn.answer trash trash) holding rest
      (lost_entry site lost.0 turn lost.1) lands was refl
  missed_leaves laws site drawn deed id trash lanes turn holding rest (inr kept) lands was =
      missing_leaves laws site drawn deed trash trash lanes turn.stub turn.answer id holding rest kept.0 kept.1 lands was refl

  pub missed_cause : (numbers later : SlotNumbers) (deed : Commit) (put : Option VersionId) (now : ℕ) (site : Site) (name : List ℕ) (id : VersionId) (turn : Turn Committed)
      (entered : Deed) (old disks disks_after : List D) → IsMissed site name id turn
      → CommitCause ghosts numbers later deed put now turn.answer entered old old disks disks_after
  missed_cause numbers later deed put now site name id turn entered old disks disks_after (inl lost) =
      lost_cause numbers later deed put now site lost.0 turn entered old disks disks_after lost.1
  missed_cause numbers later deed put now site name id turn entered old disks disks_after (inr kept) =
      subst (λ (a : Result Committed SlotFault). CommitCause ghosts numbers later deed put now a entered old old disks disks_after) (sym kept.0) refl

  -- a commit, by what came of it
  pub outcome_leaves : (site : Site) (drawn later : Drawn) (deed : Commit) (put : Option VersionId) (outcome : Outcome) (before trash : List VersionId) (old new : List D)
      (answer : Result Committed SlotFault) (stub : Option Stub) (holding : Holding) (rest : List Flying) → IsOfNoPart deed → answer ≡ answer_told outcome
      → entry_of stub ≡ entry_told site.turns (name_of deed) outcome → CommitLeaves ghosts.tells ghosts.files site drawn later deed put outcome before trash old new
      → Lands put holding.flights rest → FitsPut deed put → holding.trash ≡ before
      → Leaves ghosts.tells ghosts.files (numbers_at site drawn) (numbers_at site later) holding (kept_with holding rest trash) old new stub (ShowsTrash deed answer before trash)
      (MayCommitData deed (kept_with holding rest trash))
  outcome_leaves site drawn later deed put outcome before trash old new answer stub holding rest whole answered entry leaves lands fits was records state s =
      entry_turn (numbers_at site drawn) (numbers_at site later) holding (kept_with holding rest trash) new (entry_told site.turns (name_of deed) outcome) stub
      (ShowsTrash deed answer before trash) (MayCommitData deed (kept_with holding rest trash)) records state entry
      (subst (λ (a : Result Committed SlotFault). EntryLeaves ghosts.tells ghosts.files (numbers_at site drawn) (numbers_at site later) holding (kept_with holding rest trash) new
      (entry_told site.turns (name_of deed) outcome) (ShowsTrash deed a before trash) (MayCommitData deed (kept_with holding rest trash)) records state) (sym answered)
      (leaves holding rest records state (deed_held deed whole state.registers) s lands fits was))
