-- Sections that call no lane and write no entry leave what the lanes stand for.
use Rattle.std.proofs.Common.{◌≡◌, ◌∙◌, ℕ, ◌+◌, ◌*◌, ◌^◌, ◌<◌, ◌≤◌, Bool, List, Option, None, map, inl, inr, refl, sym, subst, ap, arith}
use Rattle.stamp_id.specs.declared.version.VersionId.{VersionId}
use Rattle.audit_trail.specs.declared.entry.Entry.{Entry}
use Rattle.call_types.specs.declared.names.Key.{Key}
use Rattle.drive_base.specs.Files.{Files}
use Rattle.drive_base.specs.Plan.{write_drives}
use Rattle.drive_base.specs.declared.plan.SetPlan.{SetPlan}
use Rattle.register_core.specs.OnLanes.{AllTell, AreHonest, AreLanes, AreUnused}
use Rattle.slot_history.proofs.TakenLemmas.{left_there}
use Rattle.slot_history.specs.Contents.{number_of_id}
use Rattle.slot_history.specs.Laws.{FlightsBegin, FlightsEnd}
use Rattle.slot_history.specs.Standing.{Flying, Records, Stands}
use Rattle.slot_history.specs.State.{State, TakesOut}
use Rattle.slot_data.specs.Disks.{Disks}
use Rattle.slot_data.specs.Holding.{Hands, Holding, Pinned}
use Rattle.slot_data.specs.Laws.{PinEnds, PutBegins, PutIsGivenUp, TrashIsTaken}
use Rattle.slot_data.specs.Moves.{LanesStand, given_up, with_flight, with_pins, with_taken, with_trash}
use Rattle.slot_data.specs.Rows.{PinsAreFound, pinned_of}
use Rattle.slot_data.specs.Standing.{DataStands}
use Rattle.slot_data.specs.declared.rows.PinRow.{PinRow}
use Rattle.slot_core.proofs.CalmingLemmas.{none_calms}
use Rattle.slot_core.proofs.TakingLemmas.{taken_of_first}
use Rattle.slot_core.specs.Hands.{HandsStay}
use Rattle.slot_core.specs.Numbers.{NumbersMove}
use Rattle.slot_core.specs.Sections.{BeginsPut, MayGiveUp, MayLetGo, PinGoes, PutGoes, ShowsNoMore, TakesFirst}
use Rattle.slot_core.specs.Standing.{LanesHave}
use Rattle.slot_core.specs.Stubs.{entry_of}
use Rattle.slot_core.specs.Turns.{EntryMoves, Leaves}
use Rattle.slot_core.specs.Views.{SlotNumbers, last_of, quorum_of}
use Rattle.slot_core.specs.declared.holding.Flight.{Flight}
use Rattle.slot_core.specs.declared.stub.Stub.{Stub}

-- loose names that are still to come from an earlier number on are so from a later one on
unused_from : {D : Type 0} (files : D → Files) (out term from to : ℕ) (lanes : List D) → from ≤ to → AreUnused files out term from lanes → AreUnused files out term to lanes
unused_from files out term from to lanes le unused k d number within used above small = unused k d number within used (omega arith) small

-- lanes that are as they were have their records under later numbers
pub have_later : {D : Type 0} (tells : D → Bool) (files : D → Files) (old later : SlotNumbers) (lanes : List D) (records : Records)
    → NumbersMove old later → LanesHave tells files old lanes records → LanesHave tells files later lanes records
have_later tells files old later lanes records moves have = record {
  tell = subst (λ (s : SetPlan). AllTell tells s.out lanes) (sym moves.set) have.tell;
  unused = subst (λ (s : SetPlan). AreUnused files s.out later.term later.count lanes) (sym moves.set)
      (subst (λ (t : ℕ). AreUnused files old.set.out t later.count lanes) (sym moves.term)
      (unused_from files old.set.out old.term old.count later.count lanes moves.count have.unused));
  unused_later = λ term above fits. subst (λ (s : SetPlan). AreUnused files s.out term 0 lanes) (sym moves.set)
      (have.unused_later term (subst (λ (t : ℕ). t < term) moves.term above) fits);
  honest = λ name. subst (λ (s : SetPlan). AreHonest files s.out name lanes) (sym moves.set) (have.honest name);
  are = λ name. subst (λ (s : SetPlan). AreLanes files s.out name lanes (records name)) (sym moves.set) (have.are name);
}

-- a section that leaves its lanes and writes no entry leaves what they stand for, where the puts that it lists and the data allow it
pub quiet_leaves : {D : Type 0} (tells : D → Bool) (files : D → Files) (old later : SlotNumbers) (held kept : Holding) (lanes : List D) (stub : Option Stub)
    (Moves : Disks → Hands → Hands → Type 0)
    → NumbersMove old later → entry_of stub ≡ None
    → ((records : Records) (state : State) → LanesStand old.set (last_of old) held records state → LanesStand old.set (last_of later) kept records state)
    → ((records : Records) (state : State) (disks : Disks) (hands after : Hands) → LanesStand old.set (last_of old) held records state → Moves disks hands after
    → DataStands old.set old.index (last_of old) records state held disks hands → DataStands old.set old.index (last_of later) records state kept disks after)
    → Leaves tells files old later held kept lanes lanes stub ShowsNoMore Moves
quiet_leaves tells files old later held kept lanes stub Moves moves none stands keeps records state standing = record {
  after = records;
  now = state;
  stands = record {
    have = have_later tells files old later lanes records moves standing.have;
    stands = subst (λ (s : SetPlan). Stands (write_drives s.drives s.parity) s.drives (last_of later) kept.flights records state) (sym moves.set)
        (stands records state standing.stands);
  };
  stay = λ name k is_out. refl;
  moves = subst (λ (e : Option Entry). EntryMoves old.index e ShowsNoMore records state records state) (sym none) (refl, refl);
  calm = none_calms (quorum_of old) (entry_of stub) records state none;
  holds = λ disks hands after may holds. keeps records state disks hands after standing.stands may holds;
}

-- the last number stays where none was drawn
pub last_stays : (old later : SlotNumbers) → NumbersMove old later → later.seq ≡ old.seq → last_of old ≡ last_of later
last_stays old later moves drawn = sym (ap (λ (t : ℕ). t * 2 ^ 64 + later.seq) moves.term ∙ ap (λ (s : ℕ). old.term * 2 ^ 64 + s) drawn)

-- a section that did nothing leaves what the lanes stand for
pub nothing_leaves : {D : Type 0} (tells : D → Bool) (files : D → Files) (old later : SlotNumbers) (held kept : Holding) (lanes : List D) (stub : Option Stub)
    (Moves : Disks → Hands → Hands → Type 0)
    → NumbersMove old later → later.seq ≡ old.seq → kept ≡ held → entry_of stub ≡ None
    → ((disks : Disks) (hands after : Hands) → Moves disks hands after → after ≡ hands)
    → Leaves tells files old later held kept lanes lanes stub ShowsNoMore Moves
nothing_leaves tells files old later held kept lanes stub Moves moves drawn same none stay =
    subst (λ (h : Holding). Leaves tells files old later held h lanes lanes stub ShowsNoMore Moves) (sym same)
    (quiet_leaves tells files old later held held lanes stub Moves moves none
    (λ records state stands. subst (λ (last : ℕ). LanesStand old.set last held records state) (last_stays old later moves drawn) stands)
    (λ records state disks hands after stands may holds. subst (λ (h : Hands). DataStands old.set old.index (last_of later) records state held disks h) (sym (stay disks hands after may))
    (subst (λ (last : ℕ). DataStands old.set old.index last records state held disks hands) (last_stays old later moves drawn) holds)))

-- a put that begins leaves it too
pub begin_leaves : {D : Type 0} (tells : D → Bool) (files : D → Files) (old later : SlotNumbers) (at : Key) (flight : Flight) (held kept : Holding) (lanes : List D) (stub : Option Stub)
    → FlightsBegin → PutBegins → NumbersMove old later → BeginsPut old later at flight held kept → entry_of stub ≡ None
    → Leaves tells files old later held kept lanes lanes stub ShowsNoMore HandsStay
begin_leaves tells files old later at flight held kept lanes stub flights keeps moves begins none =
    subst (λ (h : Holding). Leaves tells files old later held h lanes lanes stub ShowsNoMore HandsStay) (sym begins.listed)
    (quiet_leaves tells files old later held (with_flight held f) lanes stub HandsStay moves none
    (λ records state stands. subst (λ (last : ℕ). LanesStand old.set last (with_flight held f) records state) drawn_is
    (flights (write_drives old.set.drives old.set.parity) old.set.drives (last_of old) held.flights f records state stands above))
    (λ records state disks hands after stands may holds. subst (λ (h : Hands). DataStands old.set old.index (last_of later) records state (with_flight held f) disks h) (sym may)
    (subst (λ (last : ℕ). DataStands old.set old.index last records state (with_flight held f) disks hands) drawn_is
    (keeps old.set old.index (last_of old) records state held disks hands f stands above begins.slot holds))))
  where
    f : Flying
    f = record { id = flight.id; name = flight.name }

    number_is : number_of_id flight.id ≡ old.term * 2 ^ 64 + (old.seq + 1)
    number_is = ap (λ (t : ℕ). t * 2 ^ 64 + flight.id.change.0.seq) begins.term ∙ ap (λ (s : ℕ). old.term * 2 ^ 64 + s) begins.seq

    drawn_is : number_of_id flight.id ≡ last_of later
    drawn_is = number_is ∙ sym (ap (λ (t : ℕ). t * 2 ^ 64 + later.seq) moves.term ∙ ap (λ (s : ℕ). old.term * 2 ^ 64 + s) begins.drawn)

    above : last_of old < number_of_id flight.id
    above = let is = number_is in omega arith

-- so does a put that is given up
pub drop_leaves : {D : Type 0} (tells : D → Bool) (files : D → Files) (old later : SlotNumbers) (id : VersionId) (held kept : Holding) (lanes : List D) (stub : Option Stub)
    → FlightsEnd → PutIsGivenUp → NumbersMove old later → later.seq ≡ old.seq → PutGoes id held kept → entry_of stub ≡ None
    → Leaves tells files old later held kept lanes lanes stub ShowsNoMore (MayGiveUp id)
drop_leaves {D} tells files old later id held kept lanes stub flights keeps moves drawn goes none = elim goes [
  | inl t ↦ gone t.0 t.1 t.2 t.3 t.4
  | inr stays ↦ nothing_leaves tells files old later held kept lanes stub (MayGiveUp id) moves drawn stays.1 none (λ disks hands after may. may.0)
]
  where
    gone : (f : Flying) (rest : List Flying) → f.id ≡ id → TakesOut f held.flights rest → kept ≡ given_up held rest id
        → Leaves tells files old later held kept lanes lanes stub ShowsNoMore (MayGiveUp id)
    gone f rest is taken left =
        subst (λ (h : Holding). Leaves tells files old later held h lanes lanes stub ShowsNoMore (MayGiveUp id)) (sym left)
        (quiet_leaves tells files old later held (given_up held rest id) lanes stub (MayGiveUp id) moves none
        (λ records state stands. subst (λ (last : ℕ). LanesStand old.set last (given_up held rest id) records state) (last_stays old later moves drawn)
        (flights (write_drives old.set.drives old.set.parity) old.set.drives (last_of old) held.flights rest records state (left_there f held.flights rest taken) stands))
        (λ records state disks hands after stands may holds. subst (λ (h : Hands). DataStands old.set old.index (last_of later) records state (given_up held rest id) disks h) (sym may.0)
        (subst (λ (last : ℕ). DataStands old.set old.index last records state (given_up held rest id) disks hands) (last_stays old later moves drawn)
        (subst (λ (y : VersionId). DataStands old.set old.index (last_of old) records state (given_up held rest y) disks hands) is
        (keeps old.set old.index (last_of old) records state held disks hands f rest stands taken (λ x there same. may.1 x there (same ∙ is)) holds)))))

-- and so does a pin that ends
pub pin_leaves : {D : Type 0} (tells : D → Bool) (files : D → Files) (old later : SlotNumbers) (ticket : ℕ) (held kept : Holding) (lanes : List D) (stub : Option Stub)
    → PinEnds → NumbersMove old later → later.seq ≡ old.seq → PinGoes ticket held kept → entry_of stub ≡ None
    → Leaves tells files old later held kept lanes lanes stub ShowsNoMore (MayLetGo old.set ticket held)
pin_leaves {D} tells files old later ticket held kept lanes stub keeps moves drawn goes none = elim goes [
  | inl t ↦ gone t.0 t.1 t.2 t.3 t.4
  | inr stays ↦ nothing_leaves tells files old later held kept lanes stub (MayLetGo old.set ticket held) moves drawn stays.1 none (λ disks hands after may. may.0)
]
  where
    gone : (p : Pinned) (rest : List Pinned) → p.ticket ≡ ticket → TakesOut p held.pins rest → kept ≡ with_pins held rest
        → Leaves tells files old later held kept lanes lanes stub ShowsNoMore (MayLetGo old.set ticket held)
    gone p rest is taken left =
        subst (λ (h : Holding). Leaves tells files old later held h lanes lanes stub ShowsNoMore (MayLetGo old.set ticket held)) (sym left)
        (quiet_leaves tells files old later held (with_pins held rest) lanes stub (MayLetGo old.set ticket held) moves none
        (λ records state stands. subst (λ (last : ℕ). LanesStand old.set last held records state) (last_stays old later moves drawn) stands)
        (λ records state disks hands after stands may holds. subst (λ (h : Hands). DataStands old.set old.index (last_of later) records state (with_pins held rest) disks h) (sym may.0)
        (subst (λ (last : ℕ). DataStands old.set old.index last records state (with_pins held rest) disks hands) (last_stays old later moves drawn)
        (keeps old.set old.index (last_of old) records state held disks hands p rest taken (may.1 p rest is taken) holds))))

-- and trash that is taken
pub trash_leaves : {D : Type 0} (tells : D → Bool) (files : D → Files) (old later : SlotNumbers) (most : ℕ) (rows : List PinRow) (held kept : Holding)
    (ids : List VersionId) (lanes : List D) (stub : Option Stub) (Moves : Disks → Hands → Hands → Type 0)
    → TrashIsTaken → PinsAreFound → ((disks : Disks) (hands after : Hands) → Moves disks hands after → after ≡ with_taken hands ids)
    → NumbersMove old later → later.seq ≡ old.seq → held.pins ≡ map pinned_of rows → TakesFirst most rows held kept ids → entry_of stub ≡ None
    → Leaves tells files old later held kept lanes lanes stub ShowsNoMore Moves
trash_leaves tells files old later most rows held kept ids lanes stub Moves keeps found taken moves drawn pins first none =
    subst (λ (h : Holding). Leaves tells files old later held h lanes lanes stub ShowsNoMore Moves) (sym kept_is)
    (quiet_leaves tells files old later held (with_trash held kept.trash) lanes stub Moves moves none
    (λ records state stands. subst (λ (last : ℕ). LanesStand old.set last held records state) (last_stays old later moves drawn) stands)
    (λ records state disks hands after stands may holds. subst (λ (h : Hands). DataStands old.set old.index (last_of later) records state (with_trash held kept.trash) disks h) (sym (taken disks hands after may))
    (subst (λ (last : ℕ). DataStands old.set old.index last records state (with_trash held kept.trash) disks (with_taken hands ids)) (last_stays old later moves drawn)
    (keeps old.set old.index (last_of old) records state held disks hands ids kept.trash (taken_of_first most rows held kept ids pins found first) holds))))
  where
    kept_is : kept ≡ with_trash held kept.trash
    kept_is = first.left ∙ ap (λ (l : List VersionId). with_trash held l) (sym (ap (λ (h : Holding). h.trash) first.left))

-- the same of lanes by another name
pub leaves_with : {D : Type 0} (tells : D → Bool) (files : D → Files) (old later : SlotNumbers) (held kept : Holding) (lanes mid new : List D) (stub : Option Stub)
    (Shows : State → State → Type 0) (Moves : Disks → Hands → Hands → Type 0)
    → new ≡ mid → Leaves tells files old later held kept lanes mid stub Shows Moves → Leaves tells files old later held kept lanes new stub Shows Moves
leaves_with {D} tells files old later held kept lanes mid new stub Shows Moves same leaves =
    subst (λ (l : List D). Leaves tells files old later held kept lanes l stub Shows Moves) (sym same) leaves

-- and where the lanes are as they were
pub leaves_on : {D : Type 0} (tells : D → Bool) (files : D → Files) (old later : SlotNumbers) (held kept : Holding) (lanes new : List D) (stub : Option Stub)
    (Shows : State → State → Type 0) (Moves : Disks → Hands → Hands → Type 0)
    → new ≡ lanes → Leaves tells files old later held kept lanes lanes stub Shows Moves → Leaves tells files old later held kept lanes new stub Shows Moves
leaves_on tells files old later held kept lanes new stub Shows Moves same leaves =
    leaves_with tells files old later held kept lanes lanes new stub Shows Moves same leaves

-- one turn later, with this last number
pub moves_by : (old later : SlotNumbers) (seq : ℕ) → old.seq ≤ seq → seq ≤ old.seq + 3
    → later ≡ record { set = old.set; index = old.index; term = old.term; turns = old.turns + 1; seq = seq; count = old.count } → NumbersMove old later
moves_by old later seq rises few is = record {
  set = ap (λ (n : SlotNumbers). n.set) is;
  index = ap (λ (n : SlotNumbers). n.index) is;
  term = ap (λ (n : SlotNumbers). n.term) is;
  turns = ap (λ (n : SlotNumbers). n.turns) is;
  seq = let same = ap (λ (n : SlotNumbers). n.seq) is in omega arith;
  few_seq = let same = ap (λ (n : SlotNumbers). n.seq) is in omega arith;
  count = let same = ap (λ (n : SlotNumbers). n.count) is in omega arith;
  few_count = let same = ap (λ (n : SlotNumbers). n.count) is in omega arith;
}
