-- Sections that only read their lanes, and write that they did nothing of their own.
use Rattle.std.specs.Prelude.{◌≡◌, ℕ, ◌<◌, Bool, IsTrue, List, [], length, slice_index_or, Option, Some, None, refl}
use Rattle.std.specs.Int.{IsBitSet}
use Rattle.std.proofs.Common.{sym, ◌∙◌, subst, inl, arith}
use Rattle.stamp_id.specs.declared.stamp.ChangeId.{ChangeId}
use Rattle.audit_trail.specs.declared.entry.Deed.{Deed}
use Rattle.audit_trail.specs.declared.entry.Deed.TheVariants.{Kept}
use Rattle.audit_trail.specs.declared.entry.Entry.{Entry}
use Rattle.drive_base.specs.declared.drive.Drive.{Ghosts}
use Rattle.drive_base.specs.Files.{Files}
use Rattle.drive_base.specs.Plan.{write_drives}
use Rattle.drive_base.specs.declared.plan.SetPlan.{SetPlan}
use Rattle.register_core.specs.Loose.{loose_name}
use Rattle.register_core.specs.Records.{HasLane, IsHonest}
use Rattle.vote_core.specs.Lane.{lane_at}
use Rattle.slot_history.specs.Moving.{Deeds, IsLast}
use Rattle.slot_history.specs.Sections.{IsOnItsWay, SectionMoves}
use Rattle.slot_history.specs.Standing.{Records, Stands}
use Rattle.slot_history.specs.State.{State}
use Rattle.slot_data.specs.Holding.{Hands, Holding}
use Rattle.slot_data.specs.Standing.{DataStands}
use Rattle.slot_core.proofs.CalmingLemmas.{all_stays, look_calms, none_calms}
use Rattle.slot_core.proofs.QuietLemmas.{have_later, last_stays}
use Rattle.slot_core.specs.Calm.{OnlyLooked}
use Rattle.slot_core.specs.Hands.{HandsStay}
use Rattle.slot_core.specs.Numbers.{NumbersMove}
use Rattle.slot_core.specs.Standing.{LanesHave, SlotStands}
use Rattle.slot_core.specs.Stubs.{entry_of}
use Rattle.slot_core.specs.Turns.{EntryMoves, Leaves, TurnLeaves}
use Rattle.slot_core.specs.Views.{SlotNumbers, last_of, quorum_of}
use Rattle.slot_core.specs.declared.stub.Stub.{Stub}
use Rattle.slot_core.specs.LanesStay.{FilesStay, TellsStay}

-- an entry of a section that did nothing, and completed nothing, moves a state to itself
abbrev pub kept_moves : (slot : ℕ) (entry : Entry) (records_old records_new : Records) (state : State) → entry.late ≡ None → entry.deed ≡ Kept
    → records_new ≡ records_old → SectionMoves slot entry records_old state records_new state
kept_moves slot entry records_old records_new state late deed same = record {
  lates = [];
  before = state;
  late_steps = refl;
  carried = λ p there. absurd (omega (arith, there.1));
  after = state;
  moves = record {
    late = subst (λ (change : Option ChangeId). IsLast change (state.registers entry.name)) (sym late) tt;
    deed = subst (λ (made : Deed). Deeds slot entry.name made state state) (sym deed) refl;
  };
  own = inl refl;
  rests = λ p way. inl (subst (λ (records : Records). IsOnItsWay records state p) same way);
}

-- lanes that were only read have the records that they had
pub have_read : {D : Type 0} (ghosts : Ghosts D) (numbers : SlotNumbers) (old new : List D) (records : Records)
    → length new ≡ length old → FilesStay ghosts old new → TellsStay ghosts old new
    → LanesHave ghosts.tells ghosts.files numbers old records → LanesHave ghosts.tells ghosts.files numbers new records
have_read {D} ghosts numbers old new records long stay told have = record {
  tell = λ k d within used. subst (λ (b : Bool). IsTrue b) (sym (told k d (low k within))) (have.tell k d (low k within) used);
  unused = λ k d later within used above small. subst (λ (f : Files). f.loose (loose_name numbers.term later) ≡ None) (sym (same k d (low k within) used))
      (have.unused k d later (low k within) used above small);
  unused_later = λ term after fits k d later within used above small. subst (λ (f : Files). f.loose (loose_name term later) ≡ None) (sym (same k d (low k within) used))
      (have.unused_later term after fits k d later (low k within) used above small);
  honest = λ name k d within used. subst (λ (f : Files). IsHonest (f.kept name) (f.shown name)) (sym (same k d (low k within) used))
      (have.honest name k d (low k within) used);
  are = λ name. record {
    counted = (have.are name).counted ∙ sym long;
    each = λ k d within used. subst (λ (f : Files). HasLane (f.kept name) (lane_at (records name) k)) (sym (same k d (low k within) used))
        ((have.are name).each k d (low k within) used);
  };
}
  where
    low : (k : ℕ) → k < length new → k < length old
    low k within = let counted = long in omega arith

    same : (k : ℕ) (d : D) → k < length old → (IsBitSet numbers.set.out k → ⊥) → ghosts.files (slice_index_or new k d) ≡ ghosts.files (slice_index_or old k d)
    same k d within used = stay k d within (have.tell k d within used)

-- a section that only read its lanes, and wrote that it did nothing, leaves what they stand for
pub kept_leaves : {D : Type 0} (ghosts : Ghosts D) (old later : SlotNumbers) (held kept : Holding) (lanes new : List D)
    (stub : Option Stub) (entry : Entry) (Shows : State → State → Type 0)
    → NumbersMove old later → later.seq ≡ old.seq → kept ≡ held → length new ≡ length lanes
    → FilesStay ghosts lanes new → TellsStay ghosts lanes new
    → entry_of stub ≡ Some entry → entry.late ≡ None → entry.deed ≡ Kept
    → ((records : Records) (state : State) → SlotStands ghosts.tells ghosts.files old held.flights lanes records state → Shows state state)
    → Leaves ghosts.tells ghosts.files old later held kept lanes new stub Shows HandsStay
kept_leaves ghosts old later held kept lanes new stub entry Shows moves drawn same long stay told is late deed shows records state standing =
    subst (λ (h : Holding). TurnLeaves ghosts.tells ghosts.files old later held h new stub Shows HandsStay records state) (sym same) (record {
      after = records;
      now = state;
      stands = record {
        have = have_later ghosts.tells ghosts.files old later new records moves (have_read ghosts old lanes new records long stay told standing.have);
        stands = subst (λ (s : SetPlan). Stands (write_drives s.drives s.parity) s.drives (last_of later) held.flights records state) (sym moves.set)
            (subst (λ (last : ℕ). Stands (write_drives old.set.drives old.set.parity) old.set.drives last held.flights records state) (last_stays old later moves drawn) standing.stands);
      };
      stay = λ name k is_out. refl;
      moves = subst (λ (e : Option Entry). EntryMoves old.index e Shows records state records state) (sym is)
          (kept_moves old.index entry records records state late deed refl, shows records state standing);
      calm = look_calms (quorum_of old) (entry_of stub) entry records state records state is (subst OnlyLooked (sym deed) tt) (λ name calm. all_stays records state name);
      holds = λ disks hands after may holds. subst (λ (h : Hands). DataStands old.set old.index (last_of later) records state held disks h) (sym may)
          (subst (λ (last : ℕ). DataStands old.set old.index last records state held disks hands) (last_stays old later moves drawn) holds);
    })

-- a section that only read its lanes, and wrote no entry, leaves it too
pub read_leaves : {D : Type 0} (ghosts : Ghosts D) (old later : SlotNumbers) (held kept : Holding) (lanes new : List D)
    (stub : Option Stub) (Shows : State → State → Type 0)
    → NumbersMove old later → later.seq ≡ old.seq → kept ≡ held → length new ≡ length lanes
    → FilesStay ghosts lanes new → TellsStay ghosts lanes new → entry_of stub ≡ None
    → Leaves ghosts.tells ghosts.files old later held kept lanes new stub Shows HandsStay
read_leaves ghosts old later held kept lanes new stub Shows moves drawn same long stay told none records state standing =
    subst (λ (h : Holding). TurnLeaves ghosts.tells ghosts.files old later held h new stub Shows HandsStay records state) (sym same) (record {
      after = records;
      now = state;
      stands = record {
        have = have_later ghosts.tells ghosts.files old later new records moves (have_read ghosts old lanes new records long stay told standing.have);
        stands = subst (λ (s : SetPlan). Stands (write_drives s.drives s.parity) s.drives (last_of later) held.flights records state) (sym moves.set)
            (subst (λ (last : ℕ). Stands (write_drives old.set.drives old.set.parity) old.set.drives last held.flights records state) (last_stays old later moves drawn) standing.stands);
      };
      stay = λ name k is_out. refl;
      moves = subst (λ (e : Option Entry). EntryMoves old.index e Shows records state records state) (sym none) (refl, refl);
      calm = none_calms (quorum_of old) (entry_of stub) records state none;
      holds = λ disks hands after may holds. subst (λ (h : Hands). DataStands old.set old.index (last_of later) records state held disks h) (sym may)
          (subst (λ (last : ℕ). DataStands old.set old.index last records state held disks hands) (last_stays old later moves drawn) holds);
    })

-- what is so of lanes is so of the same lanes by other names
pub on_lanes : {T : Type 0} (R : List T → List T → Type 0) (seen old now new : List T) → seen ≡ old → now ≡ new → R seen now → R old new
on_lanes {T} R seen old now new first second is = subst (λ (l : List T). R old l) second (subst (λ (l : List T). R l now) first is)
