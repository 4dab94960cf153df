use Rattle.std.proofs.Common.{◌≡◌, ◌<◌, ◌≤◌, ℕ, length, slice_index_or}
use Rattle.std.specs.Prelude.{IsTrue, IsSome}
use Rattle.std.specs.BTreeMap.{get_by_text}
use Rattle.std.specs.Int.{IsBitSet}
use Rattle.drive_base.specs.View.{GoesOn, view}
use Rattle.register_core.specs.LaneWrites.{letter_at}
use Rattle.slot_core.specs.NamePages.{AreGathered}
use Rattle.slot_core.specs.NameList.{NamesLetter}
use Rattle.slot_core.proofs.name_list.shown_names.Given as goal

-- the lanes so far have their letters and their names are gathered, those that are out stay, each tells what it told, and the others are as they were
abbrev pub invariant-loop-index : goal.invariant-loop-index
invariant-loop-index g l = let D = g.D.Drive in record {
  long : length l.whys ≡ length l.initial.lanes;
  letters : (k : ℕ) (d : g.row.D.Denot) → k < l.index
      → NamesLetter (IsBitSet l.out k) (letter_at l.whys k) (D.count (slice_index_or l.initial.lanes k d)) (D.count (slice_index_or l.lanes k d));
  gathered : AreGathered D.tells D.files l.index l.from l.most l.whys (λ name. IsSome (get_by_text l.gathered name)) l.initial.lanes;
  stay : (k : ℕ) (d : g.row.D.Denot) → IsBitSet l.out k → slice_index_or l.lanes k d ≡ slice_index_or l.initial.lanes k d;
  files : (k : ℕ) (d : g.row.D.Denot) → IsTrue (D.tells (slice_index_or l.initial.lanes k d))
      → D.files (slice_index_or l.lanes k d) ≡ D.files (slice_index_or l.initial.lanes k d);
  goes_on : (k : ℕ) (d : g.row.D.Denot) → GoesOn (view D (slice_index_or l.initial.lanes k d)) (view D (slice_index_or l.lanes k d));
  others : (k : ℕ) (d : g.row.D.Denot) → l.index ≤ k → slice_index_or l.lanes k d ≡ slice_index_or l.initial.lanes k d;
}
