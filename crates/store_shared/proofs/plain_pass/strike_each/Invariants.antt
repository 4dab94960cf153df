use Rattle.std.proofs.Common.{◌≡◌, ◌<◌, ◌≤◌, ℕ, slice_index_or}
use Rattle.slot_core.specs.declared.slot.Slot.{Slot}
use Rattle.store_shared.specs.Striking.{SlotIsStruck}
use Rattle.store_shared.proofs.plain_pass.strike_each.Given as goal

-- the slots so far are struck, the others are as they were, and the first is struck by the trouble as it was given
abbrev pub invariant-loop-slot : goal.invariant-loop-slot
invariant-loop-slot g l = record {
  struck : (k : ℕ) (d : Slot g.row.D.Denot g.row.A.Denot) → k < l.slot-index
      → SlotIsStruck g.D.Drive g.T.Trouble.befalls l.index k l.initial.trouble (slice_index_or l.initial.slots k d) (slice_index_or l.slots k d);
  others : (k : ℕ) (d : Slot g.row.D.Denot g.row.A.Denot) → l.slot-index ≤ k → slice_index_or l.slots k d ≡ slice_index_or l.initial.slots k d;
  first : l.slot-index ≡ 0 → l.trouble ≡ l.initial.trouble;
}
