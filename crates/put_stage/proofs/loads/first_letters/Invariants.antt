use Rattle.std.proofs.Common.{◌≡◌, ◌<◌, ℕ, length, slice_index_or}
use Rattle.std.specs.Int.{IsBitSet}
use Rattle.call_types.specs.declared.why.FileKind.TheVariants.{Format}
use Rattle.call_types.specs.declared.why.Why.TheVariants.{Good, Lacks}
use Rattle.put_stage.proofs.loads.first_letters.Given as goal

-- the drives so far that are out lack their format files, and the letters of all others are good
abbrev pub invariant-loop-index : goal.invariant-loop-index
invariant-loop-index l = record {
  long : length l.whys ≡ l.set.drives;
  out : (k : ℕ) → k < l.index → IsBitSet l.set.out k → slice_index_or l.whys k Good ≡ Lacks Format;
  in_use : (k : ℕ) → k < l.set.drives → (IsBitSet l.set.out k → ⊥) → slice_index_or l.whys k Good ≡ Good;
}
