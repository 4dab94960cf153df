use Rattle.std.proofs.Common.{◌≡◌, ◌<◌, ℕ, true, false, slice_index_or}
use Rattle.call_types.specs.Good.{is_good}
use Rattle.call_types.specs.declared.why.Why.TheVariants.{Good}
use Rattle.put_stage.specs.declared.dues.Due.TheVariants.{Block, Nothing}
use Rattle.put_stage.proofs.fills.append_next.Given as goal

-- a block is due on the drives so far that serve
abbrev pub invariant-loop-index : goal.invariant-loop-index
invariant-loop-index l = record {
  serving : (k : ℕ) → k < l.index → is_good (slice_index_or l.whys k Good) ≡ true → slice_index_or l.dues k Nothing ≡ Block;
  others : (k : ℕ) → is_good (slice_index_or l.whys k Good) ≡ false → slice_index_or l.dues k Nothing ≡ slice_index_or l.initial.dues k Nothing;
}
