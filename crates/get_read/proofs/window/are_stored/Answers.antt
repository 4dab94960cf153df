use Rattle.std.proofs.Common.{rules, ◌≡◌, ◌+◌, ◌-◌, ◌*◌, ◌∙◌, ℕ, [], slice_index_or, take, drop, ap, refl, sym, inl, inr, arith}
use Rattle.std.proofs.lemmas.Bool.{cases_lt}
use Rattle.shard_file.specs.Stripes.{piece}
use Rattle.get_read.proofs.WindowLemmas.{sliced}
use Rattle.get_read.proofs.window.are_stored.Goals as goal

pub loop-place-preserved : goal.loop-place-preserved
loop-place-preserved c = λ k low. elim (cases_lt k c.loop-place.place) [
  | inl lower ↦ c.loop-place.invariant k lower
  | inr past ↦
      let at : k ≡ c.loop-place.place = omega (arith, low, past) in
      let same : take (32 * c.loop-place.place + 32 - 32 * c.loop-place.place) (drop (32 * c.loop-place.place) c.args.stored.now) ≡ slice_index_or c.args.digests.now c.loop-place.place [] = search rules in
      ap (piece 32 c.args.stored.now) at ∙ sym (sliced 32 c.loop-place.place (32 * c.loop-place.place) c.args.stored.now c.args.stored.now (omega arith) refl)
      ∙ same ∙ ap (λ (j : ℕ). slice_index_or c.args.digests.now j []) (sym at)
]
