use Rattle.std.proofs.Common.{rules, ◌≡◌, ◌≢◌, ◌∙◌, ℕ, List, [], slice_index_or, slice_set, ap}
use Rattle.call_types.specs.declared.why.Why.TheVariants.{Damaged}
use Rattle.seal_file.specs.declared.damage.Damage.TheVariants.{Digest}
use Rattle.get_read.specs.Blocks.{row_at, stored_at}
use Rattle.get_read.proofs.SiftLemmas.{sifted_kept, sifted_out}
use Rattle.get_read.proofs.blocks.compare.Goals as goal

pub returns-then-eq : goal.returns-then-eq
returns-then-eq c = λ from causes so_far.
    let same : stored_at c.args.found.now c.args.place ≡ c.args.computed = search rules in
    sifted_kept c.args.size c.args.place from c.args.found.now causes c.args.whys.now so_far (same ∙ c.requires.computed)

pub returns : goal.returns
returns c = λ from causes so_far.
    let blocks = c.args.found.now in
    let place = c.args.place in
    let stored : slice_index_or c.as_slice.result.now place [] ≡ stored_at blocks place = ap (λ (s : List (List ℕ)). slice_index_or s place []) c.as_slice.ensures.value in
    let row : slice_index_or c.as_slice-2.result.now place 0 ≡ row_at blocks place = ap (λ (r : List ℕ). slice_index_or r place 0) c.as_slice-2.ensures.value in
    let differs : stored_at blocks place ≢ c.args.computed = search rules in
    let whys : c.set.new.self ≡ slice_set c.args.whys.now (row_at blocks place) (Damaged (Digest (stored_at blocks place) c.args.computed)) =
    c.set.ensures ∙ ap (λ (r : ℕ). slice_set c.args.whys.now r (Damaged (Digest (slice_index_or c.as_slice.result.now place []) c.args.computed))) row
    ∙ ap (λ (s : List ℕ). slice_set c.args.whys.now (row_at blocks place) (Damaged (Digest s c.args.computed))) stored in
    sifted_out c.args.size place from blocks c.take_out.new.found causes c.args.whys.now c.set.new.self c.args.computed so_far differs
    c.requires.computed c.take_out.ensures.rows c.take_out.ensures.stored c.take_out.ensures.bytes whys
