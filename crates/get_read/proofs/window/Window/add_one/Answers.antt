use Rattle.std.proofs.Common.{◌≡◌, ◌<◌, ◌*◌, ◌∙◌, ℕ, List, [], length, slice_index, slice_index_or, ap, refl, subst, sym, arith}
use Rattle.std.specs.Prelude.{All}
use Rattle.std.proofs.lemmas.List.Elements.{All-weaker}
use Rattle.poly_code.specs.Codeword.{AreDistinct}
use Rattle.get_read.proofs.window.Window.add_one.Goals as goal

pub returns : goal.returns
returns c =
    let w = c.args.self.now in
    let blocks = c.in_ok-blocks.blocks in
    let made = c.in_ok-blocks.ensures in
    let added = c.in_ok-add_stripe.ensures in
    let rows : blocks.rows.items ≡ w.rows.items = made.rows in
    record {
      long = added.long refl;
      kept = added.kept refl;
      stripe = λ stripe shards is blocks_are each. added.stripe refl stripe shards is blocks_are
          (λ j inside. made.blocks j (omega (arith, inside, ap (length {A = ℕ}) rows)) ∙ each j (omega (arith, inside, ap (length {A = ℕ}) rows))
          ∙ ap (λ (r : List ℕ). slice_index_or shards (slice_index r j) []) (sym rows));
    }

pub add_stripe-requires : goal.add_stripe-requires
add_stripe-requires c =
    let w = c.args.self.now in
    let made = c.in_ok-blocks.ensures in
    let rows : c.in_ok-blocks.blocks.rows.items ≡ w.rows.items = made.rows in
    record {
      rows = ap (length {A = ℕ}) rows ∙ c.requires.rows;
      below = subst (λ (r : List ℕ). All (λ row. row < c.args.set.now.drives) r) (sym rows)
          (All-weaker (λ row. row < w.tried) (λ row. row < c.args.set.now.drives) (λ row low. omega (arith, low, c.requires.below)) w.rows.items w.below);
      distinct = subst AreDistinct (sym rows) w.distinct;
      have = made.long ∙ ap (λ (n : ℕ). n * w.size) (sym (ap (length {A = ℕ}) rows));
      fits = c.requires.size;
    }
