use Rattle.std.proofs.Common.{◌≡◌, ◌+◌, ◌*◌, ◌++◌, ◌∙◌, ℕ, List, length, drop, ap, sym, inl, inr, arith}
use Rattle.std.proofs.lemmas.Bool.{cases_lt}
use Rattle.std.proofs.lemmas.List.{take-append-drop}
use Rattle.shard_file.specs.Stripes.{piece, stripe_size}
use Rattle.get_read.specs.Windows.{run_block}
use Rattle.get_read.proofs.PieceLemmas.{piece_added}
use Rattle.get_read.proofs.WindowLemmas.{piece_of_before}
use Rattle.get_read.proofs.window.Window.rebuild.Goals as goal

pub loop-stripe-preserved : goal.loop-stripe-preserved
loop-stripe-preserved c =
    let w = c.args.self.now in
    let i = c.loop-stripe.stripe in
    let old = c.loop-stripe.bytes.items in
    let new = c.add_one.new.body.items in
    let added = c.in_ok-add_one.ensures in
    let inv = c.loop-stripe.invariant in
    let next : (i + 1) * stripe_size ≡ i * stripe_size + stripe_size = omega arith in
    let joined : new ≡ old ++ drop (length old) new =
    sym (take-append-drop (length old) new) ∙ ap (λ (b : List ℕ). b ++ drop (length old) new) added.kept in
    record {
      long = omega (arith, added.long, inv.long, next);
      are = λ s low stripe shards is blocks_are each. elim (cases_lt s i) [
        | inl lower ↦ piece_of_before stripe_size i s old (drop (length old) new) new inv.long joined lower ∙ inv.are s lower stripe shards is blocks_are each
        | inr past ↦
            let at : s ≡ i = omega (arith, low, past) in
            let gives : new ≡ old ++ stripe = added.stripe stripe shards is blocks_are (λ j inside. ap (run_block w j) (sym at) ∙ each j inside) in
            ap (piece stripe_size new) at ∙ ap (λ (b : List ℕ). piece stripe_size b i) gives ∙ piece_added stripe_size i old stripe inv.long is
      ];
    }
