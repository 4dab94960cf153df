use Rattle.std.proofs.Common.{rules, ◌≡◌, ◌<◌, ◌∙◌, ◌++◌, ℕ, List, length, slice_index, take, ap, refl, sym, subst, arith}
use Rattle.drive_base.specs.Plan.{data_drives}
use Rattle.get_read.proofs.DataLemmas.{data_are_stripe}
use Rattle.get_read.proofs.blocks.stripe_of.Goals as goal

pub returns-then-are_data-clause-stripe : goal.returns-then-are_data-clause-stripe
returns-then-are_data-clause-stripe c = λ stripe shards is are same.
    let n = c.args.set.now.drives in
    let d = data_drives c.args.set.now.drives c.args.set.now.parity in
    let rows = c.args.blocks.rows.items in
    let bytes = c.args.blocks.bytes.items in
    let rows_are : c.as_slice.result.now ≡ rows = search rules in
    let own : (j : ℕ) → j < length rows → slice_index rows j ≡ j =
    subst (λ (r : List ℕ). (j : ℕ) → j < length r → slice_index r j ≡ j) rows_are (c.if-are_data.ensures refl) in
    c.truncate.ensures.items ∙ ap (λ (m : ℕ). take m bytes) (sym is)
    ∙ data_are_stripe n d c.args.size rows bytes stripe shards (omega arith) (omega arith) c.requires.rows c.requires.have own are same

pub returns-clause-stripe : goal.returns-clause-stripe
returns-clause-stripe c = λ stripe shards is are same.
    c.in_ok-add_stripe.ensures.stripe refl stripe shards is are same ∙ ap (λ (b : List ℕ). b ++ stripe) c.in_ok-bytes.ensures.items
