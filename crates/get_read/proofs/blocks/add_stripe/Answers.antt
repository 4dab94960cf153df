use Rattle.std.proofs.Common.{rules, ◌≡◌, ◌+◌, ◌*◌, ◌∙◌, ℕ, List, [], ◌++◌, length, slice_index_or, take, ap, refl, sym, arith}
use Rattle.std.specs.List.{concat}
use Rattle.std.proofs.Math.Seq.{take-append-add}
use Rattle.std.proofs.lemmas.List.{append_assoc, take-take}
use Rattle.drive_base.specs.Plan.{data_drives}
use Rattle.shard_file.proofs.ShardLemmas.{concat-take_more}
use Rattle.shard_file.proofs.StripeLemmas.{data_blocks_are_the_stripe}
use Rattle.get_read.proofs.blocks.add_stripe.Goals as goal

pub loop-which-preserved : goal.loop-which-preserved
loop-which-preserved c =
    let inv = c.loop-which.invariant in
    let old = c.args.body.now.items in
    let which = c.loop-which.which in
    let begun = c.loop-which.body.items in
    let new = c.add_data_block.new.body.items in
    let added = c.in_ok-add_data_block.ensures in
    let next : (which + 1) * c.args.size ≡ which * c.args.size + c.args.size = omega arith in
    record {
      long = omega (arith, added.long refl, inv.long, next);
      kept = sym (take-take (length old) (length begun) new (omega (arith, inv.long))) ∙ ap (take (length old)) (added.kept refl) ∙ inv.kept;
      front = λ stripe shards is are same.
          added.block refl stripe shards is are same
          ∙ ap (λ (begin : List ℕ). begin ++ slice_index_or shards which []) (inv.front stripe shards is are same)
          ∙ append_assoc old (concat (take which shards)) (slice_index_or shards which [])
          ∙ ap (λ (rest : List ℕ). old ++ rest) (sym (concat-take_more shards which (omega (arith, are.count))));
    }

pub returns-clause-stripe : goal.returns-clause-stripe
returns-clause-stripe c = λ ok stripe shards is are same.
    let d = data_drives c.args.set.now.drives c.args.set.now.parity in
    let front = c.loop-which.invariant.front stripe shards is are same in
    let old = c.args.body.now.items in
    let all : c.loop-which.which ≡ d = search rules in
    let begin : c.len.result ≡ length old = search rules in
    let gives : c.loop-which.body.items ≡ old ++ concat (take d shards) =
    front ∙ ap (λ (m : ℕ). old ++ concat (take m shards)) all in
    c.truncate.ensures.items
    ∙ ap (λ (m : ℕ). take (m + c.args.long) c.loop-which.body.items) begin
    ∙ ap (λ (bytes : List ℕ). take (length old + c.args.long) bytes) gives
    ∙ take-append-add old (concat (take d shards)) c.args.long
    ∙ ap (λ (m : ℕ). old ++ take m (concat (take d shards))) (sym is)
    ∙ ap (λ (blocks : List (List ℕ)). old ++ take (length stripe) (concat blocks)) are.front
    ∙ ap (λ (bytes : List ℕ). old ++ bytes) (data_blocks_are_the_stripe d stripe (omega arith))

pub returns-clause-kept : goal.returns-clause-kept
returns-clause-kept c = λ ok.
    let old = c.args.body.now.items in
    let begin : c.len.result ≡ length old = search rules in
    ap (take (length old)) c.truncate.ensures.items
    ∙ take-take (length old) (c.len.result + c.args.long) c.loop-which.body.items (omega (arith, begin)) ∙ c.loop-which.invariant.kept
