use Rattle.std.proofs.Common.{◌++◌, map, ap, sym, ◌∙◌}
use Rattle.std.proofs.lemmas.List.{append-nil}
use Rattle.form_urlencoded.specs.Form.{raw_pairs}
use Rattle.form_urlencoded.specs.Parse.{owned_pairs_left}
use Rattle.s3_request.specs.declared.query.Argument.{Argument}
use Rattle.s3_request.specs.Query.{seen, pair_of}
use Rattle.s3_request.proofs.QueryLemmas.{read_step}
use Rattle.s3_request.proofs.query.Query.read.Goals as goal

pub loop-pair-preserved : goal.loop-pair-preserved
loop-pair-preserved c =
    let steps = c.in-Some.ensures.steps in
    let both = rw c.in_ok-name.was at steps.3 in
    let one : Argument = record { name = c.in_ok-name.name; value = c.in_ok-name.value } in
    ap (λ items. map seen items ++ map pair_of (owned_pairs_left c.next.new.self)) c.in_ok-push.ensures.items
    ∙ read_step c.loop-pair.arguments.items one (owned_pairs_left c.loop-pair.pair-iterator) (owned_pairs_left c.next.new.self) steps.0 steps.1
    (map pair_of (raw_pairs c.args.query.now)) steps.2 both.0.2 both.1.2 c.loop-pair.invariant

pub loop-pair-init : goal.loop-pair-init
loop-pair-init c =
    ap (λ items. map seen items ++ map pair_of (owned_pairs_left c.into_iter-pair-iterator.result)) c.new-arguments.ensures.items
    ∙ (ap (λ it. map pair_of (owned_pairs_left it)) c.into_iter-pair-iterator.ensures.into_iter_gives
    ∙ ap (map pair_of) (c.into_owned-pair-items.ensures ∙ c.parse.ensures.value))

pub returns : goal.returns
returns c =
    sym (append-nil (map seen c.loop-pair.arguments.items))
    ∙ (ap (λ xs. map seen c.loop-pair.arguments.items ++ map pair_of xs) (sym c.in-None.ensures.steps) ∙ c.loop-pair.invariant)
