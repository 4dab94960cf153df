use Rattle.std.proofs.Common.{ap, sym, subst, ◌∙◌}
use Rattle.s3_request.specs.Query.{pairs_of}
use Rattle.s3_request.specs.Target.{place_of, query_of}
use Rattle.s3_request.specs.Routes.{method_of}
use Rattle.s3_request.specs.Refusing.{Gives}
use Rattle.s3_request.specs.Reads.{asked_of, call_at, service_call}
use Rattle.s3_request.proofs.ReadingLemmas.{read_at, read_unserved}
use Rattle.s3_request.proofs.BodyLemmas.{given_states}
use Rattle.s3_request.proofs.LawfulLemmas.{given_is_lawful}
use Rattle.s3_request.proofs.reading.read_call.Goals as goal

pub returns-then-is_unserved-clause-reads : goal.returns-then-is_unserved-clause-reads
returns-then-is_unserved-clause-reads c =
    let placed = ap place_of (sym c.target.ensures) ∙ c.in_ok-place.ensures in
    let paired = c.in_ok-query.ensures ∙ ap pairs_of (c.query_of.ensures ∙ ap query_of c.target-2.ensures) in
    read_unserved c.args.head.now c.in_ok-query.query c.args.limit c.in_ok-place.place placed paired (sym (c.is_unserved.ensures c.args.limit) ∙ c.if-is_unserved.true)

pub returns-in-Service-clause-reads : goal.returns-in-Service-clause-reads
returns-in-Service-clause-reads c =
    let asked = asked_of c.args.head.now c.in_ok-query.query c.args.limit in
    let placed = ap place_of (sym c.target.ensures) ∙ c.in_ok-place.ensures in
    let paired = c.in_ok-query.ensures ∙ ap pairs_of (c.query_of.ensures ∙ ap query_of c.target-2.ensures) in
    let method = c.method_of.ensures ∙ ap method_of c.method.ensures in
    subst (λ a. Gives a c.service_call.result)
    (sym (read_at c.args.head.now c.in_ok-query.query c.args.limit c.in_ok-place.place _ placed paired (sym (c.is_unserved.ensures c.args.limit) ∙ c.if-is_unserved.false)
    (ap (call_at asked) c.in-Service.is ∙ ap service_call (sym method))))
    c.service_call.ensures

pub returns-in-Bucket-clause-reads : goal.returns-in-Bucket-clause-reads
returns-in-Bucket-clause-reads c =
    let asked = asked_of c.args.head.now c.in_ok-query.query c.args.limit in
    let placed = ap place_of (sym c.target.ensures) ∙ c.in_ok-place.ensures in
    let paired = c.in_ok-query.ensures ∙ ap pairs_of (c.query_of.ensures ∙ ap query_of c.target-2.ensures) in
    subst (λ a. Gives a c.in_bucket.result)
    (sym (read_at c.args.head.now c.in_ok-query.query c.args.limit c.in_ok-place.place _ placed paired (sym (c.is_unserved.ensures c.args.limit) ∙ c.if-is_unserved.false) (ap (call_at asked) c.in-Bucket.is)))
    (c.in_bucket.ensures c.args.limit)

pub returns-in-Bucket-clause-lawful : goal.returns-in-Bucket-clause-lawful
returns-in-Bucket-clause-lawful c = given_is_lawful c.args.head.now c.args.limit c.in_bucket.result (returns-in-Bucket-clause-reads c)

pub returns-in-Bucket-clause-length : goal.returns-in-Bucket-clause-length
returns-in-Bucket-clause-length c = λ n says. given_states c.args.head.now c.args.limit n c.in_bucket.result (returns-in-Bucket-clause-reads c) says

pub returns-clause-reads : goal.returns-clause-reads
returns-clause-reads c =
    let asked = asked_of c.args.head.now c.in_ok-query.query c.args.limit in
    let placed = ap place_of (sym c.target.ensures) ∙ c.in_ok-place.ensures in
    let paired = c.in_ok-query.ensures ∙ ap pairs_of (c.query_of.ensures ∙ ap query_of c.target-2.ensures) in
    subst (λ a. Gives a c.in_key.result)
    (sym (read_at c.args.head.now c.in_ok-query.query c.args.limit c.in_ok-place.place _ placed paired (sym (c.is_unserved.ensures c.args.limit) ∙ c.if-is_unserved.false) (ap (call_at asked) c.in-Object.is)))
    c.in_key.ensures

pub returns-clause-lawful : goal.returns-clause-lawful
returns-clause-lawful c = given_is_lawful c.args.head.now c.args.limit c.in_key.result (returns-clause-reads c)

pub returns-clause-length : goal.returns-clause-length
returns-clause-length c = λ n says. given_states c.args.head.now c.args.limit n c.in_key.result (returns-clause-reads c) says
