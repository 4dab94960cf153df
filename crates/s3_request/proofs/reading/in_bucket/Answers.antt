use Rattle.std.proofs.Common.{ap, sym, subst, ◌∙◌, true}
use Rattle.s3_request.specs.Names.{is_bucket_name}
use Rattle.s3_request.specs.Routes.{method_of, bucket_row}
use Rattle.s3_request.specs.Refusing.{Gives}
use Rattle.s3_request.specs.Reads.{asked_of}
use Rattle.s3_request.proofs.ReadingLemmas.{bucket_named}
use Rattle.s3_request.proofs.reading.in_bucket.Goals as goal

pub returns : goal.returns
returns c = λ limit.
    let method = c.method_of.ensures ∙ ap method_of c.method.ensures in
    let row = ap (λ m. bucket_row m c.args.query.now) (sym method) ∙ sym c.in-Some.ensures in
    let test = ap is_bucket_name (sym c.as_slice.ensures) ∙ (sym c.is_bucket_name.ensures ∙ c.if-not-is_bucket_name.false) in
    subst (λ a. Gives a c.bucket_call.result) (sym (bucket_named (asked_of c.args.head.now c.args.query.now limit) c.args.name c.in-Some.row true row test))
    (c.bucket_call.ensures limit)
