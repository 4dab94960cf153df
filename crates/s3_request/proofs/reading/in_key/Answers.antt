use Rattle.std.proofs.Common.{◌≡◌, ap, sym, subst, ◌∙◌, arith, true}
use Rattle.std.specs.Prelude.{nat_le, length}
use Rattle.s3_request.specs.Names.{is_bucket_name}
use Rattle.s3_request.specs.Routes.{method_of, key_row}
use Rattle.s3_request.specs.Refusing.{Gives}
use Rattle.s3_request.specs.Reads.{asked_of, key_call}
use Rattle.s3_request.proofs.ReadingLemmas.{key_named}
use Rattle.std.proofs.lemmas.Bool.{le-leb}
use Rattle.s3_request.proofs.reading.in_key.Goals as goal

pub returns-in-Put : goal.returns-in-Put
returns-in-Put c =
    let asked = asked_of c.args.head.now c.args.query.now c.args.limit in
    let method = c.method_of.ensures ∙ ap method_of c.method.ensures in
    let row = ap (λ m. key_row m c.args.query.now) (sym method) ∙ sym c.in-Some.ensures in
    let test = ap is_bucket_name (sym c.as_slice.ensures) ∙ (sym c.is_bucket_name.ensures ∙ c.if-not-is_bucket_name.false) in
    let short : nat_le (length c.args.at.key) 1024 ≡ true = le-leb (length c.args.at.key) 1024 (omega arith) in
    subst (λ a. Gives a c.put_call.result) (sym (key_named asked c.args.at c.in-Some.row true true row test short ∙ ap (key_call asked c.args.at) c.in-Put.is))
    (c.put_call.ensures c.args.query.now)

pub returns-in-Part : goal.returns-in-Part
returns-in-Part c =
    let asked = asked_of c.args.head.now c.args.query.now c.args.limit in
    let method = c.method_of.ensures ∙ ap method_of c.method.ensures in
    let row = ap (λ m. key_row m c.args.query.now) (sym method) ∙ sym c.in-Some.ensures in
    let test = ap is_bucket_name (sym c.as_slice.ensures) ∙ (sym c.is_bucket_name.ensures ∙ c.if-not-is_bucket_name.false) in
    let short : nat_le (length c.args.at.key) 1024 ≡ true = le-leb (length c.args.at.key) 1024 (omega arith) in
    subst (λ a. Gives a c.part_call.result) (sym (key_named asked c.args.at c.in-Some.row true true row test short ∙ ap (key_call asked c.args.at) c.in-Part.is))
    (c.part_call.ensures)

pub returns-in-Get : goal.returns-in-Get
returns-in-Get c =
    let asked = asked_of c.args.head.now c.args.query.now c.args.limit in
    let method = c.method_of.ensures ∙ ap method_of c.method.ensures in
    let row = ap (λ m. key_row m c.args.query.now) (sym method) ∙ sym c.in-Some.ensures in
    let test = ap is_bucket_name (sym c.as_slice.ensures) ∙ (sym c.is_bucket_name.ensures ∙ c.if-not-is_bucket_name.false) in
    let short : nat_le (length c.args.at.key) 1024 ≡ true = le-leb (length c.args.at.key) 1024 (omega arith) in
    subst (λ a. Gives a c.get_call.result) (sym (key_named asked c.args.at c.in-Some.row true true row test short ∙ ap (key_call asked c.args.at) c.in-Get.is))
    (c.get_call.ensures c.args.limit)

pub returns-in-Head : goal.returns-in-Head
returns-in-Head c =
    let asked = asked_of c.args.head.now c.args.query.now c.args.limit in
    let method = c.method_of.ensures ∙ ap method_of c.method.ensures in
    let row = ap (λ m. key_row m c.args.query.now) (sym method) ∙ sym c.in-Some.ensures in
    let test = ap is_bucket_name (sym c.as_slice.ensures) ∙ (sym c.is_bucket_name.ensures ∙ c.if-not-is_bucket_name.false) in
    let short : nat_le (length c.args.at.key) 1024 ≡ true = le-leb (length c.args.at.key) 1024 (omega arith) in
    subst (λ a. Gives a c.head_call.result) (sym (key_named asked c.args.at c.in-Some.row true true row test short ∙ ap (key_call asked c.args.at) c.in-Head.is))
    (c.head_call.ensures c.args.limit)

pub returns-in-Delete : goal.returns-in-Delete
returns-in-Delete c =
    let asked = asked_of c.args.head.now c.args.query.now c.args.limit in
    let method = c.method_of.ensures ∙ ap method_of c.method.ensures in
    let row = ap (λ m. key_row m c.args.query.now) (sym method) ∙ sym c.in-Some.ensures in
    let test = ap is_bucket_name (sym c.as_slice.ensures) ∙ (sym c.is_bucket_name.ensures ∙ c.if-not-is_bucket_name.false) in
    let short : nat_le (length c.args.at.key) 1024 ≡ true = le-leb (length c.args.at.key) 1024 (omega arith) in
    subst (λ a. Gives a c.delete_call.result) (sym (key_named asked c.args.at c.in-Some.row true true row test short ∙ ap (key_call asked c.args.at) c.in-Delete.is))
    (c.delete_call.ensures)

pub returns-in-Create : goal.returns-in-Create
returns-in-Create c =
    let asked = asked_of c.args.head.now c.args.query.now c.args.limit in
    let method = c.method_of.ensures ∙ ap method_of c.method.ensures in
    let row = ap (λ m. key_row m c.args.query.now) (sym method) ∙ sym c.in-Some.ensures in
    let test = ap is_bucket_name (sym c.as_slice.ensures) ∙ (sym c.is_bucket_name.ensures ∙ c.if-not-is_bucket_name.false) in
    let short : nat_le (length c.args.at.key) 1024 ≡ true = le-leb (length c.args.at.key) 1024 (omega arith) in
    subst (λ a. Gives a c.create_call.result) (sym (key_named asked c.args.at c.in-Some.row true true row test short ∙ ap (key_call asked c.args.at) c.in-Create.is))
    (c.create_call.ensures c.args.query.now c.args.limit)

pub returns-in-Complete : goal.returns-in-Complete
returns-in-Complete c =
    let asked = asked_of c.args.head.now c.args.query.now c.args.limit in
    let method = c.method_of.ensures ∙ ap method_of c.method.ensures in
    let row = ap (λ m. key_row m c.args.query.now) (sym method) ∙ sym c.in-Some.ensures in
    let test = ap is_bucket_name (sym c.as_slice.ensures) ∙ (sym c.is_bucket_name.ensures ∙ c.if-not-is_bucket_name.false) in
    let short : nat_le (length c.args.at.key) 1024 ≡ true = le-leb (length c.args.at.key) 1024 (omega arith) in
    subst (λ a. Gives a c.complete_call.result) (sym (key_named asked c.args.at c.in-Some.row true true row test short ∙ ap (key_call asked c.args.at) c.in-Complete.is))
    (c.complete_call.ensures c.args.limit)

pub returns-in-Abort : goal.returns-in-Abort
returns-in-Abort c =
    let asked = asked_of c.args.head.now c.args.query.now c.args.limit in
    let method = c.method_of.ensures ∙ ap method_of c.method.ensures in
    let row = ap (λ m. key_row m c.args.query.now) (sym method) ∙ sym c.in-Some.ensures in
    let test = ap is_bucket_name (sym c.as_slice.ensures) ∙ (sym c.is_bucket_name.ensures ∙ c.if-not-is_bucket_name.false) in
    let short : nat_le (length c.args.at.key) 1024 ≡ true = le-leb (length c.args.at.key) 1024 (omega arith) in
    subst (λ a. Gives a c.abort_call.result) (sym (key_named asked c.args.at c.in-Some.row true true row test short ∙ ap (key_call asked c.args.at) c.in-Abort.is))
    (c.abort_call.ensures)
