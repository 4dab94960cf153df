use Rattle.std.proofs.Common.{ℕ, List, IsTrue, ◌↔◌, not, subst, arith}
use Rattle.bucket_book.specs.Name.{IsBucketName}
use Rattle.bucket_book.proofs.NameLemmas.{named, without, holds_of}
use Rattle.bucket_book.proofs.name.check_name.Goals as goal

pub returns : goal.returns
returns c =
    let of_bytes = named c.as_bytes-bytes.result.now c.is_address.result
    (omega (arith, c.if-bytes-lt3.false)) (omega (arith, c.if-bytes-gt63.false))
    (holds_of c.are_name_bytes.result _ c.are_name_bytes.ensures c.if-not-are_name_bytes.false)
    (holds_of c.has_ends.result _ c.has_ends.ensures c.if-not-has_ends.false)
    (without c.has_two_dots.result _ c.has_two_dots.ensures c.if-has_two_dots.false)
    c.is_address.ensures
    in
    subst (λ (name : List ℕ). IsTrue (not c.is_address.result) ↔ IsBucketName name) c.as_bytes-bytes.ensures.value of_bytes
