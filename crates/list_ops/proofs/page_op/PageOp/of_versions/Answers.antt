use Rattle.std.proofs.Common.{◌≤◌, IsUtf8, length, subst, sym}
use Rattle.list_page.specs.Starting.{first_key}
use Rattle.list_ops.proofs.BeginLemmas.{begin_is, versions_first_utf8, name_is_utf8}
use Rattle.list_ops.proofs.page_op.PageOp.of_versions.Goals as goal

pub begin_of-requires : goal.begin_of-requires
begin_of-requires c = name_is_utf8 c.args.bucket.now c.requires.bucket

pub bucket_name-requires : goal.bucket_name-requires
bucket_name-requires c = name_is_utf8 c.args.bucket.now c.requires.bucket

pub invariant_of-target : goal.invariant_of-target
invariant_of-target c = record {
  begins = begin_is c.args.bucket.now c.in_ok-own.own _ c.in_ok-own.ensures c.in_ok-begin.ensures;
  short = subst (λ b. length b ≤ 63) (sym c.in_ok-own.ensures) c.requires.bucket.short;
  first = ∣ subst (λ r. IsUtf8 (first_key r)) (sym c.in_ok-ask.ensures) (versions_first_utf8 c.args.page.now c.requires.page) ∣₁;
}
