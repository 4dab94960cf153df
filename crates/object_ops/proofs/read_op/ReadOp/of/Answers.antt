use Rattle.std.proofs.Common.{◌≤◌, List, ℕ, length, subst, sym}
use Rattle.std.proofs.lemmas.Grind.{merely}
use Rattle.std.specs.Str.{IsUtf8}
use Rattle.call_types.specs.declared.names.Key.{Key}
use Rattle.slot_history.specs.Names.{key_name}
use Rattle.object_ops.proofs.ReadingKey.{bucket_is_utf8, bucket_short, key_short}
use Rattle.object_ops.proofs.read_op.ReadOp.of.Goals as goal

pub bucket_name-requires : goal.bucket_name-requires
bucket_name-requires c = bucket_is_utf8 c.args.at.now c.requires

pub invariant_of-result-clause-short : goal.invariant_of-result-clause-short
invariant_of-result-clause-short c = subst (λ (l : List ℕ). length l ≤ 1129) (sym c.in_ok-name.ensures) (bucket_short c.args.at.now c.requires)

pub invariant_of-result-clause-bucket_text : goal.invariant_of-result-clause-bucket_text
invariant_of-result-clause-bucket_text c = subst (λ (k : Key). ∥ IsUtf8 k.bucket ∥₁) (sym c.in_ok-key.ensures.cases) (merely (bucket_is_utf8 c.args.at.now c.requires))

pub invariant_of-result-clause-key_text : goal.invariant_of-result-clause-key_text
invariant_of-result-clause-key_text c = subst (λ (k : Key). ∥ IsUtf8 k.key ∥₁) (sym c.in_ok-key.ensures.cases) (merely c.requires.utf8)

pub invariant_of-result-clause-key_short : goal.invariant_of-result-clause-key_short
invariant_of-result-clause-key_short c = subst (λ (k : Key). length (key_name k) ≤ 1129) (sym c.in_ok-key.ensures.cases) (key_short c.args.at.now c.requires)
