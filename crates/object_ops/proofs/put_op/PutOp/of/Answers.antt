use Rattle.std.proofs.Common.{◌≤◌, List, ℕ, length, subst, sym}
use Rattle.std.proofs.lemmas.Grind.{merely}
use Rattle.std.specs.Prelude.{IsUtf8}
use Rattle.call_types.specs.declared.names.Key.{Key}
use Rattle.slot_history.specs.Names.{bucket_name}
use Rattle.object_ops.specs.PutTarget.{key_of}
use Rattle.object_ops.proofs.PutTargets.{register_short}
use Rattle.object_ops.proofs.ReadingKey.{bucket_is_utf8, bucket_short}
use Rattle.object_ops.proofs.put_op.PutOp.of.Goals as goal

pub bucket_name-requires : goal.bucket_name-requires
bucket_name-requires c = subst (λ (k : Key). IsUtf8 k.bucket) (sym c.key.ensures) (bucket_is_utf8 (key_of c.args.target) c.requires.key)

pub invariant_of-result-clause-short : goal.invariant_of-result-clause-short
invariant_of-result-clause-short c =
    subst (λ (l : List ℕ). length l ≤ 1129) (sym c.in_ok-name.ensures)
    (subst (λ (k : Key). length (bucket_name k.bucket) ≤ 1129) (sym c.key.ensures) (bucket_short (key_of c.args.target) c.requires.key))

pub invariant_of-result-clause-bucket_text : goal.invariant_of-result-clause-bucket_text
invariant_of-result-clause-bucket_text c = merely (bucket_is_utf8 (key_of c.args.target) c.requires.key)

pub invariant_of-result-clause-key_text : goal.invariant_of-result-clause-key_text
invariant_of-result-clause-key_text c = merely c.requires.key.utf8

pub invariant_of-result-clause-register_short : goal.invariant_of-result-clause-register_short
invariant_of-result-clause-register_short c = register_short c.args.target c.requires.key

pub register-requires-clause-bucket : goal.register-requires-clause-bucket
register-requires-clause-bucket c = bucket_is_utf8 (key_of c.args.target) c.requires.key
