use Rattle.std.proofs.Common.{◌≡◌, ◌≤◌, length, subst, sym, true}
use Rattle.std.proofs.lemmas.Grind.{merely}
use Rattle.std.specs.Str.{IsUtf8}
use Rattle.call_types.specs.declared.act.Act.{Act}
use Rattle.call_types.specs.declared.names.Key.{Key}
use Rattle.slot_history.specs.Names.{key_name}
use Rattle.object_ops.specs.KeyDeeds.{needs_no_body}
use Rattle.object_ops.proofs.KeyDeedLemmas.{brings_none}
use Rattle.object_ops.proofs.deed.deed_of.Goals as goal

pub invariant_of-result-clause-bodyless : goal.invariant_of-result-clause-bodyless
invariant_of-result-clause-bodyless c = subst (λ (a : Act). needs_no_body a ≡ true) (sym c.in_ok-act.ensures) (brings_none c.args.ask.now)

pub invariant_of-result-clause-bucket_text : goal.invariant_of-result-clause-bucket_text
invariant_of-result-clause-bucket_text c = subst (λ (k : Key). ∥ IsUtf8 k.bucket ∥₁) (sym c.in_ok-key.ensures.cases) (merely c.requires.bucket)

pub invariant_of-result-clause-key_text : goal.invariant_of-result-clause-key_text
invariant_of-result-clause-key_text c = subst (λ (k : Key). ∥ IsUtf8 k.key ∥₁) (sym c.in_ok-key.ensures.cases) (merely c.requires.key)

pub invariant_of-result-clause-short : goal.invariant_of-result-clause-short
invariant_of-result-clause-short c = subst (λ (k : Key). length (key_name k) ≤ 1129) (sym c.in_ok-key.ensures.cases) c.requires.short
