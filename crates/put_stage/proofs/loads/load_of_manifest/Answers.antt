-- The load of a manifest alone.
use Rattle.std.proofs.Common.{ℕ, ◌<◌, ◌^◌, List, length, refl, subst, sym, lit<}
use Rattle.put_stage.proofs.BeginLemmas.{count_of_tables, no_blocks}
use Rattle.put_stage.proofs.loads.load_of_manifest.Goals as goal

pub invariant_of-result : goal.invariant_of-result
invariant_of-result c = record {
  tables_of_all = count_of_tables _ c.args.set.drives c.in_ok-empty_tables.ensures;
  blocks_of_all = no_blocks _ _ c.args.set.drives c.none.ensures.none c.none.ensures.short;
  few = λ is. absurd cc;
  none_left = λ is. refl;
  short_name = subst (λ (text : List ℕ). length text < 2 ^ 16) (sym c.new.ensures.bytes) (lit< tt);
}
