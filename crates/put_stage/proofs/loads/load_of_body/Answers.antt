-- The load of a body, of which nothing is taken.
use Rattle.std.proofs.Common.{ℕ, ◌<◌, ◌^◌, List, [], arith, length, refl, subst, sym}
use Rattle.put_stage.proofs.BeginLemmas.{count_of_tables, no_blocks, nothing_taken}
use Rattle.put_stage.proofs.loads.load_of_body.Goals as goal

pub invariant_of-load : goal.invariant_of-load
invariant_of-load c = record {
  tables_of_all = count_of_tables _ c.args.set.drives c.in_ok-empty_tables.ensures;
  blocks_of_all = no_blocks _ _ c.args.set.drives c.none.ensures.none c.none.ensures.short;
  few = λ is. c.requires.few;
  none_left = λ is. absurd cc;
  short_name = subst (λ (text : List ℕ). length text < 2 ^ 16) (sym c.in_ok-from_str.ensures.ok) c.requires.name;
}

pub invariant_of-load-2 : goal.invariant_of-load-2
invariant_of-load-2 c = record {
  tables_of_all = count_of_tables _ c.args.set.drives c.in_ok-empty_tables.ensures;
  blocks_of_all = no_blocks _ _ c.args.set.drives c.none.ensures.none c.none.ensures.short;
  few = λ is. c.requires.few;
  none_left = λ is. absurd cc;
  short_name = subst (λ (text : List ℕ). length text < 2 ^ 16) (sym c.in_ok-from_str.ensures.ok) c.requires.name;
}

pub returns-then-size-gt0 : goal.returns-then-size-gt0
returns-then-size-gt0 c = record {
  set_is = refl;
  id_is = c.in_ok-names_of.ensures;
  name_is = c.in_ok-from_str.ensures.ok;
  length_is = refl;
  stated_is = refl;
  taken = nothing_taken _ refl refl c.in_ok-empty_tables.ensures (λ more. c.new.ensures) (λ none are tables. absurd (omega (arith, c.if-size-gt0.true, none)));
}

pub returns : goal.returns
returns c = record {
  set_is = refl;
  id_is = c.in_ok-names_of.ensures;
  name_is = c.in_ok-from_str.ensures.ok;
  length_is = refl;
  stated_is = refl;
  taken = nothing_taken _ refl refl c.in_ok-empty_tables.ensures (λ more. c.new.ensures)
      (λ none are tables.
      let made = c.in_ok-load.ensures [] _ none (c.finalize.ensures [] c.new-2.ensures) are tables in
      record { manifest = made.manifest; print = made.print; etag = made.etag });
}
