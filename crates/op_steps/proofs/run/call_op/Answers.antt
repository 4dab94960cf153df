use Rattle.std.proofs.Common.{◌<◌, ◌∙◌, ◌++◌, [], ap, inl, refl, subst, sym, arith}
use Rattle.receipts.specs.Events.{notes_of}
use Rattle.receipts.specs.Paying.{Pays}
use Rattle.op_steps.specs.Claims.{no_claim}
use Rattle.op_steps.specs.Notes.{notes_by}
use Rattle.op_steps.proofs.TellLemmas.{none_pays}
use Rattle.op_steps.proofs.run.call_op.Goals as goal

pub returns-clause-done : goal.returns-clause-done
returns-clause-done g c = λ slot task pays holds.
    let got = c.run_op.ensures.ran (no_claim slot) [] holds in
    record {
      left = got.0;
      log = got.1;
      lets_go = c.run_op.ensures.ends got.0 got.1 got.2;
      owed = subst (λ cut. Pays (g.O.Op.set c.args.op.now) task cut got.1) (sym c.cut.ensures)
          (pays (g.O.Op.cut_at c.run_op.new.op) got.1 (c.run_op.ensures.owed got.0 got.1 got.2));
      ran = got.3;
      notes = got.4 ∙ ap (λ items. notes_by items ++ notes_of got.1) (c.reserve.ensures.items ∙ c.new-stubs.ensures.items);
    }

pub returns-then-is_err-clause-done : goal.returns-then-is_err-clause-done
returns-then-is_err-clause-done g c = λ slot task pays holds. record {
  left = no_claim slot;
  log = [];
  lets_go = inl refl;
  owed = none_pays (g.O.Op.set c.args.op.now) task [] refl refl (inl (λ k d l. let below : k < 0 = l in absurd (omega arith)));
  ran = refl;
  notes = ap notes_by (c.reserve.ensures.items ∙ c.new-stubs.ensures.items);
}
