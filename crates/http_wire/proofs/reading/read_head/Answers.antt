use Rattle.std.proofs.Common.{List, ℕ, length, inl, refl, subst}
use Rattle.http_wire.specs.Answers.{EndsAfter}
use Rattle.http_wire.proofs.ReadingLemmas.{taken_decides, ended_decides}
use Rattle.http_wire.proofs.reading.read_head.Goals as goal

pub returns-in-Whole : goal.returns-in-Whole
returns-in-Whole g c = record {
  text = c.await_head.new.window;
  came = c.await_head.ensures.came;
  decides = taken_decides c.take_head.result _ _ _ _ _ c.take_head.ensures c.in-Whole.ensures.arrives.1;
}

pub returns-in-Bad : goal.returns-in-Bad
returns-in-Bad g c = record {
  text = c.await_head.new.window;
  came = c.await_head.ensures.came;
  decides = ((inl c.in-Bad.ensures.arrives.0, c.in-Bad.ensures.arrives.1), refl);
}

pub returns-in-Long : goal.returns-in-Long
returns-in-Long g c = record {
  text = c.await_head.new.window;
  came = c.await_head.ensures.came;
  decides = (c.in-Long.ensures.arrives, refl);
}

pub returns-in-Failed : goal.returns-in-Failed
returns-in-Failed g c = record {
  text = c.await_head.new.window;
  came = c.await_head.ensures.came;
  decides = (c.in-Failed.ensures.arrives, refl);
}

pub returns-in-Ended : goal.returns-in-Ended
returns-in-Ended g c =
    let arrives = c.in-Ended.ensures.arrives in
    record {
      text = c.await_head.new.window;
      came = c.await_head.ensures.came;
      decides = ended_decides c.end_after.result c.await_head.new.window _ _ _
          (subst (λ (t : List ℕ). EndsAfter c.end_after.result (length t)) c.bytes.ensures c.end_after.ensures) arrives.0 arrives.1 arrives.2;
    }
