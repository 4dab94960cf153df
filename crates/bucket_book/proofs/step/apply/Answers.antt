use Rattle.bucket_book.proofs.step.apply.Goals as goal

pub returns-in-Some-clause-step : goal.returns-in-Some-clause-step
returns-in-Some-clause-step c = rw c.in-Some.is (c.apply_to.ensures.step c.args.now)
