use Rattle.bucket_book.proofs.StepLemmas.{steps_one, buckets_stay}
use Rattle.bucket_book.proofs.step.step_laws.Goals as goal

pub returns-clause-one : goal.returns-clause-one
returns-clause-one c = steps_one

pub returns-clause-stay : goal.returns-clause-stay
returns-clause-stay c = buckets_stay
