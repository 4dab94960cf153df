use Rattle.bucket_book.proofs.NameLemmas.{place_cases}
use Rattle.bucket_book.proofs.name.dot_place.Goals as goal

pub returns : goal.returns
returns c = place_cases c.args.text.now c.first_dot.result c.first_dot.ensures
