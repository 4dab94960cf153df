use Rattle.upload_book.proofs.ContentLemmas.{contents_no_fault, faultless_content, content_injective}
use Rattle.upload_book.proofs.content.row_laws.Goals as goal

pub returns-clause-read : goal.returns-clause-read
returns-clause-read c = contents_no_fault

pub returns-clause-faultless : goal.returns-clause-faultless
returns-clause-faultless c = faultless_content

pub returns-clause-injective : goal.returns-clause-injective
returns-clause-injective c = content_injective
