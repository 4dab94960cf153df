use Rattle.manifest_file.proofs.PrintText.{tells_parts, texts_are_bytes}
use Rattle.manifest_file.proofs.print.print_laws.Goals as goal

pub returns-clause-tell : goal.returns-clause-tell
returns-clause-tell c = tells_parts

pub returns-clause-bytes : goal.returns-clause-bytes
returns-clause-bytes c = texts_are_bytes
