use Rattle.std.proofs.Common.{rules, append_assoc}
use Rattle.std.proofs.lemmas.List.{append-nil}
use Rattle.version_list.proofs.writing.put_object.Goals as goal

pub returns-in_ok-put_short_text-in-Object : goal.returns-in_ok-put_short_text-in-Object
returns-in_ok-put_short_text-in-Object c = search (rules, append_assoc, append-nil)
