use Rattle.s3_request.specs.Pages.{is_wrong}
use Rattle.s3_request.proofs.QueryLemmas.{NoneBelow}
use Rattle.s3_request.proofs.pages.first_name.Given as goal

abbrev pub invariant-loop-i : goal.invariant-loop-i
invariant-loop-i l = NoneBelow (is_wrong l.wrong.most l.wrong.encoded l.wrong.third.now l.wrong.other) l.query l.i
