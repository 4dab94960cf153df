use Rattle.std.proofs.Common.{IsUtf8, sym, subst, ◌∙◌}
use Rattle.std.proofs.lemmas.Str.{IsUtf8-had}
use Rattle.list_ops.proofs.after.first_work.Goals as goal

pub text_of-requires : goal.text_of-requires
text_of-requires c = subst IsUtf8 (sym (c.as_slice.ensures ∙ c.in_ok-first.ensures)) (IsUtf8-had _ c.args.target.now.first)
