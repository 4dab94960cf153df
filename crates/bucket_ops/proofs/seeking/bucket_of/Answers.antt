use Rattle.std.proofs.Common.{IsUtf8, ap, subst, sym, ◌∙◌}
use Rattle.bucket_ops.proofs.NameLemmas.{name_is_utf8}
use Rattle.bucket_ops.proofs.SectionLemmas.{behind_two}
use Rattle.bucket_ops.proofs.seeking.bucket_of.Goals as goal

pub returns-in_default-from_utf8 : goal.returns-in_default-from_utf8
returns-in_default-from_utf8 c bucket lawful is =
    let same = ap behind_two (sym c.in-Some.ensures ∙ is) in
    c.in_default-from_utf8.ensures.cases.0 (subst IsUtf8 (sym same) (name_is_utf8 bucket lawful))
