use Rattle.std.proofs.Common.{◌∙◌, ap, sym, subst, drop, drop-drop}
use Rattle.s3_docs.specs.Reads.{NoNameByte}
use Rattle.s3_docs.proofs.elements.name_of.Goals as goal

pub returns-clause-behind : goal.returns-clause-behind
returns-clause-behind c =
    let n = c.name_length-length.result in
    let e = ap (drop n) c.split_at.ensures.back ∙ drop-drop n 1 c.args.text.now in
    subst NoNameByte (e ∙ sym c.split_at-2.ensures.back) c.name_length-length.ensures.behind
