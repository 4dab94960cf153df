use Rattle.std.proofs.Common.{Some, None, ◌∙◌}
use Rattle.std.proofs.lemmas.Bool.Decides.{Decides-eqb}
use Rattle.std.proofs.lemmas.Slice.Eq.{strip_prefix_is, strip_suffix_is}
use Rattle.header_values.proofs.MemberLemmas.{in_quotes, no_end}
use Rattle.header_values.proofs.members.is_quoted.Goals as goal

pub returns-in-Some-strip_suffix : goal.returns-in-Some-strip_suffix
returns-in-Some-strip_suffix c =
    let front = strip_prefix_is Decides-eqb c.args.text.now c.as_slice.result.now (Some c.in-Some.rest) c.in-Some.ensures.cases in
    let behind = strip_suffix_is Decides-eqb c.in-Some.rest.now c.as_slice-in-Some.result.now (Some c.in-Some-strip_suffix.inner) c.in-Some-strip_suffix.ensures.cases in
    c.eq.ensures ∙ in_quotes c.args.text.now c.in-Some.rest.now c.in-Some-strip_suffix.inner.now c.args.tag.now (rw c.as_slice.ensures at front) (rw c.as_slice-in-Some.ensures at behind)

pub returns-in-None-strip_suffix : goal.returns-in-None-strip_suffix
returns-in-None-strip_suffix c =
    let front = strip_prefix_is Decides-eqb c.args.text.now c.as_slice.result.now (Some c.in-Some.rest) c.in-Some.ensures.cases in
    let none = strip_suffix_is Decides-eqb c.in-Some.rest.now c.as_slice-in-Some.result.now None c.in-None-strip_suffix.ensures.cases in
    no_end c.args.text.now c.in-Some.rest.now c.args.tag.now (rw c.as_slice.ensures at front) (rw c.as_slice-in-Some.ensures at none)
