use Rattle.std.proofs.Common.{◌∙◌, ℕ, List, ap, inl, refl, sym}
use Rattle.std.specs.Prelude.{bytes_eq}
use Rattle.std.proofs.lemmas.Bool.Decides.{Decides-at}
use lib.Pointwise.{bytes_decides}
use Rattle.register_core.proofs.FoundLemmas.{next_content}
use Rattle.register_core.proofs.looks.has_content.Goals as goal

pub returns-then-eq : goal.returns-then-eq
returns-then-eq c = (
  λ yes. (
    c.in-Some.file,
    c.in-Some.is,
    inl (sym c.as_slice.ensures ∙ (bytes_decides c.as_slice.result.now c.args.content.now).0 (sym c.eq.ensures ∙ c.if-eq.true)),
  ),
  λ found. refl,
)

pub returns-in-Some-next : goal.returns-in-Some-next
returns-in-Some-next c =
    next_content c.args.file.now c.in-Some.file c.in-Some-next.next c.args.content.now c.eq.result c.eq-in-Some-next.result c.in-Some.is c.in-Some-next.is
    (Decides-at c.eq.result _ (c.eq.ensures ∙ ap (λ (xs : List ℕ). bytes_eq xs c.args.content.now) c.as_slice.ensures)
    (bytes_decides c.in-Some.file.base.content c.args.content.now))
    (Decides-at c.eq-in-Some-next.result _ (c.eq-in-Some-next.ensures ∙ ap (λ (xs : List ℕ). bytes_eq xs c.args.content.now) c.as_slice-in-Some-next.ensures)
    (bytes_decides c.in-Some-next.next.content c.args.content.now))
    c.if-eq.false
