use Rattle.std.proofs.Common.{◌≡◌, ◌-◌, ◌++◌, Some, length, min, drop, take, subst, ◌∙◌, sym, ap, arith}
use Rattle.std.proofs.lemmas.List.{drop-drop, take_all, length-drop}
use Rattle.io_base.specs.Source.{TookFront}
use Rattle.io_base.proofs.Taking.{TookFront-copied}
use Rattle.io_base.proofs.memory_source.MemSourceSource.take.Goals as goal

pub returns-clause-taken : goal.returns-clause-taken
returns-clause-taken c =
    let n = c.copy_front-n.result in
    let taken = c.self.inside.taken in
    let bytes = c.self.inside.bytes.items in
    let left = c.args.self.now.left in
    let into = c.args.into.now in
    let left_is : drop taken bytes ≡ left = ap (λ s. s.left) c.self.view_is in
    let held = c.deref-2.result.now in
    let whole : take (length held - taken) (drop taken held) ≡ left =
    take_all _ (drop taken held) (omega (arith, length-drop taken held)) ∙ ap (drop taken) c.deref-2.ensures.value ∙ left_is in
    let count : n ≡ min (length into) (length left) = c.copy_front-n.ensures.count ∙ ap (λ xs. min (length into) (length xs)) whole in
    let copied : c.copy_front-n.new.into ≡ take n left ++ drop n into = c.copy_front-n.ensures.copied ∙ ap (λ xs. take n xs ++ drop n into) whole in
    subst (λ xs. TookFront n c.copy_front-n.new.into (Some left) (Some xs)) (ap (drop n) (sym left_is) ∙ drop-drop n taken bytes)
    (TookFront-copied left into c.copy_front-n.new.into n count copied c.copy_front-n.auto.into)
