use Rattle.std.proofs.Common.{◌≡◌, ◌+◌, [], ◌∷◌, ◌++◌, All, length, sym, ap, subst, ◌∙◌, arith, append_assoc, length-append}
use Rattle.std.proofs.lemmas.List.Elements.{All-nil}
use Rattle.io_base.proofs.Turning.{TakesTurns-none, TakesTurns-one, TakesOne-over, TakesTurns-apart}
use Rattle.io_base.proofs.Works.{Apart-count}
use Rattle.io_base.proofs.turns.Turns.take_each.Goals as goal

pub loop-work-init : goal.loop-work-init
loop-work-init g c = (
  TakesTurns-none g.W.Work.kept c.args.self.now (omega (arith, c.requires.counts.0)) (omega (arith, c.requires.counts.1))
      c.args.done.items c.args.left.items c.requires.empty.0 c.requires.empty.1,
  subst (All g.W.Work.over) (sym c.requires.empty.0) (All-nil g.W.Work.over),
  sym c.into_iter-work-iterator.ensures.into_iter_gives.0,
  c.requires.room.0,
  c.requires.room.1,
)

pub take_one-requires-after_bounds : goal.take_one-requires-after_bounds
take_one-requires-after_bounds g c κs within =
    let works = c.args.works in
    let done = c.loop-work.done in
    let left = c.loop-work.left in
    let seen = c.loop-work.yielded in
    let rest = c.next.new.self.rest.items in
    let apart : length done.items + length left.items ≡ length seen =
    Apart-count g.W.Work.kept seen done.items left.items
    (TakesTurns-apart g.W.Work.kept c.args.self.now c.loop-work.self seen done.items left.items c.loop-work.invariant.0) in
    let split : length works.items ≡ length (seen ++ c.in-Some.work ∷ rest) =
    ap length (c.loop-work.invariant.2 ∙ ap (λ xs. seen ++ xs) c.in-Some.ensures.steps.0) in (
      omega (arith, apart, split, length-append seen (c.in-Some.work ∷ rest), c.loop-work.invariant.3, works.ok, done.ok, left.ok),
      omega (arith, apart, split, length-append seen (c.in-Some.work ∷ rest), c.loop-work.invariant.4, works.ok, done.ok, left.ok),
    )

pub loop-work-preserved : goal.loop-work-preserved
loop-work-preserved g c =
    let seen = c.loop-work.yielded in
    let work = c.in-Some.work in
    let done = c.loop-work.done.items in
    let left = c.loop-work.left.items in
    let took = c.take_one.ensures.took in (
      TakesTurns-one g.W.Work.kept g.W.Work.over c.args.self.now c.loop-work.self c.take_one.new.self seen work done c.take_one.new.done.items
          left c.take_one.new.left.items c.loop-work.invariant.0 took,
      TakesOne-over g.W.Work.kept g.W.Work.over c.loop-work.self c.take_one.new.self work done c.take_one.new.done.items
          left c.take_one.new.left.items c.loop-work.invariant.1 took,
      c.loop-work.invariant.2 ∙ ap (λ xs. seen ++ xs) c.in-Some.ensures.steps.0
          ∙ sym (append_assoc seen (work ∷ []) c.next.new.self.rest.items),
      omega (arith, c.loop-work.invariant.3, c.take_one.ensures.room.0),
      omega (arith, c.loop-work.invariant.4, c.take_one.ensures.room.1),
    )
