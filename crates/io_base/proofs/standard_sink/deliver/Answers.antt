use Rattle.std.proofs.Common.{◌≡◌, ◌-◌, ◌≤◌, length, take, drop, subst, sym, ap, ◌∙◌, arith}
use Rattle.std.proofs.lemmas.List.{length-drop}
use Rattle.std.proofs.KnownBytes.{Appends-kept}
use Rattle.std.specs.Io.KnownBytes.{Appends}
use Rattle.io_base.proofs.Writing.{slice_from, Appends-piece}
use Rattle.io_base.proofs.standard_sink.deliver.Goals.{in-Ok, in-Err}
use Rattle.io_base.proofs.standard_sink.deliver.Goals as goal

pub loop-preserved : goal.loop-preserved
loop-preserved g c =
    let contents = g.W.Write.contents in
    let bytes = c.args.bytes.now in
    let done = c.loop.done in
    elim c.match-write.branch [
      | in-Ok w ↦
          let rest : length (take (length bytes - done) (drop done bytes)) ≡ length bytes - done =
          ap length (slice_from bytes done) ∙ length-drop done bytes in
          let within : c.match-write.done ≤ length bytes = omega (arith, w.done-is, w.in-Ok.ensures.bound, rest, c.loop.invariant.0) in (
            within,
            subst (λ n. Appends (contents c.args.writer.now) (contents c.write.new.self) (take n bytes)) (sym w.done-is)
                (Appends-piece _ (contents c.loop.writer) _ bytes done w.in-Ok.n c.loop.invariant.1 w.in-Ok.ensures.bytes),
          )
      | in-Err w ↦
          subst (λ n. (n ≤ length bytes) × Appends (contents c.args.writer.now) (contents c.write.new.self) (take n bytes)) (sym w.done-is)
          (c.loop.invariant.0, Appends-kept _ (contents c.loop.writer) _ _ c.loop.invariant.1 w.in-Err.ensures.bytes)
    ]
