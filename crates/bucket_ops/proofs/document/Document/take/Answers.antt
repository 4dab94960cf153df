use Rattle.std.proofs.Common.{◌∙◌, ◌++◌, ap, drop, take, arith}
use Rattle.std.proofs.Math.Seq.{take-add}
use Rattle.std.proofs.lemmas.List.{length-drop, length-take-le}
use Rattle.bucket_ops.proofs.document.Document.take.Goals as goal

pub returns-in-Ok-clause-takes : goal.returns-in-Ok-clause-takes
returns-in-Ok-clause-takes g c =
    let old = c.args.self.now in
    let items = c.take_behind.new.bytes.items in
    let count = c.in-Ok.count in
    let gave = c.in-Ok.ensures.gives in
    let long = c.take_behind.ensures.long in
    let left = c.requires.left in
    let fed = c.requires.fed in
    let stated = fed.stated in
    let given = fed.given in
    let rest = length-drop old.taken items in
    let fits = gave.fits in
    let some = gave.some in
    let taken = length-take-le count (drop old.taken items) fits in
    record {
      long = long;
      bytes = take count (drop old.taken items);
      adds = take-add old.taken count items ∙ ap (λ front. front ++ take count (drop old.taken items)) c.take_behind.ensures.front;
      grows = (let positive = some (omega (arith, rest, long, left)) (omega (arith, stated, given, left)) in omega (arith, taken, positive));
      moves = record { gave = gave.gave; cause = c.in-Ok.ensures.cause };
    }
