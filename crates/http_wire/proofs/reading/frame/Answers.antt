use Rattle.std.proofs.Common.{List, ℕ, refl, sym, subst}
use Rattle.std.proofs.lemmas.Bool.{iff_false}
use Rattle.http_wire.specs.Heads.{BeginsHead}
use Rattle.http_wire.proofs.ArrivalLemmas.{no_length, has_chunks}
use Rattle.http_wire.proofs.reading.frame.Goals as goal

pub returns-in-None : goal.returns-in-None
returns-in-None c =
    let is = c.requires in
    (no_length c.args.window.now _ c.args.head is.tree is.parts is.begins c.in-None.ensures, refl)

pub returns-then-is_chunked : goal.returns-then-is_chunked
returns-then-is_chunked c =
    let is = c.requires in (
      has_chunks c.args.window.now _ c.args.head is.tree c.in-Some.length is.parts is.begins c.in-Some.ensures
          (c.is_chunked.ensures.0 c.if-is_chunked.true),
      refl,
    )

pub returns-else-is_chunked : goal.returns-else-is_chunked
returns-else-is_chunked c =
    let is = c.requires in
    record {
      tree = is.tree;
      begins = subst (λ (t : List ℕ). BeginsHead c.args.window.now is.tree t) (sym c.pass.ensures) is.begins;
      parts = is.parts;
      length_is = c.in-Some.ensures;
      plain = iff_false c.is_chunked.ensures c.if-is_chunked.false;
    }
