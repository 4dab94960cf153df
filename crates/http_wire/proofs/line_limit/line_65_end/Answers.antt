use Rattle.std.proofs.Common.{ℕ, cond, [], ◌∷◌, ◌++◌, take, get_or, sym, ap, ◌∙◌, arith, Bool, not}
use Rattle.std.specs.Prelude.{◌||◌, ◌&&◌, ◌==◌}
use Rattle.std.proofs.lemmas.List.{take_more, take_all}
use Rattle.httparse.specs.Pieces.{is_newline}
use Rattle.http_wire.specs.Lines.{has_begun, line_ends}
use Rattle.http_wire.proofs.FeedLemmas.{line_ends_push, has_begun_push, few_lines, counted}
use Rattle.http_wire.proofs.line_limit.line_65_end.Goals as goal

pub loop-i-preserved : goal.loop-i-preserved
loop-i-preserved c =
    let bytes = c.args.bytes.now in
    let i = c.loop-i.i in
    let b = get_or bytes i 0 in
    let more = take_more bytes i 0 c.loop-i-test.true in
    let counts = c.count_end-lines.ensures ∙ ap (λ (t : Bool). cond (t && (b == 10)) 1 0) c.loop-i.invariant.0 in (
      c.begins-begun.ensures ∙ ap (λ (t : Bool). t || not (is_newline b)) c.loop-i.invariant.0
          ∙ sym (has_begun_push (take i bytes) b) ∙ sym (ap has_begun more),
      omega (arith, counts, c.loop-i.invariant.1, line_ends_push (take i bytes) b, ap line_ends more),
      c.if-lines-gt-MOST_LINES.false,
    )

pub returns : goal.returns
returns c = λ front rest e ends.
    let all = ap line_ends (take_all c.loop-i.i c.args.bytes.now c.loop-i-test.false) in
    few_lines front rest (omega (arith, all, ap line_ends e, c.loop-i.invariant.1, c.loop-i.invariant.2)) ends

pub returns-then-lines-gt-MOST_LINES : goal.returns-then-lines-gt-MOST_LINES
returns-then-lines-gt-MOST_LINES c =
    let bytes = c.args.bytes.now in
    let i = c.loop-i.i in
    let b = get_or bytes i 0 in
    let more = take_more bytes i 0 c.loop-i-test.true in
    let counts = c.count_end-lines.ensures ∙ ap (λ (t : Bool). cond (t && (b == 10)) 1 0) c.loop-i.invariant.0 in
    let last = counted c.loop-i.lines c.count_end-lines.result (has_begun (take i bytes)) b counts c.loop-i.invariant.2 c.if-lines-gt-MOST_LINES.true in
    record {
      fits = omega arith;
      ends = record {
        before = take i bytes;
        text_is = more ∙ ap (λ (v : ℕ). take i bytes ++ v ∷ []) last.0;
        count = omega (arith, counts, last.1, c.loop-i.invariant.1, line_ends_push (take i bytes) b, ap line_ends more);
      };
    }
