use Rattle.std.proofs.Common.{◌≡◌, ◌<◌, List, [], ◌∷◌, ◌++◌, ap, arith, length, subst, sym, ◌∙◌, ℕ}
use Rattle.drill_script.specs.Limits.{most_bytes, most_lines}
use Rattle.drill_script.specs.Reader.{HasRead, Progress}
use Rattle.drill_script.proofs.ReaderLemmas.{passes, stops_long, stops_many, takes}
use Rattle.drill_script.proofs.script.ScriptReader.take_byte.Goals as goal

pub returns-then-self : goal.returns-then-self
returns-then-self c = λ bytes read. passes bytes c.args.byte c.args.self.now read (ap (λ (r : Progress). r.over) (sym c.self.view_is) ∙ c.if-self.true)

pub returns-then-self-eq-MOST_LINES : goal.returns-then-self-eq-MOST_LINES
returns-then-self-eq-MOST_LINES c = λ bytes read.
    let reads = ap (λ (r : Progress). r.over) (sym c.self.view_is) ∙ c.if-self.false in
    let full = ap (λ (r : Progress). r.ended) (sym c.self.view_is) ∙ c.if-self-eq-MOST_LINES.true in
    subst (HasRead (bytes ++ c.args.byte ∷ [])) (sym c.stop.ensures) (stops_many bytes c.args.byte c.args.self.now read reads full)

pub returns-then-len-eq-MOST_BYTES : goal.returns-then-len-eq-MOST_BYTES
returns-then-len-eq-MOST_BYTES c = λ bytes read.
    let reads = ap (λ (r : Progress). r.over) (sym c.self.view_is) ∙ c.if-self.false in
    let ok = c.self.inside.line.ok in
    let size : length c.self.inside.line.items ≡ 4096 = omega (arith, c.len.ensures, c.if-len-eq-MOST_BYTES.true) in
    let full = subst (λ (r : Progress). length r.line ≡ most_bytes) c.self.view_is size in
    subst (HasRead (bytes ++ c.args.byte ∷ [])) (sym c.stop-then-len-eq-MOST_BYTES.ensures) (stops_long bytes c.args.byte c.args.self.now read reads full c.if-byte-eq10.false)

pub returns : goal.returns
returns c = λ bytes read.
    let reads = ap (λ (r : Progress). r.over) (sym c.self.view_is) ∙ c.if-self.false in
    let low : c.self.inside.ended < most_lines = omega (arith, c.self.invariant.0, c.if-self-eq-MOST_LINES.false) in
    let few = subst (λ (r : Progress). r.ended < most_lines) c.self.view_is low in
    let small : length c.self.inside.line.items < most_bytes = omega (arith, c.self.invariant.1, c.len.ensures, c.if-len-eq-MOST_BYTES.false) in
    let short = subst (λ (r : Progress). length r.line < most_bytes) c.self.view_is small in
    let new = takes bytes c.args.byte c.args.self.now read reads c.if-byte-eq10.false few short in
    let seen = subst (λ (r : Progress). HasRead (bytes ++ c.args.byte ∷ []) (record r { line = r.line ++ c.args.byte ∷ [] })) (sym c.self.view_is) new in
    subst
    (λ (l : List ℕ). HasRead (bytes ++ c.args.byte ∷ []) (record { lines = c.self.inside.lines.items; line = l; ended = c.self.inside.ended; bad = c.self.inside.bad; over = c.self.inside.over }))
    (sym c.in_ok-push.ensures.items) seen
