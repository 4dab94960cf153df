-- Scripts that grow by one line.
use Rattle.std.proofs.Common.{◌≡◌, ◌≢◌, ℕ, ◌<◌, List, [], ◌∷◌, ◌++◌, All, length, inl, inr, refl, ap, subst, ◌∙◌, arith}
use Rattle.std.proofs.lemmas.Grind.{flat_map-append}
use Rattle.std.proofs.lemmas.List.{append-nil, get_or_push, length_push}
use Rattle.std.proofs.lemmas.List.Elements.{All-nil, All-push}
use Rattle.drill_script.specs.Limits.{most_lines}
use Rattle.drill_script.specs.Lines.{spelling}
use Rattle.drill_script.specs.Reader.{MayFollow, SpellsNext}
use Rattle.drill_script.specs.Scripts.{IsBegun, IsEventLine, IsScript, IsSound, drives_of, line_text, script_text}
use Rattle.drill_script.specs.declared.line.Line.{Line}

-- what holds of each item holds of the last
last_item : {X : Type 0} (P : X → Type 0) (xs : List X) (x : X) → All P (xs ++ x ∷ []) → P x
last_item P xs x all = subst P (get_or_push xs x x (length xs) refl) (all (length xs) x (omega (arith, length_push xs x)))

-- one line more
pub script_more : (lines : List Line) (line : Line) → IsBegun lines → IsSound line → MayFollow lines line → length lines < most_lines → IsScript (lines ++ line ∷ [])
script_more [] line begun sound follows few = (sound, follows, All-nil (IsEventLine (drives_of line)), omega arith)
script_more (first ∷ events) line (inl none) sound follows few = absurd cc
script_more (first ∷ events) line (inr script) sound follows few =
    let long = length_push events line in
    (script.0, script.1, All-push (IsEventLine (drives_of first)) events line script.2 (sound, follows), omega arith)

-- the last line of a script
pub script_last : (lines : List Line) (line : Line) → IsScript (lines ++ line ∷ []) → IsSound line × MayFollow lines line × (length lines < most_lines)
script_last [] line script = (script.0, script.1, omega arith)
script_last (first ∷ events) line script =
    let last : IsEventLine (drives_of first) line = last_item (IsEventLine (drives_of first)) events line script.2 in
    let long = length_push events line in
    let few = script.3 in
    (last.0, last.1, omega arith)

-- the text of one line more
pub text_more : (lines : List Line) (line : Line) → script_text (lines ++ line ∷ []) ≡ script_text lines ++ line_text line
text_more lines line = flat_map-append line_text lines (line ∷ []) ∙ ap (λ (t : List ℕ). script_text lines ++ t) (append-nil (line_text line))

-- a line that may not stand where it would
pub no_follower : (lines : List Line) (bytes : List ℕ) (line : Line) → ((l : Line) → SpellsNext lines bytes l → ⊥) → IsScript (lines ++ line ∷ []) → bytes ≢ spelling line
no_follower lines bytes line none script = λ e.
    let last = script_last lines line script in
    none line (record { words = (last.0).words; fits = (last.0).fits; follows = last.1; are = e })
