-- A word that begins with `--`, as std's `strip_prefix` and `split_once` take it apart.
use Rattle.std.proofs.Common.{◌≡◌, ◌≢◌, ℕ, ◌<◌, List, ◌∷◌, ◌++◌, get_or, length, codes, Some, None, sym, ap, ◌∙◌}
use Rattle.std.specs.Borrow.{Bor}
use Rattle.std.proofs.lemmas.List.{append-nil}
use Rattle.std.proofs.lemmas.List.Elements.{All-from_get_or, recursion_from_All}
use Rattle.command_line.specs.Values.{IsPlain, IsSplit}

-- a text in which no byte is `=` has none
pub plain_from : (text : List ℕ) → ((i : ℕ) → i < length text → get_or text i 0 ≢ 61) → IsPlain text
plain_from text none = recursion_from_All (λ byte. byte ≢ 61) text (All-from_get_or (λ byte. byte ≢ 61) text 0 none)

-- a word with no `=`
pub split_whole : (word text : List ℕ) → word ≡ codes "--" ++ text → ((i : ℕ) → i < length text → get_or text i 0 ≢ 61) → IsSplit word text None
split_whole word text is none = record { plain = plain_from text none; is = is ∙ ap (λ (t : List ℕ). codes "--" ++ t) (sym (append-nil text)) }

-- a word with `=`
pub split_at : (word text name : List ℕ) (value : Bor (List ℕ)) → word ≡ codes "--" ++ text → text ≡ name ++ (61 ∷ value.now) → ((i : ℕ) → i < length name → get_or name i 0 ≢ 61) → IsSplit word name (Some value)
split_at word text name value is parts none = record { plain = plain_from name none; is = is ∙ ap (λ (t : List ℕ). codes "--" ++ t) parts }
