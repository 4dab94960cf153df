-- The first line of a name, and what a look-up finds.
use Rattle.std.proofs.Common.{◌≡◌, ℕ, zero, suc, ◌<◌, List, [], ◌∷◌, length, map, refl, arith, ◌∙◌}
use Rattle.std.specs.Prelude.{false, Some, None}
use Rattle.std.specs.Char.{to_ascii_lowercase}
use Rattle.std.proofs.lemmas.Bool.{false_from_ne_true}
use Rattle.std.proofs.lemmas.Slice.Eq.{bytes_eq-Decides}
use Rattle.std.proofs.lemmas.Map.Entries.{lookup_head, lookup_tail}
use Rattle.http_wire.specs.Names.{Lines, line, IsNamed, NoneNamed, IsFirst, has_name, value_of}

has_not : (name text : List ℕ) → (IsNamed name text → ⊥) → has_name name text ≡ false
has_not name text other =
    false_from_ne_true (has_name name text)
    (λ yes. other ((bytes_eq-Decides (map to_ascii_lowercase text) (map to_ascii_lowercase name)).0 yes))

found_at : (name : List ℕ) (lines : Lines) (i : ℕ) → i < length lines → IsNamed name (line lines i).0
    → ((k : ℕ) → k < i → IsNamed name (line lines k).0 → ⊥) → value_of lines name ≡ Some (line lines i).1
found_at name [] i inside named first = absurd (omega (arith, inside))
found_at name (l ∷ lines) zero inside named first =
    lookup_head (has_name name) l lines ((bytes_eq-Decides (map to_ascii_lowercase l.0) (map to_ascii_lowercase name)).1 named)
found_at name (l ∷ lines) (suc i) inside named first =
    lookup_tail (has_name name) l lines (has_not name l.0 (first 0 (omega arith)))
    ∙ found_at name lines i (omega (arith, inside)) named (λ k below. first (suc k) (omega (arith, below)))

pub value_found : (name : List ℕ) (lines : Lines) (i : ℕ) → IsFirst name lines i → value_of lines name ≡ Some (line lines i).1
value_found name lines i first = found_at name lines i first.inside first.named first.first

pub value_missing : (name : List ℕ) (lines : Lines) → NoneNamed name lines → value_of lines name ≡ None
value_missing name [] none = refl
value_missing name (l ∷ lines) none =
    lookup_tail (has_name name) l lines (has_not name l.0 (none 0 (omega arith)))
    ∙ value_missing name lines (λ k inside. none (suc k) (omega (arith, inside)))
