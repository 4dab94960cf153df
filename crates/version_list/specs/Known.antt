-- What a reader knows of the names that it met.
use Rattle.std.specs.Prelude.{◌≡◌, ℕ, List, Bool, ◌||◌}
use Rattle.std.specs.Ordering.{nat_cmp}
use Rattle.std.specs.Cmp.Lexicographic.{slice_cmp}
use Rattle.std.specs.BTreeSet.{contains}
use Rattle.std.specs.Str.{bytes_eq}
use Rattle.version_list.specs.declared.names.Names.{Names}

-- whether bytes are one of the names
unfoldable pub is_known : Names → List ℕ → Bool
is_known names bytes = contains (slice_cmp nat_cmp) names.known bytes

-- one name more is known
abbrev pub AddsName : Names → Names → List ℕ → Type 0
AddsName old new name = (bytes : List ℕ) → is_known new bytes ≡ (bytes_eq name bytes || is_known old bytes)
