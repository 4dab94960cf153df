-- Whether a key has rows.
use Rattle.std.specs.Prelude.{Bool, false, not, nat_lt, if◌then◌else◌, List, [], ◌∷◌, length}
use Rattle.call_types.specs.declared.version.Version.{Version}
use Rattle.version_list.specs.Naming.{is_marker}
use Rattle.receipts.specs.Pages.{Candidate, PageRule, left_out}

-- the current version is an object
abbrev pub has_object : List Version → Bool
has_object [] = false
has_object (version ∷ older) = not (is_marker version.what)

-- some version of the key is given
abbrev pub has_rows : PageRule → Candidate → Bool
has_rows rule candidate = if rule.versions
    then nat_lt (left_out rule candidate) (length candidate.state.versions)
    else has_object candidate.state.versions
