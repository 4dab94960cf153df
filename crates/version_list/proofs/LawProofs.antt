-- The laws of reading and writing.
use Rattle.std.proofs.Common.{◌≡◌, ℕ, List, None, Result, Ok, Err, refl, sym, ap, subst, ◌∙◌}
use Rattle.field_reader.specs.Format.{value_of, place_of}
use Rattle.field_reader.specs.Spelling.{IsBytes}
use Rattle.version_list.specs.declared.state.KeyState.{KeyState}
use Rattle.version_list.specs.State.{IsCanonical}
use Rattle.version_list.specs.Rows.{StateRows, rows_of}
use Rattle.version_list.specs.Spelling.{spelling, rows_bytes}
use Rattle.version_list.specs.Layout.{key_state}
use Rattle.version_list.specs.Laws.{SpellingsHaveNoFault, FaultlessIsSpelled, SpellingIsInjective}
use Rattle.version_list.proofs.StateText.{AreRows, state_takes, state_again, rows_is}
use Rattle.version_list.proofs.Canonical.{canonical_from_rows, rows_from_canonical}
use Rattle.version_list.proofs.Injective.{rows_of-injective}
use Rattle.version_list.proofs.Made.{state_of}

-- a canonical state is found in its spelling
pub spelling_found : (state : KeyState) → IsCanonical state → value_of key_state (spelling state) ≡ Ok (rows_of state)
spelling_found state canonical = state_again (rows_of state) (rows_from_canonical state canonical)

-- a state that is found is canonical, and the content is its spelling
pub found_spelling : (content : List ℕ) (state : KeyState) → IsBytes content → value_of key_state content ≡ Ok (rows_of state) → IsCanonical state × (content ≡ spelling state)
found_spelling content state bytes found =
    let t = state_takes content (rows_of state) bytes found in
    (canonical_from_rows state t.0, t.1)

-- a content is read as one state alone
pub found_same : (content : List ℕ) (read state : KeyState) → value_of key_state content ≡ Ok (rows_of read) → IsCanonical state → content ≡ spelling state → read ≡ state
found_same content read state found canonical is =
    let other : value_of key_state content ≡ Ok (rows_of state) = ap (value_of key_state) is ∙ spelling_found state canonical in
    rows_of-injective read state (rows_is (rows_of read) (rows_of state) (sym found ∙ other))

pub no_fault : SpellingsHaveNoFault
no_fault state canonical = ap place_of (spelling_found state canonical)

found_from : (found : Result StateRows ℕ) → place_of found ≡ None → (r : StateRows) × (found ≡ Ok r)
found_from (Ok r) e = (r, refl)
found_from (Err place) e = absurd cc

pub faultless : FaultlessIsSpelled
faultless content bytes e =
    let found = found_from (value_of key_state content) e in
    let t = state_takes content found.0 bytes found.1 in
    let state = state_of found.0 t.0 in
    let rows : AreRows (rows_of state.0) = subst (λ (r : StateRows). AreRows r) (sym state.1) t.0 in
    (state.0, canonical_from_rows state.0 rows, t.1 ∙ ap (λ (r : StateRows). rows_bytes r.versions r.uploads) (sym state.1))

pub injective : SpellingIsInjective
injective a b canonical_a canonical_b same =
    found_same (spelling a) a b (spelling_found a canonical_a) canonical_b same
