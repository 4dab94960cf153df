-- Which contents a section accepts, by the name of its register.
use Rattle.std.specs.Prelude.{◌≡◌, ◌⊎◌, ℕ, Bool, false, List, [], ◌∷◌, Option, Some, None, ◌==◌, if◌then◌else◌}
use Rattle.field_reader.specs.Format.{fault_at}
use Rattle.stamp_id.specs.VersionId.{id_bytes}
use Rattle.stamp_id.specs.declared.version.VersionId.{VersionId}
use Rattle.call_types.specs.declared.names.Key.{Key}
use Rattle.bucket_book.specs.Content.{content_fault}
use Rattle.upload_book.specs.Content.{content_fault as part_fault}
use Rattle.version_list.specs.Layout.{key_state}
use Rattle.version_list.specs.NamesId.{names_id}
use Rattle.version_list.specs.Places.{id_place}
use Rattle.version_list.specs.declared.state.KeyState.{KeyState}
use Rattle.slot_history.specs.Contents.{SpellsKey}
use Rattle.slot_history.specs.Names.{bucket_name, key_name}
use Rattle.slot_rules.specs.declared.rules.TheConstants.{BUCKET_BYTES, KEY_BYTES, PART_BYTES}

-- the name of a register at which a section looks: that of a bucket or that of a key
abbrev pub IsRegisterName : List ℕ → Type 0
IsRegisterName name = ((bucket : List ℕ) × (name ≡ bucket_name bucket)) ⊎ ((at : Key) × (name ≡ key_name at))

-- the first of two places, where there is one
abbrev pub first_place : Option ℕ → Option ℕ → Option ℕ
first_place None other = other
first_place (Some place) other = Some place

-- where a content first names one of these ids, if there are any
abbrev pub named_place : Option VersionId → List ℕ → Option ℕ
named_place None content = None
named_place (Some id) content = id_place (id_bytes id) content

-- the place where a key's content breaks its rule: it spells no state, or it names an id that the change might make
abbrev pub key_fault : Option VersionId → Option VersionId → List ℕ → Option ℕ
key_fault first second content = first_place (fault_at key_state content) (first_place (named_place first content) (named_place second content))

-- whether a name is that of a bucket's register
abbrev pub is_bucket_name : List ℕ → Bool
is_bucket_name [] = false
is_bucket_name (byte ∷ rest) = byte == 98

-- and whether it is that of a part's register
abbrev pub is_part_name : List ℕ → Bool
is_part_name [] = false
is_part_name (byte ∷ rest) = byte == 112

-- the rule of the contents of a register, by its name, and the most bytes that such a content has
abbrev pub rule_for : List ℕ → List ℕ → Option ℕ
rule_for name content =
    if is_bucket_name name then content_fault content else (if is_part_name name then part_fault content else key_fault None None content)

abbrev pub longest_for : List ℕ → ℕ
longest_for name = if is_bucket_name name then BUCKET_BYTES else (if is_part_name name then PART_BYTES else KEY_BYTES)

-- a key doesn't name this id, if there is one
abbrev pub NamesNone : Option VersionId → KeyState → Type 0
NamesNone None state = Unit {0}
NamesNone (Some id) state = names_id id state ≡ false

-- the state of a key that was read of its content, which names neither id
pub record IsRead (first second : Option VersionId) (content : List ℕ) (state : KeyState) : Type 0 where
  pub spells : SpellsKey content state
  pub first_new : NamesNone first state
  pub second_new : NamesNone second state
