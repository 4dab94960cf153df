-- What the content of a register means, by its name: the state of a key, the record of a bucket or that of a part; and what it names.
use Rattle.std.specs.Prelude.{◌≡◌, ◌⊎◌, ℕ, true, List, [], Option, Some, Contains}
use Rattle.stamp_id.specs.Rank.{change_of}
use Rattle.stamp_id.specs.declared.version.VersionId.{VersionId}
use Rattle.call_types.specs.declared.names.Key.{Key}
use Rattle.call_types.specs.declared.version.PartRecord.{PartRecord}
use Rattle.call_types.specs.declared.version.Version.{Version}
use Rattle.call_types.specs.declared.version.What.TheVariants.{Object}
use Rattle.version_list.specs.NamesId.{names_id}
use Rattle.version_list.specs.Spelling.{spelling}
use Rattle.version_list.specs.State.{IsCanonical}
use Rattle.version_list.specs.declared.state.KeyState.{KeyState}
use Rattle.bucket_book.specs.Content.{content_of as bucket_content, IsCanonicalRow as IsBucketRow}
use Rattle.bucket_book.specs.declared.record.BucketRecord.{BucketRecord}
use Rattle.upload_book.specs.Content.{content_of as part_content, IsCanonicalRow as IsPartRow}
use Rattle.upload_book.specs.Storing.{is_open}
use Rattle.slot_history.specs.Names.{bucket_name, key_name, part_name}

-- the number of the change that an id is made of
abbrev pub number_of_id : VersionId → ℕ
number_of_id id = change_of id.change

-- a key that has no version and no open upload
abbrev pub no_key : KeyState
no_key = record { versions = []; uploads = [] }

-- a content is that of a key of this state
pub record SpellsKey (content : List ℕ) (state : KeyState) : Type 0 where
  pub canonical : IsCanonical state
  pub is : content ≡ spelling state

-- a content is that of a bucket of this record, or of none
pub record SpellsBucket (content : List ℕ) (row : Option BucketRecord) : Type 0 where
  pub canonical : IsBucketRow row
  pub is : content ≡ bucket_content row

-- a content is that of a part of this record, or of none
pub record SpellsPart (content : List ℕ) (row : Option PartRecord) : Type 0 where
  pub canonical : IsPartRow row
  pub is : content ≡ part_content row

-- a content of the register of this name is canonical: it is that of a key, of a bucket or of a part, as its name says
abbrev pub IsContentOf : List ℕ → List ℕ → Type 0
IsContentOf name content =
    ((at : Key) × (name ≡ key_name at) × ((state : KeyState) × SpellsKey content state))
    ⊎ (((bucket : List ℕ) × (name ≡ bucket_name bucket) × ((row : Option BucketRecord) × SpellsBucket content row))
    ⊎ ((at : Key) × (upload : VersionId) × (number : ℕ) × (name ≡ part_name at upload number) × ((row : Option PartRecord) × SpellsPart content row)))

-- the data of a version or of a part: its id, its print, and its length in bytes
pub record NamedData : Type 0 where
  pub id : VersionId
  pub print : List ℕ
  pub size : ℕ

-- a version of a key is an object of this data
abbrev pub IsVersionOf : NamedData → Version → Type 0
IsVersionOf named v = (md5 : List ℕ) × (parts : ℕ) × (upload : Option VersionId) × (kind : List ℕ)
    × (v.what ≡ Object named.id named.print named.size md5 parts upload kind)

-- the content of a key's register names data, as that of a version
pub record KeyNames (name content : List ℕ) (named : NamedData) : Type 0 where
  pub at : Key
  pub name_is : name ≡ key_name at
  pub state : KeyState
  pub spells : SpellsKey content state
  pub version : Version
  pub there : Contains state.versions version
  pub is : IsVersionOf named version

-- the content of a part's register names data, as that of the part
pub record PartNames (name content : List ℕ) (named : NamedData) : Type 0 where
  pub at : Key
  pub upload : VersionId
  pub number : ℕ
  pub name_is : name ≡ part_name at upload number
  pub part : PartRecord
  pub spells : SpellsPart content (Some part)
  pub id_is : part.data_id ≡ named.id
  pub print_is : part.print ≡ named.print
  pub size_is : part.length ≡ named.size

-- a content names data
abbrev pub NamesData : List ℕ → List ℕ → NamedData → Type 0
NamesData name content named = KeyNames name content named ⊎ PartNames name content named

-- the content of a key's register names an id in any of its fields
pub record KeyNamesId (name content : List ℕ) (id : VersionId) : Type 0 where
  pub at : Key
  pub name_is : name ≡ key_name at
  pub state : KeyState
  pub spells : SpellsKey content state
  pub names : names_id id state ≡ true

-- a content names an id
abbrev pub NamesId : List ℕ → List ℕ → VersionId → Type 0
NamesId name content id = KeyNamesId name content id ⊎ ((named : NamedData) × PartNames name content named × (named.id ≡ id))

-- the content of a key's register has an upload of this id open
pub record HasOpen (content : List ℕ) (upload : VersionId) : Type 0 where
  pub state : KeyState
  pub spells : SpellsKey content state
  pub opened : is_open upload state ≡ true
