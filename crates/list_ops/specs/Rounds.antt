-- What a listing knows of the keys of its bucket, by what its sections were shown.
use Rattle.std.specs.Prelude.{◌≡◌, ◌⊎◌, ℕ, ◌<◌, ◌≤◌, true, false, List, [], ◌∷◌, ◌++◌, All, Contains, length, map, Option, Some}
use Rattle.std.specs.List.Sorted.{IsSorted, IsStrictlySortedBy}
use Rattle.call_types.specs.declared.names.Mode.{Mode}
use Rattle.call_types.specs.declared.reply.VersionRow.{VersionRow}
use Rattle.desk_base.specs.Calls.{IsKey}
use Rattle.drive_base.specs.Names.{byte_order}
use Rattle.receipts.specs.Events.{IsUntold, Log, Section, body_of, cuts_of, sections_of}
use Rattle.receipts.specs.Listing.{KeyIsAskedFor, ViewsKey, key_in, key_order}
use Rattle.receipts.specs.Looks.{FindsBucket}
use Rattle.receipts.specs.Pages.{Candidate, PageRule, begins_with, group_in, group_of, is_before, is_behind, rows_of, wants}
use Rattle.receipts.specs.Paging.{AsksFor, DoesNothing, Page}
use Rattle.receipts.specs.Registers.{key_register, key_slot}
use Rattle.list_ops.specs.Names.{key_of}
use Rattle.list_ops.specs.Sheets.{Sheet, is_within, range}

-- the bucket was found, and behind that look these are the sections; nothing else was done
pub record HasBucket (bucket : List ℕ) (rest : List Section) (log : Log) : Type 0 where
  pub untold : All IsUntold log
  pub uncut : cuts_of log ≡ []
  pub no_body : body_of log ≡ []
  pub idle : All DoesNothing (sections_of log)
  pub look : Section
  pub sections : sections_of log ≡ look ∷ rest
  pub mode : Mode
  pub finds : FindsBucket bucket mode look

-- the name of a key's register
abbrev pub name_for : List ℕ → List ℕ → List ℕ
name_for bucket key = key_register (key_in bucket key)

-- a key was asked for by a page of names, and if it was shown its name is among those that aren't done with
pub record IsPending (bucket key : List ℕ) (left : List (List ℕ)) (sections : List Section) : Type 0 where
  pub page : Page
  pub before : List Section
  pub asked : Section
  pub after : List Section
  pub parts : sections ≡ before ++ asked ∷ after
  pub asks : AsksFor (key_slot (key_in bucket key)) (name_for bucket key) page asked
  pub is_left : Contains page.names (name_for bucket key) → Contains left (name_for bucket key)

module _ (rule : PageRule) (bucket : List ℕ) where
  -- a lawful key that isn't left out
  pub record IsListed (key : List ℕ) : Type 0 where
    pub lawful : IsKey (key_in bucket key)
    pub wanted : wants rule key ≡ true

  -- a key is in a group that is a row
  pub record IsGiven (rows : List VersionRow) (key : List ℕ) : Type 0 where
    pub group : List ℕ
    pub group_is : group_of rule key ≡ Some group
    pub given : Contains (map group_in rows) (Some group)

  -- a key is done with: it was asked for, or it is in a group that is a row
  abbrev pub IsSettled : List ℕ → List VersionRow → List Candidate → List Section → Type 0
  IsSettled key rows looked sections = KeyIsAskedFor bucket key looked sections ⊎ IsGiven rows key

  -- the rows are those of the keys that were looked at, which rise up to a name
  pub record HasRows (rows : List VersionRow) (last : Option (List ℕ)) (looked : List Candidate) (sections : List Section) : Type 0 where
    pub some : 0 < rule.most
    pub few : length rows ≤ rule.most
    pub rising : IsStrictlySortedBy key_order looked
    pub viewed : All (λ candidate. (look : Section) × Contains sections look × ViewsKey bucket candidate look) looked
    pub rows_are : rows ≡ rows_of rule looked
    pub upto_last : All (λ candidate. is_behind last (name_for bucket candidate.key) ≡ false) looked

  -- what is known of the keys: those before the begin of the round and up to the last name are done with, and those of the slots below one that are within
  -- the bound were asked for
  pub record HasAsked (sheet : Sheet) (slots : ℕ) (looked : List Candidate) (sections : List Section) : Type 0 where
    pub some : 0 < sheet.most
    pub begins : begins_with (range rule bucket) sheet.from ≡ true
    pub bound_begins : (bound : List ℕ) → sheet.bound ≡ Some bound → begins_with (range rule bucket) bound ≡ true
    pub names : All (λ name. name ≡ name_for bucket (key_of bucket name)) sheet.left
    pub done : (key : List ℕ) → IsListed key → (is_before (name_for bucket key) sheet.from ≡ true) ⊎ (is_behind sheet.last (name_for bucket key) ≡ false)
        → IsSettled key sheet.rows looked sections
    pub known : (key : List ℕ) → IsListed key → key_slot (key_in bucket key) < slots → is_within sheet.bound (name_for bucket key) ≡ true
        → IsSettled key sheet.rows looked sections ⊎ IsPending bucket key sheet.left sections

  -- a listing that asks the next slot for names
  pub record IsAtSlot (sheet : Sheet) (sections : List Section) : Type 0 where
    pub looked : List Candidate
    pub rows : HasRows sheet.rows sheet.last looked sections
    pub asked : HasAsked sheet sheet.slot looked sections

  -- a listing that has asked all slots, and goes over the names that were found
  pub record IsInRound (sheet : Sheet) (sections : List Section) : Type 0 where
    pub looked : List Candidate
    pub rows : HasRows sheet.rows sheet.last looked sections
    pub asked : HasAsked sheet 64 looked sections
    pub sorted : IsSorted byte_order sheet.left

  -- a listing that looks at a key next, which is that of the last name
  pub record IsAtKey (sheet : Sheet) (key : List ℕ) (sections : List Section) : Type 0 where
    pub looked : List Candidate
    pub earlier : Option (List ℕ)
    pub last_is : sheet.last ≡ Some (name_for bucket key)
    pub behind : is_behind earlier (name_for bucket key) ≡ true
    pub within : is_within sheet.bound (name_for bucket key) ≡ true
    pub rows : HasRows sheet.rows earlier looked sections
    pub asked : HasAsked (record sheet { left = name_for bucket key ∷ sheet.left; last = earlier }) 64 looked sections
    pub sorted : IsSorted byte_order (name_for bucket key ∷ sheet.left)
    pub before : (other : List ℕ) → IsListed other → is_before (name_for bucket other) (name_for bucket key) ≡ true
        → IsSettled other sheet.rows looked sections
