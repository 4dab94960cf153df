-- What a list of buckets does next: at which names of a page it looks, and what is behind them.
use Rattle.std.specs.Prelude.{◌≡◌, ◌≢◌, ◌⊎◌, ℕ, ◌+◌, ◌-◌, ◌<◌, ◌≤◌, List, codes, length, map, slice_index_or, Option, Some, None, Result, Ok, Err, String, string_bytes}
use Rattle.bucket_book.specs.Content.{IsCanonicalRow, content_of}
use Rattle.bucket_book.specs.Name.{IsBucketName}
use Rattle.bucket_book.specs.declared.record.BucketRecord.{BucketRecord}
use Rattle.call_types.specs.declared.feed.Cut.TheVariants.{NoMemory}
use Rattle.call_types.specs.declared.refusal.Refusal.{Refusal}
use Rattle.call_types.specs.declared.refusal.Refusal.TheVariants.{SeqSpent}
use Rattle.call_types.specs.declared.reply.BucketRow.{BucketRow}
use Rattle.call_types.specs.declared.reply.Reply.TheVariants.{Buckets, Refused}
use Rattle.slot_core.specs.declared.slot.SlotFault.{SlotFault}
use Rattle.receipts.specs.Looks.{IsOfSection}
use Rattle.receipts.specs.Registers.{bucket_register, bucket_slot}
use Rattle.receipts.specs.declared.barred.Barred.{Barred}
use Rattle.receipts.specs.declared.barred.Barred.TheVariants as barred
use Rattle.op_steps.specs.Notes.{refusal_by}
use Rattle.bucket_ops.specs.Rows.{AddsRow}
use Rattle.bucket_ops.specs.declared.list_state.ListState.{ListState}
use Rattle.bucket_ops.specs.declared.list_state.ListState.TheVariants.{Looking, Over, Paging, Telling}
use Rattle.bucket_ops.specs.declared.list_state.Wanted.{Wanted}
use Rattle.bucket_ops.specs.declared.list_state.Work.{Work}

-- what a list has so far: the slot whose names are gone over, the name from which on its page is, the names of the page, how many of them are done with,
-- and the rows of the buckets that were found
pub record Sheet : Type 0 where
  pub slot : ℕ
  pub from : List ℕ
  pub names : List (List ℕ)
  pub at : ℕ
  pub rows : List BucketRow

abbrev pub sheet_of : Work → Sheet
sheet_of work = record {
  slot = work.slot;
  from = string_bytes work.from;
  names = map string_bytes work.names.items;
  at = work.at;
  rows = work.rows.items;
}

-- how many names a page has at most
abbrev pub page_names : ℕ
page_names = 32

-- no bucket with a lawful name has a register of this name
abbrev pub IsNoBucket : List ℕ → Type 0
IsNoBucket name = (bucket : List ℕ) → IsBucketName bucket → name ≢ bucket_register bucket

-- a name of a page of a slot is passed over: it is the one from which the page is, or no bucket of the slot has a register of this name
abbrev pub IsPassed : ℕ → List ℕ → List ℕ → Type 0
IsPassed slot from name = (bucket : List ℕ) → IsBucketName bucket → bucket_slot bucket ≡ slot → name ≡ bucket_register bucket → name ≡ from

-- a bucket is looked at for a name: the name is that of its register, and it is of the slot
pub record IsWanted (slot : ℕ) (from name : List ℕ) (wanted : Wanted) : Type 0 where
  pub name_is : string_bytes wanted.name ≡ name
  pub slot_is : bucket_slot wanted.bucket ≡ slot
  pub other : name ≢ from

module _ {Y : Type 0} (slot : ℕ) (from : List ℕ) (names : List (String Y)) (at : ℕ) where
  -- the names of a page from one place on are passed over up to another
  abbrev pub ArePassed : ℕ → Type 0
  ArePassed end = (k : ℕ) (d : String Y) → at ≤ k → k < end → IsPassed slot from (string_bytes (slice_index_or names k d))

  -- the first name for which a bucket is looked at is the last before this place
  pub record FindsBefore (place : ℕ) (wanted : Wanted) : Type 0 where
    pub own : ℕ
    pub place_is : place ≡ own + 1
    pub behind : at ≤ own
    pub within : own < length names
    pub passed : ArePassed own
    pub is : (d : String Y) → IsWanted slot from (string_bytes (slice_index_or names own d)) wanted

  -- it is found, or all names are passed over
  abbrev pub Finds : Option (ℕ × Wanted) → Type 0
  Finds None = ArePassed (length names)
  Finds (Some found) = FindsBefore found.0 found.1

-- the last name of a page is that of no bucket's register
pub record EndsWithout (names : List (List ℕ)) : Type 0 where
  pub some : 0 < length names
  pub none : (d bucket : List ℕ) → slice_index_or names (length names - 1) d ≢ bucket_register bucket

-- behind a page no name of a bucket's register can stand: it isn't full, or its last name is none
abbrev pub EndsSlot : List (List ℕ) → Type 0
EndsSlot names = (length names < page_names) ⊎ EndsWithout names

-- how much is left
abbrev pub list_left : ListState → ℕ
list_left (Paging work) = work.sections_left + 2
list_left (Looking work wanted) = work.sections_left + 2
list_left (Telling reply) = 1
list_left (Over cut) = 0

-- how far it is where a section can't be done
abbrev pub barred_list : Barred → ListState
barred_list barred.Spent = Telling (Refused SeqSpent)
barred_list barred.NoMemory = Over (Some NoMemory)

-- the next page is the first one of a slot
pub record IsFirstPage (slot : ℕ) (rows : List BucketRow) (later : Sheet) : Type 0 where
  pub slot_is : later.slot ≡ slot
  pub from_is : later.from ≡ codes "b/"
  pub rows_are : later.rows ≡ rows

-- behind the names of a slot the first page of the next one comes, or the reply; or nothing, for want of memory
abbrev pub EndsAt : Sheet → ListState → Type 0
EndsAt sheet (Paging later) = IsFirstPage (sheet.slot + 1) sheet.rows (sheet_of later)
EndsAt sheet (Looking later wanted) = ⊥
EndsAt sheet (Telling reply) = (sheet.slot ≡ 63) × (reply ≡ Buckets sheet.rows)
EndsAt sheet (Over cut) = cut ≡ Some NoMemory

-- the next page of the slot is from the last name of this one on
pub record IsNextPage (sheet later : Sheet) : Type 0 where
  pub slot_is : later.slot ≡ sheet.slot
  pub some : 0 < length sheet.names
  pub from_is : (d : List ℕ) → later.from ≡ slice_index_or sheet.names (length sheet.names - 1) d
  pub rows_are : later.rows ≡ sheet.rows

-- so a page is ended: by the next page of the slot, or by what is behind the slot's names
abbrev pub EndsPage : Sheet → ListState → Type 0
EndsPage sheet (Paging later) = (EndsSlot sheet.names × IsFirstPage (sheet.slot + 1) sheet.rows (sheet_of later)) ⊎ IsNextPage sheet (sheet_of later)
EndsPage sheet (Looking later wanted) = ⊥
EndsPage sheet (Telling reply) = EndsSlot sheet.names × (sheet.slot ≡ 63) × (reply ≡ Buckets sheet.rows)
EndsPage sheet (Over cut) = cut ≡ Some NoMemory

-- the names of a sheet that aren't done with are passed over, up to a place
abbrev pub PassesOver : Sheet → ℕ → Type 0
PassesOver sheet end = (k : ℕ) (d : List ℕ) → sheet.at ≤ k → k < end → IsPassed sheet.slot sheet.from (slice_index_or sheet.names k d)

-- the bucket that is looked at next is that of the name before the place of a later sheet
pub record GoesToLook (sheet later : Sheet) (wanted : Wanted) : Type 0 where
  pub own : ℕ
  pub later_is : later ≡ record { slot = sheet.slot; from = sheet.from; names = sheet.names; at = own + 1; rows = sheet.rows }
  pub behind : sheet.at ≤ own
  pub within : own < length sheet.names
  pub passed : PassesOver sheet own
  pub is : (d : List ℕ) → IsWanted sheet.slot sheet.from (slice_index_or sheet.names own d) wanted

-- what comes next behind the names of a sheet that are done with
abbrev pub Sought : Sheet → ListState → Type 0
Sought sheet (Paging later) = PassesOver sheet (length sheet.names) × EndsPage sheet (Paging later)
Sought sheet (Looking later wanted) = GoesToLook sheet (sheet_of later) wanted
Sought sheet (Telling reply) = PassesOver sheet (length sheet.names) × EndsPage sheet (Telling reply)
Sought sheet (Over cut) = cut ≡ Some NoMemory

-- what a section's refusal leaves to be told, or nothing, for want of memory
abbrev pub Refuses : SlotFault → ListState → Type 0
Refuses fault (Paging later) = ⊥
Refuses fault (Looking later wanted) = ⊥
Refuses fault (Telling reply) = (why : Refusal) × (refusal_by fault ≡ Some why) × IsOfSection why × (reply ≡ Refused why)
Refuses fault (Over cut) = cut ≡ Some NoMemory

-- a sheet with a page of names of which none is done with
abbrev pub with_names : Sheet → List (List ℕ) → Sheet
with_names sheet names = record { slot = sheet.slot; from = sheet.from; names = names; at = 0; rows = sheet.rows }

-- what comes after a page of names
abbrev pub AfterNames : {Y : Type 0} → Sheet → Result (List (String Y)) SlotFault → ListState → Type 0
AfterNames sheet (Ok names) state = Sought (with_names sheet (map string_bytes names)) state
AfterNames sheet (Err fault) state = Refuses fault state

-- a sheet with other rows
abbrev pub with_rows : Sheet → List BucketRow → Sheet
with_rows sheet rows = record { slot = sheet.slot; from = sheet.from; names = sheet.names; at = sheet.at; rows = rows }

-- what comes after a look at a bucket that was done: what it found is put among the rows
pub record LooksOn (bucket content : List ℕ) (sheet : Sheet) (state : ListState) : Type 0 where
  pub there : Option BucketRecord
  pub canonical : IsCanonicalRow there
  pub content_is : content ≡ content_of there
  pub rows : List BucketRow
  pub adds : AddsRow bucket there sheet.rows rows
  pub sought : Sought (with_rows sheet rows) state

-- what comes after a look at a bucket, or nothing, for want of memory
abbrev pub AfterBucket : List ℕ → Sheet → Result (List ℕ) SlotFault → ListState → Type 0
AfterBucket bucket sheet (Ok content) state = LooksOn bucket content sheet state ⊎ (state ≡ Over (Some NoMemory))
AfterBucket bucket sheet (Err fault) state = Refuses fault state
