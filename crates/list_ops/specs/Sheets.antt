-- What a listing does next: which names it keeps, at which keys it looks, and what is behind them.
use Rattle.std.specs.Prelude.{◌≡◌, ◌⊎◌, ℕ, ◌+◌, ◌*◌, ◌<◌, ◌≤◌, min, Bool, true, false, nat_lt, ◌==◌, ◌&&◌, if◌then◌else◌, List, [], ◌∷◌, ◌++◌, All, drop, filter, length, map, Option, Some, None, option_map, Result, Ok, Err, String, string_bytes}
use Rattle.std.specs.List.{last_or}
use Rattle.std.specs.List.Sorted.{IsPermutation, IsSorted}
use Rattle.call_types.specs.declared.feed.Cut.TheVariants.{NoMemory}
use Rattle.call_types.specs.declared.refusal.Refusal.{Refusal}
use Rattle.call_types.specs.declared.refusal.Refusal.TheVariants.{SeqSpent}
use Rattle.call_types.specs.declared.reply.Reply.TheVariants.{Refused}
use Rattle.call_types.specs.declared.reply.VersionRow.{VersionRow}
use Rattle.drive_base.specs.Names.{byte_order}
use Rattle.slot_core.specs.declared.slot.SlotFault.{SlotFault}
use Rattle.version_list.specs.Spelling.{spelling}
use Rattle.version_list.specs.State.{IsCanonical}
use Rattle.version_list.specs.declared.state.KeyState.{KeyState}
use Rattle.receipts.specs.Listing.{key_in}
use Rattle.receipts.specs.Looks.{IsOfSection}
use Rattle.receipts.specs.Pages.{Candidate, PageRule, begins_with, is_before, is_behind, is_in_last, page_of, wants, with_candidate}
use Rattle.receipts.specs.Registers.{key_slot}
use Rattle.receipts.specs.declared.barred.Barred.{Barred}
use Rattle.receipts.specs.declared.barred.Barred.TheVariants as barred
use Rattle.op_steps.specs.Notes.{refusal_by}
use Rattle.op_steps.specs.declared.looking.Looked.{Looked}
use Rattle.op_steps.specs.declared.looking.Looked.TheVariants.{LacksMemory, Refused as RefusedLook, There}
use Rattle.list_page.specs.Starting.{first_key}
use Rattle.list_ops.specs.Names.{front, is_name, key_of}
use Rattle.list_ops.specs.declared.page_state.PageState.{PageState}
use Rattle.list_ops.specs.declared.page_state.PageState.TheVariants.{Asking, Looking, Over, Telling, Viewing}
use Rattle.list_ops.specs.declared.page_state.Wanted.{Wanted}
use Rattle.list_ops.specs.declared.page_state.Work.{Work}

-- what a listing has so far: from which name on it asks the slots, how many names it asks of each, and which slot comes next; up to which name the names that
-- were asked for are known; the names that were found and aren't done with; the name that was looked at last; and the rows
pub record Sheet : Type 0 where
  pub from : List ℕ
  pub most : ℕ
  pub slot : ℕ
  pub bound : Option (List ℕ)
  pub left : List (List ℕ)
  pub last : Option (List ℕ)
  pub rows : List VersionRow

abbrev pub sheet_of : Work → Sheet
sheet_of work = record {
  from = string_bytes work.from;
  most = work.most;
  slot = work.slot;
  bound = option_map string_bytes work.bound;
  left = drop work.at (map string_bytes work.found.items);
  last = option_map string_bytes work.last;
  rows = work.rows.items;
}

-- how many names are asked of a slot in the first round, and in any
abbrev pub first_names : ℕ
first_names = 48

abbrev pub most_names : ℕ
most_names = 1000

-- how much is left
abbrev pub page_left : PageState → ℕ
page_left Looking = 18446744073709551619
page_left (Asking work) = work.sections_left + 2
page_left (Viewing work wanted) = work.sections_left + 2
page_left (Telling reply) = 1
page_left (Over cut) = 0

-- how far it is where a section can't be done
abbrev pub barred_page : Barred → PageState
barred_page barred.Spent = Telling (Refused SeqSpent)
barred_page barred.NoMemory = Over (Some NoMemory)

-- what a section's refusal leaves to be told, or nothing, for want of memory
abbrev pub Refuses : SlotFault → PageState → Type 0
Refuses fault Looking = ⊥
Refuses fault (Asking later) = ⊥
Refuses fault (Viewing later wanted) = ⊥
Refuses fault (Telling reply) = (why : Refusal) × (refusal_by fault ≡ Some why) × IsOfSection why × (reply ≡ Refused why)
Refuses fault (Over cut) = cut ≡ Some NoMemory

-- the lesser of two bounds
abbrev pub lesser : Option (List ℕ) → List ℕ → List ℕ
lesser None name = name
lesser (Some bound) name = if is_before name bound then name else bound

-- a name is within a bound
abbrev pub is_within : Option (List ℕ) → List ℕ → Bool
is_within None name = true
is_within (Some bound) name = if is_before bound name then false else true

-- the names stand in their order
pub record Sorts (sheet later : Sheet) : Type 0 where
  pub sorted : IsSorted byte_order later.left
  pub permutes : IsPermutation sheet.left later.left
  pub same : later ≡ record sheet { left = later.left }

-- the next round asks from behind the bound on, for twice as many names
abbrev pub next_round : Sheet → List ℕ → Sheet
next_round sheet bound = record sheet { from = bound ++ 0 ∷ []; most = min (2 * sheet.most) most_names; slot = 0; bound = None; left = [] }

module _ (rule : PageRule) (bucket : List ℕ) where
  -- with what the names of wanted keys begin
  abbrev pub range : List ℕ
  range = front bucket ++ rule.prefix

  -- a name of a slot is that of a key's register that belongs to it, and the key isn't left out
  abbrev pub is_found : ℕ → List ℕ → Bool
  is_found slot name = is_name bucket name && ((key_slot (key_in bucket (key_of bucket name)) == slot) && wants rule (key_of bucket name))

  -- up to which name the names are known with a page more, whose last name is this: behind the range of wanted keys nothing has to be known
  abbrev pub bound_by : Option (List ℕ) → Option (List ℕ) → Option (List ℕ)
  bound_by bound None = bound
  bound_by bound (Some name) = if begins_with range name then Some (lesser bound name) else bound

  abbrev pub bound_after : ℕ → List (List ℕ) → Option (List ℕ) → Option (List ℕ)
  bound_after most names bound = if nat_lt (length names) most then bound else bound_by bound (last_or None names)

  -- the first round
  abbrev pub first_sheet : Sheet
  first_sheet = record { from = front bucket ++ first_key rule; most = first_names; slot = 0; bound = None; left = []; last = None; rows = [] }

  -- a sheet with a page of names of its slot
  abbrev pub with_names : Sheet → List (List ℕ) → Sheet
  with_names sheet names = record sheet { bound = bound_after sheet.most names sheet.bound; left = sheet.left ++ filter (is_found sheet.slot) names }

  -- a name is passed over: it is that of no key's register, it isn't behind the one that was looked at last, or its key is in the group that is the last row
  abbrev pub IsPassed : Sheet → List ℕ → Type 0
  IsPassed sheet name = (is_name bucket name ≡ false) ⊎ (is_behind sheet.last name ≡ false) ⊎ (is_in_last rule sheet.rows (key_of bucket name) ≡ true)

  -- the key of the next name that isn't passed over is looked at
  pub record GoesToView (sheet later : Sheet) (wanted : Wanted) : Type 0 where
    pub passed : List (List ℕ)
    pub name : List ℕ
    pub parts : sheet.left ≡ passed ++ name ∷ later.left
    pub are_passed : All (IsPassed sheet) passed
    pub within : is_within sheet.bound name ≡ true
    pub behind : is_behind sheet.last name ≡ true
    pub fresh : is_in_last rule sheet.rows (key_of bucket name) ≡ false
    pub name_is : string_bytes wanted.name ≡ name
    pub at_is : wanted.at ≡ key_in bucket (key_of bucket name)
    pub slot_is : wanted.slot ≡ key_slot (key_in bucket (key_of bucket name))
    pub same : later ≡ record sheet { left = later.left; last = Some name }

  -- the names of a round are done with: all are passed over, up to one that isn't within the bound
  pub record EndsRound (sheet : Sheet) : Type 0 where
    pub passed : List (List ℕ)
    pub rest : List (List ℕ)
    pub parts : sheet.left ≡ passed ++ rest
    pub are_passed : All (IsPassed sheet) passed
    pub beyond : (name : List ℕ) (more : List (List ℕ)) → rest ≡ name ∷ more → is_within sheet.bound name ≡ false

  -- what comes next behind the names of a round that are done with: a look, the next round, or the page; or nothing, for want of memory
  abbrev pub Sought : Sheet → PageState → Type 0
  Sought sheet Looking = ⊥
  Sought sheet (Asking later) = EndsRound sheet × ((bound : List ℕ) × (sheet.bound ≡ Some bound) × (sheet_of later ≡ next_round sheet bound))
  Sought sheet (Viewing later wanted) = GoesToView sheet (sheet_of later) wanted
  Sought sheet (Telling reply) = EndsRound sheet × (sheet.bound ≡ None) × (reply ≡ page_of rule sheet.rows)
  Sought sheet (Over cut) = cut ≡ Some NoMemory

  -- what comes next behind a page of names: the next slot, or, behind the last one, the looks
  abbrev pub AsksOn : Sheet → PageState → Type 0
  AsksOn sheet state = ((sheet.slot < 63) × ((work : Work) × (state ≡ Asking work) × (sheet_of work ≡ record sheet { slot = sheet.slot + 1 })))
      ⊎ ((sheet.slot ≡ 63) × ((later : Sheet) × Sorts sheet later × Sought later state))
      ⊎ (state ≡ Over (Some NoMemory))

  -- what comes after a page of names
  abbrev pub AfterNames : {Y : Type 0} → Sheet → Result (List (String Y)) SlotFault → PageState → Type 0
  AfterNames sheet (Ok names) state = AsksOn (with_names sheet (map string_bytes names)) state
  AfterNames sheet (Err fault) state = Refuses fault state

  -- a sheet with the rows of a key more
  abbrev pub with_rows : Sheet → Candidate → Sheet
  with_rows sheet candidate = record sheet { rows = with_candidate rule sheet.rows candidate }

  -- what comes after the rows of a key were added: the page, where there is a row more than it gives
  abbrev pub GoesOn : Sheet → PageState → Type 0
  GoesOn sheet state = ((rule.most < length sheet.rows) × (state ≡ Telling (page_of rule sheet.rows))) ⊎ ((length sheet.rows ≤ rule.most) × Sought sheet state)

  -- what comes after a look at a key that was done
  pub record ViewsOn (key content : List ℕ) (sheet : Sheet) (state : PageState) : Type 0 where
    pub key_state : KeyState
    pub canonical : IsCanonical key_state
    pub content_is : content ≡ spelling key_state
    pub goes : GoesOn (with_rows sheet (record { key = key; state = key_state })) state

  -- what comes after a look at a key, or nothing, for want of memory
  abbrev pub AfterView : List ℕ → Sheet → Result (List ℕ) SlotFault → PageState → Type 0
  AfterView key sheet (Ok content) state = ViewsOn key content sheet state ⊎ (state ≡ Over (Some NoMemory))
  AfterView key sheet (Err fault) state = Refuses fault state

  -- what comes after the look at the bucket that was found: the first round, or the page, where no row is asked for; or nothing, for want of memory
  abbrev pub Begins : PageState → Type 0
  Begins Looking = ⊥
  Begins (Asking work) = (0 < rule.most) × (sheet_of work ≡ first_sheet)
  Begins (Viewing work wanted) = ⊥
  Begins (Telling reply) = (rule.most ≡ 0) × (reply ≡ page_of rule [])
  Begins (Over cut) = cut ≡ Some NoMemory

  -- what comes after the look at the bucket
  abbrev pub AfterLook : Looked → PageState → Type 0
  AfterLook (There mode) state = Begins state
  AfterLook (RefusedLook why) state = state ≡ Telling (Refused why)
  AfterLook LacksMemory state = state ≡ Over (Some NoMemory)
