-- What is found among the names that a listing isn't done with.
use Rattle.std.specs.Prelude.{◌≡◌, ℕ, ◌≤◌, true, false, List, ◌++◌, All, drop, length, map, Some, None, string_bytes}
use Rattle.call_types.specs.declared.feed.Cut.TheVariants.{NoMemory}
use Rattle.receipts.specs.Listing.{key_in}
use Rattle.receipts.specs.Pages.{PageRule, is_behind, is_in_last, page_of}
use Rattle.receipts.specs.Registers.{key_slot}
use Rattle.list_ops.specs.Names.{key_of}
use Rattle.list_ops.specs.Sheets.{GoesToView, IsPassed, Sheet, next_round, sheet_of}
use Rattle.list_ops.specs.declared.page_state.PageState.{PageState}
use Rattle.list_ops.specs.declared.page_state.PageState.TheVariants.{Asking, Looking, Over, Telling, Viewing}
use Rattle.list_ops.specs.declared.page_state.Wanted.{Wanted}
use Rattle.list_ops.specs.declared.page_state.Work.{Work}

module _ (rule : PageRule) (bucket : List ℕ) where
  -- a key is looked at for a name
  pub record IsWanted (sheet : Sheet) (name : List ℕ) (wanted : Wanted) : Type 0 where
    pub behind : is_behind sheet.last name ≡ true
    pub fresh : is_in_last rule sheet.rows (key_of bucket name) ≡ false
    pub name_is : string_bytes wanted.name ≡ name
    pub at_is : wanted.at ≡ key_in bucket (key_of bucket name)
    pub slot_is : wanted.slot ≡ key_slot (key_in bucket (key_of bucket name))

  -- the names of a sheet are passed over, and these are left
  pub record PassesTo (sheet : Sheet) (rest : List (List ℕ)) : Type 0 where
    pub passed : List (List ℕ)
    pub parts : sheet.left ≡ passed ++ rest
    pub are_passed : All (IsPassed rule bucket sheet) passed

  -- the key that is looked at next is that of the name before a place
  pub record FindsNext (work : Work) (found : ℕ × Wanted) : Type 0 where
    pub inside : found.0 ≤ length work.found.items
    pub goes : GoesToView rule bucket (sheet_of work)
        (record (sheet_of work) { left = drop found.0 (map string_bytes work.found.items); last = Some (string_bytes found.1.name) }) found.1

-- so a round is ended: by the next one, or by the page; or by nothing, for want of memory
abbrev pub EndsAt : PageRule → Sheet → PageState → Type 0
EndsAt rule sheet Looking = ⊥
EndsAt rule sheet (Asking later) = (bound : List ℕ) × (sheet.bound ≡ Some bound) × (sheet_of later ≡ next_round sheet bound)
EndsAt rule sheet (Viewing later wanted) = ⊥
EndsAt rule sheet (Telling reply) = (sheet.bound ≡ None) × (reply ≡ page_of rule sheet.rows)
EndsAt rule sheet (Over cut) = cut ≡ Some NoMemory
