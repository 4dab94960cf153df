-- What is found among the strings of a page, of their bytes.
use Rattle.std.proofs.Common.{ℕ, ◌<◌, ◌≤◌, List, [], ◌∷◌, length, map, slice_index_or, sym, ap, subst, arith}
use Rattle.std.specs.Prelude.{String, string_bytes}
use Rattle.std.proofs.lemmas.List.{get_or-map, length-map}
use Rattle.call_types.specs.declared.reply.BucketRow.{BucketRow}
use Rattle.bucket_ops.specs.Seeking.{ArePassed, EndsPage, FindsBefore, GoesToLook, IsPassed, IsWanted, PassesOver, Sheet, Sought}
use Rattle.bucket_ops.specs.declared.list_state.ListState.{ListState}
use Rattle.bucket_ops.specs.declared.list_state.ListState.TheVariants.{Looking, Over, Paging, Telling}
use Rattle.bucket_ops.specs.declared.list_state.Wanted.{Wanted}

-- what holds of the bytes of a string holds of its place in the list of bytes
at_bytes : {Y : Type 0} (P : List ℕ → Type 0) (names : List (String Y)) (k : ℕ) (d : List ℕ) → k < length names
    → ((o : String Y) → P (string_bytes (slice_index_or names k o))) → P (slice_index_or (map string_bytes names) k d)
at_bytes P [] k d inside holds = absurd (omega (arith, inside))
at_bytes P (o ∷ names) k d inside holds = subst P (sym (get_or-map string_bytes (o ∷ names) k o d inside)) (holds o)

-- the sheet of a page of strings
abbrev pub sheet_with : {Y : Type 0} → ℕ → List ℕ → List (String Y) → ℕ → List BucketRow → Sheet
sheet_with slot from names at rows = record { slot = slot; from = from; names = map string_bytes names; at = at; rows = rows }

module _ {Y : Type 0} (slot : ℕ) (from : List ℕ) (names : List (String Y)) (at : ℕ) (rows : List BucketRow) where
  passes : (end : ℕ) → end ≤ length names → ArePassed slot from names at end → PassesOver (sheet_with slot from names at rows) end
  passes end long passed k d above below = at_bytes (IsPassed slot from) names k d (omega (arith, below, long)) (λ o. passed k o above below)

  pub passes_all : ArePassed slot from names at (length names)
      → PassesOver (sheet_with slot from names at rows) (length (map string_bytes names))
  passes_all passed = let long = length-map names string_bytes in
      subst (PassesOver (sheet_with slot from names at rows)) (sym long) (passes (length names) (omega arith) passed)

  pub goes_to_look : (place : ℕ) (wanted : Wanted) → FindsBefore slot from names at place wanted
      → GoesToLook (sheet_with slot from names at rows) (sheet_with slot from names place rows) wanted
  goes_to_look place wanted finds = record {
    own = finds.own;
    later_is = ap (λ n. sheet_with slot from names n rows) finds.place_is;
    behind = finds.behind;
    within = let long = length-map names string_bytes in let inside = finds.within in omega (arith, long, inside);
    passed = passes finds.own (let inside = finds.within in omega (arith, inside)) finds.passed;
    is = λ d. at_bytes (λ n. IsWanted slot from n wanted) names finds.own d finds.within finds.is;
  }

-- a page whose names are passed over is ended
pub ends_sought : (sheet : Sheet) (state : ListState) → PassesOver sheet (length sheet.names) → EndsPage sheet state → Sought sheet state
ends_sought sheet (Paging later) passed ends = (passed, ends)
ends_sought sheet (Looking later wanted) passed ends = absurd ends
ends_sought sheet (Telling reply) passed ends = (passed, ends)
ends_sought sheet (Over cut) passed ends = ends
