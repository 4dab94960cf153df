-- The names of the registers of a bucket's keys.
use Rattle.std.specs.Prelude.{ℕ, Bool, nat_lt, nat_le, ◌&&◌, List, [], ◌∷◌, ◌++◌, codes, drop, length}
use Rattle.desk_base.specs.Calls.{longest_key}
use Rattle.receipts.specs.Pages.{begins_with}

module _ (bucket : List ℕ) where
  -- with what the names of a bucket's keys begin
  abbrev pub front : List ℕ
  front = codes "k/" ++ (bucket ++ 47 ∷ [])

  -- the key whose register has a name
  abbrev pub key_of : List ℕ → List ℕ
  key_of name = drop (length front) name

  -- a name is that of a key's register
  abbrev pub is_name : List ℕ → Bool
  is_name name = begins_with front name && (nat_lt (length front) (length name) && nat_le (length (key_of name)) longest_key)
