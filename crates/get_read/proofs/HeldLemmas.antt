-- No digest table is held.
use Rattle.std.proofs.Common.{◌≡◌, ◌∙◌, ◌<◌, ◌≤◌, ◌+◌, ◌-◌, ◌*◌, ◌/◌, ℕ, List, [], ◌∷◌, length, replicate, slice_index_or, slice_set, ap, inl, inr, refl, sym, arith}
use Rattle.std.specs.Global.{Global}
use Rattle.std.specs.Prelude.{All, Vec}
use Rattle.std.proofs.lemmas.Bool.{cases_eq, cases_lt}
use Rattle.std.proofs.lemmas.List.{get_or-map, get_or-replicate, get_or-set_other, get_or-set_same, get_or_past, length-map, length-replicate, map-set, same_lists}
use Rattle.call_types.specs.declared.why.Why.{Why}
use Rattle.call_types.specs.declared.why.Why.TheVariants.{Good}
use Rattle.drive_base.specs.Plan.{data_drives}
use Rattle.drive_base.specs.declared.plan.SetPlan.{SetPlan}
use Rattle.shard_file.specs.Stripes.{stripe_size}
use Rattle.get_read.specs.Blocks.{all_bytes}
use Rattle.get_read.specs.PassedDrives.{PassesOver}
use Rattle.get_read.specs.declared.blocks.Blocks.{Blocks}

-- some table of a list that has one
any_table : (tables : List (Vec ℕ Global)) (k : ℕ) → k < length tables → Vec ℕ Global
any_table [] k low = absurd (omega arith)
any_table (x ∷ tables) k low = x

-- where none of so many tables has a byte
pub no_bytes : (tables : List (Vec ℕ Global)) (n : ℕ) → length tables ≡ n → All (λ (table : Vec ℕ Global). table.items ≡ []) tables → all_bytes tables ≡ replicate n []
no_bytes tables n counted empty = same_lists (all_bytes tables) (replicate n [])
    (length-map tables (λ (table : Vec ℕ Global). table.items) ∙ counted ∙ sym (length-replicate {A = List ℕ} n []))
    (λ k d low.
    let inside : k < length tables = omega (arith, low, length-map tables (λ (table : Vec ℕ Global). table.items)) in
    let some = any_table tables k inside in
    get_or-map (λ (table : Vec ℕ Global). table.items) tables k some d inside ∙ empty k some inside ∙ sym (get_or-replicate n k [] d (omega (arith, inside, counted))))

-- so none is held at any place
pub nothing_at : (tables : List (Vec ℕ Global)) (n k : ℕ) → length tables ≡ n → All (λ (table : Vec ℕ Global). table.items ≡ []) tables
    → slice_index_or (all_bytes tables) k [] ≡ []
nothing_at tables n k counted empty = ap (λ (t : List (List ℕ)). slice_index_or t k []) (no_bytes tables n counted empty) ∙ elim (cases_lt k n) [
  | inl low ↦ get_or-replicate n k [] [] low
  | inr past ↦ get_or_past (replicate n []) k [] (omega (arith, past, length-replicate {A = List ℕ} n []))
]

-- as many tables as there are drives
pub count_held : (tables : List (Vec ℕ Global)) (n : ℕ) → all_bytes tables ≡ replicate n [] → length tables ≡ n
count_held tables n none = sym (length-map tables (λ (table : Vec ℕ Global). table.items)) ∙ ap (length {A = List ℕ}) none ∙ length-replicate {A = List ℕ} n []

-- a place is in the stripe that is found by it
pub stripe_begun : (begin at i : ℕ) → begin ≤ at → i ≡ (at - begin) / stripe_size → begin + i * stripe_size ≤ at
stripe_begun begin at i low is = omega (arith, low, is)

pub stripe_ends : (begin at i : ℕ) → i ≡ (at - begin) / stripe_size → at < begin + i * stripe_size + stripe_size
stripe_ends begin at i is = omega (arith, is)

-- before the first block there are as many letters as drives, and no block
pub fresh_letters : (set : SetPlan) (tried : ℕ) (whys : List Why) → PassesOver set 0 tried (replicate set.drives Good) whys → length whys ≡ set.drives
fresh_letters set tried whys over = over.counted ∙ length-replicate {A = Why} set.drives Good

pub fresh_few : (set : SetPlan) (found : Blocks) → found.rows.items ≡ [] → length found.rows.items < data_drives set.drives set.parity
fresh_few set found none = omega (arith, ap (length {A = ℕ}) none, set.half_at_most, set.enough_drives, set.some_parity)

-- one table more is held
pub held_set : (tables : List (Vec ℕ Global)) (index : ℕ) (table : Vec ℕ Global) (n : ℕ)
    → ((k : ℕ) → 0 < length (slice_index_or (all_bytes tables) k []) → length (slice_index_or (all_bytes tables) k []) ≡ n)
    → length table.items ≡ n → index < length tables
    → (k : ℕ) → 0 < length (slice_index_or (all_bytes (slice_set tables index table)) k []) → length (slice_index_or (all_bytes (slice_set tables index table)) k []) ≡ n
held_set tables index table n held long inside k some =
    let set_is : all_bytes (slice_set tables index table) ≡ slice_set (all_bytes tables) index table.items = map-set (λ (file : Vec ℕ Global). file.items) tables index table in
    let low : index < length (all_bytes tables) = omega (arith, inside, length-map tables (λ (file : Vec ℕ Global). file.items)) in
    let at : slice_index_or (all_bytes (slice_set tables index table)) k [] ≡ slice_index_or (slice_set (all_bytes tables) index table.items) k [] =
    ap (λ (t : List (List ℕ)). slice_index_or t k []) set_is in
    elim (cases_eq k index) [
      | inl same ↦
          let there : slice_index_or (slice_set (all_bytes tables) index table.items) k [] ≡ table.items =
          ap (λ (j : ℕ). slice_index_or (slice_set (all_bytes tables) index table.items) j []) same ∙ get_or-set_same (all_bytes tables) index table.items [] low in
          ap (length {A = ℕ}) (at ∙ there) ∙ long
      | inr apart ↦
          let other : slice_index_or (slice_set (all_bytes tables) index table.items) k [] ≡ slice_index_or (all_bytes tables) k [] =
          get_or-set_other (all_bytes tables) index k table.items [] apart in
          ap (length {A = ℕ}) (at ∙ other) ∙ held k (omega (arith, some, ap (length {A = ℕ}) (at ∙ other)))
    ]

-- bytes of no length are none
pub no_length : (bytes : List ℕ) → length bytes ≡ 0 → bytes ≡ []
no_length [] none = refl
no_length (b ∷ bytes) none = absurd (omega (arith, none))
