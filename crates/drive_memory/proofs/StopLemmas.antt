-- Loose files, after a map kept those of its entries that are synced.
use Rattle.std.specs.Prelude.{◌≡◌, ℕ, Bool, true, false, cond, List, [], ◌∷◌, filter, Some, None, String, refl}
use Rattle.std.proofs.Common.{sym, ap, ◌∙◌}
use Rattle.std.proofs.Math.Path.{fun_ext}
use Rattle.std.proofs.lemmas.Map.Made.{filter_same_pairs}
use Rattle.std.proofs.lemmas.Map.Text.{is_eq-slice_cmp}
use Rattle.std.proofs.lemmas.Slice.Eq.{bytes_eq-Decides}
use Rattle.std.specs.BTreeMap.{BTreeMap, is_at, IsOrdered}
use Rattle.std.specs.Cmp.Lexicographic.{slice_cmp}
use Rattle.std.specs.List.{AllByRecursion}
use Rattle.std.specs.List.Sorted.{IsStrictlySortedBy}
use Rattle.std.specs.Map.{lookup, keys_of}
use Rattle.std.specs.Map.Calls.{RetainsPairs}
use Rattle.std.specs.Option.{option_map}
use Rattle.std.specs.Ordering.{nat_cmp, is_eq}
use Rattle.std.specs.String.{string_bytes, string_cmp}
use Rattle.std.specs.declared.cmp.Ordering.TheVariants.{Less}
use Rattle.drive_memory.specs.Damage.{synced_only}
use Rattle.drive_memory.specs.Maps.{loose_file, loose_files}
use Rattle.drive_memory.specs.declared.loose.Loose.{Loose}

module _ {Y : Type 0} (name : List ℕ) where
  -- the test by which a name is looked up
  abbrev finds : String Y → Bool
  finds key = is_at (λ k. slice_cmp nat_cmp name (string_bytes k)) key

  -- it finds the key of this text
  finds-is : (key : String Y) → finds key ≡ true → name ≡ string_bytes key
  finds-is key e = (bytes_eq-Decides name (string_bytes key)).0 (sym (is_eq-slice_cmp name (string_bytes key)) ∙ e)

  -- a key that stands before another is not found with it
  apart : (a b : String Y) → string_cmp a b ≡ Less → finds a ≡ true → finds b ≡ false
  apart a b less at_a = cases (finds b) refl
    where
      cases : (r : Bool) → finds b ≡ r → r ≡ false
      cases false e = refl
      cases true e =
          let here : slice_cmp nat_cmp name (string_bytes b) ≡ Less = ap (λ q. slice_cmp nat_cmp q (string_bytes b)) (finds-is a at_a) ∙ less in
          let no : finds b ≡ false = ap is_eq here in
          absurd (cc)

  -- no later key is found
  none_later : (X : Type 0) (a : String Y) (es : List (String Y × X)) → AllByRecursion (λ k. string_cmp a k ≡ Less) (keys_of es) → finds a ≡ true → lookup finds es ≡ None
  none_later X a [] h at_a = refl
  none_later X a (e ∷ es) h at_a = ap (λ b. cond b (Some e.1) (lookup finds es)) (apart a e.0 h.0 at_a) ∙ none_later X a es h.1 at_a

  -- the file of a name among the synced ones
  lookup-synced : (es : List (String Y × Loose)) → IsStrictlySortedBy string_cmp (keys_of es)
      → option_map loose_file (lookup finds (filter (λ e. e.1.synced) es)) ≡ synced_only (option_map loose_file (lookup finds es))
  unfolding IsStrictlySortedBy
  lookup-synced [] h = refl
  lookup-synced (e ∷ es) h = cases e.1.synced (finds e.0) refl refl (lookup-synced es h.1)
    where
      cases : (s f : Bool) → e.1.synced ≡ s → finds e.0 ≡ f
          → option_map loose_file (lookup finds (filter (λ e. e.1.synced) es)) ≡ synced_only (option_map loose_file (lookup finds es))
          → option_map loose_file (lookup finds (cond s (e ∷ filter (λ e. e.1.synced) es) (filter (λ e. e.1.synced) es))) ≡ synced_only (option_map loose_file (cond f (Some e.1) (lookup finds es)))
      cases true true s f rest = ap (λ b. option_map loose_file (cond b (Some e.1) (lookup finds (filter (λ e. e.1.synced) es)))) f ∙ sym (ap (λ b. cond b (Some (loose_file e.1)) None) s)
      cases true false s f rest = ap (λ b. option_map loose_file (cond b (Some e.1) (lookup finds (filter (λ e. e.1.synced) es)))) f ∙ rest
      cases false true s f rest = rest ∙ ap (λ o. synced_only (option_map loose_file o)) (none_later Loose e.0 es h.0 f) ∙ sym (ap (λ b. cond b (Some (loose_file e.1)) None) s)
      cases false false s f rest = rest

-- the loose files after a map kept the entries whose file is synced
pub stopped_files : {Y F : Type 0} (m n : BTreeMap (String Y) Loose) (T : F → String Y → Loose → Bool → Loose → F → Type 0) → IsOrdered string_cmp m → (f : F)
    → ((k : String Y) (v : Loose) (b : Bool) (w : Loose) (g : F) → T f k v b w g → (b ≡ v.synced) × (w ≡ v) × (g ≡ f))
    → RetainsPairs T f m.entries n.entries
    → loose_files n ≡ (λ name. synced_only (loose_files m name))
stopped_files m n T ordered f tests retains = fun_ext (λ name.
    ap (λ es. option_map loose_file (lookup (finds name) es)) (filter_same_pairs T (λ e. e.1.synced) f tests m.entries n.entries retains)
    ∙ lookup-synced name m.entries ordered)
