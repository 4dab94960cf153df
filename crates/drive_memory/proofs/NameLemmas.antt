-- Functions from names, after the value of one name is changed.
use Rattle.std.specs.Prelude.{◌≡◌, ℕ, Bool, true, false, cond, List, ◌++◌, Option, Some, String, refl}
use Rattle.std.proofs.Common.{ap, ◌∙◌}
use Rattle.std.proofs.Math.Path.{fun_ext}
use Rattle.std.proofs.lemmas.Map.Text.{btree_map_updates_text}
use Rattle.std.proofs.lemmas.Slice.Eq.{bytes_eq-Decides}
use Rattle.std.specs.BTreeMap.{BTreeMap, get_by_text, UpdatesBy}
use Rattle.std.specs.Cmp.Lexicographic.{slice_cmp}
use Rattle.std.specs.Option.{option_map}
use Rattle.std.specs.Ordering.{nat_cmp}
use Rattle.std.specs.Str.{bytes_eq}
use Rattle.std.specs.String.{string_bytes, string_cmp}
use Rattle.drive_base.specs.Files.{LooseFile, Named, with_name}
use Rattle.drive_base.specs.Leaves.{loose_bytes}
use Rattle.drive_memory.specs.Maps.{loose_file, loose_files, kept_bytes, kept_files, shown_bytes, shown_files}
use Rattle.drive_memory.specs.declared.loose.Loose.{Loose}
use Rattle.drive_memory.specs.declared.placed.PlacedFile.{PlacedFile}

module _ {S T : Type 0} (view : S → T) where
  -- the view of a choice
  option_map-cond : (b : Bool) (w v : Option S) → option_map view (cond b w v) ≡ cond b (option_map view w) (option_map view v)
  option_map-cond true w v = refl
  option_map-cond false w v = refl

  -- the view of a change is the change of the view
  view-with_name : (f : Named S) (name : List ℕ) (w : Option S)
      → (λ (q : List ℕ). option_map view (with_name f name w q)) ≡ with_name (λ q. option_map view (f q)) name (option_map view w)
  view-with_name f name w = fun_ext (λ q. option_map-cond (bytes_eq name q) w (f q))

-- a name that gets the value that it has
pub with_name-same : {T : Type 0} (f : Named T) (name : List ℕ) → with_name f name (f name) ≡ f
with_name-same {T} f name = fun_ext (λ q. at q (bytes_eq name q) refl)
  where
    at : (q : List ℕ) (b : Bool) → bytes_eq name q ≡ b → cond b (f name) (f q) ≡ f q
    at q true e = ap f ((bytes_eq-Decides name q).0 e)
    at q false e = refl

-- a map after one key was changed
pub get_by_text-updates : {X Y : Type 0} (m n : BTreeMap (String Y) X) (name : List ℕ) (w : Option X)
    → UpdatesBy string_cmp (λ k. slice_cmp nat_cmp name (string_bytes k)) m n w → get_by_text n ≡ with_name (get_by_text m) name w
get_by_text-updates m n name w h = fun_ext (btree_map_updates_text name m n w h)

-- the loose files after one key was changed
pub loose_files-with : {Y : Type 0} (m n : BTreeMap (String Y) Loose) (name : List ℕ) (w : Option Loose)
    → get_by_text n ≡ with_name (get_by_text m) name w → loose_files n ≡ with_name (loose_files m) name (option_map loose_file w)
loose_files-with m n name w e = ap (λ (f : Named Loose). λ (q : List ℕ). option_map loose_file (f q)) e ∙ view-with_name loose_file (get_by_text m) name w

-- the files in place after one key was changed, as they were put there
pub kept_files-with : {Y : Type 0} (m n : BTreeMap (String Y) PlacedFile) (name : List ℕ) (w : Option PlacedFile)
    → get_by_text n ≡ with_name (get_by_text m) name w → kept_files n ≡ with_name (kept_files m) name (option_map kept_bytes w)
kept_files-with m n name w e = ap (λ (f : Named PlacedFile). λ (q : List ℕ). option_map kept_bytes (f q)) e ∙ view-with_name kept_bytes (get_by_text m) name w

-- the files in place after one key was changed, as reads give them
pub shown_files-with : {Y : Type 0} (m n : BTreeMap (String Y) PlacedFile) (name : List ℕ) (w : Option PlacedFile)
    → get_by_text n ≡ with_name (get_by_text m) name w → shown_files n ≡ with_name (shown_files m) name (option_map shown_bytes w)
shown_files-with m n name w e = ap (λ (f : Named PlacedFile). λ (q : List ℕ). option_map shown_bytes (f q)) e ∙ view-with_name shown_bytes (get_by_text m) name w

-- the loose file that a call wrote through `get_mut` has the bytes and flag that it had
pub loose_files-kept : {Y : Type 0} (m n : BTreeMap (String Y) Loose) (name : List ℕ) (old new : Loose)
    → Some old ≡ get_by_text m name → loose_file new ≡ loose_file old → get_by_text n ≡ with_name (get_by_text m) name (Some new) → loose_files n ≡ loose_files m
loose_files-kept m n name old new found kept e =
    loose_files-with m n name (Some new) e
    ∙ ap (with_name (loose_files m) name) (ap Some kept ∙ ap (option_map loose_file) found)
    ∙ with_name-same (loose_files m) name

-- bytes were added to a loose file, or to none
pub loose_files-appended : {Y : Type 0} (m n : BTreeMap (String Y) Loose) (name bytes : List ℕ) (had : Option Loose) (new : Loose)
    → had ≡ get_by_text m name
    → loose_file new ≡ record { bytes = loose_bytes (option_map loose_file had) ++ bytes; synced = false }
    → get_by_text n ≡ with_name (get_by_text m) name (Some new)
    → loose_files n ≡ with_name (loose_files m) name (Some (record { bytes = loose_bytes (loose_files m name) ++ bytes; synced = false }))
loose_files-appended m n name bytes had new found added e =
    let appended : Option LooseFile → LooseFile = λ (file : Option LooseFile). record { bytes = loose_bytes file ++ bytes; synced = false } in
    loose_files-with m n name (Some new) e
    ∙ ap (λ (file : LooseFile). with_name (loose_files m) name (Some file)) (added ∙ ap appended (ap (option_map loose_file) found))
