-- The files of a drive, after a change of one of its maps.
use Rattle.std.specs.Prelude.{◌≡◌, ℕ, IsTrue, cond, List, length, replicate, Option, Some, None, String}
use Rattle.std.proofs.Common.{sym, ap, ◌∙◌}
use Rattle.std.specs.BTreeMap.{BTreeMap, get_by_text}
use Rattle.std.specs.Option.{option_map}
use Rattle.drive_base.specs.Files.{Files, LooseFile, Named, with_name, with_loose, with_placed}
use Rattle.drive_base.specs.Leaves.{AnyLoose}
use Rattle.drive_memory.proofs.NameLemmas.{loose_files-with, kept_files-with, shown_files-with, with_name-same}
use Rattle.drive_memory.specs.Damage.{with_shown, hurt_bytes}
use Rattle.drive_memory.specs.Does.{placed_bytes, with_renamed}
use Rattle.drive_memory.specs.Maps.{loose_file, loose_files, kept_bytes, kept_files, shown_bytes, shown_files}
use Rattle.drive_memory.specs.declared.loose.Loose.{Loose}
use Rattle.drive_memory.specs.declared.placed.PlacedFile.{PlacedFile}

-- files by their three parts
abbrev pub files_at : Named (List ℕ) → Named (List ℕ) → Named LooseFile → Files
files_at kept shown loose = record { kept = kept; shown = shown; loose = loose }

-- the files of two maps
abbrev pub files_in : {Y : Type 0} → BTreeMap (String Y) PlacedFile → BTreeMap (String Y) Loose → Files
files_in placed loose = files_at (kept_files placed) (shown_files placed) (loose_files loose)

-- a failed call may have changed nothing
pub AnyLoose-same : (old new : Files) (loose : List ℕ) → new ≡ old → AnyLoose old loose new
AnyLoose-same old new loose e = (old.loose loose, e ∙ sym (ap (files_at old.kept old.shown) (with_name-same old.loose loose)))

-- a synced file is put in place as it is
pub placed_bytes-synced : (file : LooseFile) → IsTrue file.synced → placed_bytes file ≡ file.bytes
placed_bytes-synced file h = ap (λ b. cond b file.bytes (replicate (length file.bytes) 0)) h

module _ {Y : Type 0} (p : BTreeMap (String Y) PlacedFile) (m : BTreeMap (String Y) Loose) where
  -- a loose file was changed
  pub files-with_loose : (n : BTreeMap (String Y) Loose) (name : List ℕ) (w : Option Loose)
      → get_by_text n ≡ with_name (get_by_text m) name w
      → files_in p n ≡ with_loose (files_in p m) name (option_map loose_file w)
  files-with_loose n name w e = ap (files_at (kept_files p) (shown_files p)) (loose_files-with m n name w e)

  -- a file in place was changed
  pub files-with_both : (q : BTreeMap (String Y) PlacedFile) (name : List ℕ) (w : Option PlacedFile)
      → get_by_text q ≡ with_name (get_by_text p) name w
      → files_in q m ≡ files_at (with_name (kept_files p) name (option_map kept_bytes w)) (with_name (shown_files p) name (option_map shown_bytes w)) (loose_files m)
  files-with_both q name w e =
      ap (λ kept. files_at kept (shown_files q) (loose_files m)) (kept_files-with p q name w e)
      ∙ ap (λ shown. files_at (with_name (kept_files p) name (option_map kept_bytes w)) shown (loose_files m)) (shown_files-with p q name w e)

  -- a file in place was hurt
  pub files-hurt : (q : BTreeMap (String Y) PlacedFile) (name : List ℕ) (old new : PlacedFile) (place : ℕ)
      → Some old ≡ get_by_text p name
      → kept_bytes new ≡ kept_bytes old
      → shown_bytes new ≡ hurt_bytes (shown_bytes old) place
      → get_by_text q ≡ with_name (get_by_text p) name (Some new)
      → files_in q m ≡ with_shown (files_in p m) name (hurt_bytes (shown_bytes old) place)
  files-hurt q name old new place found kept shown e =
      files-with_both q name (Some new) e
      ∙ ap (λ kept. files_at kept (with_name (shown_files p) name (Some (shown_bytes new))) (loose_files m))
      (ap (λ bytes. with_name (kept_files p) name (Some bytes)) kept ∙ ap (with_name (kept_files p) name) (ap (option_map kept_bytes) found) ∙ with_name-same (kept_files p) name)
      ∙ ap (λ bytes. with_shown (files_in p m) name bytes) shown

  -- a file in place was written through a reference, with no change
  pub files-whole : (q : BTreeMap (String Y) PlacedFile) (name : List ℕ) (old new : PlacedFile)
      → Some old ≡ get_by_text p name
      → kept_bytes new ≡ kept_bytes old
      → shown_bytes new ≡ shown_bytes old
      → get_by_text q ≡ with_name (get_by_text p) name (Some new)
      → files_in q m ≡ files_in p m
  files-whole q name old new found kept shown e =
      files-with_both q name (Some new) e
      ∙ ap (λ kept. files_at kept (with_name (shown_files p) name (Some (shown_bytes new))) (loose_files m))
      (ap (λ bytes. with_name (kept_files p) name (Some bytes)) kept ∙ ap (with_name (kept_files p) name) (ap (option_map kept_bytes) found) ∙ with_name-same (kept_files p) name)
      ∙ ap (λ shown. files_at (kept_files p) shown (loose_files m))
      (ap (λ bytes. with_name (shown_files p) name (Some bytes)) shown ∙ ap (with_name (shown_files p) name) (ap (option_map shown_bytes) found) ∙ with_name-same (shown_files p) name)

-- a loose file was put in place
pub files-renamed : {Y : Type 0} (p q : BTreeMap (String Y) PlacedFile) (m n : BTreeMap (String Y) Loose) (loose name : List ℕ) (file : Loose) (placed : PlacedFile) (bytes : List ℕ)
    → get_by_text n ≡ with_name (get_by_text m) loose None
    → kept_bytes placed ≡ bytes
    → shown_bytes placed ≡ bytes
    → bytes ≡ placed_bytes (loose_file file)
    → get_by_text q ≡ with_name (get_by_text p) name (Some placed)
    → files_in q n ≡ with_renamed (files_in p m) loose name (loose_file file)
files-renamed p q m n loose name file placed bytes gone kept shown zeros put =
    files-with_both p n q name (Some placed) put
    ∙ ap (λ (bs : List ℕ). files_at (with_name (kept_files p) name (Some bs)) (with_name (shown_files p) name (Some (shown_bytes placed))) (loose_files n)) (kept ∙ zeros)
    ∙ ap (λ (bs : List ℕ). files_at (with_name (kept_files p) name (Some (placed_bytes (loose_file file)))) (with_name (shown_files p) name (Some bs)) (loose_files n)) (shown ∙ zeros)
    ∙ ap (λ (files : Files). with_placed files name (Some (placed_bytes (loose_file file)))) (files-with_loose p m n loose None gone)
