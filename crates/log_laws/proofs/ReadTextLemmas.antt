-- A manifest whose file begins that of another is the other.
use Rattle.std.proofs.Common.{◌≡◌, ◌∙◌, ℕ, List, ◌++◌, Ok, Result, drop, length, take, ap, append_assoc, refl, sym}
use Rattle.std.proofs.lemmas.List.{drop_at, take-append-drop}
use Rattle.sha2.specs.Sha256.{sha256}
use Rattle.field_reader.specs.Format.{value_found}
use Rattle.field_reader.proofs.Parts.{spot}
use Rattle.manifest_file.specs.Canonical.{IsCanonical}
use Rattle.manifest_file.specs.Layout.{manifest}
use Rattle.manifest_file.specs.Rows.{ManifestRow, row_of}
use Rattle.manifest_file.specs.Spelling.{file_of, manifest_kind, spelling}
use Rattle.manifest_file.specs.declared.manifest.Manifest.{Manifest}
use Rattle.manifest_file.proofs.Matching.{manifest_matches}
use Rattle.manifest_file.proofs.Texts.{manifest_spelled}

-- the digest of a manifest's file
abbrev digest : Manifest → List ℕ
digest m = sha256 (manifest_kind ++ spelling m)

-- what is found in a text that goes on behind the spelling
found_first : (m : Manifest) (rest : List ℕ) → IsCanonical m → value_found (manifest (spot 0 (spelling m ++ rest))) ≡ Ok (row_of m)
found_first m rest canonical =
    ap value_found (manifest_spelled.again (row_of m) (spelling m) rest 0 (record { keeps = manifest_matches.into m canonical; is = refl }))

-- one value was found
abbrev found_row : ManifestRow → Result ManifestRow ℕ
found_row row = Ok row

same_row : (a b : ManifestRow) → found_row a ≡ found_row b → a ≡ b
same_row a b e = cc

pub first_file : (a b : Manifest) → IsCanonical a → IsCanonical b → file_of a ≡ take (length (file_of a)) (file_of b) → a ≡ b
first_file a b one two front =
    let rest = drop (length (file_of a)) (file_of b) in
    let whole : file_of a ++ rest ≡ file_of b = ap (λ (f : List ℕ). f ++ rest) front ∙ take-append-drop (length (file_of a)) (file_of b) in
    let left : file_of a ++ rest ≡ manifest_kind ++ (spelling a ++ (digest a ++ rest)) =
    append_assoc (manifest_kind ++ spelling a) (digest a) rest ∙ append_assoc manifest_kind (spelling a) (digest a ++ rest) in
    let right : file_of b ≡ manifest_kind ++ (spelling b ++ digest b) = append_assoc manifest_kind (spelling b) (digest b) in
    let both : spelling a ++ (digest a ++ rest) ≡ spelling b ++ digest b =
    sym (drop_at manifest_kind (spelling a ++ (digest a ++ rest)) 4 refl)
    ∙ (ap (drop 4) (sym left ∙ (whole ∙ right)) ∙ drop_at manifest_kind (spelling b ++ digest b) 4 refl) in
    manifest_matches.same a b (same_row (row_of a) (row_of b)
    (sym (found_first a (digest a ++ rest) one) ∙ (ap (λ (l : List ℕ). value_found (manifest (spot 0 l))) both ∙ found_first b (digest b) two)))
