-- The text under a print tells the cuts, and a joined manifest has the text of the joined body.
use Rattle.std.proofs.Common.{◌≡◌, ◌⊎◌, ℕ, zero, suc, ◌-◌, ◌<◌, ◌≤◌, ◌∙◌, List, [], ◌∷◌, length, slice_index_or, map, subst, sym, ap, refl, inl, inr, arith}
use Rattle.std.specs.Prelude.{All, Some, slice_get}
use Rattle.std.specs.List.{AllByRecursion, concat, flat_map}
use Rattle.std.proofs.lemmas.List.{append-nil, get_or-append_right, get_or-map, get_or_append_left, length-append, length-map}
use Rattle.std.proofs.lemmas.List.Elements.{All-from_get_or, All-map, All-same, recursion_from_All}
use Rattle.std.proofs.lemmas.Option.{same_Some, slice_get-get_or}
use Rattle.sha2.specs.Sha256.{sha256}
use Rattle.stamp_id.specs.declared.version.VersionId.{VersionId}
use Rattle.manifest_file.proofs.PrintText.{tells_parts, texts_are_bytes}
use Rattle.manifest_file.proofs.RootLemmas.{sha256_is_root}
use Rattle.manifest_file.specs.Canonical.{IsCanonical, IsCanonicalPart, IsRoot}
use Rattle.manifest_file.specs.Print.{Cut, cut_of, print_text, text_under}
use Rattle.manifest_file.specs.declared.manifest.Manifest.{Manifest}
use Rattle.manifest_file.specs.declared.manifest.ManifestPart.{ManifestPart}
use Rattle.shard_file.specs.Shards.{root_of, table_of}
use Rattle.body_print.specs.Clashes.{ClashesWith}
use Rattle.body_print.specs.Laws.{JoinedPrint, TextTellsCuts}
use Rattle.body_print.specs.Prints.{HasPrint, IsCutAs, IsCutOf, IsJoined, IsOfOnePart}
use Rattle.body_print.proofs.ByteLemmas.{text_is_bytes}
use Rattle.body_print.proofs.ClashLemmas.{each_or, one_or_two}

-- a part with this cut
abbrev part_with : VersionId → Cut → ManifestPart
part_with id cut = record { id = id; length = cut.0; roots = cut.1 }

cuts_again : (id : VersionId) (cuts : List Cut) → map cut_of (map (part_with id) cuts) ≡ cuts
cuts_again id [] = refl
cuts_again id (cut ∷ cuts) = ap (λ (rest : List Cut). cut ∷ rest) (cuts_again id cuts)

-- the cut of a part that isn't too long is canonical
part_is_canonical : (n p : ℕ) (id : VersionId) (part : List ℕ) (cut : Cut) → length part ≤ 5368709120 → IsCutOf n p part cut
    → IsCanonicalPart n (part_with id cut)
part_is_canonical n p id part cut few is =
    let shards = is.1.0 in
    let rooted : All IsRoot (map root_of shards) = All-map IsRoot root_of shards (λ k d low. sha256_is_root (table_of (slice_index_or shards k d))) in
    record {
      size = omega (arith, few, is.0);
      counted = ap (length {A = List ℕ}) is.1.2 ∙ length-map shards root_of ∙ is.1.1.count;
      roots = recursion_from_All IsRoot cut.1 (All-same IsRoot cut.1 (map root_of shards) is.1.2 rooted);
    }

-- a manifest with these cuts
abbrev manifest_with : Manifest → VersionId → List Cut → Manifest
manifest_with m id cuts = record { name = m.name; drives = m.drives; parity = m.parity; parts = map (part_with id) cuts }

-- what is under the print of a body that is cut as a manifest may tell is the text of a canonical manifest
cuts_are_canonical : (m : Manifest) (id : VersionId) (n p : ℕ) (body print : List ℕ) → IsCanonical m → m.drives ≡ n
    → (has : HasPrint n p body print) → IsCanonical (manifest_with m id has.under.cuts)
cuts_are_canonical m id n p body print canonical drives has =
    let under = has.under in
    let cuts = under.cuts in
    let count : length (map (part_with id) cuts) ≡ length has.parts = length-map cuts (part_with id) ∙ under.count in
    let parts : All (λ cut. IsCanonicalPart n (part_with id cut)) cuts =
    All-from_get_or (λ cut. IsCanonicalPart n (part_with id cut)) cuts (0, [])
    (λ i low.
    let inside : i < length has.parts = omega (arith, low, under.count) in
    part_is_canonical n p id (slice_index_or has.parts i []) (slice_index_or cuts i (0, [])) (has.cut.fits i [] inside) (under.each i inside)) in
    record {
      name = canonical.name;
      drives = canonical.drives;
      parity = canonical.parity;
      some = omega (arith, count, has.cut.some);
      few = omega (arith, count, has.cut.few);
      parts = subst (λ (d : ℕ). AllByRecursion (IsCanonicalPart d) (map (part_with id) cuts)) (sym drives)
          (recursion_from_All (IsCanonicalPart n) (map (part_with id) cuts) (All-map (IsCanonicalPart n) (part_with id) cuts parts));
    }

-- a part of a list that isn't empty
first_part : (parts : List ManifestPart) → 1 ≤ length parts → ManifestPart
first_part [] some = absurd (omega arith)
first_part (part ∷ parts) some = part

pub text_tells_cuts : TextTellsCuts
text_tells_cuts n p m body print over has same =
    let canonical = over.canonical in
    let drives = over.drives in
    let parity = over.parity in
    let under = has.under in
    let cuts = under.cuts in
    let id = (first_part m.parts canonical.some).id in
    let other = manifest_with m id cuts in
    let text : text_under m ≡ text_under other =
    same ∙ under.spells
    ∙ ap (λ (d : ℕ). print_text d p cuts) (sym drives) ∙ ap (λ (q : ℕ). print_text m.drives q cuts) (sym parity)
    ∙ ap (print_text m.drives m.parity) (sym (cuts_again id cuts)) in
    let told = tells_parts m other canonical (cuts_are_canonical m id n p body print canonical drives has) text in
    let cuts_are : map cut_of m.parts ≡ cuts = told.2 ∙ cuts_again id cuts in
    let count : length has.parts ≡ length m.parts =
    sym under.count ∙ ap (length {A = Cut}) (sym cuts_are) ∙ length-map m.parts cut_of in
    record {
      count = count;
      each = λ i default low.
          let at : slice_index_or cuts i (0, []) ≡ cut_of (slice_index_or m.parts i default) =
          ap (λ (all : List Cut). slice_index_or all i (0, [])) (sym cuts_are) ∙ get_or-map cut_of m.parts i default (0, []) low in
          subst (IsCutOf n p (slice_index_or has.parts i [])) at (under.each i (omega (arith, low, count)));
    }

-- ---- the parts of joined manifests

-- the parts of a manifest
abbrev parts_of : Manifest → List ManifestPart
parts_of m = m.parts

-- the only part of each of several manifests, at its place among the parts of them all
joined_part : (n p : ℕ) (ones : List Manifest) (i : ℕ) (one : Manifest) (default : ManifestPart) → All (IsOfOnePart n p) ones → slice_get ones i ≡ Some one
    → slice_index_or (flat_map parts_of ones) i default ≡ slice_index_or one.parts 0 default
joined_part n p [] i one default each at = absurd cc
joined_part n p (first ∷ ones) zero one default each at =
    let same : first ≡ one = same_Some first one at in
    let long : length first.parts ≡ 1 = (each 0 first (omega arith)).one in
    get_or_append_left first.parts (flat_map parts_of ones) default 0 (omega arith) ∙ ap (λ (m : Manifest). slice_index_or m.parts 0 default) same
joined_part n p (first ∷ ones) (suc i) one default each at =
    let long : length first.parts ≡ 1 = (each 0 first (omega arith)).one in
    let rest = joined_part n p ones i one default (λ k d low. each (suc k) d (omega arith)) at in
    let place : suc i - 1 ≡ i = omega arith in
    get_or-append_right first.parts (flat_map parts_of ones) 1 (suc i) default long (omega arith)
    ∙ ap (λ (k : ℕ). slice_index_or (flat_map parts_of ones) k default) place ∙ rest

-- there are as many parts as manifests
length-joined : (n p : ℕ) (ones : List Manifest) → All (IsOfOnePart n p) ones → length (flat_map parts_of ones) ≡ length ones
length-joined n p [] each = refl
length-joined n p (first ∷ ones) each =
    let long : length first.parts ≡ 1 = (each 0 first (omega arith)).one in
    length-append first.parts (flat_map parts_of ones) ∙ omega (arith, long, length-joined n p ones (λ k d low. each (suc k) d (omega arith)))

-- a list of one byte string, joined
concat-one : (parts : List (List ℕ)) → length parts ≡ 1 → concat parts ≡ slice_index_or parts 0 []
concat-one [] one = absurd (omega arith)
concat-one (part ∷ []) one = append-nil part
concat-one (part ∷ other ∷ parts) one = absurd (omega arith)

-- a body with the print of a manifest of one part is cut as this part says, or there is a clash
cut_or_clash : (n p : ℕ) (one : Manifest) (body : List ℕ) (default : ManifestPart) → IsOfOnePart n p one → HasPrint n p body (sha256 (text_under one))
    → IsCutOf n p body (cut_of (slice_index_or one.parts 0 default)) ⊎ ClashesWith n p body (sha256 (text_under one)) (text_under one)
cut_or_clash n p one body default is has = elim (one_or_two (text_under one) has.text) [
  | inl same ↦
      let told : IsCutAs n p one.parts has.parts = text_tells_cuts n p one body (sha256 (text_under one)) is.over has same in
      let whole : slice_index_or has.parts 0 [] ≡ body = sym (concat-one has.parts (told.count ∙ is.one)) ∙ sym has.joins in
      inl (subst (λ (bytes : List ℕ). IsCutOf n p bytes (cut_of (slice_index_or one.parts 0 default))) whole (told.each 0 default (omega (arith, is.one))))
  | inr differ ↦ inr (record {
    other = has.text;
    clash = record {
      read_bytes = texts_are_bytes one is.over.canonical;
      other_bytes = text_is_bytes n p has.parts has.text has.under;
      differ = differ;
      same = has.hashed;
    };
    is_hashed = record { parts = has.parts; text = has.text; joins = has.joins; under = has.under; hashed = has.hashed; is = inl refl };
  })
]

-- a manifest of a list that isn't empty
first_one : (ones : List Manifest) (i : ℕ) → i < length ones → Manifest
first_one [] i low = absurd (omega arith)
first_one (one ∷ ones) i low = one

-- the text of a manifest of so many drives and so much parity
text_over : (n p : ℕ) (m : Manifest) → m.drives ≡ n → m.parity ≡ p → text_under m ≡ print_text n p (map cut_of m.parts)
text_over n p m drives parity =
    ap (λ (d : ℕ). print_text d m.parity (map cut_of m.parts)) drives ∙ ap (λ (q : ℕ). print_text n q (map cut_of m.parts)) parity

-- the clash of one of several manifests
abbrev SomeClash : ℕ → ℕ → List Manifest → List (List ℕ) → Type 0
SomeClash n p ones parts = (i : ℕ) × (one : Manifest) × (slice_get ones i ≡ Some one)
    × ClashesWith n p (slice_index_or parts i []) (sha256 (text_under one)) (text_under one)

-- the cut of part i of a joined manifest is that of part i of the body, or there is a clash
joined_cut : (n p : ℕ) (ones : List Manifest) (m : Manifest) (parts : List (List ℕ)) → IsJoined n p ones m → length parts ≡ length ones
    → ((i : ℕ) (one : Manifest) → slice_get ones i ≡ Some one → HasPrint n p (slice_index_or parts i []) (sha256 (text_under one)))
    → (i : ℕ) → i < length parts
    → IsCutOf n p (slice_index_or parts i []) (slice_index_or (map cut_of m.parts) i (0, [])) ⊎ SomeClash n p ones parts
joined_cut n p ones m parts is count printed i low =
    let inside : i < length ones = omega arith in
    let one = slice_index_or ones i (first_one ones i inside) in
    let at : slice_get ones i ≡ Some one = slice_get-get_or ones i (first_one ones i inside) inside in
    let of_one : IsOfOnePart n p one = is.each i (first_one ones i inside) inside in
    let default = first_part one.parts (omega (arith, of_one.one)) in
    let there : i < length m.parts = omega (arith, ap (length {A = ManifestPart}) is.parts, length-joined n p ones is.each) in
    let cut : slice_index_or (map cut_of m.parts) i (0, []) ≡ cut_of (slice_index_or one.parts 0 default) =
    get_or-map cut_of m.parts i default (0, []) there
    ∙ ap (λ (all : List ManifestPart). cut_of (slice_index_or all i default)) is.parts
    ∙ ap cut_of (joined_part n p ones i one default is.each at) in
    elim (cut_or_clash n p one (slice_index_or parts i []) default of_one (printed i one at)) [
      | inl so ↦ inl (subst (IsCutOf n p (slice_index_or parts i [])) (sym cut) so)
      | inr clash ↦ inr (i, one, at, clash)
    ]

pub joined_print : JoinedPrint
joined_print n p ones m parts most is count printed =
    let cuts = map cut_of m.parts in
    let long : length cuts ≡ length parts =
    length-map m.parts cut_of ∙ ap (length {A = ManifestPart}) is.parts ∙ length-joined n p ones is.each ∙ sym count in
    elim (each_or (λ i. IsCutOf n p (slice_index_or parts i []) (slice_index_or cuts i (0, []))) (SomeClash n p ones parts) (length parts)
    (joined_cut n p ones m parts is count printed)) [
      | inl each ↦ inl (record { cuts = cuts; count = long; each = each; spells = text_over n p m is.over.drives is.over.parity })
      | inr clash ↦ inr clash
    ]
