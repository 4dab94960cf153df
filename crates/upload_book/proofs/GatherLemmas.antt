-- Lists of parts.
use Rattle.std.proofs.Common.{◌≡◌, ℕ, ◌+◌, ◌<◌, ◌≤◌, Bool, true, false, List, [], ◌∷◌, length, ◌++◌, map, take, get_or, Option, Some, None, Result, Ok, Err, refl, ap, subst, ◌∙◌, arith}
use Rattle.std.specs.Prelude.{MatchBool, nat_lt}
use Rattle.std.specs.List.{AllByRecursion, filter_map, list_all, cons_option}
use Rattle.std.proofs.lemmas.Bool.{ltb-true}
use Rattle.std.proofs.lemmas.List.{take_more}
use Rattle.std.proofs.lemmas.List.Elements.{filter_map-append}
use Rattle.std.specs.Option.{option_to_list}
use Rattle.stamp_id.proofs.IdTests.{both_true}
use Rattle.call_types.specs.declared.version.PartRecord.{PartRecord}
use Rattle.call_types.specs.declared.refusal.KeyRefusal.{KeyRefusal}
use Rattle.call_types.specs.declared.refusal.KeyRefusal.TheVariants.{NoSuchUpload, PartOrder}
use Rattle.upload_book.specs.declared.gathering.ListedPart.{ListedPart}
use Rattle.upload_book.specs.Storing.{is_open}
use Rattle.upload_book.specs.Gathering.{number_of, part_of, listed_number, found_of, is_rising_above, has_md5, is_found, parts_of}
use Rattle.upload_book.specs.Laws.{RisingAreFew, ChecksAreFirst, FoundAreAll}

few_above : (limit before : ℕ) (numbers : List ℕ) → before ≤ limit → AllByRecursion (λ (n : ℕ). n ≤ limit) numbers → is_rising_above before numbers ≡ true → before + length numbers ≤ limit
few_above limit before [] fits all e = omega arith
few_above limit before (n ∷ ns) fits all e =
    let both = both_true (nat_lt before n) (is_rising_above n ns) e in
    omega (arith, few_above limit n ns all.0 all.1 both.1, ltb-true _ _ both.0)

pub rising_few : RisingAreFew
rising_few limit numbers all e = omega (arith, few_above limit 0 numbers (omega arith) all e)

-- ---- refusals

abbrev refused_check : KeyRefusal → Result (Unit {0}) KeyRefusal
refused_check why = Err why

abbrev refused_parts : KeyRefusal → Result (List PartRecord) KeyRefusal
refused_parts why = Err why

why_is : (a b : KeyRefusal) → refused_check a ≡ refused_check b → a ≡ b
why_is a b e = cc

first_of : (held rising : Bool) (why : KeyRefusal) (Rest : Type 0) → MatchBool held (MatchBool rising (refused_check why ≡ Ok tt) (refused_check why ≡ refused_check PartOrder)) (refused_check why ≡ refused_check NoSuchUpload)
    → MatchBool held (MatchBool rising Rest (refused_parts why ≡ refused_parts PartOrder)) (refused_parts why ≡ refused_parts NoSuchUpload)
first_of true true why Rest e = absurd cc
first_of true false why Rest e = ap refused_parts (why_is _ _ e)
first_of false rising why Rest e = ap refused_parts (why_is _ _ e)

numbers_of : (listed : List ListedPart) → map number_of (map part_of listed) ≡ map listed_number listed
numbers_of [] = refl
numbers_of (l ∷ ls) = ap (λ (ns : List ℕ). listed_number l ∷ ns) (numbers_of ls)

pub checks_first : ChecksAreFirst
checks_first key upload listed why e =
    first_of (is_open upload key) (is_rising_above 0 (map listed_number listed)) why _
    (subst (λ (numbers : List ℕ). MatchBool (is_open upload key) (MatchBool (is_rising_above 0 numbers) (refused_check why ≡ Ok tt) (refused_check why ≡ refused_check PartOrder)) (refused_check why ≡ refused_check NoSuchUpload)) (numbers_of listed) e)

-- ---- the parts that are found

some_part : (o : Option PartRecord) → filter_map (λ (p : Option PartRecord). p) (o ∷ []) ≡ option_to_list o
some_part None = refl
some_part (Some p) = refl

one_part : (l : ListedPart) → parts_of (l ∷ []) ≡ option_to_list l.found
one_part l = some_part l.found

-- one more part, if there is one
pub more_parts : (listed : List ListedPart) (i : ℕ) (d : ListedPart) → i < length listed → parts_of (take (i + 1) listed) ≡ parts_of (take i listed) ++ option_to_list (get_or listed i d).found
more_parts listed i d lt =
    ap parts_of (take_more listed i d lt) ∙ filter_map-append found_of (take i listed) (get_or listed i d ∷ []) ∙ ap (λ (ps : List PartRecord). parts_of (take i listed) ++ ps) (one_part (get_or listed i d))

-- what is found is among the parts
found_more : (md5 : List ℕ) (o : Option PartRecord) (ps : List PartRecord) → has_md5 md5 o ≡ true → map (λ (p : PartRecord). Some p) (cons_option o ps) ≡ o ∷ map (λ (p : PartRecord). Some p) ps
found_more md5 None ps e = absurd cc
found_more md5 (Some p) ps e = refl

pub found_all : FoundAreAll
found_all [] e = refl
found_all (l ∷ ls) e =
    let both = both_true (is_found l) (list_all is_found ls) e in
    found_more l.part.md5 l.found (parts_of ls) both.0 ∙ ap (λ (os : List (Option PartRecord)). l.found ∷ os) (found_all ls both.1)
