-- Where bytes stop to be the beginning of a document.
use Rattle.std.proofs.Common.{◌≡◌, refl, sym, ◌∙◌, ap, subst, ℕ, suc, ◌+◌, ◌-◌, ◌<◌, ◌≤◌, ◌⊎◌, inl, inr, Bool, true, false, List, [], ◌∷◌, ◌++◌, length, take, drop, Option, Some, None, append_assoc, arith, cond, length-append, ◌||◌, ◌&&◌, leb, ltb}
use Rattle.std.proofs.lemmas.Bool.Decides.{eqb_tells}
use Rattle.std.proofs.lemmas.List.{length_push, take_at, append-nil, take-append-drop, take-take}
use Rattle.s3_docs.specs.declared.prologue.Root.{Root}
use Rattle.s3_docs.specs.declared.prologue.Root.TheVariants.{CompleteMultipartUpload, VersioningConfiguration}
use Rattle.s3_docs.specs.Machine.{Value, Field, PartNumber, ETag, Status, Holder, Part, Configuration, Quotation, Naming, Awaited, Spent, Other, State, Expect, Start, Opened, Declaration, Mark, Before, Rooted, Spaced, Quote, Quoted, Between, Tag, Inside, Inner, Name, Text, Awaiting, Ending, Digits, Reference, Hex, After, due, within, with_md5, md5_of, quote_text, behind_name, closes, begins, one_digit_more, behind_hex, moves, step, said}
use Rattle.s3_docs.specs.Outcomes.{Outcome, Says, Fails, outcome, goes_on, at_the_end}
use Rattle.s3_docs.specs.Documents.{IsDocument, GoesOn, IsPlace}
use Rattle.s3_docs.proofs.Law.{document_accepted, accepted_document}
use Rattle.s3_docs.proofs.Live.{IsLawful, live}

-- what a byte leads to is lawful
abbrev Keeps : Option State → Type 0
Keeps None = Unit {0}
Keeps (Some state) = IsLawful state

either : (test : Bool) (x y : Option State) → Keeps x → Keeps y → Keeps (cond test x y)
either true x y kept other = kept
either false x y kept other = other

due_kept : (bytes : List ℕ) (next : State) → IsLawful next → IsLawful (due bytes next)
due_kept [] next kept = kept
due_kept (b ∷ bytes) next kept = kept

within_kept : (root : Root) → IsLawful (within root)
within_kept CompleteMultipartUpload = tt
within_kept VersioningConfiguration = tt

closes_kept : (holder : Holder) → Keeps (closes holder)
closes_kept (Part parts (Some number) (Some md5)) = tt
closes_kept (Part parts (Some number) None) = tt
closes_kept (Part parts None md5) = tt
closes_kept (Configuration (Some mode)) = tt
closes_kept (Configuration None) = tt

named_kept : (naming : Naming) (holder : Holder) (name : List ℕ) (b : ℕ) → Keeps (behind_name naming holder name b)
named_kept (Awaited field) holder name b = search either
named_kept Spent holder name b = tt
named_kept Other holder name b = search either

digit_kept : (holder : Holder) (count value : ℕ) → Keeps (one_digit_more holder count value)
digit_kept holder count value = elim (leb count 5 && leb value 10000) as (λ few. Keeps (cond (few && (ltb count 5 || ltb 0 value)) (Some (Digits holder count value)) None)) [
  | false ↦ tt
  | true ↦ on_digits (ltb count 5) (ltb 0 value) (λ e. inr (search (arith, e))) (λ e. inl (search (arith, e)))
]
  where
    on_digits : (few some : Bool) → (few ≡ true → (0 < value) ⊎ (count < 5)) → (some ≡ true → (0 < value) ⊎ (count < 5))
        → Keeps (cond (few || some) (Some (Digits holder count value)) None)
    on_digits true some h k = h refl
    on_digits false true h k = k refl
    on_digits false false h k = tt

hex_kept : (holder : Holder) (quotation : Quotation) (digits : List ℕ) → length digits ≤ 32 → IsLawful (behind_hex holder quotation digits)
hex_kept holder quotation digits few = elim (eqb_tells (length digits) 32) [
  | inl full ↦ rw full.0 (due_kept (quote_text quotation) (Ending (with_md5 holder (md5_of digits)) ETag) tt)
  | inr short ↦ rw short.0 (omega (arith, short.1, few))
]

moves_kept : (state : State) (b : ℕ) → IsLawful state → Keeps (moves state b)
moves_kept (Expect now_due then_due next) b lawful = search (either, due_kept, lawful)
moves_kept (Start root) b lawful = search either
moves_kept (Opened root) b lawful = search (either, due_kept)
moves_kept (Declaration root) b lawful = search either
moves_kept (Mark root) b lawful = search either
moves_kept (Before root) b lawful = search (either, due_kept)
moves_kept (Rooted root) b lawful = search (either, within_kept)
moves_kept (Spaced root) b lawful = search either
moves_kept (Quote root) b lawful = search either
moves_kept (Quoted root quote) b lawful = search (either, within_kept)
moves_kept (Between parts) b lawful = search either
moves_kept (Tag parts) b lawful = search either
moves_kept (Inside holder) b lawful = search either
moves_kept (Inner holder) b lawful = search (either, closes_kept)
moves_kept (Name holder name) b lawful = search (either, named_kept)
moves_kept (Text holder name) b lawful = search (either, due_kept)
moves_kept (Awaiting holder field) b lawful = begins_kept field holder b
  where
    begins_kept : (field : Field) (holder : Holder) (b : ℕ) → Keeps (begins field holder b)
    begins_kept PartNumber holder b = search (either, digit_kept)
    begins_kept ETag holder b = search (either, arith)
    begins_kept Status holder b = search either
moves_kept (Ending holder field) b lawful = search (either, due_kept)
moves_kept (Digits holder count value) b lawful = search (either, digit_kept)
moves_kept (Reference holder) b lawful = search (either, arith)
moves_kept (Hex holder quotation digits) b lawful =
    let few : length (digits ++ b ∷ []) ≤ 32 = omega (arith, lawful, length_push digits b) in
    let kept = hex_kept holder quotation (digits ++ b ∷ []) few in
    search (either, kept)
moves_kept (After value) b lawful = tt

step_kept : (state : State) (b : ℕ) → IsLawful state → Keeps (step state b)
step_kept state b lawful =
    let kept = moves_kept state b lawful in
    search (either, kept, lawful)

-- nothing goes on from here with these bytes
abbrev Blocks : State → List ℕ → Type 0
Blocks state [] = said state ≡ None
Blocks state (b ∷ bytes) = step state b ≡ None

-- bytes that stop: those before the place, those from there on, and what is known between them
record Split (state : State) (bytes : List ℕ) (left : ℕ) : Type 0 where
  front : List ℕ
  rest : List ℕ
  between : State
  whole : bytes ≡ front ++ rest
  size : length rest ≡ left
  lawful : IsLawful between
  reads : (more : List ℕ) → outcome state (front ++ more) ≡ outcome between more
  blocks : Blocks between rest

fails_same : (m n : ℕ) → Fails m ≡ Fails n → m ≡ n
fails_same m n e = ap left_of e
  where
    left_of : Outcome → ℕ
    left_of (Says value) = 0
    left_of (Fails left) = left

not_said : (value : Value) (n : ℕ) → Says value ≡ Fails n → ⊥
not_said value n e = grind arith

end_split : (state : State) (left : ℕ) → IsLawful state → (told : Option Value) → said state ≡ told → at_the_end told ≡ Fails left → Split state [] left
end_split state left lawful (Some value) is stops = absurd (not_said value left stops)
end_split state left lawful None is stops = record {
  front = [];
  rest = [];
  between = state;
  whole = refl;
  size = fails_same 0 left stops;
  lawful = lawful;
  reads = λ more. refl;
  blocks = is;
}

split : (bytes : List ℕ) (state : State) (left : ℕ) → IsLawful state → outcome state bytes ≡ Fails left → Split state bytes left
split [] state left lawful stops = end_split state left lawful (said state) refl stops
split (b ∷ bytes) state left lawful stops = at_step (λ next kept stops. split bytes next left kept stops) (step state b) refl (step_kept state b lawful) stops
  where
    at_step : ((next : State) → IsLawful next → outcome next bytes ≡ Fails left → Split next bytes left)
        → (next : Option State) → step state b ≡ next → Keeps next → goes_on next (λ next. outcome next bytes) (length (b ∷ bytes)) ≡ Fails left → Split state (b ∷ bytes) left
    at_step later None is kept stops = record {
      front = [];
      rest = b ∷ bytes;
      between = state;
      whole = refl;
      size = fails_same (length (b ∷ bytes)) left stops;
      lawful = lawful;
      reads = λ more. refl;
      blocks = is;
    }
    at_step induction (Some next) is kept stops =
        let later : Split next bytes left = induction next kept stops in
        record {
          front = b ∷ later.front;
          rest = later.rest;
          between = later.between;
          whole = ap (b ∷◌) later.whole;
          size = later.size;
          lawful = later.lawful;
          reads = λ more. rw is (later.reads more);
          blocks = later.blocks;
        }

stuck : (state : State) (b : ℕ) (more : List ℕ) → step state b ≡ None → outcome state (b ∷ more) ≡ Fails (length (b ∷ more))
stuck state b more is = rw is refl

place_at : (root : Root) (front rest : List ℕ) (between : State) → IsLawful between
    → ((more : List ℕ) → outcome (Start root) (front ++ more) ≡ outcome between more) → Blocks between rest → IsPlace root (front ++ rest) (length front)
place_at root front [] between lawful reads blocks = record {
  before = rw (take_at front [] (length front) refl) (goes_to_live);
  after = inr (sym (ap length (append-nil front)), λ value document. not_said value 0 (sym (document_accepted root (front ++ []) value document) ∙ reads [] ∙ ap at_the_end blocks));
}
  where
    goes_to_live : GoesOn root front
    goes_to_live = let more = live between lawful in (more.0, more.1, accepted_document root (front ++ more.0) more.1 (reads more.0 ∙ more.2))
place_at root front (b ∷ rest) between lawful reads blocks = record {
  before = rw (take_at front (b ∷ rest) (length front) refl) (goes_to_live);
  after = inl (omega (arith, length-append front (b ∷ rest)), goes_no_further);
}
  where
    goes_to_live : GoesOn root front
    goes_to_live = let more = live between lawful in (more.0, more.1, accepted_document root (front ++ more.0) more.1 (reads more.0 ∙ more.2))

    goes_no_further : GoesOn root (take (suc (length front)) (front ++ b ∷ rest)) → ⊥
    goes_no_further on =
        let taken : take (suc (length front)) (front ++ b ∷ rest) ≡ front ++ b ∷ [] =
        subst (λ (bytes : List ℕ). take (suc (length front)) bytes ≡ front ++ b ∷ []) (append_assoc front (b ∷ []) rest)
        (take_at (front ++ b ∷ []) rest (suc (length front)) (omega (arith, length_push front b))) in
        let still = subst (λ (bytes : List ℕ). GoesOn root bytes) taken on in
        let said : outcome (Start root) (front ++ b ∷ still.0) ≡ Says still.1 =
        subst (λ (bytes : List ℕ). outcome (Start root) bytes ≡ Says still.1) (append_assoc front (b ∷ []) still.0)
        (document_accepted root ((front ++ b ∷ []) ++ still.0) still.1 still.2) in
        not_said still.1 (length (b ∷ still.0)) (sym said ∙ reads (b ∷ still.0) ∙ stuck between b still.0 blocks)

-- Bytes of which so many are left stop at the place before these.
pub place_of : (root : Root) (bytes : List ℕ) (left : ℕ) → outcome (Start root) bytes ≡ Fails left
    → (left ≤ length bytes) × IsPlace root bytes (length bytes - left)
place_of root bytes left stops =
    let parts = split bytes (Start root) left tt stops in
    let total : length bytes ≡ length parts.front + left = ap length parts.whole ∙ length-append parts.front parts.rest ∙ ap (length parts.front +◌) parts.size in
    let at : length bytes - left ≡ length parts.front = omega (arith, total) in (
      omega (arith, total),
      rw at (subst (λ (bytes : List ℕ). IsPlace root bytes (length parts.front)) (sym parts.whole)
          (place_at root parts.front parts.rest parts.between parts.lawful parts.reads parts.blocks)),
    )

-- what a document says is what is read
pub one_value : (root : Root) (bytes : List ℕ) (read value : Value) → outcome (Start root) bytes ≡ Says read → IsDocument root bytes value → read ≡ value
one_value root bytes read value goes document = ap told (sym goes ∙ document_accepted root bytes value document)
  where
    told : Outcome → Value
    told (Says value) = value
    told (Fails left) = read

pub no_value : (root : Root) (bytes : List ℕ) (left : ℕ) (value : Value) → outcome (Start root) bytes ≡ Fails left → IsDocument root bytes value → ⊥
no_value root bytes left value stops document = not_said value left (sym (document_accepted root bytes value document) ∙ stops)

front_goes_on : (root : Root) (front back : List ℕ) → GoesOn root (front ++ back) → GoesOn root front
front_goes_on root front back on =
    (back ++ on.0, on.1, subst (λ (bytes : List ℕ). IsDocument root bytes on.1) (append_assoc front back on.0) on.2)

earlier : (root : Root) (bytes : List ℕ) (m n : ℕ) → m ≤ n → GoesOn root (take n bytes) → GoesOn root (take m bytes)
earlier root bytes m n le on =
    let split : take n bytes ≡ take m bytes ++ drop m (take n bytes) =
    sym (take-append-drop m (take n bytes)) ∙ ap (λ (front : List ℕ). front ++ drop m (take n bytes)) (take-take m n bytes le) in
    front_goes_on root (take m bytes) (drop m (take n bytes)) (subst (λ (bytes : List ℕ). GoesOn root bytes) split on)

place_within : (root : Root) (bytes : List ℕ) (place : ℕ) → IsPlace root bytes place → place ≤ length bytes
place_within root bytes place is = elim is.after [ inl inner ↦ omega (arith, inner.0) | inr end ↦ omega (arith, end.0) ]

not_before : (root : Root) (bytes : List ℕ) (p q : ℕ) → IsPlace root bytes p → IsPlace root bytes q → p < q → ⊥
not_before root bytes p q at_p at_q less = elim at_p.after [
  | inl inner ↦ inner.1 (earlier root bytes (suc p) q less at_q.before)
  | inr end ↦ omega (arith, end.0, less, place_within root bytes q at_q)
]

split_less : (p q : ℕ) → (p ≡ q → ⊥) → (p < q) ⊎ (q < p)
split_less p q other = by_test (ltb p q) refl
  where
    by_test : (t : Bool) → ltb p q ≡ t → (p < q) ⊎ (q < p)
    by_test true less = inl (search (arith, less))
    by_test false more = let le : q ≤ p = search (arith, more) in inr (omega (arith, le, other))

order : (p q : ℕ) → (p ≡ q) ⊎ ((p < q) ⊎ (q < p))
order p q = elim (eqb_tells p q) [ inl same ↦ inl same.1 | inr other ↦ inr (split_less p q other.1) ]

-- There is one place, where the bytes are no document, and else none.
pub one_place : (root : Root) (bytes : List ℕ) (left place : ℕ) → outcome (Start root) bytes ≡ Fails left → IsPlace root bytes place → length bytes - left ≡ place
one_place root bytes left place stops is = by_order (length bytes - left) place (place_of root bytes left stops).1 is
  where
    by_order : (p q : ℕ) → IsPlace root bytes p → IsPlace root bytes q → p ≡ q
    by_order p q at_p at_q =
        let not_less = not_before root bytes p q at_p at_q in
        let not_more = not_before root bytes q p at_q at_p in
        elim (order p q) [ inl same ↦ same | inr other ↦ elim other [ inl less ↦ absurd (not_less less) | inr more ↦ absurd (not_more more) ] ]

pub no_place : (root : Root) (bytes : List ℕ) (place : ℕ) (value : Value) → outcome (Start root) bytes ≡ Says value → IsPlace root bytes place → ⊥
no_place root bytes place value goes is = elim is.after [
  | inl inner ↦ inner.1 (front_goes_on root (take (suc place) bytes) (drop (suc place) bytes)
      ([], value, accepted_document root _ value (ap (outcome (Start root)) (append-nil (take (suc place) bytes ++ drop (suc place) bytes) ∙ take-append-drop (suc place) bytes) ∙ goes)))
  | inr end ↦ end.1 value (accepted_document root bytes value goes)
]
