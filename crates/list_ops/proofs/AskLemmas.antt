-- What a page of names adds to what is known of keys, and what is known behind names that are passed over.
use Rattle.std.proofs.Common.{◌≡◌, ◌⊎◌, ◌∙◌, ℕ, ◌+◌, ◌<◌, Bool, true, false, List, [], ◌∷◌, ◌++◌, All, Contains, Option, Some, None, inl, inr, append_assoc, drop, length, slice_index_or, refl, sym, ap, subst, arith}
use Rattle.std.specs.Prelude.{filter}
use Rattle.std.specs.List.Sorted.{IsPermutation, IsSorted}
use Rattle.std.proofs.lemmas.List.Elements.{All-append, All-contains, All-nil, Contains-append_cases, Contains-append_left, Contains-append_right, Contains-get_or}
use Rattle.std.proofs.lemmas.List.Sorted.{All-permutation, Contains-permutation}
use Rattle.drive_base.specs.Names.{IsPage, byte_order}
use Rattle.drive_base.specs.declared.drive.TheConstants.{LONGEST_NAME}
use Rattle.receipts.specs.Events.{Section}
use Rattle.receipts.specs.Listing.{key_in}
use Rattle.receipts.specs.Pages.{Candidate, PageRule, begins_with, is_before, is_behind, is_in_last}
use Rattle.receipts.specs.Paging.{ListsPage}
use Rattle.receipts.specs.Registers.{key_slot}
use Rattle.receipts.proofs.OrderLemmas.{upto_before}
use Rattle.receipts.proofs.RegisterLemmas.{key_slot_below}
use Rattle.list_ops.specs.Rounds.{HasAsked, IsListed, IsPending, IsSettled, name_for}
use Rattle.list_ops.specs.Names.{key_of}
use Rattle.list_ops.specs.Sheets.{EndsRound, IsPassed, Sheet, Sorts, is_found, is_within, next_round, range, with_names}
use Rattle.list_ops.proofs.BoundLemmas.{beyond_is, page_reaches, range_after, within_before, within_is, within_of}
use Rattle.list_ops.proofs.KeyLemmas.{found_named, in_filter, in_last_given, key_back, name_found, name_is_name, none_there, pending_asked, pending_still, pending_with, settled_still}
use Rattle.list_ops.proofs.TextLemmas.{before_is, before_of, begins_is, begins_of, behind_zero, sorted_first, sorted_rest, upto_is, upto_of}

less_or_same : (a b : ℕ) → a < b + 1 → (a < b) ⊎ (a ≡ b)
less_or_same a b below = grind (arith, below)

-- a page of names
module _ (rule : PageRule) (bucket : List ℕ) (sheet : Sheet) (looked : List Candidate) (sections : List Section) (section : Section)
    (names : List (List ℕ)) (asked : HasAsked rule bucket sheet sheet.slot looked sections)
    (lists : ListsPage sheet.slot (record { from = sheet.from; most = sheet.most; names = names }) section)
    (page : IsPage sheet.from sheet.most LONGEST_NAME names) where
  abbrev kept : List (List ℕ)
  kept = filter (is_found rule bucket sheet.slot) names

  shown_by : (key : List ℕ) (b : Bool) → is_before (name_for bucket key) sheet.from ≡ b → IsListed rule bucket key → key_slot (key_in bucket key) ≡ sheet.slot
      → is_within (with_names rule bucket sheet names).bound (name_for bucket key) ≡ true
      → IsSettled rule bucket key sheet.rows looked (sections ++ section ∷ []) ⊎ IsPending bucket key (sheet.left ++ kept) (sections ++ section ∷ [])
  shown_by key true first listed slot within =
      inl (settled_still rule bucket key sheet.rows looked sections section (asked.done key listed (inl first)))
  shown_by key false first listed slot within = inr (record {
    page = record { from = sheet.from; most = sheet.most; names = names };
    before = sections;
    asked = section;
    after = [];
    parts = refl;
    asks = record {
      lists = subst (λ s. ListsPage s (record { from = sheet.from; most = sheet.most; names = names }) section) (sym slot) lists;
      reaches = page_reaches rule bucket sheet.from sheet.most LONGEST_NAME names sheet.bound key asked.some asked.begins page listed.wanted first within;
    };
    is_left = λ shown. Contains-append_right sheet.left kept (name_for bucket key)
        (in_filter (is_found rule bucket sheet.slot) names (name_for bucket key) shown (name_found rule bucket key sheet.slot listed slot));
  })

  known_by : (key : List ℕ) → (key_slot (key_in bucket key) < sheet.slot) ⊎ (key_slot (key_in bucket key) ≡ sheet.slot) → IsListed rule bucket key
      → is_within (with_names rule bucket sheet names).bound (name_for bucket key) ≡ true
      → IsSettled rule bucket key sheet.rows looked (sections ++ section ∷ []) ⊎ IsPending bucket key (sheet.left ++ kept) (sections ++ section ∷ [])
  known_by key (inl less) listed within =
      elim (asked.known key listed less (within_before rule bucket sheet.most names sheet.bound (name_for bucket key) within)) [
        | inl settled ↦ inl (settled_still rule bucket key sheet.rows looked sections section settled)
        | inr pending ↦ inr (pending_still bucket key sheet.left (sheet.left ++ kept) sections section
            (λ there. Contains-append_left sheet.left kept (name_for bucket key) there) pending)
      ]
  known_by key (inr same) listed within = shown_by key (is_before (name_for bucket key) sheet.from) refl listed same within

  pub names_asked : HasAsked rule bucket (with_names rule bucket sheet names) (sheet.slot + 1) looked (sections ++ section ∷ [])
  names_asked = record {
    some = asked.some;
    begins = asked.begins;
    bound_begins = range_after rule bucket sheet.most names sheet.bound asked.bound_begins;
    names = All-append (λ name. name ≡ name_for bucket (key_of bucket name)) sheet.left kept asked.names
        (found_named rule bucket sheet.slot names);
    done = λ key listed first. settled_still rule bucket key sheet.rows looked sections section (asked.done key listed first);
    known = λ key listed below within. known_by key (less_or_same (key_slot (key_in bucket key)) sheet.slot below) listed within;
  }

module _ (rule : PageRule) (bucket : List ℕ) (sheet : Sheet) (looked : List Candidate) (sections : List Section) where
  -- the slot that comes next doesn't matter
  pub slot_asked : (slots slot : ℕ) → HasAsked rule bucket sheet slots looked sections
      → HasAsked rule bucket (record sheet { slot = slot }) slots looked sections
  slot_asked slots slot asked = record {
    some = asked.some;
    begins = asked.begins;
    bound_begins = asked.bound_begins;
    names = asked.names;
    done = asked.done;
    known = asked.known;
  }

  -- nor does the order of the names that aren't done with
  sort_known : (left : List (List ℕ)) (key : List ℕ) → IsPermutation sheet.left left
      → IsSettled rule bucket key sheet.rows looked sections ⊎ IsPending bucket key sheet.left sections
      → IsSettled rule bucket key sheet.rows looked sections ⊎ IsPending bucket key left sections
  sort_known left key permutes (inl settled) = inl settled
  sort_known left key permutes (inr pending) = inr (pending_with bucket key sheet.left left sections
      (λ there. Contains-permutation sheet.left left (name_for bucket key) permutes there) pending)

  pub sorted_asked : (later : Sheet) (slots : ℕ) → Sorts sheet later → HasAsked rule bucket sheet slots looked sections
      → HasAsked rule bucket later slots looked sections
  sorted_asked later slots sorts asked = subst (λ s. HasAsked rule bucket s slots looked sections) (sym sorts.same) (record {
    some = asked.some;
    begins = asked.begins;
    bound_begins = asked.bound_begins;
    names = All-permutation (λ name. name ≡ name_for bucket (key_of bucket name)) sheet.left later.left sorts.permutes asked.names;
    done = asked.done;
    known = λ key listed below within. sort_known later.left key sorts.permutes (asked.known key listed below within);
  })

-- names that are passed over
module _ (rule : PageRule) (bucket : List ℕ) (sheet : Sheet) (looked : List Candidate) (sections : List Section) (passed rest : List (List ℕ))
    (asked : HasAsked rule bucket sheet 64 looked sections) (parts : sheet.left ≡ passed ++ rest) (are_passed : All (IsPassed rule bucket sheet) passed) where
  -- a name that is passed over isn't that of a key which isn't done with
  never_passed : (key : List ℕ) → IsListed rule bucket key → is_in_last rule sheet.rows key ≡ false → is_behind sheet.last (name_for bucket key) ≡ true
      → Contains passed (name_for bucket key) → ⊥
  never_passed key listed fresh behind there = elim (All-contains (IsPassed rule bucket sheet) passed (name_for bucket key) are_passed there) [
    | inl none ↦ (let turned : true ≡ false = sym (name_is_name rule bucket key listed) ∙ none in cc)
    | inr (inl before) ↦ (let turned : true ≡ false = sym behind ∙ before in cc)
    | inr (inr grouped) ↦ (
        let turned : true ≡ false = sym (subst (λ k. is_in_last rule sheet.rows k ≡ true) (key_back bucket key) grouped) ∙ fresh in
        cc
        )
  ]

  rest_only : (key : List ℕ) → IsListed rule bucket key → is_in_last rule sheet.rows key ≡ false → is_behind sheet.last (name_for bucket key) ≡ true
      → Contains sheet.left (name_for bucket key) → Contains rest (name_for bucket key)
  rest_only key listed fresh behind there =
      elim (Contains-append_cases passed rest (name_for bucket key) (subst (λ l. Contains l (name_for bucket key)) parts there)) [
        | inl first ↦ absurd (never_passed key listed fresh behind first)
        | inr later ↦ later
      ]

  pass_by : (key : List ℕ) (grouped behind : Bool) → is_in_last rule sheet.rows key ≡ grouped → is_behind sheet.last (name_for bucket key) ≡ behind
      → IsListed rule bucket key → is_within sheet.bound (name_for bucket key) ≡ true
      → IsSettled rule bucket key sheet.rows looked sections ⊎ IsPending bucket key rest sections
  pass_by key true behind grouped_is behind_is listed within = inl (inr (in_last_given rule bucket sheet.rows key grouped_is))
  pass_by key false false grouped_is behind_is listed within = inl (asked.done key listed (inr behind_is))
  pass_by key false true grouped_is behind_is listed within = elim (asked.known key listed (key_slot_below (key_in bucket key)) within) [
    | inl settled ↦ inl settled
    | inr pending ↦ inr (pending_with bucket key sheet.left rest sections (rest_only key listed grouped_is behind_is) pending)
  ]

  pub pass_known : (key : List ℕ) → IsListed rule bucket key → is_within sheet.bound (name_for bucket key) ≡ true
      → IsSettled rule bucket key sheet.rows looked sections ⊎ IsPending bucket key rest sections
  pass_known key = pass_by key (is_in_last rule sheet.rows key) (is_behind sheet.last (name_for bucket key)) refl refl

  rest_named : All (λ name. name ≡ name_for bucket (key_of bucket name)) rest
  rest_named = λ k d inside.
      let name = slice_index_or rest k d in
      All-contains (λ n. n ≡ name_for bucket (key_of bucket n)) sheet.left name asked.names
      (subst (λ l. Contains l name) (sym parts) (Contains-append_right passed rest name (Contains-get_or rest k d inside)))

  pub pass_asked : HasAsked rule bucket (record sheet { left = rest }) 64 looked sections
  pass_asked = record {
    some = asked.some;
    begins = asked.begins;
    bound_begins = asked.bound_begins;
    names = rest_named;
    done = asked.done;
    known = λ key listed below within. pass_known key listed within;
  }

  -- keys before the first of the others are done with
  pub pass_before : (name : List ℕ) (more : List (List ℕ)) → rest ≡ name ∷ more → IsSorted byte_order sheet.left → (key : List ℕ) → IsListed rule bucket key
      → is_within sheet.bound (name_for bucket key) ≡ true → is_before (name_for bucket key) name ≡ true
      → IsSettled rule bucket key sheet.rows looked sections
  pass_before name more is sorted key listed within before = elim (pass_known key listed within) [
    | inl settled ↦ settled
    | inr pending ↦ inl (pending_asked bucket key rest looked sections (λ there.
        let turned : true ≡ false = sym before ∙ sorted_first name more (name_for bucket key)
        (subst (λ l. IsSorted byte_order l) is (sorted_rest passed rest (subst (λ l. IsSorted byte_order l) parts sorted)))
        (subst (λ l. Contains l (name_for bucket key)) is there) in
        cc) pending)
  ]

  -- and so are all that are within the bound, where the others aren't
  never_within : (bound : Option (List ℕ)) (name first : List ℕ) → is_within bound first ≡ false → is_within bound name ≡ true
      → is_before name first ≡ false → ⊥
  never_within None name first beyond within upto = let turned : true ≡ false = beyond in cc
  never_within (Some bound) name first beyond within upto =
      let turned : true ≡ false = sym (before_of name first (upto_before name bound first (upto_is name bound (within_is bound name within))
      (before_is bound first (beyond_is bound first beyond)))) ∙ upto in
      cc

  none_within : (left : List (List ℕ)) → IsSorted byte_order left
      → ((name : List ℕ) (more : List (List ℕ)) → left ≡ name ∷ more → is_within sheet.bound name ≡ false) → (name : List ℕ)
      → is_within sheet.bound name ≡ true → Contains left name → ⊥
  none_within [] sorted beyond name within there = none_there name there
  none_within (first ∷ more) sorted beyond name within there =
      never_within sheet.bound name first (beyond first more refl) within (sorted_first first more name sorted there)

  pub pass_all : IsSorted byte_order sheet.left → ((name : List ℕ) (more : List (List ℕ)) → rest ≡ name ∷ more → is_within sheet.bound name ≡ false)
      → (key : List ℕ) → IsListed rule bucket key → is_within sheet.bound (name_for bucket key) ≡ true
      → IsSettled rule bucket key sheet.rows looked sections
  pass_all sorted beyond key listed within = elim (pass_known key listed within) [
    | inl settled ↦ settled
    | inr pending ↦ inl (pending_asked bucket key rest looked sections
        (none_within rest (sorted_rest passed rest (subst (λ l. IsSorted byte_order l) parts sorted)) beyond (name_for bucket key) within) pending)
  ]

-- all keys within the bound are done with where the round ends
pub round_over : (rule : PageRule) (bucket : List ℕ) (sheet : Sheet) (looked : List Candidate) (sections : List Section)
    → HasAsked rule bucket sheet 64 looked sections → IsSorted byte_order sheet.left → EndsRound rule bucket sheet → (key : List ℕ) → IsListed rule bucket key
    → is_within sheet.bound (name_for bucket key) ≡ true → IsSettled rule bucket key sheet.rows looked sections
round_over rule bucket sheet looked sections asked sorted ends =
    pass_all rule bucket sheet looked sections ends.passed ends.rest asked ends.parts ends.are_passed sorted ends.beyond

-- the next round begins behind the bound
pub next_asked : (rule : PageRule) (bucket : List ℕ) (sheet : Sheet) (looked : List Candidate) (sections : List Section) (bound : List ℕ)
    → HasAsked rule bucket sheet 64 looked sections → IsSorted byte_order sheet.left → EndsRound rule bucket sheet → sheet.bound ≡ Some bound
    → HasAsked rule bucket (next_round sheet bound) 0 looked sections
next_asked rule bucket sheet looked sections bound asked sorted ends is = record {
  some = (let some = asked.some in grind (arith, some));
  begins =
      let own = range rule bucket in
      let rest = drop (length own) bound in
      let text_is : bound ++ 0 ∷ [] ≡ own ++ (rest ++ 0 ∷ []) =
      ap (λ l. l ++ 0 ∷ []) (begins_is own bound (asked.bound_begins bound is)) ∙ append_assoc own rest (0 ∷ []) in
      subst (λ n. begins_with own n ≡ true) (sym text_is) (begins_of own (rest ++ 0 ∷ []));
  bound_begins = λ name same. absurd (let turned : None ≡ Some name = same in cc);
  names = All-nil (λ name. name ≡ name_for bucket (key_of bucket name));
  done = λ key listed first. elim first [
    | inl before ↦ round_over rule bucket sheet looked sections asked sorted ends key listed
        (subst (λ b. is_within b (name_for bucket key) ≡ true) (sym is) (within_of bound (name_for bucket key)
        (upto_of (name_for bucket key) bound (behind_zero (name_for bucket key) bound (before_is (name_for bucket key) (bound ++ 0 ∷ []) before)))))
    | inr behind ↦ asked.done key listed (inr behind)
  ];
  known = λ key listed below within. absurd (omega (arith, below));
}
