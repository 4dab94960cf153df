-- From which key on a page looks for keys.
use Rattle.std.proofs.Common.{◌≡◌, ◌⊎◌, ℕ, Bool, true, false, List, [], Option, Some, None, inl, inr, refl, sym, subst}
use Rattle.std.proofs.lemmas.List.{append-nil}
use Rattle.std.proofs.lemmas.Slice.Eq.{bytes_eq-Decides}
use Rattle.std.specs.Prelude.{◌&&◌, ◌||◌, if◌then◌else◌, bytes_eq, is_some, not}
use Rattle.receipts.proofs.OrderLemmas.{before_is_upto, upto_itself, upto_trans}
use Rattle.receipts.specs.Pages.{PageRule, are_same, begins_with, is_before, is_behind, is_begun, is_marked, row_name, wants}
use Rattle.receipts.specs.Paging.{IsUpTo}
use Rattle.list_page.specs.Starting.{first_key, start_of}
use Rattle.list_page.proofs.FrontLemmas.{before, begin_upto, row_upto}
use Rattle.list_page.proofs.TextLemmas.{begins_by}

pub both : (a b : Bool) → (a && b) ≡ true → (a ≡ true) × (b ≡ true)
both true b is = (refl, is)
both false b is = absurd (let no : false ≡ true = is in cc)

either : (a b : Bool) → (a || b) ≡ true → (a ≡ true) ⊎ (b ≡ true)
either true b is = inl refl
either false b is = inr is

-- what a wanted key meets
pub record IsWanted (rule : PageRule) (key : List ℕ) : Type 0 where
  pub begins : begins_with rule.prefix key ≡ true
  pub behind_key : (is_behind rule.key_after key || is_begun rule key) ≡ true
  pub behind_name : is_behind rule.name_after (row_name rule key) ≡ true

pub wanted_is : (rule : PageRule) (key : List ℕ) → wants rule key ≡ true → IsWanted rule key
wanted_is rule key wanted =
    let last = both (begins_with rule.prefix key && (is_behind rule.key_after key || is_begun rule key) && is_behind rule.name_after (row_name rule key))
    (not (is_marked rule key)) wanted in
    let name = both (begins_with rule.prefix key && (is_behind rule.key_after key || is_begun rule key)) (is_behind rule.name_after (row_name rule key)) last.0 in
    let front = both (begins_with rule.prefix key) (is_behind rule.key_after key || is_begun rule key) name.0 in
    record { begins = front.0; behind_key = front.1; behind_name = name.1 }

-- it isn't before the key up to which keys are left out
same_text : (text key : List ℕ) (named : Bool) → (bytes_eq text key && named) ≡ true → IsUpTo text key
same_text text key named is =
    let same : text ≡ key = (bytes_eq-Decides text key).0 (both (bytes_eq text key) named is).0 in subst (IsUpTo text) same (upto_itself text)

behind_start : (after : Option (List ℕ)) (key start : List ℕ) (named : Bool) → (is_behind after key || (are_same after (Some key) && named)) ≡ true
    → after ≡ Some start → IsUpTo start key
behind_start None key start named is there = absurd (let no : None ≡ Some start = there in cc)
behind_start (Some text) key start named is there = let same : text ≡ start = cc in
    elim (either (is_before text key) (bytes_eq text key && named) is) [
      | inl less ↦ subst (λ t. IsUpTo t key) same (before_is_upto text key (before text key less))
      | inr begun ↦ subst (λ t. IsUpTo t key) same (same_text text key named begun)
    ]

-- nor the name up to which rows are
behind_row : (after : Option (List ℕ)) (name key start : List ℕ) → is_behind after name ≡ true → IsUpTo name key → after ≡ Some start → IsUpTo start key
behind_row None name key start is upto there = absurd (let no : None ≡ Some start = there in cc)
behind_row (Some text) name key start is upto there = let same : text ≡ start = cc in
    subst (λ t. IsUpTo t key) same (upto_trans text name key (before_is_upto text name (before text name is)) upto)

start_by : (prefix start key : List ℕ) (test : Bool) → IsUpTo prefix key → IsUpTo start key → IsUpTo (if test then start else prefix) key
start_by prefix start key true front behind = behind
start_by prefix start key false front behind = front

start_upto : (prefix key : List ℕ) (start : Option (List ℕ)) → IsUpTo prefix key → ((text : List ℕ) → start ≡ Some text → IsUpTo text key)
    → IsUpTo (start_of prefix start) key
start_upto prefix key None front behind = front
start_upto prefix key (Some start) front behind = start_by prefix start key (begins_with prefix start) front (behind start refl)

later_upto : (a b key : List ℕ) (test : Bool) → IsUpTo a key → IsUpTo b key → IsUpTo (if test then b else a) key
later_upto a b key true first second = second
later_upto a b key false first second = first

pub first_is_first : (rule : PageRule) (key : List ℕ) → wants rule key ≡ true → IsUpTo (first_key rule) key
first_is_first rule key wanted =
    let is : IsWanted rule key = wanted_is rule key wanted in
    let front : IsUpTo rule.prefix key = begin_upto rule.prefix key is.begins in
    let by_key : IsUpTo (start_of rule.prefix rule.key_after) key =
    start_upto rule.prefix key rule.key_after front (λ start. behind_start rule.key_after key start (is_some rule.id_after) is.behind_key) in
    let by_name : IsUpTo (start_of rule.prefix rule.name_after) key =
    start_upto rule.prefix key rule.name_after front
    (λ start. behind_row rule.name_after (row_name rule key) key start is.behind_name (row_upto rule key is.begins)) in
    later_upto (start_of rule.prefix rule.key_after) (start_of rule.prefix rule.name_after) key
    (is_before (start_of rule.prefix rule.key_after) (start_of rule.prefix rule.name_after)) by_key by_name

-- the first key begins with the prefix
begins_itself : (text : List ℕ) → begins_with text text ≡ true
begins_itself text = begins_by text text [] (sym (append-nil text))

range_by : (prefix start : List ℕ) (test : Bool) → begins_with prefix start ≡ test → begins_with prefix (if test then start else prefix) ≡ true
range_by prefix start true is = is
range_by prefix start false is = begins_itself prefix

start_in_range : (prefix : List ℕ) (start : Option (List ℕ)) → begins_with prefix (start_of prefix start) ≡ true
start_in_range prefix None = begins_itself prefix
start_in_range prefix (Some start) = range_by prefix start (begins_with prefix start) refl

later_in_range : (prefix a b : List ℕ) (test : Bool) → begins_with prefix a ≡ true → begins_with prefix b ≡ true
    → begins_with prefix (if test then b else a) ≡ true
later_in_range prefix a b true first second = second
later_in_range prefix a b false first second = first

pub first_in_range : (rule : PageRule) → begins_with rule.prefix (first_key rule) ≡ true
first_in_range rule = later_in_range rule.prefix (start_of rule.prefix rule.key_after) (start_of rule.prefix rule.name_after)
    (is_before (start_of rule.prefix rule.key_after) (start_of rule.prefix rule.name_after))
    (start_in_range rule.prefix rule.key_after) (start_in_range rule.prefix rule.name_after)
