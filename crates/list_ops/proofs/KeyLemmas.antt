-- The names of keys' registers, and keys that are done with.
use Rattle.std.proofs.Common.{◌≡◌, ◌⊎◌, ◌∙◌, ℕ, Bool, true, false, List, [], ◌∷◌, ◌++◌, All, Contains, Option, Some, None, append_assoc, drop, length, map, inl, inr, refl, sym, ap, subst, arith}
use Rattle.std.specs.Prelude.{◌+◌, ◌&&◌, ◌==◌, nat_lt, nat_le, codes, filter, if◌then◌else◌}
use Rattle.std.specs.List.{last_or}
use Rattle.std.proofs.lemmas.Bool.{eq-eqb, lt-ltb, le-leb}
use Rattle.std.proofs.lemmas.List.{drop_at, length-append, map-append}
use Rattle.std.proofs.lemmas.List.Elements.{All-weaker, Contains-append_cases, Contains-append_left, Contains-append_right, Contains-push_cases, filter_passes}
use Rattle.std.proofs.lemmas.Slice.Eq.{bytes_eq-Decides}
use Rattle.call_types.specs.declared.reply.VersionRow.{VersionRow}
use Rattle.desk_base.specs.Calls.{longest_key}
use Rattle.drive_base.specs.Names.{byte_order}
use Rattle.stamp_id.proofs.IdTests.{both_true}
use Rattle.receipts.specs.Events.{Section}
use Rattle.receipts.specs.Listing.{KeyIsAskedFor, key_in}
use Rattle.receipts.specs.Pages.{Candidate, PageRule, are_same, begins_with, candidate_rows, group_in, group_of, group_of_last, is_in_last, wants, with_candidate}
use Rattle.receipts.specs.Registers.{key_slot}
use Rattle.list_ops.specs.Rounds.{IsGiven, IsListed, IsPending, IsSettled, name_for}
use Rattle.list_ops.specs.Names.{front, is_name, key_of}
use Rattle.list_ops.specs.Sheets.{is_found, range}
use Rattle.list_ops.proofs.TextLemmas.{begins_is, begins_of, front_order}

-- a name is the front of the bucket's keys and the key
pub name_front : (bucket key : List ℕ) → name_for bucket key ≡ front bucket ++ key
name_front bucket key =
    sym (append_assoc (codes "k/") (bucket ++ 47 ∷ []) key ∙ ap (λ l. codes "k/" ++ l) (append_assoc bucket (47 ∷ []) key))

pub key_back : (bucket key : List ℕ) → key_of bucket (name_for bucket key) ≡ key
key_back bucket key = ap (drop (length (front bucket))) (name_front bucket key) ∙ drop_at (front bucket) key (length (front bucket)) refl

-- a name that begins with that front is the name of its key
pub name_back : (bucket name : List ℕ) → begins_with (front bucket) name ≡ true → name ≡ name_for bucket (key_of bucket name)
name_back bucket name begins = begins_is (front bucket) name begins ∙ sym (name_front bucket (key_of bucket name))

-- keys stand as their names do
pub name_order : (bucket a b : List ℕ) → byte_order (name_for bucket a) (name_for bucket b) ≡ byte_order a b
name_order bucket a b = front_order (codes "k/") (bucket ++ 47 ∷ a) (bucket ++ 47 ∷ b) ∙ (front_order bucket (47 ∷ a) (47 ∷ b) ∙ front_order (47 ∷ []) a b)

-- the name of a key that isn't left out is in the range
pub has_prefix : (rule : PageRule) (key : List ℕ) → wants rule key ≡ true → begins_with rule.prefix key ≡ true
has_prefix rule key wanted = (both_true _ _ (both_true _ _ (both_true _ _ wanted).0).0).0

pub name_range : (rule : PageRule) (bucket key : List ℕ) → wants rule key ≡ true → name_for bucket key ≡ range rule bucket ++ drop (length rule.prefix) key
name_range rule bucket key wanted =
    let rest = drop (length rule.prefix) key in
    name_front bucket key ∙ (ap (λ l. front bucket ++ l) (begins_is rule.prefix key (has_prefix rule key wanted))
    ∙ sym (append_assoc (front bucket) rule.prefix rest))

-- a wanted key's name is kept
and_true : (a b : Bool) → a ≡ true → b ≡ true → (a && b) ≡ true
and_true a b first second = ap (λ x. x && b) first ∙ second

pub name_is_name : (rule : PageRule) (bucket key : List ℕ) → IsListed rule bucket key → is_name bucket (name_for bucket key) ≡ true
name_is_name rule bucket key listed =
    let own = front bucket in
    let name = name_for bucket key in
    let is : name ≡ own ++ key = name_front bucket key in
    let long : length name ≡ length own + length key = ap length is ∙ length-append own key in
    let some = listed.lawful.some in
    let begins : begins_with own name ≡ true = subst (λ n. begins_with own n ≡ true) (sym is) (begins_of own key) in
    let longer : nat_lt (length own) (length name) ≡ true = lt-ltb (length own) (length name) (omega (arith, long, some)) in
    let few : nat_le (length (key_of bucket name)) longest_key ≡ true = subst (λ k. nat_le (length k) longest_key ≡ true) (sym (key_back bucket key))
    (le-leb (length key) longest_key listed.lawful.few) in
    and_true _ _ begins (and_true _ _ longer few)

pub name_found : (rule : PageRule) (bucket key : List ℕ) (slot : ℕ) → IsListed rule bucket key → key_slot (key_in bucket key) ≡ slot
    → is_found rule bucket slot (name_for bucket key) ≡ true
name_found rule bucket key slot listed slot_is =
    let name = name_for bucket key in
    let back : key_of bucket name ≡ key = key_back bucket key in
    let at : (key_slot (key_in bucket (key_of bucket name)) == slot) ≡ true = subst (λ k. (key_slot (key_in bucket k) == slot) ≡ true) (sym back)
    (eq-eqb (key_slot (key_in bucket key)) slot slot_is) in
    let wanted : wants rule (key_of bucket name) ≡ true = subst (λ k. wants rule k ≡ true) (sym back) listed.wanted in
    and_true _ _ (name_is_name rule bucket key listed) (and_true _ _ at wanted)

found_begins : (rule : PageRule) (bucket : List ℕ) (slot : ℕ) (name : List ℕ) → is_found rule bucket slot name ≡ true → begins_with (front bucket) name ≡ true
found_begins rule bucket slot name found = (both_true _ _ (both_true _ _ found).0).0

-- the names that are kept are names of keys
pub found_named : (rule : PageRule) (bucket : List ℕ) (slot : ℕ) (names : List (List ℕ))
    → All (λ name. name ≡ name_for bucket (key_of bucket name)) (filter (is_found rule bucket slot) names)
found_named rule bucket slot names = All-weaker (λ name. is_found rule bucket slot name ≡ true) (λ name. name ≡ name_for bucket (key_of bucket name))
    (λ name found. name_back bucket name (found_begins rule bucket slot name found)) (filter (is_found rule bucket slot) names) (filter_passes (is_found rule bucket slot) names)

-- a list with an element that passes a test has it behind the test
pub none_there : {X : Type 0} (x : X) → Contains [] x → ⊥
none_there x there = let below = there.1 in omega (arith, below)

pub first_or_rest : {X : Type 0} (y : X) (ys : List X) (x : X) → Contains (y ∷ ys) x → (y ≡ x) ⊎ Contains ys x
first_or_rest y ys x there = elim (Contains-append_cases (y ∷ []) ys x there) [
  | inl first ↦ elim (Contains-push_cases [] y x first) [
    | inl none ↦ absurd (none_there x none)
    | inr is ↦ inl is
  ]
  | inr rest ↦ inr rest
]

pub at_first : {X : Type 0} (y : X) (ys : List X) → Contains (y ∷ ys) y
at_first y ys = (0, omega arith, refl)

keeps_by : {X : Type 0} (b : Bool) (y : X) (ys : List X) (x : X) → b ≡ true → y ≡ x → Contains (if b then y ∷ ys else ys) x
keeps_by false y ys x is same = absurd (let turned : false ≡ true = is in cc)
keeps_by true y ys x is same = (0, omega arith, same)

keeps_rest : {X : Type 0} (b : Bool) (y : X) (ys : List X) (x : X) → Contains ys x → Contains (if b then y ∷ ys else ys) x
keeps_rest false y ys x there = there
keeps_rest true y ys x there = Contains-append_right (y ∷ []) ys x there

pub in_filter : {X : Type 0} (test : X → Bool) (xs : List X) (x : X) → Contains xs x → test x ≡ true → Contains (filter test xs) x
in_filter test [] x there passes = absurd (none_there x there)
in_filter test (y ∷ ys) x there passes = elim (first_or_rest y ys x there) [
  | inl is ↦ keeps_by (test y) y (filter test ys) x (subst (λ z. test z ≡ true) (sym is) passes) is
  | inr rest ↦ keeps_rest (test y) y (filter test ys) x (in_filter test ys x rest passes)
]

-- a key in the group of the last row is in a group that is a row
pub record IsSame (a b : Option (List ℕ)) : Type 0 where
  pub text : List ℕ
  pub first : a ≡ Some text
  pub second : b ≡ Some text

same_is : (a b : Option (List ℕ)) → are_same a b ≡ true → IsSame a b
same_is None b is = absurd (let turned : false ≡ true = is in cc)
same_is (Some text) None is = absurd (let turned : false ≡ true = is in cc)
same_is (Some text) (Some other) is = record { text = text; first = refl; second = ap (λ t. Some t) (sym ((bytes_eq-Decides text other).0 is)) }

last_group : (before : Option VersionRow) (rows : List VersionRow) (group : List ℕ) → group_of_last (last_or before rows) ≡ Some group
    → (group_of_last before ≡ Some group) ⊎ Contains (map group_in rows) (Some group)
last_group before [] group is = inl is
last_group before (row ∷ rows) group is = elim (last_group (Some row) rows group is) [
  | inl own ↦ inr (0, omega arith, own)
  | inr there ↦ inr (Contains-append_right (group_in row ∷ []) (map group_in rows) (Some group) there)
]

pub in_last_given : (rule : PageRule) (bucket : List ℕ) (rows : List VersionRow) (key : List ℕ) → is_in_last rule rows key ≡ true → IsGiven rule bucket rows key
in_last_given rule bucket rows key is =
    let same = same_is (group_of_last (last_or None rows)) (group_of rule key) is in record {
      group = same.text;
      group_is = same.second;
      given = elim (last_group None rows same.text same.first) [
        | inl none ↦ absurd (let turned : None ≡ Some same.text = none in cc)
        | inr there ↦ there
      ];
    }

-- a group that is a row stays one
pub given_more : (rule : PageRule) (bucket : List ℕ) (rows more : List VersionRow) (key : List ℕ) → IsGiven rule bucket rows key
    → IsGiven rule bucket (rows ++ more) key
given_more rule bucket rows more key given = record {
  group = given.group;
  group_is = given.group_is;
  given = subst (λ l. Contains l (Some given.group)) (sym (map-append group_in rows more))
      (Contains-append_left (map group_in rows) (map group_in more) (Some given.group) given.given);
}

given_if : (rule : PageRule) (bucket : List ℕ) (b : Bool) (rows more : List VersionRow) (key : List ℕ) → IsGiven rule bucket rows key
    → IsGiven rule bucket (if b then rows ++ more else rows) key
given_if rule bucket false rows more key given = given
given_if rule bucket true rows more key given = given_more rule bucket rows more key given

pub given_still : (rule : PageRule) (bucket : List ℕ) (rows : List VersionRow) (candidate : Candidate) (key : List ℕ) → IsGiven rule bucket rows key
    → IsGiven rule bucket (with_candidate rule rows candidate) key
given_still rule bucket rows candidate key given = given_if rule bucket _ rows (candidate_rows rule candidate) key given

-- a key that was asked for stays so
pub asked_still : (bucket key : List ℕ) (looked later : List Candidate) (sections : List Section) (section : Section)
    → ((candidate : Candidate) → Contains looked candidate → Contains later candidate)
    → KeyIsAskedFor bucket key looked sections → KeyIsAskedFor bucket key later (sections ++ section ∷ [])
asked_still bucket key looked later sections section grows was = record {
  asked = record {
    page = was.asked.page;
    before = was.asked.before;
    asked = was.asked.asked;
    after = was.asked.after ++ section ∷ [];
    parts = ap (λ l. l ++ section ∷ []) was.asked.parts ∙ append_assoc was.asked.before (was.asked.asked ∷ was.asked.after) (section ∷ []);
    asks = was.asked.asks;
    looks = λ shown. let look = was.asked.looks shown in
        (look.0, look.1, Contains-append_left was.asked.after (section ∷ []) look.1 look.2, look.3);
  };
  given = λ shown. let one = was.given shown in (one.0, one.1, grows one.0 one.2, one.3);
}

pub pending_still : (bucket key : List ℕ) (left later : List (List ℕ)) (sections : List Section) (section : Section)
    → (Contains left (name_for bucket key) → Contains later (name_for bucket key))
    → IsPending bucket key left sections → IsPending bucket key later (sections ++ section ∷ [])
pending_still bucket key left later sections section keeps pending = record {
  page = pending.page;
  before = pending.before;
  asked = pending.asked;
  after = pending.after ++ section ∷ [];
  parts = ap (λ l. l ++ section ∷ []) pending.parts ∙ append_assoc pending.before (pending.asked ∷ pending.after) (section ∷ []);
  asks = pending.asks;
  is_left = λ shown. keeps (pending.is_left shown);
}

pub pending_with : (bucket key : List ℕ) (left later : List (List ℕ)) (sections : List Section)
    → (Contains left (name_for bucket key) → Contains later (name_for bucket key)) → IsPending bucket key left sections → IsPending bucket key later sections
pending_with bucket key left later sections keeps pending = record {
  page = pending.page;
  before = pending.before;
  asked = pending.asked;
  after = pending.after;
  parts = pending.parts;
  asks = pending.asks;
  is_left = λ shown. keeps (pending.is_left shown);
}

-- a name that was asked for and isn't left wasn't shown
pub pending_asked : (bucket key : List ℕ) (left : List (List ℕ)) (looked : List Candidate) (sections : List Section)
    → (Contains left (name_for bucket key) → ⊥) → IsPending bucket key left sections → KeyIsAskedFor bucket key looked sections
pending_asked bucket key left looked sections none pending = record {
  asked = record {
    page = pending.page;
    before = pending.before;
    asked = pending.asked;
    after = pending.after;
    parts = pending.parts;
    asks = pending.asks;
    looks = λ shown. absurd (none (pending.is_left shown));
  };
  given = λ shown. absurd (none (pending.is_left shown));
}

pub settled_still : (rule : PageRule) (bucket key : List ℕ) (rows : List VersionRow) (looked : List Candidate) (sections : List Section) (section : Section)
    → IsSettled rule bucket key rows looked sections → IsSettled rule bucket key rows looked (sections ++ section ∷ [])
settled_still rule bucket key rows looked sections section (inl asked) =
    inl (asked_still bucket key looked looked sections section (λ candidate there. there) asked)
settled_still rule bucket key rows looked sections section (inr given) = inr given
