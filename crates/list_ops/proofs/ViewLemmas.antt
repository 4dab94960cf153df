-- What a look at a key adds to what is known, and what is behind it.
use Rattle.std.proofs.Common.{◌≡◌, ◌⊎◌, ◌∙◌, ℕ, ◌<◌, ◌≤◌, Bool, true, false, List, [], ◌∷◌, ◌++◌, All, Contains, Option, Some, None, append_assoc, drop, length, map, take, inl, inr, refl, sym, ap, subst}
use Rattle.std.specs.Prelude.{if◌then◌else◌}
use Rattle.std.specs.List.Sorted.{IsStrictlySortedBy}
use Rattle.std.proofs.lemmas.Grind.{fold-append}
use Rattle.std.proofs.lemmas.List.{map-append, take-append-drop, take-take, take_all, take_at}
use Rattle.std.proofs.lemmas.List.Elements.{All-from_recursion, All-head, All-push, All-tail, All-weaker, Contains-append_left, Contains-push, recursion_from_All}
use Rattle.std.specs.declared.cmp.Ordering.TheVariants.{Less}
use Rattle.call_types.specs.declared.reply.VersionRow.{VersionRow}
use Rattle.desk_base.specs.Calls.{IsKey}
use Rattle.drive_base.specs.Names.{IsBefore, byte_order}
use Rattle.version_list.specs.Spelling.{spelling}
use Rattle.receipts.specs.Events.{Section}
use Rattle.receipts.specs.Listing.{IsDue, KeyIsAskedFor, KeysAreListed, ViewsKey, key_in, key_order}
use Rattle.receipts.specs.Looks.{LooksAt}
use Rattle.receipts.specs.Pages.{Candidate, PageRule, candidate_rows, group_in, is_before, is_behind, page_of, rows_of, with_candidate}
use Rattle.receipts.specs.Paging.{DoesNothing}
use Rattle.receipts.specs.Registers.{key_slot}
use Rattle.receipts.proofs.OrderLemmas.{before_is_upto, never_itself, upto_before, upto_itself}
use Rattle.receipts.proofs.RegisterLemmas.{key_slot_below}
use Rattle.list_ops.specs.Names.{key_of}
use Rattle.list_ops.specs.Rounds.{HasAsked, HasRows, IsAtKey, IsGiven, IsInRound, IsListed, IsPending, IsSettled, name_for}
use Rattle.list_ops.specs.Sheets.{Sheet, is_within, with_rows}
use Rattle.list_page.specs.Laws.{PageOnTime}
use Rattle.list_ops.proofs.KeyLemmas.{asked_still, first_or_rest, given_still, key_back, name_order, pending_still}
use Rattle.list_ops.proofs.TextLemmas.{before_is, same_names, sorted_tail, upto_is, upto_of}

-- candidates go on to rise
rises_push : (looked : List Candidate) (candidate : Candidate) → IsStrictlySortedBy key_order looked
    → All (λ (other : Candidate). IsBefore other.key candidate.key) looked → IsStrictlySortedBy key_order (looked ++ candidate ∷ [])
unfolding IsStrictlySortedBy
rises_push [] candidate rising before = (tt, tt)
rises_push (first ∷ looked) candidate rising before = (
  recursion_from_All (λ other. key_order first other ≡ Less) (looked ++ candidate ∷ [])
      (All-push (λ other. key_order first other ≡ Less) looked candidate (All-from_recursion (λ other. key_order first other ≡ Less) looked rising.0)
      (All-head (λ (other : Candidate). IsBefore other.key candidate.key) first looked before)),
  rises_push looked candidate rising.1 (All-tail (λ (other : Candidate). IsBefore other.key candidate.key) first looked before),
)

-- a name that isn't behind one stands before what is behind that
upto_then_before : (earlier : Option (List ℕ)) (a b : List ℕ) → is_behind earlier a ≡ false → is_behind earlier b ≡ true → IsBefore a b
upto_then_before None a b upto before = absurd (let turned : true ≡ false = upto in cc)
upto_then_before (Some earlier) a b upto before = upto_before a earlier b (upto_is a earlier upto) (before_is earlier b before)

-- rows stay those of the keys that were looked at
pub rows_still : (rule : PageRule) (bucket : List ℕ) (rows : List VersionRow) (last : Option (List ℕ)) (looked : List Candidate) (sections : List Section)
    (section : Section) → HasRows rule bucket rows last looked sections → HasRows rule bucket rows last looked (sections ++ section ∷ [])
rows_still rule bucket rows last looked sections section has = record {
  some = has.some;
  few = has.few;
  rising = has.rising;
  viewed = All-weaker (λ candidate. (look : Section) × Contains sections look × ViewsKey bucket candidate look)
      (λ candidate. (look : Section) × Contains (sections ++ section ∷ []) look × ViewsKey bucket candidate look)
      (λ candidate was. (was.0, Contains-append_left sections (section ∷ []) was.0 was.1, was.2)) looked has.viewed;
  rows_are = has.rows_are;
  upto_last = has.upto_last;
}

-- the look at the key of the last name
module _ (rule : PageRule) (bucket : List ℕ) (sheet : Sheet) (candidate : Candidate) (sections : List Section) (section : Section)
    (at : IsAtKey rule bucket sheet candidate.key sections) (views : ViewsKey bucket candidate section) where
  abbrev looked : List Candidate
  looked = at.looked ++ candidate ∷ []

  abbrev more : List Section
  more = sections ++ section ∷ []

  abbrev rows : List VersionRow
  rows = with_candidate rule sheet.rows candidate

  abbrev name : List ℕ
  name = name_for bucket candidate.key

  looked_grows : (other : Candidate) → Contains at.looked other → Contains looked other
  looked_grows other there = Contains-append_left at.looked (candidate ∷ []) other there

  -- the candidates after it
  keys_before : All (λ (other : Candidate). IsBefore other.key candidate.key) at.looked
  keys_before = All-weaker (λ (other : Candidate). is_behind at.earlier (name_for bucket other.key) ≡ false)
      (λ (other : Candidate). IsBefore other.key candidate.key)
      (λ other upto. sym (name_order bucket other.key candidate.key) ∙ upto_then_before at.earlier (name_for bucket other.key) name upto at.behind)
      at.looked at.rows.upto_last

  pub rising_after : IsStrictlySortedBy key_order looked
  rising_after = rises_push at.looked candidate at.rows.rising keys_before

  viewed_old : All (λ other. (look : Section) × Contains more look × ViewsKey bucket other look) at.looked
  viewed_old = All-weaker (λ other. (look : Section) × Contains sections look × ViewsKey bucket other look)
      (λ other. (look : Section) × Contains more look × ViewsKey bucket other look)
      (λ other was. (was.0, Contains-append_left sections (section ∷ []) was.0 was.1, was.2)) at.looked at.rows.viewed

  pub viewed_after : All (λ other. (look : Section) × Contains more look × ViewsKey bucket other look) looked
  viewed_after = All-push (λ other. (look : Section) × Contains more look × ViewsKey bucket other look) at.looked candidate viewed_old
      (section, Contains-push sections section, views)

  pub rows_after : rows ≡ rows_of rule looked
  rows_after = ap (λ r. with_candidate rule r candidate) at.rows.rows_are ∙ sym (fold-append (with_candidate rule) [] at.looked (candidate ∷ []))

  upto_name : All (λ (other : Candidate). is_behind (Some name) (name_for bucket other.key) ≡ false) looked
  upto_name = All-push (λ (other : Candidate). is_behind (Some name) (name_for bucket other.key) ≡ false) at.looked candidate
      (All-weaker (λ (other : Candidate). is_behind at.earlier (name_for bucket other.key) ≡ false)
      (λ (other : Candidate). is_behind (Some name) (name_for bucket other.key) ≡ false)
      (λ other upto. upto_of (name_for bucket other.key) name (before_is_upto (name_for bucket other.key) name
      (upto_then_before at.earlier (name_for bucket other.key) name upto at.behind))) at.looked at.rows.upto_last)
      (upto_of name name (upto_itself name))

  pub rows_viewed : length rows ≤ rule.most → HasRows rule bucket rows (Some name) looked more
  rows_viewed few = record {
    some = at.rows.some;
    few = few;
    rising = rising_after;
    viewed = viewed_after;
    rows_are = rows_after;
    upto_last = upto_name;
  }

  -- what was done with stays so
  settled_after : (key : List ℕ) → IsSettled rule bucket key sheet.rows at.looked sections → IsSettled rule bucket key rows looked more
  settled_after key (inl asked) = inl (asked_still bucket key at.looked looked sections section looked_grows asked)
  settled_after key (inr given) = inr (given_still rule bucket sheet.rows candidate key given)

  -- and the key itself is
  pending_viewed : (key : List ℕ) (left : List (List ℕ)) → candidate.key ≡ key → IsPending bucket key left sections → KeyIsAskedFor bucket key looked more
  pending_viewed key left same pending = record {
    asked = record {
      page = pending.page;
      before = pending.before;
      asked = pending.asked;
      after = pending.after ++ section ∷ [];
      parts = ap (λ l. l ++ section ∷ []) pending.parts ∙ append_assoc pending.before (pending.asked ∷ pending.after) (section ∷ []);
      asks = pending.asks;
      looks = λ shown. (
        spelling candidate.state,
        section,
        Contains-push pending.after section,
        subst (λ k. LooksAt (key_slot (key_in bucket k)) (name_for bucket k) (spelling candidate.state) section) same views.looks,
      );
    };
    given = λ shown. (candidate, same, Contains-push at.looked candidate, views);
  }

  own_after : (key : List ℕ) → IsListed rule bucket key → candidate.key ≡ key
      → KeyIsAskedFor bucket key looked more ⊎ IsSettled rule bucket key sheet.rows at.looked sections
  own_after key listed same = elim (at.asked.known key listed (key_slot_below (key_in bucket key))
      (subst (λ k. is_within sheet.bound (name_for bucket k) ≡ true) same at.within)) [
        | inl settled ↦ inr settled
        | inr pending ↦ inl (pending_viewed key (name ∷ sheet.left) same pending)
      ]

  -- a key up to this one was asked for, or it was done with before
  same_key : (key : List ℕ) → is_before (name_for bucket key) name ≡ false → is_before name (name_for bucket key) ≡ false → candidate.key ≡ key
  same_key key behind upto =
      let same : name ≡ name_for bucket key = same_names name (name_for bucket key) upto behind in
      sym (key_back bucket candidate.key) ∙ (ap (key_of bucket) same ∙ key_back bucket key)

  upto_by : (key : List ℕ) (b : Bool) → is_before (name_for bucket key) name ≡ b → IsListed rule bucket key → is_before name (name_for bucket key) ≡ false
      → KeyIsAskedFor bucket key looked more ⊎ IsSettled rule bucket key sheet.rows at.looked sections
  upto_by key true before listed upto = inr (at.before key listed before)
  upto_by key false before listed upto = own_after key listed (same_key key before upto)

  pub upto_after : (key : List ℕ) → IsListed rule bucket key → is_before name (name_for bucket key) ≡ false
      → KeyIsAskedFor bucket key looked more ⊎ IsSettled rule bucket key sheet.rows at.looked sections
  upto_after key = upto_by key (is_before (name_for bucket key) name) refl

  settled_upto : (key : List ℕ) → IsListed rule bucket key → is_before name (name_for bucket key) ≡ false → IsSettled rule bucket key rows looked more
  settled_upto key listed upto = elim (upto_after key listed upto) [
    | inl asked ↦ inl asked
    | inr settled ↦ settled_after key settled
  ]

  known_by : (key : List ℕ) (b : Bool) → is_before name (name_for bucket key) ≡ b → IsListed rule bucket key
      → is_within sheet.bound (name_for bucket key) ≡ true → IsSettled rule bucket key rows looked more ⊎ IsPending bucket key sheet.left more
  known_by key false upto listed within = inl (settled_upto key listed upto)
  known_by key true behind listed within = elim (at.asked.known key listed (key_slot_below (key_in bucket key)) within) [
    | inl settled ↦ inl (settled_after key settled)
    | inr pending ↦ inr (pending_still bucket key (name ∷ sheet.left) sheet.left sections section (λ there.
        elim (first_or_rest name sheet.left (name_for bucket key) there) [
          | inl same ↦ absurd (never_itself name (subst (λ n. IsBefore name n) (sym same) (before_is name (name_for bucket key) behind)))
          | inr rest ↦ rest
        ]) pending)
  ]

  pub asked_viewed : HasAsked rule bucket (record (with_rows rule bucket sheet candidate) { last = Some name }) 64 looked more
  asked_viewed = record {
    some = at.asked.some;
    begins = at.asked.begins;
    bound_begins = at.asked.bound_begins;
    names = All-tail (λ n. n ≡ name_for bucket (key_of bucket n)) name sheet.left at.asked.names;
    done = λ key listed first. elim first [
      | inl before ↦ settled_after key (at.asked.done key listed (inl before))
      | inr upto ↦ settled_upto key listed upto
    ];
    known = λ key listed below within. known_by key (is_before name (name_for bucket key)) refl listed within;
  }

  pub in_round : length rows ≤ rule.most → IsInRound rule bucket (with_rows rule bucket sheet candidate) more
  in_round few = record {
    looked = looked;
    rows = subst (λ l. HasRows rule bucket rows l looked more) (sym at.last_is) (rows_viewed few);
    asked = subst (λ l. HasAsked rule bucket (record (with_rows rule bucket sheet candidate) { last = l }) 64 looked more) (sym at.last_is) asked_viewed;
    sorted = sorted_tail name sheet.left at.sorted;
  }

  -- rows that were there before are given
  taken_if : (b : Bool) (rest : List VersionRow) (group : List ℕ) → Contains (map group_in sheet.rows) (Some group)
      → Contains (map group_in (take rule.most (if b then sheet.rows ++ rest else sheet.rows))) (Some group)
  taken_if false rest group there = subst (λ l. Contains (map group_in l) (Some group)) (sym (take_all rule.most sheet.rows at.rows.few)) there
  taken_if true rest group there =
      let long = length sheet.rows in
      let given = take rule.most (sheet.rows ++ rest) in
      let front_is : take long given ≡ sheet.rows = take-take long rule.most (sheet.rows ++ rest) at.rows.few ∙ take_at sheet.rows rest long refl in
      let all_is : map group_in (take long given) ++ map group_in (drop long given) ≡ map group_in given =
      sym (map-append group_in (take long given) (drop long given)) ∙ ap (map group_in) (take-append-drop long given) in
      subst (λ l. Contains l (Some group)) all_is (Contains-append_left (map group_in (take long given)) (map group_in (drop long given)) (Some group)
      (subst (λ l. Contains (map group_in l) (Some group)) (sym front_is) there))

  given_never : (key : List ℕ) → IsGiven rule bucket sheet.rows key → IsDue rule rows key → ⊥
  given_never key given due = due.ungrouped given.group given.group_is (taken_if _ (candidate_rows rule candidate) given.group given.given)

  -- so where there is a row more than is given, the page is owed
  settled_due : (key : List ℕ) → KeyIsAskedFor bucket key looked more ⊎ IsSettled rule bucket key sheet.rows at.looked sections → IsDue rule rows key
      → KeyIsAskedFor bucket key looked more
  settled_due key (inl asked) due = asked
  settled_due key (inr (inl asked)) due = asked_still bucket key at.looked looked sections section looked_grows asked
  settled_due key (inr (inr given)) due = absurd (given_never key given due)

  due_by : PageOnTime → rule.most < length rows → (key : List ℕ) (b : Bool) → is_before name (name_for bucket key) ≡ b → IsKey (key_in bucket key)
      → IsDue rule (rows_of rule looked) key → KeyIsAskedFor bucket key looked more
  due_by on_time many key false upto lawful due = settled_due key (upto_after key (record { lawful = lawful; wanted = due.wanted }) upto)
      (subst (λ r. IsDue rule r key) (sym rows_after) due)
  due_by on_time many key true behind lawful due = absurd (on_time rule looked key at.rows.some (subst (λ r. rule.most < length r) rows_after many)
      (All-weaker (λ (other : Candidate). is_behind (Some name) (name_for bucket other.key) ≡ false) (λ (other : Candidate). byte_order other.key key ≡ Less)
      (λ other upto. sym (name_order bucket other.key key) ∙ upto_before (name_for bucket other.key) name (name_for bucket key)
      (upto_is (name_for bucket other.key) name upto) (before_is name (name_for bucket key) behind)) looked upto_name) due)

  pub page_cut : PageOnTime → rule.most < length rows → All DoesNothing more → KeysAreListed rule bucket (page_of rule rows) more
  page_cut on_time many idle = record {
    looked = looked;
    rising = rising_after;
    viewed = viewed_after;
    told = ap (page_of rule) rows_after;
    due = λ some key lawful due. due_by on_time many key (is_before name (name_for bucket key)) refl lawful due;
    idle = idle;
  }
