-- What comes next in a round, and what is known then.
use Rattle.std.proofs.Common.{◌≡◌, ◌∙◌, ℕ, ◌+◌, ◌<◌, true, false, List, [], ◌∷◌, ◌++◌, All, Contains, Option, Some, None, append_assoc, drop, length, map, inl, inr, refl, sym, ap, subst, arith}
use Rattle.std.specs.List.Sorted.{IsSorted, IsStrictlySortedBy}
use Rattle.std.proofs.lemmas.List.{take_all}
use Rattle.std.proofs.lemmas.List.Elements.{All-head, All-nil}
use Rattle.drive_base.specs.Names.{IsBefore, IsPage, byte_order}
use Rattle.drive_base.specs.declared.drive.TheConstants.{LONGEST_NAME}
use Rattle.receipts.specs.Events.{Section}
use Rattle.receipts.specs.Listing.{IsDue, KeyIsAskedFor, KeysAreListed, ViewsKey, key_order}
use Rattle.receipts.specs.Pages.{Candidate, PageRule, begins_with, group_in, is_before, is_behind, page_of}
use Rattle.receipts.specs.Paging.{DoesNothing, ListsPage}
use Rattle.receipts.proofs.OrderLemmas.{before_is_upto, upto_trans}
use Rattle.list_ops.specs.Names.{front, key_of}
use Rattle.list_ops.specs.Rounds.{HasAsked, HasRows, IsAtKey, IsAtSlot, IsInRound, IsListed, IsSettled, name_for}
use Rattle.list_ops.specs.Sheets.{EndsRound, GoesToView, Sheet, Sorts, first_sheet, is_within, next_round, range, with_names}
use Rattle.list_page.specs.Laws.{FirstIsFirst, FirstIsInRange}
use Rattle.list_page.specs.Starting.{first_key}
use Rattle.list_ops.specs.declared.page_state.Wanted.{Wanted}
use Rattle.list_ops.proofs.AskLemmas.{names_asked, next_asked, pass_asked, pass_before, round_over, slot_asked, sorted_asked}
use Rattle.list_ops.proofs.BoundLemmas.{within_is, within_of}
use Rattle.list_ops.proofs.KeyLemmas.{name_front}
use Rattle.list_ops.proofs.TextLemmas.{before_is, begins_is, begins_of, front_order, sorted_rest, upto_is, upto_of}
use Rattle.list_ops.proofs.ViewLemmas.{rows_still}

-- a listing that begins
no_key_rises : IsStrictlySortedBy key_order []
unfolding IsStrictlySortedBy
no_key_rises = tt

pub begins_at_slot : FirstIsFirst → FirstIsInRange → (rule : PageRule) (bucket : List ℕ) → 0 < rule.most → IsAtSlot rule bucket (first_sheet rule bucket) []
begins_at_slot first in_range rule bucket some = record {
  looked = [];
  rows = record {
    some = some;
    few = omega arith;
    rising = no_key_rises;
    viewed = All-nil (λ candidate. (look : Section) × Contains [] look × ViewsKey bucket candidate look);
    rows_are = refl;
    upto_last = All-nil (λ (candidate : Candidate). is_behind None (name_for bucket candidate.key) ≡ false);
  };
  asked = record {
    some = omega arith;
    begins =
        let start = first_key rule in
        let rest = drop (length rule.prefix) start in
        let text_is : front bucket ++ start ≡ range rule bucket ++ rest = ap (λ l. front bucket ++ l) (begins_is rule.prefix start (in_range rule))
        ∙ sym (append_assoc (front bucket) rule.prefix rest) in
        subst (λ n. begins_with (range rule bucket) n ≡ true) (sym text_is) (begins_of (range rule bucket) rest);
    bound_begins = λ name same. absurd (let turned : None ≡ Some name = same in cc);
    names = All-nil (λ name. name ≡ name_for bucket (key_of bucket name));
    done = λ key listed done. elim done [
      | inl before ↦ absurd (first rule key listed.wanted (sym (front_order (front bucket) key (first_key rule))
          ∙ subst (λ n. IsBefore n (front bucket ++ first_key rule)) (name_front bucket key)
          (before_is (name_for bucket key) (front bucket ++ first_key rule) before)))
      | inr behind ↦ absurd (let turned : true ≡ false = behind in cc)
    ];
    known = λ key listed below within. absurd (omega (arith, below));
  };
}

-- a page of names
module _ (rule : PageRule) (bucket : List ℕ) (sheet : Sheet) (sections : List Section) (section : Section) (names : List (List ℕ))
    (at : IsAtSlot rule bucket sheet sections) (lists : ListsPage sheet.slot (record { from = sheet.from; most = sheet.most; names = names }) section)
    (page : IsPage sheet.from sheet.most LONGEST_NAME names) where
  abbrev after : HasAsked rule bucket (with_names rule bucket sheet names) (sheet.slot + 1) at.looked (sections ++ section ∷ [])
  after = names_asked rule bucket sheet at.looked sections section names at.asked lists page

  pub at_next_slot : IsAtSlot rule bucket (record (with_names rule bucket sheet names) { slot = sheet.slot + 1 }) (sections ++ section ∷ [])
  at_next_slot = record {
    looked = at.looked;
    rows = rows_still rule bucket sheet.rows sheet.last at.looked sections section at.rows;
    asked = slot_asked rule bucket (with_names rule bucket sheet names) at.looked (sections ++ section ∷ []) (sheet.slot + 1) (sheet.slot + 1) after;
  }

  pub all_slots : (later : Sheet) → sheet.slot ≡ 63 → Sorts (with_names rule bucket sheet names) later → IsInRound rule bucket later (sections ++ section ∷ [])
  all_slots later last_slot sorts = record {
    looked = at.looked;
    rows = subst (λ (s : Sheet). HasRows rule bucket s.rows s.last at.looked (sections ++ section ∷ [])) (sym sorts.same)
        (rows_still rule bucket sheet.rows sheet.last at.looked sections section at.rows);
    asked = sorted_asked rule bucket (with_names rule bucket sheet names) at.looked (sections ++ section ∷ []) later 64 sorts
        (subst (λ n. HasAsked rule bucket (with_names rule bucket sheet names) n at.looked (sections ++ section ∷ [])) (omega (arith, last_slot)) after);
    sorted = sorts.sorted;
  }

-- what is before a name that is within a bound is within it
pub within_upto : (bound : Option (List ℕ)) (a b : List ℕ) → is_within bound b ≡ true → is_before a b ≡ true → is_within bound a ≡ true
within_upto None a b within before = refl
within_upto (Some bound) a b within before =
    within_of bound a (upto_of a bound (upto_trans a b bound (before_is_upto a b (before_is a b before)) (upto_is b bound (within_is bound b within))))

-- the names of a round
module _ (rule : PageRule) (bucket : List ℕ) (sheet : Sheet) (sections : List Section) (round : IsInRound rule bucket sheet sections) where
  -- the look that is next
  module _ (later : Sheet) (wanted : Wanted) (goes : GoesToView rule bucket sheet later wanted) where
    abbrev asked_rest : HasAsked rule bucket (record sheet { left = goes.name ∷ later.left }) 64 round.looked sections
    asked_rest = pass_asked rule bucket sheet round.looked sections goes.passed (goes.name ∷ later.left) round.asked goes.parts goes.are_passed

    abbrev own : List ℕ
    own = key_of bucket goes.name

    name_is : goes.name ≡ name_for bucket own
    name_is = All-head (λ n. n ≡ name_for bucket (key_of bucket n)) goes.name later.left asked_rest.names

    -- keys before it are done with
    settled_before : (key : List ℕ) → IsListed rule bucket key → is_before (name_for bucket key) goes.name ≡ true
        → IsSettled rule bucket key sheet.rows round.looked sections
    settled_before key listed before = pass_before rule bucket sheet round.looked sections goes.passed (goes.name ∷ later.left) round.asked goes.parts goes.are_passed
        goes.name later.left refl round.sorted key listed (within_upto sheet.bound (name_for bucket key) goes.name goes.within before) before

    sorted_left : IsSorted byte_order (goes.name ∷ later.left)
    sorted_left = sorted_rest goes.passed (goes.name ∷ later.left) (subst (λ l. IsSorted byte_order l) goes.parts round.sorted)

    pub at_key : IsAtKey rule bucket later own sections
    at_key = subst (λ s. IsAtKey rule bucket s own sections) (sym goes.same) (record {
      looked = round.looked;
      earlier = sheet.last;
      last_is = ap (λ n. Some n) name_is;
      behind = subst (λ n. is_behind sheet.last n ≡ true) name_is goes.behind;
      within = subst (λ n. is_within sheet.bound n ≡ true) name_is goes.within;
      rows = round.rows;
      asked = subst (λ n. HasAsked rule bucket (record sheet { left = n ∷ later.left }) 64 round.looked sections) name_is asked_rest;
      sorted = subst (λ n. IsSorted byte_order (n ∷ later.left)) name_is sorted_left;
      before = λ key listed before. settled_before key listed (subst (λ n. is_before (name_for bucket key) n ≡ true) (sym name_is) before);
    })

  -- the next round
  pub at_next_round : (bound : List ℕ) → EndsRound rule bucket sheet → sheet.bound ≡ Some bound → IsAtSlot rule bucket (next_round sheet bound) sections
  at_next_round bound ends is = record {
    looked = round.looked;
    rows = round.rows;
    asked = next_asked rule bucket sheet round.looked sections bound round.asked round.sorted ends is;
  }

  -- the page
  given_never : (key : List ℕ) → IsSettled rule bucket key sheet.rows round.looked sections → IsDue rule sheet.rows key → KeyIsAskedFor bucket key round.looked sections
  given_never key (inl asked) due = asked
  given_never key (inr given) due = absurd (due.ungrouped given.group given.group_is
      (subst (λ l. Contains (map group_in l) (Some given.group)) (sym (take_all rule.most sheet.rows round.rows.few)) given.given))

  pub page_over : EndsRound rule bucket sheet → sheet.bound ≡ None → All DoesNothing sections → KeysAreListed rule bucket (page_of rule sheet.rows) sections
  page_over ends is idle = record {
    looked = round.looked;
    rising = round.rows.rising;
    viewed = round.rows.viewed;
    told = ap (page_of rule) round.rows.rows_are;
    due = λ some key lawful due.
        let listed : IsListed rule bucket key = record { lawful = lawful; wanted = due.wanted } in
        let within : is_within sheet.bound (name_for bucket key) ≡ true = ap (λ b. is_within b (name_for bucket key)) is in
        given_never key (round_over rule bucket sheet round.looked sections round.asked round.sorted ends key listed within)
        (subst (λ r. IsDue rule r key) (sym round.rows.rows_are) due);
    idle = idle;
  }

-- a listing of which no row is asked
pub none_listed : (rule : PageRule) (bucket : List ℕ) → rule.most ≡ 0 → KeysAreListed rule bucket (page_of rule []) []
none_listed rule bucket none = record {
  looked = [];
  rising = no_key_rises;
  viewed = All-nil (λ candidate. (look : Section) × Contains [] look × ViewsKey bucket candidate look);
  told = refl;
  due = λ some key lawful due. absurd (omega (arith, some, none));
  idle = All-nil DoesNothing;
}
