-- Fronts of texts in the order of their bytes.
use Rattle.std.proofs.Common.{◌≡◌, ◌∙◌, ℕ, true, false, List, [], ◌∷◌, ◌++◌, Option, Some, None, refl, sym, ap, subst}
use Rattle.std.proofs.lemmas.Cmp.{nat_cmp_total, ranked, tied_itself}
use Rattle.std.proofs.lemmas.List.{append-nil}
use Rattle.std.specs.Ordering.{is_lt, nat_cmp, ordering_then}
use Rattle.std.specs.Prelude.{unwrap_or}
use Rattle.std.specs.declared.cmp.Ordering.{Ordering}
use Rattle.std.specs.declared.cmp.Ordering.TheVariants.{Less, Equal, Greater}
use Rattle.drive_base.specs.Names.{IsBefore, byte_order}
use Rattle.receipts.specs.Pages.{PageRule, begins_with, group_of, is_before, row_name}
use Rattle.receipts.specs.Paging.{IsUpTo}
use Rattle.list_page.proofs.GroupLemmas.{group_front}
use Rattle.list_page.proofs.TextLemmas.{begins_by, begins_rest}

-- the test of the order
before_by : (o : Ordering) → is_lt o ≡ true → o ≡ Less
before_by Less is = refl
before_by Equal is = absurd (let no : false ≡ true = is in cc)
before_by Greater is = absurd (let no : false ≡ true = is in cc)

pub before : (a b : List ℕ) → is_before a b ≡ true → IsBefore a b
before a b is = before_by (byte_order a b) is

pub not_before : (a b : List ℕ) → is_before a b ≡ false → IsUpTo b a
not_before a b is less = let turned : true ≡ false = sym (ap is_lt less) ∙ is in cc

-- a front of a text stands before it, or is it
pub front_upto : (front rest : List ℕ) → IsUpTo front (front ++ rest)
front_upto [] [] less = let no : Equal ≡ Less = less in cc
front_upto [] (byte ∷ rest) less = let no : Greater ≡ Less = less in cc
front_upto (byte ∷ front) rest less =
    front_upto front rest (sym (ap (λ o. ordering_then o (byte_order (front ++ rest) front)) (tied_itself nat_cmp_total byte)) ∙ less)

pub begin_upto : (front text : List ℕ) → begins_with front text ≡ true → IsUpTo front text
begin_upto front text is = let rest = begins_rest front text is in subst (IsUpTo front) (sym rest.1) (front_upto front rest.0)

-- what stands between a text and one that goes on from it begins with it
between_by : (a b : ℕ) (front text more : List ℕ) (o : Ordering) → nat_cmp b a ≡ o
    → (IsUpTo front text → IsBefore text (front ++ more) → (rest : List ℕ) × (text ≡ front ++ rest))
    → IsUpTo (a ∷ front) (b ∷ text) → IsBefore (b ∷ text) (a ∷ (front ++ more)) → (rest : List ℕ) × (b ∷ text ≡ a ∷ (front ++ rest))
between_by a b front text more Less is later upto less = absurd (upto (ap (λ o. ordering_then o (byte_order text front)) is))
between_by a b front text more Equal is later upto less =
    let same : b ≡ a = ranked b a Equal (sym is) in
    let rest : (rest : List ℕ) × (text ≡ front ++ rest) = later
    (λ first. upto (ap (λ o. ordering_then o (byte_order text front)) is ∙ first))
    (sym (ap (λ o. ordering_then o (byte_order text (front ++ more))) is) ∙ less) in
    (rest.0, ap (λ x. x ∷ text) same ∙ ap (λ t. a ∷ t) rest.1)
between_by a b front text more Greater is later upto less =
    let no : Greater ≡ Less = sym (ap (λ o. ordering_then o (byte_order text (front ++ more))) is) ∙ less in absurd (cc)

pub between : (front text more : List ℕ) → IsUpTo front text → IsBefore text (front ++ more) → (rest : List ℕ) × (text ≡ front ++ rest)
between [] text more upto less = (text, refl)
between (a ∷ front) [] more upto less = absurd (upto refl)
between (a ∷ front) (b ∷ text) more upto less = between_by a b front text more (nat_cmp b a) refl (between front text more) upto less

-- the name of the row that a key is in is a front of the key
row_by : (rule : PageRule) (key : List ℕ) (group : Option (List ℕ)) → group_of rule key ≡ group → begins_with rule.prefix key ≡ true
    → begins_with (unwrap_or group key) key ≡ true
row_by rule key None is begins = begins_by key key [] (sym (append-nil key))
row_by rule key (Some group) is begins = let front = group_front rule key group begins is in begins_by group key front.0 front.1

pub row_begins : (rule : PageRule) (key : List ℕ) → begins_with rule.prefix key ≡ true → begins_with (row_name rule key) key ≡ true
row_begins rule key begins = row_by rule key (group_of rule key) refl begins

pub row_upto : (rule : PageRule) (key : List ℕ) → begins_with rule.prefix key ≡ true → IsUpTo (row_name rule key) key
row_upto rule key begins = begin_upto (row_name rule key) key (row_begins rule key begins)
