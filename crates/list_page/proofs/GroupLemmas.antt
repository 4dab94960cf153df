-- The groups of keys.
use Rattle.std.proofs.Common.{◌≡◌, ◌∙◌, ℕ, ◌+◌, ◌<◌, ◌≤◌, Bool, true, false, List, [], ◌∷◌, ◌++◌, length, take, drop, Option, Some, None, refl, sym, ap, append_assoc, length-append, subst, arith}
use Rattle.std.proofs.Math.Seq.{drop-append_seam, take-append_seam}
use Rattle.std.specs.Prelude.{◌==◌, if◌then◌else◌, option_map, zero, suc}
use Rattle.receipts.specs.Pages.{PageRule, begins_with, group_of, up_to}
use Rattle.list_page.proofs.TextLemmas.{begins_front, begins_parts, begins_short}

-- a text goes on behind its front, which is at least as long as the delimiter
pub record HasFront (delimiter text front : List ℕ) : Type 0 where
  pub long : length delimiter ≤ length front
  pub rest : List ℕ
  pub parts : text ≡ front ++ rest

front_by : (delimiter : List ℕ) (byte : ℕ) (text front : List ℕ) (test : Bool) (later : Option (List ℕ)) → begins_with delimiter (byte ∷ text) ≡ test
    → ((front : List ℕ) → later ≡ Some front → HasFront delimiter text front)
    → (if test then Some delimiter else option_map (λ front. byte ∷ front) later) ≡ Some front → HasFront delimiter (byte ∷ text) front
front_by delimiter byte text front true later is behind found =
    let same : delimiter ≡ front = cc in subst (HasFront delimiter (byte ∷ text)) same (record {
      long = omega arith;
      rest = drop (length delimiter) (byte ∷ text);
      parts = begins_parts delimiter (byte ∷ text) is;
    })
front_by delimiter byte text front false None is behind found = absurd (let no : None ≡ Some front = found in cc)
front_by delimiter byte text front false (Some more) is behind found =
    let same : byte ∷ more ≡ front = cc in
    let has : HasFront delimiter text more = behind more refl in subst (HasFront delimiter (byte ∷ text)) same (record {
      long = let long : length delimiter ≤ length more = has.long in omega arith;
      rest = has.rest;
      parts = ap (λ t. byte ∷ t) has.parts;
    })

pub front_of : (delimiter text front : List ℕ) → up_to delimiter text ≡ Some front → HasFront delimiter text front
front_of delimiter [] front found = absurd (let no : None ≡ Some front = found in cc)
front_of delimiter (byte ∷ text) front found =
    front_by delimiter byte text front (begins_with delimiter (byte ∷ text)) (up_to delimiter text) refl (λ front. front_of delimiter text front) found

-- a text that begins with the front of another one has the same front
here : (delimiter more : List ℕ) → 0 < length delimiter → up_to delimiter (delimiter ++ more) ≡ Some delimiter
here [] more some = absurd (omega arith)
here (first ∷ delimiter) more some = rw (begins_front (first ∷ delimiter) more) refl

later_by : (delimiter : List ℕ) (byte : ℕ) (text front more : List ℕ) → begins_with delimiter (byte ∷ text) ≡ false → HasFront delimiter text front
    → begins_with delimiter (byte ∷ (front ++ more)) ≡ false
later_by delimiter byte text front more is has =
    let long : length delimiter ≤ length (byte ∷ front) = (let l : length delimiter ≤ length front = has.long in omega arith) in
    begins_short delimiter (byte ∷ front) more long ∙ (sym (begins_short delimiter (byte ∷ front) has.rest long)
    ∙ (ap (λ t. begins_with delimiter (byte ∷ t)) (sym has.parts) ∙ is))

stays_by : (delimiter : List ℕ) (byte : ℕ) (text front more : List ℕ) (test : Bool) (later : Option (List ℕ)) → 0 < length delimiter
    → begins_with delimiter (byte ∷ text) ≡ test → later ≡ up_to delimiter text
    → ((front : List ℕ) → up_to delimiter text ≡ Some front → up_to delimiter (front ++ more) ≡ Some front)
    → (if test then Some delimiter else option_map (λ front. byte ∷ front) later) ≡ Some front → up_to delimiter (front ++ more) ≡ Some front
stays_by delimiter byte text front more true later some is later_is behind found =
    let same : delimiter ≡ front = cc in subst (λ f. up_to delimiter (f ++ more) ≡ Some f) same (here delimiter more some)
stays_by delimiter byte text front more false None some is later_is behind found = absurd (let no : None ≡ Some front = found in cc)
stays_by delimiter byte text front more false (Some begun) some is later_is behind found =
    let same : byte ∷ begun ≡ front = cc in
    let has : HasFront delimiter text begun = front_of delimiter text begun (sym later_is) in
    let none : begins_with delimiter (byte ∷ (begun ++ more)) ≡ false = later_by delimiter byte text begun more is has in
    subst (λ f. up_to delimiter (f ++ more) ≡ Some f) same (rw (none, behind begun (sym later_is)) refl)

pub front_stays : (delimiter text front more : List ℕ) → 0 < length delimiter → up_to delimiter text ≡ Some front
    → up_to delimiter (front ++ more) ≡ Some front
front_stays delimiter [] front more some found = absurd (let no : None ≡ Some front = found in cc)
front_stays delimiter (byte ∷ text) front more some found =
    stays_by delimiter byte text front more (begins_with delimiter (byte ∷ text)) (up_to delimiter text) some refl refl
    (λ front. front_stays delimiter text front more some) found

-- where the delimiter stands first
pub found_at : (delimiter text : List ℕ) (at : ℕ) → at < length text → ((k : ℕ) → k < at → begins_with delimiter (drop k text) ≡ false)
    → begins_with delimiter (drop at text) ≡ true → up_to delimiter text ≡ Some (take (at + length delimiter) text)
found_at delimiter [] at inside none is = absurd (omega arith)
found_at delimiter (byte ∷ text) zero inside none is =
    let front : take (length delimiter) (byte ∷ text) ≡ delimiter =
    ap (take (length delimiter)) (begins_parts delimiter (byte ∷ text) is) ∙ take-append_seam delimiter (drop (length delimiter) (byte ∷ text)) in
    let sum : zero + length delimiter ≡ length delimiter = omega arith in rw (is, sum, front) refl
found_at delimiter (byte ∷ text) (suc at) inside none is =
    let first : begins_with delimiter (byte ∷ text) ≡ false = none zero (omega arith) in
    let sum : suc at + length delimiter ≡ suc (at + length delimiter) = omega arith in
    let behind : up_to delimiter text ≡ Some (take (at + length delimiter) text) =
    found_at delimiter text at (omega arith) (λ k less. none (suc k) (omega arith)) is in
    rw (first, sum, behind) refl

-- where it doesn't
pub found_nowhere : (delimiter text : List ℕ) → ((k : ℕ) → k < length text → begins_with delimiter (drop k text) ≡ false) → up_to delimiter text ≡ None
found_nowhere delimiter [] none = refl
found_nowhere delimiter (byte ∷ text) none =
    let first : begins_with delimiter (byte ∷ text) ≡ false = none zero (omega arith) in
    let behind : up_to delimiter text ≡ None = found_nowhere delimiter text (λ k less. none (suc k) (omega arith)) in
    rw (first, behind) refl

-- the group of a key is the prefix and a tail
pub record HasTail (rule : PageRule) (key group : List ℕ) : Type 0 where
  pub some : 0 < length rule.delimiter
  pub tail : List ℕ
  pub found : up_to rule.delimiter (drop (length rule.prefix) key) ≡ Some tail
  pub group_is : group ≡ rule.prefix ++ tail

tail_by : (rule : PageRule) (key group : List ℕ) (empty : Bool) (later : Option (List ℕ)) → (length rule.delimiter == 0) ≡ empty
    → later ≡ up_to rule.delimiter (drop (length rule.prefix) key)
    → (if empty then None else option_map (λ front. rule.prefix ++ front) later) ≡ Some group → HasTail rule key group
tail_by rule key group true later empty is found = absurd (let no : None ≡ Some group = found in cc)
tail_by rule key group false None empty is found = absurd (let no : None ≡ Some group = found in cc)
tail_by rule key group false (Some tail) empty is found = record {
  some = some_by (length rule.delimiter) empty;
  tail = tail;
  found = sym is;
  group_is = let same : Some (rule.prefix ++ tail) ≡ Some group = found in cc;
}
  where
    some_by : (n : ℕ) → (n == 0) ≡ false → 0 < n
    some_by zero is = absurd (let no : true ≡ false = is in cc)
    some_by (suc n) is = omega arith

pub tail_is : (rule : PageRule) (key group : List ℕ) → group_of rule key ≡ Some group → HasTail rule key group
tail_is rule key group found = tail_by rule key group (length rule.delimiter == 0) (up_to rule.delimiter (drop (length rule.prefix) key)) refl refl found

-- with a delimiter the group is found by it
pub group_by : (rule : PageRule) (key : List ℕ) → 0 < length rule.delimiter
    → group_of rule key ≡ option_map (λ front. rule.prefix ++ front) (up_to rule.delimiter (drop (length rule.prefix) key))
group_by rule key some = let is : (length rule.delimiter == 0) ≡ false = grind (arith, some) in rw is refl

-- a text that begins with the group of a key has the same group
pub group_stays : (rule : PageRule) (key group text : List ℕ) → group_of rule key ≡ Some group → begins_with group text ≡ true
    → group_of rule text ≡ Some group
group_stays rule key group text found begins =
    let has : HasTail rule key group = tail_is rule key group found in
    let rest : List ℕ = drop (length group) text in
    let parts : text ≡ rule.prefix ++ (has.tail ++ rest) = begins_parts group text begins ∙ (ap (λ g. g ++ rest) has.group_is ∙ append_assoc rule.prefix has.tail rest) in
    let behind : drop (length rule.prefix) text ≡ has.tail ++ rest =
    ap (drop (length rule.prefix)) parts ∙ drop-append_seam rule.prefix (has.tail ++ rest) in
    let same : up_to rule.delimiter (drop (length rule.prefix) text) ≡ Some has.tail =
    ap (up_to rule.delimiter) behind ∙ front_stays rule.delimiter (drop (length rule.prefix) key) has.tail rest has.some has.found in
    group_by rule text has.some ∙ (ap (option_map (λ front. rule.prefix ++ front)) same ∙ ap Some (sym has.group_is))

-- the group of a key that begins with the prefix is a front of it
pub group_front : (rule : PageRule) (key group : List ℕ) → begins_with rule.prefix key ≡ true → group_of rule key ≡ Some group
    → (rest : List ℕ) × (key ≡ group ++ rest)
group_front rule key group begins found =
    let has : HasTail rule key group = tail_is rule key group found in
    let front : HasFront rule.delimiter (drop (length rule.prefix) key) has.tail =
    front_of rule.delimiter (drop (length rule.prefix) key) has.tail has.found in (
      front.rest,
      begins_parts rule.prefix key begins ∙ (ap (λ t. rule.prefix ++ t) front.parts
          ∙ (sym (append_assoc rule.prefix has.tail front.rest) ∙ ap (λ g. g ++ front.rest) (sym has.group_is))),
    )

-- so far as the prefix and its tail are long, the key is its group
front_taken : (group key rest : List ℕ) (long : ℕ) → long ≡ length group → key ≡ group ++ rest → (long ≤ length key) × (take long key ≡ group)
front_taken group key rest long is parts = (
  omega (arith, ap length parts, length-append group rest),
  ap (λ n. take n key) is ∙ (ap (take (length group)) parts ∙ take-append_seam group rest),
)

pub group_taken : (rule : PageRule) (key tail : List ℕ) → begins_with rule.prefix key ≡ true → group_of rule key ≡ Some (rule.prefix ++ tail)
    → (length rule.prefix + length tail ≤ length key) × (take (length rule.prefix + length tail) key ≡ rule.prefix ++ tail)
group_taken rule key tail begins found =
    let front : (rest : List ℕ) × (key ≡ (rule.prefix ++ tail) ++ rest) = group_front rule key (rule.prefix ++ tail) begins found in
    front_taken (rule.prefix ++ tail) key front.0 (length rule.prefix + length tail) (sym (length-append rule.prefix tail)) front.1
