-- Texts that begin with others.
use Rattle.std.proofs.Common.{◌≡◌, ◌∙◌, ℕ, ◌-◌, ◌≤◌, Bool, true, false, List, ◌++◌, length, take, drop, refl, sym, ap, append_assoc, length-drop}
use Rattle.std.proofs.Math.Seq.{drop-append_seam, take-length}
use Rattle.std.proofs.lemmas.Bool.Decides.{Decides-eqb, same_from_decides}
use Rattle.std.proofs.lemmas.List.{take-append-le}
use Rattle.std.proofs.lemmas.Slice.Eq.{bytes_eq-Decides, starts_is}
use Rattle.std.specs.Cmp.Lexicographic.{pointwise}
use Rattle.std.specs.Prelude.{◌==◌, bytes_eq}
use Rattle.receipts.specs.Pages.{begins_with}

-- a slice from a place on
pub rest_taken : (n : ℕ) (text : List ℕ) → take (length text - n) (drop n text) ≡ drop n text
rest_taken n text = ap (λ m. take m (drop n text)) (sym (length-drop n text)) ∙ take-length (drop n text)

-- a text that begins with another one is that one and the rest
pub begins_parts : (front text : List ℕ) → begins_with front text ≡ true → text ≡ front ++ drop (length front) text
begins_parts front text is = (starts_is Decides-eqb text front (begins_with front text) refl).0 is

pub begins_rest : (front text : List ℕ) → begins_with front text ≡ true → (rest : List ℕ) × (text ≡ front ++ rest)
begins_rest front text is = (drop (length front) text, begins_parts front text is)

pub begins_by : (front text rest : List ℕ) → text ≡ front ++ rest → begins_with front text ≡ true
begins_by front text rest is = (starts_is Decides-eqb text front (begins_with front text) refl).1 rest is

pub begins_front : (front rest : List ℕ) → begins_with front (front ++ rest) ≡ true
begins_front front rest = begins_by front (front ++ rest) rest refl

-- what begins a text begins one that goes on
pub begins_more : (front text rest : List ℕ) → begins_with front text ≡ true → begins_with front (text ++ rest) ≡ true
begins_more front text rest is = begins_by front (text ++ rest) (drop (length front) text ++ rest)
    (ap (λ t. t ++ rest) (begins_parts front text is) ∙ append_assoc front (drop (length front) text) rest)

-- whether a text begins with another one depends on so many bytes alone
pub begins_short : (front text rest : List ℕ) → length front ≤ length text → begins_with front (text ++ rest) ≡ begins_with front text
begins_short front text rest short = ap (pointwise (λ (a b : ℕ). a == b) front) (take-append-le (length front) text rest short)

-- a text that begins with a front is that front and a tail exactly where the rest is the tail
pub same_rest : (front text tail : List ℕ) → begins_with front text ≡ true → bytes_eq (drop (length front) text) tail ≡ bytes_eq text (front ++ tail)
same_rest front text tail is = same_from_decides {P = text ≡ front ++ tail} (bytes_eq (drop (length front) text) tail) (bytes_eq text (front ++ tail)) (
  λ same. begins_parts front text is ∙ ap (λ rest. front ++ rest) ((bytes_eq-Decides (drop (length front) text) tail).0 same),
  λ same. (bytes_eq-Decides (drop (length front) text) tail).1 (ap (drop (length front)) same ∙ drop-append_seam front tail),
)
    (bytes_eq-Decides text (front ++ tail))

-- one that doesn't begin with it isn't
other_by : (test : Bool) (front text tail : List ℕ) → bytes_eq text (front ++ tail) ≡ test → begins_with front text ≡ false → test ≡ false
other_by false front text tail same is = refl
other_by true front text tail same is =
    let begins : begins_with front text ≡ true = begins_by front text tail ((bytes_eq-Decides text (front ++ tail)).0 same) in cc

pub other_text : (front text tail : List ℕ) → begins_with front text ≡ false → bytes_eq text (front ++ tail) ≡ false
other_text front text tail is = other_by (bytes_eq text (front ++ tail)) front text tail refl is
