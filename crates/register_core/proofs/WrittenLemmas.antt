-- How many lanes a mend wrote.
use Rattle.std.proofs.Common.{◌≡◌, ℕ, ◌+◌, ◌-◌, ◌<◌, ◌≤◌, Bool, true, false, IsTrue, List, [], ◌∷◌, ◌++◌, cond, length, slice_index_or, ap, inl, inr, refl, sym, subst, ◌∙◌, arith}
use Rattle.std.specs.Prelude.{◌↔◌}
use Rattle.std.specs.Int.{IsBitSet}
use Rattle.std.specs.List.{count_by}
use Rattle.std.proofs.lemmas.Bool.{cases_lt}
use Rattle.std.proofs.lemmas.List.{get_or-append_right, get_or_append_left, length-append}
use Rattle.std.proofs.lemmas.List.Sums.{sum_by-append, sum_by-cons}
use Rattle.call_types.specs.declared.why.Why.{Why}
use Rattle.call_types.specs.declared.why.Why.TheVariants.{Good}
use Rattle.register_core.specs.LaneWrites.{letter_at}
use Rattle.register_core.specs.Proposals.{CountsWritten}

-- a lane was written
abbrev pub WasWritten : ℕ → List Why → ℕ → Type 0
WasWritten passed whys k = (IsBitSet passed k → ⊥) × (letter_at whys k ≡ Good)

-- how many of the first lanes were written
pub record WrittenSoFar (passed : ℕ) (whys : List Why) (long many : ℕ) : Type 0 where
  pub written : List Bool
  pub counted : length written ≡ long
  pub are : (k : ℕ) → k < long → IsTrue (slice_index_or written k false) ↔ WasWritten passed whys k
  pub many_is : many ≡ count_by (λ (has : Bool). has) written
  pub few : many ≤ long

pub none_written : (passed : ℕ) (whys : List Why) → WrittenSoFar passed whys 0 0
none_written passed whys = record { written = []; counted = refl; are = λ k below. absurd (omega arith); many_is = refl; few = omega arith }

-- a lane more
more : (passed : ℕ) (whys : List Why) (long many next : ℕ) (has : Bool) → (IsTrue has ↔ WasWritten passed whys long) → next ≡ many + cond has 1 0 → next ≤ many + 1
    → WrittenSoFar passed whys long many → WrittenSoFar passed whys (long + 1) next
more passed whys long many next has tells is near so =
    let one : count_by (λ (b : Bool). b) (has ∷ []) ≡ cond has 1 0 + 0 = sum_by-cons (λ (b : Bool). cond b 1 0) has [] in
    let both : count_by (λ (b : Bool). b) (so.written ++ has ∷ []) ≡ count_by (λ (b : Bool). b) so.written + count_by (λ (b : Bool). b) (has ∷ []) =
    sum_by-append (λ (b : Bool). cond b 1 0) so.written (has ∷ []) in
    record {
      written = so.written ++ has ∷ [];
      counted = length-append so.written (has ∷ []) ∙ ap (λ (n : ℕ). n + 1) so.counted;
      are = λ k below. elim (cases_lt k long) [
        | inl before ↦
            subst (λ (b : Bool). IsTrue b ↔ WasWritten passed whys k)
            (sym (get_or_append_left so.written (has ∷ []) false k (omega (arith, so.counted)))) (so.are k before)
        | inr here ↦
            let same : long ≡ k = omega arith in
            let first : long - long ≡ 0 = omega arith in
            let at : slice_index_or (so.written ++ has ∷ []) long false ≡ has =
            get_or-append_right so.written (has ∷ []) long long false so.counted (omega arith)
            ∙ ap (λ (n : ℕ). slice_index_or (has ∷ []) n false) first in
            subst (λ (n : ℕ). IsTrue (slice_index_or (so.written ++ has ∷ []) n false) ↔ WasWritten passed whys n) same
            (subst (λ (b : Bool). IsTrue b ↔ WasWritten passed whys long) (sym at) tells)
      ];
      many_is = omega (arith, is, so.many_is, one, both);
      few = omega (arith, so.few, near);
    }

pub written_yes : (passed : ℕ) (whys : List Why) (long many : ℕ) (has : Bool) → has ≡ true → (IsTrue has ↔ WasWritten passed whys long)
    → WrittenSoFar passed whys long many → WrittenSoFar passed whys (long + 1) (many + 1)
written_yes passed whys long many has yes_is tells so =
    more passed whys long many (many + 1) has tells (ap (λ (b : Bool). many + cond b 1 0) (sym yes_is)) (omega arith) so

pub written_no : (passed : ℕ) (whys : List Why) (long many : ℕ) (has : Bool) → has ≡ false → (IsTrue has ↔ WasWritten passed whys long)
    → WrittenSoFar passed whys long many → WrittenSoFar passed whys (long + 1) many
written_no passed whys long many has no_is tells so =
    more passed whys long many many has tells (omega arith ∙ ap (λ (b : Bool). many + cond b 1 0) (sym no_is)) (omega arith) so

-- the count of all lanes
pub all_written : (passed : ℕ) (whys : List Why) (long many : ℕ) → long ≡ length whys → WrittenSoFar passed whys long many → CountsWritten passed whys many
all_written passed whys long many all so = record {
  written = so.written;
  counted = so.counted ∙ all;
  are = λ k below. so.are k (omega arith);
  many_is = so.many_is;
}
