-- Functions that take sums to sums are known by their values at the powers of two.
use Rattle.std.proofs.Common.{◌≡◌, ℕ, ◌+◌, ◌-◌, ◌*◌, ◌^◌, ◌<◌, ◌≤◌, zero, suc, sym, ◌∙◌, ap, subst, inl, inr, arith}
use Rattle.std.specs.Int.Bits.{bit_xor, xor_self, xor_zero_l}
use Rattle.std.proofs.lemmas.Nat.{xor_block, pow_pos, xor_lt}
use Rattle.std.proofs.lemmas.Bool.{cases_lt}
use Rattle.std.proofs.Math.Nat.{pow-suc}

-- f takes sums to sums
abbrev pub IsAdditive : (ℕ → ℕ) → Type 0
IsAdditive f = (a b : ℕ) → f (bit_xor a b) ≡ bit_xor (f a) (f b)

-- it takes 0 to 0
pub additive-zero : (f : ℕ → ℕ) → IsAdditive f → f 0 ≡ 0
additive-zero f adds =
    let e : f 0 ≡ bit_xor (f 0) (f 0) = adds 0 0 in
    e ∙ xor_self (f 0)

-- a number with bit k as its highest is that bit and the rest
pub top_bit : (a k : ℕ) → 2 ^ k ≤ a → a < 2 ^ suc k → (a ≡ bit_xor (2 ^ k) (a - 2 ^ k)) × (a - 2 ^ k < 2 ^ k)
top_bit a k low high =
    let double : 2 ^ suc k ≡ 2 ^ k * 2 = pow-suc 2 k in
    let rest : a - 2 ^ k < 2 ^ k = omega arith in
    let e : bit_xor (1 * 2 ^ k + 0) (0 * 2 ^ k + (a - 2 ^ k)) ≡ 1 * 2 ^ k + bit_xor 0 (a - 2 ^ k) = xor_block k 1 0 0 (a - 2 ^ k) (pow_pos k) rest in
    let first : 1 * 2 ^ k + 0 ≡ 2 ^ k = omega arith in
    let second : 0 * 2 ^ k + (a - 2 ^ k) ≡ a - 2 ^ k = omega arith in
    let whole : 1 * 2 ^ k + (a - 2 ^ k) ≡ a = omega arith in
    let e' : bit_xor (2 ^ k) (a - 2 ^ k) ≡ 1 * 2 ^ k + bit_xor 0 (a - 2 ^ k) =
    sym (ap (λ x. bit_xor x (0 * 2 ^ k + (a - 2 ^ k))) first ∙ ap (λ x. bit_xor (2 ^ k) x) second) ∙ e in
    (sym (e' ∙ ap (λ x. 1 * 2 ^ k + x) (xor_zero_l (a - 2 ^ k)) ∙ whole), rest)

-- two of them that agree at the first k powers of two agree at every number of k bits
pub additive_agree : (f g : ℕ → ℕ) → IsAdditive f → IsAdditive g → (k : ℕ) → ((i : ℕ) → i < k → f (2 ^ i) ≡ g (2 ^ i)) → (a : ℕ) → a < 2 ^ k → f a ≡ g a
additive_agree f g f_adds g_adds zero same a below =
    let e : a ≡ 0 = omega arith in
    ap f e ∙ additive-zero f f_adds ∙ sym (ap g e ∙ additive-zero g g_adds)
additive_agree f g f_adds g_adds (suc k) same a below =
    let lower = λ (b : ℕ) (h : b < 2 ^ k). additive_agree f g f_adds g_adds k (λ i l. same i (omega arith)) b h in
    elim (cases_lt a (2 ^ k)) [
      | inl small ↦ lower a small
      | inr large ↦
          let split = top_bit a k large below in
          let r : ℕ = a - 2 ^ k in
          ap f split.0 ∙ f_adds (2 ^ k) r ∙
          ap (λ x. bit_xor x (f r)) (same k (omega arith)) ∙ ap (λ x. bit_xor (g (2 ^ k)) x) (lower r split.1) ∙
          sym (ap g split.0 ∙ g_adds (2 ^ k) r)
    ]

-- one whose values at the first k powers of two have w bits has values of w bits at every number of k bits
pub additive_bound : (f : ℕ → ℕ) → IsAdditive f → (w k : ℕ) → ((i : ℕ) → i < k → f (2 ^ i) < 2 ^ w) → (a : ℕ) → a < 2 ^ k → f a < 2 ^ w
additive_bound f adds w zero bound a below =
    let e : a ≡ 0 = omega arith in
    let zero_at : f a ≡ 0 = ap f e ∙ additive-zero f adds in
    let positive : 0 < 2 ^ w = pow_pos w in
    omega arith
additive_bound f adds w (suc k) bound a below =
    let lower = λ (b : ℕ) (h : b < 2 ^ k). additive_bound f adds w k (λ i l. bound i (omega arith)) b h in
    elim (cases_lt a (2 ^ k)) [
      | inl small ↦ lower a small
      | inr large ↦
          let split = top_bit a k large below in
          let r : ℕ = a - 2 ^ k in
          let e : f a ≡ bit_xor (f (2 ^ k)) (f r) = ap f split.0 ∙ adds (2 ^ k) r in
          subst (λ (x : ℕ). x < 2 ^ w) (sym e) (xor_lt w (f (2 ^ k)) (f r) (bound k (omega arith)) (lower r split.1))
    ]
