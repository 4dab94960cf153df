-- Which drives served, and the mask of them.
use Rattle.std.proofs.Common.{◌≡◌, ◌≢◌, ℕ, ◌^◌, ◌<◌, ◌∙◌, true, false, List, length, ap, inl, inr, refl, sym, arith}
use Rattle.std.specs.Prelude.{◌↔◌, Some, slice_get, slice_index_or}
use Rattle.std.specs.Int.{IsBitSet}
use Rattle.std.proofs.lemmas.Bool.{cases_lt}
use Rattle.std.proofs.lemmas.Option.{slice_get-get_or}
use Rattle.std.proofs.Math.ListN.{get_or-eq_default}
use Rattle.call_types.specs.Good.{IsGoodMask, is_good}
use Rattle.call_types.specs.declared.why.FileKind.TheVariants.{Format}
use Rattle.call_types.specs.declared.why.Why.{Why}
use Rattle.call_types.specs.declared.why.Why.TheVariants.{Good, Failed, Damaged, Behind, Lacks}
use Rattle.call_types.proofs.MaskLemmas.{MaskSoFar, mask_bit, no_bit_beyond}

-- a drive served where its answer is `Good`
pub good_means : (why : Why) → is_good why ≡ true → why ≡ Good
good_means Good e = refl
good_means (Failed before after) e = cc
good_means (Damaged damage) e = cc
good_means (Behind ballot) e = cc
good_means (Lacks kind) e = cc

-- and not where it is another
pub not_good_means : (why : Why) → is_good why ≡ false → why ≢ Good
not_good_means Good e is = cc
not_good_means (Failed before after) e is = cc
not_good_means (Damaged damage) e is = cc
not_good_means (Behind ballot) e is = cc
not_good_means (Lacks kind) e is = cc

same_why : (a b : Why) → Some a ≡ Some b → a ≡ b
same_why a b e = cc

-- the answer of a drive that was looked up
pub why_found : (whys : List Why) (k : ℕ) (why default : Why) → k < length whys → slice_get whys k ≡ Some why → slice_index_or whys k default ≡ why
why_found whys k why default low found =
    same_why (slice_index_or whys k default) why (sym (slice_get-get_or whys k default low) ∙ found)

-- the drive of this index served
abbrev pub Served : List Why → ℕ → Type 0
Served whys k = slice_index_or whys k (Lacks Format) ≡ Good

-- the mask of all drives
pub mask_all : (whys : List Why) (n mask : ℕ) → length whys ≡ n → MaskSoFar (Served whys) n mask → IsGoodMask whys mask
mask_all whys n mask long so = record {
  bits = λ k below. mask_bit (Served whys) n mask so k (omega arith);
  none_else = omega (arith, so.low, ap (λ (m : ℕ). 2 ^ m) long);
}

not_lacking : Lacks Format ≡ Good → ⊥
not_lacking e = cc

-- a bit is set exactly where the drive served, at each index
pub mask_at : (whys : List Why) (mask : ℕ) → IsGoodMask whys mask → (k : ℕ) → IsBitSet mask k ↔ Served whys k
mask_at whys mask is k = elim (cases_lt k (length whys)) [
  | inl below ↦ is.bits k below
  | inr beyond ↦
      let lacks : slice_index_or whys k (Lacks Format) ≡ Lacks Format = get_or-eq_default whys (Lacks Format) (omega arith) in
      (λ set. absurd (no_bit_beyond (length whys) mask is.none_else k (omega arith) set), λ served. absurd (not_lacking (sym lacks ∙ served)))
]
