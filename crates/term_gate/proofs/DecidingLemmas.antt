-- What one format more says.
use Rattle.std.proofs.Common.{◌≡◌, ◌⊎◌, ◌<◌, ◌≤◌, ◌+◌, ◌++◌, ◌∷◌, [], ℕ, List, Option, length, slice_index_or, max, sym, subst, ap, ◌∙◌, inl, inr, arith}
use Rattle.std.specs.Prelude.{◌↔◌}
use Rattle.std.specs.Int.{IsBitSet}
use Rattle.std.proofs.Math.Seq.{get_or-append_seam}
use Rattle.std.proofs.lemmas.Bool.{cases_eq, cases_lt}
use Rattle.std.proofs.lemmas.List.{get_or_append_left}
use Rattle.call_types.specs.declared.why.FileKind.TheVariants.{Format}
use Rattle.call_types.specs.declared.why.Why.{Why}
use Rattle.call_types.specs.declared.why.Why.TheVariants.{Lacks}
use Rattle.drive_base.specs.declared.plan.SetPlan.{SetPlan}
use Rattle.term_gate.specs.Surveying.{IsSeen}
use Rattle.term_gate.specs.declared.seen.Seen.{Seen}
use Rattle.term_gate.specs.declared.seen.Seen.TheVariants.{Absent}
use Rattle.term_gate.specs.Deciding.{HasIfAbsent, IsTopBelow, term_of}
use Rattle.term_gate.specs.Reading.{format_at, why_at}
use Rattle.term_gate.specs.declared.record.Format.{Format as DriveFormat}

-- the greater of two numbers is one of them
max_is : (a b : ℕ) → (max a b ≡ a) ⊎ (max a b ≡ b)
max_is a b = elim (cases_lt a b) [ inl low ↦ inr (omega (arith, low)) | inr high ↦ inl (omega (arith, high)) ]

-- the greatest term, with one format more
pub top_more : (formats : List (Option DriveFormat)) (i top new : ℕ) → new ≡ max (term_of (format_at formats i)) top → IsTopBelow i formats top
    → IsTopBelow (i + 1) formats new
top_more formats i top new is below = record {
  none_above = λ k lt. elim (cases_eq k i) [
    | inl same ↦ subst (λ (j : ℕ). term_of (format_at formats j) ≤ new) (sym same) (omega (arith, is))
    | inr other ↦ let before = below.none_above k (omega arith) in omega (arith, is, before)
  ];
  had = elim (max_is (term_of (format_at formats i)) top) [
    | inl first ↦ inr (i, omega arith, sym first ∙ sym is)
    | inr second ↦ elim below.had [
      | inl zero_top ↦ inl (is ∙ second ∙ zero_top)
      | inr found ↦ inr (found.0, omega (arith, found.1), found.2 ∙ sym second ∙ sym is)
    ]
  ];
}

-- the drives that showed no format, with one drive more
pub absent_more : (whys : List Why) (old new i : ℕ) → HasIfAbsent old i (why_at whys i) new
    → ((k : ℕ) → IsBitSet old k ↔ ((k < i) × (why_at whys k ≡ Lacks Format)))
    → (k : ℕ) → IsBitSet new k ↔ ((k < i + 1) × (why_at whys k ≡ Lacks Format))
absent_more whys old new i has before k = (
  λ bit. elim ((has k).0 bit) [
    | inl was ↦ let is = (before k).0 was in (omega (arith, is.0), is.1)
    | inr (same, lacks) ↦ (omega (arith, same), subst (λ (j : ℕ). why_at whys j ≡ Lacks Format) (sym same) lacks)
  ],
  λ is. elim (cases_eq k i) [
    | inl same ↦ (has k).1 (inr (same, subst (λ (j : ℕ). why_at whys j ≡ Lacks Format) same is.1))
    | inr other ↦ (has k).1 (inl ((before k).1 (omega (arith, is.0, other), is.1)))
  ],
)

-- what was found on one drive more
pub seen_more : (set : SetPlan) (formats : List (Option DriveFormat)) (whys : List Why) (seens new : List Seen) (i : ℕ) (found : Seen)
    → new ≡ seens ++ found ∷ [] → length seens ≡ i → IsSeen set i (format_at formats i) (why_at whys i) found
    → ((k : ℕ) → k < i → IsSeen set k (format_at formats k) (why_at whys k) (slice_index_or seens k Absent))
    → (k : ℕ) → k < i + 1 → IsSeen set k (format_at formats k) (why_at whys k) (slice_index_or new k Absent)
seen_more set formats whys seens new i found pushed long here before k lt =
    subst (λ (s : List Seen). IsSeen set k (format_at formats k) (why_at whys k) (slice_index_or s k Absent)) (sym pushed)
    (elim (cases_eq k i) [
      | inl same ↦
          let last : slice_index_or (seens ++ found ∷ []) i Absent ≡ found =
          ap (λ (j : ℕ). slice_index_or (seens ++ found ∷ []) j Absent) (sym long) ∙ get_or-append_seam seens found [] Absent in
          subst (λ (j : ℕ). IsSeen set j (format_at formats j) (why_at whys j) (slice_index_or (seens ++ found ∷ []) j Absent)) (sym same)
          (subst (λ (s : Seen). IsSeen set i (format_at formats i) (why_at whys i) s) (sym last) here)
      | inr other ↦
          subst (λ (s : Seen). IsSeen set k (format_at formats k) (why_at whys k) s)
          (sym (get_or_append_left seens (found ∷ []) Absent k (omega arith))) (before k (omega arith))
    ])
