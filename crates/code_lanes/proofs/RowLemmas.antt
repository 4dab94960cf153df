-- What is made of several blocks while vectors are stored in them.
use Rattle.std.proofs.Common.{◌≡◌, ℕ, ◌+◌, ◌-◌, ◌*◌, ◌/◌, ◌<◌, ◌≤◌, List, length, get_or, ap, subst, sym, ◌∙◌, inl, inr, arith}
use Rattle.std.specs.Simd.Lanes.{put_chunk}
use Rattle.std.proofs.lemmas.Bool.{cases_lt, cases_order}
use Rattle.std.proofs.Math.Nat.{mul-le-mul_left}
use Rattle.code_lanes.specs.Lanes.{HasLanes}
use Rattle.code_lanes.specs.Rows.{AreMade}
use Rattle.code_lanes.proofs.LaneLemmas.{HasLanes-is, stored_at, stored_beside}

-- a block ends before each later one
pub block_ends : (p r width : ℕ) → p < r → p * width + width ≤ r * width
block_ends p r width below =
    let whole : width * (p + 1) ≤ width * r = mul-le-mul_left width (omega arith) in
    omega arith

-- a vector is stored in block `row`
pub made_row : (sums : ℕ → ℕ → ℕ) (width rows end row at : ℕ) (out v : List ℕ) → length out ≡ rows * width → at + 32 ≤ width → row < rows
    → HasLanes v (λ k. sums row (at + k)) → AreMade sums width rows end row at out
    → AreMade sums width rows end (row + 1) at (put_chunk (row * width + at) out v)
made_row sums width rows end row at out v long within here lanes made r k r_low k_low which =
    let room : row * width + width ≤ rows * width = block_ends row rows width here in
    let beside = stored_beside (row * width + at) out v lanes.long (r * width + k) in
    elim (cases_order r row) [
      | inl e ↦
          let place : r * width ≡ row * width = ap (λ p. p * width) e in
          elim (cases_lt k at) [
            | inl before ↦ elim which [
              | inl done ↦ beside (inl (omega arith)) ∙ made r k r_low k_low (inl done)
              | inr new ↦ absurd (omega (arith, new.1))
            ]
            | inr after ↦ elim (cases_lt k (at + 32)) [
              | inl inside ↦
                  stored_at (row * width + at) out v (λ p. sums row (p - row * width))
                  (HasLanes-is _ (λ j. sums row (row * width + at + j - row * width)) lanes (λ j l. ap (sums row) (omega arith)))
                  (omega arith) (r * width + k) (omega arith) (omega arith)
                  ∙ ap (sums row) (omega arith) ∙ ap (λ p. sums p k) (sym e)
              | inr past ↦ elim which [
                | inl done ↦ beside (inr (omega arith)) ∙ made r k r_low k_low (inl done)
                | inr new ↦ absurd (omega (arith, new.2))
              ]
            ]
          ]
      | inr (inl below) ↦
          let gap : r * width + width ≤ row * width = block_ends r row width below in
          beside (inl (omega arith)) ∙ made r k r_low k_low (elim which [ inl done ↦ inl done | inr new ↦ inr (below, new.1, new.2) ])
      | inr (inr above) ↦
          let gap : row * width + width ≤ r * width = block_ends row r width above in
          beside (inr (omega arith)) ∙ made r k r_low k_low (elim which [ inl done ↦ inl done | inr new ↦ absurd (omega (arith, new.0)) ])
    ]

-- the same number of blocks, spelled otherwise
pub made_below : (sums : ℕ → ℕ → ℕ) (width rows end row other at : ℕ) (out : List ℕ) → row ≡ other → AreMade sums width rows end row at out
    → AreMade sums width rows end other at out
made_below sums width rows end row other at out e made = subst (λ r. AreMade sums width rows end r at out) e made

-- no block, at the begin of the walk down over the places
pub made_none : (sums : ℕ → ℕ → ℕ) (width rows : ℕ) (out : List ℕ) → AreMade sums width rows (width - 32 * 0) 0 0 out
made_none sums width rows out r k r_low k_low which = elim which [
  | inl done ↦ absurd (omega arith)
  | inr new ↦ absurd (omega (arith, new.0))
]

-- before the first vector of a turn is stored
pub made_begun : (sums : ℕ → ℕ → ℕ) (width rows end at : ℕ) (out : List ℕ) → AreMade sums width rows end 0 0 out
    → AreMade sums width rows end 0 at out
made_begun sums width rows end at out made r k r_low k_low which = elim which [
  | inl done ↦ made r k r_low k_low (inl done)
  | inr new ↦ absurd (omega (arith, new.0))
]

-- after the last one
pub made_turn : (sums : ℕ → ℕ → ℕ) (width rows i count at : ℕ) (out : List ℕ) → 32 ≤ width → rows ≤ count → at ≡ width - 32 * i - 32
    → AreMade sums width rows (width - 32 * i) count at out → AreMade sums width rows (width - 32 * (i + 1)) 0 0 out
made_turn sums width rows i count at out wide few place made r k r_low k_low which = elim which [
  | inl done ↦ elim (cases_lt k (at + 32)) [
    | inl inside ↦ made r k r_low k_low (inr (omega arith, omega arith, inside))
    | inr above ↦ made r k r_low k_low (inl (omega arith))
  ]
  | inr new ↦ absurd (omega (arith, new.0))
]

-- at the end of the walk
pub made_all : (sums : ℕ → ℕ → ℕ) (width rows i : ℕ) (out : List ℕ) → i ≡ width / 32 + 1 → AreMade sums width rows (width - 32 * i) 0 0 out
    → (r k : ℕ) → r < rows → k < width → get_or out (r * width + k) 0 ≡ sums r k
made_all sums width rows i out last made r k r_low k_low = made r k r_low k_low (inl (omega arith))
