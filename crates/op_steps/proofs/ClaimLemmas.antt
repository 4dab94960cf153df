-- The claims of a slot among those of all: one of that slot is there, and one of another slot isn't; and what a claim gains.
use Rattle.std.proofs.Common.{◌≡◌, ◌∙◌, ℕ, List, ◌∷◌, ◌++◌, ◌≢◌, Contains, cond, inl, inr, sym, ap, subst, refl, arith}
use Rattle.std.specs.List.{flat_map}
use Rattle.std.proofs.lemmas.Bool.{cases_eq}
use Rattle.std.proofs.lemmas.Bool.Decides.{eqb_tells}
use Rattle.std.proofs.lemmas.Grind.{flat_map-append}
use Rattle.std.proofs.lemmas.List.Elements.{Contains-append_left, Contains-append_right, filter-append}
use Rattle.std.proofs.lemmas.Option.{none-some}
use Rattle.stamp_id.specs.declared.version.VersionId.{VersionId}
use Rattle.op_steps.specs.Claims.{Claim, among, claims_at, hands_of, is_at, no_claim}
use Rattle.op_steps.specs.Moves.{ClaimMoves, ClaimGains, ClaimStays}
use Rattle.slot_data.specs.Holding.{Holding}
use Rattle.slot_core.specs.Views.{SlotNumbers}

-- the claims of a slot, with one that is of the slot among them
pub at_own : (slot : ℕ) (front rest : List Claim) (claim : Claim) → claim.slot ≡ slot
    → claims_at slot (among front claim rest) ≡ among (claims_at slot front) claim (claims_at slot rest)
at_own slot front rest claim own =
    filter-append (is_at slot) front (claim ∷ rest) ∙ ap (λ l. claims_at slot front ++ l) (elim (eqb_tells claim.slot slot) [
      | inl same ↦ ap (λ b. cond b (claim ∷ claims_at slot rest) (claims_at slot rest)) same.0
      | inr differs ↦ absurd (differs.1 own)
    ])

-- what one of some claims took is in hand
pub own_in_hand : (front rest : List Claim) (claim : Claim) (id : VersionId) → Contains claim.taken id → Contains (hands_of (among front claim rest)).taken id
own_in_hand front rest claim id there =
    subst (λ (l : List VersionId). Contains l id) (sym (flat_map-append (λ (c : Claim). c.taken) front (claim ∷ rest)))
    (Contains-append_right (flat_map (λ (c : Claim). c.taken) front) (claim.taken ++ flat_map (λ (c : Claim). c.taken) rest) id
    (Contains-append_left claim.taken (flat_map (λ (c : Claim). c.taken) rest) id there))

-- a claim of another slot isn't among a slot's
skips : (slot : ℕ) (claim : Claim) (rest : List Claim) → claim.slot ≢ slot → claims_at slot (claim ∷ rest) ≡ claims_at slot rest
skips slot claim rest other = elim (eqb_tells claim.slot slot) [
  | inl same ↦ absurd (other same.1)
  | inr differs ↦ ap (λ b. cond b (claim ∷ claims_at slot rest) (claims_at slot rest)) differs.0
]

-- what an op changes of its claim at one slot leaves the claims of another
pub claims_elsewhere : (slot index : ℕ) (front rest : List Claim) (claim later : Claim) → slot ≢ index → ClaimMoves index claim later
    → claims_at slot (among front later rest) ≡ claims_at slot (among front claim rest)
claims_elsewhere slot index front rest claim later other moves = elim (cases_eq claim.slot index) [
  | inl own ↦
      let not_there : claim.slot ≢ slot = λ same. other (sym same ∙ own) in
      let nor_later : later.slot ≢ slot = λ same. not_there (sym moves.slot ∙ same) in
      filter-append (is_at slot) front (later ∷ rest)
      ∙ (ap (λ l. claims_at slot front ++ l) (skips slot later rest nor_later ∙ sym (skips slot claim rest not_there))
      ∙ sym (filter-append (is_at slot) front (claim ∷ rest)))
  | inr elsewhere ↦ ap (λ c. claims_at slot (among front c rest)) (moves.elsewhere elsewhere)
]

-- an op that holds what it held gains nothing, and so does one that lets go of it
pub nothing_gained : (was now : SlotNumbers) (before after : Holding) (claim : Claim) → ClaimGains was now before after claim claim
nothing_gained was now before after claim = record { flight = λ f is. inl is; pin = λ p is. inl is; taken = λ id there. inl there }

pub nothing_held : (was now : SlotNumbers) (before after : Holding) (claim : Claim) (slot : ℕ) → ClaimGains was now before after claim (no_claim slot)
nothing_held was now before after claim slot = record {
  flight = λ f is. absurd (none-some f is);
  pin = λ p is. absurd (none-some p is);
  taken = λ id there. absurd (let low = there.1 in omega (arith, low));
}

-- a call that leaves all that an op holds
pub claim_stays : (claim : Claim) → ClaimStays claim claim
claim_stays claim = record { slot = refl; flight = refl; pin = refl; taken = λ id there. there }
