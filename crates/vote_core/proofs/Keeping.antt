-- What loops of writes leave of sound lanes.
use Rattle.std.proofs.Common.{◌≡◌, ◌⊎◌, ◌<◌, ◌≤◌, ℕ, true, List, [], ◌∷◌, length, sym, ap, ◌∙◌, subst, inl, inr, arith, refl, Contains, count_by}
use Rattle.std.proofs.lemmas.Bool.{cases_eq, cases_lt}
use Rattle.vote_core.specs.Lane.{Base, Lane, Next, HasNext, backs}
use Rattle.vote_core.specs.Sound.{IsGreatest, IsValueChange, RecordsAgree, OthersAreBelow, IsAccounted, IsDrawn, HoldsValue}
use Rattle.vote_core.specs.Loops.{Leaves, Stands}
use Rattle.vote_core.proofs.Members.{member_head, member_tail, member_cases, member_before}
use Rattle.vote_core.proofs.Counting.{count_no_less}

-- a list with a member has one whose base no other's is above
pub greatest : (lanes : List Lane) → 0 < length lanes → (lane : Lane) × IsGreatest lanes lane
greatest [] some = let no_way : ⊥ = omega arith in absurd no_way
greatest (lane ∷ []) some = (
  lane,
  record {
    there = member_head lane [];
    greatest = λ other there. elim (member_cases lane [] other there) [
      | inl same ↦ let equal : lane.base.ballot ≡ other.base.ballot = ap (λ (l : Lane). l.base.ballot) same in omega arith
      | inr none ↦ let inside : none.0 < 0 = none.1 in absurd (omega arith)
    ];
  },
)
greatest (lane ∷ (next ∷ lanes)) some =
    let rest = greatest (next ∷ lanes) (omega arith) in
    elim (cases_lt rest.0.base.ballot lane.base.ballot) [
      | inl higher ↦ (
        lane,
        record {
          there = member_head lane (next ∷ lanes);
          greatest = λ other there. elim (member_cases lane (next ∷ lanes) other there) [
            | inl same ↦ let equal : lane.base.ballot ≡ other.base.ballot = ap (λ (l : Lane). l.base.ballot) same in omega arith
            | inr old ↦ let low = rest.1.greatest other old in omega arith
          ];
        },
      )
      | inr not_higher ↦ (
        rest.0,
        record {
          there = member_tail lane (next ∷ lanes) rest.0 rest.1.there;
          greatest = λ other there. elim (member_cases lane (next ∷ lanes) other there) [
            | inl same ↦ let equal : lane.base.ballot ≡ other.base.ballot = ap (λ (l : Lane). l.base.ballot) same in omega arith
            | inr old ↦ rest.1.greatest other old
          ];
        },
      )
    ]

-- sound lanes have a base that carries the value's change, and lanes on which one does and the others are below have a value
pub value_change : (lanes : List Lane) (c : ℕ) (a : Lane) → Contains lanes a → a.base.change ≡ c → OthersAreBelow lanes c → IsValueChange lanes c
value_change lanes c a there same below =
    let top = greatest lanes (omega (arith, there.1)) in
    elim (cases_eq top.0.base.change c) [
      | inl carries ↦ record { lane = top.0; top = top.1; carries = carries }
      | inr other ↦
          let high = top.1.greatest a there in
          let low = below a top.0 there top.1.there same other in
          absurd (omega arith)
    ]

-- a lane after a loop was there before, or is the loop's record
pub lane_before : (x : Lane) (lanes new : List Lane) (a : Lane) → Leaves x lanes new → Contains new a → Contains lanes a ⊎ (a ≡ x)
lane_before x lanes new a leaves there =
    let was = member_before (λ before after. (after ≡ before) ⊎ (after ≡ x)) lanes new a leaves there in
    elim was.2 [ inl same ↦ inl (subst (λ (l : Lane). Contains lanes l) (sym same) was.1) | inr is ↦ inr is ]

-- a base after a loop stood before, where the loop's base did
pub base_before : (x : Lane) (lanes new : List Lane) (a : Lane) → Leaves x lanes new → Stands lanes x.base → Contains new a → Stands lanes a.base
base_before x lanes new a leaves stands there = elim (lane_before x lanes new a leaves there) [
  | inl was ↦ (a, was, refl)
  | inr is ↦ (stands.0, stands.1, stands.2 ∙ ap (λ (l : Lane). l.base) (sym is))
]

-- what is accounted for stays so, as no base comes that wasn't there
accounted_after : (x : Lane) (lanes new : List Lane) (c : ℕ) (a : Lane) (next : Next) → Leaves x lanes new → Stands lanes x.base
    → IsAccounted lanes c a next → IsAccounted new c a next
accounted_after x lanes new c a next leaves stands was = elim was [
  | inl same ↦ inl same
  | inr rest ↦ elim rest [
    | inl live ↦ inr (inl (record {
      parent = live.parent;
      base = live.base;
      unmarked = λ other there same.
          let old = base_before x lanes new other leaves stands there in live.unmarked old.0 old.1 (ap (λ (b : Base). b.change) old.2 ∙ same);
    }))
    | inr dead ↦ inr (inr (λ other there same.
        let old = base_before x lanes new other leaves stands there in
        let low = dead old.0 old.1 (ap (λ (b : Base). b.change) old.2 ∙ same) in
        let equal : old.0.base.ballot ≡ other.base.ballot = ap (λ (b : Base). b.ballot) old.2 in
        omega arith))
  ]
]

-- what the record of a loop has to meet
pub record Fits (later : ℕ) (lanes : List Lane) (c : ℕ) (x : Lane) : Type 0 where
  pub stands : Stands lanes x.base
  pub accounted : (next : Next) → HasNext x next → IsAccounted lanes c x next
  pub drawn : IsDrawn later x
  pub backing : (a : Lane) → Contains lanes a → a.base.change ≡ c → backs c a.base.ballot x ≡ true

-- numbers that were drawn stay so
pub drawn_later : (last later : ℕ) (a : Lane) → last ≤ later → IsDrawn last a → IsDrawn later a
drawn_later last later a up drawn = record {
  parent = drawn.parent;
  above = drawn.above;
  base_own = drawn.base_own;
  next_own = drawn.next_own;
  base_drawn = omega (arith, drawn.base_drawn);
  next_drawn = λ next is. let low = drawn.next_drawn next is in omega arith;
}

-- the value stays, where records still agree and some base still carries its change
pub keeps : (w last later c : ℕ) (content : List ℕ) (lanes new : List Lane) (x : Lane)
    → last ≤ later → HoldsValue w last lanes c content → Leaves x lanes new → Fits later lanes c x → RecordsAgree new
    → (a : Lane) → Contains new a → a.base.change ≡ c
    → HoldsValue w later new c content
keeps w last later c content lanes new x up holds leaves fits agree a there same =
    let before = λ (l : Lane) (h : Contains new l). base_before x lanes new l leaves fits.stands h in
    let below : OthersAreBelow new c = λ one other one_there other_there carries differs.
    let old = before one one_there in
    let old_other = before other other_there in
    let low = holds.sound.below old.0 old_other.0 old.1 old_other.1 (ap (λ (b : Base). b.change) old.2 ∙ carries)
    (λ (e : old_other.0.base.change ≡ c). differs (sym (ap (λ (b : Base). b.change) old_other.2) ∙ e)) in
    let equal : old.0.base.ballot ≡ one.base.ballot = ap (λ (b : Base). b.ballot) old.2 in
    let equal_other : old_other.0.base.ballot ≡ other.base.ballot = ap (λ (b : Base). b.ballot) old_other.2 in
    omega arith in
    record {
      sound = record {
        value = value_change new c a there same below;
        agree = agree;
        backed = λ one one_there carries.
            let old = before one one_there in
            let old_carries = ap (λ (b : Base). b.change) old.2 ∙ carries in
            let enough = holds.sound.backed old.0 old.1 old_carries in
            let more = count_no_less (backs c old.0.base.ballot) (backs c old.0.base.ballot) (λ before after. (after ≡ before) ⊎ (after ≡ x))
            (λ before after is passes. elim is [
              | inl stays ↦ ap (backs c old.0.base.ballot) stays ∙ passes
              | inr written ↦ ap (backs c old.0.base.ballot) written ∙ fits.backing old.0 old.1 old_carries
            ]) lanes new leaves in
            subst (λ ballot. w ≤ count_by (backs c ballot) new) (ap (λ (b : Base). b.ballot) old.2) (omega arith);
        below = below;
        accounted = λ one next one_there is. elim (lane_before x lanes new one leaves one_there) [
          | inl was ↦ accounted_after x lanes new c one next leaves fits.stands (holds.sound.accounted one next was is)
          | inr written ↦ accounted_after x lanes new c one next leaves fits.stands
              (subst (λ (l : Lane). IsAccounted lanes c l next) (sym written) (fits.accounted next (ap (λ (l : Lane). l.next) (sym written) ∙ is)))
        ];
        drawn = λ one one_there. elim (lane_before x lanes new one leaves one_there) [
          | inl was ↦ drawn_later last later one up (holds.sound.drawn one was)
          | inr written ↦ subst (λ (l : Lane). IsDrawn later l) (sym written) fits.drawn
        ];
      };
      contents = λ one one_there carries.
          let old = before one one_there in
          sym (ap (λ (b : Base). b.content) old.2) ∙ holds.contents old.0 old.1 (ap (λ (b : Base). b.change) old.2 ∙ carries);
    }
