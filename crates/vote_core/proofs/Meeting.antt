-- Sets of lanes that have one in common.
use Rattle.std.proofs.Common.{◌≡◌, ◌≢◌, ◌⊎◌, ◌<◌, ◌≤◌, ◌+◌, ℕ, suc, zero, Bool, true, false, List, [], ◌∷◌, replicate, Some, None, length, sym, ap, ◌∙◌, subst, inl, inr, arith, refl, Contains, count_by}
use Rattle.std.specs.Prelude.{◌^◌, IsTrue, nat_lt, bit_and}
use Rattle.std.specs.Int.{IsBitSet}
use Rattle.std.specs.List.{range_with_len}
use Rattle.std.proofs.lemmas.List.Sums.{count_by-le-length}
use Rattle.drive_base.specs.DriveSet.{count_in, is_in}
use Rattle.vote_core.specs.Lane.{Base, Lane, Next, HasNext, HasRecord, lane_at, blank_lane, backs}
use Rattle.vote_core.specs.Loops.{IsFreshBallot, IsFreshChange, IsPrepared, Leaves, marked}
use Rattle.vote_core.specs.Shown.{Overlap}
use Rattle.vote_core.specs.Sound.{HoldsValue, IsLive, LanesAreDrawn}
use Rattle.vote_core.proofs.Backing.{backs_cases}
use Rattle.vote_core.proofs.Counting.{count_by-cons, one_if}
use Rattle.vote_core.proofs.Keeping.{lane_before}
use Rattle.vote_core.proofs.Members.{member_at}
use Rattle.vote_core.proofs.Resting.{fresh_is_calm}

-- a test counts 1 or 0
counts : (b : Bool) → ((b ≡ true) × (one_if b ≡ 1)) ⊎ ((b ≡ false) × (one_if b ≡ 0))
counts true = inl (refl, refl)
counts false = inr (refl, refl)

-- a lane that a set has
bit_set : (n : ℕ) → nat_lt 0 n ≡ true → n ≢ 0
bit_set zero above = absurd (let no : false ≡ true = above in cc)
bit_set (suc n) above = λ e. absurd (omega (arith, e))

-- a lane of the set, counted from a place on, that passes the test
abbrev pub Meets : (Lane → Bool) → ℕ → List Lane → ℕ → Type 0
Meets test set lanes from = (k : ℕ) × (k < length lanes) × IsBitSet set (from + k) × (test (lane_at lanes k) ≡ true)

-- one place later
met_later : (test : Lane → Bool) (set : ℕ) (lane : Lane) (lanes : List Lane) (from : ℕ) → Meets test set lanes (from + 1) → Meets test set (lane ∷ lanes) from
met_later test set lane lanes from (k, low, bit, passes) =
    let same : from + 1 + k ≡ from + suc k = omega arith in
    (suc k, omega arith, subst (λ n. IsBitSet set n) same bit, passes)

-- the lanes that pass and those of the set meet, or are together no more than the lanes
meet_from : (test : Lane → Bool) (set : ℕ) (lanes : List Lane) (from : ℕ)
    → Meets test set lanes from ⊎ (count_by test lanes + count_by (is_in set) (range_with_len from (length lanes)) ≤ length lanes)
meet_from test set [] from = inr (omega arith)
meet_from test set (lane ∷ lanes) from =
    let one = count_by-cons test lane lanes in
    let other = count_by-cons (is_in set) from (range_with_len (from + 1) (length lanes)) in
    elim (meet_from test set lanes (from + 1)) [
      | inl met ↦ inl (met_later test set lane lanes from met)
      | inr few ↦ elim (counts (test lane)) [
        | inl passes ↦ elim (counts (is_in set from)) [
          | inl has ↦
              let same : from ≡ from + 0 = omega arith in
              inl (zero, omega arith, subst (λ n. IsBitSet set n) same (bit_set (bit_and set (2 ^ from)) has.0), passes.0)
          | inr lacks ↦ let h1 = passes.1 in let h2 = lacks.1 in inr (omega arith)
        ]
        | inr fails ↦ let h1 = fails.1 in elim (counts (is_in set from)) [ inl has ↦ let h2 = has.1 in inr (omega arith) | inr lacks ↦ let h2 = lacks.1 in inr (omega arith) ]
      ]
    ]

-- lanes that pass a test and lanes of a set
pub quorums_meet : (test : Lane → Bool) (set : ℕ) (lanes : List Lane) → length lanes < count_by test lanes + count_in set (length lanes)
    → (k : ℕ) × (k < length lanes) × IsBitSet set k × IsTrue (test (lane_at lanes k))
quorums_meet test set lanes many = elim (meet_from test set lanes 0) [
  | inl met ↦ let same : 0 + met.0 ≡ met.0 = omega arith in (met.0, met.1, subst (λ n. IsBitSet set n) same met.2, met.3)
  | inr few ↦ absurd (omega arith)
]

-- a lane that backs a change has a record that carries it
backer_has : (last w c ballot : ℕ) (content : List ℕ) (lanes : List Lane) (a b : Lane) → HoldsValue w last lanes c content → Contains lanes a → Contains lanes b
    → b.base.change ≡ c → backs c ballot a ≡ true → HasRecord a c content
backer_has last w c ballot content lanes a b holds a_there b_there carries backed = elim (backs_cases c ballot a backed) [
  | inl by_base ↦ inl (by_base, holds.contents a a_there by_base)
  | inr by_next ↦
      let has : HasRecord a c by_next.0.content = inr (by_next.0, by_next.1, by_next.2, refl) in
      let same = holds.sound.agree.contents a b c by_next.0.content b.base.content a_there b_there has (inl (carries, refl)) in
      inr (by_next.0, by_next.1, by_next.2, same ∙ holds.contents b b_there carries)
]

-- of any d lanes one has a record of the value
pub value_is_met : (w d last c set : ℕ) (content : List ℕ) (lanes : List Lane) → Overlap (length lanes) w d → HoldsValue w last lanes c content
    → d ≤ count_in set (length lanes)
    → (k : ℕ) × (k < length lanes) × IsBitSet set k × HasRecord (lane_at lanes k) c content
value_is_met w d last c set content lanes quorums holds many =
    let value = holds.sound.value in
    let top = value.lane in
    let backed = holds.sound.backed top value.top.there value.carries in
    let overlap = quorums in
    let met = quorums_meet (backs c top.base.ballot) set lanes (omega arith) in
    (met.0, met.1, met.2, backer_has last w c top.base.ballot content lanes (lane_at lanes met.0) top holds (member_at lanes met.0 met.1) value.top.there value.carries met.3)

-- a blank lane has but the empty record
blank_has : (a : Lane) (c : ℕ) (content : List ℕ) → a ≡ blank_lane → HasRecord a c content → (c ≡ 0) × (content ≡ [])
blank_has a c content is has = elim (subst (λ (l : Lane). HasRecord l c content) is has) [
  | inl by_base ↦ (sym by_base.0, sym by_base.1)
  | inr by_next ↦ absurd (let none : None ≡ Some by_next.0 = by_next.1 in cc)
]

-- a register of which w lanes at least keep no file
pub unlisted_is_blank : (w last c set : ℕ) (content : List ℕ) (lanes : List Lane) → length lanes < w + w → HoldsValue w last lanes c content
    → ((k : ℕ) → k < length lanes → IsBitSet set k → lane_at lanes k ≡ blank_lane) → w ≤ count_in set (length lanes)
    → (c ≡ 0) × (content ≡ []) × HoldsValue w last (replicate (length lanes) blank_lane) 0 []
unlisted_is_blank w last c set content lanes twice holds blank many =
    let met = value_is_met w w last c set content lanes twice holds many in
    let empty = blank_has (lane_at lanes met.0) c content (blank met.0 met.1 met.2) met.3 in
    let value = holds.sound.value in
    let backed = holds.sound.backed value.lane value.top.there value.carries in
    let within = count_by-le-length (backs c value.lane.base.ballot) lanes in
    let inside = met.1 in
    (empty.0, empty.1, (fresh_is_calm (length lanes) w last (omega arith) (omega arith)).0)

-- a number above the last one drawn
pub above_last_is_fresh : (last later number : ℕ) (lanes : List Lane) → LanesAreDrawn last lanes → last < number → number ≤ later
    → IsFreshBallot later lanes number × IsFreshChange lanes number
above_last_is_fresh last later number lanes drawn above low = (
  record {
    highest = λ a there. record {
      base = (let h = (drawn a there).base_drawn in omega arith);
      next = λ n is. (let h = (drawn a there).next_drawn n is in omega arith);
    };
    drawn = low;
  },
  record {
    bases = λ a there same. (let own = (drawn a there).base_own in let h = (drawn a there).base_drawn in absurd (omega arith));
    nexts = λ a next there is same. (let own = (drawn a there).next_own next is in let h = (drawn a there).next_drawn next is in absurd (omega arith));
  },
)

-- on sound lanes a next of another change over the value's base may become the value
pub live_is : (w last c : ℕ) (content : List ℕ) (lanes : List Lane) (a : Lane) (next : Next) → HoldsValue w last lanes c content
    → Contains lanes a → HasNext a next → a.base.change ≡ c → next.change ≢ c → IsLive lanes c a next
live_is w last c content lanes a next holds there is base other = elim (holds.sound.accounted a next there is) [
  | inl own ↦ absurd (other own)
  | inr rest ↦ elim rest [
    | inl live ↦ live
    | inr dead ↦ let low = dead a there base in let up = (holds.sound.drawn a there).above next is in absurd (omega arith)
  ]
]

-- what may become the value after a loop
pub live_is_old_or_own : (w last c : ℕ) (content : List ℕ) (lanes new : List Lane) (x a : Lane) (next : Next) → HoldsValue w last lanes c content
    → Leaves x lanes new → Contains new a → HasNext a next → IsLive new c a next → (Contains lanes a × IsLive lanes c a next) ⊎ (a ≡ x)
live_is_old_or_own w last c content lanes new x a next holds leaves there is live = elim (lane_before x lanes new a leaves there) [
  | inl was ↦ inl (was, live_is w last c content lanes a next holds was is live.base (λ own. live.unmarked a there (live.base ∙ sym own)))
  | inr mine ↦ inr mine
]

-- nothing may become the value once another change is marked
pub mark_leaves_none_live : (c : ℕ) (lanes new : List Lane) (base : Base) (next other : Next) (a : Lane)
    → IsPrepared lanes c base next → next.change ≢ c → Leaves (marked next) lanes new → Contains new a → HasNext a other
    → IsLive new next.change a other → ⊥
mark_leaves_none_live c lanes new base next other a ready differs leaves there is live = elim (lane_before (marked next) lanes new a leaves there) [
  | inl was ↦ elim ready.over [ inl own ↦ differs own | inr over ↦ over.1 a was live.base ]
  | inr mine ↦ (let none : None ≡ Some other = ap (λ (l : Lane). l.next) (sym mine) ∙ is in absurd cc)
]
