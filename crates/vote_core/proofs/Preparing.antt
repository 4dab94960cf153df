-- Prepares and mends over sound lanes.
use Rattle.std.proofs.Common.{◌≡◌, ◌⊎◌, ◌<◌, ◌≤◌, ℕ, List, None, Some, sym, ap, ◌∙◌, subst, inl, inr, arith, Contains}
use Rattle.vote_core.specs.Lane.{Base, Lane, Next, HasNext, HasRecord}
use Rattle.vote_core.specs.Sound.{RecordsAgree, IsAccounted, IsDrawn, LanesAreDrawn, HoldsValue}
use Rattle.vote_core.specs.Loops.{Leaves, Stands, BallotsAreBelow, IsFreshBallot, IsFreshChange, IsOwn, IsPrepared, prepared, mended}
use Rattle.vote_core.proofs.Members.{member_after}
use Rattle.vote_core.proofs.Backing.{backs_by_base}
use Rattle.vote_core.proofs.Keeping.{Fits, keeps, lane_before, base_before}

-- the change, the content and the ballot of equal bases
pub change_same : (a b : Base) → a ≡ b → a.change ≡ b.change
change_same a b same = ap (λ (x : Base). x.change) same

-- a base that stands on sound lanes is that of a lane of theirs, so what holds of that lane's base holds of it
base_drawn : (last : ℕ) (lanes : List Lane) (base : Base) → LanesAreDrawn last lanes → Stands lanes base → (base.change ≤ base.ballot) × (base.ballot ≤ last)
base_drawn last lanes base drawn stands =
    let its = drawn stands.0 stands.1 in
    subst (λ (b : Base). (b.change ≤ b.ballot) × (b.ballot ≤ last)) stands.2 (its.base_own, its.base_drawn)

-- a ballot above all records is above a base that stands
pub above_base : (last : ℕ) (lanes : List Lane) (base : Base) (ballot : ℕ) → IsFreshBallot last lanes ballot → Stands lanes base → base.ballot < ballot
above_base last lanes base ballot fresh stands = subst (λ (b : Base). b.ballot < ballot) stands.2 (fresh.highest stands.0 stands.1).base

-- the numbers of a prepared record are lawful
pub prepared_drawn : (last later : ℕ) (lanes : List Lane) (base : Base) (next : Next) → last ≤ later → LanesAreDrawn last lanes → Stands lanes base
    → next.parent ≡ base.change → base.ballot < next.ballot → next.change ≤ next.ballot → next.ballot ≤ later → IsDrawn later (prepared base next)
prepared_drawn last later lanes base next up drawn stands parent above own low =
    let numbers = base_drawn last lanes base drawn stands in
    record {
      parent = λ n is. let same : next ≡ n = cc in subst (λ (m : Next). m.parent ≡ base.change) same parent;
      above = λ n is. let same : next ≡ n = cc in subst (λ (m : Next). base.ballot < m.ballot) same above;
      base_own = numbers.0;
      next_own = λ n is. let same : next ≡ n = cc in subst (λ (m : Next). m.change ≤ m.ballot) same own;
      base_drawn = omega (arith, numbers.1);
      next_drawn = λ n is. let same : next ≡ n = cc in subst (λ (m : Next). m.ballot ≤ later) same low;
    }

-- a record of a prepared lane is one that stood before, or the prepared change's
pub record_before : (lanes new : List Lane) (base : Base) (next : Next) (a : Lane) (c : ℕ) (content : List ℕ) → Leaves (prepared base next) lanes new → Stands lanes base
    → Contains new a → HasRecord a c content
    → ((old : Lane) × Contains lanes old × HasRecord old c content) ⊎ ((next.change ≡ c) × (next.content ≡ content))
record_before lanes new base next a c content leaves stands there has = elim (lane_before (prepared base next) lanes new a leaves there) [
  | inl was ↦ inl (a, was, has)
  | inr written ↦ elim (subst (λ (l : Lane). HasRecord l c content) written has) [
    | inl by_base ↦ inl (stands.0, stands.1, inl (change_same _ _ stands.2 ∙ by_base.0, ap (λ (b : Base). b.content) stands.2 ∙ by_base.1))
    | inr by_next ↦ let same : next ≡ by_next.0 = cc in inr (ap (λ (n : Next). n.change) same ∙ by_next.2, ap (λ (n : Next). n.content) same ∙ by_next.3)
  ]
]

-- a next of a prepared lane was there before, or is the prepared one
pub next_before : (lanes new : List Lane) (base : Base) (next : Next) (a : Lane) (n : Next) → Leaves (prepared base next) lanes new
    → Contains new a → HasNext a n → Contains lanes a ⊎ (next ≡ n)
next_before lanes new base next a n leaves there is = elim (lane_before (prepared base next) lanes new a leaves there) [
  | inl was ↦ inl was
  | inr written ↦ inr (let its : Some next ≡ Some n = ap (λ (l : Lane). l.next) (sym written) ∙ is in cc)
]

-- a fresh change is carried by no record
not_carried : (lanes : List Lane) (c : ℕ) (old : Lane) (content : List ℕ) → IsFreshChange lanes c → Contains lanes old → HasRecord old c content → ⊥
not_carried lanes c old content fresh there has = elim has [
  | inl by_base ↦ fresh.bases old there by_base.0
  | inr by_next ↦ fresh.nexts old by_next.0 there by_next.1 by_next.2
]

-- records agree after the prepare of a fresh change
agree_own : (lanes new : List Lane) (base : Base) (next : Next) → Leaves (prepared base next) lanes new → Stands lanes base → IsFreshChange lanes next.change
    → RecordsAgree lanes → RecordsAgree new
agree_own lanes new base next leaves stands fresh agree = record {
  contents = λ a b c x y a_there b_there has_a has_b.
      elim (record_before lanes new base next a c x leaves stands a_there has_a) [
        | inl old_a ↦ elim (record_before lanes new base next b c y leaves stands b_there has_b) [
          | inl old_b ↦ agree.contents old_a.0 old_b.0 c x y old_a.1 old_b.1 old_a.2 old_b.2
          | inr new_b ↦ absurd (not_carried lanes next.change old_a.0 x fresh old_a.1 (subst (λ d. HasRecord old_a.0 d x) (sym new_b.0) old_a.2))
        ]
        | inr new_a ↦ elim (record_before lanes new base next b c y leaves stands b_there has_b) [
          | inl old_b ↦ absurd (not_carried lanes next.change old_b.0 y fresh old_b.1 (subst (λ d. HasRecord old_b.0 d y) (sym new_a.0) old_b.2))
          | inr new_b ↦ sym new_a.1 ∙ new_b.1
        ]
      ];
  data_added = λ a b m n a_there b_there has_m has_n same.
      elim (next_before lanes new base next a m leaves a_there has_m) [
        | inl old_a ↦ elim (next_before lanes new base next b n leaves b_there has_n) [
          | inl old_b ↦ agree.data_added a b m n old_a old_b has_m has_n same
          | inr new_b ↦ absurd (fresh.nexts a m old_a has_m (same ∙ ap (λ (k : Next). k.change) (sym new_b)))
        ]
        | inr new_a ↦ elim (next_before lanes new base next b n leaves b_there has_n) [
          | inl old_b ↦ absurd (fresh.nexts b n old_b has_n (sym same ∙ ap (λ (k : Next). k.change) (sym new_a)))
          | inr new_b ↦ ap (λ (k : Next). k.adds) (sym new_a ∙ new_b)
        ]
      ];
}

-- a value that a loop of writes of its own change can't take away
pub base_stays : (c : ℕ) (lanes new : List Lane) (x a : Lane) → Leaves x lanes new → Contains lanes a → a.base.change ≡ c → x.base.change ≡ c
    → (b : Lane) × Contains new b × (b.base.change ≡ c)
base_stays c lanes new x a leaves there same x_same =
    let after = member_after (λ before after. (after ≡ before) ⊎ (after ≡ x)) lanes new a leaves there in (
      after.0,
      after.1,
      elim after.2 [
        | inl stays ↦ ap (λ (l : Lane). l.base.change) stays ∙ same
        | inr written ↦ ap (λ (l : Lane). l.base.change) written ∙ x_same
      ],
    )

-- ballots of lanes after a prepare
pub others_below : (later : ℕ) (lanes new : List Lane) (base : Base) (next : Next) → Leaves (prepared base next) lanes new → IsFreshBallot later lanes next.ballot
    → (a : Lane) → Contains new a → (a ≡ prepared base next) ⊎ BallotsAreBelow next.ballot a
others_below later lanes new base next leaves fresh a there = elim (lane_before (prepared base next) lanes new a leaves there) [
  | inl was ↦ inr (fresh.highest a was)
  | inr written ↦ inl written
]

-- a prepare of one's own keeps the value
pub prepare_keeps : (w last later c : ℕ) (content : List ℕ) (lanes new : List Lane) (base : Base) (next : Next)
    → last ≤ later → HoldsValue w last lanes c content → Stands lanes base → base.change ≡ c → IsOwn later lanes c next
    → Leaves (prepared base next) lanes new
    → HoldsValue w later new c content × IsPrepared new c base next
prepare_keeps w last later c content lanes new base next up holds stands same own leaves =
    let x = prepared base next in
    let value = holds.sound.value in
    let above = above_base later lanes base next.ballot own.ballot stands in
    let fits : Fits later lanes c x = record {
      stands = stands;
      accounted = λ n is. let is_next : next ≡ n = cc in
          subst (λ (m : Next). IsAccounted lanes c x m) is_next (inr (inl (record { parent = own.parent; base = same; unmarked = own.change.bases })));
      drawn = prepared_drawn last later lanes base next up holds.sound.drawn stands (own.parent ∙ sym same) above own.own own.ballot.drawn;
      backing = λ a there carries. backs_by_base c a.base.ballot x same;
    } in
    let stays = base_stays c lanes new x value.lane leaves value.top.there value.carries same in (
      keeps w last later c content lanes new x up holds leaves fits (agree_own lanes new base next leaves stands own.change holds.sound.agree) stays.0 stays.1 stays.2,
      record {
        others = others_below later lanes new base next leaves own.ballot;
        over = inr (
          same,
          λ a there carries. let old = base_before x lanes new a leaves stands there in
              own.change.bases old.0 old.1 (change_same _ _ old.2 ∙ carries),
        );
      },
    )

-- a mend's records stood before
pub mend_record : (lanes new : List Lane) (base : Base) (a : Lane) (c : ℕ) (content : List ℕ) → Leaves (mended base) lanes new → Stands lanes base
    → Contains new a → HasRecord a c content → (old : Lane) × Contains lanes old × HasRecord old c content
mend_record lanes new base a c content leaves stands there has = elim (lane_before (mended base) lanes new a leaves there) [
  | inl was ↦ (a, was, has)
  | inr written ↦ elim (subst (λ (l : Lane). HasRecord l c content) written has) [
    | inl by_base ↦ (stands.0, stands.1, inl (change_same _ _ stands.2 ∙ by_base.0, ap (λ (b : Base). b.content) stands.2 ∙ by_base.1))
    | inr by_next ↦ absurd (let none : None ≡ Some by_next.0 = by_next.1 in cc)
  ]
]

-- and its nexts
pub mend_next : (lanes new : List Lane) (base : Base) (a : Lane) (n : Next) → Leaves (mended base) lanes new → Contains new a → HasNext a n → Contains lanes a
mend_next lanes new base a n leaves there is = elim (lane_before (mended base) lanes new a leaves there) [
  | inl was ↦ was
  | inr written ↦ absurd (let its : None ≡ Some n = ap (λ (l : Lane). l.next) (sym written) ∙ is in cc)
]

-- the numbers of a mended record are lawful
pub mended_drawn : (last : ℕ) (lanes : List Lane) (base : Base) → LanesAreDrawn last lanes → Stands lanes base → IsDrawn last (mended base)
mended_drawn last lanes base drawn stands =
    let numbers = base_drawn last lanes base drawn stands in
    record {
      parent = λ n is. absurd (let none : None ≡ Some n = is in cc);
      above = λ n is. absurd (let none : None ≡ Some n = is in cc);
      base_own = numbers.0;
      next_own = λ n is. absurd (let none : None ≡ Some n = is in cc);
      base_drawn = numbers.1;
      next_drawn = λ n is. absurd (let none : None ≡ Some n = is in cc);
    }

-- a mend keeps the value
pub mend_keeps : (w last c : ℕ) (content : List ℕ) (lanes new : List Lane) (base : Base)
    → HoldsValue w last lanes c content → Stands lanes base → base.change ≡ c → Leaves (mended base) lanes new
    → HoldsValue w last new c content
mend_keeps w last c content lanes new base holds stands same leaves =
    let x = mended base in
    let value = holds.sound.value in
    let fits : Fits last lanes c x = record {
      stands = stands;
      accounted = λ n is. absurd (let none : None ≡ Some n = is in cc);
      drawn = mended_drawn last lanes base holds.sound.drawn stands;
      backing = λ a there carries. backs_by_base c a.base.ballot x same;
    } in
    let stays = base_stays c lanes new x value.lane leaves value.top.there value.carries same in
    let agree : RecordsAgree new = record {
      contents = λ a b d y z a_there b_there has_a has_b.
          let old_a = mend_record lanes new base a d y leaves stands a_there has_a in
          let old_b = mend_record lanes new base b d z leaves stands b_there has_b in
          holds.sound.agree.contents old_a.0 old_b.0 d y z old_a.1 old_b.1 old_a.2 old_b.2;
      data_added = λ a b m n a_there b_there has_m has_n same_change.
          holds.sound.agree.data_added a b m n (mend_next lanes new base a m leaves a_there has_m) (mend_next lanes new base b n leaves b_there has_n) has_m has_n same_change;
    } in
    keeps w last last c content lanes new x (omega arith) holds leaves fits agree stays.0 stays.1 stays.2
