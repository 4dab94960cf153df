-- The prepare of a forward over sound lanes.
use Rattle.std.proofs.Common.{◌≡◌, ◌≢◌, ◌<◌, ◌≤◌, ℕ, suc, zero, Bool, false, List, [], ◌∷◌, map, length, sym, ap, ◌∙◌, subst, inl, inr, arith, refl, Contains}
use Rattle.std.proofs.lemmas.Bool.{cases_Bool, both_ways}
use Rattle.vote_core.specs.Row.{is_good}
use Rattle.vote_core.specs.Lane.{Base, Lane, Next, HasNext, HasRecord, lane_at}
use Rattle.vote_core.specs.Sound.{RecordsAgree, IsAccounted, HoldsValue}
use Rattle.vote_core.specs.Loops.{Leaves, LeavesAt, Stands, IsAgain, IsPrepared, prepared}
use Rattle.vote_core.specs.Shown.{IsRead, FindsPending}
use Rattle.vote_core.specs.Verdict.{row_at}
use Rattle.vote_core.specs.declared.row.Row.{Row}
use Rattle.vote_core.proofs.Members.{member_at, member_head, member_tail, place_of}
use Rattle.vote_core.proofs.Backing.{backs_by_base, backs_by_next}
use Rattle.vote_core.proofs.Keeping.{Fits, keeps, base_before}
use Rattle.vote_core.proofs.Preparing.{change_same, above_base, prepared_drawn, record_before, next_before, base_stays, others_below}

-- what targets alone are left with is left of all
pub leaves_any : (targets : List Bool) (x : Lane) (lanes new : List Lane) → LeavesAt targets x lanes new → Leaves x lanes new
leaves_any [] x [] [] leaves = leaves
leaves_any [] x [] (after ∷ new) leaves = absurd leaves
leaves_any [] x (before ∷ lanes) new leaves = absurd leaves
leaves_any (target ∷ targets) x [] new leaves = absurd leaves
leaves_any (target ∷ targets) x (before ∷ lanes) [] leaves = absurd leaves
leaves_any (target ∷ targets) x (before ∷ lanes) (after ∷ new) leaves =
    (elim leaves.0 [ inl stays ↦ inl stays | inr written ↦ inr written.1 ], leaves_any targets x lanes new leaves.1)

-- a lane that wasn't read is as before
kept_unread : (rows : List Row) (x : Lane) (lanes new : List Lane) (k : ℕ) → LeavesAt (map is_good rows) x lanes new → k < length lanes
    → is_good (row_at rows k) ≡ false → Contains new (lane_at lanes k)
kept_unread [] x [] new k leaves inside bad = let no_way : ⊥ = omega arith in absurd no_way
kept_unread [] x (before ∷ lanes) new k leaves inside bad = absurd leaves
kept_unread (row ∷ rows) x [] new k leaves inside bad = let no_way : ⊥ = omega arith in absurd no_way
kept_unread (row ∷ rows) x (before ∷ lanes) [] k leaves inside bad = absurd leaves
kept_unread (row ∷ rows) x (before ∷ lanes) (after ∷ new) zero leaves inside bad = elim leaves.0 [
  | inl stays ↦ subst (λ (l : Lane). Contains (after ∷ new) l) stays (member_head after new)
  | inr written ↦ absurd (both_ways (is_good row) bad written.0)
]
kept_unread (row ∷ rows) x (before ∷ lanes) (after ∷ new) (suc k) leaves inside bad =
    member_tail after new _ (kept_unread rows x lanes new k leaves.1 (omega arith) bad)

-- some base still carries the value's change, where no lane that was read has it
value_unread : (rows : List Row) (x : Lane) (lanes new : List Lane) (c : ℕ) (a : Lane) → LeavesAt (map is_good rows) x lanes new → Contains lanes a → a.base.change ≡ c
    → ((k : ℕ) → IsRead rows lanes k → (lane_at lanes k).base.change ≢ c)
    → (b : Lane) × Contains new b × (b.base.change ≡ c)
value_unread rows x lanes new c a leaves there same hidden =
    let place = place_of lanes a there in
    let carries : (lane_at lanes place.0).base.change ≡ c = ap (λ (l : Lane). l.base.change) place.2 ∙ same in
    elim (cases_Bool (is_good (row_at rows place.0))) [
      | inl good ↦ absurd (hidden place.0 (record { there = place.1; good = good }) carries)
      | inr bad ↦ (lane_at lanes place.0, kept_unread rows x lanes new place.0 leaves place.1 bad, carries)
    ]

-- records agree after a change that is there already was proposed again
agree_again : (later : ℕ) (lanes new : List Lane) (base : Base) (from : Lane) (found next : Next) → Leaves (prepared base next) lanes new → Stands lanes base
    → Contains lanes from → HasNext from found → IsAgain later lanes base found next → RecordsAgree lanes → RecordsAgree new
agree_again later lanes new base from found next leaves stands there is again agree =
    let stood : (a : Lane) (d : ℕ) (x : List ℕ) → Contains new a → HasRecord a d x → (old : Lane) × Contains lanes old × HasRecord old d x
    = λ a d x a_there has. elim (record_before lanes new base next a d x leaves stands a_there has) [
      | inl old ↦ old
      | inr own ↦ (from, there, inr (found, is, sym again.change ∙ own.0, sym again.content ∙ own.1))
    ] in
    let proposed : (a : Lane) (m : Next) → Contains new a → HasNext a m
    → (old : Lane) × (k : Next) × Contains lanes old × HasNext old k × (k.change ≡ m.change) × (k.adds ≡ m.adds)
    = λ a m a_there has. elim (next_before lanes new base next a m leaves a_there has) [
      | inl old ↦ (a, m, old, has, refl, refl)
      | inr own ↦ (from, found, there, is, sym again.change ∙ ap (λ (k : Next). k.change) own, sym again.adds ∙ ap (λ (k : Next). k.adds) own)
    ] in
    record {
      contents = λ a b d x y a_there b_there has_a has_b.
          let old_a = stood a d x a_there has_a in
          let old_b = stood b d y b_there has_b in
          agree.contents old_a.0 old_b.0 d x y old_a.1 old_b.1 old_a.2 old_b.2;
      data_added = λ a b m n a_there b_there has_m has_n same.
          let old_a = proposed a m a_there has_m in
          let old_b = proposed b n b_there has_n in
          sym old_a.5 ∙ (agree.data_added old_a.0 old_b.0 old_a.1 old_b.1 old_a.2 old_b.2 old_a.3 old_b.3 (old_a.4 ∙ (same ∙ sym old_b.4)) ∙ old_b.5);
    }

-- the prepare of a forward keeps the value
pub forward_keeps : (w last later c : ℕ) (content : List ℕ) (lanes new : List Lane) (rows : List Row) (base_lane lane : ℕ) (found next : Next)
    → last ≤ later → HoldsValue w last lanes c content → FindsPending rows lanes c base_lane lane found
    → IsAgain later lanes (lane_at lanes base_lane).base found next
    → LeavesAt (map is_good rows) (prepared (lane_at lanes base_lane).base next) lanes new
    → HoldsValue w later new c content × IsPrepared new c (lane_at lanes base_lane).base next
forward_keeps w last later c content lanes new rows base_lane lane found next up holds finds again leaves_at =
    let base = (lane_at lanes base_lane).base in
    let x = prepared base next in
    let leaves = leaves_any (map is_good rows) x lanes new leaves_at in
    let value = holds.sound.value in
    let stands : Stands lanes base = (lane_at lanes base_lane, member_at lanes base_lane finds.base_read.there, refl) in
    let from = lane_at lanes lane in
    let from_there = member_at lanes lane finds.next_read.there in
    let above = above_base later lanes base next.ballot again.above stands in
    let found_below = (again.above.highest from from_there).next found finds.next_is in
    let found_own = (holds.sound.drawn from from_there).next_own found finds.next_is in
    let change_is = again.change in
    let drawn = prepared_drawn last later lanes base next up holds.sound.drawn stands again.parent above (omega arith) again.above.drawn in
    let agree = agree_again later lanes new base from found next leaves stands from_there finds.next_is again holds.sound.agree in
    let others = others_below later lanes new base next leaves again.above in
    elim finds.found [
      | inl own ↦
          let same : next.change ≡ c = again.change ∙ own.same in
          let fits : Fits later lanes c x = record {
            stands = stands;
            accounted = λ n is. let is_next : next ≡ n = cc in subst (λ (m : Next). IsAccounted lanes c x m) is_next (inl same);
            drawn = drawn;
            backing = λ a there carries. let high = (again.above.highest a there).base in backs_by_next c a.base.ballot x next refl same (omega arith);
          } in
          let stays = value_unread rows x lanes new c value.lane leaves_at value.top.there value.carries own.hidden in (
            keeps w last later c content lanes new x up holds leaves fits agree stays.0 stays.1 stays.2,
            record { others = others; over = inl same },
          )
      | inr other ↦
          let unmarked : (a : Lane) → Contains lanes a → a.base.change ≢ next.change = λ a there equal. other.live.unmarked a there (equal ∙ again.change) in
          let fits : Fits later lanes c x = record {
            stands = stands;
            accounted = λ n is. let is_next : next ≡ n = cc in subst (λ (m : Next). IsAccounted lanes c x m) is_next
                (inr (inl (record { parent = again.parent ∙ other.value; base = other.value; unmarked = unmarked })));
            drawn = drawn;
            backing = λ a there carries. backs_by_base c a.base.ballot x other.value;
          } in
          let stays = base_stays c lanes new x value.lane leaves value.top.there value.carries other.value in (
            keeps w last later c content lanes new x up holds leaves fits agree stays.0 stays.1 stays.2,
            record {
              others = others;
              over = inr (
                other.value,
                λ a there carries.
                    let old = base_before x lanes new a leaves stands there in unmarked old.0 old.1 (change_same _ _ old.2 ∙ carries),
              );
            },
          )
    ]
