-- Calm registers, fresh ones, dead changes, and numbers.
use Rattle.std.proofs.Common.{◌≡◌, ◌≢◌, ◌⊎◌, ◌<◌, ◌≤◌, ℕ, suc, zero, Bool, true, List, [], replicate, None, Some, length, sym, ap, ◌∙◌, subst, inl, inr, arith, refl, Contains, count_by}
use Rattle.std.proofs.lemmas.Bool.{cases_eq}
use Rattle.std.proofs.lemmas.List.{length-replicate, get_or-replicate}
use Rattle.vote_core.specs.Lane.{Base, Lane, Next, HasNext, HasRecord, lane_at, blank_lane, has_base_of, backs}
use Rattle.vote_core.specs.Sound.{IsDrawn, LanesAreDrawn, HoldsValue}
use Rattle.vote_core.specs.Calm.{IsCalm}
use Rattle.vote_core.specs.History.{IsDead}
use Rattle.vote_core.specs.Loops.{Leaves, Stands, BallotsAreBelow, IsFreshBallot, IsFreshChange, mended, prepared, marked}
use Rattle.vote_core.specs.Shown.{ShowLanes, Overlap}
use Rattle.vote_core.specs.Verdict.{VerdictRule, good_rows}
use Rattle.vote_core.specs.declared.row.Row.{Row}
use Rattle.vote_core.specs.declared.verdict.Verdict.{Verdict}
use Rattle.vote_core.specs.declared.verdict.Verdict.TheVariants.{TooFew, Settled, Pending}
use Rattle.vote_core.proofs.Members.{member_at, place_of}
use Rattle.vote_core.proofs.Counting.{count_no_less, count_by-cons, one_if, meets}
use Rattle.vote_core.proofs.Backing.{has_base, has_base_is}
use Rattle.vote_core.proofs.Showing.{shown_length}
use Rattle.vote_core.proofs.Judging.{IsLook, pending_found}
use Rattle.vote_core.proofs.Keeping.{lane_before, drawn_later}
use Rattle.vote_core.proofs.Preparing.{prepared_drawn, mended_drawn, mend_next}
use Rattle.vote_core.proofs.Marking.{marked_drawn}

-- on a calm register a look finds nothing on its way
pub calm_settles : (w d last c : ℕ) (content : List ℕ) (lanes : List Lane) (rows : List Row) (verdict : Verdict)
    → Overlap (length lanes) w d → HoldsValue w last lanes c content → IsCalm w lanes c → ShowLanes rows lanes → d ≤ good_rows rows
    → VerdictRule w d rows verdict
    → (lane : ℕ) × (verdict ≡ Settled lane)
calm_settles w d last c content lanes rows (TooFew good) quorums holds calm shown enough rule = let few = rule.0 in absurd (omega arith)
calm_settles w d last c content lanes rows (Settled lane) quorums holds calm shown enough rule = (lane, refl)
calm_settles w d last c content lanes rows (Pending base_lane lane k u) quorums holds calm shown enough rule =
    let look : IsLook w d last c content lanes rows = record { quorums = quorums; holds = holds; shown = shown; enough = enough } in
    let pending = pending_found w d last c content lanes rows base_lane lane look rule.1 rule.2 rule.3 in
    let next = pending.0 in
    let finds = pending.1 in
    elim finds.found [
      | inr other ↦
          absurd (calm.quiet (lane_at lanes lane) next (member_at lanes lane finds.next_read.there) finds.next_is other.live)
      | inl own ↦ elim (meets (has_base_of c) rows lanes (shown_length rows lanes shown)) [
        | inl found ↦ absurd (own.hidden found.0 found.1 (has_base_is c (lane_at lanes found.0) found.2))
        | inr few ↦ let held = calm.held in let overlap = quorums in absurd (omega arith)
      ]
    ]

-- a mend leaves a calm register calm
pub mend_stays_calm : (w last c : ℕ) (content : List ℕ) (lanes new : List Lane) (base : Base)
    → HoldsValue w last lanes c content → IsCalm w lanes c → Stands lanes base → base.change ≡ c → Leaves (mended base) lanes new
    → IsCalm w new c
mend_stays_calm w last c content lanes new base holds calm stands same leaves =
    let more = count_no_less (has_base_of c) (has_base_of c) (λ before after. (after ≡ before) ⊎ (after ≡ mended base))
    (λ before after is passes. elim is [
      | inl stays ↦ ap (has_base_of c) stays ∙ passes
      | inr written ↦ ap (has_base_of c) written ∙ has_base c (mended base) same
    ]) lanes new leaves in
    let held = calm.held in
    record {
      held = omega arith;
      quiet = λ a n there is live.
          let was = mend_next lanes new base a n leaves there is in
          let above = (holds.sound.drawn a was).above n is in
          elim (holds.sound.accounted a n was is) [
            | inl own ↦ live.unmarked a there (live.base ∙ sym own)
            | inr rest ↦ elim rest [
              | inl was_live ↦ calm.quiet a n was is was_live
              | inr dead ↦ let low = dead a was live.base in omega arith
            ]
          ];
    }

-- numbers stay lawful where the loop's record has lawful ones
stays_drawn : (last later : ℕ) (lanes new : List Lane) (x : Lane) → last ≤ later → LanesAreDrawn last lanes → IsDrawn later x → Leaves x lanes new → LanesAreDrawn later new
stays_drawn last later lanes new x up drawn lawful leaves a there = elim (lane_before x lanes new a leaves there) [
  | inl was ↦ drawn_later last later a up (drawn a was)
  | inr is ↦ subst (λ (l : Lane). IsDrawn later l) (sym is) lawful
]

-- so they do through a prepare
pub prepare_stays_drawn : (last later : ℕ) (lanes new : List Lane) (base : Base) (next : Next)
    → last ≤ later → LanesAreDrawn last lanes → Stands lanes base
    → next.parent ≡ base.change → base.ballot < next.ballot → next.change ≤ next.ballot → next.ballot ≤ later
    → Leaves (prepared base next) lanes new
    → LanesAreDrawn later new
prepare_stays_drawn last later lanes new base next up drawn stands parent above own low leaves =
    stays_drawn last later lanes new (prepared base next) up drawn (prepared_drawn last later lanes base next up drawn stands parent above own low) leaves

-- through a mark
pub mark_stays_drawn : (last : ℕ) (lanes new : List Lane) (base : Base) (next : Next)
    → LanesAreDrawn last lanes → Contains lanes (prepared base next) → Leaves (marked next) lanes new
    → LanesAreDrawn last new
mark_stays_drawn last lanes new base next drawn there leaves =
    stays_drawn last last lanes new (marked next) (omega arith) drawn (marked_drawn last base next (drawn (prepared base next) there)) leaves

-- and through a mend
pub mend_stays_drawn : (last : ℕ) (lanes new : List Lane) (base : Base)
    → LanesAreDrawn last lanes → Stands lanes base → Leaves (mended base) lanes new
    → LanesAreDrawn last new
mend_stays_drawn last lanes new base drawn stands leaves =
    stays_drawn last last lanes new (mended base) (omega arith) drawn (mended_drawn last lanes base drawn stands) leaves

-- a dead change stays dead where no next comes that carries it
pub dead_stays_dead : (c dead : ℕ) (lanes new : List Lane) (x : Lane)
    → IsDead lanes c dead → ((next : Next) → HasNext x next → next.change ≢ dead) → Leaves x lanes new
    → IsDead new c dead
dead_stays_dead c dead lanes new x was other leaves = record {
  other = was.other;
  orphan = λ a n there is carries. elim (lane_before x lanes new a leaves there) [
    | inl old ↦ was.orphan a n old is carries
    | inr written ↦ absurd (other n (ap (λ (l : Lane). l.next) (sym written) ∙ is) carries)
  ];
}

-- and is never pending
pub dead_is_never_pending : (w d last c : ℕ) (content : List ℕ) (lanes : List Lane) (rows : List Row) (base_lane lane k u dead : ℕ)
    → Overlap (length lanes) w d → HoldsValue w last lanes c content → ShowLanes rows lanes → IsDead lanes c dead
    → VerdictRule w d rows (Pending base_lane lane k u)
    → (next : Next) → HasNext (lane_at lanes lane) next → next.change ≢ dead
dead_is_never_pending w d last c content lanes rows base_lane lane k u dead quorums holds shown gone rule next is carries =
    let look : IsLook w d last c content lanes rows = record { quorums = quorums; holds = holds; shown = shown; enough = rule.0 } in
    let pending = pending_found w d last c content lanes rows base_lane lane look rule.1 rule.2 rule.3 in
    let finds = pending.1 in
    let one : Some pending.0 ≡ Some next = sym finds.next_is ∙ is in
    let same : pending.0 ≡ next = cc in
    elim finds.found [
      | inl own ↦ gone.other (sym carries ∙ (ap (λ (n : Next). n.change) (sym same) ∙ own.same))
      | inr other ↦ gone.orphan (lane_at lanes lane) next (member_at lanes lane finds.next_read.there) is carries
          (ap (λ (n : Next). n.parent) (sym same) ∙ other.live.parent)
    ]

-- sound lanes have one value
pub one_value : (w last c w' last' c' : ℕ) (content content' : List ℕ) (lanes : List Lane)
    → HoldsValue w last lanes c content → HoldsValue w' last' lanes c' content'
    → (c ≡ c') × (content ≡ content')
one_value w last c w' last' c' content content' lanes one other =
    let top = one.sound.value in
    let top' = other.sound.value in
    let up = top.top.greatest top'.lane top'.top.there in
    let carries : top.lane.base.change ≡ c' = elim (cases_eq top.lane.base.change c') [
      | inl same ↦ same
      | inr differs ↦ let low = other.sound.below top'.lane top.lane top'.top.there top.top.there top'.carries differs in
          let up' = top'.top.greatest top.lane top.top.there in absurd (omega arith)
    ] in (
      sym top.carries ∙ carries,
      sym (one.contents top.lane top.top.there top.carries) ∙ other.contents top.lane top.top.there carries,
    )

-- and keep it while numbers are drawn
pub drawing_keeps : (w last later c : ℕ) (content : List ℕ) (lanes : List Lane)
    → last ≤ later → HoldsValue w last lanes c content → HoldsValue w later lanes c content
drawing_keeps w last later c content lanes up holds = record {
  sound = record {
    value = holds.sound.value;
    agree = holds.sound.agree;
    backed = holds.sound.backed;
    below = holds.sound.below;
    accounted = holds.sound.accounted;
    drawn = λ a there. drawn_later last later a up (holds.sound.drawn a there);
  };
  contents = holds.contents;
}

-- each lane of a fresh register is blank
blank : (n : ℕ) (a : Lane) → Contains (replicate n blank_lane) a → blank_lane ≡ a
blank n a there =
    let lanes = replicate n blank_lane in
    let place = place_of lanes a there in
    let long = length-replicate n blank_lane in
    sym (get_or-replicate n place.0 blank_lane blank_lane (omega (arith, place.1))) ∙ place.2

-- so all of them pass what a blank lane passes
fresh_count : (n : ℕ) (p : Lane → Bool) → p blank_lane ≡ true → count_by p (replicate n blank_lane) ≡ n
fresh_count zero p passes = refl
fresh_count (suc n) p passes =
    let rest = fresh_count n p passes in
    let one = count_by-cons p blank_lane (replicate n blank_lane) in
    let more : one_if (p blank_lane) ≡ 1 = ap one_if passes in
    omega arith

-- a blank lane has no content
blank_record : (a : Lane) (c : ℕ) (content : List ℕ) → blank_lane ≡ a → HasRecord a c content → [] ≡ content
blank_record a c content is has = elim (subst (λ (l : Lane). HasRecord l c content) (sym is) has) [
  | inl by_base ↦ by_base.1
  | inr by_next ↦ absurd (let none : None ≡ Some by_next.0 = by_next.1 in cc)
]

-- it has nothing on its way
blank_next : (a : Lane) (next : Next) → blank_lane ≡ a → HasNext a next → ⊥
blank_next a next is has = let none : None ≡ Some next = ap (λ (l : Lane). l.next) is ∙ has in cc

-- its numbers are lawful
blank_drawn : (last : ℕ) → IsDrawn last blank_lane
blank_drawn last = record {
  parent = λ n is. absurd (blank_next blank_lane n refl is);
  above = λ n is. absurd (blank_next blank_lane n refl is);
  base_own = omega arith;
  next_own = λ n is. absurd (blank_next blank_lane n refl is);
  base_drawn = omega arith;
  next_drawn = λ n is. absurd (blank_next blank_lane n refl is);
}

-- fresh lanes are sound and calm
pub fresh_is_calm : (n w last : ℕ) → 1 ≤ n → w ≤ n
    → HoldsValue w last (replicate n blank_lane) 0 [] × IsCalm w (replicate n blank_lane) 0
fresh_is_calm n w last some enough =
    let lanes = replicate n blank_lane in
    let long = length-replicate n blank_lane in
    let first : Contains lanes blank_lane = subst (λ (l : Lane). Contains lanes l) (get_or-replicate n 0 blank_lane blank_lane (omega arith)) (member_at lanes 0 (omega arith)) in
    let held = fresh_count n (has_base_of 0) refl in (
      record {
        sound = record {
          value = record {
            lane = blank_lane;
            top = record {
              there = first;
              greatest = λ other there.
                  let equal : 0 ≡ other.base.ballot = ap (λ (l : Lane). l.base.ballot) (blank n other there) in omega arith;
            };
            carries = refl;
          };
          agree = record {
            contents = λ a b c x y a_there b_there has_a has_b.
                sym (blank_record a c x (blank n a a_there) has_a) ∙ blank_record b c y (blank n b b_there) has_b;
            data_added = λ a b m k a_there b_there has_m has_k same. absurd (blank_next a m (blank n a a_there) has_m);
          };
          backed = λ a there carries. let all = fresh_count n (backs 0 a.base.ballot) refl in omega arith;
          below = λ a b a_there b_there carries differs. absurd (differs (ap (λ (l : Lane). l.base.change) (sym (blank n b b_there))));
          accounted = λ a next there is. absurd (blank_next a next (blank n a there) is);
          drawn = λ a there. subst (λ (l : Lane). IsDrawn last l) (blank n a there) (blank_drawn last);
        };
        contents = λ a there carries. ap (λ (l : Lane). l.base.content) (sym (blank n a there));
      },
      record { held = omega arith; quiet = λ a next there is live. blank_next a next (blank n a there) is },
    )

-- a fresh ballot stays fresh
pub fresh_ballot_stays : (last ballot : ℕ) (lanes new : List Lane) (x : Lane)
    → IsFreshBallot last lanes ballot → BallotsAreBelow ballot x → Leaves x lanes new
    → IsFreshBallot last new ballot
fresh_ballot_stays last ballot lanes new x fresh below leaves = record {
  highest = λ a there. elim (lane_before x lanes new a leaves there) [
    | inl was ↦ fresh.highest a was
    | inr is ↦ subst (λ (l : Lane). BallotsAreBelow ballot l) (sym is) below
  ];
  drawn = fresh.drawn;
}

-- so does a fresh change
pub fresh_change_stays : (c : ℕ) (lanes new : List Lane) (x : Lane)
    → IsFreshChange lanes c → x.base.change ≢ c → ((next : Next) → HasNext x next → next.change ≢ c) → Leaves x lanes new
    → IsFreshChange new c
fresh_change_stays c lanes new x fresh base_other next_other leaves = record {
  bases = λ a there carries. elim (lane_before x lanes new a leaves there) [
    | inl was ↦ fresh.bases a was carries
    | inr is ↦ base_other (ap (λ (l : Lane). l.base.change) (sym is) ∙ carries)
  ];
  nexts = λ a next there is_next carries. elim (lane_before x lanes new a leaves there) [
    | inl was ↦ fresh.nexts a next was is_next carries
    | inr is ↦ next_other next (ap (λ (l : Lane). l.next) (sym is) ∙ is_next) carries
  ];
}
