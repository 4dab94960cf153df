-- Marks over prepared lanes.
use Rattle.std.proofs.Common.{◌≡◌, ◌≢◌, ◌⊎◌, ◌<◌, ◌≤◌, ℕ, Bool, true, false, IsTrue, List, [], ◌∷◌, None, Some, sym, ap, ◌∙◌, subst, inl, inr, arith, refl, Contains, count_by}
use Rattle.std.specs.List.{AllZip}
use Rattle.vote_core.specs.Lane.{Base, Lane, Next, HasNext, HasRecord, has_base_of, backs}
use Rattle.vote_core.specs.Sound.{OthersAreBelow, IsAccounted, IsDrawn, HoldsValue}
use Rattle.vote_core.specs.Calm.{IsCalm}
use Rattle.vote_core.specs.History.{IsDead}
use Rattle.vote_core.specs.Loops.{Leaves, LeavesAt, Have, AtLeastHave, size, Stands, IsPrepared, prepared, marked}
use Rattle.vote_core.proofs.Members.{member_head, member_tail}
use Rattle.vote_core.proofs.Counting.{count_no_less, count_by-cons}
use Rattle.vote_core.proofs.Backing.{backs_by_base, backs_by_next, has_base}
use Rattle.vote_core.proofs.Keeping.{value_change, lane_before}
use Rattle.vote_core.proofs.Forwarding.{leaves_any}

-- a mask of some size has a lane
pub have_member : (mask : List Bool) (x : Lane) (lanes : List Lane) → Have mask x lanes → 1 ≤ size mask → Contains lanes x
have_member [] x lanes have some = let no_way : ⊥ = omega arith in absurd no_way
have_member (has ∷ mask) x [] have some = absurd have
have_member (true ∷ mask) x (lane ∷ lanes) have some = subst (λ (l : Lane). Contains (lane ∷ lanes) l) (have.0 refl) (member_head lane lanes)
have_member (false ∷ mask) x (lane ∷ lanes) have some =
    let count = count_by-cons (λ (has : Bool). has) false mask in
    member_tail lane lanes x (have_member mask x lanes have.1 (omega arith))

-- at least as many lanes pass a test as a mask has, where its record passes
pub have_count : (mask : List Bool) (x : Lane) (lanes : List Lane) (p : Lane → Bool) → Have mask x lanes → p x ≡ true → size mask ≤ count_by p lanes
have_count mask x lanes p have passes =
    count_no_less (λ (has : Bool). has) p (λ has lane. IsTrue has → lane ≡ x) (λ has lane is true_here. ap p (is true_here) ∙ passes) mask lanes have

-- each lane that took the prepare passes after the marks, where the prepared and the marked record do
took_pass : (took : List Bool) (x m : Lane) (lanes new : List Lane) (p : Lane → Bool) → Have took x lanes → LeavesAt took m lanes new → p x ≡ true → p m ≡ true
    → AllZip (λ has lane. IsTrue has → p lane ≡ true) took new
took_pass [] x m [] [] p have leaves px pm = have
took_pass [] x m [] (after ∷ new) p have leaves px pm = absurd leaves
took_pass [] x m (lane ∷ lanes) new p have leaves px pm = absurd have
took_pass (has ∷ took) x m [] new p have leaves px pm = absurd have
took_pass (has ∷ took) x m (lane ∷ lanes) [] p have leaves px pm = absurd leaves
took_pass (has ∷ took) x m (lane ∷ lanes) (after ∷ new) p have leaves px pm = (
  (λ true_here. elim leaves.0 [ inl stays ↦ ap p (stays ∙ have.0 true_here) ∙ px | inr written ↦ ap p written.1 ∙ pm ]),
  took_pass took x m lanes new p have.1 leaves.1 px pm,
)

-- so at least w lanes pass
took_count : (took : List Bool) (x m : Lane) (lanes new : List Lane) (p : Lane → Bool) → Have took x lanes → LeavesAt took m lanes new → p x ≡ true → p m ≡ true
    → size took ≤ count_by p new
took_count took x m lanes new p have leaves px pm =
    count_no_less (λ (has : Bool). has) p (λ has lane. IsTrue has → p lane ≡ true) (λ has lane passes true_here. passes true_here) took new
    (took_pass took x m lanes new p have leaves px pm)

-- either no mark took effect, or some lane is marked
mark_or_not : (took : List Bool) (m : Lane) (lanes new : List Lane) → LeavesAt took m lanes new → (new ≡ lanes) ⊎ Contains new m
mark_or_not [] m [] [] leaves = inl refl
mark_or_not [] m [] (after ∷ new) leaves = absurd leaves
mark_or_not [] m (lane ∷ lanes) new leaves = absurd leaves
mark_or_not (has ∷ took) m [] new leaves = absurd leaves
mark_or_not (has ∷ took) m (lane ∷ lanes) [] leaves = absurd leaves
mark_or_not (has ∷ took) m (lane ∷ lanes) (after ∷ new) leaves = elim leaves.0 [
  | inr written ↦ inr (subst (λ (l : Lane). Contains (after ∷ new) l) written.1 (member_head after new))
  | inl stays ↦ elim (mark_or_not took m lanes new leaves.1) [
    | inl same ↦ inl (ap (λ (l : Lane). l ∷ new) stays ∙ ap (λ (ls : List Lane). lane ∷ ls) same)
    | inr there ↦ inr (member_tail after new m there)
  ]
]

-- the numbers of a marked record are lawful
pub marked_drawn : (last : ℕ) (base : Base) (next : Next) → IsDrawn last (prepared base next) → IsDrawn last (marked next)
marked_drawn last base next drawn = record {
  parent = λ n is. absurd (let none : None ≡ Some n = is in cc);
  above = λ n is. absurd (let none : None ≡ Some n = is in cc);
  base_own = drawn.next_own next refl;
  next_own = λ n is. absurd (let none : None ≡ Some n = is in cc);
  base_drawn = drawn.next_drawn next refl;
  next_drawn = λ n is. absurd (let none : None ≡ Some n = is in cc);
}

-- a lane with a next was there before the marks
pub unmarked_before : (lanes new : List Lane) (next : Next) (a : Lane) (n : Next) → Leaves (marked next) lanes new → Contains new a → HasNext a n → Contains lanes a
unmarked_before lanes new next a n leaves there is = elim (lane_before (marked next) lanes new a leaves there) [
  | inl was ↦ was
  | inr written ↦ absurd (let its : None ≡ Some n = ap (λ (l : Lane). l.next) (sym written) ∙ is in cc)
]

-- a record after the marks is one that stood before them
marked_record : (lanes new : List Lane) (base : Base) (next : Next) (a : Lane) (c : ℕ) (content : List ℕ) → Leaves (marked next) lanes new
    → Contains lanes (prepared base next) → Contains new a → HasRecord a c content → (old : Lane) × Contains lanes old × HasRecord old c content
marked_record lanes new base next a c content leaves took there has = elim (lane_before (marked next) lanes new a leaves there) [
  | inl was ↦ (a, was, has)
  | inr written ↦ elim (subst (λ (l : Lane). HasRecord l c content) written has) [
    | inl by_base ↦ (prepared base next, took, inr (next, refl, by_base.0, by_base.1))
    | inr by_next ↦ absurd (let none : None ≡ Some by_next.0 = by_next.1 in cc)
  ]
]

-- a base is not above the prepared ballot
not_above : (last c : ℕ) (lanes : List Lane) (base : Base) (next : Next) (a : Lane) → IsPrepared lanes c base next → IsDrawn last (prepared base next) → Contains lanes a
    → a.base.ballot < next.ballot
not_above last c lanes base next a prep drawn there = elim (prep.others a there) [
  | inl is ↦ subst (λ (l : Lane). l.base.ballot < next.ballot) (sym is) (drawn.above next refl)
  | inr low ↦ low.base
]

-- once some lane is marked the change's content is the value
mark_moves : (w last c : ℕ) (content : List ℕ) (lanes new : List Lane) (base : Base) (next : Next) (took : List Bool)
    → HoldsValue w last lanes c content → IsPrepared lanes c base next
    → Contains lanes (prepared base next) → AtLeastHave w took (prepared base next) lanes → LeavesAt took (marked next) lanes new → Contains new (marked next)
    → HoldsValue w last new next.change next.content
mark_moves w last c content lanes new base next took holds prep there taken leaves_at done =
    let x = prepared base next in
    let m = marked next in
    let leaves = leaves_any took m lanes new leaves_at in
    let have = taken.have in
    let enough = taken.enough in
    let drawn = holds.sound.drawn x there in
    let before = λ (a : Lane) (a_there : Contains new a). lane_before m lanes new a leaves a_there in
    let low = λ (a : Lane) (a_there : Contains lanes a). not_above last c lanes base next a prep drawn a_there in
    let up_to : (a : Lane) → Contains new a → a.base.ballot ≤ next.ballot = λ a a_there. elim (before a a_there) [
      | inl was ↦ let below = low a was in omega arith
      | inr is ↦ let equal : a.base.ballot ≡ next.ballot = ap (λ (l : Lane). l.base.ballot) is in omega arith
    ] in
    let stood = λ (a : Lane) (d : ℕ) (y : List ℕ) (a_there : Contains new a) (has : HasRecord a d y). marked_record lanes new base next a d y leaves there a_there has in
    let below : OthersAreBelow new next.change = λ one other one_there other_there carries differs. elim (before other other_there) [
      | inr is ↦ absurd (differs (ap (λ (l : Lane). l.base.change) is))
      | inl other_was ↦ elim (before one one_there) [
        | inr is ↦ let equal : one.base.ballot ≡ next.ballot = ap (λ (l : Lane). l.base.ballot) is in let lower = low other other_was in omega arith
        | inl one_was ↦ elim prep.over [
          | inl same ↦ holds.sound.below one other one_was other_was (carries ∙ same) (λ (e : other.base.change ≡ c). differs (e ∙ sym same))
          | inr over ↦ absurd (over.1 one one_was carries)
        ]
      ]
    ] in
    let accounted : (a : Lane) (n : Next) → Contains new a → HasNext a n → IsAccounted new next.change a n = λ a n a_there is.
    let was = unmarked_before lanes new next a n leaves a_there is in
    elim (prep.others a was) [
      | inl prepared_one ↦ inl (let its : Some n ≡ Some next = sym is ∙ ap (λ (l : Lane). l.next) prepared_one in let same : n ≡ next = cc in ap (λ (k : Next). k.change) same)
      | inr lower ↦
          let n_low = lower.next n is in
          elim prep.over [
            | inr over ↦ inr (inr (λ other other_there carries. elim (before other other_there) [
              | inl other_was ↦ absurd (over.1 other other_was carries)
              | inr marked_one ↦ let equal : other.base.ballot ≡ next.ballot = ap (λ (l : Lane). l.base.ballot) marked_one in omega arith
            ]))
            | inl same ↦ elim (holds.sound.accounted a n was is) [
              | inl own ↦ inl (own ∙ sym same)
              | inr rest ↦ elim rest [
                | inl live ↦ inr (inl (record {
                  parent = live.parent ∙ sym same;
                  base = live.base ∙ sym same;
                  unmarked = λ other other_there equal.
                      elim (before other other_there) [
                        | inl other_was ↦ live.unmarked other other_was equal
                        | inr marked_one ↦ live.unmarked a was (live.base ∙ (sym same ∙ (ap (λ (l : Lane). l.base.change) (sym marked_one) ∙ equal)))
                      ];
                }))
                | inr dead ↦ inr (inr (λ other other_there carries. elim (before other other_there) [
                  | inl other_was ↦ dead other other_was (carries ∙ same)
                  | inr marked_one ↦ let equal : other.base.ballot ≡ next.ballot = ap (λ (l : Lane). l.base.ballot) marked_one in omega arith
                ]))
              ]
            ]
          ]
    ] in
    record {
      sound = record {
        value = value_change new next.change m done refl below;
        agree = record {
          contents = λ a b d y z a_there b_there has_a has_b.
              let old_a = stood a d y a_there has_a in
              let old_b = stood b d z b_there has_b in
              holds.sound.agree.contents old_a.0 old_b.0 d y z old_a.1 old_b.1 old_a.2 old_b.2;
          data_added = λ a b k n a_there b_there has_k has_n same.
              holds.sound.agree.data_added a b k n (unmarked_before lanes new next a k leaves a_there has_k) (unmarked_before lanes new next b n leaves b_there has_n) has_k has_n same;
        };
        backed = λ a a_there carries.
            let high = up_to a a_there in
            let count = took_count took x m lanes new (backs next.change a.base.ballot) have leaves_at
            (backs_by_next next.change a.base.ballot x next refl refl high) (backs_by_base next.change a.base.ballot m refl) in
            omega arith;
        below = below;
        accounted = accounted;
        drawn = λ a a_there. elim (before a a_there) [
          | inl was ↦ holds.sound.drawn a was
          | inr is ↦ subst (λ (l : Lane). IsDrawn last l) (sym is) (marked_drawn last base next drawn)
        ];
      };
      contents = λ a a_there carries.
          let old = stood a next.change a.base.content a_there (inl (carries, refl)) in
          holds.sound.agree.contents old.0 x next.change a.base.content next.content old.1 there old.2 (inr (next, refl, refl, refl));
    }

-- marks leave the value or make the change's content the value
pub mark_keeps : (w last c : ℕ) (content : List ℕ) (lanes new : List Lane) (base : Base) (next : Next) (took : List Bool)
    → 1 ≤ w → HoldsValue w last lanes c content → IsPrepared lanes c base next
    → AtLeastHave w took (prepared base next) lanes → LeavesAt took (marked next) lanes new
    → HoldsValue w last new c content ⊎ HoldsValue w last new next.change next.content
mark_keeps w last c content lanes new base next took some holds prep taken leaves =
    elim (mark_or_not took (marked next) lanes new leaves) [
      | inl same ↦ inl (subst (λ (ls : List Lane). HoldsValue w last ls c content) (sym same) holds)
      | inr done ↦ inr (mark_moves w last c content lanes new base next took holds prep (have_member took _ lanes taken.have (omega (arith, taken.enough))) taken leaves done)
    ]

-- where w marks succeeded the change's content is the value
pub mark_settles : (w last c : ℕ) (content : List ℕ) (lanes new : List Lane) (base : Base) (next : Next) (took done : List Bool)
    → 1 ≤ w → HoldsValue w last lanes c content → IsPrepared lanes c base next
    → AtLeastHave w took (prepared base next) lanes → LeavesAt took (marked next) lanes new
    → AtLeastHave w done (marked next) new
    → HoldsValue w last new next.change next.content × Stands new (marked next).base × (w ≤ count_by (has_base_of next.change) new)
    × (next.change ≢ c → IsCalm w new next.change)
mark_settles w last c content lanes new base next took done some holds prep taken leaves_at marks =
    let m = marked next in
    let leaves = leaves_any took m lanes new leaves_at in
    let have = taken.have in
    let enough = taken.enough in
    let all = marks.enough in
    let count = have_count done m new (has_base_of next.change) marks.have (has_base next.change m refl) in
    let held : w ≤ count_by (has_base_of next.change) new = omega arith in
    let stands = have_member done m new marks.have (omega arith) in (
      mark_moves w last c content lanes new base next took holds prep (have_member took _ lanes have (omega arith)) taken leaves_at stands,
      (m, stands, refl),
      held,
      λ differs. record {
        held = held;
        quiet = λ a n there is live.
            let was = unmarked_before lanes new next a n leaves there is in
            elim prep.over [
              | inl same ↦ differs same
              | inr over ↦ over.1 a was live.base
            ];
      },
    )

-- once another change than the value's is marked no next has it as its parent
pub mark_kills : (w last c dead : ℕ) (content : List ℕ) (lanes new : List Lane) (base : Base) (next : Next)
    → HoldsValue w last lanes c content → IsPrepared lanes c base next → next.change ≢ c → Leaves (marked next) lanes new → dead ≢ next.change
    → IsDead new next.change dead
mark_kills w last c dead content lanes new base next holds prep differs leaves other = record {
  other = other;
  orphan = λ a n there is carries parent.
      let was = unmarked_before lanes new next a n leaves there is in
      let its = (holds.sound.drawn a was).parent n is in
      elim prep.over [
        | inl same ↦ differs same
        | inr over ↦ over.1 a was (sym its ∙ parent)
      ];
}
