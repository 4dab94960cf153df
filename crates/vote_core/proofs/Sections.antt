-- What every section leaves.
use Rattle.std.proofs.Common.{◌≡◌, ◌≢◌, ◌⊎◌, ◌≤◌, ℕ, List, map, None, Some, length, sym, ◌∙◌, subst, inl, inr, arith, refl}
use Rattle.std.proofs.lemmas.Bool.{cases_eq}
use Rattle.vote_core.specs.Row.{is_good}
use Rattle.vote_core.specs.Lane.{Base, Next, Lane, lane_at}
use Rattle.vote_core.specs.Sound.{HoldsValue}
use Rattle.vote_core.specs.History.{IsDead}
use Rattle.vote_core.specs.Shown.{Overlap}
use Rattle.vote_core.specs.Loops.{Leaves, LeavesAt, IsOwn, IsAgain, IsPrepared, prepared, marked, mended}
use Rattle.vote_core.specs.Section.{PreparesOwn, PreparesPending, Prepares, Marks, Section, SectionLeaves}
use Rattle.vote_core.proofs.Judging.{IsLook, pending_found}
use Rattle.vote_core.proofs.Preparing.{prepare_keeps, mend_keeps}
use Rattle.vote_core.proofs.Forwarding.{leaves_any, forward_keeps}
use Rattle.vote_core.proofs.Marking.{have_member, mark_keeps, mark_kills}
use Rattle.vote_core.proofs.Resting.{dead_stays_dead, dead_is_never_pending, drawing_keeps}

-- what a prepare keeps, what it leaves, and that it proposes no dead change unless as its own
record PrepareLeaves (w later : ℕ) (lanes : List Lane) (c : ℕ) (content : List ℕ) (new : List Lane) (base : Base) (next : Next) : Type 0 where
  holds : HoldsValue w later new c content
  prep : IsPrepared new c base next
  leaves : Leaves (prepared base next) lanes new
  proposes : (gone : ℕ) → IsDead lanes c gone → (next.change ≢ gone) ⊎ (IsOwn later lanes c next × (next.change ≡ gone))

-- a prepare of one's own
own_leaves : (w last later c : ℕ) (content : List ℕ) (lanes new : List Lane) (base : Base) (next : Next) → last ≤ later → HoldsValue w last lanes c content
    → PreparesOwn later lanes c new base next → PrepareLeaves w later lanes c content new base next
own_leaves w last later c content lanes new base next up holds own =
    let kept = prepare_keeps w last later c content lanes new base next up holds own.stands own.value own.own own.leaves in
    record {
      holds = kept.0;
      prep = kept.1;
      leaves = own.leaves;
      proposes = λ gone was. elim (cases_eq next.change gone) [
        | inl same ↦ inr (own.own, same)
        | inr differs ↦ inl differs
      ];
    }

-- a prepare of a pending change
pending_leaves : (w d last later c : ℕ) (content : List ℕ) (lanes new : List Lane) (base : Base) (next : Next) → Overlap (length lanes) w d → last ≤ later
    → HoldsValue w last lanes c content → PreparesPending w d later lanes new base next → PrepareLeaves w later lanes c content new base next
pending_leaves w d last later c content lanes new base next overlap up holds pending =
    let rule = pending.verdict in
    let look : IsLook w d last c content lanes pending.rows = record { quorums = overlap; holds = holds; shown = pending.shown; enough = rule.0 } in
    let finds = pending_found w d last c content lanes pending.rows pending.base_lane pending.lane look rule.1 rule.2 rule.3 in
    let one : Some finds.0 ≡ Some pending.found = sym finds.1.next_is ∙ pending.found_is in
    let same : finds.0 ≡ pending.found = cc in
    let kept = subst (λ (b : Base). IsAgain later lanes b pending.found next → LeavesAt (map is_good pending.rows) (prepared b next) lanes new
    → HoldsValue w later new c content × IsPrepared new c b next) pending.base_is
    (λ again leaves. forward_keeps w last later c content lanes new pending.rows pending.base_lane pending.lane finds.0 next up holds finds.1
    (subst (λ (n : Next). IsAgain later lanes (lane_at lanes pending.base_lane).base n next) (sym same) again) leaves) pending.again pending.leaves in
    record {
      holds = kept.0;
      prep = kept.1;
      leaves = leaves_any (map is_good pending.rows) (prepared base next) lanes new pending.leaves;
      proposes = λ gone was. inl (λ (equal : next.change ≡ gone).
          dead_is_never_pending w d last c content lanes pending.rows pending.base_lane pending.lane pending.k pending.u gone overlap holds pending.shown was rule
          pending.found pending.found_is (sym pending.again.change ∙ equal));
    }

prepare_leaves : (w d last later c : ℕ) (content : List ℕ) (lanes new : List Lane) (base : Base) (next : Next) → Overlap (length lanes) w d → last ≤ later
    → HoldsValue w last lanes c content → Prepares w d later lanes c new base next → PrepareLeaves w later lanes c content new base next
prepare_leaves w d last later c content lanes new base next overlap up holds prepares = elim prepares [
  | inl own ↦ own_leaves w last later c content lanes new base next up holds own
  | inr pending ↦ pending_leaves w d last later c content lanes new base next overlap up holds pending
]

-- a dead change that isn't proposed is dead after a prepare
dead_after_prepare : (c gone : ℕ) (lanes new : List Lane) (base : Base) (next : Next) → IsDead lanes c gone → next.change ≢ gone → Leaves (prepared base next) lanes new
    → IsDead new c gone
dead_after_prepare c gone lanes new base next was differs leaves = dead_stays_dead c gone lanes new (prepared base next) was
    (λ n is. let same : next ≡ n = cc in subst (λ (m : Next). m.change ≢ gone) same differs) leaves

-- and after marks, whether they move the value or not
dead_after_marks : (w last c gone : ℕ) (content : List ℕ) (lanes new : List Lane) (base : Base) (next : Next) → HoldsValue w last lanes c content
    → IsPrepared lanes c base next → IsDead lanes c gone → next.change ≢ gone → Leaves (marked next) lanes new
    → IsDead new c gone × IsDead new next.change gone
dead_after_marks w last c gone content lanes new base next holds prep was differs leaves =
    let stays = dead_stays_dead c gone lanes new (marked next) was (λ n is. absurd (let none : None ≡ Some n = is in cc)) leaves in (
      stays,
      elim (cases_eq next.change c) [
        | inl same ↦ subst (λ v. IsDead new v gone) (sym same) stays
        | inr moved ↦ mark_kills w last c gone content lanes new base next holds prep moved leaves (λ (e : gone ≡ next.change). differs (sym e))
      ],
    )

-- a section that prepares and marks
marked_section : (w d last later c : ℕ) (content : List ℕ) (lanes mid new : List Lane) (base : Base) (next : Next) → 1 ≤ w → Overlap (length lanes) w d → last ≤ later
    → HoldsValue w last lanes c content → Prepares w d later lanes c mid base next → Marks w mid new base next → SectionLeaves w later lanes c content new next
marked_section w d last later c content lanes mid new base next some overlap up holds prepares marks =
    let first = prepare_leaves w d last later c content lanes mid base next overlap up holds prepares in
    let leaves = leaves_any marks.took (marked next) mid new marks.leaves in
    let enough = marks.taken.enough in
    let there = have_member marks.took (prepared base next) mid marks.taken.have (omega arith) in
    let gone_after = λ (gone : ℕ) (was : IsDead lanes c gone) (differs : next.change ≢ gone).
    dead_after_marks w later c gone content mid new base next first.holds first.prep
    (dead_after_prepare c gone lanes mid base next was differs first.leaves) differs leaves in
    elim (mark_keeps w later c content mid new base next marks.took some first.holds first.prep marks.taken marks.leaves) [
      | inl stays ↦ record {
        now = c;
        shows = content;
        holds = stays;
        moves = inl (refl, refl);
        dead = λ gone was. elim (first.proposes gone was) [
          | inl differs ↦ inl (gone_after gone was differs).0
          | inr own ↦ inr own
        ];
      }
      | inr moved ↦ record {
        now = next.change;
        shows = next.content;
        holds = moved;
        moves = elim (cases_eq next.change c) [
          | inl same ↦
              let value = first.holds.sound.value in
              inl (
                same,
                first.holds.sound.agree.contents (prepared base next) value.lane c next.content content there value.top.there
                    (inr (next, refl, same, refl)) (inl (value.carries, first.holds.contents value.lane value.top.there value.carries)),
              )
          | inr differs ↦ inr (refl, refl, mark_kills w later c c content mid new base next first.holds first.prep differs leaves (λ (e : c ≡ next.change). differs (sym e)))
        ];
        dead = λ gone was. elim (first.proposes gone was) [
          | inl differs ↦ inl (gone_after gone was differs).1
          | inr own ↦ inr own
        ];
      }
    ]

-- every section
pub section_keeps : (w d last later c : ℕ) (content : List ℕ) (lanes new : List Lane) (base : Base) (next : Next)
    → 1 ≤ w → Overlap (length lanes) w d → last ≤ later → HoldsValue w last lanes c content
    → Section w d later lanes c new base next
    → SectionLeaves w later lanes c content new next
section_keeps w d last later c content lanes new base next some overlap up holds section = elim section [
  | inl refused ↦
      let first = prepare_leaves w d last later c content lanes new base next overlap up holds refused in
      record {
        now = c;
        shows = content;
        holds = first.holds;
        moves = inl (refl, refl);
        dead = λ gone was. elim (first.proposes gone was) [
          | inl differs ↦ inl (dead_after_prepare c gone lanes new base next was differs first.leaves)
          | inr own ↦ inr own
        ];
      }
  | inr rest ↦ elim rest [
    | inl done ↦ marked_section w d last later c content lanes done.0 new base next some overlap up holds done.1 done.2
    | inr mends ↦
        record {
          now = c;
          shows = content;
          holds = drawing_keeps w last later c content new up (mend_keeps w last c content lanes new base holds mends.0 mends.1 mends.2);
          moves = inl (refl, refl);
          dead = λ gone was. inl (dead_stays_dead c gone lanes new (mended base) was (λ n is. absurd (let none : None ≡ Some n = is in cc)) mends.2);
        }
  ]
]
