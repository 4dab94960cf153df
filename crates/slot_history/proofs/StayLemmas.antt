-- What lanes stand for after a write under one name that left the value.
use Rattle.std.proofs.Common.{◌≡◌, ◌⊎◌, ◌∙◌, ℕ, List, Contains, sym, subst, refl, inl, inr}
use Rattle.vote_core.specs.Lane.{HasNext, Lane, Next}
use Rattle.vote_core.specs.Laws.{DrawingKeeps}
use Rattle.vote_core.specs.Sound.{HoldsValue, IsLive}
use Rattle.slot_history.specs.Contents.{NamesData}
use Rattle.slot_history.specs.Laws.{OnlyTheOld}
use Rattle.slot_history.specs.Sections.{IsOnItsWay}
use Rattle.slot_history.specs.Standing.{IsAdded, IsSpent, Stands, StandsUnder, WaitsAs}
use Rattle.slot_history.specs.State.{State, Waiting}
use Rattle.slot_history.specs.Waiting.{IsLawful}
use Rattle.register_caller.specs.WrittenLanes.{IsWritten, WasLive}
use Rattle.slot_history.proofs.StandLemmas.{under_still}
use Rattle.slot_history.proofs.WroteLemmas.{Setting, Wrote, stood, lanes_after, lawful_after, uploads_after, way_elsewhere}

-- what was written, as a change that waits
pub record IsItself (s : Setting) (q : Waiting) : Type 0 where
  pub change_is : q.change ≡ s.x.change
  pub name_is : q.name ≡ s.name
  pub parent_is : q.parent ≡ (stood s).change
  pub content_is : q.content ≡ s.x.content

-- the state in which no register moved
abbrev pub stayed : Setting → List Waiting → State
stayed s pending = record { registers = s.state.registers; pending = pending; applied = s.state.applied }

-- the value stays, and what was written waits where it may become the value
pub record Stayed (s : Setting) (pending : List Waiting) : Type 0 where
  pub waits : (a : Lane) (next : Next) → IsLive s.after s.now a next → IsWritten s.x next → (own : Waiting) × Contains pending own × IsItself s own
  pub kept : (q : Waiting) → Contains s.state.pending q → Contains pending q
  pub before : (q : Waiting) → Contains pending q → Contains s.state.pending q ⊎ IsItself s q
  pub lawful : IsLawful (stayed s pending)
  pub now_is : s.now ≡ (stood s).change
  pub shows_is : s.shows ≡ (stood s).content
  pub lives : (a : Lane) (next : Next) → Contains s.after a → HasNext a next → IsLive s.after s.now a next
      → WasLive (s.old s.name) (stood s).change next ⊎ IsWritten s.x next

-- what may become the value over the value that stays
stayed_lives : (s : Setting) (pending : List Waiting) → Stayed s pending → (a : Lane) (next : Next) → Contains s.after a → HasNext a next
    → IsLive s.after (stood s).change a next → WasLive (s.old s.name) (stood s).change next ⊎ IsWritten s.x next
stayed_lives s pending stays a next there has live = stays.lives a next there has (subst (λ c. IsLive s.after c a next) (sym stays.now_is) live)

-- then the lanes that were written stand for the register
under_stayed : (s : Setting) → Wrote s → (pending : List Waiting) → Stayed s pending → StandsUnder s.w s.later s.after (stayed s pending) s.name
under_stayed s wrote pending stays =
    let was : StandsUnder s.w s.last (s.old s.name) s.state s.name = wrote.stands.under s.name wrote.held in
    record {
      holds = subst (λ (bytes : List ℕ). HoldsValue s.w s.later s.after (stood s).change bytes) stays.shows_is
          (subst (λ c. HoldsValue s.w s.later s.after c s.shows) stays.now_is wrote.left.holds);
      waits = λ a next there has live. elim (stayed_lives s pending stays a next there has live) [
        | inl before ↦
            let found = was.waits before.lane before.found before.there before.has before.live in
            let one : WaitsAs s.state s.name before.found found.0 = found.1 in (
              found.0,
              record {
                there = stays.kept found.0 one.there;
                change_is = one.change_is ∙ sym before.change_is;
                name_is = one.name_is;
                parent_is = one.parent_is ∙ (before.live.parent ∙ sym live.parent);
                content_is = one.content_is ∙ sym before.content_is;
              },
            )
        | inr written ↦
            let own = stays.waits a next (subst (λ c. IsLive s.after c a next) (sym stays.now_is) live) written in
            let itself : IsItself s own.0 = own.2 in (
              own.0,
              record {
                there = own.1;
                change_is = itself.change_is ∙ sym written.change_is;
                name_is = itself.name_is;
                parent_is = itself.parent_is ∙ sym live.parent;
                content_is = itself.content_is ∙ sym written.content_is;
              },
            )
      ];
      brings = λ a next there has live named names. elim (stayed_lives s pending stays a next there has live) [
        | inl before ↦ elim (was.brings before.lane before.found before.there before.has before.live named
            (subst (λ (bytes : List ℕ). NamesData s.name bytes named) before.content_is names)) [
              | inl stood_there ↦ inl stood_there
              | inr adds ↦ inr (subst (λ added. IsAdded added named) (sym before.adds_is) adds)
            ]
        | inr written ↦ elim (wrote.brings named (subst (λ (bytes : List ℕ). NamesData s.name bytes named) written.content_is names)) [
          | inl stood_there ↦ inl stood_there
          | inr adds ↦ inr (subst (λ added. IsAdded added named) (sym written.adds_is) adds)
        ]
      ];
    }

-- what is on its way then was so before, or is what was written
way_stayed : (s : Setting) → Wrote s → (pending : List Waiting) → Stayed s pending → (q : Waiting) → IsOnItsWay s.new (stayed s pending) q
    → IsOnItsWay s.old s.state q ⊎ IsItself s q
way_stayed s wrote pending stays q way = elim (stays.before q way.waits.there) [
  | inr itself ↦ inr itself
  | inl was ↦ elim (lanes_after s wrote q.name) [
    | inr else ↦ inl (way_elsewhere s wrote (stayed s pending) q else.0 refl way.held was way)
    | inl own ↦
        let live : IsLive s.after (stood s).change way.lane way.next =
        subst (λ n. IsLive s.after (s.state.registers n).change way.lane way.next) (sym own.0)
        (subst (λ (l : List Lane). IsLive l (s.state.registers q.name).change way.lane way.next) own.1 way.live) in
        elim (stayed_lives s pending stays way.lane way.next (subst (λ (l : List Lane). Contains l way.lane) own.1 way.there) way.has live) [
          | inl before ↦ inl (record {
            held = way.held;
            lane = before.lane;
            there = subst (λ n. Contains (s.old n) before.lane) own.0 before.there;
            next = before.found;
            has = before.has;
            live = subst (λ n. IsLive (s.old n) (s.state.registers n).change before.lane before.found) own.0 before.live;
            waits = record {
              there = was;
              change_is = way.waits.change_is ∙ before.change_is;
              name_is = refl;
              parent_is = way.waits.parent_is ∙ (live.parent ∙ sym before.live.parent);
              content_is = way.waits.content_is ∙ before.content_is;
            };
          })
          | inr written ↦ inr (record {
            change_is = way.waits.change_is ∙ written.change_is;
            name_is = sym own.0;
            parent_is = way.waits.parent_is ∙ live.parent;
            content_is = way.waits.content_is ∙ written.content_is;
          })
        ]
  ]
]

-- what the lanes stand for where the value stays
pub stays_stand : DrawingKeeps → (s : Setting) → Wrote s → (pending : List Waiting) → Stayed s pending
    → Stands s.w s.drives s.later s.rest s.new (stayed s pending)
    × ((q : Waiting) → IsOnItsWay s.new (stayed s pending) q → IsOnItsWay s.old s.state q ⊎ IsItself s q)
stays_stand drawing s wrote pending stays = (
  record {
    under = λ name held. elim (lanes_after s wrote name) [
      | inl own ↦ subst (λ (l : List Lane). StandsUnder s.w s.later l (stayed s pending) name) (sym own.1)
          (subst (λ n. StandsUnder s.w s.later s.after (stayed s pending) n) own.0 (under_stayed s wrote pending stays))
      | inr else ↦ subst (λ (l : List Lane). StandsUnder s.w s.later l (stayed s pending) name) (sym else.1)
          (under_still drawing s.w s.last s.later (s.old name) s.state (stayed s pending) name wrote.up refl
          (λ q h is. stays.kept q h) (wrote.stands.under name held))
    ];
    lawful_under = lawful_after s wrote;
    lawful = stays.lawful;
    pending = λ q h. elim (stays.before q h) [
      | inl was ↦ wrote.spent q.change (wrote.stands.pending q was)
      | inr itself ↦ subst (λ c. IsSpent s.later s.rest c) (sym itself.change_is) wrote.own_spent
    ];
    applied = λ c h. wrote.spent c (wrote.stands.applied c h);
    flying = wrote.flying;
    uploads = uploads_after s wrote;
  },
  way_stayed s wrote pending stays,
)

-- and where no change came to wait: what is on its way then was so before
pub stays_as_it_was : DrawingKeeps → (s : Setting) → Wrote s
    → ((a : Lane) (next : Next) → IsLive s.after s.now a next → IsWritten s.x next → (own : Waiting) × Contains s.state.pending own × IsItself s own)
    → ((q : Waiting) → Contains s.state.pending q → IsItself s q → IsOnItsWay s.old s.state q)
    → s.now ≡ (stood s).change → s.shows ≡ (stood s).content
    → ((a : Lane) (next : Next) → Contains s.after a → HasNext a next → IsLive s.after s.now a next
    → WasLive (s.old s.name) (stood s).change next ⊎ IsWritten s.x next)
    → Stands s.w s.drives s.later s.rest s.new s.state × OnlyTheOld s.old s.state s.new s.state
stays_as_it_was drawing s wrote waits way_itself now_is shows_is lives =
    let stays : Stayed s s.state.pending = record {
      waits = waits;
      kept = λ q h. h;
      before = λ q h. inl h;
      lawful = wrote.stands.lawful;
      now_is = now_is;
      shows_is = shows_is;
      lives = lives;
    } in
    let result = stays_stand drawing s wrote s.state.pending stays in (
      result.0,
      λ q way. elim (result.1 q way) [
        | inl was ↦ was
        | inr itself ↦ way_itself q way.waits.there itself
      ],
    )
