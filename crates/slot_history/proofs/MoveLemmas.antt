-- What lanes stand for after a write under one name that became the value.
use Rattle.std.proofs.Common.{◌≡◌, ◌⊎◌, ◌∙◌, ℕ, false, List, ◌∷◌, cond, Contains, bytes_eq, sym, subst, refl, inl, inr}
use Rattle.std.proofs.lemmas.Bool.{cond-true, cond-false}
use Rattle.std.proofs.lemmas.Slice.Eq.{bytes_eq-Decides}
use Rattle.vote_core.specs.Lane.{HasNext, Lane, Next}
use Rattle.vote_core.specs.Laws.{DrawingKeeps, FreshIsCalm}
use Rattle.vote_core.specs.Sound.{HoldsValue, IsLive}
use Rattle.slot_history.specs.Contents.{HasOpen, number_of_id}
use Rattle.slot_history.specs.Laws.{OnlyTheOld}
use Rattle.slot_history.specs.Names.{key_name}
use Rattle.slot_history.specs.Standing.{AreBlank, IsSpent, Stands, StandsUnder}
use Rattle.slot_history.specs.State.{Changes, IsHeld, Register, Registers, State, Waiting, blank}
use Rattle.slot_history.specs.Waiting.{IsLawful}
use Rattle.slot_history.proofs.MemberLemmas.{cons_cases, other_is_other, same_or_other, tail_there}
use Rattle.slot_history.proofs.StandLemmas.{under_still, blank_next, under_blank}
use Rattle.slot_history.proofs.WroteLemmas.{Setting, Wrote, made, lanes_after, lawful_after, uploads_after, way_elsewhere}

-- a register put under a name
abbrev pub put : List ℕ → Register → Registers → Registers
put name register old other = cond (bytes_eq name other) register (old other)

pub put_changes : (name : List ℕ) (register : Register) (old : Registers) → Changes name register old (put name register old)
put_changes name register old = record {
  is = cond-true (bytes_eq name name) register (old name) ((bytes_eq-Decides name name).1 refl);
  stays = λ other differs. cond-false (bytes_eq name other) register (old other) differs;
}

-- what was written becomes the value, and nothing else may
pub record Moved (s : Setting) (moved : State) : Type 0 where
  pub changes : Changes s.name (made s) s.state.registers moved.registers
  pub kept : (q : Waiting) → Contains s.state.pending q → (q.name ≡ s.name) ⊎ Contains moved.pending q
  pub before : (q : Waiting) → Contains moved.pending q → Contains s.state.pending q
  pub unapplied : Contains s.state.applied s.x.change → ⊥
  pub applied : moved.applied ≡ s.x.change ∷ s.state.applied
  pub lawful : IsLawful moved
  pub now_is : s.now ≡ s.x.change
  pub shows_is : s.shows ≡ s.x.content
  pub none_live : (a : Lane) (next : Next) → Contains s.after a → HasNext a next → IsLive s.after s.now a next → ⊥

-- what was applied stays so
moved_kept : (s : Setting) (moved : State) → Moved s moved → (c : ℕ) → Contains s.state.applied c → Contains moved.applied c
moved_kept s moved moves c h = subst (λ l. Contains l c) (sym moves.applied) (tail_there s.x.change s.state.applied c h)

-- what is held then was held before, or is a part of an upload that was opened now: nothing is kept of it
held_before : (s : Setting) → Wrote s → (moved : State) → Moved s moved → (name : List ℕ) → IsHeld moved.registers name
    → IsHeld s.state.registers name ⊎ (AreBlank (s.old name) × (s.state.registers name ≡ blank))
held_before s wrote moved moves name held = elim held [
  | inl bucket ↦ inl (inl bucket)
  | inr rest ↦ elim rest [
    | inl key ↦ inl (inr (inl key))
    | inr part ↦ elim (same_or_other s.name (key_name part.at)) [
      | inr other ↦ inl (inr (inr (record {
        at = part.at;
        upload = part.upload;
        number = part.number;
        name_is = part.name_is;
        opened = subst (λ (r : Register). HasOpen r.content part.upload) (moves.changes.stays (key_name part.at) other) part.opened;
      })))
      | inl same ↦
          let there : moved.registers (key_name part.at) ≡ made s = subst (λ n. moved.registers n ≡ made s) same moves.changes.is in
          elim (wrote.opens part.at part.upload same (subst (λ (r : Register). HasOpen r.content part.upload) there part.opened)) [
            | inl was ↦ inl (inr (inr (record {
              at = part.at;
              upload = part.upload;
              number = part.number;
              name_is = part.name_is;
              opened = subst (λ n. HasOpen (s.state.registers n).content part.upload) same was;
            })))
            | inr number ↦
                let never : Contains s.state.applied (number_of_id part.upload) → ⊥ =
                λ done. moves.unapplied (subst (λ c. Contains s.state.applied c) number done) in
                inr (
                  subst (λ n. AreBlank (s.old n)) (sym part.name_is) (elim (wrote.stands.uploads part.at part.upload part.number) [
                    | inl none ↦ none
                    | inr done ↦ absurd (never done)
                  ]),
                  subst (λ n. s.state.registers n ≡ blank) (sym part.name_is) (elim (wrote.stands.lawful.parts.none_stands part.at part.upload part.number) [
                    | inl none ↦ none
                    | inr done ↦ absurd (never done)
                  ]),
                )
          ]
    ]
  ]
]

-- nothing may become the value of the name that was written
none_live_now : (s : Setting) (moved : State) → Moved s moved → (a : Lane) (next : Next) → Contains s.after a → HasNext a next
    → IsLive s.after (moved.registers s.name).change a next → ⊥
none_live_now s moved moves a next there has live = moves.none_live a next there has
    (subst (λ c. IsLive s.after c a next) (sym moves.now_is) (subst (λ (r : Register). IsLive s.after r.change a next) moves.changes.is live))

-- its lanes stand for what was written
under_name : (s : Setting) → Wrote s → (moved : State) → Moved s moved → StandsUnder s.w s.later s.after moved s.name
under_name s wrote moved moves = record {
  holds = subst (λ (r : Register). HoldsValue s.w s.later s.after r.change r.content) (sym moves.changes.is)
      (subst (λ (bytes : List ℕ). HoldsValue s.w s.later s.after s.x.change bytes) moves.shows_is
      (subst (λ c. HoldsValue s.w s.later s.after c s.shows) moves.now_is wrote.left.holds));
  waits = λ a next there has live. absurd (none_live_now s moved moves a next there has live);
  brings = λ a next there has live. absurd (none_live_now s moved moves a next there has live);
}

-- those of each other name stand for what they did, or for a part of an upload that was opened now
elsewhere : DrawingKeeps → FreshIsCalm → (s : Setting) → Wrote s → (moved : State) → Moved s moved → (name : List ℕ)
    → bytes_eq s.name name ≡ false → IsHeld moved.registers name → StandsUnder s.w s.later (s.old name) moved name
elsewhere drawing fresh s wrote moved moves name other held =
    let same : moved.registers name ≡ s.state.registers name = moves.changes.stays name other in
    elim (held_before s wrote moved moves name held) [
      | inl was ↦ under_still drawing s.w s.last s.later (s.old name) s.state moved name wrote.up same
          (λ q h is. elim (moves.kept q h) [
            | inl own ↦ absurd (other_is_other s.name name other (sym own ∙ is))
            | inr there ↦ there
          ])
          (wrote.stands.under name was)
      | inr none ↦ under_blank fresh s.w s.drives s.later (s.old name) moved name wrote.some wrote.enough
          (wrote.stands.lawful_under name).counted none.0 (same ∙ none.1)
    ]

-- what is on its way then was so before
way_moved : (s : Setting) → Wrote s → (moved : State) → Moved s moved → OnlyTheOld s.old s.state s.new moved
way_moved s wrote moved moves q way = elim (lanes_after s wrote q.name) [
  | inl own ↦ absurd (none_live_now s moved moves way.lane way.next (subst (λ (l : List Lane). Contains l way.lane) own.1 way.there) way.has
      (subst (λ n. IsLive s.after (moved.registers n).change way.lane way.next) (sym own.0)
      (subst (λ (l : List Lane). IsLive l (moved.registers q.name).change way.lane way.next) own.1 way.live)))
  | inr else ↦ elim (held_before s wrote moved moves q.name way.held) [
    | inl was ↦ way_elsewhere s wrote moved q else.0 (moves.changes.stays q.name else.0) was (moves.before q way.waits.there) way
    | inr none ↦ absurd (blank_next (s.old q.name) way.lane way.next none.0 (subst (λ (l : List Lane). Contains l way.lane) else.1 way.there) way.has)
  ]
]

-- what the lanes stand for where the value moves
pub moves_stand : DrawingKeeps → FreshIsCalm → (s : Setting) → Wrote s → (moved : State) → Moved s moved
    → Stands s.w s.drives s.later s.rest s.new moved × OnlyTheOld s.old s.state s.new moved
moves_stand drawing fresh s wrote moved moves = (
  record {
    under = λ name held. elim (lanes_after s wrote name) [
      | inl own ↦ subst (λ (l : List Lane). StandsUnder s.w s.later l moved name) (sym own.1)
          (subst (λ n. StandsUnder s.w s.later s.after moved n) own.0 (under_name s wrote moved moves))
      | inr else ↦ subst (λ (l : List Lane). StandsUnder s.w s.later l moved name) (sym else.1)
          (elsewhere drawing fresh s wrote moved moves name else.0 held)
    ];
    lawful_under = lawful_after s wrote;
    lawful = moves.lawful;
    pending = λ q h. wrote.spent q.change (wrote.stands.pending q (moves.before q h));
    applied = λ c h. elim (cons_cases s.x.change s.state.applied c (subst (λ l. Contains l c) moves.applied h)) [
      | inl own ↦ subst (λ d. IsSpent s.later s.rest d) own wrote.own_spent
      | inr was ↦ wrote.spent c (wrote.stands.applied c was)
    ];
    flying = wrote.flying;
    uploads = λ at upload number. elim (uploads_after s wrote at upload number) [
      | inl none ↦ inl none
      | inr done ↦ inr (moved_kept s moved moves (number_of_id upload) done)
    ];
  },
  way_moved s wrote moved moves,
)
