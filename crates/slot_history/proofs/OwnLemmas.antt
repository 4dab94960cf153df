-- What lanes stand for after a change of one's own.
use Rattle.std.proofs.Common.{◌≡◌, ◌≢◌, ◌⊎◌, ◌<◌, ◌≤◌, ◌∙◌, ℕ, List, [], ◌∷◌, Contains, sym, ap, subst, refl, inl, inr, arith}
use Rattle.vote_core.specs.Lane.{HasNext, Lane, Next}
use Rattle.vote_core.specs.Laws.{DrawingKeeps, FreshIsCalm}
use Rattle.vote_core.specs.Sound.{IsLive}
use Rattle.slot_history.specs.Committing.{MayCommit}
use Rattle.slot_history.specs.Laws.{IsMade, MadeIsLate, OnlyTheOld, OnlyTheOldOr, OwnIsFresh, OwnStands, with_waiting}
use Rattle.slot_history.specs.Standing.{Flying, IsSpent, Stands}
use Rattle.slot_history.specs.State.{IsNew, State, Waiting}
use Rattle.slot_history.specs.Waiting.{IsLawful, OpensItsOwn}
use Rattle.register_caller.specs.WrittenLanes.{IsWritten, LeavesLanes, WasLive, Written}
use Rattle.slot_history.specs.Writing.{WritesUnder}
use Rattle.slot_history.proofs.LawfulLemmas.{late_lawful}
use Rattle.slot_history.proofs.MemberLemmas.{all_images, cons_cases, head_there, tail_there}
use Rattle.slot_history.proofs.MoveLemmas.{moves_stand, put, put_changes}
use Rattle.slot_history.proofs.StandLemmas.{spent_later}
use Rattle.slot_history.proofs.StayLemmas.{IsItself, Stayed, stays_stand}
use Rattle.slot_history.proofs.WroteLemmas.{Setting, Wrote, made, stood}

-- the change that waits may be applied
pub made_is_late : MadeIsLate
made_is_late state made name x is = (
  record { change = x.change; name = name; parent = (state.registers name).change; content = x.content },
  refl,
  record {
    waits = record { front = []; rest = state.pending; old_is = refl; new_is = is.pending };
    parent = refl;
    changes = is.changes;
    applied = is.applied;
  },
)

-- a change of one's own was written
record Commits (s : Setting) : Type 0 where
  some : 1 ≤ s.w
  enough : s.w ≤ s.drives
  up : s.last ≤ s.later
  stands : Stands s.w s.drives s.last s.flights s.old s.state
  may : MayCommit s.last s.later s.flights s.rest s.state s.name s.x
  left : LeavesLanes s.w s.later s.x (s.old s.name) (stood s).change (stood s).content s.after s.now s.shows
  writes : WritesUnder s.name s.after s.old s.new

-- the number of a change that may be written was not spent
unspent : (last later : ℕ) (flights rest : List Flying) (state : State) (name : List ℕ) (x : Written) → MayCommit last later flights rest state name x
    → (c : ℕ) → IsSpent last flights c → c ≡ x.change → ⊥
unspent last later flights rest state name x may c spent same = elim may.number [
  | inl ends ↦ spent.landed ends.flight ends.listed (ends.number_is ∙ sym same)
  | inr drawn ↦ let low = spent.drawn in let above = drawn.0 in omega arith
]

-- so no record carries it
pub own_is_fresh : OwnIsFresh
own_is_fresh w drives last later flights rest old state name x stands may = record {
  bases = λ a there same.
      unspent last later flights rest state name x may a.base.change
      ((stands.lawful_under name).changes a a.base.change a.base.content there (inl (refl, refl))) same;
  nexts = λ a next there has same.
      unspent last later flights rest state name x may next.change
      ((stands.lawful_under name).changes a next.change next.content there (inr (next, has, refl, refl))) same;
}

own_unspent : (s : Setting) → Commits s → (c : ℕ) → IsSpent s.last s.flights c → c ≡ s.x.change → ⊥
own_unspent s commits = unspent s.last s.later s.flights s.rest s.state s.name s.x commits.may

own_new : (s : Setting) → Commits s → IsNew s.x.change s.state
own_new s commits = record {
  not_pending = λ q h same. own_unspent s commits q.change (commits.stands.pending q h) same;
  not_applied = λ h. own_unspent s commits s.x.change (commits.stands.applied s.x.change h) refl;
}

-- it is then
own_spent_now : (s : Setting) → Commits s → IsSpent s.later s.rest s.x.change
own_spent_now s commits = elim commits.may.number [
  | inl ends ↦ record {
    drawn = let low = commits.stands.flying ends.flight ends.listed in let is = ends.number_is in let up = commits.up in omega arith;
    landed = λ f h same. ends.ended f h same;
  }
  | inr drawn ↦ record {
    drawn = drawn.1;
    landed = λ f h same.
        let low = commits.stands.flying f (subst (λ (l : List Flying). Contains l f) drawn.2 h) in let above = drawn.0 in omega arith;
  }
]

-- puts that are under way were so before
own_fewer : (s : Setting) → Commits s → (f : Flying) → Contains s.rest f → Contains s.flights f
own_fewer s commits f h = elim commits.may.number [
  | inl ends ↦ ends.others f h
  | inr drawn ↦ subst (λ (l : List Flying). Contains l f) drawn.2 h
]

own_wrote : (s : Setting) → Commits s → Wrote s
own_wrote s commits = record {
  some = commits.some;
  enough = commits.enough;
  up = commits.up;
  stands = commits.stands;
  left = commits.left;
  writes = commits.writes;
  held = commits.may.held;
  spent = spent_later s.last s.later s.flights s.rest commits.up (own_fewer s commits);
  flying = λ f h. let low = commits.stands.flying f (own_fewer s commits f h) in let up = commits.up in omega arith;
  own_spent = own_spent_now s commits;
  canonical = inr commits.may.canonical;
  ids = commits.may.ids;
  brings = commits.may.brings;
  opens = commits.may.opens;
  parts = λ at upload number is. commits.stands.lawful.opened at upload (commits.may.part at upload number is);
}

-- what was written, as it waits
abbrev own_waiting : Setting → Waiting
own_waiting s = record { change = s.x.change; name = s.name; parent = (stood s).change; content = s.x.content }

-- the state in which it waits is lawful
waiting_lawful : (s : Setting) → Commits s → IsLawful (with_waiting s.state s.name s.x)
waiting_lawful s commits =
    let lawful : IsLawful s.state = commits.stands.lawful in
    let new : IsNew s.x.change s.state = own_new s commits in
    record {
      once = λ q h done. elim (cons_cases (own_waiting s) s.state.pending q h) [
        | inl own ↦ new.not_applied (subst (λ (v : Waiting). Contains s.state.applied v.change) (sym own) done)
        | inr was ↦ lawful.once q was done
      ];
      some = λ q h. elim (cons_cases (own_waiting s) s.state.pending q h) [
        | inl own ↦ subst (λ (v : Waiting). 0 < v.change) own commits.may.some
        | inr was ↦ lawful.some q was
      ];
      differ = (all_images (λ n. s.x.change ≢ n) (λ (v : Waiting). v.change) s.state.pending (λ q h same. new.not_pending q h (sym same)), lawful.differ);
      parents = λ q h. elim (cons_cases (own_waiting s) s.state.pending q h) [
        | inl own ↦ subst (λ (v : Waiting). (v.parent ≡ 0) ⊎ Contains s.state.applied v.parent) own (lawful.lasts s.name)
        | inr was ↦ lawful.parents q was
      ];
      lasts = lawful.lasts;
      opens = λ q h parent. elim (cons_cases (own_waiting s) s.state.pending q h) [
        | inl own ↦ subst (λ (v : Waiting). OpensItsOwn v s.state) own commits.may.opens
        | inr was ↦ lawful.opens q was parent
      ];
      opened = lawful.opened;
      parts = record {
        none_stands = lawful.parts.none_stands;
        none_waits = λ at upload number q h is. elim (cons_cases (own_waiting s) s.state.pending q h) [
          | inl own ↦ lawful.opened at upload (commits.may.part at upload number (ap (λ (v : Waiting). v.name) own ∙ is))
          | inr was ↦ lawful.parts.none_waits at upload number q was is
        ];
      };
    }

-- the value stays
own_stays : DrawingKeeps → (s : Setting) → Commits s → s.now ≡ (stood s).change → s.shows ≡ (stood s).content
    → ((a : Lane) (next : Next) → Contains s.after a → HasNext a next → IsLive s.after s.now a next
    → WasLive (s.old s.name) (stood s).change next ⊎ IsWritten s.x next)
    → Stands s.w s.drives s.later s.rest s.new (with_waiting s.state s.name s.x)
    × OnlyTheOldOr s.x.change s.old s.state s.new (with_waiting s.state s.name s.x)
own_stays drawing s commits now_is shows_is lives =
    let itself : IsItself s (own_waiting s) = record { change_is = refl; name_is = refl; parent_is = refl; content_is = refl } in
    let pending : List Waiting = own_waiting s ∷ s.state.pending in
    let stays : Stayed s pending = record {
      waits = λ a next live written. (own_waiting s, head_there (own_waiting s) s.state.pending, itself);
      kept = λ q h. tail_there (own_waiting s) s.state.pending q h;
      before = λ q h. elim (cons_cases (own_waiting s) s.state.pending q h) [
        | inl own ↦ inr (subst (λ (v : Waiting). IsItself s v) own itself)
        | inr was ↦ inl was
      ];
      lawful = waiting_lawful s commits;
      now_is = now_is;
      shows_is = shows_is;
      lives = lives;
    } in
    let result = stays_stand drawing s (own_wrote s commits) pending stays in (
      result.0,
      λ q way. elim (result.1 q way) [
        | inl was ↦ inl was
        | inr own ↦ inr own.change_is
      ],
    )

-- the state in which it is made
abbrev made_state : Setting → State
made_state s = record { registers = put s.name (made s) s.state.registers; pending = s.state.pending; applied = s.x.change ∷ s.state.applied }

state_is_made : (s : Setting) → IsMade s.name s.x s.state (made_state s)
state_is_made s = record { changes = put_changes s.name (made s) s.state.registers; pending = refl; applied = refl }

-- the value moves
own_moves : DrawingKeeps → FreshIsCalm → (s : Setting) → Commits s → s.now ≡ s.x.change → s.shows ≡ s.x.content
    → ((a : Lane) (next : Next) → Contains s.after a → HasNext a next → IsLive s.after s.now a next → ⊥)
    → Stands s.w s.drives s.later s.rest s.new (made_state s) × OnlyTheOld s.old s.state s.new (made_state s)
own_moves drawing fresh s commits now_is shows_is none =
    let late = made_is_late s.state (made_state s) s.name s.x (state_is_made s) in
    moves_stand drawing fresh s (own_wrote s commits) (made_state s) (record {
      changes = put_changes s.name (made s) s.state.registers;
      kept = λ q h. inr h;
      before = λ q h. h;
      unapplied = (own_new s commits).not_applied;
      applied = refl;
      lawful = late_lawful late.0 (with_waiting s.state s.name s.x) (made_state s) (waiting_lawful s commits) late.2;
      now_is = now_is;
      shows_is = shows_is;
      none_live = none;
    })

pub own_stands : DrawingKeeps → FreshIsCalm → OwnStands
own_stands drawing fresh w drives last later flights rest old new state name x after now shows some enough up stands may left writes =
    let s : Setting = record {
      w = w;
      drives = drives;
      last = last;
      later = later;
      flights = flights;
      rest = rest;
      old = old;
      new = new;
      state = state;
      name = name;
      x = x;
      after = after;
      now = now;
      shows = shows;
    } in
    let commits : Commits s = record { some = some; enough = enough; up = up; stands = stands; may = may; left = left; writes = writes } in (
      own_new s commits,
      elim left.moves [
        | inl stays ↦ let result = own_stays drawing s commits stays.0 stays.1 stays.2 in inl (stays.0, result.0, result.1)
        | inr moves ↦
            let result = own_moves drawing fresh s commits moves.0 moves.1 moves.3 in
            inr (moves.0, (made_state s, state_is_made s, result.0, result.1))
      ],
    )
