-- What lanes stand for after a change that is on its way was written again.
use Rattle.std.proofs.Common.{◌≡◌, ◌⊎◌, ◌≤◌, ◌∙◌, ℕ, List, ◌∷◌, Contains, sym, ap, subst, refl, inl, inr, arith}
use Rattle.stamp_id.specs.declared.version.VersionId.{VersionId}
use Rattle.call_types.specs.declared.names.Key.{Key}
use Rattle.vote_core.specs.Lane.{HasNext, HasRecord, Lane, Next}
use Rattle.vote_core.specs.Laws.{DrawingKeeps, FreshIsCalm}
use Rattle.vote_core.specs.Sound.{IsLive}
use Rattle.slot_history.specs.Contents.{HasOpen, NamedData, NamesData, number_of_id}
use Rattle.slot_history.specs.Laws.{AgainStands, OnlyTheOld}
use Rattle.slot_history.specs.Names.{key_name}
use Rattle.slot_history.specs.Sections.{IsOnItsWay}
use Rattle.slot_history.specs.Standing.{IsAdded, IsLawfulUnder, IsSpent, Stands}
use Rattle.slot_history.specs.State.{Changes, IsHeld, Register, State, Waiting}
use Rattle.slot_history.specs.Waiting.{IsLate, register_of}
use Rattle.register_caller.specs.WrittenLanes.{IsWritten, LeavesLanes, WasLive}
use Rattle.slot_history.specs.Writing.{WritesUnder}
use Rattle.slot_history.proofs.LawfulLemmas.{late_lawful}
use Rattle.slot_history.proofs.MemberLemmas.{taken_after, taken_before, takes_out}
use Rattle.slot_history.proofs.MoveLemmas.{moves_stand, put, put_changes}
use Rattle.slot_history.proofs.StandLemmas.{spent_later}
use Rattle.slot_history.proofs.StayLemmas.{IsItself, stays_as_it_was}
use Rattle.slot_history.proofs.WroteLemmas.{Setting, Wrote, made, stood}

-- a change that is on its way was written again
record Again (s : Setting) (p : Waiting) (way : IsOnItsWay s.old s.state p) : Type 0 where
  some : 1 ≤ s.w
  enough : s.w ≤ s.drives
  up : s.last ≤ s.later
  stands : Stands s.w s.drives s.last s.flights s.old s.state
  name_is : s.name ≡ p.name
  rest_is : s.rest ≡ s.flights
  change_is : s.x.change ≡ p.change
  content_is : s.x.content ≡ p.content
  adds_is : s.x.adds ≡ way.next.adds
  left : LeavesLanes s.w s.later s.x (s.old s.name) (stood s).change (stood s).content s.after s.now s.shows
  writes : WritesUnder s.name s.after s.old s.new

module _ (s : Setting) (p : Waiting) (way : IsOnItsWay s.old s.state p) (again : Again s p way) where
  -- its next is a record of its change and content
  again_record : HasRecord way.lane s.x.change s.x.content
  again_record = inr (way.next, way.has, sym way.waits.change_is ∙ sym again.change_is, sym way.waits.content_is ∙ sym again.content_is)

  -- its parent is the last change of its name
  again_parent : p.parent ≡ (s.state.registers p.name).change
  again_parent = way.waits.parent_is ∙ way.live.parent

  again_spent : (c : ℕ) → IsSpent s.last s.flights c → IsSpent s.later s.rest c
  again_spent = spent_later s.last s.later s.flights s.rest again.up (λ f h. subst (λ l. Contains l f) again.rest_is h)

  again_lawful_under : IsLawfulUnder s.drives s.last s.flights (s.old p.name) s.name
  again_lawful_under = subst (λ n. IsLawfulUnder s.drives s.last s.flights (s.old p.name) n) (sym again.name_is) (again.stands.lawful_under p.name)

  again_brings : (named : NamedData) → NamesData s.name s.x.content named → NamesData s.name (stood s).content named ⊎ IsAdded s.x.adds named
  again_brings named names =
      let content : s.x.content ≡ way.next.content = again.content_is ∙ way.waits.content_is in
      let names_next : NamesData p.name way.next.content named =
      subst (λ n. NamesData n way.next.content named) again.name_is (subst (λ (bytes : List ℕ). NamesData s.name bytes named) content names) in
      elim ((again.stands.under p.name way.held).brings way.lane way.next way.there way.has way.live named names_next) [
        | inl was ↦ inl (subst (λ n. NamesData n (s.state.registers n).content named) (sym again.name_is) was)
        | inr adds ↦ inr (subst (λ added. IsAdded added named) (sym again.adds_is) adds)
      ]

  again_opens : (at : Key) (upload : VersionId) → s.name ≡ key_name at → HasOpen s.x.content upload
      → HasOpen (stood s).content upload ⊎ (number_of_id upload ≡ s.x.change)
  again_opens at upload is opens =
      elim (again.stands.lawful.opens p way.waits.there again_parent at upload (sym again.name_is ∙ is)
      (subst (λ (bytes : List ℕ). HasOpen bytes upload) again.content_is opens)) [
        | inl was ↦ inl (subst (λ n. HasOpen (s.state.registers n).content upload) (sym again.name_is) was)
        | inr number ↦ inr (number ∙ sym again.change_is)
      ]

  again_wrote : Wrote s
  again_wrote = record {
    some = again.some;
    enough = again.enough;
    up = again.up;
    stands = again.stands;
    left = again.left;
    writes = again.writes;
    held = subst (λ n. IsHeld s.state.registers n) (sym again.name_is) way.held;
    spent = again_spent;
    flying = λ f h. let low = again.stands.flying f (subst (λ l. Contains l f) again.rest_is h) in let up = again.up in omega arith;
    own_spent = again_spent s.x.change (subst (λ c. IsSpent s.last s.flights c) (sym again.change_is) (again.stands.pending p way.waits.there));
    canonical = again_lawful_under.contents way.lane s.x.change s.x.content way.there again_record;
    ids = λ id names. again_spent (number_of_id id) (again_lawful_under.ids way.lane s.x.change s.x.content id way.there again_record names);
    brings = again_brings;
    opens = again_opens;
    parts = λ at upload number is. again.stands.lawful.parts.none_waits at upload number p way.waits.there (sym again.name_is ∙ is);
  }

  -- what is the same change is on its way by the same next
  way_itself : (q : Waiting) → Contains s.state.pending q → IsItself s q → IsOnItsWay s.old s.state q
  way_itself q there itself =
      let name : p.name ≡ q.name = sym again.name_is ∙ sym itself.name_is in
      record {
        held = subst (λ n. IsHeld s.state.registers n) name way.held;
        lane = way.lane;
        there = subst (λ n. Contains (s.old n) way.lane) name way.there;
        next = way.next;
        has = way.has;
        live = subst (λ n. IsLive (s.old n) (s.state.registers n).change way.lane way.next) name way.live;
        waits = record {
          there = there;
          change_is = itself.change_is ∙ (again.change_is ∙ way.waits.change_is);
          name_is = refl;
          parent_is = itself.parent_is ∙ (ap (λ n. (s.state.registers n).change) again.name_is ∙ sym way.live.parent);
          content_is = itself.content_is ∙ (again.content_is ∙ way.waits.content_is);
        };
      }

  -- the value stays
  again_stays : DrawingKeeps → s.now ≡ (stood s).change → s.shows ≡ (stood s).content
      → ((a : Lane) (next : Next) → Contains s.after a → HasNext a next → IsLive s.after s.now a next
      → WasLive (s.old s.name) (stood s).change next ⊎ IsWritten s.x next)
      → Stands s.w s.drives s.later s.rest s.new s.state × OnlyTheOld s.old s.state s.new s.state
  again_stays drawing =
      let itself : IsItself s p = record {
        change_is = sym again.change_is;
        name_is = sym again.name_is;
        parent_is = again_parent ∙ ap (λ n. (s.state.registers n).change) (sym again.name_is);
        content_is = sym again.content_is;
      } in
      stays_as_it_was drawing s again_wrote (λ a next live written. (p, way.waits.there, itself)) way_itself

  -- the state after the late step
  abbrev again_rest : List Waiting
  again_rest = (takes_out p s.state.pending way.waits.there).0

  abbrev late_state : State
  late_state = record { registers = put s.name (made s) s.state.registers; pending = again_rest; applied = s.x.change ∷ s.state.applied }

  same_register : made s ≡ register_of p
  same_register = λ i. record { change = again.change_is i; content = again.content_is i }

  late_changes : Changes p.name (register_of p) s.state.registers late_state.registers
  late_changes = subst (λ n. Changes n (register_of p) s.state.registers late_state.registers) again.name_is
      (subst (λ (r : Register). Changes s.name r s.state.registers late_state.registers) same_register (put_changes s.name (made s) s.state.registers))

  is_late : IsLate p s.state late_state
  is_late = record {
    waits = (takes_out p s.state.pending way.waits.there).1;
    parent = again_parent;
    changes = late_changes;
    applied = ap (λ c. c ∷ s.state.applied) again.change_is;
  }

  -- the value moves
  again_moves : DrawingKeeps → FreshIsCalm → s.now ≡ s.x.change → s.shows ≡ s.x.content
      → ((a : Lane) (next : Next) → Contains s.after a → HasNext a next → IsLive s.after s.now a next → ⊥)
      → Stands s.w s.drives s.later s.rest s.new late_state × OnlyTheOld s.old s.state s.new late_state
  again_moves drawing fresh now_is shows_is none = moves_stand drawing fresh s again_wrote late_state (record {
    changes = put_changes s.name (made s) s.state.registers;
    kept = λ q h. elim (taken_after p s.state.pending again_rest is_late.waits q h) [
      | inl same ↦ inl (ap (λ (v : Waiting). v.name) (sym same) ∙ sym again.name_is)
      | inr there ↦ inr there
    ];
    before = λ q h. taken_before p s.state.pending again_rest is_late.waits q h;
    unapplied = λ done. again.stands.lawful.once p way.waits.there (subst (λ c. Contains s.state.applied c) again.change_is done);
    applied = refl;
    lawful = late_lawful p s.state late_state again.stands.lawful is_late;
    now_is = now_is;
    shows_is = shows_is;
    none_live = none;
  })

pub again_stands : DrawingKeeps → FreshIsCalm → AgainStands
again_stands drawing fresh w drives last later flights old new state p x after now shows some enough up stands way change_is content_is adds_is left writes =
    let s : Setting = record {
      w = w;
      drives = drives;
      last = last;
      later = later;
      flights = flights;
      rest = flights;
      old = old;
      new = new;
      state = state;
      name = p.name;
      x = x;
      after = after;
      now = now;
      shows = shows;
    } in
    let again : Again s p way = record {
      some = some;
      enough = enough;
      up = up;
      stands = stands;
      name_is = refl;
      rest_is = refl;
      change_is = change_is;
      content_is = content_is;
      adds_is = adds_is;
      left = left;
      writes = writes;
    } in
    elim left.moves [
      | inl stays ↦ let result = again_stays s p way again drawing stays.0 stays.1 stays.2 in inl (stays.0, result.0, result.1)
      | inr moves ↦
          let result = again_moves s p way again drawing fresh moves.0 moves.1 moves.3 in
          inr (moves.0 ∙ change_is, (late_state s p way again, is_late s p way again, result.0, result.1))
    ]
