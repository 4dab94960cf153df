-- What lanes stand for after the change of their value was written again.
use Rattle.std.proofs.Common.{◌≡◌, ◌⊎◌, ◌≤◌, ◌∙◌, ℕ, List, Contains, sym, subst, refl, inl, inr, arith}
use Rattle.stamp_id.specs.declared.version.VersionId.{VersionId}
use Rattle.call_types.specs.declared.names.Key.{Key}
use Rattle.vote_core.specs.Lane.{HasNext, HasRecord, Lane, Next}
use Rattle.vote_core.specs.Laws.{DrawingKeeps}
use Rattle.vote_core.specs.Sound.{HoldsValue, IsLive}
use Rattle.slot_history.specs.Contents.{HasOpen, NamesData, number_of_id}
use Rattle.slot_history.specs.Laws.{OnlyTheOld, ValueStands}
use Rattle.slot_history.specs.Names.{part_name}
use Rattle.slot_history.specs.Standing.{IsLawfulUnder, IsSpent, Stands}
use Rattle.slot_history.specs.State.{IsHeld, Waiting}
use Rattle.register_caller.specs.WrittenLanes.{IsWritten, LeavesLanes, WasLive}
use Rattle.slot_history.specs.Writing.{WritesUnder}
use Rattle.slot_history.proofs.NameLemmas.{bucket_not_part, key_not_part, part_names_tell}
use Rattle.slot_history.proofs.StandLemmas.{spent_later}
use Rattle.slot_history.proofs.StayLemmas.{stays_as_it_was}
use Rattle.slot_history.proofs.WroteLemmas.{Setting, Wrote, stood}

-- the change of the value was written again
record Rewrites (s : Setting) : Type 0 where
  some : 1 ≤ s.w
  enough : s.w ≤ s.drives
  up : s.last ≤ s.later
  stands : Stands s.w s.drives s.last s.flights s.old s.state
  rest_is : s.rest ≡ s.flights
  held : IsHeld s.state.registers s.name
  change_is : s.x.change ≡ (stood s).change
  content_is : s.x.content ≡ (stood s).content
  left : LeavesLanes s.w s.later s.x (s.old s.name) (stood s).change (stood s).content s.after s.now s.shows
  writes : WritesUnder s.name s.after s.old s.new

module _ (s : Setting) (again : Rewrites s) where
  abbrev value_holds : HoldsValue s.w s.last (s.old s.name) (stood s).change (stood s).content
  value_holds = (again.stands.under s.name again.held).holds

  -- a base of the value is a record of its change and content
  abbrev value_lane : Lane
  value_lane = value_holds.sound.value.lane

  value_there : Contains (s.old s.name) value_lane
  value_there = value_holds.sound.value.top.there

  value_record : HasRecord value_lane s.x.change s.x.content
  value_record =
      let carries : value_lane.base.change ≡ (stood s).change = value_holds.sound.value.carries in
      inl (carries ∙ sym again.change_is, value_holds.contents value_lane value_there carries ∙ sym again.content_is)

  value_spent : (c : ℕ) → IsSpent s.last s.flights c → IsSpent s.later s.rest c
  value_spent = spent_later s.last s.later s.flights s.rest again.up (λ f h. subst (λ l. Contains l f) again.rest_is h)

  value_lawful : IsLawfulUnder s.drives s.last s.flights (s.old s.name) s.name
  value_lawful = again.stands.lawful_under s.name

  -- where the name is that of a part, its upload was opened
  value_parts : (at : Key) (upload : VersionId) (number : ℕ) → s.name ≡ part_name at upload number → Contains s.state.applied (number_of_id upload)
  value_parts at upload number is = elim again.held [
    | inl bucket ↦ absurd (bucket_not_part bucket.0 at upload number (sym bucket.1 ∙ is))
    | inr rest ↦ elim rest [
      | inl key ↦ absurd (key_not_part key.0 at upload number (sym key.1 ∙ is))
      | inr part ↦
          let same = part_names_tell part.at at part.upload upload part.number number (sym part.name_is ∙ is) in
          subst (λ u. Contains s.state.applied (number_of_id u)) same.0 (again.stands.lawful.opened part.at part.upload part.opened)
    ]
  ]

  value_wrote : Wrote s
  value_wrote = record {
    some = again.some;
    enough = again.enough;
    up = again.up;
    stands = again.stands;
    left = again.left;
    writes = again.writes;
    held = again.held;
    spent = value_spent;
    flying = λ f h. let low = again.stands.flying f (subst (λ l. Contains l f) again.rest_is h) in let up = again.up in omega arith;
    own_spent = value_spent s.x.change (value_lawful.changes value_lane s.x.change s.x.content value_there value_record);
    canonical = value_lawful.contents value_lane s.x.change s.x.content value_there value_record;
    ids = λ id names. value_spent (number_of_id id) (value_lawful.ids value_lane s.x.change s.x.content id value_there value_record names);
    brings = λ named names. inl (subst (λ (bytes : List ℕ). NamesData s.name bytes named) again.content_is names);
    opens = λ at upload is opens. inl (subst (λ (bytes : List ℕ). HasOpen bytes upload) again.content_is opens);
    parts = value_parts;
  }

  -- it can't become the value, as it is
  value_marked : s.now ≡ (stood s).change → (a : Lane) (next : Next) → IsLive s.after s.now a next → IsWritten s.x next → ⊥
  value_marked now_is a next live written =
      live.unmarked again.left.holds.sound.value.lane again.left.holds.sound.value.top.there
      (again.left.holds.sound.value.carries ∙ (now_is ∙ (sym again.change_is ∙ sym written.change_is)))

  -- and doesn't wait, as it was applied
  value_waits_not : (q : Waiting) → Contains s.state.pending q → q.change ≡ s.x.change → ⊥
  value_waits_not q there same =
      let is : q.change ≡ (stood s).change = same ∙ again.change_is in
      elim (again.stands.lawful.lasts s.name) [
        | inl none ↦ let some = again.stands.lawful.some q there in omega arith
        | inr done ↦ again.stands.lawful.once q there (subst (λ c. Contains s.state.applied c) (sym is) done)
      ]

  value_stays : DrawingKeeps → s.now ≡ (stood s).change → s.shows ≡ (stood s).content
      → ((a : Lane) (next : Next) → Contains s.after a → HasNext a next → IsLive s.after s.now a next
      → WasLive (s.old s.name) (stood s).change next ⊎ IsWritten s.x next)
      → Stands s.w s.drives s.later s.rest s.new s.state × OnlyTheOld s.old s.state s.new s.state
  value_stays drawing now_is =
      stays_as_it_was drawing s value_wrote (λ a next live written. absurd (value_marked now_is a next live written))
      (λ q there itself. absurd (value_waits_not q there itself.change_is)) now_is

pub value_stands : DrawingKeeps → ValueStands
value_stands drawing w drives last later flights old new state name x after now shows some enough up stands held change_is content_is left writes =
    let s : Setting = record {
      w = w;
      drives = drives;
      last = last;
      later = later;
      flights = flights;
      rest = flights;
      old = old;
      new = new;
      state = state;
      name = name;
      x = x;
      after = after;
      now = now;
      shows = shows;
    } in
    let again : Rewrites s = record {
      some = some;
      enough = enough;
      up = up;
      stands = stands;
      rest_is = refl;
      held = held;
      change_is = change_is;
      content_is = content_is;
      left = left;
      writes = writes;
    } in
    elim left.moves [
      | inl stays ↦ let result = value_stays s again drawing stays.0 stays.1 stays.2 in (stays.0, result.0, result.1)
      | inr moves ↦ absurd (moves.2 change_is)
    ]
