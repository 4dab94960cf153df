-- What lanes stand for after a change that a look found pending was written again: the same state, or that after its late step.
use Rattle.std.proofs.Common.{◌≡◌, ◌≤◌, ◌∙◌, ℕ, List, [], ◌∷◌, Contains, false, bytes_eq, sym, ap, subst, refl, inl, inr}
use Rattle.vote_core.specs.Lane.{Next}
use Rattle.vote_core.specs.Laws.{DrawingKeeps, FreshIsCalm}
use Rattle.register_caller.specs.WrittenLanes.{LeavesLanes, Written, written_of}
use Rattle.register_caller.specs.Pending.{IsPending}
use Rattle.slot_history.specs.Laws.{OnlyTheOld}
use Rattle.slot_history.specs.Sections.{IsOnItsWay}
use Rattle.slot_history.specs.Standing.{WaitsAs}
use Rattle.slot_history.specs.State.{IsHeld, Register, State, Waiting}
use Rattle.slot_history.specs.Waiting.{AreLate, IsLate}
use Rattle.slot_history.specs.Writing.{WritesUnder}
use Rattle.slot_history.proofs.AgainLemmas.{again_stands}
use Rattle.slot_history.proofs.MemberLemmas.{cons_cases, nil_none}
use Rattle.slot_data.specs.Disks.{Disks}
use Rattle.slot_data.specs.Holding.{Hands}
use Rattle.slot_data.specs.Moves.{LanesStand}
use Rattle.slot_data.specs.Standing.{DataStands}
use Rattle.slot_data.proofs.LaneLemmas.{again_is_late_data, again_stays_data}
use Rattle.vote_core.specs.Sound.{IsLive}
use Rattle.slot_core.proofs.OwnAgainLemmas.{OwnAgain, Write, own_again_data, own_again_rests, own_again_stands, own_stays, quorum, stood}

-- what a look found pending was written
pub record WroteAgain (s : Write) : Type 0 where
  pub some : 1 ≤ quorum s
  pub enough : quorum s ≤ s.set.drives
  pub up : s.last ≤ s.later
  pub stands : LanesStand s.set s.last s.holding s.old s.state
  pub held : IsHeld s.state.registers s.name
  pub found : Next
  pub pending : IsPending (s.old s.name) (stood s).change found
  pub x_is : s.x ≡ written_of found
  pub own_content : found.change ≡ (stood s).change → found.content ≡ (stood s).content
  pub left : LeavesLanes (quorum s) s.later s.x (s.old s.name) (stood s).change (stood s).content s.after s.now s.shows
  pub writes : WritesUnder s.name s.after s.old s.new

-- the state that it leaves
pub record Forwarded (s : Write) : Type 0 where
  pub moved : State
  pub stands : LanesStand s.set s.later s.holding s.new moved
  pub lates : List Waiting
  pub late_steps : AreLate lates s.state moved
  pub carried : (p : Waiting) → Contains lates p → IsOnItsWay s.old s.state p
  pub rests : OnlyTheOld s.old s.state s.new moved
  pub register_is : moved.registers s.name ≡ record { change = s.now; content = s.shows }
  pub others : (other : List ℕ) → bytes_eq s.name other ≡ false → moved.registers other ≡ s.state.registers other
  pub goes_on : (slot : ℕ) (disks : Disks) (hands : Hands) → DataStands s.set slot s.last s.old s.state s.holding disks hands
      → DataStands s.set slot s.later s.new moved s.holding disks hands

-- registers of one change and one content are one
same_register : (r : Register) (c : ℕ) (bytes : List ℕ) → c ≡ r.change → bytes ≡ r.content → r ≡ record { change = c; content = bytes }
same_register r c bytes change content = λ i. record { change = sym change i; content = sym content i }

-- only one change is in a list of one
one_late : (s : Write) (p q : Waiting) → IsOnItsWay s.old s.state p → Contains (p ∷ []) q → IsOnItsWay s.old s.state q
one_late s p q way there = elim (cons_cases p [] q there) [
  | inl same ↦ subst (λ (v : Waiting). IsOnItsWay s.old s.state v) same way
  | inr none ↦ absurd (nil_none q none)
]

-- it was the value's own change
own_forwarded : DrawingKeeps → (s : Write) (a : WroteAgain s) → a.found.change ≡ (stood s).change → Forwarded s
own_forwarded drawing s a own =
    let o : OwnAgain s = record {
      up = a.up;
      stands = a.stands;
      held = a.held;
      change_is = ap (λ (x : Written). x.change) a.x_is ∙ own;
      content_is = ap (λ (x : Written). x.content) a.x_is ∙ a.own_content own;
      left = a.left;
      writes = a.writes;
    } in
    let stays = own_stays s o in
    record {
      moved = s.state;
      stands = own_again_stands s o drawing;
      lates = [];
      late_steps = refl;
      carried = λ p there. absurd (nil_none p there);
      rests = own_again_rests s o;
      register_is = same_register (stood s) s.now s.shows stays.0 stays.1;
      others = λ other differs. refl;
      goes_on = own_again_data s o;
    }

-- it was another change on its way
live_forwarded : DrawingKeeps → FreshIsCalm → (s : Write) (a : WroteAgain s) → IsLive (s.old s.name) (stood s).change a.pending.lane a.found → Forwarded s
live_forwarded drawing fresh s a live =
    let waiting = (a.stands.under s.name a.held).waits a.pending.lane a.found a.pending.there a.pending.has live in
    let w : WaitsAs s.state s.name a.found waiting.0 = waiting.1 in
    let p : Waiting = record { change = a.found.change; name = s.name; parent = a.found.parent; content = a.found.content } in
    let same : waiting.0 ≡ p = λ i. record { change = w.change_is i; name = w.name_is i; parent = w.parent_is i; content = w.content_is i } in
    let way : IsOnItsWay s.old s.state p = record {
      held = a.held;
      lane = a.pending.lane;
      there = a.pending.there;
      next = a.found;
      has = a.pending.has;
      live = live;
      waits = record {
        there = subst (λ (q : Waiting). Contains s.state.pending q) same w.there;
        change_is = refl;
        name_is = refl;
        parent_is = refl;
        content_is = refl;
      };
    } in
    let change_is : s.x.change ≡ p.change = ap (λ (x : Written). x.change) a.x_is in
    let content_is : s.x.content ≡ p.content = ap (λ (x : Written). x.content) a.x_is in
    let adds_is : s.x.adds ≡ way.next.adds = ap (λ (x : Written). x.adds) a.x_is in
    let differs : a.found.change ≡ (stood s).change → ⊥ = λ equal. live.unmarked a.pending.lane a.pending.there (live.base ∙ sym equal) in
    elim (again_stands drawing fresh (quorum s) s.set.drives s.last s.later s.holding.flights s.old s.new s.state p s.x s.after s.now s.shows
    a.some a.enough a.up a.stands way change_is content_is adds_is a.left a.writes) [
      | inl stays ↦ record {
        moved = s.state;
        stands = stays.1;
        lates = [];
        late_steps = refl;
        carried = λ q there. absurd (nil_none q there);
        rests = stays.2;
        register_is = same_register (stood s) s.now s.shows stays.0 (elim a.left.moves [
          | inl same_value ↦ same_value.1
          | inr moved ↦ absurd (moved.2 (sym moved.0 ∙ stays.0))
        ]);
        others = λ other differs. refl;
        goes_on = λ slot disks hands d. again_stays_data s.set slot s.last s.later s.old s.new s.state s.holding disks hands p s.x s.after s.now s.shows
            a.up a.stands way change_is content_is adds_is a.left a.writes stays.0 d;
      }
      | inr moves ↦
          let moved : State = moves.1.0 in
          let late : IsLate p s.state moved = moves.1.1 in
          record {
            moved = moved;
            stands = moves.1.2;
            lates = p ∷ [];
            late_steps = (moved, late, refl);
            carried = λ q there. one_late s p q way there;
            rests = moves.1.3;
            register_is = late.changes.is ∙ same_register (record { change = p.change; content = p.content }) s.now s.shows moves.0 (elim a.left.moves [
              | inl same_value ↦ absurd (differs (sym moves.0 ∙ same_value.0))
              | inr was ↦ was.1 ∙ content_is
            ]);
            others = late.changes.stays;
            goes_on = λ slot disks hands d. again_is_late_data s.set slot s.last s.later s.old s.new s.state moved s.holding disks hands p s.x s.after s.now s.shows
                a.up a.stands way change_is content_is adds_is a.left a.writes moves.0 late d;
          }
    ]

-- either way
pub forwarded : DrawingKeeps → FreshIsCalm → (s : Write) → WroteAgain s → Forwarded s
forwarded drawing fresh s a = elim a.pending.may [
  | inl own ↦ own_forwarded drawing s a own
  | inr live ↦ live_forwarded drawing fresh s a live
]
