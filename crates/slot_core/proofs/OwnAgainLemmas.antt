-- What lanes stand for after the value's own change was written again: the same state, and the data goes on to stand.
use Rattle.std.proofs.Common.{◌≡◌, ◌⊎◌, ◌≤◌, ◌∙◌, ℕ, Option, List, [], length, Contains, sym, ap, subst, refl, inl, inr, arith}
use Rattle.std.proofs.lemmas.List.{append-nil}
use Rattle.stamp_id.specs.declared.version.VersionId.{VersionId}
use Rattle.call_types.specs.declared.names.Key.{Key}
use Rattle.drive_base.specs.Plan.{write_drives}
use Rattle.drive_base.specs.declared.plan.SetPlan.{SetPlan}
use Rattle.vote_core.specs.Lane.{Added, HasNext, HasRecord, Lane, Next}
use Rattle.vote_core.specs.Laws.{DrawingKeeps}
use Rattle.vote_core.specs.Sound.{HoldsValue, IsLive, LanesAreDrawn}
use Rattle.register_caller.specs.WrittenLanes.{LeavesLanes, WasLive, Written}
use Rattle.slot_history.specs.Contents.{NamedData, NamesData, number_of_id}
use Rattle.slot_history.specs.Laws.{OnlyTheOld}
use Rattle.slot_history.specs.Names.{part_name}
use Rattle.slot_history.specs.Standing.{AreBlank, IsAdded, IsLawfulUnder, IsSpent, Records, Stands, StandsUnder, WaitsAs}
use Rattle.slot_history.specs.State.{IsHeld, Register, State}
use Rattle.slot_history.specs.Writing.{WritesUnder}
use Rattle.slot_history.proofs.MemberLemmas.{same_or_other}
use Rattle.slot_history.proofs.StandLemmas.{lawful_still, spent_later}
use Rattle.slot_data.specs.Bringing.{with_gone}
use Rattle.slot_data.specs.Disks.{Disks}
use Rattle.slot_data.specs.Holding.{Hands, Holding}
use Rattle.slot_data.specs.Moves.{LanesStand, with_trash}
use Rattle.slot_data.specs.Standing.{AddsAreNamed, DataStands}
use Rattle.slot_data.proofs.CarryLemmas.{Carries, carried}
use Rattle.slot_rules.proofs.PartLemmas.{held_open}
use Rattle.slot_history.proofs.TakenLemmas.{none_there}

-- one register of a slot was written: where, what, and what it left
pub record Write : Type 0 where
  pub set : SetPlan
  pub last : ℕ
  pub later : ℕ
  pub holding : Holding
  pub old : Records
  pub new : Records
  pub state : State
  pub name : List ℕ
  pub x : Written
  pub after : List Lane
  pub now : ℕ
  pub shows : List ℕ

-- the write quorum, and the register that stood there
abbrev pub quorum : Write → ℕ
quorum s = write_drives s.set.drives s.set.parity

abbrev pub stood : Write → Register
stood s = s.state.registers s.name

-- the value's own change was written
pub record OwnAgain (s : Write) : Type 0 where
  pub up : s.last ≤ s.later
  pub stands : LanesStand s.set s.last s.holding s.old s.state
  pub held : IsHeld s.state.registers s.name
  pub change_is : s.x.change ≡ (stood s).change
  pub content_is : s.x.content ≡ (stood s).content
  pub left : LeavesLanes (quorum s) s.later s.x (s.old s.name) (stood s).change (stood s).content s.after s.now s.shows
  pub writes : WritesUnder s.name s.after s.old s.new

module _ (s : Write) (a : OwnAgain s) where
  -- the value stays
  pub own_stays : (s.now ≡ (stood s).change) × (s.shows ≡ (stood s).content)
  own_stays = elim a.left.moves [
    | inl stays ↦ (stays.0, stays.1)
    | inr moved ↦ absurd (moved.2 a.change_is)
  ]

  -- a lane had the value's record
  own_record : (b : Lane) × Contains (s.old s.name) b × HasRecord b (stood s).change (stood s).content
  own_record =
      let holds : HoldsValue (quorum s) s.last (s.old s.name) (stood s).change (stood s).content = (a.stands.under s.name a.held).holds in
      let top = holds.sound.value in
      (top.lane, top.top.there, inl (top.carries, holds.contents top.lane top.top.there top.carries))

  -- each record was there
  record_was : (n : List ℕ) (b : Lane) (c : ℕ) (bytes : List ℕ) → Contains (s.new n) b → HasRecord b c bytes
      → (o : Lane) × Contains (s.old n) o × HasRecord o c bytes
  record_was n b c bytes there has = elim (same_or_other s.name n) [
    | inl same ↦
        let here : Contains s.after b = subst (λ (l : List Lane). Contains l b) a.writes.is (subst (λ (m : List ℕ). Contains (s.new m) b) (sym same) there) in
        elim (a.left.records b c bytes here has) [
          | inl o ↦ (o.0, subst (λ (m : List ℕ). Contains (s.old m) o.0) same o.1, o.2)
          | inr written ↦ (
            own_record.0,
            subst (λ (m : List ℕ). Contains (s.old m) own_record.0) same own_record.1,
            subst (λ (k : ℕ). HasRecord own_record.0 k bytes) (sym (written.0 ∙ a.change_is))
                (subst (λ (y : List ℕ). HasRecord own_record.0 (stood s).change y) (sym (written.1 ∙ a.content_is)) own_record.2),
          )
        ]
    | inr other ↦ (b, subst (λ (l : List Lane). Contains l b) (a.writes.stays n other) there, has)
  ]

  -- what may become the value could so before
  live_here : (b : Lane) (next : Next) → Contains s.after b → HasNext b next → IsLive s.after (stood s).change b next
      → WasLive (s.old s.name) (stood s).change next
  live_here b next there has live = elim a.left.moves [
    | inl stays ↦ elim (stays.2 b next there has (subst (λ (c : ℕ). IsLive s.after c b next) (sym stays.0) live)) [
      | inl was ↦ was
      | inr written ↦
          let top = a.left.holds.sound.value in
          absurd (live.unmarked top.lane top.top.there (top.carries ∙ (stays.0 ∙ (sym a.change_is ∙ sym written.change_is))))
    ]
    | inr moved ↦ absurd (moved.2 a.change_is)
  ]

  live_was : (n : List ℕ) (b : Lane) (next : Next) → Contains (s.new n) b → HasNext b next → IsLive (s.new n) (s.state.registers n).change b next
      → WasLive (s.old n) (s.state.registers n).change next
  live_was n b next there has live = elim (same_or_other s.name n) [
    | inl same ↦
        let lanes : s.new n ≡ s.after = ap (λ (m : List ℕ). s.new m) (sym same) ∙ a.writes.is in
        let here : Contains s.after b = subst (λ (l : List Lane). Contains l b) lanes there in
        let alive : IsLive s.after (s.state.registers n).change b next = subst (λ (l : List Lane). IsLive l (s.state.registers n).change b next) lanes live in
        let own : IsLive s.after (stood s).change b next = subst (λ (m : List ℕ). IsLive s.after (s.state.registers m).change b next) (sym same) alive in
        subst (λ (m : List ℕ). WasLive (s.old m) (s.state.registers m).change next) same (live_here b next here has own)
    | inr other ↦
        let lanes : s.new n ≡ s.old n = a.writes.stays n other in
        record {
          lane = b;
          there = subst (λ (l : List Lane). Contains l b) lanes there;
          found = next;
          has = has;
          live = subst (λ (l : List Lane). IsLive l (s.state.registers n).change b next) lanes live;
          change_is = refl;
          content_is = refl;
          adds_is = refl;
        }
  ]

  -- the lanes hold each register
  holds_still : DrawingKeeps → (n : List ℕ) → IsHeld s.state.registers n
      → HoldsValue (quorum s) s.later (s.new n) (s.state.registers n).change (s.state.registers n).content
  holds_still drawing n held = elim (same_or_other s.name n) [
    | inl same ↦
        let here : HoldsValue (quorum s) s.later s.after (stood s).change (stood s).content =
        subst (λ (bytes : List ℕ). HoldsValue (quorum s) s.later s.after (stood s).change bytes) own_stays.1
        (subst (λ (c : ℕ). HoldsValue (quorum s) s.later s.after c s.shows) own_stays.0 a.left.holds) in
        subst (λ (m : List ℕ). HoldsValue (quorum s) s.later (s.new m) (s.state.registers m).change (s.state.registers m).content) same
        (subst (λ (l : List Lane). HoldsValue (quorum s) s.later l (stood s).change (stood s).content) (sym a.writes.is) here)
    | inr other ↦
        subst (λ (l : List Lane). HoldsValue (quorum s) s.later l (s.state.registers n).change (s.state.registers n).content) (sym (a.writes.stays n other))
        (drawing (quorum s) s.last s.later (s.state.registers n).change (s.state.registers n).content (s.old n) a.up (a.stands.under n held).holds)
  ]

  under_still_own : DrawingKeeps → (n : List ℕ) → IsHeld s.state.registers n → StandsUnder (quorum s) s.later (s.new n) s.state n
  under_still_own drawing n held =
      let under : StandsUnder (quorum s) s.last (s.old n) s.state n = a.stands.under n held in
      record {
        holds = holds_still drawing n held;
        waits = λ b next there has live.
            let was = live_was n b next there has live in
            let found = under.waits was.lane was.found was.there was.has was.live in
            let one : WaitsAs s.state n was.found found.0 = found.1 in (
              found.0,
              record {
                there = one.there;
                change_is = one.change_is ∙ sym was.change_is;
                name_is = one.name_is;
                parent_is = one.parent_is ∙ (was.live.parent ∙ sym live.parent);
                content_is = one.content_is ∙ sym was.content_is;
              },
            );
        brings = λ b next there has live named names.
            let was = live_was n b next there has live in
            elim (under.brings was.lane was.found was.there was.has was.live named (subst (λ (bytes : List ℕ). NamesData n bytes named) was.content_is names)) [
              | inl before ↦ inl before
              | inr adds ↦ inr (subst (λ (o : Option Added). IsAdded o named) (sym was.adds_is) adds)
            ];
      }

  lawful_under_still : (n : List ℕ) → IsLawfulUnder s.set.drives s.later s.holding.flights (s.new n) n
  lawful_under_still n =
      let spent : (c : ℕ) → IsSpent s.last s.holding.flights c → IsSpent s.later s.holding.flights c =
      spent_later s.last s.later s.holding.flights s.holding.flights a.up (λ f h. h) in
      let was : IsLawfulUnder s.set.drives s.later s.holding.flights (s.old n) n =
      lawful_still s.set.drives s.last s.later s.holding.flights s.holding.flights (s.old n) n a.up spent (a.stands.lawful_under n) in
      elim (same_or_other s.name n) [
        | inl same ↦
            let lanes : s.new n ≡ s.after = ap (λ (m : List ℕ). s.new m) (sym same) ∙ a.writes.is in
            record {
              counted = ap length lanes ∙ (a.left.counted ∙ (ap (λ (m : List ℕ). length (s.old m)) same ∙ was.counted));
              drawn = subst (λ (l : List Lane). LanesAreDrawn s.later l) (sym lanes) a.left.holds.sound.drawn;
              contents = λ b c content there has. let o = record_was n b c content there has in was.contents o.0 c content o.1 o.2;
              ids = λ b c content id there has names. let o = record_was n b c content there has in was.ids o.0 c content id o.1 o.2 names;
              changes = λ b c content there has. let o = record_was n b c content there has in was.changes o.0 c content o.1 o.2;
            }
        | inr other ↦ subst (λ (l : List Lane). IsLawfulUnder s.set.drives s.later s.holding.flights l n) (sym (a.writes.stays n other)) was
      ]

  uploads_still : (at : Key) (upload : VersionId) (number : ℕ)
      → AreBlank (s.new (part_name at upload number)) ⊎ Contains s.state.applied (number_of_id upload)
  uploads_still at upload number = elim (same_or_other s.name (part_name at upload number)) [
    | inl same ↦ inr (a.stands.lawful.opened at upload
        (held_open s.state.registers at upload number (subst (λ (n : List ℕ). IsHeld s.state.registers n) same a.held)))
    | inr other ↦ elim (a.stands.uploads at upload number) [
      | inl none ↦ inl (subst (λ (l : List Lane). AreBlank l) (sym (a.writes.stays (part_name at upload number) other)) none)
      | inr done ↦ inr done
    ]
  ]

  -- the lanes stand for the same state
  pub own_again_stands : DrawingKeeps → Stands (quorum s) s.set.drives s.later s.holding.flights s.new s.state
  own_again_stands drawing =
      let spent : (c : ℕ) → IsSpent s.last s.holding.flights c → IsSpent s.later s.holding.flights c =
      spent_later s.last s.later s.holding.flights s.holding.flights a.up (λ f h. h) in
      record {
        under = under_still_own drawing;
        lawful_under = lawful_under_still;
        lawful = a.stands.lawful;
        pending = λ q h. spent q.change (a.stands.pending q h);
        applied = λ c h. spent c (a.stands.applied c h);
        flying = λ f h. let low = a.stands.flying f h in let up = a.up in omega arith;
        uploads = uploads_still;
      }

  -- what is on its way was so before
  pub own_again_rests : OnlyTheOld s.old s.state s.new s.state
  own_again_rests q way =
      let was = live_was q.name way.lane way.next way.there way.has way.live in
      record {
        held = way.held;
        lane = was.lane;
        there = was.there;
        next = was.found;
        has = was.has;
        live = was.live;
        waits = record {
          there = way.waits.there;
          change_is = way.waits.change_is ∙ was.change_is;
          name_is = way.waits.name_is;
          parent_is = way.waits.parent_is ∙ (way.live.parent ∙ sym was.live.parent);
          content_is = way.waits.content_is ∙ was.content_is;
        };
      }

  -- ---- the data

  -- nothing is brought
  abbrev Nothing : List ℕ → NamedData → Type 0
  Nothing n named = ⊥

  own_carries : (slot : ℕ) (disks : Disks) (hands : Hands) → DataStands s.set slot s.last s.old s.state s.holding disks hands
      → Carries s.set slot s.old s.new s.state s.state s.holding s.holding.flights disks hands hands [] Nothing
  own_carries slot disks hands d = record {
    recorded = λ n id r.
        let o = record_was n r.lane r.change r.content r.there r.has in
        inl (record { lane = o.0; change = r.change; content = r.content; there = o.1; has = o.2; named = r.named; names = r.names; id_is = r.id_is });
    of_slot = λ n id r.
        let o = record_was n r.lane r.change r.content r.there r.has in
        d.names.of_slot n id (record { lane = o.0; change = r.change; content = r.content; there = o.1; has = o.2; names = r.names });
    unnamed = λ g n there r.
        let o = record_was n r.lane r.change r.content r.there r.has in
        d.flights.unnamed g n there (record { lane = o.0; change = r.change; content = r.content; there = o.1; has = o.2; names = r.names });
    is_named = λ n named is. inl is;
    is_coming = λ n named is.
        let was = live_was n is.lane is.next is.there is.has is.live in
        inr (inl (record {
          held = is.held;
          lane = was.lane;
          there = was.there;
          next = was.found;
          has = was.has;
          live = was.live;
          added = subst (λ (o : Option Added). IsAdded o named) was.adds_is is.added;
          names = subst (λ (bytes : List ℕ). NamesData n bytes named) was.content_is is.names;
        }));
    flying = λ n named b. absurd b;
    one_name = λ n m named other b c. absurd b;
    has_holders = λ n named b. absurd b;
    adds = λ n b next added held there has live same.
        let was = live_was n b next there has live in
        subst (λ (bytes : List ℕ). AddsAreNamed n bytes added) (sym was.content_is)
        (d.holders.adds n was.lane was.found added held was.there was.has was.live (sym was.adds_is ∙ same));
    others = λ g there. there;
    differ = d.flights.differ;
    gone_was = λ id there. absurd (none_there id there);
    gone_named = λ id n named there. absurd (none_there id there);
    gone_coming = λ id n named there. absurd (none_there id there);
    go_on = record { taken = λ id there. there; known = λ y there. there; listed = d.in_hand.listed };
  }

  -- and the data goes on to stand
  pub own_again_data : (slot : ℕ) (disks : Disks) (hands : Hands) → DataStands s.set slot s.last s.old s.state s.holding disks hands
      → DataStands s.set slot s.later s.new s.state s.holding disks hands
  own_again_data slot disks hands d =
      let same : with_gone s.holding s.holding.flights [] ≡ s.holding = ap (λ (t : List VersionId). with_trash s.holding t) (append-nil s.holding.trash) in
      subst (λ (h : Holding). DataStands s.set slot s.later s.new s.state h disks hands) same
      (carried s.set slot s.last s.later s.old s.new s.state s.state s.holding s.holding.flights disks hands hands [] Nothing a.up a.stands
      (own_carries slot disks hands d) d)
