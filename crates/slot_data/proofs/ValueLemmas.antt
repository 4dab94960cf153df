-- The data of a slot stands once the change of a value was written again.
use Rattle.std.proofs.Common.{◌≡◌, inl, inr, ℕ, List, [], sym, subst, ◌∙◌}
use Rattle.stamp_id.specs.declared.version.VersionId.{VersionId}
use Rattle.drive_base.specs.declared.plan.SetPlan.{SetPlan}
use Rattle.drive_base.specs.Plan.{write_drives}
use Rattle.vote_core.specs.Lane.{Lane, Next}
use Rattle.vote_core.specs.Sound.{HoldsValue, IsLive}
use Rattle.slot_history.specs.Contents.{HasOpen, NamedData, NamesData, NamesId}
use Rattle.slot_history.specs.Standing.{Records}
use Rattle.slot_history.specs.State.{IsHeld, State}
use Rattle.register_caller.specs.WrittenLanes.{IsWritten, LeavesLanes, Written}
use Rattle.slot_history.specs.Writing.{WritesUnder}
use Rattle.slot_history.proofs.TakenLemmas.{none_there}
use Rattle.slot_data.specs.Disks.{Disks}
use Rattle.slot_data.specs.Holding.{Hands, Holding}
use Rattle.slot_data.specs.LaneLaws.{ValueStaysData}
use Rattle.slot_data.specs.Live.{IsNamed}
use Rattle.slot_data.specs.Moves.{LanesStand}
use Rattle.slot_data.specs.Standing.{DataStands, RecordNamesId}
use Rattle.slot_data.proofs.CarryLemmas.{Carries, carried}
use Rattle.slot_data.proofs.LaneLemmas.{Nothing, same_holding}
use Rattle.slot_data.proofs.WriteLemmas.{Wrote, adds_waits, coming_waits, of_slot, recorded, unnamed}

module _ (set : SetPlan) (slot last later : ℕ) (old new : Records) (state : State) (holding : Holding) (disks : Disks)
    (hands : Hands) (name : List ℕ) (x : Written) (after : List Lane) (now : ℕ) (shows : List ℕ)
    (stands : LanesStand set last holding old state) (held : IsHeld state.registers name)
    (change_is : x.change ≡ (state.registers name).change) (content_is : x.content ≡ (state.registers name).content)
    (leaves : LeavesLanes (write_drives set.drives set.parity) later x (old name) (state.registers name).change (state.registers name).content after now shows)
    (under : WritesUnder name after old new) (d : DataStands set slot last old state holding disks hands) where
  -- the value is as it was
  same_value : now ≡ (state.registers name).change
  same_value = elim leaves.moves [
    | inl stays ↦ stays.0
    | inr moves ↦ absurd (moves.2 change_is)
  ]

  -- what was written can't become it, as it is
  not_live : (a : Lane) (next : Next) → IsLive after now a next → IsWritten x next → ⊥
  not_live a next live written =
      live.unmarked leaves.holds.sound.value.lane leaves.holds.sound.value.top.there
      (leaves.holds.sound.value.carries ∙ (same_value ∙ (sym change_is ∙ sym written.change_is)))

  -- a base of the value names what is written
  value_recorded : (id : VersionId) → NamesId name x.content id → RecordNamesId old name id
  value_recorded id names =
      let holds : HoldsValue (write_drives set.drives set.parity) last (old name) (state.registers name).change (state.registers name).content =
      (stands.under name held).holds in
      let value = holds.sound.value in
      record {
        lane = value.lane;
        change = (state.registers name).change;
        content = x.content;
        there = value.top.there;
        has = inl (value.carries, holds.contents value.lane value.top.there value.carries ∙ sym content_is);
        names = names;
      }

  -- and what is written is named
  value_named : (named : NamedData) → NamesData name x.content named → IsNamed state name named
  value_named named names = record { held = held; names = subst (λ (bytes : List ℕ). NamesData name bytes named) content_is names }

  value_wrote : Wrote set slot last later old new state holding holding.flights disks hands name x after now shows Nothing
  value_wrote = record {
    stands = stands;
    standing = d;
    held = held;
    leaves = leaves;
    under = under;
    opens = λ at upload is opens. inl (subst (λ (bytes : List ℕ). HasOpen bytes upload) content_is opens);
    content_was = λ named names. inl (value_named named names);
    added_was = λ named names added. inl (value_named named names);
    ids_of_slot = λ id names. d.names.of_slot name id (value_recorded id names);
    ids_landed = λ g there names. d.flights.unnamed g name there (value_recorded g.id names);
    adds = λ a next added live written. absurd (not_live a next live written);
    others = λ g there. there;
  }

  value_carries : Carries set slot old new state state holding holding.flights disks hands hands [] Nothing
  value_carries = record {
    recorded = recorded set slot last later old new state holding holding.flights disks hands name x after now shows Nothing value_wrote;
    of_slot = of_slot set slot last later old new state holding holding.flights disks hands name x after now shows Nothing value_wrote;
    unnamed = unnamed set slot last later old new state holding holding.flights disks hands name x after now shows Nothing value_wrote;
    is_named = λ n named is. inl is;
    is_coming = λ n named is.
        coming_waits set slot last later old new state holding holding.flights disks hands name x after now shows Nothing value_wrote same_value n named
        (record { held = is.held; lane = is.lane; there = is.there; next = is.next; has = is.has; live = is.live; added = is.added; names = is.names });
    flying = λ n named b. absurd b;
    one_name = λ n m named other b c. absurd b;
    has_holders = λ n named b. absurd b;
    adds = adds_waits set slot last later old new state holding holding.flights disks hands name x after now shows Nothing value_wrote same_value;
    others = λ g there. there;
    differ = d.flights.differ;
    gone_was = λ id there. absurd (none_there id there);
    gone_named = λ id n named there. absurd (none_there id there);
    gone_coming = λ id n named there. absurd (none_there id there);
    go_on = record { taken = λ id there. there; known = λ y there. there; listed = d.in_hand.listed };
  }

pub value_stays_data : ValueStaysData
value_stays_data set slot last later old new state holding disks hands name x after now shows above stands held change_is content_is leaves under d =
    subst (λ (h : Holding). DataStands set slot later new state h disks hands) (same_holding holding)
    (carried set slot last later old new state state holding holding.flights disks hands hands [] Nothing above stands
    (value_carries set slot last later old new state holding disks hands name x after now shows stands held change_is content_is leaves under d) d)
