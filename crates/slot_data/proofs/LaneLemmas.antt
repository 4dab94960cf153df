-- The data of a slot stands once a change of its own was written, or one that was on its way was written again.
use Rattle.std.proofs.Common.{◌≡◌, ◌⊎◌, inl, inr, ℕ, ◌<◌, false, List, [], map, Option, Contains, refl, sym, subst, ap, ◌∙◌}
use Rattle.std.specs.Str.{bytes_eq}
use Rattle.std.proofs.lemmas.List.{append-nil}
use Rattle.stamp_id.specs.declared.version.VersionId.{VersionId}
use Rattle.drive_base.specs.declared.plan.SetPlan.{SetPlan}
use Rattle.drive_base.specs.Plan.{write_drives}
use Rattle.version_list.specs.State.{AreDistinct}
use Rattle.vote_core.specs.Lane.{Added, Lane}
use Rattle.slot_history.specs.Committing.{MayCommit}
use Rattle.slot_history.specs.Contents.{HasOpen, NamedData, NamesData, NamesId, number_of_id}
use Rattle.slot_history.specs.Laws.{with_waiting}
use Rattle.slot_history.specs.Sections.{IsOnItsWay}
use Rattle.slot_history.specs.Standing.{Flying, IsAdded, Records}
use Rattle.slot_history.specs.State.{Changes, IsNew, Register, State, Waiting}
use Rattle.slot_history.specs.Waiting.{IsLate}
use Rattle.register_caller.specs.WrittenLanes.{LeavesLanes, Written}
use Rattle.slot_history.specs.Writing.{WritesUnder}
use Rattle.slot_history.proofs.TakenLemmas.{left_distinct, left_there, none_there}
use Rattle.slot_data.specs.Bringing.{BringsData, GoOn, IsBrought, IsGone, MayEndOne, with_gone}
use Rattle.slot_data.specs.Disks.{Disks, HasHolders}
use Rattle.slot_data.specs.Holding.{Hands, Holding}
use Rattle.slot_data.specs.LaneLaws.{AgainIsLateData, AgainStaysData, OwnMakesData, OwnWaitsData}
use Rattle.slot_data.specs.Live.{IsComing}
use Rattle.slot_data.specs.Moves.{LanesStand, with_trash}
use Rattle.slot_data.specs.Standing.{AddsAreNamed, DataStands, RecordNames, RecordNamesId}
use Rattle.slot_data.proofs.CarryLemmas.{Carries, carried}
use Rattle.slot_data.proofs.ListedLemmas.{Within}
use Rattle.slot_data.proofs.NamingLemmas.{record_of_coming, record_of_named}
use Rattle.slot_data.proofs.WriteLemmas.{Makes, Wrote, adds_makes, adds_waits, by_name, coming_makes, coming_waits, named_elsewhere, named_makes, not_same, of_slot, recorded, unnamed, written_at}

-- ---- a put that ends

ends_others : (flights rest : List Flying) → MayEndOne flights rest → Within rest flights
ends_others flights rest (inl f) = left_there f.0 flights rest f.1
ends_others flights rest (inr same) = λ g there. subst (λ (l : List Flying). Contains l g) same there

ends_differ :
    (flights rest : List Flying) → MayEndOne flights rest → AreDistinct (map (λ (f : Flying). f.id) flights) → AreDistinct (map (λ (f : Flying). f.id) rest)
ends_differ flights rest (inl f) distinct = left_distinct (λ (g : Flying). g.id) f.0 flights rest f.1 distinct
ends_differ flights rest (inr same) distinct = subst (λ (l : List Flying). AreDistinct (map (λ (f : Flying). f.id) l)) (sym same) distinct

-- what it brings, to this register
abbrev BroughtTo : Holding → List Flying → Hands → List ℕ → List ℕ → NamedData → Type 0
BroughtTo holding rest hands name n named = (n ≡ name) × IsBrought holding.flights rest hands name named

-- ---- a change of one's own

module _ (set : SetPlan) (slot last later : ℕ) (old new : Records) (state : State) (holding : Holding) (rest : List Flying) (disks : Disks)
    (hands : Hands) (name : List ℕ) (x : Written) (after : List Lane) (now : ℕ) (shows : List ℕ)
    (stands : LanesStand set last holding old state) (may : MayCommit last later holding.flights rest state name x) (fresh : IsNew x.change state)
    (leaves : LeavesLanes (write_drives set.drives set.parity) later x (old name) (state.registers name).change (state.registers name).content after now shows)
    (under : WritesUnder name after old new) (ends : MayEndOne holding.flights rest) (brings : BringsData slot holding.flights rest hands name x)
    (d : DataStands set slot last old state holding disks hands) where
  own_wrote : Wrote set slot last later old new state holding rest disks hands name x after now shows (BroughtTo holding rest hands name)
  own_wrote = record {
    stands = stands;
    standing = d;
    held = may.held;
    leaves = leaves;
    under = under;
    opens = may.opens;
    content_was = λ named names. elim (may.brings named names) [
      | inl before ↦ inl (record { held = may.held; names = before })
      | inr added ↦ inr (inr (refl, brings.brought named names added))
    ];
    added_was = λ named names added. inr (inr (refl, brings.brought named names added));
    ids_of_slot = brings.of_slot;
    ids_landed = λ g there names. (may.ids g.id names).landed g there refl;
    adds = λ a next added live written. brings.adds added;
    others = ends_others holding.flights rest ends;
  }

  -- what is brought has its holders
  brought_held : (n : List ℕ) (named : NamedData) → BroughtTo holding rest hands name n named → HasHolders set disks named n
  brought_held n named b =
      subst (λ (m : List ℕ). HasHolders set disks named m) (sym b.0) (d.in_hand.holders (record { named = named; name = name }) b.1.known)

  waits_carries :
      (less : Hands) → now ≡ (state.registers name).change → GoOn hands less (with_gone holding rest [])
      → Carries set slot old new state (with_waiting state name x) holding rest disks hands less [] (BroughtTo holding rest hands name)
  waits_carries less same go_on = record {
    recorded = recorded set slot last later old new state holding rest disks hands name x after now shows (BroughtTo holding rest hands name) own_wrote;
    of_slot = of_slot set slot last later old new state holding rest disks hands name x after now shows (BroughtTo holding rest hands name) own_wrote;
    unnamed = unnamed set slot last later old new state holding rest disks hands name x after now shows (BroughtTo holding rest hands name) own_wrote;
    is_named = λ n named is. inl (record { held = is.held; names = is.names });
    is_coming = coming_waits set slot last later old new state holding rest disks hands name x after now shows (BroughtTo holding rest hands name) own_wrote same;
    flying = λ n named b. b.1.flying;
    one_name = λ n m named other b c. b.0 ∙ sym c.0;
    has_holders = brought_held;
    adds = adds_waits set slot last later old new state holding rest disks hands name x after now shows (BroughtTo holding rest hands name) own_wrote same;
    others = ends_others holding.flights rest ends;
    differ = ends_differ holding.flights rest ends d.flights.differ;
    gone_was = λ id there. absurd (none_there id there);
    gone_named = λ id n named there. absurd (none_there id there);
    gone_coming = λ id n named there. absurd (none_there id there);
    go_on = go_on;
  }

  module _ (made : State) (makes : Makes state made name x now)
      (gone : List VersionId) (is_gone : (id : VersionId) → Contains gone id → IsGone name (state.registers name).content x.content id) where
    -- a record of this register named what is gone
    gone_recorded : (id : VersionId) → Contains gone id → RecordNames old name id
    gone_recorded id there =
        let g = is_gone id there in
        record_of_named (write_drives set.drives set.parity) set.drives last holding.flights old state name g.named id stands
        (record { held = may.held; names = g.named_before }) g.id_is

    -- so no other register does
    not_elsewhere : (id : VersionId) (n : List ℕ) → Contains gone id → bytes_eq name n ≡ false → RecordNames old n id → ⊥
    not_elsewhere id n there differ r = not_same name n differ (d.names.one_name id name n (gone_recorded id there) r)

    makes_carries :
        (less : Hands) → GoOn hands less (with_gone holding rest gone)
        → Carries set slot old new state made holding rest disks hands less gone (BroughtTo holding rest hands name)
    makes_carries less go_on = record {
      recorded = recorded set slot last later old new state holding rest disks hands name x after now shows (BroughtTo holding rest hands name) own_wrote;
      of_slot = of_slot set slot last later old new state holding rest disks hands name x after now shows (BroughtTo holding rest hands name) own_wrote;
      unnamed = unnamed set slot last later old new state holding rest disks hands name x after now shows (BroughtTo holding rest hands name) own_wrote;
      is_named = named_makes set slot last later old new state holding rest disks hands name x after now shows (BroughtTo holding rest hands name) own_wrote made makes;
      is_coming = λ n named is. inr (inl (coming_makes set slot last later old new state holding rest disks hands name x after now shows
          (BroughtTo holding rest hands name) own_wrote made makes n named is).1);
      flying = λ n named b. b.1.flying;
      one_name = λ n m named other b c. b.0 ∙ sym c.0;
      has_holders = brought_held;
      adds = adds_makes set slot last later old new state holding rest disks hands name x after now shows (BroughtTo holding rest hands name) own_wrote made makes;
      others = ends_others holding.flights rest ends;
      differ = ends_differ holding.flights rest ends d.flights.differ;
      gone_was = λ id there. (
          let g = is_gone id there in
          (g.at, subst (λ (n : List ℕ). RecordNames old n id) g.name_is (gone_recorded id there)));
      gone_named = λ id n named there is same. by_name name n
          (λ at_name. (is_gone id there).unnamed named
          (written_at set slot last later old new state holding rest disks hands name x after now shows (BroughtTo holding rest hands name) own_wrote
          made makes n named at_name is) same)
          (λ differ. not_elsewhere id n there differ
          (record_of_named (write_drives set.drives set.parity) set.drives last holding.flights old state n named id stands
          (named_elsewhere set slot last later old new state holding rest disks hands name x after now shows (BroughtTo holding rest hands name) own_wrote
          made makes n named differ is) same));
      gone_coming = λ id n named there is same. (
          let before = coming_makes set slot last later old new state holding rest disks hands name x after now shows
          (BroughtTo holding rest hands name) own_wrote made makes n named is in
          not_elsewhere id n there before.0 (record_of_coming old state n named id before.1 same));
      go_on = go_on;
    }

pub own_waits_data : OwnWaitsData
own_waits_data set slot last later old new state holding rest disks hands less name x after now shows above stands may fresh leaves under same ends brings go_on d =
    carried set slot last later old new state (with_waiting state name x) holding rest disks hands less [] (BroughtTo holding rest hands name) above stands
    (waits_carries set slot last later old new state holding rest disks hands name x after now shows stands may fresh leaves under ends brings d less same go_on) d

pub own_makes_data : OwnMakesData
own_makes_data set slot last later old new state made holding rest disks hands less name x after now shows gone above stands may fresh leaves under value is_made
    ends brings go_on is_gone d =
    carried set slot last later old new state made holding rest disks hands less gone (BroughtTo holding rest hands name) above stands
    (makes_carries set slot last later old new state holding rest disks hands name x after now shows stands may fresh leaves under ends brings d
    made (record { changes = is_made.changes; value = value; some = may.some; is_new = fresh.not_applied }) gone is_gone less go_on) d

-- ---- a change that was on its way

-- nothing is brought
abbrev pub Nothing : List ℕ → NamedData → Type 0
Nothing n named = ⊥

-- what a change makes
abbrev register_made : ℕ → List ℕ → Register
register_made change content = record { change = change; content = content }

-- a slot that ends no put and has no new trash keeps what it kept
pub same_holding : (holding : Holding) → with_gone holding holding.flights [] ≡ holding
same_holding holding = ap (λ (t : List VersionId). with_trash holding t) (append-nil holding.trash)

module _ (set : SetPlan) (slot last later : ℕ) (old new : Records) (state : State) (holding : Holding) (disks : Disks)
    (hands : Hands) (p : Waiting) (x : Written) (after : List Lane) (now : ℕ) (shows : List ℕ)
    (stands : LanesStand set last holding old state) (way : IsOnItsWay old state p)
    (change_is : x.change ≡ p.change) (content_is : x.content ≡ p.content) (adds_is : x.adds ≡ way.next.adds)
    (leaves : LeavesLanes (write_drives set.drives set.parity) later x (old p.name) (state.registers p.name).change (state.registers p.name).content after now shows)
    (under : WritesUnder p.name after old new) (d : DataStands set slot last old state holding disks hands) where
  -- its content is that of the next on its way
  same_content : x.content ≡ way.next.content
  same_content = content_is ∙ way.waits.content_is

  -- so a record names what it names
  was_recorded : (id : VersionId) → NamesId p.name x.content id → RecordNamesId old p.name id
  was_recorded id names = record {
    lane = way.lane;
    change = way.next.change;
    content = way.next.content;
    there = way.there;
    has = inr (way.next, way.has, refl, refl);
    names = subst (λ (bytes : List ℕ). NamesId p.name bytes id) same_content names;
  }

  -- and what it adds was coming
  was_coming : (named : NamedData) → NamesData p.name x.content named → IsAdded way.next.adds named → IsComing old state p.name named
  was_coming named names added = record {
    held = way.held;
    lane = way.lane;
    there = way.there;
    next = way.next;
    has = way.has;
    live = way.live;
    added = added;
    names = subst (λ (bytes : List ℕ). NamesData p.name bytes named) same_content names;
  }

  again_wrote : Wrote set slot last later old new state holding holding.flights disks hands p.name x after now shows Nothing
  again_wrote = record {
    stands = stands;
    standing = d;
    held = way.held;
    leaves = leaves;
    under = under;
    opens = λ at upload named opened.
        subst (λ (c : ℕ). HasOpen (state.registers p.name).content upload ⊎ (number_of_id upload ≡ c)) (sym change_is)
        (stands.lawful.opens p way.waits.there (way.waits.parent_is ∙ way.live.parent) at upload named
        (subst (λ (bytes : List ℕ). HasOpen bytes upload) content_is opened));
    content_was = λ named names.
        elim ((stands.under p.name way.held).brings way.lane way.next way.there way.has way.live named
        (subst (λ (bytes : List ℕ). NamesData p.name bytes named) same_content names)) [
          | inl before ↦ inl (record { held = way.held; names = before })
          | inr added ↦ inr (inl (was_coming named names added))
        ];
    added_was = λ named names added. inr (inl (was_coming named names (subst (λ (o : Option Added). IsAdded o named) adds_is added)));
    ids_of_slot = λ id names. d.names.of_slot p.name id (was_recorded id names);
    ids_landed = λ g there names. d.flights.unnamed g p.name there (was_recorded g.id names);
    adds = λ a next added live written same.
        subst (λ (bytes : List ℕ). AddsAreNamed p.name bytes added) (sym same_content)
        (d.holders.adds p.name way.lane way.next added way.held way.there way.has way.live (sym adds_is ∙ same));
    others = λ g there. there;
  }

  still_listed : GoOn hands hands (with_gone holding holding.flights [])
  still_listed = record { taken = λ id there. there; known = λ y there. there; listed = d.in_hand.listed }

  stays_carries : now ≡ (state.registers p.name).change → Carries set slot old new state state holding holding.flights disks hands hands [] Nothing
  stays_carries same = record {
    recorded = recorded set slot last later old new state holding holding.flights disks hands p.name x after now shows Nothing again_wrote;
    of_slot = of_slot set slot last later old new state holding holding.flights disks hands p.name x after now shows Nothing again_wrote;
    unnamed = unnamed set slot last later old new state holding holding.flights disks hands p.name x after now shows Nothing again_wrote;
    is_named = λ n named is. inl is;
    is_coming = λ n named is.
        coming_waits set slot last later old new state holding holding.flights disks hands p.name x after now shows Nothing again_wrote same n named
        (record { held = is.held; lane = is.lane; there = is.there; next = is.next; has = is.has; live = is.live; added = is.added; names = is.names });
    flying = λ n named b. absurd b;
    one_name = λ n m named other b c. absurd b;
    has_holders = λ n named b. absurd b;
    adds = adds_waits set slot last later old new state holding holding.flights disks hands p.name x after now shows Nothing again_wrote same;
    others = λ g there. there;
    differ = d.flights.differ;
    gone_was = λ id there. absurd (none_there id there);
    gone_named = λ id n named there. absurd (none_there id there);
    gone_coming = λ id n named there. absurd (none_there id there);
    go_on = still_listed;
  }

  late_carries : (moved : State) → IsLate p state moved → now ≡ p.change → Carries set slot old new state moved holding holding.flights disks hands hands [] Nothing
  late_carries moved late is =
      let made : register_made p.change p.content ≡ register_made x.change x.content =
      ap (λ (c : ℕ). register_made c p.content) (sym change_is) ∙ ap (λ (bytes : List ℕ). register_made x.change bytes) (sym content_is) in
      let changes : Changes p.name (register_made x.change x.content) state.registers moved.registers =
      record { is = late.changes.is ∙ made; stays = late.changes.stays } in
      let makes : Makes state moved p.name x now = record {
        changes = changes;
        value = is ∙ sym change_is;
        some = subst (λ (c : ℕ). 0 < c) (sym change_is) (stands.lawful.some p way.waits.there);
        is_new = λ applied. stands.lawful.once p way.waits.there (subst (λ (c : ℕ). Contains state.applied c) change_is applied);
      } in
      record {
        recorded = recorded set slot last later old new state holding holding.flights disks hands p.name x after now shows Nothing again_wrote;
        of_slot = of_slot set slot last later old new state holding holding.flights disks hands p.name x after now shows Nothing again_wrote;
        unnamed = unnamed set slot last later old new state holding holding.flights disks hands p.name x after now shows Nothing again_wrote;
        is_named = named_makes set slot last later old new state holding holding.flights disks hands p.name x after now shows Nothing again_wrote
            moved makes;
        is_coming = λ n named coming. inr (inl (coming_makes set slot last later old new state holding holding.flights disks hands p.name x after now shows
            Nothing again_wrote moved makes n named coming).1);
        flying = λ n named b. absurd b;
        one_name = λ n m named other b c. absurd b;
        has_holders = λ n named b. absurd b;
        adds = adds_makes set slot last later old new state holding holding.flights disks hands p.name x after now shows Nothing again_wrote
            moved makes;
        others = λ g there. there;
        differ = d.flights.differ;
        gone_was = λ id there. absurd (none_there id there);
        gone_named = λ id n named there. absurd (none_there id there);
        gone_coming = λ id n named there. absurd (none_there id there);
        go_on = still_listed;
      }

pub again_stays_data : AgainStaysData
again_stays_data set slot last later old new state holding disks hands p x after now shows above stands way change_is content_is adds_is leaves under same d =
    subst (λ (h : Holding). DataStands set slot later new state h disks hands) (same_holding holding)
    (carried set slot last later old new state state holding holding.flights disks hands hands [] Nothing above stands
    (stays_carries set slot last later old new state holding disks hands p x after now shows stands way change_is content_is adds_is leaves under d same) d)

pub again_is_late_data : AgainIsLateData
again_is_late_data set slot last later old new state moved holding disks hands p x after now shows above stands way change_is content_is adds_is leaves under is
    late d =
    subst (λ (h : Holding). DataStands set slot later new moved h disks hands) (same_holding holding)
    (carried set slot last later old new state moved holding holding.flights disks hands hands [] Nothing above stands
    (late_carries set slot last later old new state holding disks hands p x after now shows stands way change_is content_is adds_is leaves under d moved late is) d)
