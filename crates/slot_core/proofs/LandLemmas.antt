-- Puts that end with a section, whether their data is brought or not.
use Rattle.std.proofs.Common.{◌≡◌, ◌∙◌, ℕ, List, [], ◌∷◌, ◌++◌, Option, None, Some, Contains, sym, ap, subst, inl, inr}
use Rattle.std.proofs.lemmas.List.Elements.{Contains-append_left, Contains-append_right}
use Rattle.drive_base.specs.Plan.{write_drives}
use Rattle.drive_base.specs.declared.plan.SetPlan.{SetPlan}
use Rattle.stamp_id.specs.declared.version.VersionId.{VersionId}
use Rattle.slot_history.specs.Contents.{number_of_id}
use Rattle.slot_history.specs.Laws.{FlightsEnd}
use Rattle.slot_history.specs.Standing.{Flying, Records, Stands}
use Rattle.slot_history.specs.State.{State}
use Rattle.slot_history.proofs.TakenLemmas.{first_there, none_there, taken_there, there_cases}
use Rattle.slot_data.specs.Bringing.{GoOn, MayEndOne}
use Rattle.slot_data.specs.Disks.{Disks}
use Rattle.slot_data.specs.Holding.{Hands, Holding, IsPinned, Known}
use Rattle.slot_data.specs.Laws.{HandsAreFreed, PutIsGivenUp, TrashIsTaken}
use Rattle.slot_data.specs.Moves.{LanesStand, given_up, with_taken, with_trash}
use Rattle.slot_data.specs.Standing.{DataStands}
use Rattle.slot_core.specs.CommitOutcome.{Lands, kept_with}
use Rattle.slot_core.proofs.DeemingLemmas.{lands_fewer}

-- the laws of puts that end
pub record LandLaws : Type 0 where
  pub ends : FlightsEnd
  pub given_up : PutIsGivenUp
  pub trash : TrashIsTaken
  pub freed : HandsAreFreed

-- lanes stand for the same state
pub land_stands : LandLaws → (set : SetPlan) (last : ℕ) (holding : Holding) (rest : List Flying) (records : Records) (state : State) (put : Option VersionId)
    → Lands put holding.flights rest → LanesStand set last holding records state
    → Stands (write_drives set.drives set.parity) set.drives last rest records state
land_stands laws set last holding rest records state put lands stands =
    laws.ends (write_drives set.drives set.parity) set.drives last holding.flights rest records state (lands_fewer put holding.flights rest lands) stands

-- a put may end so
pub may_end : (put : Option VersionId) (flights rest : List Flying) → Lands put flights rest → MayEndOne flights rest
may_end None flights rest lands = inr lands
may_end (Some id) flights rest lands = inl (lands.0, lands.2)

-- and the data goes on to stand, though what the put brought is no trash
pub land_data : LandLaws → (set : SetPlan) (slot last : ℕ) (holding : Holding) (rest : List Flying) (records : Records) (state : State) (put : Option VersionId)
    (disks : Disks) (hands less : Hands) → Lands put holding.flights rest → LanesStand set last holding records state
    → GoOn hands less (kept_with holding rest holding.trash)
    → DataStands set slot last records state holding disks hands
    → DataStands set slot last records state (kept_with holding rest holding.trash) disks less
land_data laws set slot last holding rest records state None disks hands less lands stands go d =
    let freed : DataStands set slot last records state holding disks less = laws.freed set slot last records state holding disks hands less go.taken go.known d in
    subst (λ (l : List Flying). DataStands set slot last records state (kept_with holding l holding.trash) disks less) (sym lands) freed
land_data laws set slot last holding rest records state (Some id) disks hands less lands stands go d =
    let f : Flying = lands.0 in
    let listed = taken_there f holding.flights rest lands.2 in
    let unknown : (x : Known) → Contains less.known x → x.named.id ≡ f.id → ⊥ =
    λ x there same. elim (go.listed x there) [
      | inl flying ↦ lands.3 flying.flight flying.there (ap number_of_id (flying.id_is ∙ (same ∙ lands.1)))
      | inr pinned ↦ d.flights.unpinned f listed (subst (λ (y : VersionId). IsPinned holding.pins y) same pinned)
    ] in
    let freed : DataStands set slot last records state holding disks less = laws.freed set slot last records state holding disks hands less go.taken go.known d in
    let ended : DataStands set slot last records state (given_up holding rest f.id) disks less =
    laws.given_up set slot last records state holding disks less f rest stands lands.2 unknown freed in
    let taken : DataStands set slot last records state (with_trash (given_up holding rest f.id) holding.trash) disks (with_taken less (f.id ∷ [])) =
    laws.trash set slot last records state (given_up holding rest f.id) disks less (f.id ∷ []) holding.trash
    (record {
      there = λ y here. elim (there_cases f.id [] y here) [
        | inl same ↦ subst (λ (z : VersionId). Contains (holding.trash ++ f.id ∷ []) z) same
            (Contains-append_right holding.trash (f.id ∷ []) f.id (first_there f.id []))
        | inr none ↦ absurd (none_there y none)
      ];
      unpinned = λ y here pinned. elim (there_cases f.id [] y here) [
        | inl same ↦ d.flights.unpinned f listed (subst (λ (z : VersionId). IsPinned holding.pins z) (sym same) pinned)
        | inr none ↦ absurd (none_there y none)
      ];
      left_there = λ y here. Contains-append_left holding.trash (f.id ∷ []) y here;
    }) ended in
    laws.freed set slot last records state (kept_with holding rest holding.trash) disks (with_taken less (f.id ∷ [])) less
    (λ y there. Contains-append_left less.taken (f.id ∷ []) y there) (λ x there. there) taken
