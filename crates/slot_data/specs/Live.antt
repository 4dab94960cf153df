-- Which data is live: what a state names, what a change on its way would add, what is in flight, and what pins have; each with the parts in its
-- manifest.
use Rattle.std.specs.Prelude.{◌≡◌, ◌⊎◌, ℕ, List, Contains}
use Rattle.stamp_id.specs.declared.version.VersionId.{VersionId}
use Rattle.drive_base.specs.declared.plan.SetPlan.{SetPlan}
use Rattle.vote_core.specs.Lane.{HasNext, Lane, Next}
use Rattle.vote_core.specs.Sound.{IsLive}
use Rattle.slot_history.specs.Contents.{NamedData, NamesData}
use Rattle.slot_history.specs.Standing.{IsAdded, Records}
use Rattle.slot_history.specs.State.{IsHeld, State}
use Rattle.slot_data.specs.Disks.{Disks, Reaches}
use Rattle.slot_data.specs.Holding.{Holding, IsInFlight, IsPinnedFor}
use Rattle.slot_data.specs.Holding.Purpose.{ForComplete, ForHeal, ForRead}

-- the register under a name that is held names data
pub record IsNamed (state : State) (name : List ℕ) (named : NamedData) : Type 0 where
  pub held : IsHeld state.registers name
  pub names : NamesData name (state.registers name).content named

-- a change on its way under a name that is held adds data
pub record IsComing (records : Records) (state : State) (name : List ℕ) (named : NamedData) : Type 0 where
  pub held : IsHeld state.registers name
  pub lane : Lane
  pub there : Contains (records name) lane
  pub next : Next
  pub has : HasNext lane next
  pub live : IsLive (records name) (state.registers name).change lane next
  pub added : IsAdded next.adds named
  pub names : NamesData name next.content named

-- data that stays whoever reads it: a register names it or comes to, its put is under way, or a Complete has a pin of it
abbrev pub IsWanted : Records → State → Holding → VersionId → Type 0
IsWanted records state holding id =
    ((name : List ℕ) × (named : NamedData) × IsNamed state name named × (named.id ≡ id))
    ⊎ (((name : List ℕ) × (named : NamedData) × IsComing records state name named × (named.id ≡ id))
    ⊎ (IsInFlight holding.flights id ⊎ IsPinnedFor ForComplete holding.pins id))

-- data that is held: it may come to be named, or to be named again; or it is a part of such data
abbrev pub IsHeldData : SetPlan → Records → State → Holding → Disks → VersionId → Type 0
IsHeldData set records state holding disks id = (whole : VersionId) × IsWanted records state holding whole × Reaches set disks whole id

-- data that is live: it is held, or a read or a heal has a pin of it, or of the whole
abbrev pub IsLiveData : SetPlan → Records → State → Holding → Disks → VersionId → Type 0
IsLiveData set records state holding disks id = IsHeldData set records state holding disks id
    ⊎ ((whole : VersionId) × (IsPinnedFor ForRead holding.pins whole ⊎ IsPinnedFor ForHeal holding.pins whole) × Reaches set disks whole id)
