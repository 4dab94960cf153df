-- Deeds that a slot commits, and when it may do a section.
use Rattle.std.specs.Prelude.{◌≡◌, ℕ, ◌+◌, ◌<◌, ◌≤◌, ◌^◌, List, length}
use Rattle.drive_base.specs.declared.drive.TheConstants.{LONGEST_NAME}
use Rattle.drive_base.specs.declared.plan.SetPlan.{SetPlan}
use Rattle.version_list.specs.State.{IsMoment}
use Rattle.slot_rules.specs.Deeds.{IsLawfulDeed, IsNamedDeed, name_of}
use Rattle.slot_rules.specs.declared.commit.Commit.{Commit}
use Rattle.slot_rules.specs.declared.site.Drawn.{Drawn}
use Rattle.slot_core.specs.Numbers.{last_count, last_seq}
use Rattle.slot_core.specs.Views.{SlotNumbers}

-- a commit may begin at this moment: its slot has a turn left, and there are as many disks as its set has drives
pub record MayBegin {D : Type 0} (numbers : SlotNumbers) (old_disks : List D) (now : ℕ) : Type 0 where
  pub turns : numbers.turns + 1 < 2 ^ 64
  pub disks : length old_disks ≡ numbers.set.drives
  pub moment : IsMoment now

-- a register may be looked at: there are as many lanes and disks as the set has drives, and the slot's numbers aren't spent
pub record MayLook {D : Type 0} (set : SetPlan) (drawn : Drawn) (old_lanes old_disks : List D) : Type 0 where
  pub lanes : length old_lanes ≡ set.drives
  pub disks : length old_disks ≡ set.drives
  pub seq : drawn.seq ≤ last_seq
  pub count : drawn.count ≤ last_count

-- a commit may be done: there are as many lanes and disks as its set has drives, its deed can be committed, and the slot's numbers aren't spent
pub record MayCommit {D : Type 0} (set : SetPlan) (deed : Commit) (drawn : Drawn) (old_lanes old_disks : List D) : Type 0 where
  pub lanes : length old_lanes ≡ set.drives
  pub disks : length old_disks ≡ set.drives
  pub lawful : IsLawfulDeed deed
  pub named : IsNamedDeed deed
  pub short : length (name_of deed) ≤ LONGEST_NAME
  pub seq : drawn.seq ≤ last_seq
  pub count : drawn.count ≤ last_count
