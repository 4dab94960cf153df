-- What a section completes: what is pending on lanes, and its writes.
use Rattle.std.specs.Prelude.{◌≡◌, ◌⊎◌, ℕ, List, Contains, Some, Result}
use Rattle.call_types.specs.declared.why.Why.{Why}
use Rattle.drive_base.specs.declared.drive.Drive.{Ghosts}
use Rattle.register_file.specs.declared.record.Next.{Next}
use Rattle.stamp_id.specs.declared.stamp.Ballot.{Ballot}
use Rattle.vote_core.specs.Lane.{HasNext, Lane, Next as LaneNext}
use Rattle.vote_core.specs.Sound.{IsLive}
use Rattle.register_core.specs.Drafts.{IsDraftAfterLook}
use Rattle.register_core.specs.Records.{again_of}
use Rattle.register_core.specs.declared.drafts.Draft.{Draft}
use Rattle.register_core.specs.declared.faults.QuorumFault.{QuorumFault}
use Rattle.register_core.specs.declared.looks.Looked.{Looked}
use Rattle.register_caller.specs.Steps.{WritesBoth}

-- a change is on its way, and is the value's or might become the value
pub record IsPending (lanes : List Lane) (c : ℕ) (found : LaneNext) : Type 0 where
  pub lane : Lane
  pub there : Contains lanes lane
  pub has : HasNext lane found
  pub may : (found.change ≡ c) ⊎ IsLive lanes c lane found

module _ {D : Type 0} (ghosts : Ghosts D) where
  -- what was pending was written, under this ballot
  pub record WritesAgain (out term : ℕ) (looked : Looked) (ballot : Ballot) (from to : ℕ) (result : Result (List Why) QuorumFault) (old new : List D) : Type 0 where
    pub found : Next
    pub pending : looked.pending ≡ Some found
    pub draft : Draft
    pub drafted : IsDraftAfterLook looked (again_of looked.base ballot found) draft
    pub writes : WritesBoth ghosts draft out term from to result old new
