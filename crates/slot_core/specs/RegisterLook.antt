-- The calls of a look, and of the completion of what it found.
use Rattle.std.specs.Prelude.{◌≡◌, ◌⊎◌, ◌+◌, ◌≤◌, ℕ, List, length, Option, Some, None, Result, Ok, Err, string_bytes}
use Rattle.call_types.specs.declared.why.Why.{Why}
use Rattle.drive_base.specs.declared.drive.Drive.{Ghosts}
use Rattle.drive_base.specs.declared.plan.SetPlan.{SetPlan}
use Rattle.stamp_id.specs.declared.stamp.ChangeId.{ChangeId}
use Rattle.register_core.specs.Found.{content_of}
use Rattle.register_core.specs.declared.drafts.Draft.{Draft}
use Rattle.register_core.specs.declared.faults.QuorumFault.{QuorumFault}
use Rattle.register_caller.specs.Steps.{LookIsRefused, WritesBoth}
use Rattle.slot_rules.specs.declared.ready.Ready.{Ready}
use Rattle.slot_rules.specs.declared.site.Drawn.{Drawn}
use Rattle.slot_rules.specs.declared.site.Site.{Site}
use Rattle.slot_core.specs.Causes.{NotForwarded}
use Rattle.slot_core.specs.Settlement.{IsReady, numbers_at}
use Rattle.drive_base.specs.declared.drive.TheConstants.{LONGEST_NAME}

-- a draft can be written on a set's lanes
pub record DraftFits (set : SetPlan) (draft : Draft) : Type 0 where
  pub set_is : draft.set ≡ set
  pub letters : length draft.letters ≡ set.drives
  pub named : length (string_bytes draft.name) ≤ LONGEST_NAME

abbrev pub FirstFits : SetPlan → Option Draft → Type 0
FirstFits set None = Unit {0}
FirstFits set (Some draft) = DraftFits set draft

-- the change that writing a draft completes, where there is one
abbrev pub late_of : Option Draft → Option ChangeId
late_of None = None
late_of (Some draft) = Some draft.value.change

-- the rule keeps what it read of the content that the look accepted
abbrev pub GoesOnReading : {E : Type 0} → (List ℕ → Type 0) → Result Ready E → Type 0
GoesOnReading read (Ok ready) = read (content_of ready.looked.base ready.looked.pending)
GoesOnReading read (Err _) = Unit {0}

module _ {D : Type 0} (ghosts : Ghosts D) where
  -- what a section's look answers: it could conclude, or it was refused, or what was pending could not be begun
  abbrev pub LooksAt : Site → Drawn → List ℕ → (List ℕ → Option ℕ) → ℕ → Result Ready QuorumFault → List D → List D → List D → List D → Type 0
  LooksAt site drawn name rule longest (Ok ready) old new disks disks_after = IsReady ghosts site drawn name rule longest ready old new disks disks_after
  LooksAt site drawn name rule longest (Err fault) old new disks disks_after =
      LookIsRefused ghosts site.set site.set.out name rule longest drawn.count drawn.count fault old new disks disks_after
      ⊎ NotForwarded ghosts (numbers_at site drawn) name rule longest fault old new disks disks_after

  -- a draft was written under one number more, with this answer
  pub record WritesFirst (site : Site) (drawn later : Drawn) (first : Option Draft) (result : Result (List Why) QuorumFault) (old new : List D) : Type 0 where
    pub draft : Draft
    pub is : first ≡ Some draft
    pub seq : later.seq ≡ drawn.seq + 1
    pub writes : WritesBoth ghosts draft site.set.out site.term drawn.count later.count result old new

  -- the calls of completing what was pending: none where nothing was, and else both writes of its draft
  abbrev pub CallsForward : Site → Drawn → Drawn → Option Draft → Result (Option ChangeId) QuorumFault → List D → List D → Type 0
  CallsForward site drawn later first (Ok None) old new = (first ≡ None) × (new ≡ old) × (later ≡ drawn)
  CallsForward site drawn later first (Ok (Some change)) old new = (letters : List Why) × WritesFirst site drawn later first (Ok letters) old new
  CallsForward site drawn later first (Err fault) old new = WritesFirst site drawn later first (Err fault) old new
