-- What follows of whatever a shared desk answers: the turns of a call in each slot, with their tickets.
use Rattle.std.specs.Prelude.{◌≡◌, ◌≢◌, ◌⊎◌, ◌+◌, ◌<◌, ◌≤◌, ℕ, List, [], ◌∷◌, ◌++◌, Option, Result}
use Rattle.audit_trail.specs.declared.entry.Entry.{Entry}
use Rattle.call_types.specs.declared.feed.Cut.{Cut}
use Rattle.desk_base.specs.Answering.{Task}
use Rattle.desk_base.specs.Telling.{Telling}
use Rattle.drive_base.specs.View.{DriveView}
use Rattle.drive_base.specs.declared.drive.Drive.{Ghosts}
use Rattle.drive_base.specs.declared.plan.SetPlan.{SetPlan}
use Rattle.receipts.specs.Events.{Log, Note, Shown}
use Rattle.receipts.specs.Events.Event.{BarredFrom, Called, Fed, Told, Turned}
use Rattle.slot_core.specs.Views.{numbers_of}
use Rattle.op_steps.specs.Claims.{Claim}
use Rattle.op_steps.specs.Moves.{TurnMoves}
use Rattle.op_steps.specs.Notes.{IsNoted}
use Rattle.op_steps.specs.Store.{slot_seen}
use Rattle.turn_lock.specs.declared.view.Turn.{Turn}
use Rattle.store_shared.specs.Among.{PassSeen, seen_in}
use Rattle.store_shared.specs.SharedAnswers.{SharedAnswers}
use Rattle.store_shared.specs.SharedPasses.{FitsDesk, SharedHolds, pass_at, set_held, shared_holds}
use Rattle.store_shared.specs.Turned.{name_of, slot_in, turns_in}
use Rattle.store_shared.specs.declared.op_desk.Receipt.{Receipt}
use Rattle.store_shared.specs.declared.shared.SharedDesk.{SharedDesk}
use Rattle.store_shared.specs.declared.shared.SharedPass.{SharedPass}
use Rattle.store_shared.specs.declared.shared.TurnedSlot.{TurnedSlot}

module _ {D A : Type 0} where
  -- the tickets of turns rise: each is not below what was seen before its turn, and then that turn is seen too
  abbrev pub TurnsRise : ℕ → List (Turn (TurnedSlot D A)) → ℕ → Type 0
  TurnsRise seen [] now = now ≡ seen
  TurnsRise seen (turn ∷ turns) now = (seen ≤ turn.ticket) × TurnsRise (turn.ticket + 1) turns now

module _ {D A : Type 0} (ghosts : Ghosts D) (entries : A → Option (List Entry)) (count : A → ℕ) where
  -- a section led the slot from the one state of a turn to the other, whatever the call held and the data drives had before and after it
  pub record SectionDid (note : Option Note) (shown : Shown) (turn : Turn (TurnedSlot D A)) : Type 0 where
    pub claim : Claim
    pub later : Claim
    pub disks : List DriveView
    pub disks_after : List DriveView
    pub moves : TurnMoves ghosts (slot_seen entries count (slot_in turn.from)) (slot_seen entries count (slot_in turn.to)) note shown claim later disks disks_after

  -- a section was done in this turn of the slot of this index, what it did led from the one state to the other, and its note, if it has one, tells the slot and
  -- the ticket
  pub record IsSectionIn (set : SetPlan) (k : ℕ) (note : Option Note) (shown : Shown) (turn : Turn (TurnedSlot D A)) : Type 0 where
    pub slot : name_of turn.from ≡ record { set = set; index = k }
    pub ticket : turns_in turn.from ≡ turn.ticket
    pub noted : IsNoted (numbers_of (slot_in turn.from)) note
    pub did : SectionDid note shown turn

  -- the sections of one slot in a log are those of these turns, one in each, in order
  abbrev pub AreTurnsOf : SetPlan → ℕ → Log → List (Turn (TurnedSlot D A)) → Type 0
  AreTurnsOf set k [] turns = turns ≡ []
  AreTurnsOf set k (Turned slot note shown ∷ log) turns = ((slot ≢ k) × AreTurnsOf set k log turns)
      ⊎ ((slot ≡ k) × (turn : Turn (TurnedSlot D A)) × (rest : List (Turn (TurnedSlot D A))) × (turns ≡ turn ∷ rest) × IsSectionIn set k note shown turn
      × AreTurnsOf set k log rest)
  AreTurnsOf set k (BarredFrom slot why ∷ log) turns = AreTurnsOf set k log turns
  AreTurnsOf set k (Called drive seen ∷ log) turns = AreTurnsOf set k log turns
  AreTurnsOf set k (Fed bytes cut ∷ log) turns = AreTurnsOf set k log turns
  AreTurnsOf set k (Told telling cut ∷ log) turns = AreTurnsOf set k log turns

  -- the pass of a slot's lock has those turns more that the log has, and their tickets rise from what it had seen to what it has seen
  pub record HasTurns (set : SetPlan) (k : ℕ) (log : Log) (was now : PassSeen D A) : Type 0 where
    pub turns : List (Turn (TurnedSlot D A))
    pub has : now.turns ≡ was.turns ++ turns
    pub rise : TurnsRise was.seen turns now.seen
    pub of_log : AreTurnsOf set k log turns

  -- whatever a shared desk answers, so it is in each slot
  abbrev pub SharedAnswersHaveTurns : Type 0
  SharedAnswersHaveTurns = (task : Task) (before after : SharedPass D A) (body : List ℕ) (tale : List Telling) (result : Result Receipt Cut)
      (answers : SharedAnswers ghosts entries count task before after body tale result) (k : ℕ) → k < 64
      → HasTurns (set_held (shared_holds before)) k answers.log (seen_in (pass_at before k)) (seen_in (pass_at after k))

-- where it is true that what a pass holds is that of a desk's own passes, it is known
abbrev pub FitIsFact : (R D A G : Type 0) → Type 0
FitIsFact R D A G = (desk : SharedDesk R D A G) (held : SharedHolds D A) → ∥ FitsDesk desk held ∥₁ → FitsDesk desk held
