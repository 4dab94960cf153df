-- What a read leaves of lanes that stood for a state, and from which calls it gives what it gives.
use Rattle.std.specs.Prelude.{Bool, List}
use Rattle.drive_base.specs.declared.drive.Drive.{Ghosts}
use Rattle.drive_base.specs.Files.{Files}
use Rattle.call_types.specs.declared.names.Key.{Key}
use Rattle.slot_data.specs.Holding.{Holding}
use Rattle.slot_history.specs.Names.{key_name}
use Rattle.slot_history.specs.Standing.{Records}
use Rattle.slot_history.specs.State.{State}
use Rattle.slot_rules.specs.declared.site.Drawn.{Drawn}
use Rattle.slot_core.specs.Hands.{HandsStay}
use Rattle.slot_core.specs.PeekSection.{GivesBy, GivesOver}
use Rattle.slot_core.specs.ReadSection.{IsNewTicket, KnownRead, PlansRead, ReadCause, ReadGave}
use Rattle.slot_core.specs.Sections.{ReadHolds, ShowsNoMore}
use Rattle.slot_core.specs.Settlement.{numbers_at}
use Rattle.slot_core.specs.Standing.{SlotStands}
use Rattle.slot_core.specs.Stubs.{completed_by}
use Rattle.slot_core.specs.Turns.{Leaves}
use Rattle.slot_core.specs.declared.peek_section.Peeked.{Peeked}
use Rattle.slot_core.specs.declared.read_plan.ReadAsk.{ReadAsk}
use Rattle.slot_core.specs.declared.read_plan.ReadPlan.{ReadPlan}
use Rattle.slot_core.specs.declared.read_plan.ReadStart.{ReadStart}
use Rattle.slot_core.specs.declared.stub.Turn.{Turn}

module _ {D : Type 0} (tells : D → Bool) (files : D → Files) where
  -- what a read leaves before its pin begins, over every state for which the lanes stood: of the state the plan is known
  abbrev pub ReadLeaves : ReadAsk → Drawn → Drawn → Key → Peeked ReadPlan → List D → List D → Type 0
  ReadLeaves ask drawn later at peeked old new = (holding : Holding) (records : Records) (state : State)
      → SlotStands tells files (numbers_at ask.site drawn) holding.flights old records state
      → GivesOver tells files (numbers_at ask.site drawn) (numbers_at ask.site later) holding
      (λ plan late now. KnownRead ask.site.turns at ask.mode ask.pick plan late now) peeked new records state

  -- what a whole read leaves, where its pin is listed under a ticket that no other has
  abbrev pub BegunLeaves : ReadAsk → Drawn → Drawn → Key → Turn ReadStart → List D → List D → Type 0
  BegunLeaves ask drawn later at turn old new = (holding kept : Holding) → ReadHolds (numbers_at ask.site drawn) at turn.answer holding kept
      → IsNewTicket ask.site.turns holding.pins
      → Leaves tells files (numbers_at ask.site drawn) (numbers_at ask.site later) holding kept old new turn.stub ShowsNoMore HandsStay

module _ {D : Type 0} (ghosts : Ghosts D) where
  -- the calls of a read before its pin begins
  abbrev pub ReadCalls : ReadAsk → Drawn → Drawn → Key → Peeked ReadPlan → List D → List D → List D → List D → Type 0
  ReadCalls ask drawn later at peeked old new disks disks_after = GivesBy ghosts (numbers_at ask.site drawn) (numbers_at ask.site later) (key_name at)
      (λ plan late. ReadGave ghosts (numbers_at ask.site drawn) (numbers_at ask.site later) at
      (λ state. PlansRead ask.site.turns at ask.mode ask.pick state plan) late old new disks disks_after) peeked old new disks disks_after

  -- from which calls a whole read comes
  abbrev pub BegunCause : ReadAsk → Drawn → Drawn → Key → Turn ReadStart → List D → List D → List D → List D → Type 0
  BegunCause ask drawn later at turn old new disks disks_after = ReadCause ghosts (numbers_at ask.site drawn) (numbers_at ask.site later) at ask.pick
      turn.answer (completed_by turn.stub) old new disks disks_after
