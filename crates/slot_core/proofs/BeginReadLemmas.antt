-- A read of a slot, by that of its lanes.
use Rattle.std.proofs.Common.{◌≡◌, ◌∙◌, ℕ, ◌+◌, ◌*◌, ◌^◌, ◌<◌, ◌≤◌, List, [], ◌∷◌, ◌++◌, Option, Result, Ok, Err, map, ap, subst, sym, arith}
use Rattle.std.specs.Prelude.{All}
use Rattle.std.proofs.lemmas.List.{map-append}
use Rattle.std.proofs.lemmas.List.Elements.{All-contains, All-map, All-push, All-weaker}
use Rattle.stamp_id.specs.declared.stamp.ChangeId.{ChangeId}
use Rattle.call_types.specs.declared.names.Key.{Key}
use Rattle.call_types.specs.declared.names.Pick.{Pick}
use Rattle.drive_base.specs.declared.drive.Drive.{Ghosts}
use Rattle.version_list.specs.declared.state.KeyState.{KeyState}
use Rattle.slot_history.specs.Contents.{number_of_id}
use Rattle.slot_data.specs.Holding.{Holding, Pinned}
use Rattle.slot_data.specs.Moves.{with_pins}
use Rattle.slot_data.specs.Rows.{pinned_of}
use Rattle.slot_data.specs.declared.rows.FlightRow.{FlightRow}
use Rattle.slot_data.specs.declared.rows.PinRow.{PinRow}
use Rattle.slot_core.specs.ReadSection.{IsNewTicket, PinIsListed, ReadCause, ReadGave}
use Rattle.slot_core.specs.Sections.{ReadHolds}
use Rattle.slot_core.specs.Views.{SlotNumbers}
use Rattle.slot_core.specs.declared.slot.SlotFault.{SlotFault}
use Rattle.slot_core.specs.declared.slot.SlotFault.TheVariants.{Quorum, Key as KeyFault, SeqSpent, AuditFailed, NoMemory, NotInFlight}
use Rattle.slot_core.specs.declared.read_plan.ReadStart.{ReadStart}
use Rattle.slot_core.proofs.LaneLemmas.{with_turns}
use Rattle.slot_core.proofs.PeekLemmas.{completes_turned}

-- the pin of a read in what the slot keeps, by its row
pub read_holds : (numbers : SlotNumbers) (at : Key) (answer : Result ReadStart SlotFault) (held : Holding) (rows new : List PinRow) → held.pins ≡ map pinned_of rows
    → PinIsListed numbers.turns at answer rows new → ReadHolds numbers at answer held (with_pins held (map pinned_of new))
read_holds numbers at (Ok start) held rows new listed pinned = (
  pinned_of pinned.0,
  pinned.1,
  ap (with_pins held) (ap (map pinned_of) pinned.2 ∙ (map-append pinned_of rows (pinned.0 ∷ []) ∙ ap (λ (l : List Pinned). l ++ pinned_of pinned.0 ∷ []) (sym listed))),
)
read_holds numbers at (Err fault) held rows new listed same = ap (with_pins held) (ap (map pinned_of) same ∙ sym listed)

-- the ticket of a section is new
pub new_ticket : (rows : List PinRow) (turns : ℕ) → All (λ (row : PinRow). row.ticket < turns) rows → IsNewTicket turns (map pinned_of rows)
new_ticket rows turns before q there same =
    let low : q.ticket < turns = All-contains (λ (p : Pinned). p.ticket < turns) (map pinned_of rows) q (All-map (λ (p : Pinned). p.ticket < turns) pinned_of rows before) there in
    absurd (omega arith)

-- and before that of the next
pub pins_before_next : (at : Key) (answer : Result ReadStart SlotFault) (turns : ℕ) (rows new : List PinRow) → PinIsListed turns at answer rows new
    → All (λ (row : PinRow). row.ticket < turns) rows → All (λ (row : PinRow). row.ticket < turns + 1) new
pins_before_next at (Ok start) turns rows new pinned before =
    subst (λ (l : List PinRow). All (λ (row : PinRow). row.ticket < turns + 1) l) (sym pinned.2)
    (All-push (λ (row : PinRow). row.ticket < turns + 1) rows pinned.0
    (All-weaker (λ (row : PinRow). row.ticket < turns) (λ (row : PinRow). row.ticket < turns + 1) (λ row low. omega arith) rows before)
    (let is = pinned.1.ticket_is in omega arith))
pins_before_next at (Err fault) turns rows new same before =
    subst (λ (l : List PinRow). All (λ (row : PinRow). row.ticket < turns + 1) l) (sym same)
    (All-weaker (λ (row : PinRow). row.ticket < turns) (λ (row : PinRow). row.ticket < turns + 1) (λ row low. omega arith) rows before)

-- the numbers of puts under way were drawn, once more were
pub flights_drawn_on : (rows : List FlightRow) (term seq later : ℕ) → seq ≤ later → All (λ (row : FlightRow). number_of_id row.id ≤ term * 2 ^ 64 + seq) rows
    → All (λ (row : FlightRow). number_of_id row.id ≤ term * 2 ^ 64 + later) rows
flights_drawn_on rows term seq later rises before =
    All-weaker (λ (row : FlightRow). number_of_id row.id ≤ term * 2 ^ 64 + seq) (λ (row : FlightRow). number_of_id row.id ≤ term * 2 ^ 64 + later) (λ row low. omega arith) rows before

module _ {D : Type 0} (ghosts : Ghosts D) where
  -- what a look gave doesn't go by how many sections were done
  gave_turned : (numbers later : SlotNumbers) (turns : ℕ) (at : Key) (Due : KeyState → Type 0) (late : Option ChangeId) (old new disks disks_after : List D)
      → ReadGave ghosts numbers later at Due late old new disks disks_after → ReadGave ghosts numbers (with_turns later turns) at Due late old new disks disks_after
  gave_turned numbers later turns at Due late old new disks disks_after gave = record {
    content = gave.content;
    gave = gave.gave;
    completes = completes_turned numbers later turns gave.gave.looked.pending late gave.completes;
    state = gave.state;
    spells = gave.spells;
    due = gave.due;
  }

  turned_cause : (numbers later : SlotNumbers) (turns : ℕ) (at : Key) (pick : Pick) (answer : Result ReadStart SlotFault) (late : Option ChangeId) (old new disks disks_after : List D)
      → ReadCause ghosts numbers later at pick answer late old new disks disks_after
      → ReadCause ghosts numbers (with_turns later turns) at pick answer late old new disks disks_after
  turned_cause numbers later turns at pick (Ok start) late old new disks disks_after gave = gave_turned numbers later turns at _ late old new disks disks_after gave
  turned_cause numbers later turns at pick (Err (Quorum fault)) late old new disks disks_after cause = cause
  turned_cause numbers later turns at pick (Err (KeyFault why)) late old new disks disks_after gave = gave_turned numbers later turns at _ late old new disks disks_after gave
  turned_cause numbers later turns at pick (Err SeqSpent) late old new disks disks_after cause = cause
  turned_cause numbers later turns at pick (Err (AuditFailed before after)) late old new disks disks_after cause = cause
  turned_cause numbers later turns at pick (Err NoMemory) late old new disks disks_after cause = cause
  turned_cause numbers later turns at pick (Err (NotInFlight id)) late old new disks disks_after cause = cause

  pub read_cause_turned : (numbers later : SlotNumbers) (turns : ℕ) (at : Key) (pick : Pick) (answer : Result ReadStart SlotFault) (late : Option ChangeId)
      (old old_is new new_is disks disks_after : List D)
      → old_is ≡ old → new_is ≡ new → ReadCause ghosts numbers later at pick answer late old_is new_is disks disks_after
      → ReadCause ghosts numbers (with_turns later turns) at pick answer late old new disks disks_after
  read_cause_turned numbers later turns at pick answer late old old_is new new_is disks disks_after same_old same_new cause =
      turned_cause numbers later turns at pick answer late old new disks disks_after
      (subst (λ (l : List D). ReadCause ghosts numbers later at pick answer late old l disks disks_after) same_new
      (subst (λ (l : List D). ReadCause ghosts numbers later at pick answer late l new_is disks disks_after) same_old cause))
