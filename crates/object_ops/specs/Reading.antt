-- What a call that reads a key holds between two steps, and what the log of any call on an object has before its reply.
use Rattle.std.specs.Prelude.{◌≡◌, ℕ, List, [], ◌∷◌, All, Option, Some, None, Result, Ok, Err}
use Rattle.call_types.specs.declared.names.Mode.{Mode}
use Rattle.desk_base.specs.declared.call.Call.{Call}
use Rattle.desk_base.specs.declared.call.Call.TheVariants.{Get, Head}
use Rattle.slot_data.specs.Holding.{Pinned}
use Rattle.slot_data.specs.Holding.Purpose.{ForRead}
use Rattle.slot_core.specs.declared.slot.SlotFault.{SlotFault}
use Rattle.slot_core.specs.declared.holding.Pin.{Pin}
use Rattle.slot_core.specs.declared.read_plan.ReadStart.{ReadStart}
use Rattle.receipts.specs.Events.{IsUntold, Log, Section, body_of, calls_at, cuts_of, sections_of}
use Rattle.receipts.specs.Looks.{FindsBucket}
use Rattle.receipts.specs.Paying.{ChangesNothing}
use Rattle.op_steps.specs.Claims.{Claim, no_claim}

-- the `If-Match` of a call
abbrev pub matches_of : Call → Option (List ℕ)
matches_of (Get at pick ask matches) = matches
matches_of (Head at pick matches) = matches
matches_of other = None

-- a pin of a slot is all that is held
abbrev pub pinned_claim : ℕ → Pinned → Claim
pinned_claim slot pin = record { slot = slot; flight = None; pin = Some pin; stage = None; taken = []; known = [] }

-- the pin of a read is
pub record IsPinClaim (slot : ℕ) (pin : Pin) (claim : Claim) : Type 0 where
  pub pinned : Pinned
  pub ticket : pinned.ticket ≡ pin.ticket
  pub purpose : pinned.purpose ≡ ForRead
  pub claim_is : claim ≡ pinned_claim slot pinned

-- nothing is
abbrev pub HoldsNone : ℕ → Option Pin → Claim → Type 0
HoldsNone slot pin claim = (pin ≡ None) × (claim ≡ no_claim slot)

-- it is, or nothing is
abbrev pub HoldsPin : ℕ → Option Pin → Claim → Type 0
HoldsPin slot None claim = claim ≡ no_claim slot
HoldsPin slot (Some pin) claim = IsPinClaim slot pin claim

-- it is
abbrev pub HasPin : ℕ → Option Pin → Claim → Type 0
HasPin slot None claim = ⊥
HasPin slot (Some pin) claim = IsPinClaim slot pin claim

-- what is held after the begin of a read: its pin, where a version was found
abbrev pub HoldsStart : ℕ → Result ReadStart SlotFault → Claim → Type 0
HoldsStart slot (Ok start) claim = IsPinClaim slot start.pin claim
HoldsStart slot (Err fault) claim = claim ≡ no_claim slot

-- nothing was told, taken of a body, changed, or failed
pub record IsFresh (log : Log) : Type 0 where
  pub untold : All IsUntold log
  pub uncut : cuts_of log ≡ []
  pub untaken : body_of log ≡ []
  pub idle : All ChangesNothing (sections_of log)

-- the look at the bucket is the one section so far, and showed a bucket of this mode
pub record HasFound (bucket : List ℕ) (mode : Mode) (log : Log) : Type 0 where
  pub fresh : IsFresh log
  pub uncalled : (k : ℕ) → calls_at k log ≡ []
  pub look : Section
  pub sections : sections_of log ≡ look ∷ []
  pub finds : FindsBucket bucket mode look
