-- What the steps of a connection do, over the intake and the sink that they have.
use Rattle.std.specs.Prelude.{◌≡◌, ◌↔◌, ℕ, Bool, IsTrue, List, [], Option, Result}
use Rattle.call_types.specs.declared.feed.Cut.{Cut}
use Rattle.call_types.specs.declared.refusal.Refusal.{Refusal}
use Rattle.desk_base.specs.Answering.{Task}
use Rattle.desk_base.specs.Telling.{Telling}
use Rattle.desk_base.specs.declared.call.Call.{Call}
use Rattle.http_wire.specs.Parts.{HeadParts}
use Rattle.io_base.specs.declared.sink.Sink.{Ghosts as SinkGhosts}
use Rattle.io_base.specs.declared.source.Source.{Ghosts as SourceGhosts}
use Rattle.serve_loop.specs.Exchanges.{IsHead, asked, closes, last_number, refused}
use Rattle.serve_loop.specs.Seen.{from_of, open_wires, shut_wires, told_of, wire_of}
use Rattle.serve_loop.specs.Session.{Session}
use Rattle.serve_loop.specs.Turns.{Finishes, Goes, Readies, RefuseGoes, Turns}
use Rattle.serve_loop.specs.declared.ends.ConnectionEnd.{ConnectionEnd}
use Rattle.serve_loop.specs.declared.ends.Turn.{Turn}
use Rattle.serve_loop.specs.declared.intake.Intake.{Intake}
use Rattle.serve_loop.specs.declared.manner.Manner.{Manner}
use Rattle.serve_loop.specs.declared.replies.ReplyTeller.{ReplyTeller}

-- an intake was made ready for a call with a body of this length
abbrev pub ReadiesIntake : {U S : Type 0} {source : SourceGhosts S} → Result U Cut → (long : ℕ) → (old new : Intake S source) → Type 0
ReadiesIntake {U} {S} {source} result long old new =
    Readies result long new.stated (wire_of old) (wire_of new) (from_of old) (from_of new) (source.faults old.wire.source) (source.faults new.wire.source)

module _ {S T : Type 0} {source : SourceGhosts S} (sink : SinkGhosts T) where
  -- the rest of a body was read, and then what was held back of a reply was given
  abbrev pub FinishesReply : {U R : Type 0} → Result U Cut → (old new : Intake S source) → (told told_after : ReplyTeller R T) → Type 0
  FinishesReply result old new told told_after =
      Finishes result (wire_of old) (wire_of new) (from_of old) (from_of new) (source.faults old.wire.source) (source.faults new.wire.source)
      (told_of sink told) (told_of sink told_after) (sink.faults told.sink.now) (sink.faults told_after.sink.now)

  -- the call of a head was refused, or the refusal was cut
  abbrev pub RefusesCall : {U : Type 0} → Result U Cut → HeadParts → Refusal → (now : ℕ) → (close : Bool) → (old new : Intake S source) → (to to_after : T) → Type 0
  RefusesCall result head why now close old new to to_after = (manner : Manner) → close ≡ closes manner
      → RefuseGoes result (refused head old.stated why) why now manner (open_wires source sink old to) (open_wires source sink new to_after)

  module _ {M R : Type 0} (answers : Task → M → M → List ℕ → List Telling → Result R Cut → Type 0) where
    -- the call of a head was served, or cut
    abbrev pub ServesCall : {U : Type 0} → Result U Cut → HeadParts → Call → (now : ℕ) → (close : Bool) → (pass pass_after : M)
        → (old new : Intake S source) → (to to_after : T) → Type 0
    ServesCall result head call now close pass pass_after old new to to_after = (manner : Manner) → close ≡ closes manner
        → Goes answers result (asked head old.stated call) now manner pass pass_after (open_wires source sink old to) (open_wires source sink new to_after)

    module _ (clock : Option ℕ) where
      -- the request of a head was served, whatever its number and its bytes; `last` tells that none is served behind it
      abbrev pub ServesHead : Turn → HeadParts → (last : Bool) → (pass pass_after : M) → (old new : Intake S source) → (to to_after : T) → Type 0
      ServesHead turn head last pass pass_after old new to to_after = (number : ℕ) (front : List ℕ) → IsTrue last ↔ (number ≡ last_number) → IsHead front head old.stated
          → Turns answers clock turn number front pass pass_after (open_wires source sink old to) (open_wires source sink new to_after) (shut_wires source sink new to_after)

      -- a request was read and served
      abbrev pub ServesRequest : Turn → (last : Bool) → (pass pass_after : M) → (old new : Intake S source) → (to to_after : T) → Type 0
      ServesRequest turn last pass pass_after old new to to_after = (number : ℕ) → IsTrue last ↔ (number ≡ last_number)
          → Turns answers clock turn number [] pass pass_after (open_wires source sink old to) (open_wires source sink new to_after) (shut_wires source sink new to_after)

      -- all requests of a connection were
      abbrev pub ServesAll : ConnectionEnd → (pass pass_after : M) → (old new : Intake S source) → (to to_after : T) → Type 0
      ServesAll end pass pass_after old new to to_after =
          Session answers clock pass pass_after end (open_wires source sink old to) (shut_wires source sink new to_after)
