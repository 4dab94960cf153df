-- What a life of `serve` comes to, slot by slot: the history part of the theorem for many callers.
use Rattle.std.specs.Prelude.{◌≡◌, ℕ, ◌<◌, ◌≤◌, ◌++◌, true, List, All, Option, map, slice_index_or}
use Rattle.std.specs.List.{AllZip, flat_map}
use Rattle.audit_trail.specs.declared.entry.Entry.{Entry}
use Rattle.drive_base.specs.declared.drive.Drive.{Ghosts}
use Rattle.drive_base.specs.declared.plan.SetPlan.{SetPlan}
use Rattle.io_base.specs.declared.door.Door.{Ghosts as DoorGhosts}
use Rattle.io_base.specs.declared.sink.Sink.{Ghosts as SinkGhosts}
use Rattle.io_base.specs.declared.source.Source.{Ghosts as SourceGhosts}
use Rattle.serve_loop.specs.Doors.{ServedSince, sight}
use Rattle.slot_core.specs.Opening.{IsOpened}
use Rattle.slot_core.specs.declared.slot.Slot.{Slot}
use Rattle.slot_core.specs.declared.slot.SlotParts.{SlotParts}
use Rattle.turn_lock.specs.Tickets.{last_ticket}
use Rattle.store_shared.specs.Closing.{SlotIsShut}
use Rattle.store_shared.specs.Among.{seen_in}
use Rattle.store_shared.specs.Sections.{AnswersAmong, IsSection, SlotLed, TurnedSection, events_by, turns_by}
use Rattle.store_shared.specs.SharedLaws.{TurnsRise}
use Rattle.store_shared.specs.SharedPasses.{drives_of, pass_at, shared_holds}
use Rattle.store_shared.specs.Turned.{slot_in, turns_in}
use Rattle.store_shared.specs.declared.shared.SharedPass.{SharedPass}
use Rattle.store_shared.specs.declared.shared.TurnedSlot.{TurnedSlot}
use Rattle.ostore.specs.History.{SlotRan}
use Rattle.ostore.specs.Logs.{among_log, served_logs}
use Rattle.ostore.specs.Trails.{AreUncalled, LogsLeadTrails}
use Rattle.ostore.specs.Workers.{Worker, view_of}

-- the sections of some caller, for each slot those of its index
abbrev pub Made : (D A : Type 0) → Type 0
Made D A = ℕ → List (TurnedSection D A)

-- whoever has turns in the slots: the pass that it began with, and the pass as it came back
pub record Caller (D A : Type 0) : Type 0 where
  pub began : SharedPass D A
  pub pass : SharedPass D A

-- a worker as such a caller
abbrev pub caller_of : {D A O K C : Type 0} → Worker K C (SharedPass D A) O → Caller D A
caller_of worker = record { began = worker.began.pass; pass = worker.pass }

module _ {D A : Type 0} (ghosts : Ghosts D) (entries : A → Option (List Entry)) (count : A → ℕ) where
  -- these are the sections of a caller's turns and no others, and the tickets of these turns rise
  pub record CallerDid (made : Made D A) (caller : Caller D A) : Type 0 where
    pub turns : (k : ℕ) → k < 64 → (seen_in (pass_at caller.pass k)).turns ≡ (seen_in (pass_at caller.began k)).turns ++ turns_by (made k)
    pub are : (k : ℕ) → k < 64 → All (IsSection ghosts entries count k) (made k)
    pub rise : (k : ℕ) → k < 64 → TurnsRise (seen_in (pass_at caller.began k)).seen (turns_by (made k)) (seen_in (pass_at caller.pass k)).seen

module _ {D A : Type 0} where
  -- where a caller's pass is spent in the slot of an index, the slot that was closed had all its turns
  abbrev pub HadAllTurns : ℕ → TurnedSlot D A → Caller D A → Type 0
  HadAllTurns k closed caller = (seen_in (pass_at caller.pass k)).spent ≡ true → last_ticket ≤ turns_in closed

module _ {D A O S T : Type 0} (ghosts : Ghosts D) (entries : A → Option (List Entry)) (count : A → ℕ) (door : DoorGhosts O S T) (source : SourceGhosts S) (sink : SinkGhosts T)
    (moment : Option ℕ) {K C : Type 0} where
  -- a worker did what a caller did, and served its door; the sections of all its calls are among these. By its ways to the data drives, of which no call was
  -- made before, the calls were made that the logs of its calls name, one log behind another, and no others
  pub record WorkerDid (made : Made D A) (worker : Worker K C (SharedPass D A) O) : Type 0 where
    pub did : CallerDid ghosts entries count made (caller_of worker)
    pub served : ServedSince (AnswersAmong ghosts entries count made) moment (sight source sink) shared_holds worker.began.pass worker.pass
        (view_of door worker.began.door) (view_of door worker.door) worker.starved
    pub uncalled : AreUncalled ghosts (drives_of worker.began.pass)
    pub trails : LogsLeadTrails ghosts
        (served_logs (AnswersAmong ghosts entries count made) (among_log ghosts entries count made) moment (sight source sink) shared_holds worker.began.pass worker.pass
        (view_of door worker.began.door) (view_of door worker.door) served) (drives_of worker.began.pass) (drives_of worker.pass)

  -- a life of this term that was served by these workers, beside these callers without a door, from the slots as they were handed in to the slots as they were
  -- handed back, over these slots as they were opened: in each slot the sections of all of them, in the order of their turns, follow one another from the slot as
  -- it was opened to the slot as it was closed, and the slot went through their log. So its audit has got the entry of the opening and theirs, and where its
  -- lanes stood for something they stand for what these entries lead to. A pass was spent only where the slot had all turns that it can have
  pub record LifeServed (set : SetPlan) (term : ℕ) (slots : List (Slot D A)) (old new : List (SlotParts D A)) (workers : List (Worker K C (SharedPass D A) O))
      (callers : List (Caller D A)) : Type 0 where
    pub made : List (Made D A)
    pub did : AllZip WorkerDid made workers
    pub made_beside : List (Made D A)
    pub did_beside : AllZip (CallerDid ghosts entries count) made_beside callers
    pub opened : ℕ → TurnedSlot D A
    pub opened_is : (k : ℕ) (d : Slot D A) → k < 64 → slot_in (opened k) ≡ slice_index_or slots k d
    pub begins : (k : ℕ) (d : SlotParts D A) → k < 64 → IsOpened entries count set k term (slice_index_or old k d) (slot_in (opened k))
    pub closed : ℕ → TurnedSlot D A
    pub ends : (k : ℕ) (d : SlotParts D A) → k < 64 → SlotIsShut (slot_in (closed k)) (slice_index_or new k d)
    pub led : (k : ℕ) → k < 64 → SlotLed ghosts entries count k (opened k) (closed k) (flat_map (λ (m : Made D A). m k) (made_beside ++ made))
    pub spent : (k : ℕ) → k < 64 → All (HadAllTurns k (closed k)) (callers ++ map caller_of workers)
    pub ran : (k : ℕ) (inside : k < 64) (d : SlotParts D A) → SlotRan entries ghosts.tells ghosts.files set term k (events_by k (led k inside).in_order.ordered)
        (slice_index_or old k d) (slice_index_or new k d)
