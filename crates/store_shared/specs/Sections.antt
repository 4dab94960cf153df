-- The sections of a slot that many calls did, each in a turn of it, and where they lead the slot.
use Rattle.std.specs.Prelude.{◌≡◌, ℕ, ◌+◌, ◌<◌, ◌++◌, List, [], ◌∷◌, map, All, Contains, Option, Result, if◌then◌else◌, nat_eq}
use Rattle.std.specs.List.{flat_map}
use Rattle.audit_trail.specs.declared.entry.Entry.{Entry}
use Rattle.call_types.specs.declared.feed.Cut.{Cut}
use Rattle.desk_base.specs.Answering.{Task}
use Rattle.desk_base.specs.Telling.{Telling}
use Rattle.drive_base.specs.declared.drive.Drive.{Ghosts}
use Rattle.drive_base.specs.declared.plan.SetPlan.{SetPlan}
use Rattle.receipts.specs.Events.{Event, Log, Note, Shown}
use Rattle.receipts.specs.Events.Event.{BarredFrom, Called, Fed, Told, Turned}
use Rattle.op_steps.specs.Leading.{WentOn}
use Rattle.op_steps.specs.Leading.{entered_at}
use Rattle.op_steps.specs.Store.{slot_seen}
use Rattle.turn_lock.specs.History.{Arranged, IsHistory}
use Rattle.turn_lock.specs.declared.view.Turn.{Turn}
use Rattle.store_shared.specs.Among.{PassSeen, seen_in}
use Rattle.store_shared.specs.SharedAnswers.{SharedAnswers}
use Rattle.store_shared.specs.SharedLaws.{IsSectionIn, TurnsRise}
use Rattle.store_shared.specs.SharedPasses.{pass_at}
use Rattle.store_shared.specs.Turned.{name_of, slot_in, turns_in}
use Rattle.store_shared.specs.declared.op_desk.Receipt.{Receipt}
use Rattle.store_shared.specs.declared.shared.SharedPass.{SharedPass}
use Rattle.store_shared.specs.declared.shared.TurnedSlot.{TurnedSlot}

-- a section and its turn: the slot before and after it with the ticket, its note, if it left one, and what it showed
pub record TurnedSection (D A : Type 0) : Type 0 where
  pub turn : Turn (TurnedSlot D A)
  pub note : Option Note
  pub shown : Shown

module _ {D A : Type 0} where
  -- the turn of a section, and those of several
  abbrev pub turn_by : TurnedSection D A → Turn (TurnedSlot D A)
  turn_by s = s.turn

  abbrev pub turns_by : List (TurnedSection D A) → List (Turn (TurnedSlot D A))
  turns_by sections = map turn_by sections

  -- their tickets are the numbers from this one on, up to the next one
  abbrev pub AreCounted : ℕ → List (TurnedSection D A) → ℕ → Type 0
  AreCounted n [] next = next ≡ n
  AreCounted n (s ∷ sections) next = (s.turn.ticket ≡ n) × AreCounted (n + 1) sections next

  -- their events, as those of the slot of this index
  abbrev pub events_by : ℕ → List (TurnedSection D A) → Log
  events_by k sections = map (λ (s : TurnedSection D A). Turned k s.note s.shown) sections

-- the events of a log that are sections of the slot of this index
abbrev pub turned_in : ℕ → Event → Log
turned_in k (Turned slot note shown) = if nat_eq slot k then Turned slot note shown ∷ [] else []
turned_in k (BarredFrom slot why) = []
turned_in k (Called drive made) = []
turned_in k (Fed bytes cut) = []
turned_in k (Told telling cut) = []

abbrev pub turned_at : ℕ → Log → Log
turned_at k log = flat_map (turned_in k) log

module _ {D A : Type 0} (ghosts : Ghosts D) (entries : A → Option (List Entry)) (count : A → ℕ) where
  -- a section of a slot of this index was done so in its turn
  abbrev pub IsSection : ℕ → TurnedSection D A → Type 0
  IsSection k s = (set : SetPlan) × IsSectionIn ghosts entries count set k s.note s.shown s.turn

  -- what sections of a slot come to that were done by whatever calls: in the order of their turns they follow one another from the one state of the slot to
  -- the other, one at each count of turns, and by the entries of their log the slot went on
  pub record SlotLed (k : ℕ) (first last : TurnedSlot D A) (made : List (TurnedSection D A)) : Type 0 where
    pub in_order : Arranged turn_by made first last
    pub are : All (IsSection k) in_order.ordered
    pub counted : AreCounted (turns_in first) in_order.ordered (turns_in last)
    pub went : WentOn ghosts.tells ghosts.files k (slot_seen entries count (slot_in first)) (slot_seen entries count (slot_in last))
        (entered_at k (events_by k in_order.ordered))

  -- where the turns of a slot's history are those of sections, it is led by them
  abbrev pub SectionsLead : Type 0
  SectionsLead = (k : ℕ) (first last : TurnedSlot D A) (made : List (TurnedSection D A)) → IsHistory turns_in name_of first last (turns_by made)
      → All (IsSection k) made → SlotLed k first last made

  -- the sections of a log in the slot of this index: its pass has their turns more, and their tickets rise from what it had seen to what it has seen
  pub record HasSections (k : ℕ) (log : Log) (was now : PassSeen D A) (sections : List (TurnedSection D A)) : Type 0 where
    pub turns : now.turns ≡ was.turns ++ turns_by sections
    pub rise : TurnsRise was.seen (turns_by sections) now.seen
    pub are : All (IsSection k) sections
    pub of_log : events_by k sections ≡ turned_at k log

  -- what a shared desk answers, with the sections of the call in each slot
  pub record AnswersBy (sections : ℕ → List (TurnedSection D A)) (task : Task) (before after : SharedPass D A) (body : List ℕ) (tale : List Telling)
      (result : Result Receipt Cut) : Type 0 where
    pub did : SharedAnswers ghosts entries count task before after body tale result
    pub has : (k : ℕ) → k < 64 → HasSections k did.log (seen_in (pass_at before k)) (seen_in (pass_at after k)) (sections k)

  -- whatever it answers, the call has such sections
  abbrev pub AnswersHaveSections : Type 0
  AnswersHaveSections = (task : Task) (before after : SharedPass D A) (body : List ℕ) (tale : List Telling) (result : Result Receipt Cut)
      → SharedAnswers ghosts entries count task before after body tale result
      → (sections : ℕ → List (TurnedSection D A)) × AnswersBy sections task before after body tale result

  -- what it answers, with sections that are among these
  abbrev pub AnswersAmong : (ℕ → List (TurnedSection D A)) → Task → SharedPass D A → SharedPass D A → List ℕ → List Telling → Result Receipt Cut → Type 0
  AnswersAmong made task before after body tale result = (sections : ℕ → List (TurnedSection D A))
      × ((k : ℕ) → k < 64 → (s : TurnedSection D A) → Contains (sections k) s → Contains (made k) s)
      × AnswersBy sections task before after body tale result
