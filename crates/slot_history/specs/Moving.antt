-- The moves of a history: what each entry does to the state of a slot, and what a list of entries does.
use Rattle.std.specs.Prelude.{◌≡◌, ◌≢◌, ◌⊎◌, ℕ, List, [], ◌∷◌, Option, Some, None}
use Rattle.stamp_id.specs.Rank.{change_of}
use Rattle.stamp_id.specs.declared.stamp.ChangeId.{ChangeId}
use Rattle.stamp_id.specs.declared.version.VersionId.{VersionId}
use Rattle.call_types.specs.declared.act.Brief.{Brief}
use Rattle.call_types.specs.declared.act.Brief.TheVariants as brief
use Rattle.call_types.specs.declared.reply.Reply.{Reply}
use Rattle.audit_trail.specs.declared.entry.Deed.{Deed}
use Rattle.audit_trail.specs.declared.entry.Deed.TheVariants.{Done, Refused, Kept, Opened}
use Rattle.audit_trail.specs.declared.entry.Entry.{Entry}
use Rattle.slot_history.specs.Doing.{Does}
use Rattle.slot_history.specs.State.{Changes, IsNew, Register, State, Waiting}
use Rattle.slot_history.specs.Waiting.{Lates}

-- the change that a call drew, where it drew one
abbrev pub drawn_by : Brief → Option ChangeId
drawn_by (brief.Read at mode pick) = None
drawn_by (brief.Gather at upload parts) = None
drawn_by (brief.Change at mode act change now) = change
drawn_by (brief.Part at upload number part change now) = change
drawn_by (brief.MakeBucket bucket change now) = change
drawn_by (brief.SetMode bucket mode change now) = change
drawn_by (brief.Answer reply) = None

-- an id is that of a change in a slot
pub record IsIdOf (slot : ℕ) (change : ChangeId) (id : VersionId) : Type 0 where
  pub change_is : id.change ≡ change
  pub slot_is : id.slot ≡ slot

-- a call makes a change, and the change that it drew becomes its name's last one
pub record Makes (slot : ℕ) (name : List ℕ) (call : Brief) (reply : Reply) (old new : State) : Type 0 where
  pub change : ChangeId
  pub drawn : drawn_by call ≡ Some change
  pub is_new : IsNew (change_of change) old
  pub id : VersionId
  pub id_is : IsIdOf slot change id
  pub content : List ℕ
  pub does : Does old.registers name call id reply content
  pub changed : content ≢ (old.registers name).content
  pub changes : Changes name (record { change = change_of change; content = content }) old.registers new.registers
  pub pending : new.pending ≡ old.pending
  pub applied : new.applied ≡ change_of change ∷ old.applied

-- a call finds what it asks for, is refused, or changes nothing: it drew no change, and the state stays
pub record Finds (name : List ℕ) (call : Brief) (reply : Reply) (old new : State) : Type 0 where
  pub none_drawn : drawn_by call ≡ None
  pub id : VersionId
  pub does : Does old.registers name call id reply (old.registers name).content
  pub stays : new ≡ old

-- a call was refused after a write of the change that it drew: the change waits, with the content that the call would have made
pub record Waits (slot : ℕ) (name : List ℕ) (call : Brief) (change : ChangeId) (old new : State) : Type 0 where
  pub drawn : drawn_by call ≡ Some change
  pub is_new : IsNew (change_of change) old
  pub id : VersionId
  pub id_is : IsIdOf slot change id
  pub reply : Reply
  pub waiting : Waiting
  pub change_is : waiting.change ≡ change_of change
  pub name_is : waiting.name ≡ name
  pub parent_is : waiting.parent ≡ (old.registers name).change
  pub does : Does old.registers name call id reply waiting.content
  pub changed : waiting.content ≢ (old.registers name).content
  pub registers : new.registers ≡ old.registers
  pub pending : new.pending ≡ waiting ∷ old.pending
  pub applied : new.applied ≡ old.applied

-- a call that was done, by its reply
abbrev pub IsDone : ℕ → List ℕ → Brief → Brief → State → State → Type 0
IsDone slot name call (brief.Answer reply) old new = Makes slot name call reply old new ⊎ Finds name call reply old new
IsDone slot name call (brief.Read _ _ _) old new = ⊥
IsDone slot name call (brief.Gather _ _ _) old new = ⊥
IsDone slot name call (brief.Change _ _ _ _ _) old new = ⊥
IsDone slot name call (brief.Part _ _ _ _ _ _) old new = ⊥
IsDone slot name call (brief.MakeBucket _ _ _) old new = ⊥
IsDone slot name call (brief.SetMode _ _ _ _) old new = ⊥

-- a deed, under a name
abbrev pub Deeds : ℕ → List ℕ → Deed → State → State → Type 0
Deeds slot name (Done call reply) old new = IsDone slot name call reply old new
Deeds slot name (Refused change call) old new = Waits slot name call change old new
Deeds slot name Kept old new = new ≡ old
Deeds slot name (Opened term) old new = new ≡ old

-- the change that was completed for an earlier call, if one was, is the last one of a register
abbrev pub IsLast : Option ChangeId → Register → Type 0
IsLast None register = Unit {0}
IsLast (Some change) register = register.change ≡ change_of change

-- an entry's deed takes place: the change that its section completed is then the last one of its name
pub record Moves (slot : ℕ) (entry : Entry) (old new : State) : Type 0 where
  pub late : IsLast entry.late (old.registers entry.name)
  pub deed : Deeds slot entry.name entry.deed old new

-- the entries of a slot lead from one state to another: their deeds take place in their order, and late steps at any place
abbrev pub Runs : ℕ → List Entry → State → State → Type 0
Runs slot [] old new = Lates old new
Runs slot (entry ∷ entries) old new = (before after : State) × Lates old before × Moves slot entry before after × Runs slot entries after new
