-- What `apply` answers of a step.
use Rattle.std.specs.Prelude.{◌≡◌, ◌≢◌, Result, Ok, Err, MatchOption, IfSome, unwrap_or}
use Rattle.call_types.specs.declared.act.Brief.{Brief}
use Rattle.call_types.specs.declared.act.Brief.TheVariants.{Answer}
use Rattle.call_types.specs.declared.reply.Reply.{Reply}
use Rattle.call_types.specs.declared.reply.Reply.TheVariants as reply
use Rattle.call_types.specs.Refusals.{refusal_of}
use Rattle.version_list.specs.declared.state.KeyState.{KeyState}
use Rattle.version_list.specs.declared.outcome.Applied.{Applied}
use Rattle.version_list.specs.declared.outcome.Outcome.{Outcome}
use Rattle.version_list.specs.declared.outcome.ActFault.{ActFault}
use Rattle.version_list.specs.declared.outcome.ActFault.TheVariants as fault
use Rattle.version_list.specs.Gone.{gone_bytes}

-- the reply is no refusal
abbrev pub IsServed : Reply → Type 0
IsServed (reply.Refused why) = ⊥
IsServed _ = Unit {0}

-- A change leaves this new state: it has it only where it is another one than the old, and names the data that is gone.
pub record Leaves (old new : KeyState) (change : Outcome) : Type 0 where
  pub state : MatchOption change.state (new ≡ old) (λ made. (made ≡ new) × (new ≢ old))
  pub gone : change.gone ≡ gone_bytes old.versions new.versions

-- the state that an answer leaves: the new one, or the old one where none is given
abbrev pub state_after : KeyState → Applied → KeyState
state_after old applied = unwrap_or applied.state old

-- the call is done with this reply, which is no refusal, and the step that is due allows it
abbrev pub IsDone : (Reply → KeyState → Type 0) → Brief → KeyState → Type 0
IsDone Due (Answer told) new = IsServed told × Due told new
IsDone Due _ new = ⊥

-- An answer that serves the call: the reply and the state that are due, a state only where it is another one, and the
-- ids of the data that is gone.
pub record Serves (Due : Reply → KeyState → Type 0) (old : KeyState) (applied : Applied) : Type 0 where
  pub done : IsDone Due applied.done (state_after old applied)
  pub changed : IfSome applied.state (λ new. new ≢ old)
  pub gone : applied.gone ≡ gone_bytes old.versions (state_after old applied).versions

-- An answer is what is due of a step from this state: served, or refused with the refusal that is due. Want of memory
-- says nothing.
abbrev pub Answers : (Reply → KeyState → Type 0) → KeyState → Result Applied ActFault → Type 0
Answers Due old (Ok applied) = Serves Due old applied
Answers Due old (Err (fault.Refused why)) = Due (reply.Refused (refusal_of why)) old
Answers Due old (Err fault.NoMemory) = Unit {0}
