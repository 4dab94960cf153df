-- What a put is of: the register that its manifest is for, the key whose slot and flight it takes, its call, its deed, and what its commit owes.
use Rattle.std.specs.Prelude.{ℕ, List, Option}
use Rattle.call_types.specs.declared.act.Act.TheVariants as act
use Rattle.call_types.specs.declared.names.Key.{Key}
use Rattle.call_types.specs.declared.names.Mode.{Mode}
use Rattle.call_types.specs.declared.reply.Reply.{Reply}
use Rattle.desk_base.specs.declared.call.Call.{Call}
use Rattle.desk_base.specs.declared.call.Call.TheVariants as call
use Rattle.drive_base.specs.declared.plan.SetPlan.{SetPlan}
use Rattle.put_stage.specs.declared.answers.Staged.{Staged}
use Rattle.receipts.specs.Events.{Log}
use Rattle.receipts.specs.Committing.{KeyIsCommitted}
use Rattle.receipts.specs.Putting.{PutOf, PutsBody}
use Rattle.slot_history.specs.Names.{key_name}
use Rattle.slot_rules.specs.declared.commit.Commit.{Commit}
use Rattle.slot_rules.specs.declared.commit.Commit.TheVariants.{Key as KeyCommit}
use Rattle.stamp_id.specs.declared.version.VersionId.{VersionId}
use Rattle.object_ops.specs.declared.put_target.PutTarget.{PutTarget}
use Rattle.object_ops.specs.declared.put_target.PutTarget.TheVariants.{Object}

-- the key whose slot it is in, and whose name its flight has
abbrev pub key_of : PutTarget → Key
key_of (Object at kind) = at

-- the name of the register that its manifest is for
abbrev pub register_of : PutTarget → List ℕ
register_of (Object at kind) = key_name at

-- the content type that it puts
abbrev pub kind_of : PutTarget → List ℕ
kind_of (Object at kind) = kind

-- the call that states a body of this MD5, if any, and of this length
abbrev pub call_of : PutTarget → Option (List ℕ) → ℕ → Call
call_of (Object at kind) stated long = call.Put at kind stated long

-- the deed that puts a body which is staged under this id, in a bucket of this mode
abbrev pub deed_of : PutTarget → Mode → VersionId → Staged → Commit
deed_of (Object at kind) mode id staged = KeyCommit at mode (act.Put id staged.print staged.length staged.etag kind)

-- how its commit ends, by the id that its body was staged under, and the body
abbrev pub EndsOf : PutTarget → SetPlan → ℕ → VersionId → List ℕ → Reply → Log → Type 0
EndsOf (Object at kind) set now id body reply log = KeyIsCommitted at now (PutsBody set kind body id) reply log

-- what is said of it in what calls owe
abbrev pub put_of : PutTarget → SetPlan → ℕ → PutOf
put_of target set now = record { at = key_of target; register = register_of target; Ends = EndsOf target set now }
