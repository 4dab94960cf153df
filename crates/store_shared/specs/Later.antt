-- What a call that is not served yet is answered: it is told so.
use Rattle.std.specs.Prelude.{◌≡◌, [], Result, Ok, Err}
use Rattle.call_types.specs.declared.feed.Cut.{Cut}
use Rattle.call_types.specs.declared.refusal.Refusal.TheVariants.{NotImplemented}
use Rattle.call_types.specs.declared.reply.Reply.TheVariants.{Refused}
use Rattle.desk_base.specs.Telling.{Effect}
use Rattle.desk_base.specs.Telling.Telling.{Head as TheHead}
use Rattle.desk_base.specs.declared.call.Call.{Call}
use Rattle.desk_base.specs.declared.call.Call.TheVariants.{ListBuckets, CreateBucket, HeadBucket, GetVersioning, PutVersioning, Put, Get, Head, Delete, List2, ListVersions, Create, Part, Complete, Abort}
use Rattle.op_steps.specs.Moves.{TellMoves}
use Rattle.op_steps.specs.Store.{TellerSeen}
use Rattle.store_shared.specs.Answers.{cut_by}
use Rattle.store_shared.specs.declared.op_desk.Receipt.{Receipt}

-- a call is not served yet
abbrev pub IsLater : Call → Type 0
IsLater ListBuckets = ⊥
IsLater (CreateBucket bucket) = ⊥
IsLater (HeadBucket bucket) = ⊥
IsLater (GetVersioning bucket) = ⊥
IsLater (PutVersioning bucket long) = ⊥
IsLater (Put at kind md5 long) = ⊥
IsLater (Get at pick ask matches) = ⊥
IsLater (Head at pick matches) = ⊥
IsLater (Delete at pick) = ⊥
IsLater (List2 bucket page) = ⊥
IsLater (ListVersions bucket page) = ⊥
IsLater (Create at kind) = Unit {0}
IsLater (Part at upload number md5 long) = Unit {0}
IsLater (Complete at upload long) = Unit {0}
IsLater (Abort at upload) = Unit {0}

-- a receipt, if there is one, has no stub
abbrev pub HasNoStub : Result Receipt Cut → Type 0
HasNoStub (Ok receipt) = receipt.stubs.items ≡ []
HasNoStub (Err why) = Unit {0}

-- a teller was told that a call is not served, and this is all of the call; or the call was cut in that
abbrev pub TellsLater : {T : Type 0} → Effect T → Effect T → Result Receipt Cut → TellerSeen T → TellerSeen T → Type 0
TellsLater takes breaks result old new = TellMoves takes breaks (TheHead (Refused NotImplemented)) (cut_by result) old new × HasNoStub result
