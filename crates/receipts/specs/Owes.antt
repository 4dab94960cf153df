-- What is owed of a call: its reply, by what happened before it is told.
use Rattle.std.specs.Prelude.{◌≡◌, ◌⊎◌, ℕ, [], length}
use Rattle.call_types.specs.declared.refusal.Refusal.TheVariants.{NotImplemented}
use Rattle.call_types.specs.declared.reply.Reply.{Reply}
use Rattle.call_types.specs.declared.reply.Reply.TheVariants.{Refused}
use Rattle.desk_base.specs.Answering.{Task}
use Rattle.desk_base.specs.Calls.{stated_length}
use Rattle.desk_base.specs.declared.call.Call.{Call}
use Rattle.desk_base.specs.declared.call.Call.TheVariants.{ListBuckets, CreateBucket, HeadBucket, GetVersioning, PutVersioning, Put, Get, Head, Delete, List2, ListVersions, Create, Part, Complete, Abort}
use Rattle.drive_base.specs.declared.plan.SetPlan.{SetPlan}
use Rattle.receipts.specs.BucketLists.{ListBucketsOwes}
use Rattle.receipts.specs.Bucketing.{CreateBucketOwes, GetVersioningOwes, HeadBucketOwes, PutVersioningOwes}
use Rattle.receipts.specs.Deeds.{AbortOwes, CreateOwes, DeleteOwes}
use Rattle.receipts.specs.Events.{Log, body_of, sections_of}
use Rattle.receipts.specs.Listing.{List2Owes, ListVersionsOwes}
use Rattle.receipts.specs.Putting.{PutOwes}
use Rattle.receipts.specs.Reading.{GetOwes, HeadOwes}

-- a call that is not served yet: that is what it is told, and no section is done
abbrev pub Later : Reply → Log → Type 0
Later reply log = (reply ≡ Refused NotImplemented) × (sections_of log ≡ [])

-- the body was taken to its stated end
abbrev pub IsWhole : Call → Log → Type 0
IsWhole call log = length (body_of log) ≡ stated_length call

-- the reply that is owed to a call at a moment. A body is taken to its end before, but for a call that is not served yet.
-- A call on uploads may be refused so before anything is done, as long as not all of them are served
abbrev pub OwesCall : SetPlan → Call → ℕ → Reply → Log → Type 0
OwesCall set ListBuckets now reply log = IsWhole ListBuckets log × ListBucketsOwes reply log
OwesCall set (CreateBucket bucket) now reply log = IsWhole (CreateBucket bucket) log × CreateBucketOwes bucket now reply log
OwesCall set (HeadBucket bucket) now reply log = IsWhole (HeadBucket bucket) log × HeadBucketOwes bucket reply log
OwesCall set (GetVersioning bucket) now reply log = IsWhole (GetVersioning bucket) log × GetVersioningOwes bucket reply log
OwesCall set (PutVersioning bucket long) now reply log = IsWhole (PutVersioning bucket long) log × PutVersioningOwes bucket now reply log
OwesCall set (Put at kind md5 long) now reply log = IsWhole (Put at kind md5 long) log × PutOwes set at kind md5 now reply log
OwesCall set (Get at pick ask matches) now reply log = IsWhole (Get at pick ask matches) log × GetOwes set at pick ask matches reply log
OwesCall set (Head at pick matches) now reply log = IsWhole (Head at pick matches) log × HeadOwes at pick matches reply log
OwesCall set (Delete at pick) now reply log = IsWhole (Delete at pick) log × DeleteOwes at pick now reply log
OwesCall set (List2 bucket page) now reply log = IsWhole (List2 bucket page) log × List2Owes bucket page reply log
OwesCall set (ListVersions bucket page) now reply log = IsWhole (ListVersions bucket page) log × ListVersionsOwes bucket page reply log
OwesCall set (Create at kind) now reply log = Later reply log ⊎ (IsWhole (Create at kind) log × CreateOwes at kind now reply log)
OwesCall set (Part at upload number md5 long) now reply log = Later reply log
OwesCall set (Complete at upload long) now reply log = Later reply log
OwesCall set (Abort at upload) now reply log = Later reply log ⊎ (IsWhole (Abort at upload) log × AbortOwes at upload now reply log)

-- that of what a desk is asked
abbrev pub OwesReply : SetPlan → Task → Reply → Log → Type 0
OwesReply set task reply log = OwesCall set task.call task.now reply log
