-- The slot that a call is of.
use Rattle.std.specs.Prelude.{ℕ}
use Rattle.desk_base.specs.declared.call.Call.{Call}
use Rattle.desk_base.specs.declared.call.Call.TheVariants.{ListBuckets, CreateBucket, HeadBucket, GetVersioning, PutVersioning, Put, Get, Head, Delete, List2, ListVersions, Create, Part, Complete, Abort}
use Rattle.slot_history.specs.Names.{bucket_slot, key_slot}

-- that of its key, or of its bucket where it has no key, and the first one where it has neither
abbrev pub home_of : Call → ℕ
home_of ListBuckets = 0
home_of (CreateBucket bucket) = bucket_slot bucket
home_of (HeadBucket bucket) = bucket_slot bucket
home_of (GetVersioning bucket) = bucket_slot bucket
home_of (PutVersioning bucket long) = bucket_slot bucket
home_of (Put at kind md5 long) = key_slot at
home_of (Get at pick ask matches) = key_slot at
home_of (Head at pick matches) = key_slot at
home_of (Delete at pick) = key_slot at
home_of (List2 bucket page) = bucket_slot bucket
home_of (ListVersions bucket page) = bucket_slot bucket
home_of (Create at kind) = key_slot at
home_of (Part at upload number md5 long) = key_slot at
home_of (Complete at upload long) = key_slot at
home_of (Abort at upload) = key_slot at
