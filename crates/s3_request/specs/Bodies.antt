-- The length that a call states for its body.
use Rattle.std.specs.Prelude.{◌≡◌, ℕ}
use Rattle.desk_base.specs.declared.call.Call.{Call}
use Rattle.desk_base.specs.declared.call.Call.TheVariants.{ListBuckets, CreateBucket, HeadBucket, GetVersioning, PutVersioning, Put, Get, Head, Delete, List2, ListVersions, Create, Part, Complete, Abort}

-- A call that takes a body states this length for it.
abbrev pub StatesLength : ℕ → Call → Type 0
StatesLength n ListBuckets = Unit {0}
StatesLength n (CreateBucket bucket) = Unit {0}
StatesLength n (HeadBucket bucket) = Unit {0}
StatesLength n (GetVersioning bucket) = Unit {0}
StatesLength n (PutVersioning bucket long) = long ≡ n
StatesLength n (Put at kind md5 long) = long ≡ n
StatesLength n (Get at pick ask matches) = Unit {0}
StatesLength n (Head at pick matches) = Unit {0}
StatesLength n (Delete at pick) = Unit {0}
StatesLength n (List2 bucket page) = Unit {0}
StatesLength n (ListVersions bucket page) = Unit {0}
StatesLength n (Create at kind) = Unit {0}
StatesLength n (Part at upload number md5 long) = long ≡ n
StatesLength n (Complete at upload long) = long ≡ n
StatesLength n (Abort at upload) = Unit {0}
