-- What a commit is asked to do: the deeds, their calls and registers, and what they bring.
use Rattle.std.specs.Prelude.{ℕ, List, Option, Some, None, IsUtf8}
use Rattle.stamp_id.specs.declared.stamp.ChangeId.{ChangeId}
use Rattle.call_types.specs.declared.act.Act.{Act}
use Rattle.call_types.specs.declared.act.Act.TheVariants as act
use Rattle.call_types.specs.declared.act.Brief.{Brief}
use Rattle.call_types.specs.declared.act.Brief.TheVariants as brief
use Rattle.bucket_book.specs.Step.{IsLawful as IsLawfulBucketAct}
use Rattle.bucket_book.specs.declared.step.BucketAct.TheVariants as bucket
use Rattle.version_list.specs.Lawful.{IsLawful as IsLawfulAct}
use Rattle.slot_history.specs.Contents.{NamedData}
use Rattle.slot_history.specs.Names.{bucket_name, key_name, part_name}
use Rattle.slot_rules.specs.declared.commit.Commit.{Commit}
use Rattle.slot_rules.specs.declared.commit.Commit.TheVariants.{Key, Part, MakeBucket, SetMode}

-- the register that a deed is about
abbrev pub name_of : Commit → List ℕ
name_of (Key at mode act) = key_name at
name_of (Part at upload number part) = part_name at upload number
name_of (MakeBucket bucket) = bucket_name bucket
name_of (SetMode bucket mode) = bucket_name bucket

-- the call that its entry tells, with the change that it drew, if it drew one
abbrev pub call_of : Commit → Option ChangeId → ℕ → Brief
call_of (Key at mode act) change now = brief.Change at mode act change now
call_of (Part at upload number part) change now = brief.Part at upload number part change now
call_of (MakeBucket bucket) change now = brief.MakeBucket bucket change now
call_of (SetMode bucket mode) change now = brief.SetMode bucket mode change now

-- the data that an act brings, which was put under an id of its own
abbrev pub act_brings : Act → Option NamedData
act_brings (act.Put data_id print size md5 kind) = Some (record { id = data_id; print = print; size = size })
act_brings (act.Delete pick) = None
act_brings (act.Create kind) = None
act_brings (act.Complete upload parts data_id print size md5) = Some (record { id = data_id; print = print; size = size })
act_brings (act.Abort upload) = None

-- the data that a deed brings
abbrev pub brings_of : Commit → Option NamedData
brings_of (Key at mode act) = act_brings act
brings_of (Part at upload number part) = Some (record { id = part.data_id; print = part.print; size = part.length })
brings_of (MakeBucket bucket) = None
brings_of (SetMode bucket mode) = None

-- a deed can be committed: its act is lawful; a part always can
abbrev pub IsLawfulDeed : Commit → Type 0
IsLawfulDeed (Key at mode act) = IsLawfulAct act
IsLawfulDeed (Part at upload number part) = Unit {0}
IsLawfulDeed (MakeBucket name) = IsLawfulBucketAct bucket.Make
IsLawfulDeed (SetMode name mode) = IsLawfulBucketAct (bucket.SetMode mode)

-- the texts of its register's name are UTF-8
abbrev pub IsNamedDeed : Commit → Type 0
IsNamedDeed (Key at mode act) = IsUtf8 at.bucket × IsUtf8 at.key
IsNamedDeed (Part at upload number part) = IsUtf8 at.bucket × IsUtf8 at.key
IsNamedDeed (MakeBucket bucket) = IsUtf8 bucket
IsNamedDeed (SetMode bucket mode) = IsUtf8 bucket

-- a deed that is of no part: it needs to know of its own register alone
abbrev pub IsOfNoPart : Commit → Type 0
IsOfNoPart (Key at mode act) = Unit {0}
IsOfNoPart (Part at upload number part) = ⊥
IsOfNoPart (MakeBucket bucket) = Unit {0}
IsOfNoPart (SetMode bucket mode) = Unit {0}
