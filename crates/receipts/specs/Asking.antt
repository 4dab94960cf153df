-- What a reply says of the drives that were asked, whatever these tell: none is told without a call.
use Rattle.std.specs.Prelude.{◌≡◌, ℕ, ◌<◌, List, [], Option, length, slice_index_or}
use Rattle.body_print.specs.Plans.{data_plan}
use Rattle.call_types.specs.declared.names.Key.{Key}
use Rattle.call_types.specs.declared.reply.Reply.{Reply}
use Rattle.call_types.specs.declared.why.Why.{Why}
use Rattle.drive_base.specs.Calls.Seen.{Faulted, Unwritten}
use Rattle.drive_base.specs.Plan.{write_drives}
use Rattle.drive_base.specs.declared.plan.SetPlan.{SetPlan}
use Rattle.manifest_file.specs.Spelling.{file_of}
use Rattle.shard_file.specs.Shards.{shard_bytes}
use Rattle.receipts.specs.Events.{Log, Saw, body_of, calls_at}
use Rattle.receipts.specs.Letters.{IsInUse, NoneServes, Wanted}
use Rattle.receipts.specs.Putting.{PutIsCommitted, object_put}
use Rattle.receipts.specs.Registers.{key_register}
use Rattle.receipts.specs.Staging.{TookData, manifest_under}

-- a log by which no data drive was called is none in which a body was put
abbrev pub PutsAskDrives : Type 0
PutsAskDrives = (set : SetPlan) (at : Key) (kind : List ℕ) (stated : Option (List ℕ)) (now : ℕ) (reply : Reply) (log : Log)
    → ((k : ℕ) → calls_at k log ≡ []) → (put : PutIsCommitted set (object_put set at kind now) stated reply log)
    → 0 < write_drives (data_plan set put.id).drives (data_plan set put.id).parity → ⊥

-- where a body was put, each drive in use of which no call failed, and that forgot nothing, took its shard and the manifest
abbrev pub PutsReachAll : Type 0
PutsReachAll = (set : SetPlan) (at : Key) (kind : List ℕ) (stated : Option (List ℕ)) (now : ℕ) (reply : Reply) (log : Log)
    → (put : PutIsCommitted set (object_put set at kind now) stated reply log) (k : ℕ) → k < set.drives → IsInUse set k
    → ((name : List ℕ) (before after : ℕ) → Saw put.front k (Faulted name before after) → ⊥) → ((name : List ℕ) → Saw put.front k (Unwritten name) → ⊥)
    → TookData put.id (shard_bytes (slice_index_or put.staged.shards k []))
    (file_of (manifest_under set (key_register at) put.id (length (body_of log)) put.staged.shards)) put.front k

-- a log is none of a read that was refused since no drive gave a manifest: each drive in use was called
abbrev pub RefusedReadsAskDrives : Type 0
RefusedReadsAskDrives = (set : SetPlan) (wanted : Wanted) (whys : List Why) (log : Log) (k : ℕ) → NoneServes set wanted whys log → k < set.drives
    → IsInUse set k → calls_at k log ≡ [] → ⊥
