-- A reply to a call on buckets has no body.
use Rattle.std.proofs.Common.{◌≡◌, ℕ, true, false, Bool, List, [], refl}
use Rattle.call_types.specs.declared.reply.Reply.{Reply}
use Rattle.call_types.specs.declared.reply.Reply.TheVariants.{Found}
use Rattle.desk_base.specs.Answering.{bytes_after}
use Rattle.drive_base.specs.declared.plan.SetPlan.{SetPlan}
use Rattle.receipts.specs.Events.{Log}
use Rattle.receipts.specs.Spans.{GivesBytes}
use Rattle.bucket_ops.specs.Looks.{look_call}

pub no_bytes : (set : SetPlan) (asks : Bool) (bucket : List ℕ) (reply : Reply) (log : Log) → GivesBytes set (look_call asks bucket) reply [] log
no_bytes set true bucket (Found version span id) log = refl
no_bytes set false bucket (Found version span id) log = refl
no_bytes set asks bucket other log = refl

pub none_after : (asks : Bool) (bucket : List ℕ) (reply : Reply) → 0 ≡ bytes_after reply (look_call asks bucket)
none_after true bucket (Found version span id) = refl
none_after false bucket (Found version span id) = refl
none_after asks bucket other = refl
