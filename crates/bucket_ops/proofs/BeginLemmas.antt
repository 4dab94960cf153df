-- A look that has done nothing yet stands for the empty log.
use Rattle.std.proofs.Common.{◌<◌, ℕ, Bool, List, [], IfOk, Ok, Err, Result, refl, subst, sym}
use Rattle.drive_base.specs.declared.plan.SetPlan.{SetPlan}
use Rattle.fault_base.specs.declared.memory.NoMemory.{NoMemory}
use Rattle.receipts.specs.Registers.{bucket_slot}
use Rattle.receipts.proofs.RegisterLemmas.{bucket_slot_below}
use Rattle.op_steps.specs.Claims.{no_claim}
use Rattle.bucket_ops.specs.Begins.{IsNew}
use Rattle.bucket_ops.specs.Looks.{HasDone, StandsSo, look_call}
use Rattle.bucket_ops.specs.declared.look_op.LookOp.{LookOp}

-- what an op stands for
abbrev pub Stands : LookOp → Type 0
Stands op = (slot : ℕ) × (slot < 64) × StandsSo op.set (record { call = look_call op.asks_mode op.bucket; now = op.now }) (bucket_slot op.bucket) op.state (no_claim slot) []

pub begins : (set : SetPlan) (bucket : List ℕ) (asks : Bool) (now : ℕ) (result : Result LookOp NoMemory) → IfOk result (IsNew set bucket asks now)
    → IfOk result Stands
begins set bucket asks now (Ok op) is = (
  bucket_slot op.bucket,
  bucket_slot_below op.bucket,
  record {
    none = refl;
    done = subst (λ state. HasDone op.set (record { call = look_call op.asks_mode op.bucket; now = op.now }) state []) (sym is.state_is) refl;
  },
)
begins set bucket asks now (Err fault) is = tt
