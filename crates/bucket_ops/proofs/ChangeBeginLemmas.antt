-- A change that has done nothing yet stands for the empty log.
use Rattle.std.proofs.Common.{◌≡◌, ◌<◌, ℕ, Bool, List, [], IfOk, Ok, Err, Result, take, inl, inr, refl, subst, sym, ap, ◌∙◌, arith}
use Rattle.drive_base.specs.declared.plan.SetPlan.{SetPlan}
use Rattle.fault_base.specs.declared.memory.NoMemory.{NoMemory}
use Rattle.receipts.specs.Registers.{bucket_slot}
use Rattle.receipts.proofs.RegisterLemmas.{bucket_slot_below}
use Rattle.slot_rules.specs.declared.commit.Commit.TheVariants.{MakeBucket}
use Rattle.op_steps.specs.Claims.{no_claim}
use Rattle.bucket_ops.specs.Begins.{BeginsSetting, IsNewMake, IsNewSet}
use Rattle.bucket_ops.specs.Changes.{AfterDocument, ChangeStands, HasChanged, HasTaken}
use Rattle.bucket_ops.specs.Taking.{taken_of}
use Rattle.bucket_ops.specs.declared.change_op.ChangeOp.{ChangeOp}
use Rattle.bucket_ops.specs.declared.change_state.ChangeState.{ChangeState}
use Rattle.bucket_ops.specs.declared.change_state.ChangeState.TheVariants.{Committing}
use Rattle.bucket_ops.specs.declared.document.Document.{Document}
use Rattle.bucket_ops.proofs.FeedLemmas.{document_stands}

-- what an op stands for
abbrev pub Stands : ChangeOp → Type 0
Stands op = (slot : ℕ) × (slot < 64) × ChangeStands op.set op.sets_mode op.document op.bucket op.now (bucket_slot op.bucket) op.state (no_claim slot) []

-- nothing of a document was taken
none_taken : (document : Document) → document.taken ≡ 0 → HasTaken (taken_of document) []
none_taken document none = record {
  sections = refl;
  untold = λ k d l. let below : k < 0 = l in absurd (omega arith);
  uncut = refl;
  body_is = ap (λ n. take n document.bytes.items) (sym none);
}

make_done : (set : SetPlan) (bucket : List ℕ) (now : ℕ) (op : ChangeOp) → IsNewMake set bucket now op
    → HasChanged op.set op.sets_mode op.document op.bucket op.now op.state []
make_done set bucket now op x =
    subst (λ (state : ChangeState). HasChanged op.set op.sets_mode op.document op.bucket op.now state []) (sym x.state.1)
    (subst (λ (sets : Bool). HasChanged op.set sets op.document op.bucket op.now (Committing x.state.0) []) (sym x.sets_is) (record {
      taken = none_taken op.document x.taken;
      whole = x.taken;
      deed_is = x.state.2 ∙ ap MakeBucket (sym x.bucket_is);
    }))

pub make_begins : (set : SetPlan) (bucket : List ℕ) (now : ℕ) (result : Result ChangeOp NoMemory) → IfOk result (IsNewMake set bucket now) → IfOk result Stands
make_begins set bucket now (Ok op) x = (bucket_slot op.bucket, bucket_slot_below op.bucket, record { none = refl; done = make_done set bucket now op x })
make_begins set bucket now (Err fault) x = tt

set_done : (set : SetPlan) (bucket : List ℕ) (long now : ℕ) (op : ChangeOp) → IsNewSet set bucket long now op → BeginsSetting bucket op
    → HasChanged op.set op.sets_mode op.document op.bucket op.now op.state []
set_done set bucket long now op x (inl reads) =
    subst (λ (state : ChangeState). HasChanged op.set op.sets_mode op.document op.bucket op.now state []) (sym reads) (none_taken op.document x.taken, x.sets_is)
set_done set bucket long now op x (inr read) =
    document_stands op.set op.sets_mode op.document op.bucket op.now op.state [] x.sets_is (none_taken op.document x.taken) (x.taken ∙ sym read.0)
    (subst (λ bytes. AfterDocument op.bucket bytes op.state) (ap (λ n. take n op.document.bytes.items) (sym x.taken))
    (subst (λ b. AfterDocument b [] op.state) (sym x.bucket_is) read.1))

pub set_begins : (set : SetPlan) (bucket : List ℕ) (long now : ℕ) (result : Result ChangeOp NoMemory) → IfOk result (IsNewSet set bucket long now) → IfOk result Stands
set_begins set bucket long now (Ok op) x = (bucket_slot op.bucket, bucket_slot_below op.bucket, record { none = refl; done = set_done set bucket long now op x x.begins })
set_begins set bucket long now (Err fault) x = tt
