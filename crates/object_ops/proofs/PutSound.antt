-- The counts of a PutObject in each state that it comes to.
use Rattle.std.proofs.Common.{◌≡◌, ◌≤◌, ℕ, List, Option, Some, None, Result, Ok, Err, MatchOption, inl, inr, refl, sym, ap, subst, arith}
use Rattle.call_types.specs.declared.feed.Cut.{Cut}
use Rattle.call_types.specs.declared.feed.Cut.TheVariants.{NoMemory}
use Rattle.call_types.specs.declared.names.Mode.{Mode}
use Rattle.call_types.specs.declared.refusal.Refusal.{Refusal}
use Rattle.call_types.specs.declared.refusal.Refusal.TheVariants as refusal
use Rattle.call_types.specs.declared.reply.Reply.{Reply}
use Rattle.call_types.specs.declared.reply.Reply.TheVariants.{Refused}
use Rattle.drive_base.specs.declared.plan.SetPlan.{SetPlan}
use Rattle.slot_rules.specs.declared.commit.Committed.{Committed}
use Rattle.slot_core.specs.declared.slot.SlotFault.{SlotFault}
use Rattle.slot_core.specs.declared.slot.SlotFault.TheVariants as slot
use Rattle.slot_core.specs.declared.holding.Flight.{Flight}
use Rattle.receipts.specs.declared.barred.Barred.{Barred}
use Rattle.receipts.specs.declared.barred.Barred.TheVariants as barred
use Rattle.op_steps.specs.Notes.{refusal_by}
use Rattle.op_steps.specs.declared.looking.Looked.{Looked}
use Rattle.op_steps.specs.declared.looking.Looked.TheVariants as looked
use Rattle.object_ops.specs.Put.{drives_by, long_by, reach_by}
use Rattle.object_ops.specs.PutStageCalls.{BeginsTo, BeginsWork}
use Rattle.object_ops.specs.PutOutcome.{AfterCommit, AfterLook, BarredAfter, BarredAt, BarredEnd, OwesNext, RefusedBegin}
use Rattle.object_ops.specs.declared.put_state.PutState.{PutState}
use Rattle.object_ops.specs.declared.put_state.PutState.TheVariants as state
use Rattle.object_ops.specs.declared.put_state.Work.{Work}

-- what is asked of the counts of a state
pub record Sound (long read drives : ℕ) (s : PutState) : Type 0 where
  pub counted : long_by long read s ≡ long
  pub reached : reach_by read s ≤ long
  pub over : drives_by drives s ≡ drives

at_state : (long read drives : ℕ) (s is : PutState) → s ≡ is → Sound long read drives is → Sound long read drives s
at_state long read drives s is same x = subst (Sound long read drives) (sym same) x

told_sound : (long read drives : ℕ) (s : PutState) (why : Option Cut) → s ≡ state.Told why → Sound long read drives s
told_sound long read drives s why is = at_state long read drives s (state.Told why) is (record { counted = refl; reached = omega arith; over = refl })

telling_sound : (long read drives : ℕ) (s : PutState) (told : Reply) → s ≡ state.Telling told → Sound long read drives s
telling_sound long read drives s told is = at_state long read drives s (state.Telling told) is (record { counted = refl; reached = omega arith; over = refl })

owes_sound : (long read drives : ℕ) (told : Reply) (s : PutState) → OwesNext told read long s → Sound long read drives s
owes_sound long read drives told s (inl (less, is)) =
    at_state long read drives s (state.Draining told) is (record { counted = refl; reached = omega (arith, less); over = refl })
owes_sound long read drives told s (inr (whole, is)) = telling_sound long read drives s told is

pub look_sound : (long read drives : ℕ) (seen : Looked) (s : PutState) → read ≡ 0 → AfterLook seen long s → Sound long read drives s
look_sound long read drives (looked.There mode) s zero_read is =
    at_state long read drives s (state.Beginning mode) is (record { counted = omega (arith, zero_read); reached = omega arith; over = refl })
look_sound long read drives (looked.Refused why) s zero_read x =
    owes_sound long read drives (Refused why) s (subst (λ n. OwesNext (Refused why) n long s) (sym zero_read) x)
look_sound long read drives looked.LacksMemory s zero_read is = told_sound long read drives s (Some NoMemory) is

begun_sound : (set : SetPlan) (register : List ℕ) (long read : ℕ) (stated : Option (List ℕ)) (mode : Mode) (flight : Flight) (s : PutState) → read ≡ 0
    → BeginsWork set register long stated mode flight s → Sound long read set.drives s
begun_sound set register long read stated mode flight state.Looking zero_read b = absurd b
begun_sound set register long read stated mode flight (state.Beginning other) zero_read b = absurd b
begun_sound set register long read stated mode flight (state.Staging work) zero_read b =
    let long_is = b.stage.load.length_is in
    let taken = b.stage.load.taken.long in
    record { counted = omega (arith, zero_read, long_is, taken); reached = omega arith; over = ap (λ (p : SetPlan). p.drives) b.stage.load.set_is }
begun_sound set register long read stated mode flight (state.Dropping other why) zero_read b = record { counted = refl; reached = omega arith; over = refl }
begun_sound set register long read stated mode flight (state.Draining told) zero_read b = absurd b
begun_sound set register long read stated mode flight (state.Telling told) zero_read b = absurd b
begun_sound set register long read stated mode flight (state.Told why) zero_read b = absurd b

refused_sound : (long read drives : ℕ) (fault : SlotFault) (s : PutState) → read ≡ 0 → RefusedBegin fault long s → Sound long read drives s
refused_sound long read drives slot.SeqSpent s zero_read x =
    owes_sound long read drives (Refused refusal.SeqSpent) s (subst (λ n. OwesNext (Refused refusal.SeqSpent) n long s) (sym zero_read) x)
refused_sound long read drives (slot.Quorum quorum) s zero_read x = told_sound long read drives s (Some NoMemory) x
refused_sound long read drives (slot.Key why) s zero_read x = told_sound long read drives s (Some NoMemory) x
refused_sound long read drives (slot.AuditFailed before after) s zero_read x = told_sound long read drives s (Some NoMemory) x
refused_sound long read drives slot.NoMemory s zero_read x = told_sound long read drives s (Some NoMemory) x
refused_sound long read drives (slot.NotInFlight id) s zero_read x = told_sound long read drives s (Some NoMemory) x

pub begin_sound : (set : SetPlan) (register : List ℕ) (long read : ℕ) (stated : Option (List ℕ)) (mode : Mode) (answer : Result Flight SlotFault) (s : PutState) → read ≡ 0
    → BeginsTo set register long stated mode answer s → Sound long read set.drives s
begin_sound set register long read stated mode (Ok flight) s zero_read b = begun_sound set register long read stated mode flight s zero_read b
begin_sound set register long read stated mode (Err fault) s zero_read b = refused_sound long read set.drives fault s zero_read b

pub commit_sound : (long read drives : ℕ) (answer : Result Committed SlotFault) (s : PutState) → AfterCommit answer s → Sound long read drives s
commit_sound long read drives (Ok made) s is = telling_sound long read drives s made.done is
commit_sound long read drives (Err fault) s is = by (refusal_by fault) is
  where
    by : (o : Option Refusal) → MatchOption o (s ≡ state.Told (Some NoMemory)) (λ why. s ≡ state.Telling (Refused why)) → Sound long read drives s
    by None same = told_sound long read drives s (Some NoMemory) same
    by (Some why) same = telling_sound long read drives s (Refused why) same

bar_sound : (long read drives : ℕ) (why : Barred) (s : PutState) → BarredAt why read long s → Sound long read drives s
bar_sound long read drives barred.Spent s x = owes_sound long read drives (Refused refusal.SeqSpent) s x
bar_sound long read drives barred.NoMemory s x = told_sound long read drives s (Some NoMemory) x

end_sound : (long read drives : ℕ) (work : Work) (why : Barred) (s : PutState) → BarredEnd work why read long s → Sound long read drives s
end_sound long read drives work barred.Spent s x = owes_sound long read drives (Refused refusal.SeqSpent) s x
end_sound long read drives work barred.NoMemory s x =
    at_state long read drives s (state.Dropping work.flight NoMemory) x (record { counted = refl; reached = omega arith; over = refl })

pub barred_sound : (long read drives : ℕ) (one : PutState) (why : Barred) (s : PutState) → BarredAfter one why read long s → Sound long read drives s
barred_sound long read drives state.Looking why s x = bar_sound long read drives why s x
barred_sound long read drives (state.Beginning mode) why s x = bar_sound long read drives why s x
barred_sound long read drives (state.Staging work) why s x = end_sound long read drives work why s x
barred_sound long read drives (state.Dropping flight cut) why s x = told_sound long read drives s (Some cut) x
barred_sound long read drives (state.Draining told) why s x = bar_sound long read drives why s x
barred_sound long read drives (state.Telling told) why s x = bar_sound long read drives why s x
barred_sound long read drives (state.Told cut) why s x = bar_sound long read drives why s x
