-- How much of a PutObject is left after each step.
use Rattle.std.proofs.Common.{◌≡◌, ◌∙◌, ◌<◌, ◌≤◌, ◌+◌, ◌-◌, ◌*◌, ℕ, true, false, List, Option, Some, None, Result, Ok, Err, MatchOption, cond, length, inl, inr, refl, sym, ap, subst, arith}
use Rattle.call_types.specs.declared.feed.Cut.{Cut}
use Rattle.call_types.specs.declared.feed.Cut.TheVariants.{NoMemory}
use Rattle.call_types.specs.declared.names.Key.{Key}
use Rattle.call_types.specs.declared.names.Mode.{Mode}
use Rattle.call_types.specs.declared.refusal.Refusal.{Refusal}
use Rattle.call_types.specs.declared.refusal.Refusal.TheVariants as refusal
use Rattle.call_types.specs.declared.reply.Reply.{Reply}
use Rattle.call_types.specs.declared.reply.Reply.TheVariants.{Refused}
use Rattle.drive_base.specs.View.{DriveView}
use Rattle.drive_base.specs.declared.plan.SetPlan.{SetPlan}
use Rattle.call_types.specs.Good.{is_good}
use Rattle.put_stage.specs.Left.{calls_left, calls_on}
use Rattle.put_stage.specs.Work.{due_at, why_at}
use Rattle.put_stage.specs.declared.stage.Stage.{Stage}
use Rattle.put_stage.specs.declared.stage.StageNext.{StageNext}
use Rattle.put_stage.specs.declared.stage.StageNext.TheVariants.{Fill, Finish, Step}
use Rattle.put_stage.proofs.LeftLemmas.{few_calls, sum_most}
use Rattle.receipts.specs.Registers.{key_slot}
use Rattle.receipts.specs.declared.barred.Barred.{Barred}
use Rattle.receipts.specs.declared.barred.Barred.TheVariants as barred
use Rattle.slot_rules.specs.declared.commit.Committed.{Committed}
use Rattle.op_steps.specs.Words.{IsSection}
use Rattle.slot_core.specs.declared.slot.SlotFault.{SlotFault}
use Rattle.slot_core.specs.declared.slot.SlotFault.TheVariants as slot
use Rattle.slot_core.specs.declared.holding.Flight.{Flight}
use Rattle.op_steps.specs.Notes.{refusal_by}
use Rattle.op_steps.specs.declared.looking.Looked.{Looked}
use Rattle.op_steps.specs.declared.looking.Looked.TheVariants as looked
use Rattle.object_ops.specs.Clearing.{RemovesOne, files_left, left_of as left_to_clear, FileOn, files_of}
use Rattle.object_ops.specs.Put.{left_at, long_by, most_calls, step_at, work_step}
use Rattle.object_ops.specs.PutStageCalls.{BeginsTo, BeginsWork}
use Rattle.object_ops.specs.PutOutcome.{AfterCommit, AfterLook, BarredAfter, BarredAt, BarredEnd, OwesNext, RefusedBegin}
use Rattle.object_ops.specs.declared.clearing.Clearing.{Clearing}
use Rattle.object_ops.specs.declared.put_state.PutState.{PutState}
use Rattle.object_ops.specs.declared.put_state.PutState.TheVariants as state
use Rattle.object_ops.specs.declared.put_state.Work.{Work}
use Rattle.object_ops.specs.declared.data_files.Removal.{Removal}

-- no byte is taken before the stage begins
pub none_read : (long read : ℕ) (one : PutState) → one ≡ state.Looking → long_by long read one ≡ long → read ≡ 0
none_read long read one is counted = let same = subst (λ (s : PutState). long_by long read s ≡ long) is counted in omega (arith, same)

pub none_read_yet : (long read : ℕ) (one : PutState) (mode : Mode) → one ≡ state.Beginning mode → long_by long read one ≡ long → read ≡ 0
none_read_yet long read one mode is counted = let same = subst (λ (s : PutState). long_by long read s ≡ long) is counted in omega (arith, same)

-- all bytes are taken once the stage has none left
pub all_read : (long read : ℕ) (one : PutState) (work : Work) → one ≡ state.Staging work → long_by long read one ≡ long → work.stage.load.left ≡ 0 → read ≡ long
all_read long read one work is counted whole = let same = subst (λ (s : PutState). long_by long read s ≡ long) is counted in omega (arith, same, whole)

-- a reply that is decided
pub owes_left : (set : SetPlan) (long read : ℕ) (clearing : Clearing) (told : Reply) (next : PutState) → OwesNext told read long next
    → left_at set long read clearing next ≤ left_to_clear set clearing + 1 + (long - read)
owes_left set long read clearing told next (inl (less, is)) =
    subst (λ (s : PutState). left_at set long read clearing s ≤ left_to_clear set clearing + 1 + (long - read)) (sym is) (omega arith)
owes_left set long read clearing told next (inr (whole, is)) =
    subst (λ (s : PutState). left_at set long read clearing s ≤ left_to_clear set clearing + 1 + (long - read)) (sym is) (omega arith)

-- a body has no more bytes than calls are counted for it
few_bytes : (set : SetPlan) (long : ℕ) → long ≤ most_calls set long
few_bytes set long = omega arith

-- after the look
pub look_left : (set : SetPlan) (long read : ℕ) (clearing : Clearing) (one later : PutState) (seen : Looked) → one ≡ state.Looking → read ≡ 0
    → AfterLook seen long later → left_at set long read clearing later < left_at set long read clearing one
look_left set long read clearing one later seen is zero_read after =
    subst (λ (s : PutState). left_at set long read clearing later < left_at set long read clearing s) (sym is) (by seen after)
  where
    by : (l : Looked) → AfterLook l long later → left_at set long read clearing later < left_at set long read clearing state.Looking
    by (looked.There mode) x = subst (λ (s : PutState). left_at set long read clearing s < left_at set long read clearing state.Looking) (sym x) (omega arith)
    by (looked.Refused why) x =
        let short = owes_left set long read clearing (Refused why) later (subst (λ n. OwesNext (Refused why) n long later) (sym zero_read) x) in
        let few = few_bytes set long in
        omega (arith, short, few)
    by looked.LacksMemory x = subst (λ (s : PutState). left_at set long read clearing s < left_at set long read clearing state.Looking) (sym x) (omega arith)

-- ---- the calls of a stage

-- it makes no more than so many
stage_left : (stage : Stage) (set : SetPlan) (long : ℕ) → stage.load.set ≡ set → stage.load.left ≡ long → calls_left stage ≤ most_calls set long
unfolding calls_left
stage_left stage set long set_is left_is =
    let few = sum_most (calls_on stage) stage.load.set.drives (λ j. few_calls (is_good (why_at stage j)) (due_at stage j)) in
    subst (λ (p : SetPlan). calls_left stage ≤ most_calls p long) set_is
    (subst (λ n. calls_left stage ≤ most_calls stage.load.set n) left_is (omega (arith, few)))

pub begin_left : (set : SetPlan) (register : List ℕ) (long read : ℕ) (stated : Option (List ℕ)) (clearing : Clearing) (one later : PutState) (mode : Mode) (flight : Flight)
    → one ≡ state.Beginning mode → BeginsWork set register long stated mode flight later → left_at set long read clearing later < left_at set long read clearing one
begin_left set register long read stated clearing one later mode flight is begins =
    subst (λ (s : PutState). left_at set long read clearing later < left_at set long read clearing s) (sym is) (by later begins)
  where
    by : (s : PutState) → BeginsWork set register long stated mode flight s
        → left_at set long read clearing s < left_at set long read clearing (state.Beginning mode)
    by state.Looking b = absurd b
    by (state.Beginning other) b = absurd b
    by (state.Staging work) b =
        let long_is = b.stage.load.length_is in
        let taken = b.stage.load.taken.long in
        let few = stage_left work.stage set long b.stage.load.set_is (omega (arith, taken, long_is)) in
        omega (arith, few)
    by (state.Dropping other why) b = omega arith
    by (state.Draining reply) b = absurd b
    by (state.Telling reply) b = absurd b
    by (state.Told why) b = absurd b

pub refused_begin_left : (set : SetPlan) (long read : ℕ) (clearing : Clearing) (one later : PutState) (mode : Mode) (fault : SlotFault) → one ≡ state.Beginning mode
    → read ≡ 0 → RefusedBegin fault long later → left_at set long read clearing later < left_at set long read clearing one
refused_begin_left set long read clearing one later mode fault is zero_read after =
    subst (λ (s : PutState). left_at set long read clearing later < left_at set long read clearing s) (sym is) (by fault after)
  where
    none : later ≡ state.Told (Some NoMemory) → left_at set long read clearing later < left_at set long read clearing (state.Beginning mode)
    none x = subst (λ (s : PutState). left_at set long read clearing s < left_at set long read clearing (state.Beginning mode)) (sym x) (omega arith)

    by : (f : SlotFault) → RefusedBegin f long later → left_at set long read clearing later < left_at set long read clearing (state.Beginning mode)
    by slot.SeqSpent x =
        let short = owes_left set long read clearing (Refused refusal.SeqSpent) later (subst (λ n. OwesNext (Refused refusal.SeqSpent) n long later) (sym zero_read) x) in
        let few = few_bytes set long in
        omega (arith, short, few)
    by (slot.Quorum quorum) x = none x
    by (slot.Key why) x = none x
    by (slot.AuditFailed before after_it) x = none x
    by slot.NoMemory x = none x
    by (slot.NotInFlight id) x = none x

-- ---- the end of the put

begun_left : (set : SetPlan) (queue : List Removal) (begun : Clearing) → begun.takes ≡ true → begun.queue.items ≡ queue
    → left_to_clear set begun ≡ 32 * set.drives + 1 + length (files_of queue)
begun_left set queue begun took same =
    ap (λ b. cond b (32 * set.drives + 1) 0 + length (files_left begun)) took ∙ ap (λ (q : List Removal). 32 * set.drives + 1 + length (files_of q)) same

-- once trash is taken next, what is left is that, and a telling
pub over_left : (set : SetPlan) (long read : ℕ) (clearing begun : Clearing) (later : PutState) → begun.takes ≡ true → begun.queue.items ≡ clearing.queue.items
    → left_at set long read begun later ≤ left_to_clear set begun + 1 → left_at set long read begun later ≤ left_to_clear set clearing + 32 * set.drives + 2
over_left set long read clearing begun later took same short = (let new = begun_left set clearing.queue.items begun took same in omega (arith, new, short))

pub committed_left : (set : SetPlan) (long read : ℕ) (begun : Clearing) (answer : Result Committed SlotFault) (later : PutState) → AfterCommit answer later
    → left_at set long read begun later ≤ left_to_clear set begun + 1
committed_left set long read begun (Ok made) later after =
    subst (λ (s : PutState). left_at set long read begun s ≤ left_to_clear set begun + 1) (sym after) (omega arith)
committed_left set long read begun (Err fault) later after = by (refusal_by fault) after
  where
    by : (o : Option Refusal) → MatchOption o (later ≡ state.Told (Some NoMemory)) (λ why. later ≡ state.Telling (Refused why))
        → left_at set long read begun later ≤ left_to_clear set begun + 1
    by None is = subst (λ (s : PutState). left_at set long read begun s ≤ left_to_clear set begun + 1) (sym is) (omega arith)
    by (Some why) is = subst (λ (s : PutState). left_at set long read begun s ≤ left_to_clear set begun + 1) (sym is) (omega arith)

pub staging_over : (set : SetPlan) (long read : ℕ) (clearing begun : Clearing) (one later : PutState) (work : Work) → one ≡ state.Staging work
    → left_at set long read begun later ≤ left_to_clear set clearing + 32 * set.drives + 2 → left_at set long read begun later < left_at set long read clearing one
staging_over set long read clearing begun one later work is short =
    subst (λ (s : PutState). left_at set long read begun later < left_at set long read clearing s) (sym is) (omega (arith, short))

pub told_left : (set : SetPlan) (long read : ℕ) (clearing begun : Clearing) (one : PutState) (flight : Flight) (why : Cut) → one ≡ state.Dropping flight why
    → begun.takes ≡ true → begun.queue.items ≡ clearing.queue.items
    → left_at set long read begun (state.Told (Some why)) < left_at set long read clearing one
told_left set long read clearing begun one flight why is took same =
    let new = begun_left set clearing.queue.items begun took same in
    subst (λ (s : PutState). left_at set long read begun (state.Told (Some why)) < left_at set long read clearing s) (sym is) (omega (arith, new))

pub begin_to_left : (set : SetPlan) (register : List ℕ) (long read : ℕ) (stated : Option (List ℕ)) (clearing : Clearing) (one later : PutState) (mode : Mode)
    (answer : Result Flight SlotFault) → one ≡ state.Beginning mode → read ≡ 0 → BeginsTo set register long stated mode answer later
    → left_at set long read clearing later < left_at set long read clearing one
begin_to_left set register long read stated clearing one later mode (Ok flight) is zero_read b = begin_left set register long read stated clearing one later mode flight is b
begin_to_left set register long read stated clearing one later mode (Err fault) is zero_read b = refused_begin_left set long read clearing one later mode fault is zero_read b

-- after trash was taken
pub clear_left : (set : SetPlan) (long read : ℕ) (clearing cleared : Clearing) (one : PutState) (why : Option Cut) → one ≡ state.Told why → clearing.takes ≡ true
    → cleared.takes ≡ false → length (files_left cleared) ≤ 32 * set.drives → left_at set long read cleared one < left_at set long read clearing one
clear_left set long read clearing cleared one why is took took_it few =
    let new : left_to_clear set cleared ≡ 0 + length (files_left cleared) = ap (λ b. cond b (32 * set.drives + 1) 0 + length (files_left cleared)) took_it in
    let old : left_to_clear set clearing ≡ 32 * set.drives + 1 + length (files_left clearing) =
    ap (λ b. cond b (32 * set.drives + 1) 0 + length (files_left clearing)) took in
    subst (λ (s : PutState). left_at set long read cleared s < left_at set long read clearing s) (sym is) (omega (arith, new, old, few))

-- after a removal
pub remove_left : (set : SetPlan) (long read : ℕ) (clearing cleared : Clearing) (one : PutState) (why : Option Cut) (old new : List DriveView) → one ≡ state.Told why
    → cleared.takes ≡ clearing.takes → RemovesOne (files_left clearing) (files_left cleared) old new → left_at set long read cleared one < left_at set long read clearing one
remove_left set long read clearing cleared one why old new is same step =
    let more = ap (λ (l : List FileOn). length l) step.first in
    let takes : cond cleared.takes (32 * set.drives + 1) 0 ≡ cond clearing.takes (32 * set.drives + 1) 0 = ap (λ b. cond b (32 * set.drives + 1) 0) same in
    subst (λ (s : PutState). left_at set long read cleared s < left_at set long read clearing s) (sym is) (omega (arith, more, takes))

-- a section comes next for a stage that is over
pub section_ends : (index : ℕ) (n : StageNext) → IsSection (work_step index n) → n ≡ Finish
section_ends index Fill section = absurd section
section_ends index Step section = absurd section
section_ends index Finish section = refl

-- a section that can't be done
pub barred_left : (set : SetPlan) (at : Key) (long read : ℕ) (clearing : Clearing) (one later : PutState) (why : Barred) → ((why_cut : Option Cut) → one ≡ state.Told why_cut → ⊥)
    → ((work : Work) → one ≡ state.Staging work → work.next ≡ Finish → read ≡ long)
    → IsSection (step_at at clearing one) → BarredAfter one why read long later → left_at set long read clearing later < left_at set long read clearing one
barred_left set at long read clearing one later why untold whole step after = by one after untold whole step
  where
    bar : (w : Barred) → BarredAt w read long later → left_at set long read clearing later ≤ left_to_clear set clearing + 1 + (long - read)
    bar barred.Spent x = owes_left set long read clearing (Refused refusal.SeqSpent) later x
    bar barred.NoMemory x = subst (λ (s : PutState). left_at set long read clearing s ≤ left_to_clear set clearing + 1 + (long - read)) (sym x) (omega arith)

    staged : (work : Work) (w : Barred) → BarredEnd work w read long later → read ≡ long
        → left_at set long read clearing later < left_at set long read clearing (state.Staging work)
    staged work barred.Spent x full = (let short = owes_left set long read clearing (Refused refusal.SeqSpent) later x in omega (arith, short, full))
    staged work barred.NoMemory x full =
        subst (λ (s : PutState). left_at set long read clearing s < left_at set long read clearing (state.Staging work)) (sym x) (omega arith)

    by : (s : PutState) → BarredAfter s why read long later → ((why_cut : Option Cut) → s ≡ state.Told why_cut → ⊥)
        → ((work : Work) → s ≡ state.Staging work → work.next ≡ Finish → read ≡ long) → IsSection (step_at at clearing s)
        → left_at set long read clearing later < left_at set long read clearing s
    by state.Looking x never all section = (let short = bar why x in let few = few_bytes set long in omega (arith, short, few))
    by (state.Beginning mode) x never all section = (let short = bar why x in let few = few_bytes set long in omega (arith, short, few))
    by (state.Staging work) x never all section = staged work why x (all work refl (section_ends (key_slot at) work.next section))
    by (state.Dropping flight cut) x never all section =
        subst (λ (t : PutState). left_at set long read clearing t < left_at set long read clearing (state.Dropping flight cut)) (sym x) (omega arith)
    by (state.Draining told) x never all section = absurd section
    by (state.Telling told) x never all section = absurd section
    by (state.Told cut) x never all section = absurd (never cut refl)
