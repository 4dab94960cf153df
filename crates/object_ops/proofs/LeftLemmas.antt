-- How much is left of the op of a deed after each step.
use Rattle.std.proofs.Common.{◌≡◌, ◌+◌, ◌*◌, ◌<◌, ◌≤◌, ◌==◌, ◌∙◌, ℕ, suc, Bool, true, false, List, [], ◌∷◌, All, MatchOption, Option, Some, None, Result, Ok, Err, cond, length, ap, subst, sym, refl, arith}
use Rattle.call_types.specs.declared.act.Act.{Act}
use Rattle.call_types.specs.declared.feed.Cut.{Cut}
use Rattle.call_types.specs.declared.names.Key.{Key}
use Rattle.call_types.specs.declared.refusal.Refusal.{Refusal}
use Rattle.call_types.specs.declared.reply.Reply.TheVariants.{Refused as RefusedReply}
use Rattle.call_types.specs.declared.feed.Cut.TheVariants.{NoMemory}
use Rattle.drive_base.specs.View.{DriveView}
use Rattle.drive_base.specs.declared.plan.SetPlan.{SetPlan}
use Rattle.slot_rules.specs.declared.commit.Committed.{Committed}
use Rattle.slot_core.specs.declared.slot.SlotFault.{SlotFault}
use Rattle.receipts.specs.declared.barred.Barred.{Barred}
use Rattle.receipts.specs.declared.barred.Barred.TheVariants as barred
use Rattle.op_steps.specs.Notes.{refusal_by}
use Rattle.op_steps.specs.Words.{IsSection}
use Rattle.op_steps.specs.declared.next.OpNext.{OpNext}
use Rattle.op_steps.specs.declared.next.OpNext.TheVariants as next
use Rattle.op_steps.specs.declared.looking.Looked.{Looked}
use Rattle.object_ops.specs.Clearing.{RemovesOne, files_left, left_of, AreDue, FileOn, files_of}
use Rattle.object_ops.specs.Deeds.{AfterCommit, AfterLook, barred_state, left_at, step_at}
use Rattle.object_ops.specs.declared.clearing.Clearing.{Clearing}
use Rattle.object_ops.specs.declared.deed_op.DeedState.{DeedState}
use Rattle.object_ops.specs.declared.deed_op.DeedState.TheVariants.{Committing, Looking, Telling, Told}
use Rattle.object_ops.specs.declared.deed_op.KeyDeed.{KeyDeed}
use Rattle.object_ops.specs.declared.data_files.Removal.{Removal}

-- after the look
pub look_left : (set : SetPlan) (at : Key) (act : Act) (clearing : Clearing) (state later : DeedState) (looked : Looked) → state ≡ Looking
    → AfterLook at act looked later → left_at set clearing later < left_at set clearing state
look_left set at act clearing state later looked is after =
    subst (λ (s : DeedState). left_at set clearing later < left_at set clearing s) (sym is) (by later after)
  where
    by : (s : DeedState) → AfterLook at act looked s → left_at set clearing s < left_at set clearing Looking
    by Looking x = absurd x
    by (Committing deed) x = omega arith
    by (Telling reply) x = omega arith
    by (Told cut) x = omega arith

-- after the commit
short_after : (set : SetPlan) (clearing : Clearing) (answer : Result Committed SlotFault) (later : DeedState) → AfterCommit answer later
    → left_at set clearing later ≤ left_of set clearing + 1
short_after set clearing (Ok made) later after = subst (λ (s : DeedState). left_at set clearing s ≤ left_of set clearing + 1) (sym after) (omega arith)
short_after set clearing (Err fault) later after = by (refusal_by fault) after
  where
    by : (o : Option Refusal) → MatchOption o (later ≡ Told (Some NoMemory)) (λ why. later ≡ Telling (RefusedReply why)) → left_at set clearing later ≤ left_of set clearing + 1
    by None is = subst (λ (s : DeedState). left_at set clearing s ≤ left_of set clearing + 1) (sym is) (omega arith)
    by (Some why) is = subst (λ (s : DeedState). left_at set clearing s ≤ left_of set clearing + 1) (sym is) (omega arith)

begun_left : (set : SetPlan) (takes : Bool) (queue : List Removal) (begun : Clearing) → begun.takes ≡ true → begun.queue.items ≡ queue
    → left_of set begun ≡ 32 * set.drives + 1 + length (files_of queue)
begun_left set takes queue begun took same =
    ap (λ b. cond b (32 * set.drives + 1) 0 + length (files_left begun)) took ∙ ap (λ (q : List Removal). 32 * set.drives + 1 + length (files_of q)) same

pub commit_left : (set : SetPlan) (clearing begun : Clearing) (state later : DeedState) (deed : KeyDeed) (answer : Result Committed SlotFault) → state ≡ Committing deed
    → begun.takes ≡ true → begun.queue.items ≡ clearing.queue.items → AfterCommit answer later → left_at set begun later < left_at set clearing state
commit_left set clearing begun state later deed answer is took same after =
    let short = short_after set begun answer later after in
    let long = begun_left set clearing.takes clearing.queue.items begun took same in
    subst (λ (s : DeedState). left_at set begun later < left_at set clearing s) (sym is) (omega (arith, short, long))

-- after trash was taken
pub clear_left : (set : SetPlan) (clearing cleared : Clearing) (state : DeedState) (cut : Option Cut) → state ≡ Told cut → clearing.takes ≡ true → cleared.takes ≡ false
    → length (files_left cleared) ≤ 32 * set.drives → left_at set cleared state < left_at set clearing state
clear_left set clearing cleared state cut is took took_it few =
    let new : left_of set cleared ≡ 0 + length (files_left cleared) = ap (λ b. cond b (32 * set.drives + 1) 0 + length (files_left cleared)) took_it in
    let old : left_of set clearing ≡ 32 * set.drives + 1 + length (files_left clearing) = ap (λ b. cond b (32 * set.drives + 1) 0 + length (files_left clearing)) took in
    subst (λ (s : DeedState). left_at set cleared s < left_at set clearing s) (sym is) (omega (arith, new, old, few))

-- after a removal
pub data_left : (set : SetPlan) (clearing cleared : Clearing) (state : DeedState) (old new : List DriveView) → cleared.takes ≡ clearing.takes
    → RemovesOne (files_left clearing) (files_left cleared) old new → left_at set cleared state < left_at set clearing state
data_left set clearing cleared state old new same one = by state
  where
    fewer : left_of set cleared < left_of set clearing
    fewer =
        let long = ap (λ (l : List FileOn). length l) one.first in
        let takes : cond cleared.takes (32 * set.drives + 1) 0 ≡ cond clearing.takes (32 * set.drives + 1) 0 = ap (λ b. cond b (32 * set.drives + 1) 0) same in
        omega (arith, long, takes)

    by : (s : DeedState) → left_at set cleared s < left_at set clearing s
    by Looking = omega (arith, fewer)
    by (Committing deed) = omega (arith, fewer)
    by (Telling reply) = omega (arith, fewer)
    by (Told cut) = fewer

-- the files are on drives of the set
pub all_within : (set : SetPlan) (slot : ℕ) (left : List FileOn) (n : ℕ) → n ≡ set.drives → AreDue set slot left → All (λ (file : FileOn). file.drive < n) left
all_within set slot left n same due k d low = let inside = (due k d low).within in omega (arith, inside, same)

-- those that are left after a removal go on to be due
pub due_left : (set : SetPlan) (slot : ℕ) (left less : List FileOn) (old new : List DriveView) → AreDue set slot left → RemovesOne left less old new
    → AreDue set slot less
due_left set slot left less old new due one k d low = subst (AreDue set slot) one.first due (suc k) d (omega (arith, low))

-- a removal comes next only where a file is left
abbrev pub is_data : OpNext → Type 0
is_data (next.Section k) = ⊥
is_data next.Data = Unit {0}
is_data next.Feed = ⊥
is_data next.Tell = ⊥
is_data next.Done = ⊥

some_in : (takes : Bool) (slot : ℕ) (left : List FileOn) → cond takes (next.Section slot) (cond (length left == 0) next.Done next.Data) ≡ next.Data → 0 < length left
some_in true slot left step = absurd (subst is_data (sym step) tt)
some_in false slot [] step = absurd (subst is_data (sym step) tt)
some_in false slot (file ∷ left) step = omega arith

pub some_left : (at : Key) (clearing : Clearing) (state : DeedState) → step_at at clearing state ≡ next.Data → 0 < length (files_left clearing)
some_left at clearing Looking step = absurd (subst is_data (sym step) tt)
some_left at clearing (Committing deed) step = absurd (subst is_data (sym step) tt)
some_left at clearing (Telling reply) step = absurd (subst is_data (sym step) tt)
some_left at clearing (Told cut) step = some_in clearing.takes _ (files_left clearing) step

-- ---- a section that can't be done

-- before the reply nothing is left but it, or nothing
pub barred_left : (set : SetPlan) (at : Key) (clearing : Clearing) (state : DeedState) (why : Barred) → ((cut : Option Cut) → state ≡ Told cut → ⊥)
    → IsSection (step_at at clearing state) → left_at set clearing (barred_state why) < left_at set clearing state
barred_left set at clearing Looking barred.Spent untold step = omega arith
barred_left set at clearing Looking barred.NoMemory untold step = omega arith
barred_left set at clearing (Committing deed) barred.Spent untold step = omega arith
barred_left set at clearing (Committing deed) barred.NoMemory untold step = omega arith
barred_left set at clearing (Telling reply) why untold step = absurd step
barred_left set at clearing (Told cut) why untold step = absurd (untold cut refl)
