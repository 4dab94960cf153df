-- Over the log of a call its put is listed, and its body is taken where enough data drives serve.
use Rattle.std.proofs.Common.{◌≡◌, ◌∙◌, ◌<◌, ◌≤◌, ℕ, List, [], Option, Some, Contains, MatchOption, length, slice_index_or, sym, subst, inl, inr, refl, arith}
use Rattle.std.specs.Int.{IsBitSet}
use Rattle.std.proofs.lemmas.List.{get_or_default}
use Rattle.body_print.specs.Plans.{data_plan}
use Rattle.call_types.specs.declared.refusal.Refusal.{Refusal}
use Rattle.call_types.specs.declared.refusal.Refusal.TheVariants.{NotInFlight}
use Rattle.call_types.specs.declared.why.FileKind.TheVariants.{Format, Manifest, Register, Shard}
use Rattle.call_types.specs.declared.why.Why.{Why}
use Rattle.call_types.specs.declared.why.Why.TheVariants.{Behind, Damaged, Failed, Good, Lacks}
use Rattle.desk_base.specs.Telling.{Effect}
use Rattle.drive_base.specs.Calls.Seen.{Faulted, Unwritten}
use Rattle.drive_base.specs.DriveSet.{count_in}
use Rattle.drive_base.specs.Plan.{write_drives}
use Rattle.drive_base.specs.View.{view_at}
use Rattle.drive_base.specs.declared.drive.Drive.{Ghosts}
use Rattle.drive_base.specs.declared.plan.SetPlan.{SetPlan}
use Rattle.fault_base.specs.Counts.{Rose}
use Rattle.file_access.proofs.SightLemmas.{calls_tell_what_was_so}
use Rattle.stamp_id.specs.declared.version.VersionId.{VersionId}
use Rattle.slot_data.specs.Disks.{Disks}
use Rattle.receipts.specs.Events.{Log, Note, Saw, Shown}
use Rattle.receipts.specs.Events.Event.{Called, Turned}
use Rattle.receipts.specs.Letters.{FewTook, StageLetter}
use Rattle.op_steps.specs.Causes.{RefusalCause}
use Rattle.op_steps.specs.Claims.{Claim}
use Rattle.log_laws.specs.Laws.{AllHold, EachStepKeepsData, RanKeepsFiles, RanKeepsHistory}
use Rattle.op_steps.specs.Leading.{Standing}
use Rattle.op_steps.specs.Moves.{SlotKept}
use Rattle.log_laws.specs.Requests.{DisksAreCalm}
use Rattle.op_steps.specs.Steps.{Ran}
use Rattle.op_steps.specs.Store.{AreInOrder, Store}
use Rattle.register_core.proofs.SeenLemmas.{element}
use Rattle.op_steps.proofs.LetterLemmas.{good_enough}
use Rattle.log_laws.proofs.MomentLemmas.{moment}
use Rattle.log_laws.proofs.RequestLemmas.{own_there}
use Rattle.op_steps.proofs.SlotLemmas.{order_index, order_set}
use Rattle.log_laws.proofs.PlaceLemmas.{there}

-- a count that rose between two moments rose since before them until after
rose_within : (old first last new : ℕ) → old ≤ first → Rose first last → last ≤ new → Rose old new
rose_within old first last new low (up, inl above) high = (omega arith, inl (omega arith))
rose_within old first last new low (up, inr top) high = (omega arith, inr (omega arith))

module _ {D T : Type 0} (ghosts : Ghosts D) (takes breaks : Effect T) (step_law : EachStepKeepsData ghosts takes breaks)
    (history : RanKeepsHistory ghosts takes breaks) (files : RanKeepsFiles ghosts takes breaks) where
  module _ (set : SetPlan) (log : Log) (old new : Store D T) (unseen : Disks) (claims : List Claim) (at : ℕ → Standing)
      (order : AreInOrder set old.slots old.disks) (low : old.claim.slot < 64) (held : AllHold ghosts.tells ghosts.files unseen old claims [] at)
      (ran : Ran ghosts takes breaks set log old new) where
    -- no section in the call's own slot is refused for a put that isn't listed
    pub put_listed : (note : Note) (shown : Shown) (id : VersionId) → Contains log (Turned old.claim.slot (Some note) shown) → note.refusal ≡ Some (NotInFlight id) → ⊥
    put_listed note shown id in_log refused =
        let x = moment ghosts takes breaks step_law history files set log old new unseen claims [] at (Turned old.claim.slot (Some note) shown) order low held ran in_log in
        let turn = x.step in
        let cause = subst (λ (r : Option Refusal). MatchOption r (Unit {0}) (λ w. RefusalCause ghosts w note.entry turn.was turn.now x.mid.claim x.mid.disks turn.disks))
        refused turn.moves.cause in
        let own : x.mid.claim.slot ≡ turn.was.numbers.index =
        x.slot ∙ sym (order_index set x.mid.slots x.mid.disks old.claim.slot turn.was x.order turn.is) in
        let met = (x.held old.claim.slot turn.was turn.is).holds.met x.mid.claim (own_there turn.was.numbers.index claims x.mid.claim [] own) in
        let put = cause.1 in
        cause.2 (record { flight = put.0; there = met.flight put.0 put.1; id_is = put.2 })

    -- a call of the log that failed raised its drive's count over the log
    faulted_rose : (k : ℕ) (name : List ℕ) (before after : ℕ) → Saw log k (Faulted name before after) → Rose (view_at old.disks k).count (view_at new.disks k).count
    faulted_rose k name before after saw =
        let x = moment ghosts takes breaks step_law history files set log old new unseen claims [] at (Called k saw.made) order low held ran saw.called in
        let so = calls_tell_what_was_so saw.made (Faulted name before after) (view_at x.mid.disks k) (view_at x.later.disks k) x.step.moves.was_made saw.tells in
        let first = (x.before.goes_on k).count in
        let last = (x.after.goes_on k).count in
        rose_within (view_at old.disks k).count (view_at x.mid.disks k).count (view_at x.later.disks k).count (view_at new.disks k).count first so.2 last

    -- no call of it says that nothing is being written
    none_unwritten : (k : ℕ) (name : List ℕ) → Saw log k (Unwritten name) → ⊥
    none_unwritten k name saw =
        let x = moment ghosts takes breaks step_law history files set log old new unseen claims [] at (Called k saw.made) order low held ran saw.called in
        let slot = x.slot in
        let count = x.order.count in
        let within : x.mid.claim.slot < length x.mid.slots = omega (arith, slot, low, count) in
        let own = element x.mid.slots x.mid.claim.slot within in
        let mine = there x.mid.slots x.mid.claim.slot own within in
        let here = slice_index_or x.mid.slots x.mid.claim.slot own in
        let after = x.held x.mid.claim.slot here mine in
        let kept : SlotKept = record { numbers = here.numbers; holding = here.holding; records = (x.at x.mid.claim.slot).records; state = (x.at x.mid.claim.slot).state } in
        x.step.moves.written unseen claims [] kept (name, saw.tells) (order_index set x.mid.slots x.mid.disks x.mid.claim.slot here x.order mine) (record {
          set_is = order_set set x.mid.slots x.mid.disks x.mid.claim.slot here x.order mine;
          stands = after.stands.stands;
          holds = after.holds;
        })

    letter_good : (disks : ℕ) (id : VersionId) → DisksAreCalm set disks old.disks new.disks → (k : ℕ) (why : Why) → k < set.drives → IsBitSet disks k
        → StageLetter set id log k why → why ≡ Good
    letter_good disks id calm k Good inside bit letter = refl
    letter_good disks id calm k (Failed before after) inside bit letter = absurd ((calm k inside bit).1 (elim letter.1 [
      | inl shard ↦ faulted_rose k _ before after shard
      | inr manifest ↦ faulted_rose k _ before after manifest
    ]))
    letter_good disks id calm k (Damaged damage) inside bit letter = absurd letter
    letter_good disks id calm k (Behind ballot) inside bit letter = absurd letter
    letter_good disks id calm k (Lacks Format) inside bit letter = absurd ((calm k inside bit).0 letter)
    letter_good disks id calm k (Lacks Register) inside bit letter = absurd letter
    letter_good disks id calm k (Lacks Manifest) inside bit letter = absurd (none_unwritten k _ letter.1)
    letter_good disks id calm k (Lacks Shard) inside bit letter = absurd (none_unwritten k _ letter.1)

    -- and not too few data drives took a body
    pub body_taken : (disks slot : ℕ) (whys : List Why) → DisksAreCalm set disks old.disks new.disks
        → (took : FewTook set slot whys log) → write_drives (data_plan set took.id).drives (data_plan set took.id).parity ≤ count_in disks set.drives → ⊥
    body_taken disks slot whys calm took enough =
        let counted = took.few.counted in
        let most = good_enough set.drives disks whys counted (λ k inside bit.
        get_or_default whys k (Lacks Format) Good (omega (arith, counted, inside))
        ∙ letter_good disks took.id calm k (slice_index_or whys k Good) inside bit (took.each k inside)) in
        let few = took.few.few in
        absurd (omega (arith, most, few, enough))
