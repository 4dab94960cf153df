-- Histories run, and data holds on, over any connection.
use Rattle.std.proofs.Common.{◌≡◌, ◌∙◌, ℕ, List, Option, length, sym, subst}
use Rattle.std.proofs.lemmas.List.{length-map}
use Rattle.audit_trail.specs.declared.entry.Entry.{Entry}
use Rattle.drive_base.specs.View.{DriveView, views}
use Rattle.drive_base.specs.declared.drive.Drive.{Ghosts}
use Rattle.drive_base.specs.declared.plan.SetPlan.{SetPlan}
use Rattle.log_laws.specs.Calling.{CallsKeep, joined}
use Rattle.op_steps.specs.Moves.{DrivesKeep}
use Rattle.op_steps.specs.Store.{slot_seen, slots_seen}
use Rattle.store_shared.proofs.HolderFileLemmas.{each_tells, opened_spares_others}
use Rattle.store_shared.proofs.HolderKeptLemmas.{kept_stays}
use Rattle.store_shared.specs.Laws.{AnswersAreCalls, PassesAreInOrder}
use Rattle.store_shared.specs.OpeningAll.{StoreIsOpen}
use Rattle.store_shared.specs.Passes.{disks_of, set_of, slots_of}
use Rattle.store_shared.specs.Trails.{PlainAnswersHaveTrails}
use Rattle.store_shared.specs.declared.pass.StoreParts.{StoreParts}
use Rattle.store_shared.specs.declared.pass.PlainPass.{PlainPass}
use Rattle.term_gate.specs.Terms.{EachTells, IsKept}
use Rattle.ostore.specs.History.{AllRan, ClosedSlotRan}
use Rattle.ostore.specs.Laws.{ConnectionsPipe}
use Rattle.ostore.specs.Logs.{pipe_logs}
use Rattle.ostore.specs.declared.rig.Rig.{Rig}
use Rattle.ostore.proofs.PlaceLemmas.{all_ran}
use Rattle.ostore.proofs.SessionLemmas.{calls_session}
use Rattle.ostore.proofs.TrailLemmas.{session_trails}

module _ {D A : Type 0} (ghosts : Ghosts D) (entries : A → Option (List Entry)) (count : A → ℕ) where
  -- the term of a life is kept over it
  term_kept : (rig : Rig D A) (parts : StoreParts D A) (opened : PlainPass D A) (opens : StoreIsOpen ghosts entries count rig.set parts opened) (later : List DriveView)
      → DrivesKeep (views ghosts (disks_of opened)) later → EachTells (views ghosts parts.disks.items) → IsKept rig.set opens.opened.term later
  term_kept rig parts opened opens later kept told =
      let old = views ghosts parts.disks.items in
      let mid = views ghosts (disks_of opened) in
      let tell = each_tells old mid told (opened_spares_others rig.set opens.opened old mid opens.taken.opens told) in
      kept_stays rig.set opens.opened.term mid later kept.long (λ k inside. kept.keeps k (tell k inside tt)) (opens.taken.fresh.kept told)

  pub connections_pipe : ((set : SetPlan) → CallsKeep ghosts set) → PassesAreInOrder ghosts entries count
      → AnswersAreCalls ghosts entries count → PlainAnswersHaveTrails ghosts entries count → ClosedSlotRan entries count ghosts.tells ghosts.files → ConnectionsPipe ghosts entries count
  connections_pipe keeps passes answers trails law clock rig after end wires wires_after parts opened stop are opens session closed =
      let logs = pipe_logs ghosts entries count clock opened stop end wires wires_after session in
      let calls = calls_session ghosts entries count keeps passes answers clock opened stop end wires wires_after session in
      let first = slots_seen entries count (slots_of opened) in
      let last = slots_seen entries count (slots_of stop) in
      let kept = keeps (set_of opened) logs first (views ghosts (disks_of opened)) last (views ghosts (disks_of stop)) (passes opened) calls.ran in
      let order = passes opened in
      let later = kept.in_order in
      let long : length (slots_of opened) ≡ length (slots_of stop) = sym (length-map (slots_of opened) (slot_seen entries count)) ∙ (order.count
      ∙ (sym later.count ∙ length-map (slots_of stop) (slot_seen entries count))) in
      let ran = all_ran ghosts entries count (set_of opened) opens.opened.term (joined logs) parts.slots.items after.slots.items
      (slots_of opened) (slots_of stop) (views ghosts (disks_of stop)) law opens.slots long later kept.slots_went closed.slots in
      record {
        parts = parts;
        are = are;
        opened = opened;
        opens = opens;
        stop = stop;
        session = session;
        calls = calls.ran;
        trails = session_trails ghosts entries count trails clock opened stop end wires wires_after session;
        closed = closed;
        history = subst (λ l. AllRan entries ghosts.tells ghosts.files (set_of opened) opens.opened.term (joined logs) l after.slots.items) are.slots ran;
        drives = kept.drives;
        holders = kept.holds;
        term_kept = term_kept rig parts opened opens (views ghosts (disks_of stop)) kept.drives;
      }
