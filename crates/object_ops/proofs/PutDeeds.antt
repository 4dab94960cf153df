-- How a call ends that commits a put, by what the put is of, and what is owed of it then.
use Rattle.std.proofs.Common.{◌≡◌, ◌⊎◌, ◌∙◌, ℕ, Bool, List, [], ◌∷◌, ◌++◌, append-nil, length, Option, Some, None, Ok, Err, inl, inr, refl, sym, ap, ap₂, subst}
use Rattle.body_print.specs.Prints.{HasPrint}
use Rattle.call_types.specs.declared.act.Act.{Act}
use Rattle.call_types.specs.declared.act.Act.TheVariants as act
use Rattle.call_types.specs.declared.names.Key.{Key}
use Rattle.call_types.specs.declared.names.Mode.{Mode}
use Rattle.call_types.specs.declared.refusal.Refusal.{Refusal}
use Rattle.call_types.specs.declared.reply.Reply.{Reply}
use Rattle.call_types.specs.declared.reply.Reply.TheVariants.{Refused}
use Rattle.drive_base.specs.declared.drive.Drive.{Ghosts}
use Rattle.drive_base.specs.Files.{Files}
use Rattle.drive_base.specs.declared.plan.SetPlan.{SetPlan}
use Rattle.md5.specs.Md5.{md5}
use Rattle.put_stage.specs.declared.answers.Staged.{Staged}
use Rattle.receipts.specs.Committing.{KeyIsCommitted}
use Rattle.receipts.specs.Events.{Log, Note, body_of}
use Rattle.receipts.specs.Events.Event.{Turned}
use Rattle.receipts.specs.Events.Shown.{NoneShown}
use Rattle.receipts.specs.Putting.{IsAgreed, PutIsCommitted, PutsBody}
use Rattle.receipts.specs.Registers.{key_slot}
use Rattle.receipts.specs.Staging.{IsStaged}
use Rattle.receipts.proofs.JoinLemmas.{bodies_join}
use Rattle.slot_core.specs.CommitCauses.{CommitCause, deed_in}
use Rattle.slot_core.specs.Commits.{SaysCommit}
use Rattle.slot_core.specs.Stubs.{Says, StubOfEntry, entry_of}
use Rattle.slot_core.specs.Views.{SlotNumbers}
use Rattle.slot_core.specs.declared.slot.SlotFault.{SlotFault}
use Rattle.slot_core.specs.declared.slot.SlotFault.TheVariants.{NoMemory}
use Rattle.slot_core.specs.declared.stub.Stub.{Stub}
use Rattle.slot_rules.specs.declared.commit.Committed.{Committed}
use Rattle.stamp_id.specs.declared.version.VersionId.{VersionId}
use Rattle.op_steps.specs.Notes.{note_of, refusal_by}
use Rattle.object_ops.specs.PutStands.{HasLookedAt}
use Rattle.object_ops.specs.PutTarget.{deed_of, key_of, put_of, register_of}
use Rattle.object_ops.specs.declared.put_target.PutTarget.{PutTarget}
use Rattle.object_ops.specs.declared.put_target.PutTarget.TheVariants.{Object}
use Rattle.object_ops.proofs.DueLemmas.{done_so, refused_so}
use Rattle.object_ops.proofs.KeyCommitLemmas.{EndsSo, changes_so, ends_so, refused_commit}

-- what is done to a key, said of acts of a kind
kind_of_end : (at : Key) (mode : Mode) (now : ℕ) (done : Act) (IsAct : Act → Type 0) (note : Note) (reply : Reply) → IsAct done
    → EndsSo at mode now (λ x. x ≡ done) note reply → EndsSo at mode now IsAct note reply
kind_of_end at mode now done IsAct note reply is (inl x) = inl (record {
  change = x.change;
  call = x.call;
  is_call = (x.is_call.0, subst IsAct (sym x.is_call.1) is, x.is_call.2);
  entry = x.entry;
  due = x.due;
})
kind_of_end at mode now done IsAct note reply is (inr x) = inr (record {
  refuses = x.refuses;
  deed = elim x.deed [
    | inl idle ↦ inl idle
    | inr begun ↦ inr (record {
      change = begun.change;
      call = begun.call;
      is_call = (begun.is_call.0, subst IsAct (sym begun.is_call.1) is, begun.is_call.2);
      entry = begun.entry;
    })
  ];
})

abbrev pub turned : ℕ → Option Note → Log → Log
turned k note log = log ++ Turned k note NoneShown ∷ []

pub same_body : (log : Log) (k : ℕ) (note : Option Note) → body_of (turned k note log) ≡ body_of log
same_body log k note = bodies_join log (Turned k note NoneShown ∷ []) ∙ append-nil (body_of log)

-- ---- how its call can end at the section that commits it

abbrev pub act_of : List ℕ → VersionId → Staged → Act
act_of kind id staged = act.Put id staged.print staged.length staged.etag kind

abbrev pub EndsPut : PutTarget → Mode → VersionId → Staged → ℕ → Note → Reply → Type 0
EndsPut (Object at kind) mode id staged now note reply = EndsSo at mode now (λ done. done ≡ act_of kind id staged) note reply

-- where it is refused: want of memory alone is told nothing, and leaves no note
abbrev pub RefusedPut : PutTarget → Mode → VersionId → Staged → ℕ → SlotFault → Option Stub → Type 0
RefusedPut target mode id staged now fault stub = ((fault ≡ NoMemory) × (stub ≡ None))
    ⊎ ((made : Stub) × (stub ≡ Some made)
    × ((why : Refusal) × (refusal_by fault ≡ Some why) × EndsPut target mode id staged now (note_of made) (Refused why)))

module _ {D : Type 0} (ghosts : Ghosts D) (mode : Mode) (id : VersionId) (staged : Staged) (now : ℕ) (numbers later : SlotNumbers)
    (put : Option VersionId) (stub : Option Stub) (old new disks disks_after : List D) where
  -- a commit that was done
  pub done_ends : (target : PutTarget) (made : Committed) → numbers.index ≡ key_slot (key_of target) → (x : StubOfEntry numbers (Ok made) stub)
      → Says stub (SaysCommit (deed_of target mode id staged) now (Ok made))
      → CommitCause ghosts numbers later (deed_of target mode id staged) put now (Ok made) (deed_in (entry_of stub)) old new disks disks_after
      → EndsPut target mode id staged now (note_of x.0) made.done
  done_ends (Object at kind) made own x says cause =
      inl (changes_so at mode (act_of kind id staged) now numbers own made.done (Ok made) None stub x says
      (done_so ghosts numbers later at mode (act_of kind id staged) put now made (deed_in (entry_of stub)) old new disks disks_after cause))

  -- and one that was refused
  pub refused_ends : (target : PutTarget) (fault : SlotFault) → numbers.index ≡ key_slot (key_of target) → StubOfEntry {T = Committed} numbers (Err fault) stub
      → Says stub (SaysCommit (deed_of target mode id staged) now (Err fault))
      → CommitCause ghosts numbers later (deed_of target mode id staged) put now (Err fault) (deed_in (entry_of stub)) old new disks disks_after
      → RefusedPut target mode id staged now fault stub
  refused_ends (Object at kind) fault own x says cause =
      refused_commit at mode (act_of kind id staged) now numbers own fault stub x says (λ why is.
      refused_so ghosts numbers later at mode (act_of kind id staged) put now why (deed_in (entry_of stub)) old new disks disks_after
      (subst (λ (f : SlotFault). CommitCause ghosts numbers later (deed_of (Object at kind) mode id staged) put now (Err f) (deed_in (entry_of stub)) old new
      disks disks_after) is cause))

-- ---- what is owed then

-- its body was staged before that section
pub record HasStaged (set : SetPlan) (target : PutTarget) (stated : Option (List ℕ)) (mode : Mode) (id : VersionId) (staged : Staged) (log : Log) : Type 0 where
  pub agreed : IsAgreed stated (body_of log)
  pub of_slot : id.slot ≡ key_slot (key_of target)
  pub looked : HasLookedAt (key_of target).bucket mode log
  pub body_staged : IsStaged set (register_of target) id (body_of log) log
  pub printed : HasPrint set.drives set.parity (body_of log) staged.print
  pub long : staged.length ≡ length (body_of log)
  pub tag : staged.etag ≡ md5 (body_of log)

pub puts_so : (target : PutTarget) (set : SetPlan) (stated : Option (List ℕ)) (mode : Mode) (id : VersionId) (staged : Staged) (log : Log) (now : ℕ) (reply : Reply)
    (k : ℕ) (made : Stub) → k ≡ key_slot (key_of target) → HasStaged set target stated mode id staged log → EndsPut target mode id staged now (note_of made) reply
    → PutIsCommitted set (put_of target set now) stated reply (turned k (Some (note_of made)) log)
puts_so (Object at kind) set stated mode id staged log now reply k made own s ends =
    let later = turned k (Some (note_of made)) log in
    let body = same_body log k (Some (note_of made)) in
    let of_kind = kind_of_end at mode now (act_of kind id staged) (PutsBody set kind (body_of log) id) (note_of made) reply (record {
      print = staged.print;
      is = ap₂ (λ (n : ℕ) (tag : List ℕ). act.Put id staged.print n tag kind) s.long s.tag;
      printed = s.printed;
    }) ends in
    record {
      agreed = subst (λ (b : List ℕ). IsAgreed stated b) (sym body) s.agreed;
      id = id;
      of_slot = s.of_slot;
      front = log;
      own = note_of made;
      shown = NoneShown;
      rest = [];
      parts = ap (λ (n : ℕ). turned n (Some (note_of made)) log) own;
      looked = record { look = s.looked.look; sections = s.looked.sections; mode = mode; finds = s.looked.finds };
      staged = subst (λ (b : List ℕ). IsStaged set (register_of (Object at kind)) id b log) (sym body) s.body_staged;
      commit = subst (λ (b : List ℕ). KeyIsCommitted at now (PutsBody set kind b id) reply later) (sym body)
          (ends_so at mode now (PutsBody set kind (body_of log) id) reply log k made s.looked of_kind);
    }
