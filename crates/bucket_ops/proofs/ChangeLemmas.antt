-- What is owed to a call that changes a bucket, after its commit.
use Rattle.std.proofs.Common.{◌≡◌, ◌⊎◌, ◌∙◌, ℕ, Bool, List, [], ◌∷◌, ◌++◌, Option, Some, None, Result, Ok, Err, MatchOption, option_and_then, inl, inr, refl, sym, ap, subst}
use Rattle.audit_trail.specs.declared.entry.Deed.{Deed}
use Rattle.audit_trail.specs.declared.entry.Deed.TheVariants.{Done, Kept, Refused as RefusedDeed}
use Rattle.audit_trail.specs.declared.entry.Entry.{Entry}
use Rattle.bucket_book.specs.Laws.{ContentIsInjective}
use Rattle.bucket_book.specs.declared.step.BucketAct.{BucketAct}
use Rattle.call_types.specs.Refusals.{refusal_of}
use Rattle.call_types.specs.declared.act.Brief.{Brief}
use Rattle.call_types.specs.declared.act.Brief.TheVariants.{Answer}
use Rattle.call_types.specs.declared.refusal.Refusal.{Refusal}
use Rattle.call_types.specs.declared.refusal.Refusal.TheVariants as refused
use Rattle.call_types.specs.declared.reply.Reply.{Reply}
use Rattle.call_types.specs.declared.reply.Reply.TheVariants as told
use Rattle.call_types.specs.declared.why.Why.{Why}
use Rattle.drive_base.specs.declared.drive.Drive.{Ghosts}
use Rattle.drive_base.specs.Files.{Files}
use Rattle.register_core.specs.declared.faults.QuorumFault.{QuorumFault}
use Rattle.register_core.specs.declared.faults.QuorumFault.TheVariants.{NoMemory as NoMemoryQuorum, ReadQuorum, Undecided, WriteQuorum}
use Rattle.stamp_id.specs.declared.stamp.ChangeId.{ChangeId}
use Rattle.stamp_id.specs.declared.version.VersionId.{VersionId}
use Rattle.slot_rules.specs.Deeds.{call_of, name_of}
use Rattle.slot_rules.specs.Planning.{IsBucketDeed}
use Rattle.slot_rules.specs.declared.commit.Commit.{Commit}
use Rattle.slot_rules.specs.declared.commit.Committed.{Committed}
use Rattle.slot_core.specs.CommitCauses.{CommitCause, FoundSo, WroteSo, deed_in, own_deed}
use Rattle.slot_core.specs.Commits.{SaysCommit}
use Rattle.slot_core.specs.Stubs.{IsStub, Says, StubOfEntry, Writes, WritesNone, entry_of}
use Rattle.slot_core.specs.Views.{SlotNumbers}
use Rattle.slot_core.specs.declared.slot.SlotFault.{SlotFault}
use Rattle.slot_core.specs.declared.slot.SlotFault.TheVariants.{AuditFailed, Key, NoMemory, NotInFlight, Quorum, SeqSpent}
use Rattle.slot_core.specs.declared.stub.Stub.{Stub}
use Rattle.receipts.specs.Bucketing.{BucketActOwes, bucket_target}
use Rattle.receipts.specs.Committing.{MakesChange, RefusesChange}
use Rattle.receipts.specs.Events.{Log, sections_of}
use Rattle.receipts.specs.Events.Event.{Turned}
use Rattle.receipts.specs.Events.Shown.{NoneShown}
use Rattle.receipts.specs.Looks.{HasEntry, IsOfSection, TellsRefusal}
use Rattle.receipts.specs.Registers.{bucket_register, bucket_slot}
use Rattle.receipts.proofs.JoinLemmas.{sections_join}
use Rattle.op_steps.specs.Notes.{note_of, noted, refusal_by}
use Rattle.bucket_ops.specs.Changes.{AfterCommit}
use Rattle.bucket_ops.specs.declared.change_state.ChangeState.{ChangeState}
use Rattle.bucket_ops.specs.declared.change_state.ChangeState.TheVariants.{Committing, Over, Reading, Telling}
use Rattle.bucket_ops.proofs.DueLemmas.{act_due, found_due, wrote_due}

-- the reply that a call is about to tell, and whether it is over
abbrev reply_in : ChangeState → Reply
reply_in Reading = told.Plain
reply_in (Committing deed) = told.Plain
reply_in (Telling reply) = reply
reply_in (Over cut) = told.Plain

abbrev is_over : ChangeState → Type 0
is_over Reading = ⊥
is_over (Committing deed) = ⊥
is_over (Telling reply) = ⊥
is_over (Over cut) = Unit {0}

-- a log with the one section of a commit more
abbrev pub with_turn : Log → ℕ → Option Stub → Log
with_turn before k stub = before ++ Turned k (noted stub) NoneShown ∷ []

-- what an op knows of the section that commits its deed
pub record Commits (numbers : SlotNumbers) (bucket : List ℕ) (deed : Commit) (now : ℕ) (answer : Result Committed SlotFault) (stub : Option Stub) : Type 0 where
  pub index : numbers.index ≡ bucket_slot bucket
  pub named : name_of deed ≡ bucket_register bucket
  pub stub_is : StubOfEntry numbers answer stub
  pub says : Says stub (SaysCommit deed now answer)

-- the entry of a stub that has one
entry_said : (numbers : SlotNumbers) (bucket : List ℕ) (deed : Commit) (now : ℕ) (answer : Result Committed SlotFault) (stub : Option Stub) (made : Stub) (entry : Entry)
    (fault : Option SlotFault) → Commits numbers bucket deed now answer stub → stub ≡ Some made → IsStub numbers (Some entry) fault made → SaysCommit deed now answer entry
entry_said numbers bucket deed now answer stub made entry fault x some is =
    let saying : Says (Some made) (SaysCommit deed now answer) = subst (λ s. Says s (SaysCommit deed now answer)) some x.says in
    subst (λ e. MatchOption e (Unit {0}) (SaysCommit deed now answer)) is.entry_is saying

has_entry : (numbers : SlotNumbers) (bucket : List ℕ) (deed : Commit) (now : ℕ) (answer : Result Committed SlotFault) (stub : Option Stub) (made : Stub) (entry : Entry)
    (fault : Option SlotFault) (done : Deed) → Commits numbers bucket deed now answer stub → stub ≡ Some made → entry.ticket ≡ numbers.turns
    → IsStub numbers (Some entry) fault made → entry.deed ≡ done → HasEntry (bucket_slot bucket) (bucket_register bucket) done (note_of made)
has_entry numbers bucket deed now answer stub made entry fault done x some ticket is told_so = record {
  slot_is = is.slot ∙ x.index;
  entry = entry;
  entry_is = is.entry_is;
  ticket_is = ticket ∙ sym is.ticket;
  name_is = (entry_said numbers bucket deed now answer stub made entry fault x some is).name_is ∙ x.named;
  deed_is = told_so;
}

-- what it says that was done
entered_is : (numbers : SlotNumbers) (stub : Option Stub) (made : Stub) (entry : Entry) (fault : Option SlotFault) → stub ≡ Some made
    → IsStub numbers (Some entry) fault made → deed_in (entry_of stub) ≡ entry.deed
entered_is numbers stub made entry fault some is = ap deed_in (ap entry_of some ∙ is.entry_is)

-- the one section of the log
one_section : (before : Log) (k : ℕ) (stub : Option Stub) (made : Stub) → sections_of before ≡ [] → stub ≡ Some made
    → sections_of (with_turn before k stub) ≡ record { note = note_of made; shown = NoneShown } ∷ []
one_section before k stub made none some =
    subst (λ s. sections_of (with_turn before k s) ≡ record { note = note_of made; shown = NoneShown } ∷ []) (sym some)
    (sections_join before (Turned k (Some (note_of made)) NoneShown ∷ []) ∙ ap (λ l. l ++ record { note = note_of made; shown = NoneShown } ∷ []) none)

ends_so : (bucket : List ℕ) (call : Option ChangeId → Brief) (reply : Reply) (before : Log) (k : ℕ) (stub : Option Stub) (made : Stub) → sections_of before ≡ []
    → stub ≡ Some made → MakesChange (bucket_target bucket call) (note_of made) reply ⊎ RefusesChange (bucket_target bucket call) (note_of made) reply
    → BucketActOwes bucket call reply (with_turn before k stub)
ends_so bucket call reply before k stub made none some ends = inl (record {
  own = record { note = note_of made; shown = NoneShown };
  sections = one_section before k stub made none some;
  ends = ends;
})

-- a refusal of a section is told
refusal_told : (numbers : SlotNumbers) (bucket : List ℕ) (entry : Option Entry) (fault : SlotFault) (made : Stub) (why : Refusal) → numbers.index ≡ bucket_slot bucket
    → IsStub numbers entry (Some fault) made → refusal_by fault ≡ Some why → IsOfSection why → TellsRefusal (bucket_slot bucket) (note_of made) (told.Refused why)
refusal_told numbers bucket entry fault made why index is by of = record {
  slot_is = is.slot ∙ index;
  why = why;
  of_section = of;
  refused = ap (option_and_then refusal_by) is.fault_is ∙ by;
  told = refl;
}

module _ {D : Type 0} (ghosts : Ghosts D) (one : ContentIsInjective) (numbers later : SlotNumbers) (bucket : List ℕ) (deed : Commit)
    (done : BucketAct) (now : ℕ) (before : Log) (stub : Option Stub) (old new disks disks_after : List D) (kind : IsBucketDeed deed done) (none : sections_of before ≡ []) where
  abbrev call : Option ChangeId → Brief
  call change = call_of deed change now

  -- the reply of an entry that says what was done
  found_owes : (answer : Result Committed SlotFault) (fault : Option SlotFault) (reply : Reply) → Commits numbers bucket deed now answer stub → Writes numbers fault stub
      → FoundSo ghosts numbers later deed None now reply (deed_in (entry_of stub)) old new disks disks_after
      → BucketActOwes bucket call reply (with_turn before numbers.index stub)
  found_owes answer fault reply x w found = ends_so bucket call reply before numbers.index stub w.0 none w.1 (inl (record {
    change = None;
    call = call None;
    is_call = refl;
    entry = has_entry numbers bucket deed now answer stub w.0 w.2.0 fault (Done (call None) (Answer reply)) x w.1 w.2.1 w.2.2
        (sym (entered_is numbers stub w.0 w.2.0 fault w.1 w.2.2) ∙ found.deed_is);
    due = act_due deed done None now reply kind
        (found_due {D = D} ghosts one numbers later deed done None now reply (deed_in (entry_of stub)) old new disks disks_after kind found);
  }))

  wrote_owes : (answer : Result Committed SlotFault) (fault : Option SlotFault) (reply : Reply) (result : Result (List Why) QuorumFault)
      → Commits numbers bucket deed now answer stub → Writes numbers fault stub
      → (x : WroteSo ghosts numbers later deed None now reply result (deed_in (entry_of stub)) old new disks disks_after)
      → own_deed deed now x.own.change reply result ≡ Done (call (Some x.own.change)) (Answer reply)
      → BucketActOwes bucket call reply (with_turn before numbers.index stub)
  wrote_owes answer fault reply result x w wrote is = ends_so bucket call reply before numbers.index stub w.0 none w.1 (inl (record {
    change = Some wrote.own.change;
    call = call (Some wrote.own.change);
    is_call = refl;
    entry = has_entry numbers bucket deed now answer stub w.0 w.2.0 fault (Done (call (Some wrote.own.change)) (Answer reply)) x w.1 w.2.1 w.2.2
        (sym (entered_is numbers stub w.0 w.2.0 fault w.1 w.2.2) ∙ (wrote.deed_is ∙ is));
    due = act_due deed done (Some wrote.own.change) now reply kind
        (wrote_due {D = D} ghosts numbers later deed done None now reply result (deed_in (entry_of stub)) old new disks disks_after kind wrote);
  }))

  -- a refusal after which nothing was done, or a change was begun
  idle_owes : (answer : Result Committed SlotFault) (fault : SlotFault) (why : Refusal) → Commits numbers bucket deed now answer stub → Writes numbers (Some fault) stub
      → refusal_by fault ≡ Some why → IsOfSection why → deed_in (entry_of stub) ≡ Kept
      → BucketActOwes bucket call (told.Refused why) (with_turn before numbers.index stub)
  idle_owes answer fault why x w by of kept = ends_so bucket call (told.Refused why) before numbers.index stub w.0 none w.1 (inr (record {
    refuses = refusal_told numbers bucket (Some w.2.0) fault w.0 why x.index w.2.2 by of;
    deed = inl (inr (has_entry numbers bucket deed now answer stub w.0 w.2.0 (Some fault) Kept x w.1 w.2.1 w.2.2
        (sym (entered_is numbers stub w.0 w.2.0 (Some fault) w.1 w.2.2) ∙ kept)));
  }))

  begun_owes : (answer : Result Committed SlotFault) (fault : SlotFault) (why : Refusal) (change : ChangeId) → Commits numbers bucket deed now answer stub
      → Writes numbers (Some fault) stub → refusal_by fault ≡ Some why → IsOfSection why → deed_in (entry_of stub) ≡ RefusedDeed change (call (Some change))
      → BucketActOwes bucket call (told.Refused why) (with_turn before numbers.index stub)
  begun_owes answer fault why change x w by of begun = ends_so bucket call (told.Refused why) before numbers.index stub w.0 none w.1 (inr (record {
    refuses = refusal_told numbers bucket (Some w.2.0) fault w.0 why x.index w.2.2 by of;
    deed = inr (record {
      change = change;
      call = call (Some change);
      is_call = refl;
      entry = has_entry numbers bucket deed now answer stub w.0 w.2.0 (Some fault) (RefusedDeed change (call (Some change))) x w.1 w.2.1 w.2.2
          (sym (entered_is numbers stub w.0 w.2.0 (Some fault) w.1 w.2.2) ∙ begun);
    });
  }))

  bare_owes : (answer : Result Committed SlotFault) (fault : SlotFault) (why : Refusal) → Commits numbers bucket deed now answer stub → WritesNone numbers fault stub
      → refusal_by fault ≡ Some why → IsOfSection why → BucketActOwes bucket call (told.Refused why) (with_turn before numbers.index stub)
  bare_owes answer fault why x w by of = ends_so bucket call (told.Refused why) before numbers.index stub w.0 none w.1 (inr (record {
    refuses = refusal_told numbers bucket None fault w.0 why x.index w.2 by of;
    deed = inl (inl w.2.entry_is);
  }))

  quorum_owes : (fault : QuorumFault) (why : Refusal) → Commits numbers bucket deed now (Err (Quorum fault)) stub
      → refusal_by (Quorum fault) ≡ Some why → IsOfSection why
      → CommitCause ghosts numbers later deed None now (Err (Quorum fault)) (deed_in (entry_of stub)) old new disks disks_after
      → BucketActOwes bucket call (told.Refused why) (with_turn before numbers.index stub)
  quorum_owes fault why x by of cause = elim cause.1 [
    | inl looked ↦ idle_owes (Err (Quorum fault)) (Quorum fault) why x x.stub_is by of looked.deed_is
    | inr wrote ↦ begun_owes (Err (Quorum fault)) (Quorum fault) why wrote.1.own.change x x.stub_is by of wrote.1.deed_is
  ]

  -- a put that isn't listed is refused, and nothing is done
  missing_kept : (id : VersionId) → Commits numbers bucket deed now (Err (NotInFlight id)) stub → Writes numbers (Some (NotInFlight id)) stub
      → deed_in (entry_of stub) ≡ Kept
  missing_kept id x w = entered_is numbers stub w.0 w.2.0 (Some (NotInFlight id)) w.1 w.2.2
      ∙ (entry_said numbers bucket deed now (Err (NotInFlight id)) stub w.0 w.2.0 (Some (NotInFlight id)) x w.1 w.2.2).deed_is

  -- the reply or the refusal that an answer has is owed
  pub commit_owes : (answer : Result Committed SlotFault) (reply : Reply) → Commits numbers bucket deed now answer stub
      → CommitCause ghosts numbers later deed None now answer (deed_in (entry_of stub)) old new disks disks_after → AfterCommit answer (Telling reply)
      → BucketActOwes bucket call reply (with_turn before numbers.index stub)
  commit_owes (Ok made) reply x cause after =
      subst (λ r. BucketActOwes bucket call r (with_turn before numbers.index stub)) (sym (ap reply_in after)) (elim cause [
        | inl found ↦ found_owes (Ok made) None made.done x x.stub_is found
        | inr wrote ↦ wrote_owes (Ok made) None made.done (Ok wrote.0) x x.stub_is wrote.1 refl
      ])
  commit_owes (Err (Key why)) reply x cause after =
      subst (λ r. BucketActOwes bucket call r (with_turn before numbers.index stub)) (sym (ap reply_in after))
      (found_owes (Err (Key why)) (Some (Key why)) (told.Refused (refusal_of why)) x x.stub_is cause)
  commit_owes (Err (Quorum (ReadQuorum whys))) reply x cause after =
      subst (λ r. BucketActOwes bucket call r (with_turn before numbers.index stub)) (sym (ap reply_in after))
      (quorum_owes (ReadQuorum whys) (refused.ReadQuorum whys) x refl tt cause)
  commit_owes (Err (Quorum (WriteQuorum whys))) reply x cause after =
      subst (λ r. BucketActOwes bucket call r (with_turn before numbers.index stub)) (sym (ap reply_in after))
      (quorum_owes (WriteQuorum whys) (refused.WriteQuorum whys) x refl tt cause)
  commit_owes (Err (Quorum (Undecided k u whys))) reply x cause after =
      subst (λ r. BucketActOwes bucket call r (with_turn before numbers.index stub)) (sym (ap reply_in after))
      (quorum_owes (Undecided k u whys) (refused.Undecided k u whys) x refl tt cause)
  commit_owes (Err (Quorum NoMemoryQuorum)) reply x cause after = absurd (cause.0 refl)
  commit_owes (Err SeqSpent) reply x cause after =
      subst (λ r. BucketActOwes bucket call r (with_turn before numbers.index stub)) (sym (ap reply_in after))
      (bare_owes (Err SeqSpent) SeqSpent refused.SeqSpent x x.stub_is refl tt)
  commit_owes (Err (AuditFailed b a)) reply x cause after =
      subst (λ r. BucketActOwes bucket call r (with_turn before numbers.index stub)) (sym (ap reply_in after))
      (bare_owes (Err (AuditFailed b a)) (AuditFailed b a) (refused.AuditFailed b a) x x.stub_is refl tt)
  commit_owes (Err NoMemory) reply x cause after = absurd (subst is_over (sym after) tt)
  commit_owes (Err (NotInFlight id)) reply x cause after =
      subst (λ r. BucketActOwes bucket call r (with_turn before numbers.index stub)) (sym (ap reply_in after))
      (idle_owes (Err (NotInFlight id)) (NotInFlight id) (refused.NotInFlight id) x x.stub_is refl tt (missing_kept id x x.stub_is))
