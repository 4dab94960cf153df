-- What a commit tells at its end.
use Rattle.std.proofs.Common.{◌≡◌, ◌≢◌, ◌∙◌, ℕ, List, Option, None, Some, Result, Err, ap, subst, sym, refl, inl, inr}
use Rattle.std.specs.Prelude.{MatchOption, ⊤}
use Rattle.call_types.specs.Refusals.{refusal_of}
use Rattle.call_types.specs.declared.act.Brief.TheVariants.{Answer}
use Rattle.call_types.specs.declared.refusal.KeyRefusal.{KeyRefusal}
use Rattle.call_types.specs.declared.reply.Reply.{Reply}
use Rattle.call_types.specs.declared.reply.Reply.TheVariants.{Refused as RefusedReply}
use Rattle.stamp_id.specs.declared.stamp.ChangeId.{ChangeId}
use Rattle.stamp_id.specs.declared.version.VersionId.{VersionId}
use Rattle.audit_trail.specs.Entries.{with_entry}
use Rattle.audit_trail.specs.declared.entry.Deed.TheVariants.{Done as DoneDeed, Refused as RefusedDeed, Kept as KeptDeed}
use Rattle.audit_trail.specs.declared.entry.Entry.{Entry}
use Rattle.register_core.specs.declared.faults.QuorumFault.{QuorumFault}
use Rattle.register_core.specs.declared.faults.QuorumFault.TheVariants.{ReadQuorum, WriteQuorum, Undecided, NoMemory as NoMemoryQuorum}
use Rattle.slot_rules.specs.Deeds.{call_of, name_of}
use Rattle.slot_rules.specs.declared.commit.Commit.{Commit}
use Rattle.slot_rules.specs.declared.commit.Committed.{Committed}
use Rattle.slot_rules.specs.declared.site.Drawn.{Drawn}
use Rattle.slot_rules.specs.declared.site.Site.{Site}
use Rattle.slot_rules.specs.declared.telling.Tale.{Tale}
use Rattle.slot_rules.specs.declared.telling.Told.{Told}
use Rattle.slot_core.specs.CommitOutcome.{IsTold, answer_of, answer_told, deed_told, entry_told}
use Rattle.slot_core.specs.CommitCauses.{deed_in}
use Rattle.slot_core.specs.Commits.{CommitDeed, QuorumDeed, SaysCommit}
use Rattle.slot_core.specs.PutEnds.{IsTwice, entry_from, fault_of}
use Rattle.slot_core.specs.AuditEntry.{WritesDown, kept_entry}
use Rattle.slot_core.specs.Settlement.{numbers_at}
use Rattle.slot_core.specs.Stubs.{AuditCounts, AuditHas, Says, StubOfEntry, Writes, entry_of}
use Rattle.slot_core.specs.declared.commit_write.Outcome.{Outcome}
use Rattle.slot_core.specs.declared.commit_write.Outcome.TheVariants.{Begun, Done, Kept, LacksMemory}
use Rattle.slot_core.specs.declared.slot.SlotFault.{SlotFault}
use Rattle.slot_core.specs.declared.slot.SlotFault.TheVariants.{Quorum, Key as KeyFault, SeqSpent, NotInFlight}
use Rattle.slot_core.specs.declared.stub.Stub.{Stub}

-- ---- stubs

-- a stub that was written down
pub written_stub : (site : Site) (drawn : Drawn) (entry : Entry) (fault : Option SlotFault) (stub : Option Stub) (made : Stub) → stub ≡ Some made
    → WritesDown site entry fault made → entry.ticket ≡ site.turns → Writes (numbers_at site drawn) fault stub
written_stub site drawn entry fault stub made some is ticket =
    (made, some, (entry, ticket, record { slot = is.slot; ticket = is.ticket; entry_is = is.entry_is; fault_is = is.fault_is }))

-- that of a deed that was done, or refused by the state of its key
pub done_stub : (site : Site) (drawn : Drawn) (tale : Tale) (entry : Entry) (answer : Result Committed SlotFault) (stub : Option Stub) (made : Stub) (o : Option KeyRefusal)
    → answer ≡ answer_of tale o → stub ≡ Some made → WritesDown site entry (fault_of o) made → entry.ticket ≡ site.turns
    → StubOfEntry (numbers_at site drawn) answer stub
done_stub site drawn tale entry answer stub made None told some is ticket =
    subst (λ (a : Result Committed SlotFault). StubOfEntry (numbers_at site drawn) a stub) (sym told) (written_stub site drawn entry None stub made some is ticket)
done_stub site drawn tale entry answer stub made (Some why) told some is ticket =
    subst (λ (a : Result Committed SlotFault). StubOfEntry (numbers_at site drawn) a stub) (sym told) (written_stub site drawn entry (Some (KeyFault why)) stub made some is ticket)

-- that of a refusal by the register
pub quorum_stub : (site : Site) (drawn : Drawn) (fault : QuorumFault) (entry : Entry) (answer : Result Committed SlotFault) (stub : Option Stub) (made : Stub)
    → answer ≡ Err (Quorum fault) → stub ≡ Some made → WritesDown site entry (Some (Quorum fault)) made → entry.ticket ≡ site.turns
    → StubOfEntry (numbers_at site drawn) answer stub
quorum_stub site drawn fault entry answer stub made told some is ticket =
    subst (λ (a : Result Committed SlotFault). StubOfEntry (numbers_at site drawn) a stub) (sym told) (written_stub site drawn entry (Some (Quorum fault)) stub made some is ticket)

-- that of a put that isn't in flight
pub missing_stub : (site : Site) (drawn : Drawn) (id : VersionId) (entry : Entry) (answer : Result Committed SlotFault) (stub : Option Stub) (made : Stub)
    → answer ≡ Err (NotInFlight id) → stub ≡ Some made → WritesDown site entry (Some (NotInFlight id)) made → entry.ticket ≡ site.turns
    → StubOfEntry (numbers_at site drawn) answer stub
missing_stub site drawn id entry answer stub made told some is ticket =
    subst (λ (a : Result Committed SlotFault). StubOfEntry (numbers_at site drawn) a stub) (sym told) (written_stub site drawn entry (Some (NotInFlight id)) stub made some is ticket)

-- the entry of a stub that was written down
pub written_entry_of : (site : Site) (entry : Entry) (fault : Option SlotFault) (stub : Option Stub) (made : Stub) → stub ≡ Some made → WritesDown site entry fault made
    → entry_of stub ≡ Some entry
written_entry_of site entry fault stub made some is = ap entry_of some ∙ is.entry_is

-- what the audit has of it
pub audit_has : (stub : Option Stub) (entry : Entry) (old new : Option (List Entry)) → entry_of stub ≡ Some entry → new ≡ with_entry old entry → AuditHas stub old new
audit_has stub entry old new is added = subst (λ (e : Option Entry). MatchOption e (new ≡ old) (λ x. new ≡ with_entry old x)) (sym is) added

-- ---- outcomes

-- the entry of an outcome
pub entry_is : (ticket : ℕ) (name : List ℕ) (entry : Entry) (outcome : Outcome) → entry ≡ kept_entry ticket name None → entry_from entry outcome ≡ entry_told ticket name outcome
entry_is ticket name entry (Done tale late) is = ap (λ (e : Entry). entry_from e (Done tale late)) is
entry_is ticket name entry (Begun tale change late fault) is = ap (λ (e : Entry). entry_from e (Begun tale change late fault)) is
entry_is ticket name entry (Kept fault) is = ap (λ (e : Entry). entry_from e (Kept fault)) is
entry_is ticket name entry LacksMemory is = refl

-- what it says that was done of its own
pub told_deed : (ticket : ℕ) (name : List ℕ) (outcome : Outcome) → deed_in (entry_told ticket name outcome) ≡ deed_told outcome
told_deed ticket name (Done tale late) = refl
told_deed ticket name (Begun tale change late fault) = refl
told_deed ticket name (Kept fault) = refl
told_deed ticket name LacksMemory = refl

-- its tale in both copies
pub told_twice : (deed : Commit) (now : ℕ) (outcome : Outcome) → IsTold deed now outcome → IsTwice outcome
told_twice deed now (Done tale late) told = told.1.stub
told_twice deed now (Begun tale change late fault) told = told.0.stub
told_twice deed now (Kept fault) told = tt
told_twice deed now LacksMemory told = tt

-- a refusal of a look says that nothing was done
kept_says : (deed : Commit) (now : ℕ) (fault : QuorumFault) → fault ≢ NoMemoryQuorum → QuorumDeed deed now fault KeptDeed
kept_says deed now (ReadQuorum whys) other = refl
kept_says deed now (WriteQuorum whys) other = inl refl
kept_says deed now (Undecided k u whys) other = refl
kept_says deed now NoMemoryQuorum other = absurd (other refl)

-- a deed that was done says so
done_says : (deed : Commit) (now : ℕ) (tale : Tale) (change : Option ChangeId) (o : Option KeyRefusal)
    → tale.audit ≡ record { call = call_of deed change now; reply = Answer tale.reply }
    → MatchOption o ⊤ (λ why. (change ≡ None) × (tale.reply ≡ RefusedReply (refusal_of why)))
    → CommitDeed deed now (answer_of tale o) (DoneDeed tale.audit.call tale.audit.reply)
done_says deed now tale change None told none = (change, ap (λ (t : Told). DoneDeed t.call t.reply) told)
done_says deed now tale change (Some why) told refused =
    ap (λ (t : Told). DoneDeed t.call t.reply) told
    ∙ (ap (λ (x : Option ChangeId). DoneDeed (call_of deed x now) (Answer tale.reply)) refused.0 ∙ ap (λ (r : Reply). DoneDeed (call_of deed None now) (Answer r)) refused.1)

-- what the entry of an outcome says
told_says : (deed : Commit) (now ticket : ℕ) (outcome : Outcome) → IsTold deed now outcome
    → MatchOption (entry_told ticket (name_of deed) outcome) (Unit {0}) (SaysCommit deed now (answer_told outcome))
told_says deed now ticket (Done tale late) told = record { name_is = refl; deed_is = done_says deed now tale told.0 tale.refused told.1.audit told.2 }
told_says deed now ticket (Begun tale change late fault) told = record {
  name_is = refl;
  deed_is = subst (λ (f : QuorumFault). QuorumDeed deed now f (RefusedDeed change tale.audit.call)) (sym told.1.1)
      (inr (change, ap (λ (t : Told). RefusedDeed change t.call) told.0.audit));
}
told_says deed now ticket (Kept fault) told = record { name_is = refl; deed_is = kept_says deed now fault told }
told_says deed now ticket LacksMemory told = tt

pub outcome_says : (deed : Commit) (now ticket : ℕ) (outcome : Outcome) (answer : Result Committed SlotFault) (stub : Option Stub) → answer ≡ answer_told outcome
    → entry_of stub ≡ entry_told ticket (name_of deed) outcome → IsTold deed now outcome → Says stub (SaysCommit deed now answer)
outcome_says deed now ticket outcome answer stub answered entered told =
    subst (λ (e : Option Entry). MatchOption e (Unit {0}) (SaysCommit deed now answer)) (sym entered)
    (subst (λ (a : Result Committed SlotFault). MatchOption (entry_told ticket (name_of deed) outcome) (Unit {0}) (SaysCommit deed now a)) (sym answered)
    (told_says deed now ticket outcome told))

-- what its answer is not
pub never_missing : (outcome : Outcome) (answer : Result Committed SlotFault) (id : VersionId) → answer ≡ answer_told outcome → answer ≡ Err (NotInFlight id) → ⊥
never_missing outcome answer id answered is = by outcome (sym answered ∙ is)
  where
    of_tale : (tale : Tale) (o : Option KeyRefusal) → answer_of tale o ≡ Err (NotInFlight id) → ⊥
    of_tale tale None same = absurd cc
    of_tale tale (Some why) same = absurd cc

    by : (o : Outcome) → answer_told o ≡ Err (NotInFlight id) → ⊥
    by (Done tale late) same = of_tale tale tale.refused same
    by (Begun tale change late fault) same = absurd cc
    by (Kept fault) same = absurd cc
    by LacksMemory same = absurd cc

pub never_spent : (outcome : Outcome) (answer : Result Committed SlotFault) → answer ≡ answer_told outcome → answer ≢ Err SeqSpent
never_spent outcome answer answered is = by outcome (sym answered ∙ is)
  where
    of_tale : (tale : Tale) (o : Option KeyRefusal) → answer_of tale o ≡ Err SeqSpent → ⊥
    of_tale tale None same = absurd cc
    of_tale tale (Some why) same = absurd cc

    by : (o : Outcome) → answer_told o ≡ Err SeqSpent → ⊥
    by (Done tale late) same = of_tale tale tale.refused same
    by (Begun tale change late fault) same = absurd cc
    by (Kept fault) same = absurd cc
    by LacksMemory same = absurd cc

-- the faults of the audit stay
pub outcome_counts : (outcome : Outcome) (answer : Result Committed SlotFault) (old new : ℕ) → answer ≡ answer_told outcome → new ≡ old → AuditCounts answer old new
outcome_counts outcome answer old new answered same = subst (λ (a : Result Committed SlotFault). AuditCounts a old new) (sym answered) (by outcome)
  where
    of_tale : (tale : Tale) (o : Option KeyRefusal) → AuditCounts (answer_of tale o) old new
    of_tale tale None = same
    of_tale tale (Some why) = same

    by : (o : Outcome) → AuditCounts (answer_told o) old new
    by (Done tale late) = of_tale tale tale.refused
    by (Begun tale change late fault) = same
    by (Kept fault) = same
    by LacksMemory = same
