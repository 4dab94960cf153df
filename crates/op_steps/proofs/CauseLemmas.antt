-- The account of a section's refusal, by the clauses of the section.
use Rattle.std.proofs.Common.{◌≡◌, ◌⊎◌, ◌∙◌, ℕ, List, [], Option, Some, None, Result, Ok, Err, MatchOption, option_and_then, ap, inl, inr, refl, subst, sym}
use Rattle.std.specs.Prelude.{String}
use Rattle.audit_trail.specs.declared.entry.Deed.TheVariants.{Kept}
use Rattle.audit_trail.specs.declared.entry.Entry.{Entry}
use Rattle.call_types.specs.Refusals.{refusal_of}
use Rattle.call_types.specs.declared.refusal.KeyRefusal.{KeyRefusal}
use Rattle.call_types.specs.declared.refusal.KeyRefusal.TheVariants as key
use Rattle.drive_base.specs.View.{DriveView, views}
use Rattle.drive_base.specs.declared.drive.Drive.{Ghosts}
use Rattle.stamp_id.specs.declared.version.VersionId.{VersionId}
use Rattle.register_core.specs.declared.faults.QuorumFault.{QuorumFault}
use Rattle.register_core.specs.declared.faults.QuorumFault.TheVariants.{NoMemory as NoMemoryQuorum, ReadQuorum, Undecided, WriteQuorum}
use Rattle.slot_data.specs.Holding.{IsInFlight}
use Rattle.slot_rules.specs.Deeds.{name_of}
use Rattle.slot_rules.specs.Rules.{longest_for, rule_for}
use Rattle.slot_rules.specs.declared.commit.Commit.{Commit}
use Rattle.slot_rules.specs.declared.commit.Committed.{Committed}
use Rattle.slot_core.specs.Causes.{LookCause, PeekCause}
use Rattle.slot_core.specs.CommitCauses.{CommitCause, LookRefused, WroteSo, deed_in}
use Rattle.slot_core.specs.Commits.{SaysCommit}
use Rattle.slot_core.specs.NameList.{ListsNames, SaysNothing}
use Rattle.slot_core.specs.Numbers.{AreSpent}
use Rattle.slot_core.specs.Sections.{SaysKept}
use Rattle.slot_core.specs.Stubs.{AuditCounts, Says, StubOfEntry, Writes, WritesNone, completed_by, entry_of, late_in}
use Rattle.slot_core.specs.Views.{SlotNumbers}
use Rattle.slot_core.specs.declared.slot.SlotFault.{SlotFault}
use Rattle.slot_core.specs.declared.slot.SlotFault.TheVariants.{AuditFailed, Key, NoMemory, NotInFlight, Quorum, SeqSpent}
use Rattle.slot_core.specs.declared.stub.Stub.{Stub}
use Rattle.op_steps.specs.Causes.{IsPutOf, SaysIdle, SaysRefused}
use Rattle.op_steps.specs.Claims.{Claim}
use Rattle.op_steps.specs.Notes.{noted, refusal_by}
use Rattle.op_steps.specs.Store.{SlotSeen}
use Rattle.op_steps.proofs.Accounts.{IsNotUnlisted, LanesRefuse, RefusalAccount, TurnAccount}

-- an entry was written
abbrev pub IsWritten : Option Entry → Type 0
IsWritten entry = MatchOption entry ⊥ (λ made. Unit {0})

pub written_by : (numbers : SlotNumbers) (fault : Option SlotFault) (stub : Option Stub) → Writes numbers fault stub → IsWritten (entry_of stub)
written_by numbers fault stub x = subst (λ s. IsWritten (entry_of s)) (sym x.1) (subst IsWritten (sym x.2.2.entry_is) tt)

pub unwritten_by : (numbers : SlotNumbers) (fault : SlotFault) (stub : Option Stub) → WritesNone numbers fault stub → entry_of stub ≡ None
unwritten_by numbers fault stub x = ap entry_of x.1 ∙ x.2.entry_is

module _ {D : Type 0} (ghosts : Ghosts D) (was now : SlotSeen D) (claim : Claim) (disks_old disks_new : List DriveView) where
  -- the cause of a fault, where it is told as a refusal
  abbrev pub FaultCause : SlotFault → Option Entry → Type 0
  FaultCause fault entry = MatchOption (refusal_by fault) (Unit {0}) (λ why. RefusalAccount ghosts why entry was now claim disks_old disks_new)

  abbrev pub AnswerCause : {T : Type 0} → Result T SlotFault → Option Entry → Type 0
  AnswerCause (Ok _) entry = Unit {0}
  AnswerCause (Err fault) entry = FaultCause fault entry

  -- that of a note, by the fault and the entry of its stub
  noted_cause : (made : Stub) (fault : Option SlotFault) → made.fault ≡ fault → MatchOption fault (Unit {0}) (λ f. FaultCause f made.entry)
      → TurnAccount ghosts (noted (Some made)) was now claim disks_old disks_new
  noted_cause made None is x = subst
      (λ f. MatchOption (option_and_then refusal_by f) (Unit {0}) (λ why. RefusalAccount ghosts why made.entry was now claim disks_old disks_new)) (sym is) tt
  noted_cause made (Some fault) is x = subst
      (λ f. MatchOption (option_and_then refusal_by f) (Unit {0}) (λ why. RefusalAccount ghosts why made.entry was now claim disks_old disks_new)) (sym is) x

  stub_cause : (stub : Option Stub) (made : Stub) (fault : Option SlotFault) → stub ≡ Some made → made.fault ≡ fault
      → MatchOption fault (Unit {0}) (λ f. FaultCause f (entry_of stub)) → TurnAccount ghosts (noted stub) was now claim disks_old disks_new
  stub_cause stub made fault is fault_is x = subst (λ s. TurnAccount ghosts (noted s) was now claim disks_old disks_new) (sym is)
      (noted_cause made fault fault_is (subst (λ s. MatchOption fault (Unit {0}) (λ f. FaultCause f (entry_of s))) is x))

  pub written_cause : (fault : Option SlotFault) (stub : Option Stub) → Writes was.numbers fault stub
      → MatchOption fault (Unit {0}) (λ f. FaultCause f (entry_of stub)) → TurnAccount ghosts (noted stub) was now claim disks_old disks_new
  written_cause fault stub x cause = stub_cause stub x.0 fault x.1 x.2.2.fault_is cause

  pub unwritten_cause : (fault : SlotFault) (stub : Option Stub) → WritesNone was.numbers fault stub → FaultCause fault (entry_of stub)
      → TurnAccount ghosts (noted stub) was now claim disks_old disks_new
  unwritten_cause fault stub x cause = stub_cause stub x.0 (Some fault) x.1 x.2.fault_is cause

  -- that of a section, by the cause of its answer
  pub answer_cause : {T : Type 0} (answer : Result T SlotFault) (stub : Option Stub) → StubOfEntry was.numbers answer stub → AnswerCause answer (entry_of stub)
      → TurnAccount ghosts (noted stub) was now claim disks_old disks_new
  answer_cause (Ok _) stub x cause = written_cause None stub x tt
  answer_cause (Err (Quorum fault)) stub x cause = written_cause (Some (Quorum fault)) stub x cause
  answer_cause (Err (Key why)) stub x cause = written_cause (Some (Key why)) stub x cause
  answer_cause (Err SeqSpent) stub x cause = unwritten_cause SeqSpent stub x cause
  answer_cause (Err (AuditFailed before after)) stub x cause = unwritten_cause (AuditFailed before after) stub x cause
  answer_cause (Err NoMemory) stub x cause = subst (λ s. TurnAccount ghosts (noted s) was now claim disks_old disks_new) (sym x) tt
  answer_cause (Err (NotInFlight id)) stub x cause = written_cause (Some (NotInFlight id)) stub x cause

  -- ---- by the fault

  pub quorum_cause : (fault : QuorumFault) (entry : Option Entry) → LanesRefuse ghosts entry was now claim fault disks_old disks_new → FaultCause (Quorum fault) entry
  quorum_cause (ReadQuorum whys) entry x = x
  quorum_cause (WriteQuorum whys) entry x = x
  quorum_cause (Undecided k u whys) entry x = x
  quorum_cause NoMemoryQuorum entry x = tt

  pub key_cause : (why : KeyRefusal) (entry : Option Entry) → SaysRefused (refusal_of why) entry → FaultCause (Key why) entry
  key_cause (key.NoSuchKey marker) entry x = x
  key_cause key.NoSuchVersion entry x = x
  key_cause (key.MarkerNamed id modified) entry x = x
  key_cause key.VersionLimit entry x = x
  key_cause key.NoSuchUpload entry x = x
  key_cause key.InvalidPart entry x = x
  key_cause key.PartOrder entry x = x
  key_cause key.PartSmall entry x = x
  key_cause key.UploadLimit entry x = x

module _ {D : Type 0} (ghosts : Ghosts D) (was now : SlotSeen D) (claim : Claim) where
  -- a look at a register was refused
  pub look_refuses : (old new : List D) (name : List ℕ) (fault : QuorumFault) (entry : Option Entry) → IsWritten entry
      → MatchOption entry (Unit {0}) (SaysKept name) → late_in entry ≡ None
      → LookCause ghosts was.numbers now.numbers name (rule_for name) (longest_for name) fault was.lanes now.lanes old new
      → LanesRefuse ghosts entry was now claim fault (views ghosts old) (views ghosts new)
  look_refuses old new name fault None there says late x = there
  look_refuses old new name fault (Some made) there says late x = inr (record {
    old = old;
    new = new;
    old_is = refl;
    new_is = refl;
    how = inl (record {
      kept = says.deed_is;
      late = late;
      cause = subst
          (λ n. LookCause ghosts was.numbers now.numbers n (rule_for n) (longest_for n) fault was.lanes now.lanes old new)
          (sym says.name_is) x;
    });
  })

  look_cause : (old new : List D) (name : List ℕ) (answer : Result (List ℕ) SlotFault) (stub : Option Stub) → StubOfEntry was.numbers answer stub
      → Says stub (SaysKept name) → ((answer ≡ Err SeqSpent) → AreSpent was.numbers) → AuditCounts answer was.faults now.faults
      → PeekCause ghosts was.numbers now.numbers name answer (completed_by stub) was.lanes now.lanes old new
      → AnswerCause ghosts was now claim (views ghosts old) (views ghosts new) answer (entry_of stub)
  look_cause old new name (Ok content) stub is says spent counts x = tt
  look_cause old new name (Err (Quorum fault)) stub is says spent counts x =
      quorum_cause ghosts was now claim (views ghosts old) (views ghosts new) fault (entry_of stub)
      (look_refuses old new name fault (entry_of stub) (written_by was.numbers (Some (Quorum fault)) stub is) says x.1 x.2)
  look_cause old new name (Err (Key why)) stub is says spent counts x = absurd x
  look_cause old new name (Err SeqSpent) stub is says spent counts x = (unwritten_by was.numbers SeqSpent stub is, spent refl)
  look_cause old new name (Err (AuditFailed before after)) stub is says spent counts x = (unwritten_by was.numbers (AuditFailed before after) stub is, counts.0, counts.1, counts.2)
  look_cause old new name (Err NoMemory) stub is says spent counts x = tt
  look_cause old new name (Err (NotInFlight id)) stub is says spent counts x = absurd x

  pub look_turn_cause : (old new : List D) (name : List ℕ) (answer : Result (List ℕ) SlotFault) (stub : Option Stub) → StubOfEntry was.numbers answer stub
      → Says stub (SaysKept name) → ((answer ≡ Err SeqSpent) → AreSpent was.numbers) → AuditCounts answer was.faults now.faults
      → PeekCause ghosts was.numbers now.numbers name answer (completed_by stub) was.lanes now.lanes old new
      → TurnAccount ghosts (noted stub) was now claim (views ghosts old) (views ghosts new)
  look_turn_cause old new name answer stub is says spent counts x =
      answer_cause ghosts was now claim (views ghosts old) (views ghosts new) answer stub is (look_cause old new name answer stub is says spent counts x)

  -- a listing of names was
  names_refuse : (disks : List DriveView) (fault : QuorumFault) (entry : Option Entry) → IsWritten entry → MatchOption entry (Unit {0}) SaysNothing
      → ((made : Entry) → made.name ≡ [] → made.deed ≡ Kept → LanesRefuse ghosts (Some made) was now claim fault disks disks)
      → LanesRefuse ghosts entry was now claim fault disks disks
  names_refuse disks fault None there says make = there
  names_refuse disks fault (Some made) there says make = make made says.name_is says.deed_is

  names_cause : {Y : Type 0} (disks : List DriveView) (from : List ℕ) (most : ℕ) (answer : Result (List (String Y)) SlotFault) (stub : Option Stub)
      → StubOfEntry was.numbers answer stub → Says stub SaysNothing → AuditCounts answer was.faults now.faults
      → ListsNames ghosts was.numbers.set from most answer was.lanes now.lanes
      → AnswerCause ghosts was now claim disks disks answer (entry_of stub)
  names_cause disks from most (Ok names) stub is says counts x = tt
  names_cause disks from most (Err (Quorum (ReadQuorum whys))) stub is says counts x =
      names_refuse disks (ReadQuorum whys) (entry_of stub) (written_by was.numbers (Some (Quorum (ReadQuorum whys))) stub is) says
      (λ made nameless kept. inl (record { nameless = nameless; kept = kept; whys = whys; fault_is = refl; few = x }))
  names_cause disks from most (Err (Quorum (WriteQuorum whys))) stub is says counts x = absurd x
  names_cause disks from most (Err (Quorum (Undecided k u whys))) stub is says counts x = absurd x
  names_cause disks from most (Err (Quorum NoMemoryQuorum)) stub is says counts x = absurd x
  names_cause disks from most (Err (Key why)) stub is says counts x = absurd x
  names_cause disks from most (Err SeqSpent) stub is says counts x = absurd x
  names_cause disks from most (Err (AuditFailed before after)) stub is says counts x = (unwritten_by was.numbers (AuditFailed before after) stub is, counts.0, counts.1, counts.2)
  names_cause disks from most (Err NoMemory) stub is says counts x = tt
  names_cause disks from most (Err (NotInFlight id)) stub is says counts x = absurd x

  pub names_turn_cause : {Y : Type 0} (disks : List DriveView) (from : List ℕ) (most : ℕ) (answer : Result (List (String Y)) SlotFault) (stub : Option Stub)
      → StubOfEntry was.numbers answer stub → Says stub SaysNothing → AuditCounts answer was.faults now.faults
      → ListsNames ghosts was.numbers.set from most answer was.lanes now.lanes
      → TurnAccount ghosts (noted stub) was now claim disks disks
  names_turn_cause {Y = Y} disks from most answer stub is says counts x =
      answer_cause ghosts was now claim disks disks {T = List (String Y)} answer stub is (names_cause {Y = Y} disks from most answer stub is says counts x)

-- a commit of a deed, of the claim's own put if it ends one
module _ {D : Type 0} (ghosts : Ghosts D) (was now : SlotSeen D) (claim : Claim) (old new : List D) (deed : Commit) (put : Option VersionId) (at : ℕ)
    (own : IsPutOf claim put) where
  commit_refuses : (fault : QuorumFault) (entry : Option Entry) → IsNotUnlisted was.holding.flights put → IsWritten entry
      → MatchOption entry (Unit {0}) (λ made. made.name ≡ name_of deed)
      → LookRefused ghosts was.numbers now.numbers deed put fault (deed_in entry) was.lanes now.lanes old new
      ⊎ ((reply : _) × WroteSo ghosts was.numbers now.numbers deed put at reply (Err fault) (deed_in entry) was.lanes now.lanes old new)
      → LanesRefuse ghosts entry was now claim fault (views ghosts old) (views ghosts new)
  commit_refuses fault None listed there named x = there
  commit_refuses fault (Some made) listed there named x = inr (record {
    old = old;
    new = new;
    old_is = refl;
    new_is = refl;
    how = inr (record { deed = deed; name_is = named; put = put; put_is = own; listed = listed; cause = by x });
  })
    where
      by : LookRefused ghosts was.numbers now.numbers deed put fault made.deed was.lanes now.lanes old new
          ⊎ ((reply : _) × WroteSo ghosts was.numbers now.numbers deed put at reply (Err fault) made.deed was.lanes now.lanes old new)
          → LookRefused ghosts was.numbers now.numbers deed put fault made.deed was.lanes now.lanes old new
          ⊎ ((moment : ℕ) × (reply : _)
          × WroteSo ghosts was.numbers now.numbers deed put moment reply (Err fault) made.deed was.lanes now.lanes old new)
      by (inl look) = inl look
      by (inr wrote) = inr (at, wrote.0, wrote.1)

  -- what its entry names, and what it says
  commit_named : (answer : Result Committed SlotFault) (entry : Option Entry) → MatchOption entry (Unit {0}) (SaysCommit deed at answer)
      → MatchOption entry (Unit {0}) (λ made. made.name ≡ name_of deed)
  commit_named answer None says = tt
  commit_named answer (Some made) says = says.name_is

  commit_idle : (id : VersionId) (entry : Option Entry) → IsWritten entry → MatchOption entry (Unit {0}) (SaysCommit deed at (Err (NotInFlight id))) → SaysIdle entry
  commit_idle id None there says = there
  commit_idle id (Some made) there says = says.deed_is

  commit_said : (why : KeyRefusal) (entry : Option Entry) → IsWritten entry → MatchOption entry (Unit {0}) (SaysCommit deed at (Err (Key why)))
      → SaysRefused (refusal_of why) entry
  commit_said why None there says = there
  commit_said why (Some made) there says = (_, says.deed_is)

  commit_cause : (answer : Result Committed SlotFault) (stub : Option Stub) → StubOfEntry was.numbers answer stub
      → Says stub (SaysCommit deed at answer) → ((answer ≡ Err SeqSpent) → AreSpent was.numbers) → AuditCounts answer was.faults now.faults
      → ((id : VersionId) → answer ≡ Err (NotInFlight id) → IsPutOf claim (Some id) × (IsInFlight was.holding.flights id → ⊥))
      → ((fault : QuorumFault) → answer ≡ Err (Quorum fault) → IsNotUnlisted was.holding.flights put)
      → CommitCause ghosts was.numbers now.numbers deed put at answer (deed_in (entry_of stub)) was.lanes now.lanes old new
      → AnswerCause ghosts was now claim (views ghosts old) (views ghosts new) answer (entry_of stub)
  commit_cause (Ok made) stub is says spent counts refused listed x = tt
  commit_cause (Err (Quorum fault)) stub is says spent counts refused listed x =
      quorum_cause ghosts was now claim (views ghosts old) (views ghosts new) fault (entry_of stub)
      (commit_refuses fault (entry_of stub) (listed fault refl) (written_by was.numbers (Some (Quorum fault)) stub is) (commit_named (Err (Quorum fault)) (entry_of stub) says) x.1)
  commit_cause (Err (Key why)) stub is says spent counts refused listed x =
      key_cause ghosts was now claim (views ghosts old) (views ghosts new) why (entry_of stub)
      (commit_said why (entry_of stub) (written_by was.numbers (Some (Key why)) stub is) says)
  commit_cause (Err SeqSpent) stub is says spent counts refused listed x = (unwritten_by was.numbers SeqSpent stub is, spent refl)
  commit_cause (Err (AuditFailed before after)) stub is says spent counts refused listed x = (unwritten_by was.numbers (AuditFailed before after) stub is, counts.0, counts.1, counts.2)
  commit_cause (Err NoMemory) stub is says spent counts refused listed x = tt
  commit_cause (Err (NotInFlight id)) stub is says spent counts refused listed x =
      (commit_idle id (entry_of stub) (written_by was.numbers (Some (NotInFlight id)) stub is) says, (refused id refl).0, (refused id refl).1)

  pub commit_turn_cause : (answer : Result Committed SlotFault) (stub : Option Stub) → StubOfEntry was.numbers answer stub
      → Says stub (SaysCommit deed at answer) → ((answer ≡ Err SeqSpent) → AreSpent was.numbers) → AuditCounts answer was.faults now.faults
      → ((id : VersionId) → answer ≡ Err (NotInFlight id) → IsPutOf claim (Some id) × (IsInFlight was.holding.flights id → ⊥))
      → ((fault : QuorumFault) → answer ≡ Err (Quorum fault) → IsNotUnlisted was.holding.flights put)
      → CommitCause ghosts was.numbers now.numbers deed put at answer (deed_in (entry_of stub)) was.lanes now.lanes old new
      → TurnAccount ghosts (noted stub) was now claim (views ghosts old) (views ghosts new)
  commit_turn_cause answer stub is says spent counts refused listed x =
      answer_cause ghosts was now claim (views ghosts old) (views ghosts new) answer stub is (commit_cause answer stub is says spent counts refused listed x)
