-- What several calls of a section leave of the drives together.
use Rattle.std.proofs.Common.{◌≡◌, ◌<◌, ◌≤◌, ◌∙◌, ℕ, List, Result, Ok, Err, length, ap, subst, sym, inl, inr, arith}
use Rattle.std.specs.Prelude.{IsTrue, slice_index_or}
use Rattle.call_types.specs.declared.why.Why.{Why}
use Rattle.drive_base.specs.declared.drive.Drive.{Ghosts}
use Rattle.drive_base.specs.Files.{Files}
use Rattle.register_core.specs.LaneWrites.{KeepsDrives}
use Rattle.register_core.specs.OnLanes.{AllTell, AreUnused}
use Rattle.register_core.specs.Proposals.{Marks, Proposes}
use Rattle.register_core.specs.Records.{IsHonest}
use Rattle.register_core.specs.declared.drafts.Draft.{Draft}
use Rattle.register_core.specs.declared.faults.QuorumFault.{QuorumFault}
use Rattle.register_core.specs.declared.faults.QuorumFault.TheVariants.{ReadQuorum, WriteQuorum, Undecided, NoMemory}
use Rattle.register_core.specs.declared.proposals.Prepared.{Prepared}
use Rattle.register_caller.specs.Steps.{MarksTaken, WritesBoth}
use Rattle.register_caller.proofs.CallingLemmas.{unused_after_look}

module _ {D : Type 0} (ghosts : Ghosts D) where
  -- both writes, where the proposal was taken
  pub both_taken : (draft : Draft) (out term from to : ℕ) (result : Result (List Why) QuorumFault) (old new : List D)
      → MarksTaken ghosts draft out term from to result old new → WritesBoth ghosts draft out term from to result old new
  both_taken draft out term from to (Ok whys) old new taken = taken
  both_taken draft out term from to (Err fault) old new taken = inr taken

  -- a proposal uses numbers from its first one on
  pub propose_rises : (draft : Draft) (out term from to : ℕ) (result : Result Prepared QuorumFault) (old new : List D)
      → Proposes ghosts draft out term from to result old new → from ≤ to
  propose_rises draft out term from to (Ok took) old new is = is.2.later
  propose_rises draft out term from to (Err (ReadQuorum whys)) old new is = absurd is
  propose_rises draft out term from to (Err (WriteQuorum whys)) old new is = elim is [
    | inl unbegun ↦ let used = unbegun.none_used in omega arith
    | inr refused ↦ refused.2.later
  ]
  propose_rises draft out term from to (Err (Undecided k u whys)) old new is = absurd is
  propose_rises draft out term from to (Err NoMemory) old new is = absurd is

  -- and so does a mark
  pub mark_rises : (draft : Draft) (took : Prepared) (term from to : ℕ) (result : Result (List Why) QuorumFault) (later : Draft) (old new : List D)
      → Marks ghosts draft took term from to result later old new → from ≤ to
  mark_rises draft took term from to (Ok whys) later old new is = is.2.later
  mark_rises draft took term from to (Err (ReadQuorum whys)) later old new is = absurd is
  mark_rises draft took term from to (Err (WriteQuorum whys)) later old new is = is.2.later
  mark_rises draft took term from to (Err (Undecided k u whys)) later old new is = absurd is
  mark_rises draft took term from to (Err NoMemory) later old new is = absurd is

  -- what is kept through a look
  pub keeps_after_look : (out : ℕ) (name : List ℕ) (term from : ℕ) (old new : List D) → length new ≡ length old
      → ((k : ℕ) (d : D) → k < length old → IsTrue (ghosts.tells (slice_index_or old k d)) → ghosts.files (slice_index_or new k d) ≡ ghosts.files (slice_index_or old k d))
      → AllTell ghosts.tells out old → AreUnused ghosts.files out term from old → KeepsDrives ghosts out name term from from old new
  keeps_after_look out name term from old new long stay told unused = record {
    unused = unused_after_look ghosts.tells ghosts.files out term from old new long stay told unused;
    loose = λ k d other low in_use none. ap (λ (f : Files). f.loose other) (stay k d low (told k d low in_use));
    others = λ k d other low in_use else.
        let same = stay k d low (told k d low in_use) in (ap (λ (f : Files). f.kept other) same, ap (λ (f : Files). f.shown other) same);
    honest = λ honest k d below in_use. let low : k < length old = omega arith in
        subst (λ (f : Files). IsHonest (f.kept name) (f.shown name)) (sym (stay k d low (told k d low in_use))) (honest k d low in_use);
  }

  -- what is kept through two calls
  pub keeps_twice : (out : ℕ) (name : List ℕ) (term from middle to : ℕ) (old mid new : List D) → length mid ≡ length old → from ≤ middle → middle ≤ to
      → KeepsDrives ghosts out name term from middle old mid → KeepsDrives ghosts out name term middle to mid new
      → KeepsDrives ghosts out name term from to old new
  keeps_twice out name term from middle to old mid new long up on first second = record {
    unused = second.unused;
    loose = λ k d other low in_use none.
        second.loose k d other (omega arith) in_use (λ number later earlier. none number (omega arith) earlier)
        ∙ first.loose k d other low in_use (λ number later earlier. none number later (omega arith));
    others = λ k d other low in_use else.
        let one = first.others k d other low in_use else in
        let two = second.others k d other (omega arith) in_use else in
        (two.0 ∙ one.0, two.1 ∙ one.1);
    honest = λ is. second.honest (first.honest is);
  }
