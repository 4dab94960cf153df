-- Counts of faults over the calls of a section: none falls, so what rose in a part of the section rose over the whole.
use Rattle.std.proofs.Common.{◌≡◌, ◌∙◌, ◌<◌, ◌≤◌, ℕ, List, Option, Some, None, Result, Ok, Err, length, ap, inl, inr, arith}
use Rattle.std.specs.Prelude.{Bool, IsTrue, slice_index_or}
use Rattle.std.specs.Int.{IsBitSet}
use Rattle.call_types.specs.declared.why.FileKind.TheVariants.{Format, Manifest, Register, Shard}
use Rattle.call_types.specs.declared.why.Why.{Why}
use Rattle.call_types.specs.declared.why.Why.TheVariants.{Behind, Damaged, Failed, Good, Lacks}
use Rattle.drive_base.specs.declared.drive.Drive.{Ghosts}
use Rattle.drive_base.specs.Files.{Files}
use Rattle.fault_base.specs.Counts.{Rose}
use Rattle.file_access.specs.Reading.{FailedWhile}
use Rattle.file_access.specs.Writing.{WriteCause}
use Rattle.register_file.specs.declared.record.RegFile.{RegFile}
use Rattle.register_core.specs.Looks.{LaneIsRead, LanesAreRead}
use Rattle.register_core.specs.Found.{found_at}
use Rattle.register_core.specs.LaneWrites.{OnLane, WritesEach, letter_at}
use Rattle.register_core.specs.Proposals.{Marks, Proposes}
use Rattle.register_core.specs.declared.drafts.Draft.{Draft}
use Rattle.register_core.specs.declared.faults.QuorumFault.{QuorumFault}
use Rattle.register_core.specs.declared.faults.QuorumFault.TheVariants.{NoMemory, ReadQuorum, Undecided, WriteQuorum}
use Rattle.register_core.specs.declared.proposals.Prepared.{Prepared}
use Rattle.register_caller.specs.Steps.{MarksTaken, WritesBoth}

-- a count that rose in the first part rose over the whole, and so did one that rose in the last part
rose_first : (old mid new : ℕ) → mid ≤ new → Rose old mid → Rose old new
rose_first old mid new up (low, inl above) = (omega arith, inl (omega arith))
rose_first old mid new up (low, inr top) = (omega arith, inr (omega arith))

rose_last : (old mid new : ℕ) → old ≤ mid → Rose mid new → Rose old new
rose_last old mid new up (low, inl above) = (omega arith, inl (omega arith))
rose_last old mid new up (low, inr top) = (omega arith, inr top)

-- a count doesn't fall over a read
failed_up : (before after old new : ℕ) → FailedWhile before after old new → old ≤ new
failed_up before after old new (low, rose, high) = omega (arith, low, rose.0, high)

read_up : (most : ℕ) (name : List ℕ) (read : Option RegFile) (why : Why) (out : Type 0) (tells : Bool) (files : Files) (old new : ℕ)
    → LaneIsRead most name read why out tells files old new → old ≤ new
read_up most name (Some file) why out tells files old new is = omega (arith, is.2)
read_up most name None Good out tells files old new is = absurd is
read_up most name None (Failed before after) out tells files old new is = failed_up before after old new is.1
read_up most name None (Damaged damage) out tells files old new is = omega (arith, is.1)
read_up most name None (Behind ballot) out tells files old new is = absurd is
read_up most name None (Lacks Format) out tells files old new is = omega (arith, is.1)
read_up most name None (Lacks Register) out tells files old new is = absurd is
read_up most name None (Lacks Manifest) out tells files old new is = absurd is
read_up most name None (Lacks Shard) out tells files old new is = absurd is

-- nor over a write
write_up : (why : Why) (there : Type 0) (old new : ℕ) → WriteCause Register there why old new → old ≤ new
write_up Good there old new cause = omega (arith, cause)
write_up (Failed before after) there old new cause = let rose = cause.2 in rose.0
write_up (Damaged damage) there old new cause = absurd cause
write_up (Behind ballot) there old new cause = absurd cause
write_up (Lacks kind) there old new cause = omega (arith, cause.2)

module _ {D : Type 0} (ghosts : Ghosts D) where
  -- no count of the first drives falls
  abbrev pub Up : ℕ → List D → List D → Type 0
  Up n old new = (k : ℕ) (d : D) → k < n → ghosts.count (slice_index_or old k d) ≤ ghosts.count (slice_index_or new k d)

  -- the lanes of a set are in use, and no count of theirs rises
  abbrev pub AreCalm : ℕ → ℕ → ℕ → List D → List D → Type 0
  AreCalm n out serving old new = (k : ℕ) (d : D) → k < n → IsBitSet serving k
      → (IsBitSet out k → ⊥) × (Rose (ghosts.count (slice_index_or old k d)) (ghosts.count (slice_index_or new k d)) → ⊥)

  pub up_twice : (n : ℕ) (old mid new : List D) → Up n old mid → Up n mid new → Up n old new
  up_twice n old mid new first second k d low = let a = first k d low in let b = second k d low in omega (arith, a, b)

  pub calm_first : (n out serving : ℕ) (old mid new : List D) → Up n mid new → AreCalm n out serving old new → AreCalm n out serving old mid
  calm_first n out serving old mid new up calm k d low bit =
      let lane = calm k d low bit in
      (lane.0, λ rose. lane.1 (rose_first (ghosts.count (slice_index_or old k d)) (ghosts.count (slice_index_or mid k d)) (ghosts.count (slice_index_or new k d)) (up k d low) rose))

  pub calm_last : (n out serving : ℕ) (old mid new : List D) → Up n old mid → AreCalm n out serving old new → AreCalm n out serving mid new
  calm_last n out serving old mid new up calm k d low bit =
      let lane = calm k d low bit in
      (lane.0, λ rose. lane.1 (rose_last (ghosts.count (slice_index_or old k d)) (ghosts.count (slice_index_or mid k d)) (ghosts.count (slice_index_or new k d)) (up k d low) rose))

  same_up : (old new : D) → new ≡ old → ghosts.count old ≤ ghosts.count new
  same_up old new same = let e = ap ghosts.count same in omega (arith, e)

  pub look_up : (n most out : ℕ) (name : List ℕ) (found : List (Option RegFile)) (whys : List Why) (old new : List D) → length old ≡ n
      → LanesAreRead ghosts out most name found whys old new → Up n old new
  look_up n most out name found whys old new long read k d low =
      read_up most name (found_at found k) (letter_at whys k) (IsBitSet out k) (ghosts.tells (slice_index_or old k d)) (ghosts.files (slice_index_or old k d))
      (ghosts.count (slice_index_or old k d)) (ghosts.count (slice_index_or new k d)) (read.each k d (omega (arith, long, low)))

  lane_up : (out passed : ℕ) (name bytes : List ℕ) (term from to : ℕ) (letters : List Why) (k : ℕ) (why : Why) (old new : D)
      → OnLane ghosts out passed name bytes term from to letters k why old new → ghosts.count old ≤ ghosts.count new
  lane_up out passed name bytes term from to letters k why old new on = elim on [
    | inl gone ↦ same_up old new gone.stays
    | inr (inl kept) ↦ same_up old new kept.stays
    | inr (inr done) ↦ write_up why (IsTrue (ghosts.tells old)) (ghosts.count old) (ghosts.count new) done.1.cause
  ]

  loop_up : (n out passed : ℕ) (name bytes : List ℕ) (term from to : ℕ) (letters whys : List Why) (old new : List D) → length old ≡ n
      → WritesEach ghosts out passed name bytes term from to letters whys old new → Up n old new
  loop_up n out passed name bytes term from to letters whys old new long wrote k d low =
      lane_up out passed name bytes term from to letters k (letter_at whys k) (slice_index_or old k d) (slice_index_or new k d)
      (wrote.each k d (omega (arith, long, low)))

  stay_up : (n : ℕ) (old new : List D) → new ≡ old → Up n old new
  stay_up n old new same k d low = same_up (slice_index_or old k d) (slice_index_or new k d) (ap (λ (l : List D). slice_index_or l k d) same)

  -- what a proposal leaves of the drives: as many, and no count that fell
  propose_up : (n : ℕ) (draft : Draft) (out term from to : ℕ) (result : Result Prepared QuorumFault) (old new : List D) → length old ≡ n
      → Proposes ghosts draft out term from to result old new → (length new ≡ length old) × Up n old new
  propose_up n draft out term from to (Ok took) old new long did =
      let wrote = did.2 in (wrote.long, loop_up n out 0 _ _ term from to draft.letters took.whys old new long wrote)
  propose_up n draft out term from to (Err (ReadQuorum whys)) old new long did = absurd did
  propose_up n draft out term from to (Err (WriteQuorum whys)) old new long did = elim did [
    | inl none ↦ (ap (λ (l : List D). length l) none.stays, stay_up n old new none.stays)
    | inr tried ↦ let wrote = tried.2 in (wrote.long, loop_up n out 0 _ _ term from to draft.letters whys old new long wrote)
  ]
  propose_up n draft out term from to (Err (Undecided k u whys)) old new long did = absurd did
  propose_up n draft out term from to (Err NoMemory) old new long did = absurd did

  -- and a mark
  mark_up : (n : ℕ) (draft : Draft) (took : Prepared) (term from to : ℕ) (result : Result (List Why) QuorumFault) (later : Draft) (old new : List D) → length old ≡ n
      → Marks ghosts draft took term from to result later old new → (length new ≡ length old) × Up n old new
  mark_up n draft took term from to (Ok whys) later old new long did =
      let wrote = did.2 in (wrote.long, loop_up n took.out 0 _ _ term from to took.whys whys old new long wrote)
  mark_up n draft took term from to (Err (ReadQuorum whys)) later old new long did = absurd did
  mark_up n draft took term from to (Err (WriteQuorum whys)) later old new long did =
      let wrote = did.2 in (wrote.long, loop_up n took.out 0 _ _ term from to took.whys whys old new long wrote)
  mark_up n draft took term from to (Err (Undecided k u whys)) later old new long did = absurd did
  mark_up n draft took term from to (Err NoMemory) later old new long did = absurd did

  pub taken_up : (n : ℕ) (draft : Draft) (out term from to : ℕ) (result : Result (List Why) QuorumFault) (old new : List D) → length old ≡ n
      → (x : MarksTaken ghosts draft out term from to result old new)
      → (length x.mid ≡ length old) × Up n old x.mid × (length new ≡ length x.mid) × Up n x.mid new
  taken_up n draft out term from to result old new long x =
      let first = propose_up n draft out term from x.middle (Ok x.took) old x.mid long x.proposes in
      let second = mark_up n draft x.took term x.middle to result x.later x.mid new (first.0 ∙ long) x.marks in
      (first.0, first.1, second.0, second.1)

  taken_whole : (n : ℕ) (draft : Draft) (out term from to : ℕ) (result : Result (List Why) QuorumFault) (old new : List D) → length old ≡ n
      → MarksTaken ghosts draft out term from to result old new → (length new ≡ length old) × Up n old new
  taken_whole n draft out term from to result old new long x =
      let both = taken_up n draft out term from to result old new long x in
      (both.2 ∙ both.0, up_twice n old x.mid new both.1 both.3)

  -- and both writes of a change
  pub both_up : (n : ℕ) (draft : Draft) (out term from to : ℕ) (result : Result (List Why) QuorumFault) (old new : List D) → length old ≡ n
      → WritesBoth ghosts draft out term from to result old new → (length new ≡ length old) × Up n old new
  both_up n draft out term from to (Ok whys) old new long did = taken_whole n draft out term from to (Ok whys) old new long did
  both_up n draft out term from to (Err fault) old new long did = elim did [
    | inl refused ↦ propose_up n draft out term from to (Err fault) old new long refused
    | inr taken ↦ taken_whole n draft out term from to (Err fault) old new long taken
  ]
