-- The letters of lanes that serve, after a look and after writes, and how many of them are good.
use Rattle.std.proofs.Common.{◌≡◌, ◌∙◌, ◌⊎◌, ◌<◌, ◌≤◌, ℕ, List, [], ◌∷◌, Option, Err, length, map, replicate, cond, ap, sym, subst, inl, inr, refl, arith}
use Rattle.std.specs.Prelude.{Bool, IsTrue, count_by, slice_index_or}
use Rattle.std.specs.Int.{IsBitSet}
use Rattle.std.proofs.lemmas.List.{get_or-replicate}
use Rattle.std.proofs.lemmas.List.Sums.{sum_by-cons}
use Rattle.call_types.specs.Good.{good_count, is_good}
use Rattle.call_types.specs.declared.why.FileKind.{FileKind}
use Rattle.call_types.specs.declared.why.FileKind.TheVariants.{Format, Register}
use Rattle.call_types.specs.declared.why.Why.{Why}
use Rattle.call_types.specs.declared.why.Why.TheVariants.{Behind, Damaged, Failed, Good, Lacks}
use Rattle.drive_base.specs.declared.drive.Drive.{Ghosts}
use Rattle.drive_base.specs.DriveSet.{count_in}
use Rattle.fault_base.specs.Counts.{Rose}
use Rattle.file_access.specs.Writing.{WriteCause}
use Rattle.register_file.specs.Lengths.{longest_file}
use Rattle.register_file.specs.declared.record.RegFile.{RegFile}
use Rattle.vote_core.specs.Lane.{Lane, lane_at}
use Rattle.vote_core.specs.Row.{is_good as is_good_row}
use Rattle.vote_core.specs.Verdict.{good_rows}
use Rattle.vote_core.specs.declared.row.Row.{Row}
use Rattle.register_core.specs.Found.{found_at}
use Rattle.register_core.specs.Looks.{LanesAreRead}
use Rattle.register_core.specs.LaneWrites.{OnLane, WritesEach, letter_at}
use Rattle.register_core.specs.Proposals.{Proposes, quorum_of}
use Rattle.register_core.specs.Records.{HasLane}
use Rattle.register_core.specs.ServingLanes.{IsWithin, ServingLaneIsRead}
use Rattle.register_core.specs.declared.drafts.Draft.{Draft}
use Rattle.register_core.specs.declared.faults.QuorumFault.{QuorumFault}
use Rattle.register_core.specs.declared.faults.QuorumFault.TheVariants.{NoMemory, ReadQuorum, Undecided, WriteQuorum}
use Rattle.register_caller.specs.Steps.{MarksTaken, WritesBoth}
use Rattle.register_core.proofs.SeenLemmas.{element}
use Rattle.register_core.proofs.ServingLemmas.{good_letters_count}
use Rattle.op_steps.proofs.CalmLemmas.{AreCalm, calm_first, calm_last, taken_up}

-- each lane of a set has a good letter
abbrev pub AreGood : ℕ → ℕ → List Why → Type 0
AreGood n serving letters = (k : ℕ) → k < n → IsBitSet serving k → letter_at letters k ≡ Good

-- good lanes are counted
pub good_enough : (n serving : ℕ) (letters : List Why) → length letters ≡ n → AreGood n serving letters → count_in serving n ≤ good_count letters
good_enough n serving letters long good = subst (λ (m : ℕ). count_in serving m ≤ good_count letters) long
    (good_letters_count serving letters (λ k low bit. good k (omega (arith, long, low)) bit))

-- where all letters are good, those of a set are
pub all_good : (n serving : ℕ) (letters : List Why) → letters ≡ replicate n Good → AreGood n serving letters
all_good n serving letters same k low bit =
    ap (λ (l : List Why). letter_at l k) same ∙ get_or-replicate n k Good (Lacks Format) low

-- what passes a test is counted after a map too
pub count_map : {X : Type 0} (p : X → Bool) (xs : List X) → count_by (λ (b : Bool). b) (map p xs) ≡ count_by p xs
count_map p [] = refl
count_map {X} p (x ∷ xs) =
    let one = sum_by-cons (λ (b : Bool). cond b 1 0) (p x) (map p xs) in
    let other = sum_by-cons (λ (v : X). cond (p v) 1 0) x xs in
    let rest = count_map p xs in
    omega (arith, one, other, rest)

-- the rows of a look are good where its letters are
pub rows_good : (whys : List Why) (rows : List Row) → map is_good whys ≡ map is_good_row rows → good_rows rows ≡ good_count whys
rows_good whys rows same = sym (count_map is_good_row rows) ∙ (ap (λ (l : List Bool). count_by (λ (b : Bool). b) l) (sym same) ∙ count_map is_good whys)

-- a lane took a write, or it forgot the file, where drives forget
abbrev pub IsTaken : Type 0 → Why → Type 0
IsTaken Forgets why = (why ≡ Good) ⊎ (Forgets × (why ≡ Lacks Register))

abbrev pub AreTaken : ℕ → ℕ → Type 0 → List Why → Type 0
AreTaken n serving Forgets letters = (k : ℕ) → k < n → IsBitSet serving k → IsTaken Forgets (letter_at letters k)

-- of letters so each is good where none forgot
pub taken_good : (n serving : ℕ) (Forgets : Type 0) (letters : List Why) → AreTaken n serving Forgets letters
    → ((k : ℕ) → IsBitSet serving k → Forgets → letter_at letters k ≡ Lacks Register → ⊥) → AreGood n serving letters
taken_good n serving Forgets letters taken none k low bit = elim (taken k low bit) [
  | inl good ↦ good
  | inr lost ↦ absurd (none k bit lost.0 lost.1)
]

write_taken : (Forgets : Type 0) (why : Why) (there : Type 0) (old new : ℕ) → WriteCause Register there why old new → (Rose old new → ⊥)
    → ((there → ⊥) → Forgets) → IsTaken Forgets why
write_taken Forgets Good there old new cause calm forgets = inl refl
write_taken Forgets (Failed before after) there old new cause calm forgets = absurd (calm cause.2)
write_taken Forgets (Damaged damage) there old new cause calm forgets = absurd cause
write_taken Forgets (Behind ballot) there old new cause calm forgets = absurd cause
write_taken Forgets (Lacks kind) there old new cause calm forgets = inr (forgets cause.1, ap (λ (f : FileKind). Lacks f) cause.0)

module _ {D : Type 0} (ghosts : Ghosts D) where
  -- the lanes of a set tell, and show what they keep of a register, which are these records, of contents that are not too long
  abbrev pub ShowRecords : ℕ → ℕ → List ℕ → ℕ → List Lane → List D → Type 0
  ShowRecords n serving name longest lanes old = (k : ℕ) (d : D) → k < n → IsBitSet serving k → IsTrue (ghosts.tells (slice_index_or old k d))
      × ((ghosts.files (slice_index_or old k d)).shown name ≡ (ghosts.files (slice_index_or old k d)).kept name)
      × HasLane ((ghosts.files (slice_index_or old k d)).kept name) (lane_at lanes k) × IsWithin longest (lane_at lanes k)

  -- lanes that serve are read
  pub read_good : ServingLaneIsRead → (n longest out serving : ℕ) (name : List ℕ) (found : List (Option RegFile)) (whys : List Why) (lanes : List Lane)
      (old new : List D) → length old ≡ n → LanesAreRead ghosts out (longest_file longest) name found whys old new
      → AreCalm ghosts n out serving old new → ShowRecords n serving name longest lanes old → AreGood n serving whys
  read_good law n longest out serving name found whys lanes old new long read calm show k low bit =
      let here : k < length old = omega (arith, long, low) in
      let d = element old k here in
      let lane = calm k d low bit in
      let shows = show k d low bit in
      law longest out k name (found_at found k) (letter_at whys k) (ghosts.tells (slice_index_or old k d)) (ghosts.files (slice_index_or old k d))
      (ghosts.count (slice_index_or old k d)) (ghosts.count (slice_index_or new k d)) (lane_at lanes k) (read.each k d here) lane.0 shows.0 lane.1 shows.1 shows.2 shows.3

  module _ (Forgets : Type 0) (forgets : (d : D) → (IsTrue (ghosts.tells d) → ⊥) → Forgets) where
    lane_taken : (out : ℕ) (name bytes : List ℕ) (term from to : ℕ) (letters : List Why) (k : ℕ) (why : Why) (old new : D)
        → OnLane ghosts out 0 name bytes term from to letters k why old new → (IsBitSet out k → ⊥) → (Rose (ghosts.count old) (ghosts.count new) → ⊥)
        → IsTaken Forgets (letter_at letters k) → IsTaken Forgets why
    lane_taken out name bytes term from to letters k why old new on in_use calm before = elim on [
      | inl gone ↦ absurd (in_use gone.out_is)
      | inr (inl kept) ↦ subst (IsTaken Forgets) (sym kept.letter_is) before
      | inr (inr done) ↦ write_taken Forgets why (IsTrue (ghosts.tells old)) (ghosts.count old) (ghosts.count new) done.1.cause calm (forgets old)
    ]

    -- lanes that serve take the writes of a loop
    loop_taken : (n out serving : ℕ) (name bytes : List ℕ) (term from to : ℕ) (letters whys : List Why) (old new : List D) → length old ≡ n
        → WritesEach ghosts out 0 name bytes term from to letters whys old new → AreCalm ghosts n out serving old new
        → AreTaken n serving Forgets letters → AreTaken n serving Forgets whys
    loop_taken n out serving name bytes term from to letters whys old new long wrote calm before k low bit =
        let here : k < length old = omega (arith, long, low) in
        let d = element old k here in
        let lane = calm k d low bit in
        lane_taken out name bytes term from to letters k (letter_at whys k) (slice_index_or old k d) (slice_index_or new k d) (wrote.each k d here)
        lane.0 lane.1 (before k low bit)

    -- enough lanes that serve, whose letters were good, don't refuse both writes of a draft
    module _ (n serving : ℕ) (draft : Draft) (out term from to : ℕ) (old new : List D) (long : length old ≡ n) (lettered : length draft.letters ≡ n)
        (calm : AreCalm ghosts n out serving old new) (good : AreGood n serving draft.letters)
        (enough : quorum_of draft ≤ count_in serving n) where
      full : (whys : List Why) → length whys ≡ n → AreTaken n serving Forgets whys
          → ((k : ℕ) → IsBitSet serving k → Forgets → letter_at whys k ≡ Lacks Register → ⊥) → good_count whys < quorum_of draft → ⊥
      full whys sized taken none few =
          let most = good_enough n serving whys sized (taken_good n serving Forgets whys taken none) in
          absurd (omega (arith, most, few, enough))

      propose_taken : (whys : List Why) → ((k : ℕ) → IsBitSet serving k → Forgets → letter_at whys k ≡ Lacks Register → ⊥)
          → Proposes ghosts draft out term from to (Err (WriteQuorum whys)) old new → ⊥
      propose_taken whys none did = elim did [
        | inl begun ↦ let most = good_enough n serving draft.letters lettered good in let few = begun.few in absurd (omega (arith, most, few, enough))
        | inr tried ↦
            let wrote = tried.2 in
            full whys (wrote.counted ∙ lettered) (loop_taken n out serving _ _ term from to draft.letters whys old new long wrote calm (λ k low bit. inl (good k low bit)))
            none tried.1
      ]

      mark_taken : (whys : List Why) → ((k : ℕ) → IsBitSet serving k → Forgets → letter_at whys k ≡ Lacks Register → ⊥)
          → MarksTaken ghosts draft out term from to (Err (WriteQuorum whys)) old new → ⊥
      mark_taken whys none x =
          let up = taken_up ghosts n draft out term from to (Err (WriteQuorum whys)) old new long x in
          let first = x.proposes.2 in
          let second = x.marks.2 in
          let taken : AreTaken n serving Forgets x.took.whys = loop_taken n out serving _ _ term from x.middle draft.letters x.took.whys old x.mid long first
          (calm_first ghosts n out serving old x.mid new up.3 calm) (λ k low bit. inl (good k low bit)) in
          let later : AreCalm ghosts n x.took.out serving x.mid new =
          subst (λ (o : ℕ). AreCalm ghosts n o serving x.mid new) (sym x.proposes.0) (calm_last ghosts n out serving old x.mid new up.1 calm) in
          full whys (second.counted ∙ (first.counted ∙ lettered))
          (loop_taken n x.took.out serving _ _ term x.middle to x.took.whys whys x.mid new (up.0 ∙ long) second later taken) none x.marks.0

      pub both_taken : (fault : QuorumFault) → ((whys : List Why) → fault ≡ WriteQuorum whys → (k : ℕ) → IsBitSet serving k → Forgets
          → letter_at whys k ≡ Lacks Register → ⊥) → WritesBoth ghosts draft out term from to (Err fault) old new → ⊥
      both_taken (ReadQuorum whys) none did = elim did [ inl refused ↦ absurd refused | inr taken ↦ absurd taken.marks ]
      both_taken (WriteQuorum whys) none did = elim did [
        | inl refused ↦ propose_taken whys (none whys refl) refused
        | inr taken ↦ mark_taken whys (none whys refl) taken
      ]
      both_taken (Undecided k u whys) none did = elim did [ inl refused ↦ absurd refused | inr taken ↦ absurd taken.marks ]
      both_taken NoMemory none did = elim did [ inl refused ↦ absurd refused | inr taken ↦ absurd taken.marks ]
