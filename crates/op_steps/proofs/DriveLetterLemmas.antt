-- The letters of the lanes of a section, after a look and after writes.
use Rattle.std.proofs.Common.{◌≡◌, ◌≢◌, ◌∙◌, ◌<◌, ◌≤◌, ℕ, List, Option, Some, None, Err, length, ap, sym, subst, subst₂, inl, inr, refl, arith}
use Rattle.std.specs.Prelude.{Bool, IsTrue, slice_index_or}
use Rattle.std.specs.Int.{IsBitSet}
use Rattle.std.proofs.lemmas.Option.{none-some}
use Rattle.call_types.specs.Good.{good_count}
use Rattle.call_types.specs.declared.why.FileKind.{FileKind}
use Rattle.call_types.specs.declared.why.FileKind.TheVariants.{Format, Manifest, Register, Shard}
use Rattle.call_types.specs.declared.why.Why.{Why}
use Rattle.call_types.specs.declared.why.Why.TheVariants.{Behind, Damaged, Failed, Good, Lacks}
use Rattle.drive_base.specs.Files.{Files}
use Rattle.drive_base.specs.View.{DriveView, view}
use Rattle.drive_base.specs.declared.drive.Drive.{Ghosts}
use Rattle.fault_base.specs.Counts.{Rose}
use Rattle.field_reader.specs.Format.{fault_at, place_of}
use Rattle.file_access.specs.Writing.{WriteCause}
use Rattle.register_file.specs.Layout.{register}
use Rattle.register_file.specs.Lengths.{longest_file}
use Rattle.register_file.specs.Record.{IsCanonical}
use Rattle.register_file.specs.Spelling.{file_of, register_kind, spelling}
use Rattle.register_file.specs.Table.{HasFault}
use Rattle.register_file.specs.declared.record.RegFile.{RegFile}
use Rattle.register_file.proofs.Lawful.{register_lawful}
use Rattle.register_core.specs.Found.{RefusedLetter, found_at}
use Rattle.register_core.specs.Looks.{LaneIsRead, LanesAreRead}
use Rattle.register_core.specs.LaneWrites.{OnLane, WritesEach, letter_at}
use Rattle.register_core.specs.Proposals.{quorum_of as quorum_of_draft}
use Rattle.register_core.specs.Records.{IsRegisterDamage, ShowsFile}
use Rattle.register_core.specs.declared.drafts.Draft.{Draft}
use Rattle.register_core.specs.declared.faults.QuorumFault.TheVariants.{WriteQuorum}
use Rattle.register_core.proofs.LaneLemmas.{none_set}
use Rattle.register_caller.specs.Steps.{MarksTaken, WritesBoth}
use Rattle.seal_file.specs.Sealing.{IsDamage}
use Rattle.seal_file.specs.declared.damage.Damage.{Damage}
use Rattle.seal_file.proofs.SealedLemmas.{no_damage, sealed-injective}
use Rattle.slot_rules.specs.Rules.{longest_for}
use Rattle.slot_core.specs.NameList.{NamesLetter}
use Rattle.slot_core.specs.Views.{SlotNumbers}
use Rattle.op_steps.specs.Causes.{BreaksRule, of_lanes}
use Rattle.op_steps.specs.Claims.{Claim}
use Rattle.op_steps.specs.DriveLetters.{DriveLetter}
use Rattle.op_steps.proofs.CalmLemmas.{Up, taken_up}
use Rattle.op_steps.proofs.ManifestLemmas.{too_long_is}

-- bytes that are damaged are no file of a register
no_register_file : (most : ℕ) (bytes : List ℕ) (damage : Damage) (file : RegFile) → IsRegisterDamage most bytes damage → IsCanonical file → bytes ≡ file_of file
    → length bytes ≤ most → ⊥
no_register_file most bytes damage file (inl long) canonical is short =
    let more = too_long_is most bytes damage long in absurd (omega (arith, more, short))
no_register_file most bytes damage file (inr (within, inl damaged)) canonical is short =
    no_damage register_kind (spelling file) damage refl (subst (λ (b : List ℕ). IsDamage register_kind b damage) is damaged)
no_register_file most bytes damage file (inr (within, inr (place, fault, same))) canonical is short =
    let there = subst (λ (b : List ℕ). HasFault b place) is fault in
    let body : spelling file ≡ there.body = (sealed-injective register_kind register_kind (spelling file) there.body refl there.seals).1 in
    let none : fault_at register (spelling file) ≡ None = ap place_of (register_lawful.read file canonical) in
    let some : fault_at register (spelling file) ≡ Some place = subst (λ (b : List ℕ). fault_at register b ≡ Some place) (sym body) there.fault in
    none-some place (sym none ∙ some)

module _ {D : Type 0} (ghosts : Ghosts D) (numbers : SlotNumbers) (claim : Claim) (name : List ℕ) where
  abbrev tells : D → Bool
  tells = ghosts.tells

  abbrev files : D → Files
  files = ghosts.files

  abbrev count : D → ℕ
  count = ghosts.count

  abbrev out : ℕ
  out = numbers.set.out

  abbrev most : ℕ
  most = longest_file (longest_for name)

  -- the letter of a lane over two moments of it
  abbrev pub LaneLetter : ℕ → Why → DriveView → DriveView → Type 0
  LaneLetter k why old new = DriveLetter (of_lanes ghosts numbers claim name) out k why old new

  -- ---- reads

  read_letter : (k : ℕ) (read : Option RegFile) (why : Why) (old new : D)
      → LaneIsRead most name read why (IsBitSet out k) (tells old) (files old) (count old) (count new) → LaneLetter k why (view ghosts old) (view ghosts new)
  read_letter k (Some file) why old new is = subst (λ (w : Why). LaneLetter k w (view ghosts old) (view ghosts new)) (sym is.0) is.1
  read_letter k None Good old new is = absurd is
  read_letter k None (Failed before after) old new is = is
  read_letter k None (Damaged damage) old new is = (
    is.0,
    λ told. let found = is.2 told in inl (λ file canonical shows.
        let at = subst (λ (b : Option (List ℕ)). ShowsFile most b file) found.1 shows in
        no_register_file most found.0 damage file found.2 canonical at.0 at.1),
  )
  read_letter k None (Behind ballot) old new is = absurd is
  read_letter k None (Lacks Format) old new is = is.0
  read_letter k None (Lacks Register) old new is = absurd is
  read_letter k None (Lacks Manifest) old new is = absurd is
  read_letter k None (Lacks Shard) old new is = absurd is

  -- where a content is refused, a lane that has it is damaged
  pub refused_letter : (k : ℕ) (read : Option RegFile) (content : List ℕ) (place : ℕ) (letter why : Why) (old new : D)
      → LaneIsRead most name read letter (IsBitSet out k) (tells old) (files old) (count old) (count new) → RefusedLetter read content place letter why
      → BreaksRule numbers claim name content → LaneLetter k why (view ghosts old) (view ghosts new)
  refused_letter k None content place letter why old new is same breaks =
      subst (λ (w : Why). LaneLetter k w (view ghosts old) (view ghosts new)) (sym same) (read_letter k None letter old new is)
  refused_letter k (Some file) content place letter why old new is (inl (has, damaged)) breaks =
      subst (λ (w : Why). LaneLetter k w (view ghosts old) (view ghosts new)) (sym damaged) (is.1, λ told. inr (file, content, is.4 told, has, breaks))
  refused_letter k (Some file) content place letter why old new is (inr (lacks, same)) breaks =
      subst (λ (w : Why). LaneLetter k w (view ghosts old) (view ghosts new)) (sym same) (read_letter k (Some file) letter old new is)

  -- a lane that was asked for its names
  pub names_letter : (k : ℕ) (why : Why) (old new : D) → NamesLetter (IsBitSet out k) why (count old) (count new) → LaneLetter k why (view ghosts old) (view ghosts new)
  names_letter k Good old new is = is.0
  names_letter k (Failed before after) old new is =
      let first = is.1 in
      let last = is.2 in
      (is.0, (omega (arith, first), subst₂ (λ (a b : ℕ). Rose a b) (sym first) (sym last) is.3, omega (arith, last)))
  names_letter k (Damaged damage) old new is = absurd is
  names_letter k (Behind ballot) old new is = absurd is
  names_letter k (Lacks Format) old new is = is.0
  names_letter k (Lacks Register) old new is = absurd is
  names_letter k (Lacks Manifest) old new is = absurd is
  names_letter k (Lacks Shard) old new is = absurd is

  -- ---- writes

  write_letter : (k : ℕ) (why : Why) (there : Type 0) (first : DriveView) (old new : D) → WriteCause Register there why (count old) (count new)
      → first.count ≤ count old → (IsBitSet out k → ⊥) → ((there → ⊥) → ((d : D) → IsTrue (tells d)) → ⊥) → LaneLetter k why first (view ghosts new)
  write_letter k Good there first old new cause up in_use forgets = in_use
  write_letter k (Failed before after) there first old new cause up in_use forgets =
      let begun = cause.0 in
      let last = cause.1 in
      (in_use, (omega (arith, begun, up), subst₂ (λ (a b : ℕ). Rose a b) (sym begun) (sym last) cause.2, omega (arith, last)))
  write_letter k (Damaged damage) there first old new cause up in_use forgets = absurd cause
  write_letter k (Behind ballot) there first old new cause up in_use forgets = absurd cause
  write_letter k (Lacks kind) there first old new cause up in_use forgets =
      subst (λ (f : FileKind). LaneLetter k (Lacks f) first (view ghosts new)) (sym cause.0) (in_use, (refl, forgets cause.1))

  lane_letter : (nm bytes : List ℕ) (term from to : ℕ) (letters : List Why) (k : ℕ) (why : Why) (first : DriveView) (old new : D)
      → OnLane ghosts out 0 nm bytes term from to letters k why old new → first.count ≤ count old
      → (letter_at letters k ≢ Good → LaneLetter k (letter_at letters k) first (view ghosts old)) → LaneLetter k why first (view ghosts new)
  lane_letter nm bytes term from to letters k why first old new on up before = elim on [
    | inl gone ↦ subst (λ (w : Why). LaneLetter k w first (view ghosts new)) (sym gone.letter) gone.out_is
    | inr (inl kept) ↦ elim kept.passed_is [
      | inl bit ↦ absurd (none_set k bit)
      | inr bad ↦ subst (λ (w : Why). LaneLetter k w first (view ghosts new)) (sym kept.letter_is)
          (subst (λ (d : D). LaneLetter k (letter_at letters k) first (view ghosts d)) (sym kept.stays) (before bad))
    ]
    | inr (inr done) ↦ write_letter k why (IsTrue (tells old)) first old new done.1.cause up done.0.in_use (λ untold all. untold (all old))
  ]

  -- ---- the lanes of a section that began with these

  module _ (was : List D) where
    -- each lane has its letter since then
    abbrev pub Lettered : List Why → List D → Type 0
    Lettered whys now = (k : ℕ) (d : D) → k < numbers.set.drives → k < length was → k < length now
        → LaneLetter k (letter_at whys k) (view ghosts (slice_index_or was k d)) (view ghosts (slice_index_or now k d))

    -- each lane has whose letter isn't good
    abbrev pub BadLettered : List Why → List D → Type 0
    BadLettered whys now = (k : ℕ) (d : D) → k < numbers.set.drives → k < length was → k < length now → letter_at whys k ≢ Good
        → LaneLetter k (letter_at whys k) (view ghosts (slice_index_or was k d)) (view ghosts (slice_index_or now k d))

    -- no count fell since then
    abbrev pub Rises : List D → Type 0
    Rises now = (k : ℕ) (d : D) → k < length was → k < length now → count (slice_index_or was k d) ≤ count (slice_index_or now k d)

    pub rises_on : (mid new : List D) → length new ≡ length mid → Rises mid → Up ghosts (length mid) mid new → Rises new
    rises_on mid new long first more k d low there =
        let here : k < length mid = omega (arith, long, there) in
        let a = first k d low here in
        let b = more k d here in
        omega (arith, a, b)

    pub looked_lettered : (found : List (Option RegFile)) (whys : List Why) (mid : List D)
        → LanesAreRead ghosts out most name found whys was mid → Lettered whys mid
    looked_lettered found whys mid read k d in_set low there = read_letter k (found_at found k) (letter_at whys k) (slice_index_or was k d) (slice_index_or mid k d)
        (read.each k d low)

    loop_lettered : (nm bytes : List ℕ) (term from to : ℕ) (letters whys : List Why) (old new : List D)
        → WritesEach ghosts out 0 nm bytes term from to letters whys old new → Rises old → BadLettered letters old → Lettered whys new
    loop_lettered nm bytes term from to letters whys old new wrote up before k d in_set low there =
        let long = wrote.long in
        let here : k < length old = omega (arith, long, there) in
        lane_letter nm bytes term from to letters k (letter_at whys k) (view ghosts (slice_index_or was k d)) (slice_index_or old k d) (slice_index_or new k d)
        (wrote.each k d here) (up k d low here) (before k d in_set low here)

    -- both writes of a draft that too few lanes took
    module _ (draft : Draft) (term from to : ℕ) (old new : List D) (up : Rises old) (before : BadLettered draft.letters old)
        (begun : good_count draft.letters < quorum_of_draft draft → Lettered draft.letters old) where
      marked : (whys : List Why) → MarksTaken ghosts draft out term from to (Err (WriteQuorum whys)) old new → Lettered whys new
      marked whys x =
          let more = taken_up ghosts (length old) draft out term from to (Err (WriteQuorum whys)) old new refl x in
          let first : Lettered x.took.whys x.mid = loop_lettered _ _ term from x.middle draft.letters x.took.whys old x.mid x.proposes.2 up before in
          loop_lettered _ _ term x.middle to x.took.whys whys x.mid new
          (subst (λ (o : ℕ). WritesEach ghosts o 0 _ _ term x.middle to x.took.whys whys x.mid new) x.proposes.0 x.marks.2)
          (rises_on old x.mid more.0 up more.1) (λ k d in_set low there bad. first k d in_set low there)

      pub both_lettered : (whys : List Why) → WritesBoth ghosts draft out term from to (Err (WriteQuorum whys)) old new
          → Lettered whys new × (good_count whys < quorum_of_draft draft)
      both_lettered whys did = elim did [
        | inl (inl none) ↦ (
          subst (λ (l : List Why). Lettered l new) (sym none.letters) (subst (λ (l : List D). Lettered draft.letters l) (sym none.stays)
              (begun none.few)),
          subst (λ (l : List Why). good_count l < quorum_of_draft draft) (sym none.letters) none.few,
        )
        | inl (inr tried) ↦ (loop_lettered _ _ term from to draft.letters whys old new tried.2 up before, tried.1)
        | inr taken ↦ (marked whys taken, taken.marks.0)
      ]
