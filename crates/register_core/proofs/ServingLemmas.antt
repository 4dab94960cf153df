-- Lanes that serve have good letters, and these are counted.
use Rattle.std.proofs.Common.{◌≡◌, ◌≢◌, ◌⊎◌, ◌<◌, ◌≤◌, ◌+◌, ℕ, suc, zero, ◌^◌, ◌∙◌, List, [], ◌∷◌, Option, None, Some, length, sym, ap, subst, inl, inr, arith, refl, cond, nat_lt, bit_and}
use Rattle.std.specs.Prelude.{Bool, true, false, IsTrue, ◌↔◌, count_by, slice_index_or}
use Rattle.std.specs.Int.{IsBitSet}
use Rattle.std.specs.List.{range_with_len}
use Rattle.std.specs.Option.{option_map}
use Rattle.std.proofs.lemmas.List.Sums.{sum_by-cons}
use Rattle.fault_base.specs.Counts.{Rose}
use Rattle.seal_file.specs.declared.damage.Damage.{Damage}
use Rattle.seal_file.specs.declared.damage.Damage.TheVariants.{Short, Digest, Kind, Spelling, Long}
use Rattle.seal_file.proofs.SealedLemmas.{no_damage, sealed-injective}
use Rattle.field_reader.specs.Format.{fault_at, place_of}
use Rattle.call_types.specs.Good.{good_count, is_good}
use Rattle.call_types.specs.declared.why.FileKind.TheVariants.{Format, Register, Manifest, Shard}
use Rattle.call_types.specs.declared.why.Why.{Why}
use Rattle.call_types.specs.declared.why.Why.TheVariants.{Good, Failed, Damaged, Behind, Lacks}
use Rattle.drive_base.specs.declared.drive.Drive.{Ghosts}
use Rattle.drive_base.specs.DriveSet.{count_in, is_in}
use Rattle.drive_base.specs.Files.{Files}
use Rattle.file_access.specs.Reading.{FailedWhile, IsTooLong}
use Rattle.file_access.specs.Writing.{WriteCause}
use Rattle.sealed_record.specs.Fields.{IfThere}
use Rattle.sealed_record.specs.Laws.{SpellingsAreRead}
use Rattle.register_file.specs.Layout.{register}
use Rattle.register_file.specs.Lengths.{ContentsFit, FilesAreNoLonger, longest_file}
use Rattle.register_file.specs.Record.{IsCanonical}
use Rattle.register_file.specs.Spelling.{file_of, register_kind, spelling}
use Rattle.register_file.specs.Table.{register_table}
use Rattle.register_file.specs.declared.record.Next.{Next}
use Rattle.register_file.specs.declared.record.RegFile.{RegFile}
use Rattle.vote_core.specs.Lane.{Lane, blank_lane, Next as LaneNext}
use Rattle.register_core.specs.Looks.{LaneIsRead}
use Rattle.register_core.specs.LaneWrites.{OnLane, WritesEach, letter_at}
use Rattle.register_core.specs.Records.{HasLane, IsRegisterDamage, StandsFor, lane_of, next_of}
use Rattle.register_core.specs.ServingLanes.{AllServe, IsWithin, Serves}
use Rattle.stamp_id.specs.declared.stamp.Ballot.{Ballot}
use Rattle.register_core.proofs.LaneLemmas.{none_set}
use Rattle.register_core.proofs.SeenLemmas.{element}

-- a count that rose within a call rose over it
rose_wider : (before after old new : ℕ) → FailedWhile before after old new → Rose old new
rose_wider before after old new (low, rose, high) = (
  omega (arith, low, rose.0, high),
  elim rose.1 [
    | inl up ↦ inl (omega (arith, low, up, high))
    | inr top ↦ inr (omega (arith, top, high))
  ],
)

-- the contents of a record that are not too long are those of its file
contents_fit : (longest : ℕ) (file : RegFile) → IsWithin longest (lane_of file) → ContentsFit longest file
contents_fit longest file within = record { base = within.base; next = next_fits file.next within.next }
  where
    next_fits : (next : Option Next) → ((n : LaneNext) → option_map next_of next ≡ Some n → length n.content ≤ longest)
        → IfThere (λ (n : Next). length n.content ≤ longest) next
    next_fits None fits = tt
    next_fits (Some next) fits = fits (next_of next) refl

-- a file that is too long is told as that
too_long_is : (most : ℕ) (file : List ℕ) (damage : Damage) → IsTooLong most file damage → most < length file
too_long_is most file (Short n) long = absurd long
too_long_is most file (Digest stored computed) long = absurd long
too_long_is most file (Kind kind) long = absurd long
too_long_is most file (Spelling place) long = absurd long
too_long_is most file (Long n) long = omega (arith, long.0, long.1)

-- the file of a canonical record whose contents are not too long has no damage
no_register_damage : SpellingsAreRead register_table → FilesAreNoLonger → (longest : ℕ) (file : RegFile) (damage : Damage) → IsCanonical file
    → ContentsFit longest file → IsRegisterDamage (longest_file longest) (file_of file) damage → ⊥
no_register_damage read lengths longest file damage canonical fit (inl long) =
    let more = too_long_is (longest_file longest) (file_of file) damage long in
    let most = lengths longest file canonical fit in
    absurd (omega arith)
no_register_damage read lengths longest file damage canonical fit (inr (within, inl damaged)) = no_damage register_kind (spelling file) damage refl damaged
no_register_damage read lengths longest file damage canonical fit (inr (within, inr (place, fault, same))) =
    let body : spelling file ≡ fault.body = (sealed-injective register_kind register_kind (spelling file) fault.body refl fault.seals).1 in
    let none : fault_at register (spelling file) ≡ None = ap place_of (read file canonical) in
    let some : fault_at register (spelling file) ≡ Some place = subst (λ (b : List ℕ). fault_at register b ≡ Some place) (sym body) fault.fault in
    absurd (let apart : None ≡ Some place = sym none ∙ some in cc)

-- what is shown of a record that a lane keeps isn't damaged
shown_is_whole : SpellingsAreRead register_table → FilesAreNoLonger → (longest : ℕ) (kept : Option (List ℕ)) (bytes : List ℕ) (damage : Damage) (lane : Lane)
    → kept ≡ Some bytes → HasLane kept lane → IsWithin longest lane → IsRegisterDamage (longest_file longest) bytes damage → ⊥
shown_is_whole read lengths longest kept bytes damage lane is has within damaged =
    let file = has.0 in
    let same : bytes ≡ file_of file = subst (λ (b : Option (List ℕ)). StandsFor b file) is has.2 in
    no_register_damage read lengths longest file damage has.1 (contents_fit longest file (subst (IsWithin longest) has.3 within))
    (subst (λ (b : List ℕ). IsRegisterDamage (longest_file longest) b damage) same damaged)

-- a lane that serves and shows what it keeps is read
pub serving_lane_is_read : SpellingsAreRead register_table → FilesAreNoLonger
    → (longest : ℕ) (name : List ℕ) (read : Option RegFile) (why : Why) (out : Type 0) (tells : Bool) (files : Files) (old new : ℕ) (lane : Lane)
    → LaneIsRead (longest_file longest) name read why out tells files old new
    → (out → ⊥) → IsTrue tells → (Rose old new → ⊥) → files.shown name ≡ files.kept name → HasLane (files.kept name) lane → IsWithin longest lane
    → why ≡ Good
serving_lane_is_read spelled lengths longest name (Some file) why out tells files old new lane is in_use told calm shows has within = is.0
serving_lane_is_read spelled lengths longest name None Good out tells files old new lane is in_use told calm shows has within = refl
serving_lane_is_read spelled lengths longest name None (Failed before after) out tells files old new lane is in_use told calm shows has within =
    absurd (calm (rose_wider before after old new is.1))
serving_lane_is_read spelled lengths longest name None (Damaged damage) out tells files old new lane is in_use told calm shows has within =
    let found = is.2 told in
    absurd (shown_is_whole spelled lengths longest (files.kept name) found.0 damage lane (sym shows ∙ found.1) has within found.2)
serving_lane_is_read spelled lengths longest name None (Behind ballot) out tells files old new lane is in_use told calm shows has within = absurd is
serving_lane_is_read spelled lengths longest name None (Lacks Format) out tells files old new lane is in_use told calm shows has within = absurd (in_use is.0)
serving_lane_is_read spelled lengths longest name None (Lacks Register) out tells files old new lane is in_use told calm shows has within = absurd is
serving_lane_is_read spelled lengths longest name None (Lacks Manifest) out tells files old new lane is in_use told calm shows has within = absurd is
serving_lane_is_read spelled lengths longest name None (Lacks Shard) out tells files old new lane is in_use told calm shows has within = absurd is

-- what a test adds to a count
abbrev one_if : Bool → ℕ
one_if b = cond b 1 0

-- a test counts 1 or 0
counts : (b : Bool) → ((b ≡ true) × (one_if b ≡ 1)) ⊎ ((b ≡ false) × (one_if b ≡ 0))
counts true = inl (refl, refl)
counts false = inr (refl, refl)

-- a lane that a set has
bit_set : (n : ℕ) → nat_lt 0 n ≡ true → n ≢ 0
bit_set zero above = absurd (let no : false ≡ true = above in cc)
bit_set (suc n) above = λ e. absurd (omega (arith, e))

-- the lanes of a set, counted from a place on, are no more than the good letters
good_from : (set : ℕ) (whys : List Why) (from : ℕ) → ((k : ℕ) → k < length whys → IsBitSet set (from + k) → letter_at whys k ≡ Good)
    → count_by (is_in set) (range_with_len from (length whys)) ≤ good_count whys
good_from set [] from good = omega arith
good_from set (why ∷ whys) from good =
    let one = sum_by-cons (λ k. one_if (is_in set k)) from (range_with_len (from + 1) (length whys)) in
    let other = sum_by-cons (λ w. one_if (is_good w)) why whys in
    let rest = good_from set whys (from + 1) (λ k low bit.
    let same : from + 1 + k ≡ from + suc k = omega arith in good (suc k) (omega arith) (subst (IsBitSet set) same bit)) in
    elim (counts (is_in set from)) [
      | inl has ↦
          let same : from ≡ from + 0 = omega arith in
          let is : why ≡ Good = good zero (omega arith) (subst (IsBitSet set) same (bit_set (bit_and set (2 ^ from)) has.0)) in
          let more : one_if (is_good why) ≡ 1 = ap (λ (w : Why). one_if (is_good w)) is in
          let h = has.1 in omega arith
      | inr lacks ↦ let h = lacks.1 in omega arith
    ]

pub good_letters_count : (set : ℕ) (whys : List Why) → ((k : ℕ) → k < length whys → IsBitSet set k → letter_at whys k ≡ Good)
    → count_in set (length whys) ≤ good_count whys
good_letters_count set whys good = good_from set whys 0 (λ k low bit. let same : 0 + k ≡ k = omega arith in good k low (subst (IsBitSet set) same bit))

-- the record of a lane that keeps no file
abbrev zero_ballot : Ballot
zero_ballot = record { term = 0; seq = 0; term_fits = omega arith; seq_fits = omega arith }

abbrev blank_record : RegFile
blank_record = record { base = record { ballot = zero_ballot; change = record { 0 = zero_ballot }; content = [] }; next = None }

pub no_file_is_blank : (lane : Lane) → HasLane None lane ↔ (lane ≡ blank_lane)
no_file_is_blank lane = (
  λ has. has.3 ∙ has.2,
  λ same. (blank_record, record { base = omega arith; next = tt }, refl, same),
)

-- why a write to a lane that serves didn't fail
cause_is_good : (why : Why) (there : Type 0) (old new : ℕ) → WriteCause Register there why old new → there → (Rose old new → ⊥) → why ≡ Good
cause_is_good Good there old new cause told calm = refl
cause_is_good (Failed before after) there old new cause told calm = absurd (calm cause.2)
cause_is_good (Damaged damage) there old new cause told calm = absurd cause
cause_is_good (Behind ballot) there old new cause told calm = absurd cause
cause_is_good (Lacks kind) there old new cause told calm = absurd (cause.1 told)

module _ {D : Type 0} (ghosts : Ghosts D) where
  -- a lane that serves takes the write of a loop
  on_lane_good : (out : ℕ) (name bytes : List ℕ) (term from to : ℕ) (letters : List Why) (k : ℕ) (why : Why) (old new : D)
      → OnLane ghosts out 0 name bytes term from to letters k why old new → Serves ghosts out k old new → letter_at letters k ≡ Good → why ≡ Good
  on_lane_good out name bytes term from to letters k why old new on serves good = elim on [
    | inl gone ↦ absurd (serves.in_use gone.out_is)
    | inr (inl kept) ↦ elim kept.passed_is [ inl bit ↦ absurd (none_set k bit) | inr bad ↦ absurd (bad good) ]
    | inr (inr done) ↦ cause_is_good why (IsTrue (ghosts.tells old)) (ghosts.count old) (ghosts.count new) done.1.cause serves.told serves.calm
  ]

  -- so the lanes of a set that serve are no more than the good letters after it
  pub served : (out : ℕ) (name bytes : List ℕ) (term from to : ℕ) (letters whys : List Why) (old new : List D) (serving : ℕ)
      → WritesEach ghosts out 0 name bytes term from to letters whys old new → length letters ≡ length old
      → AllServe ghosts out serving letters old new → count_in serving (length old) ≤ good_count whys
  served out name bytes term from to letters whys old new serving wrote sized serve =
      subst (λ (n : ℕ). count_in serving n ≤ good_count whys) (wrote.counted ∙ sized)
      (good_letters_count serving whys (λ k low bit.
      let here : k < length old = omega (arith, wrote.counted) in
      let e = element old k here in
      let lane = serve k e here bit in
      on_lane_good out name bytes term from to letters k (letter_at whys k) (slice_index_or old k e) (slice_index_or new k e) (wrote.each k e here) lane.0 lane.1))

  -- and no more than the good letters before it
  pub served_before : (out : ℕ) (letters : List Why) (old new : List D) (serving : ℕ) → length letters ≡ length old
      → AllServe ghosts out serving letters old new → count_in serving (length old) ≤ good_count letters
  served_before out letters old new serving sized serve =
      subst (λ (n : ℕ). count_in serving n ≤ good_count letters) sized
      (good_letters_count serving letters (λ k low bit. let here : k < length old = omega arith in (serve k (element old k here) here bit).1))
