-- The letters of lanes on which a section made a change, by its calls.
use Rattle.std.proofs.Common.{◌≡◌, ◌∙◌, ◌<◌, ◌≤◌, ℕ, List, Option, Some, None, Result, Ok, Err, MatchOption, length, replicate, ap, sym, subst, subst₂, inl, inr, refl, arith}
use Rattle.std.specs.Prelude.{Bool, IsTrue, slice_index_or, string_bytes}
use Rattle.std.specs.Int.{IsBitSet}
use Rattle.std.proofs.lemmas.List.{get_or-replicate, length-replicate}
use Rattle.audit_trail.specs.declared.entry.Deed.{Deed}
use Rattle.audit_trail.specs.declared.entry.Deed.TheVariants.{Done}
use Rattle.audit_trail.specs.declared.entry.Entry.{Entry}
use Rattle.call_types.specs.declared.act.Brief.TheVariants.{Answer}
use Rattle.call_types.specs.Refusals.{refusal_of}
use Rattle.call_types.specs.declared.reply.Reply.{Reply}
use Rattle.call_types.specs.declared.reply.Reply.TheVariants.{Refused as RefusedReply}
use Rattle.call_types.specs.Good.{good_count}
use Rattle.call_types.specs.declared.why.FileKind.TheVariants.{Format, Manifest, Register, Shard}
use Rattle.call_types.specs.declared.why.Why.{Why}
use Rattle.call_types.specs.declared.why.Why.TheVariants.{Behind, Damaged, Failed, Good, Lacks}
use Rattle.drive_base.specs.Files.{Files}
use Rattle.drive_base.specs.Plan.{write_drives}
use Rattle.drive_base.specs.declared.drive.Drive.{Ghosts}
use Rattle.drive_base.specs.declared.plan.SetPlan.{SetPlan}
use Rattle.fault_base.specs.Counts.{Rose}
use Rattle.file_access.specs.Writing.{WriteCause}
use Rattle.register_file.specs.Lengths.{longest_file}
use Rattle.register_file.specs.declared.record.Next.{Next}
use Rattle.stamp_id.specs.Rank.{change_of}
use Rattle.stamp_id.specs.declared.stamp.ChangeId.{ChangeId}
use Rattle.stamp_id.specs.declared.version.VersionId.{VersionId}
use Rattle.register_core.specs.Drafts.{EndsAt, letters_for}
use Rattle.register_core.specs.LaneWrites.{OnLane, letter_at}
use Rattle.register_core.specs.OnLanes.{AllTell, AreUnused}
use Rattle.register_core.specs.Records.{HasLane, lane_of, marked_base, settled_file}
use Rattle.register_core.specs.declared.drafts.Draft.{Draft}
use Rattle.register_core.proofs.LaneLemmas.{none_set}
use Rattle.register_core.proofs.ViewedLemmas.{tells_on}
use Rattle.register_caller.specs.Steps.{MarksTaken}
use Rattle.register_caller.proofs.CallingLemmas.{tell_after, unused_after_look}
use Rattle.slot_rules.specs.Deeds.{call_of, name_of}
use Rattle.slot_rules.specs.declared.commit.Commit.{Commit}
use Rattle.slot_rules.specs.declared.commit.Committed.{Committed}
use Rattle.slot_history.specs.Moving.{drawn_by}
use Rattle.slot_core.specs.Calm.{HasMade, MadeIn, OnlyLooked}
use Rattle.slot_core.specs.CommitCauses.{CommitCause, FoundSo, OwnAfterAgain, OwnAtOnce, WroteSo, deed_in}
use Rattle.slot_core.specs.Commits.{CommitDeed, SaysCommit}
use Rattle.slot_core.specs.Sections.{SaysKept}
use Rattle.slot_core.specs.Stubs.{Says, entry_of}
use Rattle.slot_core.specs.declared.stub.Stub.{Stub}
use Rattle.slot_core.specs.declared.slot.SlotFault.{SlotFault}
use Rattle.slot_core.specs.declared.slot.SlotFault.TheVariants.{AuditFailed, Key, NoMemory, NotInFlight, Quorum, SeqSpent}
use Rattle.slot_core.proofs.CalmingLemmas.{looked_not_made}
use Rattle.slot_core.proofs.WritingLemmas.{drawn_own}
use Rattle.op_steps.specs.ChangeLetters.{ChangeLetters, KeepsBaseOf, LaneLetter}
use Rattle.op_steps.specs.Notes.{entry_in, noted}
use Rattle.op_steps.specs.Store.{SlotSeen}
use Rattle.op_steps.proofs.NoteLemmas.{same_entry}
use Rattle.op_steps.proofs.CalmLemmas.{both_up, look_up, taken_up, up_twice}

-- what a note says that was made, its stub says
made_by : (stub : Option Stub) (name : List ℕ) (change : ChangeId) → HasMade (entry_in (noted stub)) name change → HasMade (entry_of stub) name change
made_by stub name change made = subst (λ (e : Option Entry). HasMade e name change) (same_entry stub) made

-- an entry of a section that only looked says of no change that it was made
none_made : (entry : Option Entry) (name : List ℕ) (change : ChangeId) → MatchOption entry (Unit {0}) (λ told. OnlyLooked told.deed)
    → HasMade entry name change → ⊥
none_made None name change looked made = made
none_made (Some told) name change looked made = looked_not_made told.deed change looked made.1

looks_by : (entry : Option Entry) (What : Entry → Type 0) → ((told : Entry) → What told → OnlyLooked told.deed) → MatchOption entry (Unit {0}) What
    → MatchOption entry (Unit {0}) (λ told. OnlyLooked told.deed)
looks_by None What looks says = tt
looks_by (Some told) What looks says = looks told says

-- so does a stub
pub says_none : (stub : Option Stub) (What : Entry → Type 0) → ((told : Entry) → What told → OnlyLooked told.deed) → Says stub What
    → (name : List ℕ) (change : ChangeId) → HasMade (entry_in (noted stub)) name change → ⊥
says_none stub What looks says name change made = none_made (entry_of stub) name change (looks_by (entry_of stub) What looks says)
    (made_by stub name change made)

-- that of a section which did nothing of its own does
pub kept_none : (called : List ℕ) (stub : Option Stub) → Says stub (SaysKept called) → (name : List ℕ) (change : ChangeId)
    → HasMade (entry_in (noted stub)) name change → ⊥
kept_none called stub says = says_none stub (SaysKept called) (λ told is. subst OnlyLooked (sym is.deed_is) tt) says

module _ {D : Type 0} (ghosts : Ghosts D) where
  abbrev tells : D → Bool
  tells = ghosts.tells

  abbrev files : D → Files
  files = ghosts.files

  abbrev count : D → ℕ
  count = ghosts.count

  -- a letter of a part of a section is one of the whole
  letter_wider : (out k : ℕ) (why : Why) (old first last new : D) → tells first ≡ tells old → count old ≤ count first → count last ≤ count new
      → LaneLetter ghosts out k why first last → LaneLetter ghosts out k why old new
  letter_wider out k Good old first last new told low high is = is
  letter_wider out k (Failed before after) old first last new told low high (in_use, (from_it, rose, to_it)) =
      (in_use, (omega (arith, low, from_it), rose, omega (arith, high, to_it)))
  letter_wider out k (Damaged damage) old first last new told low high is = is
  letter_wider out k (Behind ballot) old first last new told low high is = is
  letter_wider out k (Lacks Format) old first last new told low high is = is
  letter_wider out k (Lacks Register) old first last new told low high is = (is.0, λ tell. is.1 (subst IsTrue (sym told) tell))
  letter_wider out k (Lacks Manifest) old first last new told low high is = is
  letter_wider out k (Lacks Shard) old first last new told low high is = is

  -- that of one write
  write_letter : (out k : ℕ) (why : Why) (old new : D) → (IsBitSet out k → ⊥) → WriteCause Register (IsTrue (tells old)) why (count old) (count new)
      → LaneLetter ghosts out k why old new
  write_letter out k Good old new in_use cause = in_use
  write_letter out k (Failed before after) old new in_use (first, last, rose) =
      (in_use, (omega (arith, first), subst₂ (λ (a b : ℕ). Rose a b) (sym first) (sym last) rose, omega (arith, last)))
  write_letter out k (Damaged damage) old new in_use cause = absurd cause
  write_letter out k (Behind ballot) old new in_use cause = absurd cause
  write_letter out k (Lacks Format) old new in_use cause = absurd (let same : Format ≡ Register = cause.0 in cc)
  write_letter out k (Lacks Register) old new in_use cause = (in_use, cause.1)
  write_letter out k (Lacks Manifest) old new in_use cause = absurd (let same : Manifest ≡ Register = cause.0 in cc)
  write_letter out k (Lacks Shard) old new in_use cause = absurd (let same : Shard ≡ Register = cause.0 in cc)

  out_letter : (out k : ℕ) (why : Why) (old new : D) → IsBitSet out k → why ≡ Lacks Format → LaneLetter ghosts out k why old new
  out_letter out k why old new is letter = subst (λ (w : Why). LaneLetter ghosts out k w old new) (sym letter) is

  -- that of a lane whose letter was good, after a loop
  first_letter : (out : ℕ) (name bytes : List ℕ) (term from to : ℕ) (letters : List Why) (k : ℕ) (why : Why) (old new : D)
      → OnLane ghosts out 0 name bytes term from to letters k why old new → letter_at letters k ≡ Good → LaneLetter ghosts out k why old new
  first_letter out name bytes term from to letters k why old new on good = elim on [
    | inl gone ↦ out_letter out k why old new gone.out_is gone.letter
    | inr (inl kept) ↦ elim kept.passed_is [ inl bit ↦ absurd (none_set k bit) | inr bad ↦ absurd (bad good) ]
    | inr (inr done) ↦ write_letter out k why old new done.0.in_use done.1.cause
  ]

  -- and after another one
  next_letter : (out : ℕ) (name bytes : List ℕ) (term from to : ℕ) (letters : List Why) (k : ℕ) (why : Why) (old mid new : D)
      → OnLane ghosts out 0 name bytes term from to letters k why mid new → tells mid ≡ tells old → count old ≤ count mid → count mid ≤ count new
      → LaneLetter ghosts out k (letter_at letters k) old mid → LaneLetter ghosts out k why old new
  next_letter out name bytes term from to letters k why old mid new on told low high before = elim on [
    | inl gone ↦ out_letter out k why old new gone.out_is gone.letter
    | inr (inl kept) ↦ subst (λ (w : Why). LaneLetter ghosts out k w old new) (sym kept.letter_is)
        (letter_wider out k (letter_at letters k) old old mid new refl (omega arith) high before)
    | inr (inr done) ↦ letter_wider out k why old mid new new told low (omega arith) (write_letter out k why mid new done.0.in_use done.1.cause)
  ]

  -- the letters of both writes of a draft on all lanes
  module _ (draft : Draft) (out term from to : ℕ) (whys : List Why) (old new : List D)
      (x : MarksTaken ghosts draft out term from to (Ok whys) old new)
      (all : draft.letters ≡ replicate draft.set.drives Good) where
    pub written_counted : length whys ≡ draft.set.drives
    written_counted = x.marks.2.counted ∙ (x.proposes.2.counted ∙ (ap (λ (l : List Why). length l) all ∙ length-replicate draft.set.drives Good))

    pub written_letter : (k : ℕ) (d : D) → k < draft.set.drives
        → LaneLetter ghosts out k (letter_at whys k) (slice_index_or old k d) (slice_index_or new k d)
    written_letter k d low =
        let up = taken_up ghosts draft.set.drives draft out term from to (Ok whys) old new x.long x in
        let here : k < length old = (let long = x.long in omega (arith, long, low)) in
        let there : k < length x.mid = (let long = up.0 in omega (arith, long, here)) in
        let good : letter_at draft.letters k ≡ Good =
        ap (λ (l : List Why). letter_at l k) all ∙ get_or-replicate draft.set.drives k Good (Lacks Format) low in
        let same : x.took.out ≡ out = x.proposes.0 in
        let first = first_letter out (string_bytes draft.name) draft.first.items term from x.middle draft.letters k (letter_at x.took.whys k)
        (slice_index_or old k d)
        (slice_index_or x.mid k d) (x.proposes.2.each k d here) good in
        next_letter out (string_bytes draft.name) draft.last.items term x.middle to x.took.whys k (letter_at whys k) (slice_index_or old k d)
        (slice_index_or x.mid k d)
        (slice_index_or new k d)
        (subst (λ (o : ℕ). OnLane ghosts o 0 (string_bytes draft.name) draft.last.items term x.middle to x.took.whys k (letter_at whys k)
        (slice_index_or x.mid k d) (slice_index_or new k d)) same (x.marks.2.each k d there))
        (tells_on ghosts old x.mid x.lanes_mid k d here) (up.1 k d low) (up.3 k d low) first

  -- the file that a lane keeps whose letter is good
  written_base : (draft : Draft) (own : Next) (name : List ℕ) (kept : Option (List ℕ)) → EndsAt draft (marked_base own) → kept ≡ Some draft.last.items
      → KeepsBaseOf (change_of own.change) kept
  written_base draft own name kept ends is = (
    lane_of (settled_file (marked_base own)),
    subst (λ (b : Option (List ℕ)). HasLane b (lane_of (settled_file (marked_base own)))) (sym is)
        (settled_file (marked_base own), ends.canonical, ends.last, refl),
    refl,
  )

  module _ (was now : SlotSeen D) (name : List ℕ) (rule : List ℕ → Option ℕ) (longest : ℕ) (content : List ℕ) (own : Next) (whys : List Why)
      (disks disks_after : List D) where
    abbrev set : SetPlan
    set = was.numbers.set

    -- the change was written at once
    at_once : OwnAtOnce ghosts was.numbers now.numbers name rule longest content own (Ok whys) was.lanes now.lanes disks disks_after
        → ChangeLetters ghosts was now name own.change
    at_once x =
        let looks = x.concluded.looks in
        let plan : x.draft.set ≡ set = x.drafted.set ∙ looks.plan in
        let drives : x.draft.set.drives ≡ set.drives = ap (λ (s : SetPlan). s.drives) plan in
        let all : x.draft.letters ≡ replicate x.draft.set.drives Good = x.drafted.letters ∙
        (ap (λ (p : Option Next). letters_for p x.looked.whys x.looked.set.drives) x.settled
        ∙ ap (λ (s : SetPlan). replicate s.drives Good) (sym x.drafted.set)) in
        let long : length x.mid ≡ set.drives = x.writes.long ∙ drives in
        let long_old : length was.lanes ≡ set.drives = sym x.long ∙ long in
        record {
          whys = whys;
          counted = written_counted x.draft set.out was.numbers.term was.numbers.count now.numbers.count whys x.mid now.lanes x.writes all ∙ drives;
          each = λ k d low. letter_wider set.out k (letter_at whys k) (slice_index_or was.lanes k d) (slice_index_or x.mid k d) (slice_index_or now.lanes k d)
              (slice_index_or now.lanes k d) (x.tell k d (omega (arith, long_old, low)))
              (look_up ghosts set.drives (longest_file longest) set.out name looks.found x.looked.whys was.lanes x.mid long_old looks.read k d
              low) (omega arith)
              (written_letter x.draft set.out was.numbers.term was.numbers.count now.numbers.count whys x.mid now.lanes x.writes all k d
              (omega (arith, drives, low)));
          enough = subst (λ (s : SetPlan). write_drives s.drives s.parity ≤ good_count whys) plan x.writes.marks.0;
          marked = λ records state stands k d low good.
              let tell : AllTell tells set.out x.mid = tell_after tells files set.out was.lanes x.mid x.long x.tell stands.have.tell in
              let unused : AreUnused files set.out was.numbers.term was.numbers.count x.mid =
              unused_after_look tells files set.out was.numbers.term was.numbers.count was.lanes x.mid x.long x.concluded.stay stands.have.tell
              stands.have.unused in
              let up = taken_up ghosts x.draft.set.drives x.draft set.out was.numbers.term was.numbers.count now.numbers.count (Ok whys) x.mid
              now.lanes x.writes.long x.writes in
              let called : string_bytes x.draft.name ≡ name = x.drafted.name ∙ looks.named in
              written_base x.draft own name ((files (slice_index_or now.lanes k d)).kept name) x.drafted.«of».ends
              (subst (λ (n : List ℕ). (files (slice_index_or now.lanes k d)).kept n ≡ Some x.draft.last.items) called
              (x.writes.keep tell unused k d (let a = up.0 in let b = up.2 in omega (arith, a, b, long, low)) good));
        }

    -- or after what was pending was completed
    after_again : OwnAfterAgain ghosts was.numbers now.numbers name rule longest content own (Ok whys) was.lanes now.lanes disks disks_after
        → ChangeLetters ghosts was now name own.change
    after_again x =
        let looks = x.concluded.looks in
        let first_plan : x.first.set ≡ set = x.first_drafted.set ∙ looks.plan in
        let plan : x.draft.set ≡ set = x.drafted.set ∙ first_plan in
        let drives : x.draft.set.drives ≡ set.drives = ap (λ (s : SetPlan). s.drives) plan in
        let all : x.draft.letters ≡ replicate x.draft.set.drives Good = x.drafted.letters ∙ ap (λ (s : SetPlan). replicate s.drives Good) (sym x.drafted.set) in
        let long : length x.mid ≡ set.drives = x.forward.long ∙ ap (λ (s : SetPlan). s.drives) first_plan in
        let long_old : length was.lanes ≡ set.drives = sym x.long ∙ long in
        let again = both_up ghosts set.drives x.first set.out was.numbers.term was.numbers.count x.middle (Ok x.letters) x.mid x.between long
        x.forward in
        let again_up = taken_up ghosts set.drives x.first set.out was.numbers.term was.numbers.count x.middle (Ok x.letters) x.mid x.between long
        x.forward in
        let tells_again : (k : ℕ) (d : D) → k < length x.mid → tells (slice_index_or x.between k d) ≡ tells (slice_index_or x.mid k d) =
        λ k d low. tells_on ghosts x.forward.mid x.between x.forward.lanes_new k d (let a = again_up.0 in omega (arith, a, low))
        ∙ tells_on ghosts x.mid x.forward.mid x.forward.lanes_mid k d low in
        record {
          whys = whys;
          counted = written_counted x.draft set.out was.numbers.term x.middle now.numbers.count whys x.between now.lanes x.writes all ∙ drives;
          each = λ k d low. letter_wider set.out k (letter_at whys k) (slice_index_or was.lanes k d) (slice_index_or x.between k d)
              (slice_index_or now.lanes k d)
              (slice_index_or now.lanes k d) (tells_again k d (omega (arith, long, low)) ∙ x.tell k d (omega (arith, long_old, low)))
              (up_twice ghosts set.drives was.lanes x.mid x.between
              (look_up ghosts set.drives (longest_file longest) set.out name looks.found x.looked.whys was.lanes x.mid long_old looks.read)
              again.1 k d low) (omega arith)
              (written_letter x.draft set.out was.numbers.term x.middle now.numbers.count whys x.between now.lanes x.writes all k d
              (omega (arith, drives, low)));
          enough = subst (λ (s : SetPlan). write_drives s.drives s.parity ≤ good_count whys) plan x.writes.marks.0;
          marked = λ records state stands k d low good.
              let tell : AllTell tells set.out x.mid = tell_after tells files set.out was.lanes x.mid x.long x.tell stands.have.tell in
              let unused : AreUnused files set.out was.numbers.term was.numbers.count x.mid =
              unused_after_look tells files set.out was.numbers.term was.numbers.count was.lanes x.mid x.long x.concluded.stay stands.have.tell
              stands.have.unused in
              let tell_between : AllTell tells set.out x.between = tell_after tells files set.out x.mid x.between again.0 tells_again tell in
              let up = taken_up ghosts x.draft.set.drives x.draft set.out was.numbers.term x.middle now.numbers.count (Ok whys) x.between
              now.lanes x.writes.long x.writes in
              let called : string_bytes x.draft.name ≡ name = x.drafted.name ∙ (x.first_drafted.name ∙ looks.named) in
              written_base x.draft own name ((files (slice_index_or now.lanes k d)).kept name) x.drafted.«of».ends
              (subst (λ (n : List ℕ). (files (slice_index_or now.lanes k d)).kept n ≡ Some x.draft.last.items) called
              (x.writes.keep tell_between (x.forward.unused tell unused) k d
              (let a = up.0 in let b = up.2 in let c = x.writes.long in omega (arith, a, b, c, drives, low)) good));
        }

  module _ (was now : SlotSeen D) (deed : Commit) (put : Option VersionId) (at : ℕ) (entered : Deed) (disks disks_after : List D) where
    wrote_letters : (reply : Reply) (whys : List Why) (name : List ℕ) (change : ChangeId)
        → WroteSo ghosts was.numbers now.numbers deed put at reply (Ok whys) entered was.lanes now.lanes disks disks_after
        → name_of deed ≡ name → MadeIn change entered → ChangeLetters ghosts was now name change
    wrote_letters reply whys name change x named made =
        let here : drawn_by (call_of deed (Some x.own.change) at) ≡ Some change = subst (MadeIn change) x.deed_is made in
        let same : x.own.change ≡ change = (let both : Some x.own.change ≡ Some change = sym (drawn_own deed (Some x.own.change) at) ∙ here in cc) in
        subst (λ (c : ChangeId). ChangeLetters ghosts was now name c) same (subst (λ (n : List ℕ). ChangeLetters ghosts was now n x.own.change) named
        (elim x.written [
          | inl once ↦ at_once was now (name_of deed) x.rule x.longest x.content x.own whys disks disks_after once
          | inr again ↦ after_again was now (name_of deed) x.rule x.longest x.content x.own whys disks disks_after again
        ]))

    found_none : (reply : Reply) (change : ChangeId) → FoundSo ghosts was.numbers now.numbers deed put at reply entered was.lanes now.lanes disks
        disks_after
        → MadeIn change entered → ⊥
    found_none reply change x made =
        looked_not_made (Done (call_of deed None at) (Answer reply)) change (drawn_own deed None at) (subst (MadeIn change) x.deed_is made)

    answer_letters : (answer : Result Committed SlotFault) (name : List ℕ) (change : ChangeId)
        → CommitCause ghosts was.numbers now.numbers deed put at answer entered was.lanes now.lanes disks disks_after
        → CommitDeed deed at answer entered → name_of deed ≡ name → MadeIn change entered → ChangeLetters ghosts was now name change
    answer_letters (Ok made) name change cause says named is = elim cause [
      | inl found ↦ absurd (found_none made.done change found is)
      | inr wrote ↦ wrote_letters made.done wrote.0 name change wrote.1 named is
    ]
    answer_letters (Err (Quorum fault)) name change cause says named is = absurd (elim cause.1 [
      | inl look ↦ subst (MadeIn change) look.deed_is is
      | inr wrote ↦ subst (MadeIn change) wrote.1.deed_is is
    ])
    answer_letters (Err (Key why)) name change cause says named is =
        absurd (looked_not_made (Done (call_of deed None at) (Answer (RefusedReply (refusal_of why)))) change (drawn_own deed None at)
        (subst (MadeIn change) says is))
    answer_letters (Err SeqSpent) name change cause says named is = absurd says
    answer_letters (Err (AuditFailed before after)) name change cause says named is = absurd says
    answer_letters (Err NoMemory) name change cause says named is = absurd says
    answer_letters (Err (NotInFlight id)) name change cause says named is = absurd (subst (MadeIn change) says is)

  entry_letters : (was now : SlotSeen D) (deed : Commit) (put : Option VersionId) (at : ℕ) (answer : Result Committed SlotFault) (entry : Option Entry)
      (disks disks_after : List D) → MatchOption entry (Unit {0}) (SaysCommit deed at answer)
      → CommitCause ghosts was.numbers now.numbers deed put at answer (deed_in entry) was.lanes now.lanes disks disks_after
      → (name : List ℕ) (change : ChangeId) → HasMade entry name change → ChangeLetters ghosts was now name change
  entry_letters was now deed put at answer None disks disks_after says cause name change made = absurd made
  entry_letters was now deed put at answer (Some told) disks disks_after says cause name change made =
      answer_letters was now deed put at told.deed disks disks_after answer name change cause says.deed_is (sym says.name_is ∙ made.0) made.1

  -- the letters of a commit, by what it says of itself
  pub commit_letters : (was now : SlotSeen D) (deed : Commit) (put : Option VersionId) (at : ℕ) (answer : Result Committed SlotFault) (stub : Option Stub)
      (disks disks_after : List D) → Says stub (SaysCommit deed at answer)
      → CommitCause ghosts was.numbers now.numbers deed put at answer (deed_in (entry_of stub)) was.lanes now.lanes disks disks_after
      → (name : List ℕ) (change : ChangeId) → HasMade (entry_in (noted stub)) name change → ChangeLetters ghosts was now name change
  commit_letters was now deed put at answer stub disks disks_after says cause name change made =
      entry_letters was now deed put at answer (entry_of stub) disks disks_after says cause name change (made_by stub name change made)
