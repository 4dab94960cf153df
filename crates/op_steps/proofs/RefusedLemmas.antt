-- A register whose lanes serve, as far as a fault needs them, doesn't refuse a look or a write.
use Rattle.std.proofs.Common.{◌≡◌, ◌∙◌, ◌<◌, ◌≤◌, ℕ, List, Option, None, Ok, Err, length, map, replicate, ap, sym, subst, inl, inr, refl, arith}
use Rattle.std.specs.Prelude.{IsTrue, slice_index_or}
use Rattle.std.specs.Int.{IsBitSet}
use Rattle.std.proofs.lemmas.List.{length-replicate}
use Rattle.std.proofs.lemmas.List.Elements.{Contains-get_or}
use Rattle.std.proofs.lemmas.Option.{none-some}
use Rattle.call_types.specs.Good.{good_count}
use Rattle.call_types.specs.declared.why.FileKind.TheVariants.{Register}
use Rattle.call_types.specs.declared.why.Why.{Why}
use Rattle.call_types.specs.declared.why.Why.TheVariants.{Good, Lacks}
use Rattle.drive_base.specs.declared.drive.Drive.{Ghosts}
use Rattle.drive_base.specs.DriveSet.{count_in}
use Rattle.drive_base.specs.Plan.{data_drives, write_drives}
use Rattle.drive_base.specs.declared.plan.SetPlan.{SetPlan}
use Rattle.register_file.specs.Lengths.{longest_file}
use Rattle.register_file.specs.declared.record.Next.{Next}
use Rattle.register_file.specs.declared.record.RegFile.{RegFile}
use Rattle.vote_core.specs.Lane.{HasRecord, Lane, blank_lane, lane_at}
use Rattle.register_core.specs.Drafts.{letters_for}
use Rattle.register_core.specs.Found.{content_of}
use Rattle.register_core.specs.Looks.{IsLooked, IsRefusedContent, IsTooFew, IsUndecided, LanesAreRead, Looks}
use Rattle.register_core.specs.LaneWrites.{letter_at}
use Rattle.register_core.specs.OnLanes.{AllTell, AreHonest, AreLanes}
use Rattle.register_core.specs.Proposals.{quorum_of as quorum_of_draft}
use Rattle.register_core.specs.Records.{row_of}
use Rattle.register_core.specs.Seen.{KeepsContent}
use Rattle.register_core.specs.ServingLanes.{ServingLaneIsRead}
use Rattle.register_core.specs.declared.drafts.Draft.{Draft}
use Rattle.register_core.specs.declared.faults.QuorumFault.{QuorumFault}
use Rattle.register_core.specs.declared.faults.QuorumFault.TheVariants.{NoMemory, ReadQuorum, Undecided, WriteQuorum}
use Rattle.register_core.specs.declared.looks.Looked.{Looked}
use Rattle.register_caller.specs.Steps.{WritesBoth}
use Rattle.slot_core.specs.Causes.{Concluded, ForwardRefused, LookCause, NotForwarded}
use Rattle.slot_core.specs.CommitCauses.{OwnAfterAgain, OwnAtOnce, OwnIsWritten}
use Rattle.slot_core.specs.Views.{SlotNumbers}
use Rattle.op_steps.proofs.AcceptLemmas.{Accepts}
use Rattle.op_steps.proofs.CalmLemmas.{AreCalm, Up, both_up, calm_first, calm_last, look_up, up_twice}
use Rattle.op_steps.proofs.LetterLemmas.{AreGood, ShowRecords, all_good, both_taken, good_enough, read_good, rows_good}

-- a record that keeps a content has it
kept_record : (a : Lane) (content : List ℕ) → KeepsContent a content → (c : ℕ) × HasRecord a c content
kept_record a content (inl base) = (a.base.change, inl (refl, base))
kept_record a content (inr (next, has, is)) = (next.change, inr (next, has, refl, is))

module _ {D : Type 0} (ghosts : Ghosts D) where
  -- the lanes of a register over a section: what they keep, and that those of a set serve
  pub record RegisterServes (set : SetPlan) (serving : ℕ) (name : List ℕ) (rule : List ℕ → Option ℕ) (longest : ℕ) (lanes : List Lane) (old new : List D) : Type 0 where
    pub long_old : length old ≡ set.drives
    pub long_new : length new ≡ set.drives
    pub tell : AllTell ghosts.tells set.out old
    pub honest : AreHonest ghosts.files set.out name old
    pub are : AreLanes ghosts.files set.out name old lanes
    pub calm : AreCalm ghosts set.drives set.out serving old new
    pub show : (k : ℕ) (d : D) → k < set.drives → IsBitSet serving k
        → (ghosts.files (slice_index_or old k d)).shown name ≡ (ghosts.files (slice_index_or old k d)).kept name
    pub content : Accepts rule longest lanes

  -- enough of them serve against a fault; that a look is undecided has to be known otherwise
  pub record Against (Forgets : Type 0) (set : SetPlan) (serving : ℕ) (name : List ℕ) (longest : ℕ) (fault : QuorumFault) (old new disks disks_after : List D) : Type 0 where
    pub reads : (whys : List Why) → fault ≡ ReadQuorum whys → data_drives set.drives set.parity ≤ count_in serving set.drives
    pub writes : (whys : List Why) → fault ≡ WriteQuorum whys → write_drives set.drives set.parity ≤ count_in serving set.drives
    pub kept : (whys : List Why) → fault ≡ WriteQuorum whys → (k : ℕ) → IsBitSet serving k → Forgets → letter_at whys k ≡ Lacks Register → ⊥
    pub decided : (k u : ℕ) (whys : List Why) → fault ≡ Undecided k u whys
        → IsUndecided ghosts set set.out name longest k u whys old new disks disks_after → ⊥
    pub memory : fault ≡ NoMemory → ⊥

  -- a fault that isn't one of these letters is none that a write has
  no_write : (draft : Draft) (out term from to : ℕ) (fault : QuorumFault) (old new : List D) → WritesBoth ghosts draft out term from to (Err fault) old new
      → (whys : List Why) × (fault ≡ WriteQuorum whys)
  no_write draft out term from to (ReadQuorum whys) old new did = elim did [ inl refused ↦ absurd refused | inr taken ↦ absurd taken.marks ]
  no_write draft out term from to (WriteQuorum whys) old new did = (whys, refl)
  no_write draft out term from to (Undecided k u whys) old new did = elim did [ inl refused ↦ absurd refused | inr taken ↦ absurd taken.marks ]
  no_write draft out term from to NoMemory old new did = elim did [ inl refused ↦ absurd refused | inr taken ↦ absurd taken.marks ]

  both_long : (draft : Draft) (out term from to : ℕ) (fault : QuorumFault) (old new : List D)
      → WritesBoth ghosts draft out term from to (Err fault) old new → length new ≡ length old
  both_long draft out term from to fault old new did = (both_up ghosts (length old) draft out term from to (Err fault) old new refl did).0

  module _ (law : ServingLaneIsRead) (Forgets : Type 0) (forgets : (d : D) → (IsTrue (ghosts.tells d) → ⊥) → Forgets) (set : SetPlan) (serving : ℕ) (name : List ℕ)
      (rule : List ℕ → Option ℕ) (longest : ℕ) (lanes : List Lane) (old new : List D) (serves : RegisterServes set serving name rule longest lanes old new) where
    show_records : ShowRecords ghosts set.drives serving name longest lanes old
    show_records k d low bit =
        let here : k < length old = let long = serves.long_old in omega (arith, long, low) in
        let inside : k < length lanes = let counted = serves.are.counted in omega (arith, counted, here) in
        let used = (serves.calm k d low bit).0 in (
          serves.tell k d here used,
          serves.show k d low bit,
          serves.are.each k d here used,
          serves.content.short (lane_at lanes k) (Contains-get_or lanes k blank_lane inside),
        )

    -- their letters after a look
    pub looked_good : (found : List (Option RegFile)) (whys : List Why) (mid : List D)
        → LanesAreRead ghosts set.out (longest_file longest) name found whys old mid → Up ghosts set.drives mid new → AreGood set.drives serving whys
    looked_good found whys mid read up = read_good ghosts law set.drives longest set.out serving name found whys lanes old mid serves.long_old read
        (calm_first ghosts set.drives set.out serving old mid new up serves.calm) show_records

    looked_enough : (found : List (Option RegFile)) (whys : List Why) (mid : List D)
        → LanesAreRead ghosts set.out (longest_file longest) name found whys old mid → Up ghosts set.drives mid new
        → count_in serving set.drives ≤ good_count whys
    looked_enough found whys mid read up = good_enough set.drives serving whys (read.lettered ∙ serves.long_old) (looked_good found whys mid read up)

    same_up : Up ghosts set.drives new new
    same_up k d low = omega arith

    module _ (fault : QuorumFault) (disks disks_after : List D) (against : Against Forgets set serving name longest fault old new disks disks_after) where
      too_few : (whys : List Why) → fault ≡ ReadQuorum whys → IsTooFew ghosts set set.out name longest whys old new disks disks_after → ⊥
      too_few whys is few =
          let most = looked_enough few.found whys new few.read same_up in
          let same = rows_good whys (map row_of few.found) few.read.on in
          let low = few.few in
          let enough = against.reads whys is in
          absurd (omega (arith, most, same, low, enough))

      refused_content : (whys : List Why) → IsRefusedContent ghosts set set.out name rule longest whys old new disks disks_after → ⊥
      refused_content whys refused =
          let seen = refused.seen lanes serves.tell serves.honest serves.are in
          let record_of = kept_record seen.lane (content_of refused.base refused.pending) seen.keeps in
          let none : rule (content_of refused.base refused.pending) ≡ None =
          serves.content.accepts seen.lane record_of.0 (content_of refused.base refused.pending) seen.there record_of.1 in
          none-some refused.place (sym none ∙ refused.broken)

      looks_not : (f : QuorumFault) → fault ≡ f → Looks ghosts set set.out name rule longest (Err f) old new disks disks_after → ⊥
      looks_not (ReadQuorum whys) is looks = elim looks [ inl few ↦ too_few whys is few | inr refused ↦ refused_content whys refused ]
      looks_not (WriteQuorum whys) is looks = looks
      looks_not (Undecided k u whys) is looks = against.decided k u whys is looks
      looks_not NoMemory is looks = against.memory is

      -- writes over lanes whose letters were good are taken
      writes_not : (draft : Draft) (term from to : ℕ) (mid : List D) → draft.set ≡ set → length draft.letters ≡ set.drives → AreGood set.drives serving draft.letters
          → Up ghosts set.drives old mid → WritesBoth ghosts draft set.out term from to (Err fault) mid new → ⊥
      writes_not draft term from to mid plan lettered good up did =
          let wrote = no_write draft set.out term from to fault mid new did in
          let enough : quorum_of_draft draft ≤ count_in serving set.drives =
          subst (λ (s : SetPlan). write_drives s.drives s.parity ≤ count_in serving set.drives) (sym plan) (against.writes wrote.0 wrote.1) in
          both_taken ghosts Forgets forgets set.drives serving draft set.out term from to mid new
          (sym (both_long draft set.out term from to fault mid new did) ∙ serves.long_new) lettered
          (calm_last ghosts set.drives set.out serving old mid new up serves.calm) good enough fault (λ whys is. against.kept whys is) did

      -- a look, and the completion of what it found
      pub cause_not : (numbers later : SlotNumbers) → numbers.set ≡ set
          → LookCause ghosts numbers later name rule longest fault old new disks disks_after → ⊥
      cause_not numbers later plan cause = elim cause [
        | inl refused ↦ looks_not fault refl (subst (λ (s : SetPlan). Looks ghosts s s.out name rule longest (Err fault) old new disks disks_after) plan refused.0.looks)
        | inr (inl waits) ↦ not_forwarded waits.0
        | inr (inr forward) ↦ forward_refused forward.0
      ]
        where
          looked_over : (looked : Looked) (mid : List D) → Concluded ghosts numbers name rule longest looked old mid disks disks_after
              → IsLooked ghosts set set.out name rule longest looked old mid disks disks_after
          looked_over looked mid x = subst (λ (s : SetPlan). IsLooked ghosts s s.out name rule longest looked old mid disks disks_after) plan x.looks

          not_forwarded : NotForwarded ghosts numbers name rule longest fault old new disks disks_after → ⊥
          not_forwarded x =
              let looks = looked_over x.looked new x.concluded in
              let most = looked_enough looks.found x.looked.whys new looks.read same_up in
              let few = x.few in
              let enough = subst (λ (s : SetPlan). write_drives s.drives s.parity ≤ count_in serving set.drives) (sym plan) (against.writes x.looked.whys x.letters) in
              absurd (omega (arith, most, few, enough))

          forward_refused : ForwardRefused ghosts numbers later.count name rule longest fault old new disks disks_after → ⊥
          forward_refused x =
              let looks = looked_over x.looked x.mid x.concluded in
              let again = x.writes in
              let did = subst (λ (o : ℕ). WritesBoth ghosts again.draft o numbers.term numbers.count later.count (Err fault) x.mid new)
              (ap (λ (s : SetPlan). s.out) plan) again.writes in
              let long : length x.mid ≡ set.drives = sym (both_long again.draft set.out numbers.term numbers.count later.count fault x.mid new did) ∙ serves.long_new in
              let up = (both_up ghosts set.drives again.draft set.out numbers.term numbers.count later.count (Err fault) x.mid new long did).1 in
              let good = looked_good looks.found x.looked.whys x.mid looks.read up in
              let letters : again.draft.letters ≡ x.looked.whys =
              again.drafted.letters ∙ ap (λ (p : Option Next). letters_for p x.looked.whys x.looked.set.drives) again.pending in
              writes_not again.draft numbers.term numbers.count later.count x.mid (again.drafted.set ∙ looks.plan)
              (ap (λ (l : List Why). length l) letters ∙ (looks.read.lettered ∙ serves.long_old))
              (subst (AreGood set.drives serving) (sym letters) good)
              (look_up ghosts set.drives (longest_file longest) set.out name looks.found x.looked.whys old x.mid serves.long_old looks.read) did

      -- and the writes of a section's own change
      fresh_not : (draft : Draft) (term from to : ℕ) (mid : List D) → draft.set ≡ set → draft.letters ≡ replicate set.drives Good
          → Up ghosts set.drives old mid → WritesBoth ghosts draft set.out term from to (Err fault) mid new → ⊥
      fresh_not draft term from to mid plan letters up did = writes_not draft term from to mid plan
          (ap (λ (l : List Why). length l) letters ∙ length-replicate set.drives Good) (all_good set.drives serving draft.letters letters) up did

      pub own_not : (numbers later : SlotNumbers) (content : List ℕ) (own : Next) → numbers.set ≡ set
          → OwnIsWritten ghosts numbers later name rule longest content own (Err fault) old new disks disks_after → ⊥
      own_not numbers later content own plan written = elim written [ inl once ↦ at_once once | inr again ↦ after_again again ]
        where
          at_once : OwnAtOnce ghosts numbers later name rule longest content own (Err fault) old new disks disks_after → ⊥
          at_once x =
              let looks = subst (λ (s : SetPlan). IsLooked ghosts s s.out name rule longest x.looked old x.mid disks disks_after) plan x.concluded.looks in
              let did = subst (λ (o : ℕ). WritesBoth ghosts x.draft o numbers.term numbers.count later.count (Err fault) x.mid new)
              (ap (λ (s : SetPlan). s.out) plan) x.writes in
              fresh_not x.draft numbers.term numbers.count later.count x.mid (x.drafted.set ∙ looks.plan)
              (x.drafted.letters ∙ (ap (λ (p : Option Next). letters_for p x.looked.whys x.looked.set.drives) x.settled
              ∙ ap (λ (s : SetPlan). replicate s.drives Good) looks.plan))
              (look_up ghosts set.drives (longest_file longest) set.out name looks.found x.looked.whys old x.mid serves.long_old looks.read) did

          after_again : OwnAfterAgain ghosts numbers later name rule longest content own (Err fault) old new disks disks_after → ⊥
          after_again x =
              let looks = subst (λ (s : SetPlan). IsLooked ghosts s s.out name rule longest x.looked old x.mid disks disks_after) plan x.concluded.looks in
              let did = subst (λ (o : ℕ). WritesBoth ghosts x.draft o numbers.term x.middle later.count (Err fault) x.between new)
              (ap (λ (s : SetPlan). s.out) plan) x.writes in
              let forward = subst (λ (o : ℕ). WritesBoth ghosts x.first o numbers.term numbers.count x.middle (Ok x.letters) x.mid x.between)
              (ap (λ (s : SetPlan). s.out) plan) x.forward in
              let same = (both_up ghosts (length x.mid) x.first set.out numbers.term numbers.count x.middle (Ok x.letters) x.mid x.between refl forward).0 in
              let long : length x.mid ≡ set.drives =
              sym same ∙ (sym (both_long x.draft set.out numbers.term x.middle later.count fault x.between new did) ∙ serves.long_new) in
              let first_set : x.first.set ≡ set = x.first_drafted.set ∙ looks.plan in
              fresh_not x.draft numbers.term x.middle later.count x.between (x.drafted.set ∙ first_set)
              (x.drafted.letters ∙ ap (λ (s : SetPlan). replicate s.drives Good) first_set)
              (up_twice ghosts set.drives old x.mid x.between
              (look_up ghosts set.drives (longest_file longest) set.out name looks.found x.looked.whys old x.mid serves.long_old looks.read)
              (both_up ghosts set.drives x.first set.out numbers.term numbers.count x.middle (Ok x.letters) x.mid x.between long forward).1) did
