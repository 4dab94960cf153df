-- Why a section was refused, in letters of its drives, by the account of its calls.
use Rattle.std.proofs.Common.{◌≡◌, ◌∙◌, ◌⊎◌, ◌+◌, ◌*◌, ◌<◌, ◌≤◌, ℕ, List, Option, Some, None, Ok, Err, MatchOption, length, map, replicate, cond, ap, sym, subst, subst₂, inl, inr, refl, arith}
use Rattle.std.specs.Prelude.{◌==◌, Bool, true, false, count_by, option_map, slice_index_or}
use Rattle.std.specs.Int.{IsBitSet}
use Rattle.std.proofs.lemmas.Bool.{eqb-true, or_cases}
use Rattle.std.proofs.lemmas.Bool.Decides.{eqb_tells, leb_tells}
use Rattle.std.proofs.lemmas.List.{get_or-map, get_or-replicate, get_or_past, length-map}
use Rattle.std.proofs.lemmas.List.Folds.{sum_by-replicate}
use Rattle.std.proofs.lemmas.List.Sums.{count_by-le-length}
use Rattle.std.proofs.lemmas.Option.{none-some}
use Rattle.audit_trail.specs.declared.entry.Entry.{Entry}
use Rattle.call_types.specs.Good.{good_count, is_good}
use Rattle.call_types.specs.declared.refusal.Refusal.{Refusal}
use Rattle.call_types.specs.declared.refusal.Refusal.TheVariants as refusal
use Rattle.call_types.specs.declared.why.FileKind.TheVariants.{Format, Manifest as ManifestKind, Register, Shard}
use Rattle.call_types.specs.declared.why.Why.{Why}
use Rattle.call_types.specs.declared.why.Why.TheVariants.{Behind, Damaged, Failed, Good, Lacks}
use Rattle.drive_base.specs.Files.{Files}
use Rattle.drive_base.specs.Plan.{data_drives, write_drives}
use Rattle.drive_base.specs.View.{DriveView, view, views}
use Rattle.drive_base.specs.declared.drive.Drive.{Ghosts}
use Rattle.drive_base.specs.declared.plan.SetPlan.{SetPlan}
use Rattle.drive_base.proofs.ViewLemmas.{length-views, view_at-views}
use Rattle.manifest_file.proofs.Sizes.{no_longer}
use Rattle.register_file.specs.Lengths.{longest_file}
use Rattle.register_file.specs.declared.record.Adds.{Adds}
use Rattle.register_file.specs.declared.record.Base.{Base}
use Rattle.register_file.specs.declared.record.Next.{Next}
use Rattle.register_file.specs.declared.record.RegFile.{RegFile}
use Rattle.stamp_id.specs.Rank.{change_of}
use Rattle.vote_core.specs.Row.{carried_by_next, carries, is_good as is_good_row, next_change}
use Rattle.vote_core.specs.Verdict.{good_rows, row_at}
use Rattle.vote_core.specs.declared.row.Row.{Row}
use Rattle.vote_core.specs.declared.row.Row.TheVariants.{Bad}
use Rattle.register_core.specs.Drafts.{letters_for}
use Rattle.register_core.specs.Found.{Concludes, HasContent, content_of, found_at}
use Rattle.register_core.specs.Looks.{IsRefusedContent, IsTooFew, IsUndecided, LaneIsRead, LanesAreRead, Looks}
use Rattle.register_core.specs.LaneWrites.{letter_at}
use Rattle.register_core.specs.Manifests.{IsManifestDamage, ManifestLetter}
use Rattle.register_core.specs.Proposals.{quorum_of as quorum_of_draft}
use Rattle.register_core.specs.Records.{row_of, row_of_next}
use Rattle.register_core.specs.declared.drafts.Draft.{Draft}
use Rattle.register_core.specs.declared.faults.QuorumFault.{QuorumFault}
use Rattle.register_core.specs.declared.faults.QuorumFault.TheVariants.{NoMemory, ReadQuorum, Undecided, WriteQuorum}
use Rattle.register_core.specs.declared.looks.Looked.{Looked}
use Rattle.register_core.proofs.SeenLemmas.{element}
use Rattle.register_caller.specs.Steps.{WritesBoth}
use Rattle.slot_rules.specs.Deeds.{name_of}
use Rattle.slot_rules.specs.Rules.{longest_for, rule_for}
use Rattle.slot_core.specs.Causes.{Concluded, ForwardRefused, LookCause, NotForwarded}
use Rattle.slot_core.specs.CommitCauses.{OwnIsWritten, OwnAfterAgain, OwnAtOnce}
use Rattle.slot_core.specs.Views.{quorum_of}
use Rattle.receipts.specs.Events.{Note}
use Rattle.op_steps.specs.Causes.{BreaksRule, Carries, DataIsMissing, LaneShows, LanesTell, LooksTooFew, RefusalCause, TurnCause, of_manifests}
use Rattle.op_steps.specs.Claims.{Claim}
use Rattle.op_steps.specs.DriveLetters.{DriveLetter}
use Rattle.op_steps.specs.Store.{SlotSeen}
use Rattle.op_steps.proofs.Accounts.{CommitRefuses, LanesRefuse, LookRefuses, NamesRefuse, RefusalAccount, RegisterRefuses, TurnAccount}
use Rattle.op_steps.proofs.CalmLemmas.{both_up, look_up}
use Rattle.op_steps.proofs.DriveLetterLemmas.{BadLettered, Lettered, Rises, both_lettered, looked_lettered, names_letter, refused_letter, rises_on}
use Rattle.op_steps.proofs.LetterLemmas.{count_map, rows_good}
use Rattle.op_steps.proofs.ManifestLemmas.{undamaged}
use Rattle.op_steps.proofs.RuleLemmas.{deed_breaks, deed_longest, look_breaks}

-- as many drives as must take a write are no more than the set has
quorum_fits : (set : SetPlan) → write_drives set.drives set.parity ≤ set.drives
quorum_fits set =
    let some = set.some_parity in
    let half = set.half_at_most in
    let n = set.drives in
    let p = set.parity in
    elim (eqb_tells (data_drives n p) p) [
      | inl same ↦ subst (λ (b : Bool). cond b (data_drives n p + 1) (data_drives n p) ≤ n) (sym same.0) (omega (arith, some, half))
      | inr other ↦ subst (λ (b : Bool). cond b (data_drives n p + 1) (data_drives n p) ≤ n) (sym other.0) (omega (arith, some, half))
    ]

all_good_count : (n : ℕ) → good_count (replicate n Good) ≡ n
all_good_count n =
    let all : good_count (replicate n Good) ≡ n * 1 = sum_by-replicate (λ (w : Why). cond (is_good w) 1 0) n Good in
    omega (arith, all)

-- a data drive was looked at for a manifest
manifest_letter : (set : SetPlan) (adds : Adds) (k : ℕ) (why : Why) (old new : DriveView)
    → ManifestLetter set adds why (IsBitSet set.out k) old.tells old.files old.count new.count → DriveLetter (of_manifests set adds) set.out k why old new
manifest_letter set adds k Good old new is = is.0
manifest_letter set adds k (Failed before after) old new is = is
manifest_letter set adds k (Damaged damage) old new is = (
  is.0,
  λ told. let found = is.2 told in (
    found.0,
    found.1,
    λ m verifies same. undamaged no_longer set adds.print m damage verifies
        (subst (λ (f : List ℕ). IsManifestDamage set adds.print f damage) same found.2),
  ),
)
manifest_letter set adds k (Behind ballot) old new is = absurd is
manifest_letter set adds k (Lacks Format) old new is = is.0
manifest_letter set adds k (Lacks ManifestKind) old new is = (is.0, (refl, is.2))
manifest_letter set adds k (Lacks Register) old new is = absurd is
manifest_letter set adds k (Lacks Shard) old new is = absurd is

-- a row carries a change where the file of its lane does
carried : (change : ℕ) (read : Option RegFile) → carries change (row_of read) ≡ true → (file : RegFile) × (read ≡ Some file) × Carries change file
carried change None is = absurd (let no : false ≡ true = is in cc)
carried change (Some file) is = (
  file,
  refl,
  elim (or_cases (change_of file.base.change == change) _ is) [
    | inl base ↦ inl (eqb-true (change_of file.base.change) change base)
    | inr next ↦ inr (on_its_way file.next next)
  ],
)
  where
    on_its_way : (next : Option Next) → carried_by_next change (option_map row_of_next next) ≡ true
        → (n : Next) × (next ≡ Some n) × (change_of n.change ≡ change)
    on_its_way None is = absurd (let no : false ≡ true = is in cc)
    on_its_way (Some n) is = (n, refl, eqb-true (change_of n.change) change is)

-- a lane whose file was read is one of those that were looked at
found_within : (found : List (Option RegFile)) (lane : ℕ) (file : RegFile) → found_at found lane ≡ Some file → lane < length found
found_within found lane file is = elim (leb_tells (length found) lane) [
  | inl past ↦ absurd (none-some file (sym (get_or_past found lane None past.1) ∙ is))
  | inr low ↦ low.1
]

module _ {D : Type 0} (ghosts : Ghosts D) (was now : SlotSeen D) (claim : Claim) (made : Entry) where
  abbrev set : SetPlan
  set = was.numbers.set

  abbrev tells : D → Bool
  tells = ghosts.tells

  abbrev files : D → Files
  files = ghosts.files

  abbrev count : D → ℕ
  count = ghosts.count

  -- what a fault of a quorum says of the drives; want of memory says nothing
  abbrev pub FaultSays : QuorumFault → List DriveView → List DriveView → Type 0
  FaultSays (ReadQuorum whys) old new = LooksTooFew ghosts was now claim made whys
  FaultSays (WriteQuorum whys) old new = LanesTell ghosts was now claim made whys × (good_count whys < quorum_of was.numbers)
  FaultSays (Undecided k u whys) old new = DataIsMissing ghosts was now claim made k u whys old new
  FaultSays NoMemory old new = Unit {0}

  -- the letters of lanes under the name of the entry
  abbrev tell_lanes : (name : List ℕ) → made.name ≡ name → (whys : List Why) → Lettered ghosts was.numbers claim name was.lanes whys now.lanes
      → LanesTell ghosts was now claim made whys
  tell_lanes name named whys letters = record { name = name; looked_at = inl named; each = λ k d lane. letters k d lane.0 lane.1 lane.2 }

  -- ---- names

  pub names_say : (fault : QuorumFault) (old new : List DriveView) → NamesRefuse ghosts was now made fault → FaultSays fault old new
  names_say fault old new x = subst (λ (f : QuorumFault). FaultSays f old new) (sym x.fault_is) (record {
    lanes = tell_lanes made.name refl x.whys (λ k d in_set low there. names_letter ghosts was.numbers claim made.name k (letter_at x.whys k) (slice_index_or was.lanes k d)
        (slice_index_or now.lanes k d) (x.few.asked.each k d low));
    why = inl x.few.few;
  })

  -- ---- a look at a register of this name, by a rule

  module _ (name : List ℕ) (named : made.name ≡ name) (rule : List ℕ → Option ℕ) (longest : ℕ) (longest_is : longest ≡ longest_for name)
      (breaks : (content : List ℕ) (place : ℕ) → rule content ≡ Some place → BreaksRule was.numbers claim name content) where
    read_as : (found : List (Option RegFile)) (whys : List Why) (mid : List D)
        → LanesAreRead ghosts set.out (longest_file longest) name found whys was.lanes mid
        → LanesAreRead ghosts set.out (longest_file (longest_for name)) name found whys was.lanes mid
    read_as found whys mid read =
        subst (λ (m : ℕ). LanesAreRead ghosts set.out (longest_file m) name found whys was.lanes mid) longest_is read

    looked : (found : List (Option RegFile)) (whys : List Why) (mid : List D)
        → LanesAreRead ghosts set.out (longest_file longest) name found whys was.lanes mid
        → Lettered ghosts was.numbers claim name was.lanes whys mid
    looked found whys mid read = looked_lettered ghosts was.numbers claim name was.lanes found whys mid (read_as found whys mid read)

    -- a lane whose file was read shows it
    shows_found : (found : List (Option RegFile)) (whys : List Why) (mid : List D)
        → LanesAreRead ghosts set.out (longest_file longest) name found whys was.lanes mid → (Holds : RegFile → Type 0) (lane : ℕ) (file : RegFile)
        → found_at found lane ≡ Some file → Holds file → LaneShows ghosts was name lane Holds
    shows_found found whys mid read Holds lane file is holds =
        let counted = read.counted in
        let within = found_within found lane file is in
        let here : lane < length was.lanes = omega (arith, counted, within) in
        let at = λ (d : D). subst (λ (r : Option RegFile). LaneIsRead (longest_file (longest_for name)) name r (letter_at whys lane) (IsBitSet set.out lane)
        (tells (slice_index_or was.lanes lane d)) (files (slice_index_or was.lanes lane d))
        (count (slice_index_or was.lanes lane d)) (count (slice_index_or mid lane d))) is ((read_as found whys mid read).each lane d here) in
        record {
          within = here;
          in_use = (at (element was.lanes lane here)).1;
          file = file;
          holds = holds;
          shown = λ d told. (at d).4 told;
        }

    content_there : (found : List (Option RegFile)) (whys : List Why) (mid : List D)
        → LanesAreRead ghosts set.out (longest_file longest) name found whys was.lanes mid → (w d : ℕ) (base : Base) (pending : Option Next)
        → Concludes w d found base pending → (lane : ℕ) × LaneShows ghosts was name lane (λ file. HasContent file (content_of base pending))
    content_there found whys mid read w d base None (lane, verdict, there) =
        let file = there.0 in let is = there.1 in let base_is = there.2 in (lane, shows_found found whys mid read (λ file. HasContent file base.content) lane file is (inl (ap (λ (b : Base). b.content) base_is)))
    content_there found whys mid read w d base (Some next) (base_lane, lane, k, u, verdict, base_found, there) =
        let file = there.0 in let is = there.1 in let next_is = there.2 in (lane, shows_found found whys mid read (λ file. HasContent file next.content) lane file is (inr (next, next_is, refl)))

    too_few : (whys : List Why) (disks disks_after : List D)
        → IsTooFew ghosts set set.out name longest whys was.lanes now.lanes disks disks_after → LooksTooFew ghosts was now claim made whys
    too_few whys disks disks_after x = record {
      lanes = tell_lanes name named whys (looked x.found whys now.lanes x.read);
      why = inl (let same = rows_good whys (map row_of x.found) x.read.on in let few = x.few in omega (arith, same, few));
    }

    refused : (whys : List Why) (disks disks_after : List D)
        → IsRefusedContent ghosts set set.out name rule longest whys was.lanes now.lanes disks disks_after → LooksTooFew ghosts was now claim made whys
    refused whys disks disks_after x =
        let content = content_of x.base x.pending in
        let broken = breaks content x.place x.broken in
        let there = content_there x.found x.letters now.lanes x.read _ _ x.base x.pending x.concludes in
        record {
          lanes = tell_lanes name named whys (λ k d in_set low there. refused_letter ghosts was.numbers claim name k (found_at x.found k) content x.place (letter_at x.letters k)
              (letter_at whys k) (slice_index_or was.lanes k d) (slice_index_or now.lanes k d) ((read_as x.found x.letters now.lanes x.read).each k d low)
              (x.each k low) broken);
          why = inr (there.0, content, there.1, broken);
        }

    module _ (disks disks_after : List D) (read_long : length disks_after ≡ length disks) where
      undecided : (k u : ℕ) (whys : List Why) → IsUndecided ghosts set set.out name longest k u whys was.lanes now.lanes disks disks_after
          → DataIsMissing ghosts was now claim made k u whys (views ghosts disks) (views ghosts disks_after)
      undecided k u whys x =
          let rows : List Row = map row_of x.found in
          let file = x.next_is.0 in
          let found_is = x.next_is.1 in
          let within = found_within x.found x.lane file found_is in
          let row_is : row_at rows x.lane ≡ row_of (Some file) = get_or-map row_of x.found x.lane None Bad within ∙ ap row_of found_is in
          let change_is : next_change (row_at rows x.lane) ≡ change_of x.next.change = ap next_change row_is
          ∙ ap (λ (p : Option Next). next_change (row_of (Some (record { base = file.base; next = p })))) x.next_is.2 in
          let c : ℕ = change_of x.next.change in
          let counted = x.read.counted in
          let pending = x.verdict.3 in
          let has : List Bool = map (carries c) rows in
          let many : count_by (λ (b : Bool). b) has ≡ count_by (carries c) rows = count_map (carries c) rows in
          let holders : k ≡ count_by (carries c) rows = x.verdict.4 ∙ ap (λ (m : ℕ). count_by (carries m) rows) change_is in
          let unread = x.verdict.5 in
          let same = rows_good x.letters rows x.read.on in
          let long : length rows ≡ length was.lanes = length-map x.found row_of ∙ counted in
          let few_good : good_rows rows ≤ length rows = count_by-le-length is_good_row rows in
          let enough = pending.enough in
          record {
            lane_whys = x.letters;
            lanes = tell_lanes name named x.letters (looked x.found x.letters now.lanes x.read);
            next = x.next;
            begun = (x.lane, shows_found x.found x.letters now.lanes x.read (λ f. f.next ≡ Some x.next) x.lane file found_is x.next_is.2);
            carriers = has;
            carry = λ lane low is.
                let inside : lane < length x.found = omega (arith, counted, low) in
                let in_rows : lane < length rows = let l = length-map x.found row_of in omega (arith, l, inside) in
                let at : slice_index_or has lane false ≡ carries c (row_of (found_at x.found lane)) =
                get_or-map (carries c) rows lane Bad false in_rows ∙ ap (carries c) (get_or-map row_of x.found lane None Bad inside) in
                let y = carried c (found_at x.found lane) (sym at ∙ is) in
                shows_found x.found x.letters now.lanes x.read (Carries c) lane y.0 y.1 y.2;
            carry_is = (length-map rows (carries c) ∙ long, holders ∙ sym many);
            unread_is = omega (arith, unread, same, long, few_good);
            may_have = let h = x.verdict.4 in omega (arith, enough, h, unread);
            adds = x.adds;
            adds_is = x.adds_is;
            each = λ j low.
                let here : j < length disks = let l = length-views ghosts disks in omega (arith, l, low) in
                let d = element disks j here in
                let after : j < length disks_after = omega (arith, read_long, here) in
                subst₂ (λ (a b : DriveView). DriveLetter (of_manifests set x.adds) set.out j (letter_at whys j) a b)
                (sym (view_at-views ghosts disks j d here)) (sym (view_at-views ghosts disks_after j d after))
                (manifest_letter set x.adds j (letter_at whys j) (view ghosts (slice_index_or disks j d)) (view ghosts (slice_index_or disks_after j d))
                (x.looked_for.each j d here));
            few = x.few;
          }

      looks_say : (fault : QuorumFault) → Looks ghosts set set.out name rule longest (Err fault) was.lanes now.lanes disks disks_after
          → FaultSays fault (views ghosts disks) (views ghosts disks_after)
      looks_say (ReadQuorum whys) looks = elim looks [ inl few ↦ too_few whys disks disks_after few | inr broken ↦ refused whys disks disks_after broken ]
      looks_say (WriteQuorum whys) looks = absurd looks
      looks_say (Undecided k u whys) looks = undecided k u whys looks
      looks_say NoMemory looks = tt

      -- ---- writes behind a look

      module _ (mid : List D) (up : Rises ghosts was.numbers claim name was.lanes mid) (draft : Draft) (term from to : ℕ) (plan : draft.set ≡ set)
          (before : BadLettered ghosts was.numbers claim name was.lanes draft.letters mid)
          (begun : good_count draft.letters < quorum_of_draft draft → Lettered ghosts was.numbers claim name was.lanes draft.letters mid) where
        writes_say : (fault : QuorumFault) → WritesBoth ghosts draft set.out term from to (Err fault) mid now.lanes
            → FaultSays fault (views ghosts disks) (views ghosts disks_after)
        writes_say (ReadQuorum whys) did = absurd (elim did [ inl none ↦ none | inr taken ↦ taken.marks ])
        writes_say (WriteQuorum whys) did =
            let both = both_lettered ghosts was.numbers claim name was.lanes draft term from to mid now.lanes up before begun whys did in
            (tell_lanes name named whys both.0, subst (λ (s : SetPlan). good_count whys < write_drives s.drives s.parity) plan both.1)
        writes_say (Undecided k u whys) did = absurd (elim did [ inl none ↦ none | inr taken ↦ taken.marks ])
        writes_say NoMemory did = tt

      -- a change of the section's own, on all lanes
      fresh_say : (mid : List D) → Rises ghosts was.numbers claim name was.lanes mid → (draft : Draft) (term from to : ℕ) → draft.set ≡ set
          → draft.letters ≡ replicate set.drives Good → (fault : QuorumFault) → WritesBoth ghosts draft set.out term from to (Err fault) mid now.lanes
          → FaultSays fault (views ghosts disks) (views ghosts disks_after)
      fresh_say mid up draft term from to plan all fault did = writes_say mid up draft term from to plan
          (λ k d in_set low there bad. absurd (bad (ap (λ (l : List Why). letter_at l k) all ∙ get_or-replicate set.drives k Good (Lacks Format) in_set)))
          (λ few. absurd (
          let many : good_count draft.letters ≡ set.drives = ap (λ (l : List Why). good_count l) all ∙ all_good_count set.drives in
          let less : good_count draft.letters < write_drives set.drives set.parity =
          subst (λ (s : SetPlan). good_count draft.letters < write_drives s.drives s.parity) plan few in
          let fits = quorum_fits set in omega (arith, many, less, fits))) fault did

      -- ---- by what the section says

      looked_over : (l : Looked) (mid : List D) → Concluded ghosts was.numbers name rule longest l was.lanes mid disks disks_after
          → Lettered ghosts was.numbers claim name was.lanes l.whys mid × Rises ghosts was.numbers claim name was.lanes mid
      looked_over l mid x = (
        looked x.looks.found l.whys mid x.looks.read,
        λ k d low there. look_up ghosts (length was.lanes) (longest_file longest) set.out name x.looks.found l.whys was.lanes mid refl x.looks.read k d low,
      )

      not_forwarded : (fault : QuorumFault) → NotForwarded ghosts was.numbers name rule longest fault was.lanes now.lanes disks disks_after
          → FaultSays fault (views ghosts disks) (views ghosts disks_after)
      not_forwarded fault x = subst (λ (f : QuorumFault). FaultSays f (views ghosts disks) (views ghosts disks_after)) (sym x.letters)
          (tell_lanes name named x.looked.whys (looked_over x.looked now.lanes x.concluded).0, x.few)

      forward_refused : (fault : QuorumFault) → ForwardRefused ghosts was.numbers now.numbers.count name rule longest fault was.lanes now.lanes disks disks_after
          → FaultSays fault (views ghosts disks) (views ghosts disks_after)
      forward_refused fault x =
          let over = looked_over x.looked x.mid x.concluded in
          let again = x.writes in
          let letters : again.draft.letters ≡ x.looked.whys =
          again.drafted.letters ∙ ap (λ (p : Option Next). letters_for p x.looked.whys x.looked.set.drives) again.pending in
          let all : Lettered ghosts was.numbers claim name was.lanes again.draft.letters x.mid =
          subst (λ (l : List Why). Lettered ghosts was.numbers claim name was.lanes l x.mid) (sym letters) over.0 in
          writes_say x.mid over.1 again.draft was.numbers.term was.numbers.count now.numbers.count (again.drafted.set ∙ x.concluded.looks.plan)
          (λ k d in_set low there bad. all k d in_set low there) (λ few. all) fault again.writes

      pub look_says : (fault : QuorumFault) → LookCause ghosts was.numbers now.numbers name rule longest fault was.lanes now.lanes disks disks_after
          → FaultSays fault (views ghosts disks) (views ghosts disks_after)
      look_says fault cause = elim cause [
        | inl refused ↦ looks_say fault refused.0.looks
        | inr (inl waits) ↦ not_forwarded fault waits.0
        | inr (inr forward) ↦ forward_refused fault forward.0
      ]

      pub own_says : (fault : QuorumFault) (content : List ℕ) (own : Next)
          → OwnIsWritten ghosts was.numbers now.numbers name rule longest content own (Err fault) was.lanes now.lanes disks disks_after
          → FaultSays fault (views ghosts disks) (views ghosts disks_after)
      own_says fault content own written = elim written [ inl once ↦ at_once once | inr again ↦ after_again again ]
        where
          at_once : OwnAtOnce ghosts was.numbers now.numbers name rule longest content own (Err fault) was.lanes now.lanes disks disks_after
              → FaultSays fault (views ghosts disks) (views ghosts disks_after)
          at_once x = fresh_say x.mid (looked_over x.looked x.mid x.concluded).1 x.draft was.numbers.term was.numbers.count now.numbers.count
              (x.drafted.set ∙ x.concluded.looks.plan)
              (x.drafted.letters ∙ (ap (λ (p : Option Next). letters_for p x.looked.whys x.looked.set.drives) x.settled
              ∙ ap (λ (s : SetPlan). replicate s.drives Good) x.concluded.looks.plan)) fault x.writes

          after_again : OwnAfterAgain ghosts was.numbers now.numbers name rule longest content own (Err fault) was.lanes now.lanes disks disks_after
              → FaultSays fault (views ghosts disks) (views ghosts disks_after)
          after_again x =
              let over = looked_over x.looked x.mid x.concluded in
              let again = both_up ghosts (length x.mid) x.first set.out was.numbers.term was.numbers.count x.middle (Ok x.letters) x.mid x.between refl x.forward in
              let first_set : x.first.set ≡ set = x.first_drafted.set ∙ x.concluded.looks.plan in
              fresh_say x.between (rises_on ghosts was.numbers claim name was.lanes x.mid x.between again.0 over.1 again.1) x.draft was.numbers.term x.middle
              now.numbers.count (x.drafted.set ∙ first_set) (x.drafted.letters ∙ ap (λ (s : SetPlan). replicate s.drives Good) first_set) fault x.writes

  -- ---- the register of the entry

  register_says : (disks disks_after : List D) → length disks_after ≡ length disks → (fault : QuorumFault)
      → LookRefuses ghosts was now made fault disks disks_after ⊎ CommitRefuses ghosts was now claim made fault disks disks_after
      → FaultSays fault (views ghosts disks) (views ghosts disks_after)
  register_says disks disks_after long fault (inl x) =
      look_says made.name refl (rule_for made.name) (longest_for made.name) refl (look_breaks was.numbers claim made.name) disks disks_after long fault x.cause
  register_says disks disks_after long fault (inr x) = elim x.cause [
    | inl look ↦ look_says (name_of x.deed) x.name_is look.rule look.longest (deed_longest was.numbers x.deed x.put look.rule look.longest look.rule_is)
        (deed_breaks was.numbers claim x.deed x.put look.rule look.longest x.put_is look.rule_is) disks disks_after long fault look.cause
    | inr (at, reply, wrote) ↦ own_says (name_of x.deed) x.name_is wrote.rule wrote.longest
        (deed_longest was.numbers x.deed x.put wrote.rule wrote.longest wrote.rule_is)
        (deed_breaks was.numbers claim x.deed x.put wrote.rule wrote.longest x.put_is wrote.rule_is) disks disks_after long fault wrote.content wrote.own wrote.written
  ]

  pub lanes_say : (fault : QuorumFault) (old new : List DriveView) → length new ≡ length old
      → NamesRefuse ghosts was now made fault ⊎ RegisterRefuses ghosts was now claim made fault old new → FaultSays fault old new
  lanes_say fault old new long (inl names) = names_say fault old new names
  lanes_say fault old new long (inr x) =
      let both : length x.new ≡ length x.old = sym (length-views ghosts x.new) ∙ (ap (λ (l : List DriveView). length l) x.new_is
      ∙ (long ∙ (ap (λ (l : List DriveView). length l) (sym x.old_is) ∙ length-views ghosts x.old))) in
      subst₂ (λ (a b : List DriveView). FaultSays fault a b) x.old_is x.new_is (register_says x.old x.new both fault x.how)

module _ {D : Type 0} (ghosts : Ghosts D) (was now : SlotSeen D) (claim : Claim) (old new : List DriveView) (long : length new ≡ length old) where
  said_by : (fault : QuorumFault) (entry : Option Entry) → LanesRefuse ghosts entry was now claim fault old new
      → MatchOption entry ⊥ (λ made. FaultSays ghosts was now claim made fault old new)
  said_by fault None x = x
  said_by fault (Some made) x = lanes_say ghosts was now claim made fault old new long x

  refusal_says : (why : Refusal) (entry : Option Entry) → RefusalAccount ghosts why entry was now claim old new → RefusalCause ghosts why entry was now claim old new
  refusal_says (refusal.ReadQuorum whys) entry x = said_by (ReadQuorum whys) entry x
  refusal_says (refusal.WriteQuorum whys) entry x = said_by (WriteQuorum whys) entry x
  refusal_says (refusal.Undecided k u whys) entry x = said_by (Undecided k u whys) entry x
  refusal_says other entry x = x

  by_refusal : (why : Option Refusal) (entry : Option Entry) → MatchOption why (Unit {0}) (λ w. RefusalAccount ghosts w entry was now claim old new)
      → MatchOption why (Unit {0}) (λ w. RefusalCause ghosts w entry was now claim old new)
  by_refusal None entry x = tt
  by_refusal (Some why) entry x = refusal_says why entry x

  -- the cause of a section that was refused, from its account
  pub cause_by : (note : Option Note) → TurnAccount ghosts note was now claim old new → TurnCause ghosts note was now claim old new
  cause_by None x = tt
  cause_by (Some note) x = by_refusal note.refusal note.entry x
