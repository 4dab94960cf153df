-- A section isn't refused for a fault of a quorum where enough lanes and data drives serve.
use Rattle.std.proofs.Common.{◌≡◌, ◌∙◌, ◌<◌, ◌≤◌, ◌^◌, ℕ, List, [], Option, Some, None, Err, MatchOption, bit_and, cond, length, ap, sym, subst, subst₂, inl, inr, refl, arith}
use Rattle.std.specs.Prelude.{Bool, IsTrue, slice_index_or}
use Rattle.std.specs.Int.{IsBitSet}
use Rattle.std.proofs.lemmas.Bool.Decides.{eqb_tells}
use Rattle.std.proofs.lemmas.List.FromFn.{get_or-map-range_with_len}
use Rattle.stamp_id.specs.declared.version.VersionId.{VersionId}
use Rattle.audit_trail.specs.declared.entry.Entry.{Entry}
use Rattle.body_print.specs.Names.{manifest_name}
use Rattle.call_types.specs.declared.refusal.Refusal.{Refusal}
use Rattle.call_types.specs.declared.why.FileKind.TheVariants.{Format, Manifest, Register, Shard}
use Rattle.call_types.specs.declared.why.Why.{Why}
use Rattle.call_types.specs.declared.why.Why.TheVariants.{Behind, Damaged, Failed, Good, Lacks}
use Rattle.drive_base.specs.DriveSet.{count_in}
use Rattle.drive_base.specs.Files.{Named}
use Rattle.drive_base.specs.Plan.{data_drives}
use Rattle.drive_base.specs.View.{DriveView, view, view_at, views}
use Rattle.drive_base.specs.declared.drive.Drive.{Ghosts}
use Rattle.drive_base.specs.declared.plan.SetPlan.{SetPlan}
use Rattle.drive_base.proofs.ViewLemmas.{length-views, view_at-views}
use Rattle.fault_base.specs.Counts.{Rose}
use Rattle.manifest_file.specs.Table.{ManifestsAreNoLonger}
use Rattle.manifest_file.specs.declared.manifest.TheConstants.{LONGEST_FILE}
use Rattle.register_core.specs.LaneWrites.{letter_at}
use Rattle.register_core.specs.ServingLanes.{ServingLaneIsRead}
use Rattle.register_core.specs.declared.faults.QuorumFault.{QuorumFault}
use Rattle.register_core.specs.declared.faults.QuorumFault.TheVariants.{NoMemory, ReadQuorum, Undecided, WriteQuorum}
use Rattle.manifest_file.proofs.Sizes.{no_longer}
use Rattle.register_file.proofs.Lawful.{register_lawful}
use Rattle.register_file.proofs.Sizes.{files_no_longer}
use Rattle.register_core.proofs.SeenLemmas.{element}
use Rattle.register_core.proofs.ServingLemmas.{serving_lane_is_read}
use Rattle.slot_history.specs.Standing.{Flying, IsLawfulUnder, Records}
use Rattle.slot_history.specs.State.{State}
use Rattle.slot_data.specs.Disks.{Disks, kept_on}
use Rattle.slot_data.specs.Holding.{Holding}
use Rattle.slot_rules.specs.Rules.{longest_for, rule_for}
use Rattle.slot_core.specs.Causes.{LookCause}
use Rattle.slot_core.specs.CommitCauses.{IsRuleOf, OwnIsWritten}
use Rattle.slot_core.specs.NameList.{NamesLetter}
use Rattle.slot_core.specs.Views.{last_of}
use Rattle.slot_core.specs.declared.slot.SlotFault.TheVariants.{Quorum}
use Rattle.receipts.specs.Events.{Note, Shown}
use Rattle.op_steps.specs.Claims.{Claim, DataHolds, HoldsAt, counted_on, disks_of}
use Rattle.op_steps.specs.Notes.{refusal_by}
use Rattle.op_steps.specs.Serving.{AreEnough, DriveServes, DrivesServe, IsManifestName, IsMarkedOn, IsNameOf}
use Rattle.op_steps.specs.Store.{LanesStand, SlotSeen}
use Rattle.op_steps.proofs.AcceptLemmas.{Accepts, IsListedPut, deed_accepts, look_accepts}
use Rattle.op_steps.proofs.Accounts.{CommitRefuses, IsNotUnlisted, LanesRefuse, LookRefuses, NamesRefuse, RefusalAccount, TurnDoes}
use Rattle.op_steps.proofs.CalmLemmas.{AreCalm}
use Rattle.op_steps.proofs.LetterLemmas.{AreGood, good_enough}
use Rattle.op_steps.proofs.PendingLemmas.{ServeData, decided}
use Rattle.op_steps.proofs.RefusedLemmas.{Against, RegisterServes, cause_not, own_not}

-- a drive in use counts with what it keeps
pub counted_in_use : (unseen : Disks) (out : ℕ) (disks : List DriveView) (k : ℕ) → k < length disks → (IsBitSet out k → ⊥)
    → kept_on (disks_of unseen out disks) k ≡ (view_at disks k).files.kept
counted_in_use unseen out disks k inside in_use =
    get_or-map-range_with_len (counted_on unseen out disks) 0 (length disks) k k (λ _. None) inside (omega arith)
    ∙ elim (eqb_tells (bit_and out (2 ^ k)) 0) [
      | inl free ↦ ap (λ (b : Bool). cond b (view_at disks k).files.kept (kept_on unseen k)) free.0
      | inr set ↦ absurd (in_use set.1)
    ]

-- a lane that serves gave its names
pub names_good : (why : Why) (out : Type 0) (old new : ℕ) → NamesLetter out why old new → (out → ⊥) → (Rose old new → ⊥) → why ≡ Good
names_good Good out old new is in_use calm = refl
names_good (Failed before after) out old new is in_use calm = absurd (calm is.3)
names_good (Damaged damage) out old new is in_use calm = absurd is
names_good (Behind ballot) out old new is in_use calm = absurd is
names_good (Lacks Format) out old new is in_use calm = absurd (in_use is.0)
names_good (Lacks Register) out old new is in_use calm = absurd is
names_good (Lacks Manifest) out old new is in_use calm = absurd is
names_good (Lacks Shard) out old new is in_use calm = absurd is

-- what can't be where the put that a section ends is listed can't be
pub with_listed : (flights : List Flying) (put : Option VersionId) → IsNotUnlisted flights put → (IsListedPut flights put → ⊥) → ⊥
with_listed flights None may never = never tt
with_listed flights (Some id) may never = may id refl (λ listed. never (listed.flight, listed.there, listed.id_is))

-- a lane that serves is read
pub lane_is_read : ServingLaneIsRead
lane_is_read longest out k name read why tells files old new lane =
    serving_lane_is_read register_lawful.read files_no_longer longest name read why (IsBitSet out k) tells files old new lane

module _ {D : Type 0} (ghosts : Ghosts D) where
  -- that drives of a set serve is said of each drive
  pub serve_each : (IsName : List ℕ → Type 0) (out serving n : ℕ) (old new : List D) → length old ≡ n → length new ≡ n
      → DrivesServe IsName out serving (views ghosts old) (views ghosts new) → (k : ℕ) (d : D) → k < n → IsBitSet serving k
      → DriveServes IsName out k (view ghosts (slice_index_or old k d)) (view ghosts (slice_index_or new k d))
  serve_each IsName out serving n old new long_old long_new serve k d low bit =
      let before : k < length old = omega (arith, long_old, low) in
      let after : k < length new = omega (arith, long_new, low) in
      let counted = length-views ghosts old in
      subst₂ (λ (v w : DriveView). DriveServes IsName out k v w) (view_at-views ghosts old k d before) (view_at-views ghosts new k d after)
      (serve k (omega (arith, counted, before)) bit)

  serve_data : (set : SetPlan) (index last : ℕ) (holding : Holding) (unseen : Disks) (old new : List D) (claims : List Claim) (records : Records) (state : State)
      (disks : ℕ) → HoldsAt set index last holding unseen (views ghosts old) claims records state → length old ≡ set.drives → length new ≡ set.drives
      → DrivesServe IsManifestName set.out disks (views ghosts old) (views ghosts new)
      → ServeData ghosts set disks (disks_of unseen set.out (views ghosts old)) old new
  serve_data set index last holding unseen old new claims records state disks holds long_old long_new serve k d low bit =
      let s = serve_each IsManifestName set.out disks set.drives old new long_old long_new serve k d low bit in
      let here : k < length old = omega (arith, long_old, low) in
      let counted = length-views ghosts old in
      let is = view_at-views ghosts old k d here in (
        s.in_use,
        subst (λ (v : DriveView). IsTrue v.tells) is (holds.tell.tell k low s.in_use),
        s.calm,
        λ id. s.shows (manifest_name id) (id, refl)
            ∙ ap (λ (kept : Named (List ℕ)). kept (manifest_name id))
            (sym (counted_in_use unseen set.out (views ghosts old) k (omega (arith, counted, here)) s.in_use ∙ ap (λ (v : DriveView). v.files.kept) is)),
      )

  -- some drive of the type tells nothing
  abbrev Forgets : Type 0
  Forgets = ((d : D) → IsTrue (ghosts.tells d)) → ⊥

  untold_forgets : (d : D) → (IsTrue (ghosts.tells d) → ⊥) → Forgets
  untold_forgets d untold all = untold (all d)

  module _ (law : ServingLaneIsRead) (lengths : ManifestsAreNoLonger LONGEST_FILE) (was now : SlotSeen D) (note : Note) (shown : Shown) (claim later : Claim)
      (old new : List DriveView) (records : Records) (state : State) (unseen : Disks) (claims : List Claim) (lanes disks : ℕ)
      (moves : TurnDoes ghosts was now (Some note) shown claim later old new) (stands : LanesStand ghosts.tells ghosts.files was records state)
      (holds : DataHolds was.numbers was.holding unseen old claims records state)
      (lanes_serve : DrivesServe (IsNameOf note.entry) was.numbers.set.out lanes (views ghosts was.lanes) (views ghosts now.lanes))
      (disks_serve : DrivesServe IsManifestName was.numbers.set.out disks old new) where
    long_was : length was.lanes ≡ was.numbers.set.drives
    long_was = sym (stands.have.are []).counted ∙ (stands.stands.lawful_under []).counted

    long_now : length now.lanes ≡ was.numbers.set.drives
    long_now =
        let after = (moves.leaves records state stands).stands in
        sym (after.have.are []).counted ∙ ((after.stands.lawful_under []).counted ∙ ap (λ (s : SetPlan). s.drives) moves.numbers.set)

    each_lane : (k : ℕ) (d : D) → k < was.numbers.set.drives → IsBitSet lanes k
        → DriveServes (IsNameOf note.entry) was.numbers.set.out k (view ghosts (slice_index_or was.lanes k d)) (view ghosts (slice_index_or now.lanes k d))
    each_lane = serve_each (IsNameOf note.entry) was.numbers.set.out lanes was.numbers.set.drives was.lanes now.lanes long_was long_now lanes_serve

    are_calm : AreCalm ghosts was.numbers.set.drives was.numbers.set.out lanes was.lanes now.lanes
    are_calm k d low bit = let s = each_lane k d low bit in (s.in_use, s.calm)

    -- the register of the entry
    module _ (made : Entry) (is : note.entry ≡ Some made) where
      lawful : IsLawfulUnder was.numbers.set.drives (last_of was.numbers) was.holding.flights (records made.name) made.name
      lawful = stands.stands.lawful_under made.name

      serves : (rule : List ℕ → Option ℕ) (longest : ℕ) → Accepts rule longest (records made.name)
          → RegisterServes ghosts was.numbers.set lanes made.name rule longest (records made.name) was.lanes now.lanes
      serves rule longest content = record {
        long_old = long_was;
        long_new = long_now;
        tell = stands.have.tell;
        honest = stands.have.honest made.name;
        are = stands.have.are made.name;
        calm = are_calm;
        show = λ k d low bit. (each_lane k d low bit).shows made.name (subst (λ (e : Option Entry). IsNameOf e made.name) (sym is) refl);
        content = content;
      }

      module _ (disks_old disks_new : List D) (old_is : views ghosts disks_old ≡ old) (new_is : views ghosts disks_new ≡ new) where
        long_old : length disks_old ≡ was.numbers.set.drives
        long_old = sym (length-views ghosts disks_old) ∙ (ap (λ (l : List DriveView). length l) old_is ∙ holds.tell.count)

        long_new : length disks_new ≡ was.numbers.set.drives
        long_new = sym (length-views ghosts disks_new) ∙ (ap (λ (l : List DriveView). length l) new_is ∙ (moves.read.long ∙ holds.tell.count))

        held_data : HoldsAt was.numbers.set was.numbers.index (last_of was.numbers) was.holding unseen (views ghosts disks_old) claims records state
        held_data = subst (λ (l : List DriveView). HoldsAt was.numbers.set was.numbers.index (last_of was.numbers) was.holding unseen l claims records state)
            (sym old_is) holds

        data_serves : ServeData ghosts was.numbers.set disks (disks_of unseen was.numbers.set.out (views ghosts disks_old)) disks_old disks_new
        data_serves = serve_data was.numbers.set was.numbers.index (last_of was.numbers) was.holding unseen disks_old disks_new claims records state disks held_data
            long_old long_new (subst₂ (λ (l m : List DriveView). DrivesServe IsManifestName was.numbers.set.out disks l m) (sym old_is) (sym new_is) disks_serve)

        against : (rule : List ℕ → Option ℕ) (longest : ℕ) → Accepts rule longest (records made.name) → (fault : QuorumFault)
            → AreEnough ghosts was.numbers.set lanes disks (IsMarkedOn lanes records state note.entry) fault
            → Against ghosts Forgets was.numbers.set lanes made.name longest fault was.lanes now.lanes disks_old disks_new
        against rule longest content (ReadQuorum whys) enough = record {
          reads = λ w e. enough;
          writes = λ w e. absurd cc;
          kept = λ w e k bit forgot letter. absurd cc;
          decided = λ k u w e x. absurd cc;
          memory = λ e. absurd cc;
        }
        against rule longest content (WriteQuorum whys) enough = record {
          reads = λ w e. absurd cc;
          writes = λ w e. enough.0;
          kept = λ w e k bit forgot letter. elim enough.1 [
            | inl all ↦ forgot all
            | inr none ↦ none k bit (let same : whys ≡ w = cc in ap (λ (l : List Why). letter_at l k) same ∙ letter)
          ];
          decided = λ k u w e x. absurd cc;
          memory = λ e. absurd cc;
        }
        against rule longest content (Undecided j v whys) enough =
            let marked = subst (IsMarkedOn lanes records state) is enough.0 in
            let held = marked.0 in
            record {
              reads = λ w e. absurd cc;
              writes = λ w e. absurd cc;
              kept = λ w e k bit forgot letter. absurd cc;
              decided = λ k u w e x. decided ghosts law lengths was.numbers.set (last_of was.numbers) records state
                  (disks_of unseen was.numbers.set.out (views ghosts disks_old)) made.name rule longest lanes disks was.lanes now.lanes disks_old disks_new held
                  (stands.stands.under made.name held) held_data.stands.holders (serves rule longest content) marked.1 long_old data_serves enough.1 k u w x;
              memory = λ e. absurd cc;
            }
        against rule longest content NoMemory enough = absurd enough

        look_not : (fault : QuorumFault) → AreEnough ghosts was.numbers.set lanes disks (IsMarkedOn lanes records state note.entry) fault
            → LookRefuses ghosts was now made fault disks_old disks_new → ⊥
        look_not fault enough x =
            let content = look_accepts was.numbers.set.drives (last_of was.numbers) was.holding.flights (records made.name) made.name
            lawful in
            cause_not ghosts law Forgets untold_forgets was.numbers.set lanes made.name (rule_for made.name) (longest_for made.name)
            (records made.name) was.lanes now.lanes (serves (rule_for made.name) (longest_for made.name) content) fault disks_old disks_new
            (against (rule_for made.name) (longest_for made.name) content fault enough) was.numbers now.numbers refl x.cause

        commit_content : (fault : QuorumFault) (x : CommitRefuses ghosts was now claim made fault disks_old disks_new) (rule : List ℕ → Option ℕ) (longest : ℕ)
            → IsRuleOf was.numbers x.deed x.put rule longest → IsListedPut was.holding.flights x.put → Accepts rule longest (records made.name)
        commit_content fault x rule longest rule_is listed =
            deed_accepts was.numbers.set.drives was.numbers was.holding.flights (records made.name) x.deed x.put rule longest
            (subst (λ (n : List ℕ). IsLawfulUnder was.numbers.set.drives (last_of was.numbers) was.holding.flights (records made.name) n) x.name_is lawful)
            (λ at name. listed) rule_is

        listed_not : (fault : QuorumFault) → AreEnough ghosts was.numbers.set lanes disks (IsMarkedOn lanes records state note.entry) fault
            → (x : CommitRefuses ghosts was now claim made fault disks_old disks_new) → IsListedPut was.holding.flights x.put → ⊥
        listed_not fault enough x listed = elim x.cause [
          | inl look ↦
              let content = commit_content fault x look.rule look.longest look.rule_is listed in
              cause_not ghosts law Forgets untold_forgets was.numbers.set lanes made.name look.rule look.longest
              (records made.name) was.lanes now.lanes (serves look.rule look.longest content) fault disks_old disks_new
              (against look.rule look.longest content fault enough) was.numbers now.numbers refl
              (subst (λ (n : List ℕ). LookCause ghosts was.numbers now.numbers n look.rule look.longest fault was.lanes now.lanes
              disks_old disks_new) (sym x.name_is) look.cause)
          | inr (at, reply, wrote) ↦
              let content = commit_content fault x wrote.rule wrote.longest wrote.rule_is listed in
              own_not ghosts law Forgets untold_forgets was.numbers.set lanes made.name wrote.rule wrote.longest
              (records made.name) was.lanes now.lanes (serves wrote.rule wrote.longest content) fault disks_old disks_new
              (against wrote.rule wrote.longest content fault enough) was.numbers now.numbers wrote.content wrote.own refl
              (subst (λ (n : List ℕ). OwnIsWritten ghosts was.numbers now.numbers n wrote.rule wrote.longest wrote.content wrote.own
              (Err fault) was.lanes now.lanes disks_old disks_new) (sym x.name_is) wrote.written)
        ]

        commit_not : (fault : QuorumFault) → AreEnough ghosts was.numbers.set lanes disks (IsMarkedOn lanes records state note.entry) fault
            → CommitRefuses ghosts was now claim made fault disks_old disks_new → ⊥
        commit_not fault enough x = with_listed was.holding.flights x.put x.listed (listed_not fault enough x)

      names_not : (fault : QuorumFault) → AreEnough ghosts was.numbers.set lanes disks (IsMarkedOn lanes records state note.entry) fault
          → NamesRefuse ghosts was now made fault → ⊥
      names_not fault enough x =
          let need : data_drives was.numbers.set.drives was.numbers.set.parity ≤ count_in lanes was.numbers.set.drives =
          subst (AreEnough ghosts was.numbers.set lanes disks (IsMarkedOn lanes records state note.entry)) x.fault_is enough in
          let asked = x.few.asked in
          let good : AreGood was.numbers.set.drives lanes x.whys = (λ k low bit.
          let here : k < length was.lanes = let long = long_was in omega (arith, long, low) in
          let d = element was.lanes k here in
          let s = each_lane k d low bit in
          names_good (letter_at x.whys k) (IsBitSet was.numbers.set.out k) (ghosts.count (slice_index_or was.lanes k d)) (ghosts.count (slice_index_or now.lanes k d))
          (asked.each k d here) s.in_use s.calm) in
          let most = good_enough was.numbers.set.drives lanes x.whys (asked.lettered ∙ long_was) good in
          let few = x.few.few in
          absurd (omega (arith, need, most, few))

    lanes_not : (entry : Option Entry) → note.entry ≡ entry → (fault : QuorumFault)
        → AreEnough ghosts was.numbers.set lanes disks (IsMarkedOn lanes records state note.entry) fault
        → LanesRefuse ghosts entry was now claim fault old new → ⊥
    lanes_not None is fault enough refuse = refuse
    lanes_not (Some made) is fault enough refuse = elim refuse [
      | inl names ↦ names_not made is fault enough names
      | inr register ↦ elim register.how [
        | inl look ↦ look_not made is register.old register.new register.old_is register.new_is fault enough look
        | inr commit ↦ commit_not made is register.old register.new register.old_is register.new_is fault enough commit
      ]
    ]

    cause_by : (why : Option Refusal) → note.refusal ≡ why → MatchOption why (Unit {0}) (λ w. RefusalAccount ghosts w note.entry was now claim old new)
    cause_by why is = subst (λ (r : Option Refusal). MatchOption r (Unit {0}) (λ w. RefusalAccount ghosts w note.entry was now claim old new)) is moves.account

    refused_not : (fault : QuorumFault) → AreEnough ghosts was.numbers.set lanes disks (IsMarkedOn lanes records state note.entry) fault
        → note.refusal ≡ refusal_by (Quorum fault) → ⊥
    refused_not (ReadQuorum whys) enough is = lanes_not note.entry refl (ReadQuorum whys) enough (cause_by (refusal_by (Quorum (ReadQuorum whys))) is)
    refused_not (WriteQuorum whys) enough is = lanes_not note.entry refl (WriteQuorum whys) enough (cause_by (refusal_by (Quorum (WriteQuorum whys))) is)
    refused_not (Undecided k u whys) enough is = lanes_not note.entry refl (Undecided k u whys) enough (cause_by (refusal_by (Quorum (Undecided k u whys))) is)
    refused_not NoMemory enough is = enough

  -- a section isn't refused so, by its account
  pub section_enough : (was now : SlotSeen D) (note : Note) (shown : Shown) (claim later : Claim) (old new : List DriveView)
      → TurnDoes ghosts was now (Some note) shown claim later old new → (records : Records) (state : State) (unseen : Disks) (claims : List Claim)
      (lanes disks : ℕ) (fault : QuorumFault)
      → LanesStand ghosts.tells ghosts.files was records state → DataHolds was.numbers was.holding unseen old claims records state
      → DrivesServe (IsNameOf note.entry) was.numbers.set.out lanes (views ghosts was.lanes) (views ghosts now.lanes)
      → DrivesServe IsManifestName was.numbers.set.out disks old new
      → AreEnough ghosts was.numbers.set lanes disks (IsMarkedOn lanes records state note.entry) fault → note.refusal ≡ refusal_by (Quorum fault) → ⊥
  section_enough was now note shown claim later old new moves records state unseen claims lanes disks fault stands holds lanes_serve disks_serve =
      refused_not lane_is_read no_longer was now note shown claim later old new records state unseen claims lanes disks moves stands holds lanes_serve disks_serve
      fault
