-- Looks at calm registers are answered where as many lanes serve as a stripe has data blocks.
use Rattle.std.proofs.Common.{◌≡◌, ◌≢◌, ◌∙◌, ◌<◌, ◌≤◌, ℕ, List, [], Option, Some, None, MatchOption, length, ap, sym, subst, inl, inr, refl, arith}
use Rattle.std.specs.Prelude.{IsTrue, slice_index_or}
use Rattle.std.specs.Int.{IsBitSet}
use Rattle.audit_trail.specs.declared.entry.Entry.{Entry}
use Rattle.call_types.specs.declared.refusal.Refusal.{Refusal}
use Rattle.drive_base.specs.DriveSet.{count_in}
use Rattle.drive_base.specs.Plan.{data_drives}
use Rattle.drive_base.specs.View.{DriveView, view, views}
use Rattle.drive_base.specs.declared.drive.Drive.{Ghosts}
use Rattle.drive_base.specs.declared.plan.SetPlan.{SetPlan}
use Rattle.vote_core.specs.Sound.{HoldsValue}
use Rattle.register_file.specs.declared.record.Next.{Next}
use Rattle.register_core.specs.LaneWrites.{letter_at}
use Rattle.register_core.specs.ServingLanes.{ServingLaneIsRead}
use Rattle.register_core.specs.declared.faults.QuorumFault.{QuorumFault}
use Rattle.register_core.specs.declared.faults.QuorumFault.TheVariants.{NoMemory, ReadQuorum, Undecided, WriteQuorum}
use Rattle.register_core.specs.declared.looks.Looked.{Looked}
use Rattle.register_core.proofs.SeenLemmas.{element}
use Rattle.slot_history.specs.Standing.{IsLawfulUnder, Records}
use Rattle.slot_history.specs.State.{State}
use Rattle.slot_history.proofs.NameLemmas.{bucket_not_part, key_not_part}
use Rattle.slot_data.specs.Disks.{IsPartName}
use Rattle.slot_rules.specs.Rules.{IsRegisterName, longest_for, rule_for}
use Rattle.slot_core.specs.Calm.{IsCalmUnder, OnlyLooked}
use Rattle.slot_core.specs.Causes.{Concluded, LookCause}
use Rattle.slot_core.specs.Views.{last_of, quorum_of}
use Rattle.slot_core.specs.declared.slot.SlotFault.TheVariants.{Quorum}
use Rattle.slot_core.proofs.SettlingLemmas.{name_held}
use Rattle.receipts.specs.Events.{Note, Shown}
use Rattle.op_steps.specs.Claims.{Claim}
use Rattle.op_steps.specs.Notes.{refusal_by}
use Rattle.op_steps.specs.Serving.{DriveServes, DrivesServe, HasLooked, IsNameOf}
use Rattle.op_steps.specs.Store.{LanesStand, SlotSeen}
use Rattle.op_steps.proofs.AcceptLemmas.{Accepts, IsListedPut, deed_accepts, look_accepts}
use Rattle.op_steps.proofs.Accounts.{CommitRefuses, LanesRefuse, LookRefuses, NamesRefuse, RefusalAccount, TurnDoes}
use Rattle.op_steps.proofs.LetterLemmas.{AreGood, good_enough}
use Rattle.op_steps.proofs.RefusedLemmas.{RegisterServes, cause_not}
use Rattle.op_steps.proofs.SectionLemmas.{lane_is_read, names_good, serve_each, with_listed}

-- a bucket's or a key's register isn't a part's
register_not_part : (name : List ℕ) → IsRegisterName name → IsPartName name → ⊥
register_not_part name (inl (bucket, is)) part = bucket_not_part bucket part.at part.upload part.number (sym is ∙ part.is)
register_not_part name (inr (at, is)) part = key_not_part at part.at part.upload part.number (sym is ∙ part.is)

module _ {D : Type 0} (ghosts : Ghosts D) where
  -- some drive of the type tells nothing
  abbrev Forgets : Type 0
  Forgets = ((d : D) → IsTrue (ghosts.tells d)) → ⊥

  untold_forgets : (d : D) → (IsTrue (ghosts.tells d) → ⊥) → Forgets
  untold_forgets d untold all = untold (all d)

  module _ (law : ServingLaneIsRead) (was now : SlotSeen D) (note : Note) (shown : Shown) (claim later : Claim) (old new : List DriveView) (records : Records)
      (state : State) (name : List ℕ) (lanes : ℕ) (moves : TurnDoes ghosts was now (Some note) shown claim later old new)
      (stands : LanesStand ghosts.tells ghosts.files was records state) (named : IsRegisterName name)
      (calm : IsCalmUnder (quorum_of was.numbers) records state name)
      (lanes_serve : DrivesServe (IsNameOf note.entry) was.numbers.set.out lanes (views ghosts was.lanes) (views ghosts now.lanes))
      (enough : data_drives was.numbers.set.drives was.numbers.set.parity ≤ count_in lanes was.numbers.set.drives) where
    long_was : length was.lanes ≡ was.numbers.set.drives
    long_was = sym (stands.have.are []).counted ∙ (stands.stands.lawful_under []).counted

    long_now : length now.lanes ≡ was.numbers.set.drives
    long_now =
        let after = (moves.leaves records state stands).stands in
        sym (after.have.are []).counted ∙ ((after.stands.lawful_under []).counted ∙ ap (λ (s : SetPlan). s.drives) moves.numbers.set)

    each_lane : (k : ℕ) (d : D) → k < was.numbers.set.drives → IsBitSet lanes k
        → DriveServes (IsNameOf note.entry) was.numbers.set.out k (view ghosts (slice_index_or was.lanes k d)) (view ghosts (slice_index_or now.lanes k d))
    each_lane = serve_each ghosts (IsNameOf note.entry) was.numbers.set.out lanes was.numbers.set.drives was.lanes now.lanes long_was long_now lanes_serve

    holds : HoldsValue (quorum_of was.numbers) (last_of was.numbers) (records name) (state.registers name).change (state.registers name).content
    holds = (stands.stands.under name (name_held state.registers name named)).holds

    -- the register of the entry
    module _ (made : Entry) (is : note.entry ≡ Some made) (same : made.name ≡ name) (looked : OnlyLooked made.deed) where
      serves : (rule : List ℕ → Option ℕ) (longest : ℕ) → Accepts rule longest (records name)
          → RegisterServes ghosts was.numbers.set lanes name rule longest (records name) was.lanes now.lanes
      serves rule longest content = record {
        long_old = long_was;
        long_new = long_now;
        tell = stands.have.tell;
        honest = stands.have.honest name;
        are = stands.have.are name;
        calm = λ k d low bit. let s = each_lane k d low bit in (s.in_use, s.calm);
        show = λ k d low bit. (each_lane k d low bit).shows name (subst (λ (e : Option Entry). IsNameOf e name) (sym is) (sym same));
        content = content;
      }

      -- nothing is pending there
      none_pending : (rule : List ℕ → Option ℕ) (longest : ℕ) (looked_at : Looked) (mid disks disks_after : List D)
          → Concluded ghosts was.numbers name rule longest looked_at was.lanes mid disks disks_after → (found : Next)
          → looked_at.pending ≡ Some found → ⊥
      none_pending rule longest looked_at mid disks disks_after x found pending =
          let seen = x.looks.seen (records name) stands.have.tell (stands.have.honest name) (stands.have.are name) in
          let none : looked_at.pending ≡ None = (seen.value (last_of was.numbers) (state.registers name).change (state.registers name).content holds).calm
          calm in
          let both : None ≡ Some found = sym none ∙ pending in absurd cc

      cause_calm : (rule : List ℕ → Option ℕ) (longest : ℕ) → Accepts rule longest (records name) → (disks disks_after : List D) (fault : QuorumFault)
          → fault ≢ NoMemory
          → LookCause ghosts was.numbers now.numbers name rule longest fault was.lanes now.lanes disks disks_after → ⊥
      cause_calm rule longest content disks disks_after (ReadQuorum whys) other cause =
          cause_not ghosts law Forgets untold_forgets was.numbers.set lanes name rule longest (records name) was.lanes now.lanes
          (serves rule longest content) (ReadQuorum whys) disks disks_after (record {
            reads = λ w e. enough;
            writes = λ w e. absurd cc;
            kept = λ w e k bit forgot letter. absurd cc;
            decided = λ k u w e x. absurd cc;
            memory = λ e. absurd cc;
          }) was.numbers now.numbers refl cause
      cause_calm rule longest content disks disks_after (WriteQuorum whys) other cause = elim cause [
        | inl refused ↦ refused.0.looks
        | inr (inl waits) ↦ none_pending rule longest waits.0.looked now.lanes disks disks_after waits.0.concluded waits.0.found waits.0.pending
        | inr (inr forward) ↦ none_pending rule longest forward.0.looked forward.0.mid disks disks_after forward.0.concluded forward.0.writes.found
            forward.0.writes.pending
      ]
      cause_calm rule longest content disks disks_after (Undecided k u whys) other cause = elim cause [
        | inl refused ↦ (refused.0.looks.seen (records name) stands.have.tell (stands.have.honest name) (stands.have.are name)).stirred (last_of was.numbers)
            (state.registers name).change (state.registers name).content holds calm
        | inr (inl waits) ↦ none_pending rule longest waits.0.looked now.lanes disks disks_after waits.0.concluded waits.0.found waits.0.pending
        | inr (inr forward) ↦ none_pending rule longest forward.0.looked forward.0.mid disks disks_after forward.0.concluded forward.0.writes.found
            forward.0.writes.pending
      ]
      cause_calm rule longest content disks disks_after NoMemory other cause = other refl

      lawful : IsLawfulUnder was.numbers.set.drives (last_of was.numbers) was.holding.flights (records name) name
      lawful = stands.stands.lawful_under name

      look_not : (disks disks_after : List D) (fault : QuorumFault) → fault ≢ NoMemory → LookRefuses ghosts was now made fault disks disks_after → ⊥
      look_not disks disks_after fault other x =
          let content = look_accepts was.numbers.set.drives (last_of was.numbers) was.holding.flights (records name) name
          lawful in
          cause_calm (rule_for name) (longest_for name) content disks disks_after fault other
          (subst (λ (n : List ℕ). LookCause ghosts was.numbers now.numbers n (rule_for n) (longest_for n) fault was.lanes
          now.lanes
          disks disks_after) same x.cause)

      listed_not : (disks disks_after : List D) (fault : QuorumFault) → fault ≢ NoMemory
          → (x : CommitRefuses ghosts was now claim made fault disks disks_after) → IsListedPut was.holding.flights x.put → ⊥
      listed_not disks disks_after fault other x listed = elim x.cause [
        | inl look ↦
            let content = deed_accepts was.numbers.set.drives was.numbers was.holding.flights (records name) x.deed x.put look.rule look.longest
            (subst (λ (n : List ℕ). IsLawfulUnder was.numbers.set.drives (last_of was.numbers) was.holding.flights (records name) n) (sym same ∙ x.name_is)
            lawful)
            (λ at key. listed) look.rule_is in
            cause_calm look.rule look.longest content disks disks_after fault other
            (subst (λ (n : List ℕ). LookCause ghosts was.numbers now.numbers n look.rule look.longest fault was.lanes now.lanes
            disks disks_after) (sym x.name_is ∙ same) look.cause)
        | inr (at, reply, wrote) ↦ subst OnlyLooked wrote.deed_is looked
      ]

      commit_not : (disks disks_after : List D) (fault : QuorumFault) → fault ≢ NoMemory → CommitRefuses ghosts was now claim made fault disks disks_after → ⊥
      commit_not disks disks_after fault other x = with_listed was.holding.flights x.put x.listed (listed_not disks disks_after fault other x)

      names_not : (fault : QuorumFault) → NamesRefuse ghosts was now made fault → ⊥
      names_not fault x =
          let asked = x.few.asked in
          let good : AreGood was.numbers.set.drives lanes x.whys = (λ k low bit.
          let here : k < length was.lanes = let long = long_was in omega (arith, long, low) in
          let d = element was.lanes k here in
          let s = each_lane k d low bit in
          names_good (letter_at x.whys k) (IsBitSet was.numbers.set.out k) (ghosts.count (slice_index_or was.lanes k d))
          (ghosts.count (slice_index_or now.lanes k d))
          (asked.each k d here) s.in_use s.calm) in
          let most = good_enough was.numbers.set.drives lanes x.whys (asked.lettered ∙ long_was) good in
          let few = x.few.few in
          absurd (omega (arith, enough, most, few))

      lanes_not : (fault : QuorumFault) → fault ≢ NoMemory → LanesRefuse ghosts (Some made) was now claim fault old new → ⊥
      lanes_not fault other refuse = elim refuse [
        | inl names ↦ names_not fault names
        | inr register ↦ elim register.how [
          | inl look ↦ look_not register.old register.new fault other look
          | inr commit ↦ commit_not register.old register.new fault other commit
        ]
      ]

    entry_not : (entry : Option Entry) → note.entry ≡ entry → HasLooked entry name → (fault : QuorumFault) → fault ≢ NoMemory
        → LanesRefuse ghosts entry was now claim fault old new → ⊥
    entry_not None is looked fault other refuse = absurd looked
    entry_not (Some made) is looked fault other refuse = lanes_not made is looked.0 looked.1 fault other refuse

    cause_by : (why : Option Refusal) → note.refusal ≡ why → MatchOption why (Unit {0}) (λ w. RefusalAccount ghosts w note.entry was now claim old new)
    cause_by why is = subst (λ (r : Option Refusal). MatchOption r (Unit {0}) (λ w. RefusalAccount ghosts w note.entry was now claim old new)) is moves.account

    refused_not : HasLooked note.entry name → (fault : QuorumFault) → fault ≢ NoMemory → note.refusal ≡ refusal_by (Quorum fault) → ⊥
    refused_not looked (ReadQuorum whys) other is = entry_not note.entry refl looked (ReadQuorum whys) other
        (cause_by (refusal_by (Quorum (ReadQuorum whys))) is)
    refused_not looked (WriteQuorum whys) other is = entry_not note.entry refl looked (WriteQuorum whys) other
        (cause_by (refusal_by (Quorum (WriteQuorum whys))) is)
    refused_not looked (Undecided k u whys) other is =
        entry_not note.entry refl looked (Undecided k u whys) other (cause_by (refusal_by (Quorum (Undecided k u whys))) is)
    refused_not looked NoMemory other is = other refl

  -- so a look at a calm register isn't refused, by its account
  pub calm_looks : (was now : SlotSeen D) (note : Note) (shown : Shown) (claim later : Claim) (old new : List DriveView)
      → TurnDoes ghosts was now (Some note) shown claim later old new → (records : Records) (state : State) (name : List ℕ) (lanes : ℕ) (fault : QuorumFault)
      → LanesStand ghosts.tells ghosts.files was records state → IsRegisterName name → IsCalmUnder (quorum_of was.numbers) records state name
      → HasLooked note.entry name
      → DrivesServe (IsNameOf note.entry) was.numbers.set.out lanes (views ghosts was.lanes) (views ghosts now.lanes)
      → data_drives was.numbers.set.drives was.numbers.set.parity ≤ count_in lanes was.numbers.set.drives
      → fault ≢ NoMemory → note.refusal ≡ refusal_by (Quorum fault) → ⊥
  calm_looks was now note shown claim later old new moves records state name lanes fault stands named calm looked lanes_serve enough other =
      refused_not lane_is_read was now note shown claim later old new records state name lanes moves stands named calm lanes_serve enough looked fault other
