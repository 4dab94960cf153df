-- What carrying out a plan leaves of lanes that stood for a state.
use Rattle.std.proofs.Common.{◌≡◌, ◌⊎◌, ◌∙◌, ℕ, List, [], ◌++◌, Option, None, Some, ap, subst, subst₂, sym, refl, inl, inr}
use Rattle.std.specs.Prelude.{Bool}
use Rattle.std.proofs.lemmas.List.{append-nil}
use Rattle.call_types.specs.declared.refusal.KeyRefusal.{KeyRefusal}
use Rattle.drive_base.specs.Files.{Files}
use Rattle.stamp_id.specs.Rank.{change_of}
use Rattle.stamp_id.specs.declared.stamp.ChangeId.{ChangeId}
use Rattle.stamp_id.specs.declared.version.VersionId.{VersionId}
use Rattle.audit_trail.specs.declared.entry.Deed.{Deed}
use Rattle.audit_trail.specs.declared.entry.Deed.TheVariants.{Done as DoneDeed, Refused as RefusedDeed, Kept as KeptDeed}
use Rattle.vote_core.specs.Calm.{IsCalm}
use Rattle.vote_core.specs.Lane.{Lane}
use Rattle.register_core.specs.Records.{next_of}
use Rattle.register_core.specs.declared.faults.QuorumFault.{QuorumFault}
use Rattle.register_caller.specs.WrittenLanes.{written_of}
use Rattle.slot_history.specs.Doing.{Does}
use Rattle.slot_history.proofs.TakenLemmas.{none_there}
use Rattle.slot_history.specs.Laws.{IsMade, MadeIsLate, with_waiting}
use Rattle.slot_history.specs.Moving.{Deeds, IsLast, drawn_by}
use Rattle.slot_history.specs.Sections.{SectionMoves}
use Rattle.slot_history.specs.Standing.{Flying, Records}
use Rattle.slot_history.specs.State.{IsHeld, Register, State}
use Rattle.slot_data.specs.Bringing.{GoOn}
use Rattle.slot_data.specs.Disks.{Disks}
use Rattle.slot_data.specs.Holding.{Hands, Holding}
use Rattle.slot_data.specs.LaneLaws.{GoneIdsAreGone}
use Rattle.slot_data.specs.Standing.{DataStands}
use Rattle.slot_rules.specs.Deeds.{call_of, name_of}
use Rattle.slot_rules.specs.Planning.{DoesOver, IsGoneBy}
use Rattle.slot_rules.specs.Plans.{IsTale}
use Rattle.slot_rules.specs.declared.commit.Commit.TheVariants.{Key, Part, MakeBucket, SetMode}
use Rattle.slot_rules.specs.declared.commit.Commit.{Commit}
use Rattle.slot_rules.specs.declared.site.Drawn.{Drawn}
use Rattle.slot_rules.specs.declared.site.Site.{Site}
use Rattle.slot_rules.specs.declared.telling.Tale.{Tale}
use Rattle.slot_rules.specs.declared.telling.Told.{Told}
use Rattle.slot_core.specs.Calm.{IsCalmUnder, OnlyLooked}
use Rattle.slot_core.specs.CommitOutcome.{DeedLeaves, EntryLeaves, Lands, answer_of, entry_at, kept_with}
use Rattle.slot_core.specs.Commits.{DeedTrash, MayCommitData, ShowsTrash}
use Rattle.slot_core.specs.Settlement.{Settled, numbers_at}
use Rattle.slot_core.specs.Standing.{LanesHave, SlotStands}
use Rattle.slot_core.specs.Views.{last_of, quorum_of}
use Rattle.slot_core.proofs.CalmingLemmas.{entry_calms, idle_calms, wrote_stays}
use Rattle.slot_core.proofs.DeedLemmas.{deed_gone}
use Rattle.slot_core.proofs.LandLemmas.{LandLaws, land_data, land_stands}
use Rattle.slot_core.proofs.LaneLemmas.{lanes_stay, with_lanes, with_lanes_writes}
use Rattle.slot_core.proofs.OwnWriteLemmas.{OwnMade, OwnWaits}
use Rattle.slot_core.proofs.WritingLemmas.{IsWriting, Writing, behind, deemed, done_deed, drawn_own, is_deemed, kept_gone, own_data, owned, stood_is, waits_deed}

-- the trash after a deed
deed_trash : (deed : Commit) (before after content new : List ℕ) (gone old trash : List VersionId) → before ≡ content → after ≡ new → IsGoneBy deed content new gone
    → trash ≡ old ++ gone → (state later : State) → (state.registers (name_of deed)).content ≡ before → (later.registers (name_of deed)).content ≡ after
    → DeedTrash deed state later old trash
deed_trash (Key at mode act) before after content new gone old trash first second is added state later was now = λ k l spells_old spells_new.
    let same : gone ≡ _ = is k l (record { canonical = spells_old.canonical; is = sym (was ∙ first) ∙ spells_old.is })
    (record { canonical = spells_new.canonical; is = sym (now ∙ second) ∙ spells_new.is }) in
    added ∙ ap (λ (g : List VersionId). old ++ g) same
deed_trash (Part at upload number part) before after content new gone old trash first second is added state later was now =
    added ∙ (ap (λ (g : List VersionId). old ++ g) is ∙ append-nil old)
deed_trash (MakeBucket bucket) before after content new gone old trash first second is added state later was now = added ∙ (ap (λ (g : List VersionId). old ++ g) is ∙ append-nil old)
deed_trash (SetMode bucket mode) before after content new gone old trash first second is added state later was now = added ∙ (ap (λ (g : List VersionId). old ++ g) is ∙ append-nil old)

-- the register of an own change that was made is calm
made_calm : (s : Writing) (w : IsWriting s) (made : State) → IsMade (name_of s.deed) (written_of (next_of s.next)) s.state made
    → IsCalm (quorum_of (numbers_at s.site s.mid)) s.after (next_of s.next).change
    → IsCalmUnder (quorum_of (numbers_at s.site s.mid)) (with_lanes (name_of s.deed) s.after s.records) made (name_of s.deed)
made_calm s w made is calm =
    subst₂ (λ (l : List Lane) (c : ℕ). IsCalm (quorum_of (numbers_at s.site s.mid)) l c) (sym (with_lanes_writes (name_of s.deed) s.after s.records).is)
    (sym (ap (λ (r : Register). r.change) is.changes.is)) calm

-- a deed of an own change drew one
own_not_looked : (s : Writing) (w : IsWriting s) → OnlyLooked (DoneDeed s.tale.audit.call s.tale.audit.reply) → ⊥
own_not_looked s w looked =
    let drawn : drawn_by s.tale.audit.call ≡ Some s.own.change = ap (λ (t : Told). drawn_by t.call) w.tale_is.audit ∙ drawn_own s.deed (Some s.own.change) s.now in
    absurd (let both : None ≡ Some s.own.change = sym looked ∙ drawn in cc)

module _ {D : Type 0} (tells : D → Bool) (files : D → Files) where
  -- an own change that was done
  pub done_leaves : GoneIdsAreGone → (s : Writing) (w : IsWriting s) (old trash : List VersionId) (new : List D) → s.tale.refused ≡ None → s.holding.trash ≡ old → trash ≡ old ++ s.gone
      → LanesHave tells files (numbers_at s.site s.later) new (with_lanes (name_of s.deed) s.after s.records) → (made : OwnMade (owned s w))
      → IsCalm (quorum_of (numbers_at s.site s.mid)) s.after (next_of s.next).change
      → DeedLeaves tells files (numbers_at s.site s.mid) (numbers_at s.site s.later) s.holding (kept_with s.holding s.rest trash) (name_of s.deed)
      (DoneDeed s.tale.audit.call s.tale.audit.reply) new
      (λ before after. ShowsTrash s.deed (answer_of s.tale s.tale.refused) old trash before after)
      (λ disks hands less. MayCommitData s.deed (kept_with s.holding s.rest trash) disks hands less) s.records s.state
  done_leaves gone_law s w old trash new served was added have made calm = record {
    after = with_lanes (name_of s.deed) s.after s.records;
    now = made.made;
    stands = record { have = have; stands = made.stands };
    stay = lanes_stay s.site.set.out (name_of s.deed) s.after s.records w.stay;
    middle = made.made;
    deed_is = done_deed s w made;
    own = inl refl;
    rests = λ p way. inl (made.rests p way);
    calm = record {
      made = λ change is. made_calm s w made.made made.is calm;
      stays = λ name looks. wrote_stays (name_of s.deed) s.after s.records s.state made.made name made.is.changes.stays
          (λ same. absurd (own_not_looked s w (looks same)));
    };
    shows = subst (λ (o : Option KeyRefusal). ShowsTrash s.deed (answer_of s.tale o) old trash s.state made.made) (sym served)
        (deed_trash s.deed (s.state.registers (name_of s.deed)).content (made.made.registers (name_of s.deed)).content s.content s.next.content s.gone old trash
        (stood_is s w) (ap (λ (r : Register). r.content) made.is.changes.is) w.gone_is added s.state made.made refl refl);
    holds = λ disks hands less may d. subst (λ (h : Holding). DataStands s.site.set s.site.index (behind s w) (with_lanes (name_of s.deed) s.after s.records) made.made h disks less)
        (kept_gone s.holding s.rest s.gone old trash was added)
        (made.data_stands s.site.index disks hands less s.gone (own_data s w trash s.gone old disks hands less was added may d)
        (deed_gone gone_law (deemed s w) s.deed (is_deemed s w) s.gone (subst (λ (c : List ℕ). IsGoneBy s.deed c s.next.content s.gone) (sym (stood_is s w)) w.gone_is)) d);
  }

  -- an own change that was refused
  pub begun_leaves : MadeIsLate → (s : Writing) (w : IsWriting s) (fault : QuorumFault) (old trash : List VersionId) (new : List D) → s.holding.trash ≡ old → trash ≡ old
      → LanesHave tells files (numbers_at s.site s.later) new (with_lanes (name_of s.deed) s.after s.records) → OwnMade (owned s w) ⊎ OwnWaits (owned s w)
      → DeedLeaves tells files (numbers_at s.site s.mid) (numbers_at s.site s.later) s.holding (kept_with s.holding s.rest trash) (name_of s.deed)
      (RefusedDeed s.own.change s.tale.audit.call) new (λ before after. Unit {0})
      (λ disks hands less. MayCommitData s.deed (kept_with s.holding s.rest trash) disks hands less) s.records s.state
  begun_leaves late s w fault old trash new was same have (inr waits) =
      let added : trash ≡ old ++ [] = same ∙ sym (append-nil old) in
      record {
        after = with_lanes (name_of s.deed) s.after s.records;
        now = with_waiting s.state (name_of s.deed) (written_of (next_of s.next));
        stands = record { have = have; stands = waits.stands };
        stay = lanes_stay s.site.set.out (name_of s.deed) s.after s.records w.stay;
        middle = with_waiting s.state (name_of s.deed) (written_of (next_of s.next));
        deed_is = waits_deed s w waits.is_new;
        own = inl refl;
        rests = λ p way. elim (waits.rests p way) [
          | inl was_so ↦ inl was_so
          | inr own ↦ inr (own ∙ ap change_of (sym w.is.change_is))
        ];
        calm = record {
          made = λ change is. absurd is;
          stays = λ name looks. wrote_stays (name_of s.deed) s.after s.records s.state (with_waiting s.state (name_of s.deed) (written_of (next_of s.next))) name
              (λ other differs. refl) (λ same. looks same);
        };
        shows = tt;
        holds = λ disks hands less may d. subst (λ (h : Holding). DataStands s.site.set s.site.index (behind s w) (with_lanes (name_of s.deed) s.after s.records)
            (with_waiting s.state (name_of s.deed) (written_of (next_of s.next))) h disks less)
            (kept_gone s.holding s.rest [] old trash was added)
            (waits.data_stands s.site.index disks hands less (own_data s w trash [] old disks hands less was added may d) d);
      }
  begun_leaves late s w fault old trash new was same have (inl made) =
      let added : trash ≡ old ++ [] = same ∙ sym (append-nil old) in
      let own = late s.state made.made (name_of s.deed) (written_of (next_of s.next)) made.is in
      record {
        after = with_lanes (name_of s.deed) s.after s.records;
        now = made.made;
        stands = record { have = have; stands = made.stands };
        stay = lanes_stay s.site.set.out (name_of s.deed) s.after s.records w.stay;
        middle = with_waiting s.state (name_of s.deed) (written_of (next_of s.next));
        deed_is = waits_deed s w made.is_new;
        own = inr (own.0, own.1 ∙ ap change_of (sym w.is.change_is), own.2);
        rests = λ p way. inl (made.rests p way);
        calm = record {
          made = λ change is. absurd is;
          stays = λ name looks. wrote_stays (name_of s.deed) s.after s.records s.state made.made name made.is.changes.stays (λ same. looks same);
        };
        shows = tt;
        holds = λ disks hands less may d. subst (λ (h : Holding). DataStands s.site.set s.site.index (behind s w) (with_lanes (name_of s.deed) s.after s.records) made.made h disks less)
            (kept_gone s.holding s.rest [] old trash was added)
            (made.data_stands s.site.index disks hands less [] (own_data s w trash [] old disks hands less was added may d)
            (λ id there. absurd (none_there id there)) d);
      }

  -- a deed that leaves the content, where its put ends
  pub finds_leaves : LandLaws → (site : Site) (mid : Drawn) (deed : Commit) (now : ℕ) (tale : Tale) (id : VersionId) (content : List ℕ) (holding : Holding) (rest : List Flying)
      (put : Option VersionId) (old trash : List VersionId) (lanes : List D) (records : Records) (state : State)
      → IsTale deed None now tale → (state.registers (name_of deed)).content ≡ content → IsHeld state.registers (name_of deed)
      → DoesOver (name_of deed) content (call_of deed None now) id tale.reply content → IsGoneBy deed content content []
      → SlotStands tells files (numbers_at site mid) holding.flights lanes records state → Lands put holding.flights rest → holding.trash ≡ old → trash ≡ old
      → DeedLeaves tells files (numbers_at site mid) (numbers_at site mid) holding (kept_with holding rest trash) (name_of deed) (DoneDeed tale.audit.call tale.audit.reply) lanes
      (λ before after. ShowsTrash deed (answer_of tale tale.refused) old trash before after)
      (λ disks hands less. MayCommitData deed (kept_with holding rest trash) disks hands less) records state
  finds_leaves laws site mid deed now tale id content holding rest put old trash lanes records state told stood held does gone s lands was same = record {
    after = records;
    now = state;
    stands = record { have = s.have; stands = land_stands laws site.set (last_of (numbers_at site mid)) holding rest records state put lands s.stands };
    stay = λ name k is_out. refl;
    middle = state;
    deed_is = subst (λ (t : Told). Deeds site.index (name_of deed) (DoneDeed t.call t.reply) state state) (sym told.audit) (inr (record {
      none_drawn = drawn_own deed None now;
      id = id;
      does = subst (λ (c : List ℕ). Does state.registers (name_of deed) (call_of deed None now) id tale.reply c) (sym stood) (does state.registers stood held);
      stays = refl;
    }));
    own = inl refl;
    rests = λ p way. inl way;
    calm = idle_calms (quorum_of (numbers_at site mid)) (name_of deed) (DoneDeed tale.audit.call tale.audit.reply) records state
        (subst (λ (t : Told). OnlyLooked (DoneDeed t.call t.reply)) (sym told.audit) (drawn_own deed None now));
    shows = shows tale.refused;
    holds = λ disks hands less may d. kept_data disks hands less may d;
  }
    where
      shows : (o : Option KeyRefusal) → ShowsTrash deed (answer_of tale o) old trash state state
      shows (Some why) = tt
      shows None = deed_trash deed (state.registers (name_of deed)).content (state.registers (name_of deed)).content content content [] old trash stood stood gone
          (same ∙ sym (append-nil old)) state state refl refl

      kept_data : (disks : Disks) (hands less : Hands) → MayCommitData deed (kept_with holding rest trash) disks hands less
          → DataStands site.set site.index (last_of (numbers_at site mid)) records state holding disks hands
          → DataStands site.set site.index (last_of (numbers_at site mid)) records state (kept_with holding rest trash) disks less
      kept_data disks hands less may d =
          let kept : kept_with holding rest holding.trash ≡ kept_with holding rest trash = ap (λ (t : List VersionId). kept_with holding rest t) (was ∙ sym same) in
          subst (λ (h : Holding). DataStands site.set site.index (last_of (numbers_at site mid)) records state h disks less) kept
          (land_data laws site.set site.index (last_of (numbers_at site mid)) holding rest records state put disks hands less lands s.stands
          (subst (λ (h : Holding). GoOn hands less h) (sym kept) may.goes_on) d)

  -- a section that did nothing of its own, where its put ends
  pub kept_leaves : LandLaws → (site : Site) (mid : Drawn) (deed : Commit) (holding : Holding) (rest : List Flying)
      (put : Option VersionId) (old trash : List VersionId) (lanes : List D) (records : Records) (state : State)
      → SlotStands tells files (numbers_at site mid) holding.flights lanes records state → Lands put holding.flights rest → holding.trash ≡ old → trash ≡ old
      → DeedLeaves tells files (numbers_at site mid) (numbers_at site mid) holding (kept_with holding rest trash) (name_of deed) KeptDeed lanes (λ before after. Unit {0})
      (λ disks hands less. MayCommitData deed (kept_with holding rest trash) disks hands less) records state
  kept_leaves laws site mid deed holding rest put old trash lanes records state s lands was same =
      let kept : kept_with holding rest holding.trash ≡ kept_with holding rest trash = ap (λ (t : List VersionId). kept_with holding rest t) (was ∙ sym same) in
      record {
        after = records;
        now = state;
        stands = record { have = s.have; stands = land_stands laws site.set (last_of (numbers_at site mid)) holding rest records state put lands s.stands };
        stay = λ name k is_out. refl;
        middle = state;
        deed_is = refl;
        own = inl refl;
        rests = λ p way. inl way;
        calm = idle_calms (quorum_of (numbers_at site mid)) (name_of deed) KeptDeed records state tt;
        shows = tt;
        holds = λ disks hands less may d. subst (λ (h : Holding). DataStands site.set site.index (last_of (numbers_at site mid)) records state h disks less) kept
            (land_data laws site.set site.index (last_of (numbers_at site mid)) holding rest records state put disks hands less lands s.stands
            (subst (λ (h : Holding). GoOn hands less h) (sym kept) may.goes_on) d);
      }

  -- a deed, after the completion of what was pending
  pub entry_leaves : (site : Site) (drawn mid later : Drawn) (holding kept : Holding) (name : List ℕ) (late : Option ChangeId) (deed : Deed) (ticket : ℕ)
      (Known : Records → State → Type 0) (lanes new : List D) (Shows : State → State → Type 0) (Moves : Disks → Hands → Hands → Type 0) (records : Records) (state : State)
      → ((after : Records) (now : State) → Known after now → IsLast late (now.registers name))
      → (s : Settled tells files (numbers_at site drawn) (numbers_at site mid) holding Known lanes records state)
      → DeedLeaves tells files (numbers_at site mid) (numbers_at site later) holding kept name deed new Shows Moves s.after s.now
      → EntryLeaves tells files (numbers_at site drawn) (numbers_at site later) holding kept new (Some (entry_at ticket name late deed)) Shows Moves records state
  entry_leaves site drawn mid later holding kept name late deed ticket Known lanes new Shows Moves records state last s d =
      let moves : SectionMoves site.index (entry_at ticket name late deed) records state d.after d.now = record {
        lates = s.lates;
        before = s.now;
        late_steps = s.late_steps;
        carried = s.carried;
        after = d.middle;
        moves = record { late = last s.after s.now s.known; deed = d.deed_is };
        own = d.own;
        rests = λ p way. elim (d.rests p way) [
          | inl was ↦ inl (s.rests p was)
          | inr refused ↦ inr refused
        ];
      } in
      record {
        after = d.after;
        now = d.now;
        stands = d.stands;
        stay = λ name k is_out. d.stay name k is_out ∙ s.stay name k is_out;
        moves = (moves, d.shows);
        calm = entry_calms (quorum_of (numbers_at site drawn)) ticket name late deed records state s.after s.now d.after d.now s.calm d.calm;
        holds = λ disks hands less may stood. d.holds disks hands less may (s.goes_on disks hands stood);
      }
