-- From which calls the outcome of a commit of a register comes.
use Rattle.std.proofs.Common.{◌≡◌, ◌⊎◌, ◌≤◌, ◌+◌, ◌∙◌, ℕ, List, Option, None, Some, Result, Ok, Err, length, ap, subst, sym, refl, inl, inr, arith}
use Rattle.std.specs.Prelude.{IfSome, MatchOption}
use Rattle.call_types.specs.Refusals.{refusal_of}
use Rattle.call_types.specs.declared.refusal.KeyRefusal.{KeyRefusal}
use Rattle.call_types.specs.declared.reply.Reply.{Reply}
use Rattle.call_types.specs.declared.reply.Reply.TheVariants.{Refused}
use Rattle.call_types.specs.declared.why.Why.{Why}
use Rattle.drive_base.specs.declared.drive.Drive.{Ghosts}
use Rattle.stamp_id.specs.declared.stamp.ChangeId.{ChangeId}
use Rattle.stamp_id.specs.declared.version.VersionId.{VersionId}
use Rattle.register_file.specs.declared.record.Next.{Next}
use Rattle.register_core.specs.Found.{content_of}
use Rattle.register_core.specs.declared.drafts.Draft.{Draft}
use Rattle.register_core.specs.declared.faults.QuorumFault.{QuorumFault}
use Rattle.register_caller.specs.Steps.{WritesBoth}
use Rattle.audit_trail.specs.declared.entry.Deed.{Deed}
use Rattle.audit_trail.specs.declared.entry.Deed.TheVariants.{Done as DoneDeed, Kept as KeptDeed, Refused as RefusedDeed}
use Rattle.call_types.specs.declared.act.Brief.TheVariants.{Answer}
use Rattle.slot_rules.specs.Deeds.{call_of, name_of}
use Rattle.slot_rules.specs.Owning.{IsOwnChange, IsOwnDraft, IsOwnOf, again_takes, life_at, own_seq}
use Rattle.slot_rules.specs.Planning.{DoesOver}
use Rattle.slot_rules.specs.Plans.{IsPlan, IsPlanBy, IsTale, PlansNone, PlansOwn}
use Rattle.slot_rules.specs.declared.commit.Commit.{Commit}
use Rattle.slot_rules.specs.declared.owning.Own.{Own}
use Rattle.slot_rules.specs.declared.plans.Plan.{Plan}
use Rattle.slot_rules.specs.declared.ready.Ready.{Ready}
use Rattle.slot_rules.specs.declared.site.Drawn.{Drawn}
use Rattle.slot_rules.specs.declared.site.Site.{Site}
use Rattle.slot_rules.specs.declared.telling.Tale.{Tale}
use Rattle.slot_rules.specs.declared.telling.Told.{Told}
use Rattle.slot_core.specs.CommitOutcome.{CallsCarry, CallsOwn, answer_of, answer_told, deed_told}
use Rattle.slot_core.specs.CommitCauses.{CommitCause, FoundSo, IsChangeAt, IsOwnChangeOf, IsRuleOf, LookRefused, OwnIsWritten, WroteSo, own_deed}
use Rattle.slot_core.specs.CommitPlan.{FinishCalls}
use Rattle.slot_core.specs.RegisterLook.{CallsForward, LooksAt}
use Rattle.slot_core.specs.Settlement.{IsReady, numbers_at}
use Rattle.slot_core.specs.declared.commit_write.Outcome.{Outcome}
use Rattle.slot_core.specs.declared.commit_write.Outcome.TheVariants.{Begun, Done, Kept, LacksMemory}
use Rattle.slot_core.proofs.CauseLemmas.{cause_of_forward, gave_of, writes_have_memory}
use Rattle.slot_core.proofs.SettlingLemmas.{first_found, first_none}
use Rattle.slot_core.proofs.TurnLemmas.{forward_has_memory}
use Rattle.slot_core.specs.LanesStay.{FilesStay, TellsStay}

module _ {D : Type 0} (ghosts : Ghosts D) where
  -- a refused look
  pub look_refused : (site : Site) (drawn : Drawn) (deed : Commit) (put : Option VersionId) (rule : List ℕ → Option ℕ) (longest : ℕ) (fault : QuorumFault) (old new disks disks_after : List D)
      → IsRuleOf (numbers_at site drawn) deed put rule longest
      → LooksAt ghosts site drawn (name_of deed) rule longest (Err fault) old new disks disks_after
      → LookRefused ghosts (numbers_at site drawn) (numbers_at site drawn) deed put fault KeptDeed old new disks disks_after
  look_refused site drawn deed put rule longest fault old new disks disks_after rule_is looks = record {
    rule = rule;
    longest = longest;
    rule_is = rule_is;
    cause = elim looks [
      | inl refused ↦ inl (refused, refl)
      | inr few ↦ inr (inl (few, refl))
    ];
    deed_is = refl;
  }

  -- ---- own changes that were written

  change_at : (site : Site) (drawn : Drawn) (last : ℕ) (put : Option VersionId) (change : ChangeId) (ballot : ℕ) → drawn.seq ≤ last → ballot ≡ own_seq last put
      → IsOwnChange (life_at site) last put change → IsChangeAt (numbers_at site drawn) ballot put change
  change_at site drawn last None change ballot low is own = (own.0, let same = own.1 in omega arith, let same = own.1 in omega arith)
  change_at site drawn last (Some id) change ballot low is own = own

  ballot_drawn : (seq : ℕ) (first : Option Draft) (put : Option VersionId) (ballot : ℕ) → ballot ≡ own_seq (seq + again_takes first) put
      → (ballot ≡ own_seq seq put) ⊎ (ballot ≡ own_seq (seq + 1) put)
  ballot_drawn seq None put ballot is = let zero : seq + 0 ≡ seq = omega arith in inl (subst (λ (n : ℕ). ballot ≡ own_seq n put) zero is)
  ballot_drawn seq (Some first) put ballot is = inr is

  own_change_of : (site : Site) (drawn later : Drawn) (ready : Ready) (deed : Commit) (put : Option VersionId) (now : ℕ) (reply : Reply) (own : Own)
      → (is : IsOwnOf site (drawn.seq + again_takes ready.first) ready deed put now reply own) → later.seq ≡ own.seq
      → IsOwnChangeOf (numbers_at site drawn) (numbers_at site later) deed put now (content_of ready.looked.base ready.looked.pending) reply is.next
  own_change_of site drawn later ready deed put now reply own is seq = record {
    change = change_at site drawn (drawn.seq + again_takes ready.first) put is.next.change is.next.ballot.seq (omega arith) is.seq is.change;
    term = is.term;
    seq = is.seq ∙ (sym is.seq_is ∙ sym seq);
    drawn = ballot_drawn drawn.seq ready.first put is.next.ballot.seq is.seq;
    adds = is.adds;
    id = is.id;
    id_change = is.id_change;
    id_slot = is.id_slot;
    does = is.does;
    changed = is.changed;
  }

  own_written : (site : Site) (drawn later : Drawn) (name : List ℕ) (rule : List ℕ → Option ℕ) (longest : ℕ) (ready : Ready) (late : Option ChangeId) (own : Own) (next : Next)
      (result : Result (List Why) QuorumFault) (old mid new disks disks_after : List D)
      → IsReady ghosts site drawn name rule longest ready old mid disks disks_after → FilesStay ghosts old mid
      → length mid ≡ length old → TellsStay ghosts old mid
      → IsOwnDraft ready.looked ready.first next own.draft
      → CallsOwn ghosts site drawn later ready.first late own result mid new
      → OwnIsWritten ghosts (numbers_at site drawn) (numbers_at site later) name rule longest (content_of ready.looked.base ready.looked.pending) next result
      old new disks disks_after
  own_written site drawn later name rule longest ready None own next result old mid new disks disks_after is stay long told drafted calls =
      let none : ready.first ≡ None = calls.forward.0 in
      let here : calls.between ≡ mid = calls.forward.1 in
      let count_is : calls.middle.count ≡ drawn.count = ap (λ (d : Drawn). d.count) calls.forward.2 in
      inl (record {
        looked = ready.looked;
        mid = mid;
        concluded = record { looks = is.looks; stay = stay };
        long = long;
        tell = told;
        settled = first_none ready.looked ready.looked.pending is.ballot ready.first is.first none;
        content_is = refl;
        draft = own.draft;
        drafted = subst (λ (o : Option Draft). IsOwnDraft ready.looked o next own.draft) none drafted;
        writes = subst (λ (l : List D). WritesBoth ghosts own.draft site.set.out site.term drawn.count later.count result l new) here
            (subst (λ (n : ℕ). WritesBoth ghosts own.draft site.set.out site.term n later.count result calls.between new) count_is calls.writes);
      })
  own_written site drawn later name rule longest ready (Some change) own next result old mid new disks disks_after is stay long told drafted calls =
      let first = calls.forward.1 in
      let found = first_found ready.looked ready.looked.pending is.ballot ready.first first.draft is.first first.is in
      inr (record {
        looked = ready.looked;
        mid = mid;
        concluded = record { looks = is.looks; stay = stay };
        long = long;
        tell = told;
        found = found.0;
        pending = found.1;
        content_is = refl;
        ballot = is.ballot;
        first = first.draft;
        first_drafted = found.2;
        letters = calls.forward.0;
        middle = calls.middle.count;
        between = calls.between;
        forward = first.writes;
        draft = own.draft;
        drafted = subst (λ (o : Option Draft). IsOwnDraft ready.looked o next own.draft) first.is drafted;
        writes = calls.writes;
      })

  module _ (site : Site) (drawn later : Drawn) (ready : Ready) (deed : Commit) (put : Option VersionId) (now : ℕ) (rule : List ℕ → Option ℕ) (longest : ℕ)
      (old mid new disks disks_after : List D) (rule_is : IsRuleOf (numbers_at site drawn) deed put rule longest)
      (is : IsReady ghosts site drawn (name_of deed) rule longest ready old mid disks disks_after) (stay : FilesStay ghosts old mid)
      (long : length mid ≡ length old) (tells_on : TellsStay ghosts old mid) (plan : Plan) (planned : IsPlan site (drawn.seq + again_takes ready.first) ready deed put now plan) where
    abbrev last : ℕ
    last = drawn.seq + again_takes ready.first

    -- the deed of a tale
    told_done : (tale : Tale) (late change : Option ChangeId) → IsTale deed change now tale
        → deed_told (Done tale late) ≡ DoneDeed (call_of deed change now) (Answer tale.reply)
    told_done tale late change is = ap (λ (t : Told). DoneDeed t.call t.reply) is.audit

    told_begun : (tale : Tale) (change : ChangeId) (late : Option ChangeId) (fault : QuorumFault) → IsTale deed (Some change) now tale
        → deed_told (Begun tale change late fault) ≡ own_deed deed now change tale.reply (Err fault)
    told_begun tale change late fault is = ap (λ (t : Told). RefusedDeed change t.call) is.audit

    mine : (own : Own) → plan.own ≡ Some own → PlansOwn site last ready deed put now plan own
    mine own some = subst (λ (o : Option Own). IsPlanBy o site last ready deed put now plan) some planned

    found_so : (tale : Tale) (late : Option ChangeId) → tale ≡ plan.tale → plan.own ≡ None → CallsForward ghosts site drawn later ready.first (Ok late) mid new
        → FoundSo ghosts (numbers_at site drawn) (numbers_at site later) deed put now tale.reply (deed_told (Done tale late)) old new disks disks_after
    found_so tale late same none calls =
        let plans : PlansNone ready deed now plan = subst (λ (o : Option Own). IsPlanBy o site last ready deed put now plan) none planned in
        let content : List ℕ = content_of ready.looked.base ready.looked.pending in
        record {
          rule = rule;
          longest = longest;
          rule_is = rule_is;
          content = content;
          gave = gave_of {D = D} ghosts site drawn later (name_of deed) rule longest ready content late old mid new disks disks_after is stay refl calls;
          id = plans.id;
          does = subst (λ (t : Tale). DoesOver (name_of deed) content (call_of deed None now) plans.id t.reply content) (sym same) plans.does;
          deed_is = told_done tale late None (subst (λ (t : Tale). IsTale deed None now t) (sym same) plans.tale);
        }

    wrote_so : (tale : Tale) (late : Option ChangeId) (own : Own) (result : Result (List Why) QuorumFault) (entered : Deed) → tale ≡ plan.tale
        → plan.own ≡ Some own → entered ≡ own_deed deed now own.change tale.reply result
        → CallsOwn ghosts site drawn later ready.first late own result mid new
        → WroteSo ghosts (numbers_at site drawn) (numbers_at site later) deed put now tale.reply result entered old new disks disks_after
    wrote_so tale late own result entered same some told calls =
        let plans = mine own some in
        let content : List ℕ = content_of ready.looked.base ready.looked.pending in
        record {
          rule = rule;
          longest = longest;
          rule_is = rule_is;
          content = content;
          own = plans.is.next;
          is_own = subst (λ (t : Tale). IsOwnChangeOf (numbers_at site drawn) (numbers_at site later) deed put now content t.reply plans.is.next) (sym same)
              (own_change_of site drawn later ready deed put now plan.tale.reply own plans.is calls.seq);
          written = own_written site drawn later (name_of deed) rule longest ready late own plans.is.next result old mid new disks disks_after is stay long tells_on plans.is.drafted calls;
          deed_is = told ∙ ap (λ (c : ChangeId). own_deed deed now c tale.reply result) plans.is.change_is;
        }

    -- the answer of a tale whose deed left the content
    found_cause : (tale : Tale) (o : Option KeyRefusal) (entered : Deed) → MatchOption o (Unit {0}) (λ why. tale.reply ≡ Refused (refusal_of why))
        → FoundSo ghosts (numbers_at site drawn) (numbers_at site later) deed put now tale.reply entered old new disks disks_after
        → CommitCause ghosts (numbers_at site drawn) (numbers_at site later) deed put now (answer_of tale o) entered old new disks disks_after
    found_cause tale None entered all found = inl found
    found_cause tale (Some why) entered reply found =
        subst (λ (r : Reply). FoundSo ghosts (numbers_at site drawn) (numbers_at site later) deed put now r entered old new disks disks_after) reply found

    found_reply : (o : Option KeyRefusal) → IfSome o (λ why. plan.tale.reply ≡ Refused (refusal_of why))
        → MatchOption o (Unit {0}) (λ why. plan.tale.reply ≡ Refused (refusal_of why))
    found_reply None all = tt
    found_reply (Some why) all = all

    -- the cause of an outcome
    pub carry_cause : (outcome : Outcome) → CallsCarry ghosts site drawn later ready.first plan outcome mid new
        → CommitCause ghosts (numbers_at site drawn) (numbers_at site later) deed put now (answer_told outcome) (deed_told outcome) old new disks disks_after
    carry_cause (Done tale late) calls = elim calls.1 [
      | inl none ↦
          let plans : PlansNone ready deed now plan = subst (λ (o : Option Own). IsPlanBy o site last ready deed put now plan) none.0 planned in
          found_cause tale tale.refused (deed_told (Done tale late))
          (subst (λ (t : Tale). MatchOption t.refused (Unit {0}) (λ why. t.reply ≡ Refused (refusal_of why))) (sym calls.0) (found_reply plan.tale.refused plans.refused))
          (found_so tale late calls.0 none.0 none.1)
      | inr some ↦
          let served : tale.refused ≡ None = ap (λ (t : Tale). t.refused) calls.0 ∙ (mine some.0 some.1).served in
          subst (λ (o : Option KeyRefusal). CommitCause ghosts (numbers_at site drawn) (numbers_at site later) deed put now (answer_of tale o) (deed_told (Done tale late)) old new
          disks disks_after) (sym served) (inr (
            some.2,
            wrote_so tale late some.0 (Ok some.2) (deed_told (Done tale late)) calls.0 some.1
                (told_done tale late (Some some.0.change) (subst (λ (t : Tale). IsTale deed (Some some.0.change) now t) (sym calls.0) (mine some.0 some.1).tale)) some.3,
          ))
    ]
    carry_cause (Begun tale change late fault) calls =
        let some = calls.1 in (
          (λ same. writes_have_memory {D = D} ghosts some.0.draft site.set.out site.term some.3.middle.count later.count some.3.between new
              (subst (λ (f : QuorumFault). WritesBoth ghosts some.0.draft site.set.out site.term some.3.middle.count later.count (Err f) some.3.between new) same some.3.writes)),
          inr (
            tale.reply,
            wrote_so tale late some.0 (Err fault) (deed_told (Begun tale change late fault)) calls.0 some.1
                (told_begun tale change late fault (subst (λ (c : ChangeId). IsTale deed (Some c) now tale) some.2
                (subst (λ (t : Tale). IsTale deed (Some some.0.change) now t) (sym calls.0) (mine some.0 some.1).tale))
                ∙ ap (λ (c : ChangeId). own_deed deed now c tale.reply (Err fault)) (sym some.2)) some.3,
          ),
        )
    carry_cause (Kept fault) calls = (
      (λ same. forward_has_memory {D = D} ghosts site drawn later ready.first fault mid new calls same),
      inl (record {
        rule = rule;
        longest = longest;
        rule_is = rule_is;
        cause = cause_of_forward {D = D} ghosts site drawn later (name_of deed) rule longest ready fault old mid new disks disks_after is stay calls;
        deed_is = refl;
      }),
    )
    carry_cause LacksMemory calls = absurd calls

  -- and that of a section after its look
  pub finish_cause : (site : Site) (drawn later : Drawn) (ready : Ready) (deed : Commit) (put : Option VersionId) (now : ℕ) (rule : List ℕ → Option ℕ) (longest : ℕ)
      (old mid new disks disks_after : List D) → IsRuleOf (numbers_at site drawn) deed put rule longest
      → IsReady ghosts site drawn (name_of deed) rule longest ready old mid disks disks_after → FilesStay ghosts old mid
      → length mid ≡ length old → TellsStay ghosts old mid → (outcome : Outcome) → FinishCalls ghosts site drawn later ready deed put now outcome mid new
      → CommitCause ghosts (numbers_at site drawn) (numbers_at site later) deed put now (answer_told outcome) (deed_told outcome) old new disks disks_after
  finish_cause site drawn later ready deed put now rule longest old mid new disks disks_after rule_is is stay long told outcome (inl lacks) =
      subst (λ (o : Outcome). CommitCause ghosts (numbers_at site drawn) (numbers_at site later) deed put now (answer_told o) (deed_told o) old new disks disks_after) (sym lacks.0)
      (subst (λ (l : List D). FilesStay ghosts old l) (sym lacks.1) stay)
  finish_cause site drawn later ready deed put now rule longest old mid new disks disks_after rule_is is stay long told outcome (inr p) =
      carry_cause site drawn later ready deed put now rule longest old mid new disks disks_after rule_is is stay long told p.plan p.is outcome p.calls
