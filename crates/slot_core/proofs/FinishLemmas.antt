-- A commit of a register: what it is ready for, its ids and rules, and what it leaves where it is refused.
use Rattle.std.proofs.Common.{◌≡◌, ◌≢◌, ◌≤◌, ◌+◌, ◌∙◌, ℕ, List, [], Option, None, Some, length, ap, subst, sym, refl, arith}
use Rattle.std.specs.Prelude.{false, MatchOption, is_some}
use Rattle.std.proofs.lemmas.List.{length-replicate}
use Rattle.call_types.specs.declared.why.Why.TheVariants.{Good}
use Rattle.drive_base.specs.declared.drive.Drive.{Ghosts}
use Rattle.drive_base.specs.declared.plan.SetPlan.{SetPlan}
use Rattle.stamp_id.specs.VersionId.{id_bytes}
use Rattle.stamp_id.specs.declared.stamp.Ballot.{Ballot}
use Rattle.stamp_id.specs.declared.version.VersionId.{VersionId}
use Rattle.register_file.specs.Record.{IsContent}
use Rattle.register_file.specs.declared.record.Base.{Base}
use Rattle.register_file.specs.declared.record.Next.{Next}
use Rattle.register_core.specs.Drafts.{letters_for}
use Rattle.register_core.specs.Found.{IsLawfulPending}
use Rattle.register_core.specs.declared.drafts.Draft.{Draft}
use Rattle.register_core.specs.declared.faults.QuorumFault.{QuorumFault}
use Rattle.register_core.specs.declared.faults.QuorumFault.TheVariants.{ReadQuorum, WriteQuorum, Undecided, NoMemory as NoMemoryQuorum}
use Rattle.register_core.specs.declared.looks.Looked.{Looked}
use Rattle.audit_trail.specs.declared.entry.Deed.TheVariants.{Kept as KeptDeed}
use Rattle.version_list.specs.NamesId.{names_id}
use Rattle.version_list.specs.Places.{id_place}
use Rattle.version_list.specs.declared.state.KeyState.{KeyState}
use Rattle.version_list.proofs.PlaceLemmas.{place_named}
use Rattle.field_reader.specs.Format.{fault_at}
use Rattle.version_list.specs.Layout.{key_state}
use Rattle.slot_history.specs.Contents.{SpellsKey}
use Rattle.slot_data.specs.Bringing.{GoOn}
use Rattle.slot_data.specs.Holding.{Holding}
use Rattle.slot_data.specs.Standing.{DataStands}
use Rattle.slot_rules.specs.Deeds.{name_of}
use Rattle.slot_rules.specs.DeedRules.{DeedHasRead, IsDeedRule, IsReadFor, deed_fault, deed_most}
use Rattle.slot_rules.specs.Owning.{IsDraftable, IsOwnDraft, IsOwnId, again_takes, id_over, life_at, own_seq}
use Rattle.slot_rules.specs.Planning.{most_for}
use Rattle.slot_rules.specs.Plans.{IsPlan, IsPlanBy}
use Rattle.slot_rules.specs.Rules.{first_place, key_fault, named_place}
use Rattle.slot_rules.specs.declared.commit.Commit.TheVariants.{Key, Part, MakeBucket, SetMode}
use Rattle.slot_rules.specs.declared.commit.Commit.{Commit}
use Rattle.slot_rules.specs.declared.deed_rule.DeedRule.TheVariants.{Bucket as BucketContents, Key as KeyContents, Part as PartContents}
use Rattle.slot_rules.specs.declared.deed_rule.DeedRule.{DeedRule}
use Rattle.slot_rules.specs.declared.owning.Own.{Own}
use Rattle.slot_rules.specs.declared.owning.OwnIds.{OwnIds}
use Rattle.slot_rules.specs.declared.plans.Plan.{Plan}
use Rattle.slot_rules.specs.declared.ready.Ready.{Ready}
use Rattle.slot_rules.specs.declared.rules.TheConstants.{BUCKET_BYTES, KEY_BYTES, PART_BYTES}
use Rattle.slot_rules.specs.declared.site.Drawn.{Drawn}
use Rattle.slot_rules.specs.declared.site.Site.{Site}
use Rattle.slot_core.specs.CommitOutcome.{kept_with}
use Rattle.slot_core.specs.CommitWrite.{OwnFits, PlanFits}
use Rattle.slot_core.specs.CommitCauses.{IsRuleOf, life_of}
use Rattle.slot_core.specs.Commits.{MayCommitData}
use Rattle.slot_core.specs.CommitPlan.{CommitLeaves, IsKeptBy, ReadyFits}
use Rattle.slot_core.specs.RegisterLook.{DraftFits, FirstFits}
use Rattle.slot_core.specs.Settlement.{FirstIs, IsReady, numbers_at}
use Rattle.slot_core.specs.Standing.{SlotStands}
use Rattle.slot_core.specs.Views.{last_of, quorum_of}
use Rattle.slot_core.specs.declared.commit_write.Outcome.{Outcome}
use Rattle.slot_core.specs.declared.commit_write.Outcome.TheVariants.{Kept, LacksMemory}
use Rattle.slot_core.proofs.CalmingLemmas.{none_calms}
use Rattle.slot_core.proofs.CarryLemmas.{entry_leaves, kept_leaves}
use Rattle.slot_core.proofs.LandLemmas.{LandLaws, land_data, land_stands}
use Rattle.slot_core.proofs.SettlingLemmas.{first_found, looked_settled}
use Rattle.slot_core.proofs.TurnLemmas.{stands_looked}
use Rattle.slot_core.specs.LanesStay.{FilesStay, TellsStay}

-- ---- what a section is ready for

-- an own change may be drafted
draftable_of : (looked : Looked) (first : Option Draft) (ballot : Ballot) → FirstIs looked looked.pending ballot first → IsContent looked.base.content
    → IsLawfulPending looked.pending → IsDraftable looked first
draftable_of looked None ballot is base lawful = base
draftable_of looked (Some first) ballot is base lawful =
    let found = first_found looked looked.pending ballot (Some first) first is refl in
    let lawful_found : IsLawfulPending (Some found.0) = subst IsLawfulPending found.1 lawful in
    (subst (λ (b : Base). IsContent b.content) (sym found.2.«of».ends.value) lawful_found.1, found.2.longest)

module _ {D : Type 0} (ghosts : Ghosts D) where
  -- what a look gave can be carried out
  pub ready_fits : (site : Site) (drawn : Drawn) (name : List ℕ) (rule : List ℕ → Option ℕ) (longest : ℕ) (ready : Ready) (old new disks disks_after : List D) (deed : Commit)
      → FirstFits site.set ready.first → length old ≡ site.set.drives → length name ≤ 1129 → most_for deed ≡ longest
      → IsReady ghosts site drawn name rule longest ready old new disks disks_after → ReadyFits site.set deed ready
  ready_fits site drawn name rule longest ready old new disks disks_after deed first lanes short most is = record {
    first = first;
    set_is = is.looks.plan;
    letters = is.looks.read.lettered ∙ lanes;
    named = subst (λ (n : List ℕ). length n ≤ 1129) (sym is.looks.named) short;
    draftable = draftable_of ready.looked ready.first is.ballot is.first is.looks.canonical.base is.looks.lawful;
    within = let same : most_for deed ≡ ready.looked.longest = most ∙ sym is.looks.longest_is in omega arith;
  }

-- an own draft fits the set
own_fits : (set : SetPlan) (deed : Commit) (ready : Ready) (own : Next) (draft : Draft) (first : Option Draft) → first ≡ ready.first → ReadyFits set deed ready
    → IsOwnDraft ready.looked first own draft → DraftFits set draft
own_fits set deed ready own draft None same fits drafted = record {
  set_is = drafted.set ∙ fits.set_is;
  letters = ap length drafted.letters ∙ by ready.looked.pending;
  named = subst (λ (n : List ℕ). length n ≤ 1129) (sym drafted.name) fits.named;
}
  where
    by : (pending : Option Next) → length (letters_for pending ready.looked.whys ready.looked.set.drives) ≡ set.drives
    by None = length-replicate ready.looked.set.drives Good ∙ ap (λ (p : SetPlan). p.drives) fits.set_is
    by (Some next) = fits.letters
own_fits set deed ready own draft (Some first) same fits drafted =
    let first_fits : DraftFits set first = subst (λ (o : Option Draft). FirstFits set o) (sym same) fits.first in
    record {
      set_is = drafted.set ∙ first_fits.set_is;
      letters = ap length drafted.letters ∙ (length-replicate first.set.drives Good ∙ ap (λ (p : SetPlan). p.drives) first_fits.set_is);
      named = subst (λ (n : List ℕ). length n ≤ 1129) (sym drafted.name) first_fits.named;
    }

seq_near : (seq : ℕ) (first : Option Draft) (put : Option VersionId) → (seq ≤ own_seq (seq + again_takes first) put) × (own_seq (seq + again_takes first) put ≤ seq + 3)
seq_near seq None None = (omega arith, omega arith)
seq_near seq None (Some id) = (omega arith, omega arith)
seq_near seq (Some first) None = (omega arith, omega arith)
seq_near seq (Some first) (Some id) = (omega arith, omega arith)

-- a plan can be carried out
pub plan_can : (site : Site) (seq : ℕ) (ready : Ready) (deed : Commit) (put : Option VersionId) (now : ℕ) (plan : Plan) → ReadyFits site.set deed ready
    → IsPlan site (seq + again_takes ready.first) ready deed put now plan → PlanFits site.set seq plan
plan_can site seq ready deed put now plan fits is = by plan.own is
  where
    by : (o : Option Own) → IsPlanBy o site (seq + again_takes ready.first) ready deed put now plan
        → MatchOption o (plan.gone.items ≡ []) (λ own. OwnFits site.set seq own × (plan.tale.refused ≡ None))
    by None none = none.none
    by (Some own) mine =
        let near = seq_near seq ready.first put in
        let same = mine.is.seq_is in (
          record {
            draft = own_fits site.set deed ready mine.is.next own.draft ready.first refl fits mine.is.drafted;
            rises = subst (λ (n : ℕ). seq ≤ n) (sym same) near.0;
            few = subst (λ (n : ℕ). n ≤ seq + 3) (sym same) near.1;
          },
          mine.served,
        )

-- ---- the ids of an own change

-- it has the id that was drawn for it
pub id_drawn : (site : Site) (seq : ℕ) (put : Option VersionId) (ids : OwnIds) (first : Option Draft) (id : VersionId) → id ≡ id_over ids first
    → IsOwnId (life_at site) seq put ids.alone → IsOwnId (life_at site) (seq + 1) put ids.after → IsOwnId (life_at site) (seq + again_takes first) put id
id_drawn site seq put ids None id is alone after =
    subst (λ (x : VersionId). IsOwnId (life_at site) (seq + 0) put x) (sym is) (subst (λ (n : ℕ). IsOwnId (life_at site) n put ids.alone) (omega arith) alone)
id_drawn site seq put ids (Some first) id is alone after = subst (λ (x : VersionId). IsOwnId (life_at site) (seq + 1) put x) (sym is) after

-- a place that isn't there
first_none_of : (a b : Option ℕ) → first_place a b ≡ None → (a ≡ None) × (b ≡ None)
first_none_of None b none = (refl, none)
first_none_of (Some place) b none = absurd cc

unplaced : (id : VersionId) (content : List ℕ) (state : KeyState) → SpellsKey content state → named_place (Some id) content ≡ None → names_id id state ≡ false
unplaced id content state spells none =
    sym (place_named id state spells.canonical) ∙ ap is_some (ap (id_place (id_bytes id)) (sym spells.is) ∙ none)

-- the content that was accepted doesn't name it
pub id_unnamed : (ids : OwnIds) (first : Option Draft) (id : VersionId) (content : List ℕ) (state : KeyState) → id ≡ id_over ids first
    → key_fault (Some ids.alone) (Some ids.after) content ≡ None → SpellsKey content state → names_id id state ≡ false
id_unnamed ids first id content state is accepted spells =
    let parts = first_none_of (fault_at key_state content) (first_place (named_place (Some ids.alone) content) (named_place (Some ids.after) content)) accepted in
    let both = first_none_of (named_place (Some ids.alone) content) (named_place (Some ids.after) content) parts.1 in
    subst (λ (x : VersionId). names_id x state ≡ false) (sym is) (by first both)
  where
    by : (o : Option Draft) → (named_place (Some ids.alone) content ≡ None) × (named_place (Some ids.after) content ≡ None) → names_id (id_over ids o) state ≡ false
    by None both = unplaced ids.alone content state spells both.0
    by (Some draft) both = unplaced ids.after content state spells both.1

-- ---- the rules of contents

id_at : (site : Site) (drawn : Drawn) (last : ℕ) (put : Option VersionId) (id : VersionId) → IsOwnId (life_at site) last put id → IsOwnId (life_of (numbers_at site drawn)) last put id
id_at site drawn last None id is = record { change = is.change; slot = is.slot }
id_at site drawn last (Some p) id is = record { change = is.change; slot = is.slot }

-- the rule of a deed is that by which its cause goes
pub deed_rule : (site : Site) (drawn : Drawn) (deed : Commit) (put : Option VersionId) (ids : OwnIds) (rule : DeedRule) → IsDeedRule deed ids rule
    → IsOwnId (life_at site) drawn.seq put ids.alone → IsOwnId (life_at site) (drawn.seq + 1) put ids.after
    → IsRuleOf (numbers_at site drawn) deed put (λ content. deed_fault rule content) (deed_most rule)
deed_rule site drawn (Key at mode act) put ids rule is alone after =
    subst (λ (r : DeedRule). IsRuleOf (numbers_at site drawn) (Key at mode act) put (λ content. deed_fault r content) (deed_most r)) (sym is)
    (ids.alone, ids.after, id_at site drawn drawn.seq put ids.alone alone, id_at site drawn (drawn.seq + 1) put ids.after after, refl, refl)
deed_rule site drawn (Part at upload number part) put ids rule is alone after =
    subst (λ (r : DeedRule). IsRuleOf (numbers_at site drawn) (Part at upload number part) put (λ content. deed_fault r content) (deed_most r)) (sym is) (refl, refl)
deed_rule site drawn (MakeBucket bucket) put ids rule is alone after =
    subst (λ (r : DeedRule). IsRuleOf (numbers_at site drawn) (MakeBucket bucket) put (λ content. deed_fault r content) (deed_most r)) (sym is) (refl, refl)
deed_rule site drawn (SetMode bucket mode) put ids rule is alone after =
    subst (λ (r : DeedRule). IsRuleOf (numbers_at site drawn) (SetMode bucket mode) put (λ content. deed_fault r content) (deed_most r)) (sym is) (refl, refl)

pub deed_most_is : (deed : Commit) (ids : OwnIds) (rule : DeedRule) → IsDeedRule deed ids rule → deed_most rule ≡ most_for deed
deed_most_is (Key at mode act) ids rule is = ap deed_most is
deed_most_is (Part at upload number part) ids rule is = ap deed_most is
deed_most_is (MakeBucket bucket) ids rule is = ap deed_most is
deed_most_is (SetMode bucket mode) ids rule is = ap deed_most is

-- at what it read the change of the deed is new
read_key : (ids : OwnIds) (new : DeedRule) (first : Option Draft) (id : VersionId) (content : List ℕ) → deed_most new ≡ KEY_BYTES → id ≡ id_over ids first
    → key_fault (Some ids.alone) (Some ids.after) content ≡ None → DeedHasRead new content → IsReadFor new id content
read_key ids (KeyContents r) first id content most same accepted read =
    (read.0, read.1, read.2.spells, id_unnamed ids first id content read.0 same accepted read.2.spells)
read_key ids (BucketContents r) first id content most same accepted read = absurd (omega (arith, most))
read_key ids (PartContents r) first id content most same accepted read = absurd (omega (arith, most))

read_bucket : (new : DeedRule) (id : VersionId) (content : List ℕ) → deed_most new ≡ BUCKET_BYTES → DeedHasRead new content → IsReadFor new id content
read_bucket (KeyContents r) id content most read = absurd (omega (arith, most))
read_bucket (BucketContents r) id content most read = read
read_bucket (PartContents r) id content most read = absurd (omega (arith, most))

read_part : (new : DeedRule) (id : VersionId) (content : List ℕ) → deed_most new ≡ PART_BYTES → DeedHasRead new content → IsReadFor new id content
read_part (KeyContents r) id content most read = absurd (omega (arith, most))
read_part (BucketContents r) id content most read = absurd (omega (arith, most))
read_part (PartContents r) id content most read = read

pub read_for : (deed : Commit) (ids : OwnIds) (old new : DeedRule) (first : Option Draft) (id : VersionId) (content : List ℕ) → IsDeedRule deed ids old
    → deed_most new ≡ deed_most old → id ≡ id_over ids first → deed_fault old content ≡ None → DeedHasRead new content → IsReadFor new id content
read_for (Key at mode act) ids old new first id content is most same accepted read =
    read_key ids new first id content (most ∙ ap deed_most is) same (subst (λ (r : DeedRule). deed_fault r content ≡ None) is accepted) read
read_for (Part at upload number part) ids old new first id content is most same accepted read = read_part new id content (most ∙ ap deed_most is) read
read_for (MakeBucket bucket) ids old new first id content is most same accepted read = read_bucket new id content (most ∙ ap deed_most is) read
read_for (SetMode bucket mode) ids old new first id content is most same accepted read = read_bucket new id content (most ∙ ap deed_most is) read

-- ---- refusals

-- what is so of a refusal, by whether memory lacked
pub kept_cases : (P : Outcome → Type 0) (fault : QuorumFault) (outcome : Outcome) → IsKeptBy fault outcome → (fault ≢ NoMemoryQuorum → P (Kept fault)) → P LacksMemory → P outcome
kept_cases P (ReadQuorum whys) outcome is kept lacks = subst P (sym is) (kept (λ same. absurd cc))
kept_cases P (WriteQuorum whys) outcome is kept lacks = subst P (sym is) (kept (λ same. absurd cc))
kept_cases P (Undecided k u whys) outcome is kept lacks = subst P (sym is) (kept (λ same. absurd cc))
kept_cases P NoMemoryQuorum outcome is kept lacks = subst P (sym is) lacks

module _ {D : Type 0} (ghosts : Ghosts D) where
  -- what a commit leaves that found no memory: its lanes were looked at
  pub lacks_leaves : LandLaws → (site : Site) (drawn : Drawn) (deed : Commit) (put : Option VersionId) (before trash : List VersionId) (old new : List D)
      → length new ≡ length old → FilesStay ghosts old new → TellsStay ghosts old new → trash ≡ before
      → CommitLeaves ghosts.tells ghosts.files site drawn drawn deed put LacksMemory before trash old new
  lacks_leaves laws site drawn deed put before trash old new long stay told same holding rest records state held s lands fits was =
      let kept : kept_with holding rest holding.trash ≡ kept_with holding rest trash = ap (λ (t : List VersionId). kept_with holding rest t) (was ∙ sym same) in
      let looked : SlotStands ghosts.tells ghosts.files (numbers_at site drawn) holding.flights new records state =
      stands_looked {D = D} ghosts (numbers_at site drawn) holding old new records state long stay told s in
      record {
        after = records;
        now = state;
        stands = record {
          have = looked.have;
          stands = land_stands laws site.set (last_of (numbers_at site drawn)) holding rest records state put lands looked.stands;
        };
        stay = λ name k is_out. refl;
        moves = (refl, refl);
        calm = none_calms (quorum_of (numbers_at site drawn)) None records state refl;
        holds = λ disks hands less may d. subst (λ (h : Holding). DataStands site.set site.index (last_of (numbers_at site drawn)) records state h disks less) kept
            (land_data laws site.set site.index (last_of (numbers_at site drawn)) holding rest records state put disks hands less lands looked.stands
            (subst (λ (h : Holding). GoOn hands less h) (sym kept) may.goes_on) d);
      }

  -- and one that its look refused
  pub look_leaves : LandLaws → (site : Site) (drawn : Drawn) (deed : Commit) (put : Option VersionId) (fault : QuorumFault) (before trash : List VersionId) (old new : List D)
      → length new ≡ length old → FilesStay ghosts old new → TellsStay ghosts old new → trash ≡ before
      → CommitLeaves ghosts.tells ghosts.files site drawn drawn deed put (Kept fault) before trash old new
  look_leaves laws site drawn deed put fault before trash old new long stay told same holding rest records state held s lands fits was =
      let settled = looked_settled {D = D} ghosts (numbers_at site drawn) holding (λ after now. Unit {0}) old new records state long stay told tt s in
      entry_leaves {D = D} ghosts.tells ghosts.files site drawn drawn drawn holding (kept_with holding rest trash) (name_of deed) None KeptDeed site.turns (λ after now. Unit {0}) new new
      (λ before_it after. Unit {0}) (λ disks hands less. MayCommitData deed (kept_with holding rest trash) disks hands less) records state (λ after now known. tt) settled
      (kept_leaves {D = D} ghosts.tells ghosts.files laws site drawn deed holding rest put before trash new settled.after settled.now settled.stands lands was same)
