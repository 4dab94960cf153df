-- From which calls the answer of a look comes, and of the completion after it.
use Rattle.std.proofs.Common.{◌≡◌, ◌<◌, ◌≤◌, ◌∙◌, ℕ, false, List, Option, None, Some, Result, Ok, Err, length, ap, subst, subst₂, sym, refl, inl, inr, arith}
use Rattle.std.proofs.lemmas.Bool.Decides.{nat_tests}
use Rattle.std.specs.Prelude.{Bool, false, nat_le, if◌then◌else◌, string_bytes}
use Rattle.bucket_book.specs.Content.{content_fault}
use Rattle.upload_book.specs.Content.{content_fault as part_fault}
use Rattle.call_types.specs.declared.why.Why.{Why}
use Rattle.drive_base.specs.declared.drive.Drive.{Ghosts}
use Rattle.call_types.specs.Good.{good_count}
use Rattle.drive_base.specs.Plan.{write_drives}
use Rattle.drive_base.specs.declared.plan.SetPlan.{SetPlan}
use Rattle.stamp_id.specs.declared.stamp.Ballot.{Ballot}
use Rattle.stamp_id.specs.declared.stamp.ChangeId.{ChangeId}
use Rattle.register_file.specs.declared.record.Base.{Base}
use Rattle.register_file.specs.declared.record.Next.{Next}
use Rattle.register_core.specs.Drafts.{IsDraftAfterLook, letters_for}
use Rattle.register_core.specs.Found.{content_of}
use Rattle.register_core.specs.Records.{again_of}
use Rattle.register_core.specs.declared.drafts.Draft.{Draft}
use Rattle.register_core.specs.declared.faults.QuorumFault.{QuorumFault}
use Rattle.register_core.specs.declared.faults.QuorumFault.TheVariants.{NoMemory}
use Rattle.register_core.specs.declared.looks.Looked.{Looked}
use Rattle.register_caller.specs.Pending.{WritesAgain}
use Rattle.register_caller.specs.Steps.{WritesBoth}
use Rattle.slot_rules.specs.Rules.{IsRegisterName, is_bucket_name, is_part_name, key_fault, longest_for, rule_for}
use Rattle.slot_rules.specs.declared.ready.Ready.{Ready}
use Rattle.slot_rules.specs.declared.rules.TheConstants.{BUCKET_BYTES, KEY_BYTES, PART_BYTES}
use Rattle.slot_rules.specs.declared.site.Drawn.{Drawn}
use Rattle.slot_rules.specs.declared.site.Site.{Site}
use Rattle.slot_core.specs.Causes.{Completes, LookCause, LookGave}
use Rattle.slot_core.specs.RegisterLook.{CallsForward, DraftFits, LooksAt, WritesFirst, late_of}
use Rattle.slot_core.specs.Settlement.{FirstIs, IsReady, numbers_at}
use Rattle.slot_core.proofs.SettlingLemmas.{first_found, first_none}
use Rattle.slot_core.specs.LanesStay.{FilesStay}

-- the rule of a register's contents, by whether it is a bucket's
abbrev pub rule_at : Bool → List ℕ → Option ℕ
rule_at bucket content = if bucket then content_fault content else key_fault None None content

abbrev pub longest_at : Bool → ℕ
longest_at bucket = if bucket then BUCKET_BYTES else KEY_BYTES

-- at the name of a bucket's or a key's register that is its rule by the name
pub of_no_part : (name : List ℕ) → IsRegisterName name → is_part_name name ≡ false
of_no_part name named = elim named [
  | inl bucket ↦ ap is_part_name bucket.1
  | inr key ↦ ap is_part_name key.1
]

rule_is : (name : List ℕ) → is_part_name name ≡ false → rule_at (is_bucket_name name) ≡ rule_for name
rule_is name none =
    ap (λ (part : Bool). λ (content : List ℕ). if is_bucket_name name then content_fault content else (if part then part_fault content else key_fault None None content)) (sym none)

longest_is : (name : List ℕ) → is_part_name name ≡ false → longest_at (is_bucket_name name) ≡ longest_for name
longest_is name none = ap (λ (part : Bool). if is_bucket_name name then BUCKET_BYTES else (if part then PART_BYTES else KEY_BYTES)) (sym none)

few_if : (w good : ℕ) → nat_le w good ≡ false → good < w
few_if w good none = grind (arith, nat_tests)

module _ {D : Type 0} (ghosts : Ghosts D) where
  -- both writes of a draft aren't refused for want of memory
  pub writes_have_memory : (draft : Draft) (out term from to : ℕ) (old new : List D) → WritesBoth ghosts draft out term from to (Err NoMemory) old new → ⊥
  writes_have_memory draft out term from to old new writes = elim writes [
    | inl proposes ↦ proposes
    | inr marks ↦ marks.marks
  ]

  -- a draft of what is pending fits
  pub first_fits : (set : SetPlan) (name : List ℕ) (looked : Looked) (found : Next) (ballot : Ballot) (draft : Draft) → looked.set ≡ set → string_bytes looked.name ≡ name
      → length name ≤ 1129 → length looked.whys ≡ set.drives → looked.pending ≡ Some found → IsDraftAfterLook looked (again_of looked.base ballot found) draft
      → DraftFits set draft
  first_fits set name looked found ballot draft plan named short lettered pending drafted = record {
    set_is = drafted.set ∙ plan;
    letters = ap (λ (l : List Why). length l) (drafted.letters ∙ ap (λ (p : Option Next). letters_for p looked.whys looked.set.drives) pending) ∙ lettered;
    named = let same : string_bytes draft.name ≡ name = drafted.name ∙ named in
        subst (λ (n : List ℕ). length n ≤ 1129) (sym same) short;
  }

  -- fewer lanes are good than a write needs
  pub few_good : (set other : SetPlan) (whys : List Why) (enough : Bool) → other ≡ set → enough ≡ nat_le (write_drives other.drives other.parity) (good_count whys)
      → enough ≡ false → good_count whys < write_drives set.drives set.parity
  few_good set other whys enough plan is none =
      let fewer : nat_le (write_drives set.drives set.parity) (good_count whys) ≡ false =
      subst (λ (p : SetPlan). nat_le (write_drives p.drives p.parity) (good_count whys) ≡ false) plan (sym is ∙ none) in
      few_if (write_drives set.drives set.parity) (good_count whys) fewer

  -- nothing is drafted where nothing is pending
  pub first_is_none : (looked : Looked) (pending : Option Next) (ballot : Ballot) → pending ≡ None → FirstIs looked pending ballot None
  first_is_none looked None ballot is = refl
  first_is_none looked (Some found) ballot is = absurd cc

  -- a refused look
  pub cause_of_look : (site : Site) (drawn : Drawn) (name : List ℕ) (rule : List ℕ → Option ℕ) (longest : ℕ) (fault : QuorumFault) (old new disks disks_after : List D)
      → LooksAt ghosts site drawn name rule longest (Err fault) old new disks disks_after
      → LookCause ghosts (numbers_at site drawn) (numbers_at site drawn) name rule longest fault old new disks disks_after
  cause_of_look site drawn name rule longest fault old new disks disks_after looks = elim looks [
    | inl refused ↦ inl (refused, refl)
    | inr few ↦ inr (inl (few, refl))
  ]

  pub look_cause : (site : Site) (drawn : Drawn) (name : List ℕ) (bucket : Bool) (fault : QuorumFault) (old new disks disks_after : List D) → IsRegisterName name → bucket ≡ is_bucket_name name
      → LooksAt ghosts site drawn name (rule_at bucket) (longest_at bucket) (Err fault) old new disks disks_after
      → LookCause ghosts (numbers_at site drawn) (numbers_at site drawn) name (rule_for name) (longest_for name) fault old new disks disks_after
  look_cause site drawn name bucket fault old new disks disks_after named is looks =
      let none = of_no_part name named in
      cause_of_look site drawn name (rule_for name) (longest_for name) fault old new disks disks_after
      (subst₂ (λ (r : List ℕ → Option ℕ) (m : ℕ). LooksAt ghosts site drawn name r m (Err fault) old new disks disks_after) (rule_is name none) (longest_is name none)
      (subst (λ (b : Bool). LooksAt ghosts site drawn name (rule_at b) (longest_at b) (Err fault) old new disks disks_after) is looks))

  -- a look that could conclude, by the name
  pub ready_at : (site : Site) (drawn : Drawn) (name : List ℕ) (bucket : Bool) (ready : Ready) (old mid disks disks_after : List D) → IsRegisterName name → bucket ≡ is_bucket_name name
      → IsReady ghosts site drawn name (rule_at bucket) (longest_at bucket) ready old mid disks disks_after
      → IsReady ghosts site drawn name (rule_for name) (longest_for name) ready old mid disks disks_after
  ready_at site drawn name bucket ready old mid disks disks_after named is ready_is =
      let none = of_no_part name named in
      subst₂ (λ (r : List ℕ → Option ℕ) (m : ℕ). IsReady ghosts site drawn name r m ready old mid disks disks_after) (rule_is name none) (longest_is name none)
      (subst (λ (b : Bool). IsReady ghosts site drawn name (rule_at b) (longest_at b) ready old mid disks disks_after) is ready_is)

  -- what was written is what was pending, again
  writes_again : (site : Site) (drawn later : Drawn) (name : List ℕ) (rule : List ℕ → Option ℕ) (longest : ℕ) (ready : Ready) (result : Result (List Why) QuorumFault)
      (old mid new disks disks_after : List D) → (is : IsReady ghosts site drawn name rule longest ready old mid disks disks_after)
      → WritesFirst ghosts site drawn later ready.first result mid new
      → WritesAgain ghosts site.set.out site.term ready.looked is.ballot drawn.count later.count result mid new
  writes_again site drawn later name rule longest ready result old mid new disks disks_after is writes =
      let found = first_found ready.looked ready.looked.pending is.ballot ready.first writes.draft is.first writes.is in
      record { found = found.0; pending = found.1; draft = writes.draft; drafted = found.2; writes = writes.writes }

  -- where nothing is pending nothing is written again
  again_pending : (out term : ℕ) (looked : Looked) (ballot : Ballot) (from to : ℕ) (result : Result (List Why) QuorumFault) (old new : List D)
      → WritesAgain ghosts out term looked ballot from to result old new → looked.pending ≡ None → to ≡ from
  again_pending out term looked ballot from to result old new writes none = absurd (let some : None ≡ Some writes.found = sym none ∙ writes.pending in cc)

  -- a refused completion
  pub cause_of_forward : (site : Site) (drawn later : Drawn) (name : List ℕ) (rule : List ℕ → Option ℕ) (longest : ℕ) (ready : Ready) (fault : QuorumFault) (old mid new disks disks_after : List D)
      → IsReady ghosts site drawn name rule longest ready old mid disks disks_after → FilesStay ghosts old mid
      → CallsForward ghosts site drawn later ready.first (Err fault) mid new
      → LookCause ghosts (numbers_at site drawn) (numbers_at site later) name rule longest fault old new disks disks_after
  cause_of_forward site drawn later name rule longest ready fault old mid new disks disks_after is stay calls = inr (inr (
    record {
      looked = ready.looked;
      mid = mid;
      concluded = record { looks = is.looks; stay = stay };
      ballot = is.ballot;
      term = is.term;
      seq = is.seq;
      writes = writes_again site drawn later name rule longest ready (Err fault) old mid new disks disks_after is calls;
    },
    calls.seq,
  ))

  -- a completion that was done, or none
  pub gave_of : (site : Site) (drawn later : Drawn) (name : List ℕ) (rule : List ℕ → Option ℕ) (longest : ℕ) (ready : Ready) (content : List ℕ) (late : Option ChangeId) (old mid new disks disks_after : List D)
      → IsReady ghosts site drawn name rule longest ready old mid disks disks_after → FilesStay ghosts old mid
      → content ≡ content_of ready.looked.base ready.looked.pending
      → CallsForward ghosts site drawn later ready.first (Ok late) mid new
      → LookGave ghosts (numbers_at site drawn) later.count name rule longest content old new disks disks_after
  gave_of site drawn later name rule longest ready content None old mid new disks disks_after is stay same calls = record {
    looked = ready.looked;
    mid = mid;
    concluded = record { looks = is.looks; stay = stay };
    content_is = same;
    none_used = λ none. ap (λ (d : Drawn). d.count) calls.2;
    ballot = is.ballot;
    term = is.term;
    seq = is.seq;
    how = inl (first_none ready.looked ready.looked.pending is.ballot ready.first is.first calls.0, calls.1);
  }
  gave_of site drawn later name rule longest ready content (Some change) old mid new disks disks_after is stay same calls = record {
    looked = ready.looked;
    mid = mid;
    concluded = record { looks = is.looks; stay = stay };
    content_is = same;
    none_used = again_pending site.set.out site.term ready.looked is.ballot drawn.count later.count (Ok calls.0) mid new
        (writes_again site drawn later name rule longest ready (Ok calls.0) old mid new disks disks_after is calls.1);
    ballot = is.ballot;
    term = is.term;
    seq = is.seq;
    how = inr (calls.0, writes_again site drawn later name rule longest ready (Ok calls.0) old mid new disks disks_after is calls.1);
  }

  -- and what a section tells of it
  drafted_change : (looked : Looked) (pending : Option Next) (ballot : Ballot) (site : Site) (drawn later : Drawn) (first : Option Draft) (late : Option ChangeId) (mid new : List D)
      → FirstIs looked pending ballot first → late ≡ late_of first → CallsForward ghosts site drawn later first (Ok late) mid new
      → Completes (numbers_at site drawn) (numbers_at site later) pending late
  drafted_change looked None ballot site drawn later first None mid new is told calls = (refl, ap (λ (d : Drawn). d.seq) calls.2)
  drafted_change looked None ballot site drawn later first (Some change) mid new is told calls =
      absurd (let none : Some change ≡ None = told ∙ ap late_of is in cc)
  drafted_change looked (Some found) ballot site drawn later first None mid new is told calls =
      absurd (let some : None ≡ Some is.0.value.change = told ∙ ap late_of is.1 in cc)
  drafted_change looked (Some found) ballot site drawn later first (Some change) mid new is told calls =
      (told ∙ ap late_of is.1 ∙ ap (λ (b : Base). Some b.change) is.2.of.ends.value, calls.1.seq)

  completes_of : (site : Site) (drawn later : Drawn) (name : List ℕ) (rule : List ℕ → Option ℕ) (longest : ℕ) (ready : Ready) (late : Option ChangeId) (old mid new disks disks_after : List D)
      → IsReady ghosts site drawn name rule longest ready old mid disks disks_after → late ≡ late_of ready.first
      → CallsForward ghosts site drawn later ready.first (Ok late) mid new
      → Completes (numbers_at site drawn) (numbers_at site later) ready.looked.pending late
  completes_of site drawn later name rule longest ready late old mid new disks disks_after is told calls =
      drafted_change ready.looked ready.looked.pending is.ballot site drawn later ready.first late mid new is.first told calls

  -- both
  pub gives_of : (site : Site) (drawn later : Drawn) (name : List ℕ) (rule : List ℕ → Option ℕ) (longest : ℕ) (ready : Ready) (content : List ℕ) (late : Option ChangeId) (old mid new disks disks_after : List D)
      → IsReady ghosts site drawn name rule longest ready old mid disks disks_after → FilesStay ghosts old mid
      → content ≡ content_of ready.looked.base ready.looked.pending → late ≡ late_of ready.first
      → CallsForward ghosts site drawn later ready.first (Ok late) mid new
      → (gave : LookGave ghosts (numbers_at site drawn) later.count name rule longest content old new disks disks_after)
      × Completes (numbers_at site drawn) (numbers_at site later) gave.looked.pending late
  unfolding gave_of
  gives_of site drawn later name rule longest ready content None old mid new disks disks_after is stay same told calls = (
    gave_of site drawn later name rule longest ready content None old mid new disks disks_after is stay same calls,
    completes_of site drawn later name rule longest ready None old mid new disks disks_after is told calls,
  )
  gives_of site drawn later name rule longest ready content (Some change) old mid new disks disks_after is stay same told calls = (
    gave_of site drawn later name rule longest ready content (Some change) old mid new disks disks_after is stay same calls,
    completes_of site drawn later name rule longest ready (Some change) old mid new disks disks_after is told calls,
  )
