-- What the log of a list has after what it does next, and after a section that was refused.
use Rattle.std.proofs.Common.{◌≡◌, ◌⊎◌, ◌∙◌, ℕ, ◌+◌, ◌<◌, ◌≤◌, List, [], ◌∷◌, ◌++◌, All, Option, Some, None, Result, Err, MatchOption, append-nil, length, option_and_then, inl, inr, refl, sym, ap, subst}
use Rattle.std.proofs.lemmas.List.Elements.{All-push, All-weaker}
use Rattle.audit_trail.specs.declared.entry.Deed.TheVariants.{Kept}
use Rattle.audit_trail.specs.declared.entry.Entry.{Entry}
use Rattle.call_types.specs.declared.feed.Cut.TheVariants.{NoMemory as NoMemoryCut}
use Rattle.call_types.specs.declared.refusal.Refusal.{Refusal}
use Rattle.call_types.specs.declared.reply.BucketRow.{BucketRow}
use Rattle.call_types.specs.declared.reply.Reply.{Reply}
use Rattle.drive_base.specs.declared.plan.SetPlan.{SetPlan}
use Rattle.slot_core.specs.Sections.{SaysKept}
use Rattle.slot_core.specs.Stubs.{IsStub, Says, StubOfEntry, Writes, WritesNone}
use Rattle.slot_core.specs.Views.{SlotNumbers}
use Rattle.slot_core.specs.declared.slot.SlotFault.{SlotFault}
use Rattle.slot_core.specs.declared.slot.SlotFault.TheVariants.{AuditFailed, Key, NoMemory, NotInFlight, Quorum, SeqSpent}
use Rattle.slot_core.specs.declared.stub.Stub.{Stub}
use Rattle.receipts.specs.BucketLists.{ListBucketsOwes}
use Rattle.receipts.specs.Events.{IsUntold, Log, Section, Shown, body_of, cuts_of, sections_of}
use Rattle.receipts.specs.Events.Event.{Turned}
use Rattle.receipts.specs.Looks.{HasEntry, IsIdle}
use Rattle.receipts.specs.Paging.{DoesNothing}
use Rattle.receipts.specs.Paying.{ChangesNothing, LeavesAll, Pays}
use Rattle.receipts.proofs.JoinLemmas.{sections_join}
use Rattle.op_steps.specs.Notes.{note_of, noted, refusal_by}
use Rattle.op_steps.specs.Ready.{IsReady}
use Rattle.op_steps.proofs.TellLemmas.{none_pays, none_told}
use Rattle.bucket_ops.specs.Lists.{HasFound, HasListed, IsAtLook, IsAtPage, IsInPage, list_task}
use Rattle.bucket_ops.specs.Seeking.{EndsPage, GoesToLook, PassesOver, Refuses, Sheet, Sought, sheet_of}
use Rattle.bucket_ops.specs.declared.list_state.ListState.{ListState}
use Rattle.bucket_ops.specs.declared.list_state.ListState.TheVariants.{Looking, Over, Paging, Telling}
use Rattle.bucket_ops.specs.declared.list_state.Wanted.{Wanted}
use Rattle.bucket_ops.specs.declared.list_state.Work.{Work}
use Rattle.bucket_ops.proofs.PageLemmas.{all_listed, at_next_page, at_next_slot, passed_more}
use Rattle.bucket_ops.proofs.SectionLemmas.{body_more, one_more, uncut_more, untold_more, with_section}

-- a section that does nothing of its own changes nothing
idle_changes : (section : Section) → DoesNothing section → ChangesNothing section
idle_changes section x = subst (λ (e : Option Entry). MatchOption e (Unit {0}) (λ (entry : Entry). LeavesAll entry.deed)) (sym x.2.entry_is)
    (subst LeavesAll (sym x.2.deed_is) tt)

pub idle_all : (sections : List Section) → All DoesNothing sections → All ChangesNothing sections
idle_all sections idle = All-weaker DoesNothing ChangesNothing idle_changes sections idle

-- want of memory pays, where sections changed nothing
pub memory_pays : (set : SetPlan) (second : ℕ) (log : Log) → All IsUntold log → cuts_of log ≡ [] → All ChangesNothing (sections_of log)
    → Pays set (list_task second) (Some NoMemoryCut) log
memory_pays set second log untold uncut idle = none_pays set (list_task second) log uncut (none_told log untold) (inl idle)

pub found_pays : (set : SetPlan) (second : ℕ) (rows : List BucketRow) (log : Log) → HasFound rows log → Pays set (list_task second) (Some NoMemoryCut) log
found_pays set second rows log found = memory_pays set second log found.untold found.uncut (idle_all (sections_of log) found.idle)

-- a reply is ready, where it is one of those that are owed
pub found_ready : (set : SetPlan) (second : ℕ) (reply : Reply) (log : Log) → All IsUntold log → cuts_of log ≡ [] → body_of log ≡ [] → ListBucketsOwes reply log
    → IsReady set (list_task second) reply log
found_ready set second reply log untold uncut none owes = record { untold = untold; uncut = uncut; owed = (ap length none, owes) }

-- which place a sheet has doesn't matter
abbrev with_at : Sheet → ℕ → Sheet
with_at sheet n = record { slot = sheet.slot; from = sheet.from; names = sheet.names; at = n; rows = sheet.rows }

at_any : (sheet : Sheet) (n done : ℕ) (log : Log) → IsInPage sheet done log → IsInPage (with_at sheet n) done log
at_any sheet n done log page = record {
  found = page.found;
  asked = page.asked;
  page = page.page;
  before = page.before;
  section = page.section;
  after = page.after;
  parts = page.parts;
  lists = page.lists;
  looked = page.looked;
  only = page.only;
}

-- what comes next has its log
module _ (set : SetPlan) (second : ℕ) (sheet : Sheet) (log : Log) (page : IsInPage sheet sheet.at log) (few : sheet.at ≤ length sheet.names) where
  whole : PassesOver sheet (length sheet.names) → IsInPage sheet (length sheet.names) log
  whole passed = passed_more sheet sheet.at (length sheet.names) log few page passed

  look_next : (later : Sheet) (wanted : Wanted) → GoesToLook sheet later wanted → IsAtLook later wanted log
  look_next later wanted goes = subst (λ s. IsAtLook s wanted log) (sym goes.later_is) (record {
    own = goes.own;
    at_is = refl;
    within = goes.within;
    is = goes.is;
    page = at_any sheet (goes.own + 1) goes.own log (passed_more sheet sheet.at goes.own log goes.behind page goes.passed);
  })

  page_next : (later : Work) → PassesOver sheet (length sheet.names) → EndsPage sheet (Paging later) → IsAtPage (sheet_of later) log
  page_next later passed (inl slot) = at_next_slot sheet log (whole passed) (sheet_of later) slot.0 slot.1
  page_next later passed (inr next) = at_next_page sheet log (whole passed) (sheet_of later) next

  pub sought_listed : (state : ListState) → Sought sheet state → HasListed set second state log
  sought_listed (Paging later) sought = page_next later sought.0 sought.1
  sought_listed (Looking later wanted) sought = look_next (sheet_of later) wanted sought
  sought_listed (Telling reply) sought = found_ready set second reply log page.found.untold page.found.uncut page.found.no_body
      (inl (sheet.rows, sought.1.2, all_listed sheet log (whole sought.0) sought.1.0 sought.1.1))
  sought_listed (Over cut) sought = subst (λ c. Pays set (list_task second) c log) (sym sought) (found_pays set second sheet.rows log page.found)

-- the stub of a section that was refused: it has an entry or none, or there is none, and then nothing is told
abbrev RefusedStub : SlotNumbers → SlotFault → Option Stub → Type 0
RefusedStub numbers fault stub = Writes numbers (Some fault) stub ⊎ WritesNone numbers fault stub ⊎ ((stub ≡ None) × (refusal_by fault ≡ None))

stub_cases : {T : Type 0} (numbers : SlotNumbers) (fault : SlotFault) (answer : Result T SlotFault) (stub : Option Stub) → answer ≡ Err fault
    → StubOfEntry numbers answer stub → RefusedStub numbers fault stub
stub_cases numbers (Quorum fault) answer stub is x = inl (subst (λ a. StubOfEntry numbers a stub) is x)
stub_cases numbers (Key why) answer stub is x = inl (subst (λ a. StubOfEntry numbers a stub) is x)
stub_cases numbers SeqSpent answer stub is x = inr (inl (subst (λ a. StubOfEntry numbers a stub) is x))
stub_cases numbers (AuditFailed before after) answer stub is x = inr (inl (subst (λ a. StubOfEntry numbers a stub) is x))
stub_cases numbers NoMemory answer stub is x = inr (inr (subst (λ a. StubOfEntry numbers a stub) is x, refl))
stub_cases numbers (NotInFlight id) answer stub is x = inl (subst (λ a. StubOfEntry numbers a stub) is x)

-- the entry of a section, which did nothing of its own
pub kept_entry : (name : List ℕ) (numbers : SlotNumbers) (entry : Entry) (fault : Option SlotFault) (made : Stub) → entry.ticket ≡ numbers.turns
    → IsStub numbers (Some entry) fault made → Says (Some made) (SaysKept name) → HasEntry numbers.index name Kept (note_of made)
kept_entry name numbers entry fault made ticket is says =
    let kept : SaysKept name entry = subst (λ e. MatchOption e (Unit {0}) (SaysKept name)) is.entry_is says in
    record {
      slot_is = is.slot;
      entry = entry;
      entry_is = is.entry_is;
      ticket_is = ticket ∙ sym is.ticket;
      name_is = kept.name_is;
      deed_is = kept.deed_is;
    }

abbrev is_none : Option Refusal → Type 0
is_none None = Unit {0}
is_none (Some why) = ⊥

module _ (set : SetPlan) (second : ℕ) (rows : List BucketRow) (log : Log) (found : HasFound rows log) (numbers : SlotNumbers) (in_store : numbers.index < 64)
    (fault : SlotFault) (name : List ℕ) (shown : Shown) where
  -- its refusal is told
  told_refused : (made : Stub) (reply : Reply) → made.slot ≡ numbers.index → made.fault ≡ Some fault → IsIdle numbers.index name (note_of made)
      → Refuses fault (Telling reply) → IsReady set (list_task second) reply (with_section log numbers.index (record { note = note_of made; shown = shown }))
  told_refused made reply slot is idle refuses =
      let section : Section = record { note = note_of made; shown = shown } in
      found_ready set second reply (with_section log numbers.index section) (untold_more log numbers.index (Some section.note) shown found.untold)
      (uncut_more log numbers.index (Some section.note) shown found.uncut) (body_more log numbers.index (Some section.note) shown found.no_body)
      (inr (inl (record {
        before = sections_of log;
        last = section;
        parts = one_more log numbers.index section;
        idle_before = found.idle;
        slot = numbers.index;
        in_store = in_store;
        name = name;
        idle = idle;
        refuses = record {
          slot_is = slot;
          why = refuses.0;
          of_section = refuses.2;
          refused = ap (option_and_then refusal_by) is ∙ refuses.1;
          told = refuses.3;
        };
      })))

  idle_nothing : (made : Stub) → IsIdle numbers.index name (note_of made) → ChangesNothing (record { note = note_of made; shown = shown })
  idle_nothing made (inl none) = subst (λ (e : Option Entry). MatchOption e (Unit {0}) (λ (entry : Entry). LeavesAll entry.deed)) (sym none) tt
  idle_nothing made (inr entry) = idle_changes (record { note = note_of made; shown = shown }) (numbers.index, name, entry)

  over_refused : (made : Stub) → IsIdle numbers.index name (note_of made)
      → Pays set (list_task second) (Some NoMemoryCut) (with_section log numbers.index (record { note = note_of made; shown = shown }))
  over_refused made idle =
      let section : Section = record { note = note_of made; shown = shown } in
      memory_pays set second (with_section log numbers.index section) (untold_more log numbers.index (Some section.note) shown found.untold)
      (uncut_more log numbers.index (Some section.note) shown found.uncut)
      (subst (All ChangesNothing) (sym (one_more log numbers.index section))
      (All-push ChangesNothing (sections_of log) section (idle_all (sections_of log) found.idle) (idle_nothing made idle)))

  -- with a stub
  some_refused : (made : Stub) (state : ListState) → made.slot ≡ numbers.index → made.fault ≡ Some fault → IsIdle numbers.index name (note_of made)
      → Refuses fault state → HasListed set second state (with_section log numbers.index (record { note = note_of made; shown = shown }))
  some_refused made (Paging later) slot is idle refuses = absurd refuses
  some_refused made (Looking later wanted) slot is idle refuses = absurd refuses
  some_refused made (Telling reply) slot is idle refuses = told_refused made reply slot is idle refuses
  some_refused made (Over cut) slot is idle refuses =
      subst (λ c. Pays set (list_task second) c (with_section log numbers.index (record { note = note_of made; shown = shown }))) (sym refuses) (over_refused made idle)

  -- without one
  none_refused : (state : ListState) → refusal_by fault ≡ None → Refuses fault state → HasListed set second state (log ++ Turned numbers.index None shown ∷ [])
  none_refused (Paging later) none refuses = absurd refuses
  none_refused (Looking later wanted) none refuses = absurd refuses
  none_refused (Telling reply) none refuses = absurd (subst is_none (sym none ∙ refuses.1) tt)
  none_refused (Over cut) none refuses = subst (λ c. Pays set (list_task second) c (log ++ Turned numbers.index None shown ∷ [])) (sym refuses)
      (memory_pays set second (log ++ Turned numbers.index None shown ∷ []) (untold_more log numbers.index None shown found.untold)
      (uncut_more log numbers.index None shown found.uncut)
      (subst (All ChangesNothing) (sym (sections_join log (Turned numbers.index None shown ∷ []) ∙ append-nil (sections_of log))) (idle_all (sections_of log) found.idle)))

  refused_by : (stub : Option Stub) (state : ListState) → RefusedStub numbers fault stub → Says stub (SaysKept name) → Refuses fault state
      → HasListed set second state (log ++ Turned numbers.index (noted stub) shown ∷ [])
  refused_by stub state (inl x) says refuses =
      let saying : Says (Some x.0) (SaysKept name) = subst (λ s. Says s (SaysKept name)) x.1 says in
      subst (λ s. HasListed set second state (log ++ Turned numbers.index (noted s) shown ∷ [])) (sym x.1)
      (some_refused x.0 state x.2.2.slot x.2.2.fault_is (inr (kept_entry name numbers x.2.0 (Some fault) x.0 x.2.1 x.2.2 saying)) refuses)
  refused_by stub state (inr (inl x)) says refuses = subst (λ s. HasListed set second state (log ++ Turned numbers.index (noted s) shown ∷ [])) (sym x.1)
      (some_refused x.0 state x.2.slot x.2.fault_is (inl x.2.entry_is) refuses)
  refused_by stub state (inr (inr x)) says refuses = subst (λ s. HasListed set second state (log ++ Turned numbers.index (noted s) shown ∷ [])) (sym x.0)
      (none_refused state x.1 refuses)

  pub refused_listed : (T : Type 0) (answer : Result T SlotFault) (stub : Option Stub) (state : ListState) → answer ≡ Err fault → StubOfEntry numbers answer stub
      → Says stub (SaysKept name) → Refuses fault state → HasListed set second state (log ++ Turned numbers.index (noted stub) shown ∷ [])
  refused_listed T answer stub state is x says refuses = refused_by stub state (stub_cases numbers fault answer stub is x) says refuses
