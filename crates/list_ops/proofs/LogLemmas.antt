-- The log of a listing with one event more, and what is owed and paid then.
use Rattle.std.proofs.Common.{◌≡◌, ◌⊎◌, ◌∙◌, ℕ, ◌<◌, List, [], ◌∷◌, ◌++◌, All, Option, Some, None, Result, Err, MatchOption, append-nil, length, option_and_then, inl, inr, refl, sym, ap, subst}
use Rattle.std.proofs.lemmas.List.Elements.{All-push, All-tail, All-weaker, Contains-push}
use Rattle.audit_trail.specs.declared.entry.Deed.TheVariants.{Kept}
use Rattle.audit_trail.specs.declared.entry.Entry.{Entry}
use Rattle.call_types.specs.declared.feed.Cut.TheVariants.{NoMemory as NoMemoryCut}
use Rattle.call_types.specs.declared.refusal.Refusal.{Refusal}
use Rattle.call_types.specs.declared.refusal.Refusal.TheVariants.{SeqSpent as SpentRefusal}
use Rattle.call_types.specs.declared.reply.Reply.{Reply}
use Rattle.call_types.specs.declared.reply.Reply.TheVariants.{Found, Refused}
use Rattle.desk_base.specs.Answering.{Task, bytes_after}
use Rattle.desk_base.specs.declared.asks.ListAsk.{ListAsk}
use Rattle.desk_base.specs.declared.asks.VersionsAsk.{VersionsAsk}
use Rattle.desk_base.specs.declared.call.Call.{Call}
use Rattle.desk_base.specs.declared.call.Call.TheVariants.{List2, ListVersions}
use Rattle.drive_base.specs.declared.plan.SetPlan.{SetPlan}
use Rattle.slot_core.specs.Sections.{SaysKept}
use Rattle.slot_core.specs.Stubs.{IsStub, Says, StubOfEntry, Writes, WritesNone}
use Rattle.slot_core.specs.Views.{SlotNumbers}
use Rattle.slot_core.specs.declared.slot.SlotFault.{SlotFault}
use Rattle.slot_core.specs.declared.slot.SlotFault.TheVariants.{AuditFailed, Key, NoMemory, NotInFlight, Quorum, SeqSpent}
use Rattle.slot_core.specs.declared.stub.Stub.{Stub}
use Rattle.receipts.specs.Events.{IsUntold, Log, Section, Shown, body_of, cuts_of, sections_of}
use Rattle.receipts.specs.Events.Event.{BarredFrom, Turned}
use Rattle.receipts.specs.Listing.{KeysAreListed, PageOwes}
use Rattle.receipts.specs.Looks.{HasEntry, IsIdle}
use Rattle.receipts.specs.Owes.{OwesReply}
use Rattle.receipts.specs.Pages.{PageRule}
use Rattle.receipts.specs.Paging.{DoesNothing, ListingIsBarred, ListingIsRefused}
use Rattle.receipts.specs.Paying.{ChangesNothing, LeavesAll, Pays}
use Rattle.receipts.specs.Spans.{GivesBytes}
use Rattle.receipts.specs.declared.barred.Barred.{Barred}
use Rattle.receipts.specs.declared.barred.Barred.TheVariants as barred
use Rattle.receipts.proofs.JoinLemmas.{bodies_join, cuts_join, sections_join}
use Rattle.receipts.proofs.SectionLemmas.{all_more, body_more, one_more, uncut_more, untold_more, with_section}
use Rattle.op_steps.specs.Notes.{note_of, noted, refusal_by}
use Rattle.op_steps.specs.Ready.{IsReady}
use Rattle.op_steps.proofs.TellLemmas.{none_pays, none_told}
use Rattle.list_ops.specs.Lists.{HasPaged, IsPageTask}
use Rattle.list_ops.specs.Rounds.{HasBucket}
use Rattle.list_ops.specs.Sheets.{Refuses, barred_page}
use Rattle.list_ops.specs.declared.page_state.PageState.{PageState}
use Rattle.list_ops.specs.declared.page_state.PageState.TheVariants.{Asking, Looking, Over, Telling, Viewing}

-- a section that does nothing of its own changes nothing
idle_changes : (section : Section) → DoesNothing section → ChangesNothing section
idle_changes section x = subst (λ (e : Option Entry). MatchOption e (Unit {0}) (λ (entry : Entry). LeavesAll entry.deed)) (sym x.2.entry_is)
    (subst LeavesAll (sym x.2.deed_is) tt)

pub idle_all : (sections : List Section) → All DoesNothing sections → All ChangesNothing sections
idle_all sections idle = All-weaker DoesNothing ChangesNothing idle_changes sections idle

-- want of memory pays, where sections changed nothing
pub memory_pays : (set : SetPlan) (task : Task) (log : Log) → All IsUntold log → cuts_of log ≡ [] → All ChangesNothing (sections_of log)
    → Pays set task (Some NoMemoryCut) log
memory_pays set task log untold uncut idle = none_pays set task log uncut (none_told log untold) (inl idle)

pub bucket_pays : (set : SetPlan) (task : Task) (bucket : List ℕ) (rest : List Section) (log : Log) → HasBucket bucket rest log
    → Pays set task (Some NoMemoryCut) log
bucket_pays set task bucket rest log has = memory_pays set task log has.untold has.uncut (idle_all (sections_of log) has.idle)

-- what a page owes is what the call owes
pub page_owed : (set : SetPlan) (task : Task) (rule : PageRule) (bucket : List ℕ) (reply : Reply) (log : Log) → IsPageTask task rule bucket → body_of log ≡ []
    → PageOwes rule bucket reply log → OwesReply set task reply log
page_owed set task rule bucket reply log (inl (ask, call_is, rule_is)) none owes =
    subst (λ (c : Call). OwesReply set (record { call = c; now = task.now }) reply log) (sym call_is)
    (ap length none, subst (λ r. PageOwes r bucket reply log) rule_is owes)
page_owed set task rule bucket reply log (inr (ask, call_is, rule_is)) none owes =
    subst (λ (c : Call). OwesReply set (record { call = c; now = task.now }) reply log) (sym call_is)
    (ap length none, subst (λ r. PageOwes r bucket reply log) rule_is owes)

pub page_ready : (set : SetPlan) (task : Task) (rule : PageRule) (bucket : List ℕ) (reply : Reply) (log : Log) → IsPageTask task rule bucket → All IsUntold log
    → cuts_of log ≡ [] → body_of log ≡ [] → PageOwes rule bucket reply log → IsReady set task reply log
page_ready set task rule bucket reply log is untold uncut none owes =
    record { untold = untold; uncut = uncut; owed = page_owed set task rule bucket reply log is none owes }

-- behind the look that found the bucket
pub tells_ready : (set : SetPlan) (task : Task) (rule : PageRule) (bucket : List ℕ) (rest : List Section) (reply : Reply) (log : Log) → IsPageTask task rule bucket
    → HasBucket bucket rest log → KeysAreListed rule bucket reply rest ⊎ ListingIsRefused reply rest ⊎ ListingIsBarred reply log → IsReady set task reply log
tells_ready set task rule bucket rest reply log is has tells = page_ready set task rule bucket reply log is has.untold has.uncut has.no_body
    (inr (record { look = has.look; rest = rest; sections = has.sections; mode = has.mode; finds = has.finds; tells = tells }))

pub idle_rest : (bucket : List ℕ) (rest : List Section) (log : Log) → HasBucket bucket rest log → All DoesNothing rest
idle_rest bucket rest log has = All-tail DoesNothing has.look rest (subst (All DoesNothing) has.sections has.idle)

-- a section more
pub has_more : (bucket : List ℕ) (rest : List Section) (log : Log) (k : ℕ) (section : Section) → HasBucket bucket rest log → DoesNothing section
    → HasBucket bucket (rest ++ section ∷ []) (with_section log k section)
has_more bucket rest log k section has idle = record {
  untold = untold_more log k (Some section.note) section.shown has.untold;
  uncut = uncut_more log k (Some section.note) section.shown has.uncut;
  no_body = body_more log k (Some section.note) section.shown has.no_body;
  idle = all_more DoesNothing log k section has.idle idle;
  look = has.look;
  sections = one_more log k section ∙ ap (λ l. l ++ section ∷ []) has.sections;
  mode = has.mode;
  finds = has.finds;
}

-- the entry of a section, which did nothing of its own
pub kept_entry : (name : List ℕ) (numbers : SlotNumbers) (entry : Entry) (fault : Option SlotFault) (made : Stub) → entry.ticket ≡ numbers.turns
    → IsStub numbers (Some entry) fault made → Says (Some made) (SaysKept name) → HasEntry numbers.index name Kept (note_of made)
kept_entry name numbers entry fault made ticket is says =
    let kept : SaysKept name entry = subst (λ e. MatchOption e (Unit {0}) (SaysKept name)) is.entry_is says in
    record {
      slot_is = is.slot;
      entry = entry;
      entry_is = is.entry_is;
      ticket_is = ticket ∙ sym is.ticket;
      name_is = kept.name_is;
      deed_is = kept.deed_is;
    }

-- the stub of a section that was refused: it has an entry or none, or there is none, and then nothing is told
abbrev RefusedStub : SlotNumbers → SlotFault → Option Stub → Type 0
RefusedStub numbers fault stub = Writes numbers (Some fault) stub ⊎ WritesNone numbers fault stub ⊎ ((stub ≡ None) × (refusal_by fault ≡ None))

stub_cases : {T : Type 0} (numbers : SlotNumbers) (fault : SlotFault) (answer : Result T SlotFault) (stub : Option Stub) → answer ≡ Err fault
    → StubOfEntry numbers answer stub → RefusedStub numbers fault stub
stub_cases numbers (Quorum fault) answer stub is x = inl (subst (λ a. StubOfEntry numbers a stub) is x)
stub_cases numbers (Key why) answer stub is x = inl (subst (λ a. StubOfEntry numbers a stub) is x)
stub_cases numbers SeqSpent answer stub is x = inr (inl (subst (λ a. StubOfEntry numbers a stub) is x))
stub_cases numbers (AuditFailed before after) answer stub is x = inr (inl (subst (λ a. StubOfEntry numbers a stub) is x))
stub_cases numbers NoMemory answer stub is x = inr (inr (subst (λ a. StubOfEntry numbers a stub) is x, refl))
stub_cases numbers (NotInFlight id) answer stub is x = inl (subst (λ a. StubOfEntry numbers a stub) is x)

abbrev is_none : Option Refusal → Type 0
is_none None = Unit {0}
is_none (Some why) = ⊥

module _ (set : SetPlan) (task : Task) (rule : PageRule) (bucket : List ℕ) (rest : List Section) (log : Log) (is_page : IsPageTask task rule bucket)
    (has : HasBucket bucket rest log) where
  module _ (numbers : SlotNumbers) (in_store : numbers.index < 64) (fault : SlotFault) (name : List ℕ) (shown : Shown) where
    -- the refusal of a section is told
    told_refused : (made : Stub) (reply : Reply) → made.slot ≡ numbers.index → made.fault ≡ Some fault → IsIdle numbers.index name (note_of made)
        → Refuses fault (Telling reply) → IsReady set task reply (with_section log numbers.index (record { note = note_of made; shown = shown }))
    told_refused made reply slot is idle refuses =
        let section : Section = record { note = note_of made; shown = shown } in
        page_ready set task rule bucket reply (with_section log numbers.index section) is_page
        (untold_more log numbers.index (Some section.note) shown has.untold)
        (uncut_more log numbers.index (Some section.note) shown has.uncut) (body_more log numbers.index (Some section.note) shown has.no_body)
        (inr (record {
          look = has.look;
          rest = rest ++ section ∷ [];
          sections = one_more log numbers.index section ∙ ap (λ l. l ++ section ∷ []) has.sections;
          mode = has.mode;
          finds = has.finds;
          tells = inr (inl (record {
            before = rest;
            last = section;
            parts = refl;
            idle_before = idle_rest bucket rest log has;
            slot = numbers.index;
            in_store = in_store;
            name = name;
            idle = idle;
            refuses = record {
              slot_is = slot;
              why = refuses.0;
              of_section = refuses.2;
              refused = ap (option_and_then refusal_by) is ∙ refuses.1;
              told = refuses.3;
            };
          }));
        }))

    idle_nothing : (made : Stub) → IsIdle numbers.index name (note_of made) → ChangesNothing (record { note = note_of made; shown = shown })
    idle_nothing made (inl none) = subst (λ (e : Option Entry). MatchOption e (Unit {0}) (λ (entry : Entry). LeavesAll entry.deed)) (sym none) tt
    idle_nothing made (inr entry) = idle_changes (record { note = note_of made; shown = shown }) (numbers.index, name, entry)

    over_refused : (made : Stub) → IsIdle numbers.index name (note_of made)
        → Pays set task (Some NoMemoryCut) (with_section log numbers.index (record { note = note_of made; shown = shown }))
    over_refused made idle =
        let section : Section = record { note = note_of made; shown = shown } in
        memory_pays set task (with_section log numbers.index section) (untold_more log numbers.index (Some section.note) shown has.untold)
        (uncut_more log numbers.index (Some section.note) shown has.uncut)
        (subst (All ChangesNothing) (sym (one_more log numbers.index section))
        (All-push ChangesNothing (sections_of log) section (idle_all (sections_of log) has.idle) (idle_nothing made idle)))

    -- with a stub
    some_refused : (made : Stub) (state : PageState) → made.slot ≡ numbers.index → made.fault ≡ Some fault → IsIdle numbers.index name (note_of made)
        → Refuses fault state → HasPaged set task rule bucket state (with_section log numbers.index (record { note = note_of made; shown = shown }))
    some_refused made Looking slot is idle refuses = absurd refuses
    some_refused made (Asking later) slot is idle refuses = absurd refuses
    some_refused made (Viewing later wanted) slot is idle refuses = absurd refuses
    some_refused made (Telling reply) slot is idle refuses = told_refused made reply slot is idle refuses
    some_refused made (Over cut) slot is idle refuses =
        subst (λ c. Pays set task c (with_section log numbers.index (record { note = note_of made; shown = shown }))) (sym refuses) (over_refused made idle)

    -- without one
    none_refused : (state : PageState) → refusal_by fault ≡ None → Refuses fault state
        → HasPaged set task rule bucket state (log ++ Turned numbers.index None shown ∷ [])
    none_refused Looking none refuses = absurd refuses
    none_refused (Asking later) none refuses = absurd refuses
    none_refused (Viewing later wanted) none refuses = absurd refuses
    none_refused (Telling reply) none refuses = absurd (subst is_none (sym none ∙ refuses.1) tt)
    none_refused (Over cut) none refuses = subst (λ c. Pays set task c (log ++ Turned numbers.index None shown ∷ [])) (sym refuses)
        (memory_pays set task (log ++ Turned numbers.index None shown ∷ []) (untold_more log numbers.index None shown has.untold)
        (uncut_more log numbers.index None shown has.uncut)
        (subst (All ChangesNothing) (sym (sections_join log (Turned numbers.index None shown ∷ []) ∙ append-nil (sections_of log)))
        (idle_all (sections_of log) has.idle)))

    refused_by : (stub : Option Stub) (state : PageState) → RefusedStub numbers fault stub → Says stub (SaysKept name) → Refuses fault state
        → HasPaged set task rule bucket state (log ++ Turned numbers.index (noted stub) shown ∷ [])
    refused_by stub state (inl x) says refuses =
        let saying : Says (Some x.0) (SaysKept name) = subst (λ s. Says s (SaysKept name)) x.1 says in
        subst (λ s. HasPaged set task rule bucket state (log ++ Turned numbers.index (noted s) shown ∷ [])) (sym x.1)
        (some_refused x.0 state x.2.2.slot x.2.2.fault_is (inr (kept_entry name numbers x.2.0 (Some fault) x.0 x.2.1 x.2.2 saying)) refuses)
    refused_by stub state (inr (inl x)) says refuses =
        subst (λ s. HasPaged set task rule bucket state (log ++ Turned numbers.index (noted s) shown ∷ [])) (sym x.1)
        (some_refused x.0 state x.2.slot x.2.fault_is (inl x.2.entry_is) refuses)
    refused_by stub state (inr (inr x)) says refuses =
        subst (λ s. HasPaged set task rule bucket state (log ++ Turned numbers.index (noted s) shown ∷ [])) (sym x.0) (none_refused state x.1 refuses)

    pub refused_paged : (T : Type 0) (answer : Result T SlotFault) (stub : Option Stub) (state : PageState) → answer ≡ Err fault
        → StubOfEntry numbers answer stub → Says stub (SaysKept name) → Refuses fault state
        → HasPaged set task rule bucket state (log ++ Turned numbers.index (noted stub) shown ∷ [])
    refused_paged T answer stub state is x says refuses = refused_by stub state (stub_cases numbers fault answer stub is x) says refuses

  -- a section that can't be done
  module _ (k : ℕ) (in_store : k < 64) where
    same_sections : (why : Barred) → sections_of (log ++ BarredFrom k why ∷ []) ≡ sections_of log
    same_sections why = sections_join log (BarredFrom k why ∷ []) ∙ append-nil (sections_of log)

    no_cuts : (why : Barred) → cuts_of (log ++ BarredFrom k why ∷ []) ≡ []
    no_cuts why = cuts_join log (BarredFrom k why ∷ []) ∙ (append-nil (cuts_of log) ∙ has.uncut)

    has_barred : (why : Barred) → HasBucket bucket rest (log ++ BarredFrom k why ∷ [])
    has_barred why = record {
      untold = All-push IsUntold log (BarredFrom k why) has.untold tt;
      uncut = no_cuts why;
      no_body = bodies_join log (BarredFrom k why ∷ []) ∙ (append-nil (body_of log) ∙ has.no_body);
      idle = subst (All DoesNothing) (sym (same_sections why)) has.idle;
      look = has.look;
      sections = same_sections why ∙ has.sections;
      mode = has.mode;
      finds = has.finds;
    }

    pub barred_paged : (why : Barred) → HasPaged set task rule bucket (barred_page why) (log ++ BarredFrom k why ∷ [])
    barred_paged barred.Spent = tells_ready set task rule bucket rest (Refused SpentRefusal) (log ++ BarredFrom k barred.Spent ∷ []) is_page (has_barred barred.Spent)
        (inr (inr (record {
          idle = (has_barred barred.Spent).idle;
          slot = k;
          in_store = in_store;
          barred = record { spent = Contains-push log (BarredFrom k barred.Spent); told = refl };
        })))
    barred_paged barred.NoMemory = bucket_pays set task bucket rest (log ++ BarredFrom k barred.NoMemory ∷ []) (has_barred barred.NoMemory)

-- nothing is told behind the head
abbrev pub TellsNoBytes : SetPlan → Call → Type 0
TellsNoBytes set call = (reply : Reply) → (0 ≡ bytes_after reply call) × ((log : Log) → GivesBytes set call reply [] log)

keys_no_bytes : (set : SetPlan) (bucket : List ℕ) (ask : ListAsk) → TellsNoBytes set (List2 bucket ask)
keys_no_bytes set bucket ask (Found version span id) = (refl, λ log. refl)
keys_no_bytes set bucket ask other = (refl, λ log. refl)

versions_no_bytes : (set : SetPlan) (bucket : List ℕ) (ask : VersionsAsk) → TellsNoBytes set (ListVersions bucket ask)
versions_no_bytes set bucket ask (Found version span id) = (refl, λ log. refl)
versions_no_bytes set bucket ask other = (refl, λ log. refl)

pub no_bytes : (set : SetPlan) (task : Task) (rule : PageRule) (bucket : List ℕ) → IsPageTask task rule bucket → TellsNoBytes set task.call
no_bytes set task rule bucket (inl (ask, call_is, rule_is)) = subst (TellsNoBytes set) (sym call_is) (keys_no_bytes set bucket ask)
no_bytes set task rule bucket (inr (ask, call_is, rule_is)) = subst (TellsNoBytes set) (sym call_is) (versions_no_bytes set bucket ask)
