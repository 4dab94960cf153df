-- The steps of a list of buckets, as an op does them.
use Rattle.std.proofs.Common.{◌≡◌, ◌⊎◌, ◌∙◌, ℕ, ◌<◌, List, [], ◌∷◌, ◌++◌, All, Option, Some, None, Result, Ok, Err, append-nil, map, option_and_then, inl, inr, refl, sym, ap, subst, arith}
use Rattle.std.specs.Prelude.{String, string_bytes}
use Rattle.std.proofs.lemmas.List.Elements.{All-push, Contains-push}
use Rattle.bucket_book.specs.Laws.{ContentIsInjective}
use Rattle.call_types.specs.declared.feed.Cut.{Cut}
use Rattle.call_types.specs.declared.feed.Cut.TheVariants.{NoMemory as NoMemoryCut}
use Rattle.call_types.specs.declared.refusal.Refusal.TheVariants.{SeqSpent}
use Rattle.call_types.specs.declared.reply.BucketRow.{BucketRow}
use Rattle.call_types.specs.declared.reply.Reply.{Reply}
use Rattle.call_types.specs.declared.reply.Reply.TheVariants.{Found, Refused}
use Rattle.desk_base.specs.Answering.{bytes_after}
use Rattle.desk_base.specs.Telling.{Effect}
use Rattle.desk_base.specs.Telling.Telling.{Head as TheHead}
use Rattle.desk_base.specs.declared.call.Call.TheVariants.{ListBuckets}
use Rattle.drive_base.specs.Names.{IsPage}
use Rattle.drive_base.specs.View.{views}
use Rattle.drive_base.specs.declared.drive.Drive.{Ghosts}
use Rattle.drive_base.specs.declared.drive.TheConstants.{LONGEST_NAME}
use Rattle.drive_base.specs.declared.plan.SetPlan.{SetPlan}
use Rattle.slot_core.specs.NameList.{ListsNames}
use Rattle.slot_core.specs.Sections.{SaysKept}
use Rattle.slot_core.specs.Stubs.{Says, StubOfEntry}
use Rattle.slot_core.specs.Views.{SlotNumbers}
use Rattle.slot_core.specs.declared.slot.SlotFault.{SlotFault}
use Rattle.slot_core.specs.declared.stub.Stub.{Stub}
use Rattle.receipts.specs.Events.{IsUntold, Log, Note, Section as SectionSeen, body_of, cuts_of, sections_of}
use Rattle.receipts.specs.Events.Event.{BarredFrom, Turned}
use Rattle.receipts.specs.Events.Shown.{ContentShown, NamesShown, NoneShown}
use Rattle.audit_trail.specs.declared.entry.Deed.TheVariants.{Kept}
use Rattle.receipts.specs.Looks.{HasEntry}
use Rattle.receipts.specs.Paging.{DoesNothing}
use Rattle.receipts.specs.Registers.{bucket_register}
use Rattle.receipts.specs.Spans.{GivesBytes}
use Rattle.receipts.specs.declared.barred.Barred.{Barred}
use Rattle.receipts.specs.declared.barred.Barred.TheVariants as barred
use Rattle.receipts.proofs.JoinLemmas.{bodies_join, cuts_join, sections_join}
use Rattle.op_steps.specs.Looking.{LookIsTurn, LookSays, shown_by}
use Rattle.op_steps.specs.Moves.{TellMoves}
use Rattle.op_steps.specs.Naming.{NamesIsTurn, NamesSays, names_by}
use Rattle.op_steps.specs.Notes.{note_of, noted, refusal_by}
use Rattle.op_steps.specs.Store.{SlotSeen, TellerSeen}
use Rattle.op_steps.specs.Words.{BarredSo, IsSection, TellsSo, TurnsSo}
use Rattle.op_steps.specs.declared.next.OpNext.{OpNext}
use Rattle.op_steps.specs.declared.next.OpNext.TheVariants.{Data, Done, Feed, Section, Tell}
use Rattle.op_steps.proofs.TellLemmas.{told_pays}
use Rattle.bucket_ops.specs.Lists.{HasFound, HasListed, IsAtLook, IsAtPage, IsInPage, ListStands, list_step, list_task}
use Rattle.bucket_ops.specs.Seeking.{AfterBucket, AfterNames, LooksOn, Sheet, barred_list, page_names, sheet_of, with_names, with_rows}
use Rattle.bucket_ops.specs.declared.list_state.ListState.{ListState}
use Rattle.bucket_ops.specs.declared.list_state.ListState.TheVariants.{Looking, Over, Paging, Telling}
use Rattle.bucket_ops.specs.declared.list_state.Wanted.{Wanted}
use Rattle.bucket_ops.specs.declared.list_state.Work.{Work}
use Rattle.bucket_ops.proofs.ListLemmas.{found_ready, idle_all, kept_entry, memory_pays, refused_listed, sought_listed}
use Rattle.bucket_ops.proofs.SectionLemmas.{bucket_looked, one_more, page_shown, uncut_more, untold_more}

-- the names of a page, where it was shown
abbrev pub AreListed : {Y : Type 0} → List ℕ → Result (List (String Y)) SlotFault → Type 0
AreListed from (Ok names) = IsPage from page_names LONGEST_NAME (map string_bytes names)
AreListed from (Err fault) = Unit {0}

-- the log after a page of names
names_listed : {Y : Type 0} (set : SetPlan) (second : ℕ) (sheet : Sheet) (log : Log) (numbers : SlotNumbers) (answer : Result (List (String Y)) SlotFault)
    (stub : Option Stub) (state : ListState) → IsAtPage sheet log → numbers.index < 64 → sheet.slot ≡ numbers.index → StubOfEntry numbers answer stub
    → Says stub (SaysKept []) → AreListed sheet.from answer → AfterNames sheet answer state
    → HasListed set second state (log ++ Turned numbers.index (noted stub) (names_by sheet.from page_names answer) ∷ [])
names_listed set second sheet log numbers (Ok names) stub state at in_store slot x says page after =
    let made = x.0 in
    let bytes = map string_bytes names in
    let saying : Says (Some made) (SaysKept []) = subst (λ s. Says s (SaysKept [])) x.1 says in
    subst (λ s. HasListed set second state (log ++ Turned numbers.index (noted s) (NamesShown sheet.from page_names bytes) ∷ [])) (sym x.1)
    (sought_listed set second (with_names sheet bytes) (log ++ Turned numbers.index (Some (note_of made)) (NamesShown sheet.from page_names bytes) ∷ [])
    (page_shown sheet bytes log numbers.index (note_of made) at
    (subst (λ k. HasEntry k [] Kept (note_of made)) (sym slot) (kept_entry [] numbers x.2.0 None made x.2.1 x.2.2 saying))
    (ap (option_and_then refusal_by) x.2.2.fault_is) page) (omega arith) state after)
names_listed {Y} set second sheet log numbers (Err fault) stub state at in_store slot x says page after =
    refused_listed set second sheet.rows log at.found numbers in_store fault [] NoneShown (List (String Y)) (Err fault) stub state refl x says after

-- the log after the look at a bucket that was done
found_listed : (one : ContentIsInjective) (set : SetPlan) (second : ℕ) (sheet : Sheet) (wanted : Wanted) (log : Log) (k : ℕ) (note : Note) (content : List ℕ)
    (state : ListState) → IsAtLook sheet wanted log → HasEntry sheet.slot (bucket_register wanted.bucket) Kept note → note.refusal ≡ None
    → LooksOn wanted.bucket content sheet state ⊎ (state ≡ Over (Some NoMemoryCut))
    → HasListed set second state (log ++ Turned k (Some note) (ContentShown content) ∷ [])
found_listed one set second sheet wanted log k note content state at entry unrefused (inl looks) =
    let register = bucket_register wanted.bucket in
    let is = at.is register in
    let page = bucket_looked one sheet at.own wanted.bucket content looks.rows log k note at.page at.within (sym is.name_is ∙ wanted.named)
    (λ same. is.other ((sym is.name_is ∙ wanted.named) ∙ same)) is.slot_is entry unrefused looks.there looks.canonical looks.content_is looks.adds in
    sought_listed set second (with_rows sheet looks.rows) (log ++ Turned k (Some note) (ContentShown content) ∷ [])
    (subst (λ n. IsInPage (with_rows sheet looks.rows) n (log ++ Turned k (Some note) (ContentShown content) ∷ [])) (sym at.at_is) page)
    (let inside = at.within in let at_is = at.at_is in omega (arith, inside, at_is)) state looks.sought
found_listed one set second sheet wanted log k note content state at entry unrefused (inr over) =
    let section : SectionSeen = record { note = note; shown = ContentShown content } in
    subst (λ s. HasListed set second s (log ++ Turned k (Some note) (ContentShown content) ∷ [])) (sym over)
    (memory_pays set second (log ++ Turned k (Some note) (ContentShown content) ∷ []) (untold_more log k (Some note) (ContentShown content) at.page.found.untold)
    (uncut_more log k (Some note) (ContentShown content) at.page.found.uncut)
    (idle_all (sections_of (log ++ Turned k (Some note) (ContentShown content) ∷ []))
    (subst (All DoesNothing) (sym (one_more log k section))
    (All-push DoesNothing (sections_of log) section at.page.found.idle (sheet.slot, bucket_register wanted.bucket, entry)))))

-- the log after the look at a bucket
bucket_listed : (one : ContentIsInjective) (set : SetPlan) (second : ℕ) (sheet : Sheet) (wanted : Wanted) (log : Log) (numbers : SlotNumbers)
    (answer : Result (List ℕ) SlotFault) (stub : Option Stub) (state : ListState) → IsAtLook sheet wanted log → numbers.index < 64 → sheet.slot ≡ numbers.index
    → StubOfEntry numbers answer stub → Says stub (SaysKept (bucket_register wanted.bucket)) → AfterBucket wanted.bucket sheet answer state
    → HasListed set second state (log ++ Turned numbers.index (noted stub) (shown_by answer) ∷ [])
bucket_listed one set second sheet wanted log numbers (Ok content) stub state at in_store slot x says after =
    let made = x.0 in
    let bucket = wanted.bucket in
    let saying : Says (Some made) (SaysKept (bucket_register bucket)) = subst (λ s. Says s (SaysKept (bucket_register bucket))) x.1 says in
    let entry = subst (λ k. HasEntry k (bucket_register bucket) Kept (note_of made)) (sym slot)
    (kept_entry (bucket_register bucket) numbers x.2.0 None made x.2.1 x.2.2 saying) in
    subst (λ s. HasListed set second state (log ++ Turned numbers.index (noted s) (ContentShown content) ∷ [])) (sym x.1)
    (found_listed one set second sheet wanted log numbers.index (note_of made) content state at entry (ap (option_and_then refusal_by) x.2.2.fault_is) after)
bucket_listed one set second sheet wanted log numbers (Err fault) stub state at in_store slot x says after =
    refused_listed set second sheet.rows log at.page.found numbers in_store fault (bucket_register wanted.bucket) NoneShown (List ℕ) (Err fault) stub state refl x says after

-- the slot of a section
abbrev slot_in : OpNext → ℕ
slot_in (Section k) = k
slot_in Data = 0
slot_in Feed = 0
slot_in Tell = 0
slot_in Done = 0

-- the section that lists names
pub names_so : {D Y : Type 0} (ghosts : Ghosts D) (set : SetPlan) (second : ℕ) (work : Work) (later : ListState) (from : List ℕ) (was after : SlotSeen D)
    (answer : Result (List (String Y)) SlotFault) (stub : Option Stub) (disks : List D) → NamesIsTurn ghosts Y → Section work.slot ≡ Section was.numbers.index
    → from ≡ string_bytes work.from → NamesSays ghosts was after from page_names answer stub → AreListed from answer → AfterNames (sheet_of work) answer later
    → TurnsSo ghosts (ListStands set second (Paging work)) (ListStands set second later) stub was after (views ghosts disks) (views ghosts disks)
names_so {D} {Y} ghosts set second work later from was after answer stub disks law next from_is says listed told claim log x =
    let slot : work.slot ≡ was.numbers.index = ap slot_in next in
    let in_store : was.numbers.index < 64 = subst (λ k. k < 64) slot work.within in
    let own_from = string_bytes work.from in
    let own_says : NamesSays ghosts was after own_from page_names answer stub = subst (λ n. NamesSays ghosts was after n page_names answer stub) from_is says in (
      claim,
      names_by own_from page_names answer,
      record {
        none = x.none;
        listed = names_listed set second (sheet_of work) log was.numbers answer stub later x.listed in_store slot own_says.turns.stub_is own_says.says
            (subst (λ n. AreListed n answer) from_is listed) told;
      },
      law was after own_from page_names answer stub (views ghosts disks) claim own_says,
    )

-- the section that looks at a bucket
pub look_so : {D : Type 0} (ghosts : Ghosts D) (one : ContentIsInjective) (set : SetPlan) (second : ℕ) (work : Work) (wanted : Wanted) (later : ListState) (name : List ℕ)
    (was after : SlotSeen D) (answer : Result (List ℕ) SlotFault) (stub : Option Stub) (old new : List D) → LookIsTurn ghosts
    → Section work.slot ≡ Section was.numbers.index → name ≡ string_bytes wanted.name → LookSays ghosts was after name answer stub old new
    → AfterBucket wanted.bucket (sheet_of work) answer later
    → TurnsSo ghosts (ListStands set second (Looking work wanted)) (ListStands set second later) stub was after (views ghosts old) (views ghosts new)
look_so ghosts one set second work wanted later name was after answer stub old new law next name_is says told claim log x =
    let slot : work.slot ≡ was.numbers.index = ap slot_in next in
    let in_store : was.numbers.index < 64 = subst (λ k. k < 64) slot work.within in
    let kept : Says stub (SaysKept (bucket_register wanted.bucket)) = subst (λ n. Says stub (SaysKept n)) (name_is ∙ wanted.named) says.says in (
      claim,
      shown_by answer,
      record {
        none = x.none;
        listed = bucket_listed one set second (sheet_of work) wanted log was.numbers answer stub later x.listed in_store slot says.turns.stub_is kept told;
      },
      law was after name answer stub old new claim says,
    )

-- a section that can't be done
module _ (set : SetPlan) (second : ℕ) (rows : List BucketRow) (log : Log) (k : ℕ) (in_store : k < 64) (found : HasFound rows log) where
  same_sections : (why : Barred) → sections_of (log ++ BarredFrom k why ∷ []) ≡ sections_of log
  same_sections why = sections_join log (BarredFrom k why ∷ []) ∙ append-nil (sections_of log)

  no_cuts : (why : Barred) → cuts_of (log ++ BarredFrom k why ∷ []) ≡ []
  no_cuts why = cuts_join log (BarredFrom k why ∷ []) ∙ (append-nil (cuts_of log) ∙ found.uncut)

  barred_listed : (why : Barred) → HasListed set second (barred_list why) (log ++ BarredFrom k why ∷ [])
  barred_listed barred.Spent = found_ready set second (Refused SeqSpent) (log ++ BarredFrom k barred.Spent ∷ [])
      (All-push IsUntold log (BarredFrom k barred.Spent) found.untold tt) (no_cuts barred.Spent)
      (bodies_join log (BarredFrom k barred.Spent ∷ []) ∙ (append-nil (body_of log) ∙ found.no_body))
      (inr (inr (record {
        idle = subst (All DoesNothing) (sym (same_sections barred.Spent)) found.idle;
        slot = k;
        in_store = in_store;
        barred = record { spent = Contains-push log (BarredFrom k barred.Spent); told = refl };
      })))
  barred_listed barred.NoMemory = memory_pays set second (log ++ BarredFrom k barred.NoMemory ∷ [])
      (All-push IsUntold log (BarredFrom k barred.NoMemory) found.untold tt) (no_cuts barred.NoMemory)
      (idle_all (sections_of (log ++ BarredFrom k barred.NoMemory ∷ [])) (subst (All DoesNothing) (sym (same_sections barred.NoMemory)) found.idle))

pub barred_so : (set : SetPlan) (second : ℕ) (state : ListState) (why : Barred)
    → BarredSo (ListStands set second state) (ListStands set second (barred_list why)) (list_step state) why
barred_so set second (Paging work) why claim log k next x =
    let slot : work.slot ≡ k = ap slot_in next in
    record { none = x.none; listed = barred_listed set second work.rows.items log k (subst (λ n. n < 64) slot work.within) x.listed.found why }
barred_so set second (Looking work wanted) why claim log k next x =
    let slot : work.slot ≡ k = ap slot_in next in
    record { none = x.none; listed = barred_listed set second work.rows.items log k (subst (λ n. n < 64) slot work.within) x.listed.page.found why }
barred_so set second (Telling reply) why claim log k next x = absurd (subst IsSection (sym next) tt)
barred_so set second (Over cut) why claim log k next x = absurd (subst IsSection (sym next) tt)

-- the telling
no_bytes : (set : SetPlan) (reply : Reply) (log : Log) → GivesBytes set ListBuckets reply [] log
no_bytes set (Found version span id) log = refl
no_bytes set other log = refl

none_after : (reply : Reply) → 0 ≡ bytes_after reply ListBuckets
none_after (Found version span id) = refl
none_after other = refl

pub tell_so : {T : Type 0} (takes breaks : Effect T) (set : SetPlan) (second : ℕ) (reply : Reply) (cut : Option Cut) (old new : TellerSeen T)
    → TellMoves takes breaks (TheHead reply) cut old new
    → TellsSo takes breaks (ListStands set second (Telling reply)) (ListStands set second (Over cut)) old new
tell_so takes breaks set second reply cut old new moves claim log x = (
  TheHead reply,
  cut,
  record {
    none = x.none;
    listed = told_pays takes breaks set (list_task second) reply log cut old new (none_after reply) (no_bytes set reply) x.listed moves;
  },
  moves,
)

-- what a listing answers is a page
pub are_listed : {D Y : Type 0} (ghosts : Ghosts D) (set : SetPlan) (from : List ℕ) (answer : Result (List (String Y)) SlotFault) (old new : List D)
    → ListsNames ghosts set from page_names answer old new → AreListed from answer
are_listed ghosts set from (Ok names) old new x = x.are.page
are_listed ghosts set from (Err fault) old new x = tt
