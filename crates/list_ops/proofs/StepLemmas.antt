-- The steps of a listing, as an op does them.
use Rattle.std.proofs.Common.{◌≡◌, ◌⊎◌, ◌∙◌, ℕ, ◌<◌, List, [], ◌∷◌, ◌++◌, All, Contains, Option, Some, None, Result, Ok, Err, map, option_and_then, inl, inr, refl, sym, ap, subst}
use Rattle.std.specs.Prelude.{String, string_bytes}
use Rattle.std.proofs.lemmas.List.Elements.{All-cons, All-nil, Contains-push}
use Rattle.audit_trail.specs.declared.entry.Deed.TheVariants.{Kept}
use Rattle.call_types.specs.declared.feed.Cut.{Cut}
use Rattle.call_types.specs.declared.feed.Cut.TheVariants.{NoMemory as NoMemoryCut}
use Rattle.call_types.specs.declared.names.Key.{Key}
use Rattle.call_types.specs.declared.refusal.Refusal.TheVariants.{SeqSpent}
use Rattle.call_types.specs.declared.reply.Reply.{Reply}
use Rattle.call_types.specs.declared.reply.Reply.TheVariants.{Refused}
use Rattle.desk_base.specs.Answering.{Task}
use Rattle.desk_base.specs.Telling.{Effect}
use Rattle.desk_base.specs.Telling.Telling.{Head as TheHead}
use Rattle.drive_base.specs.Names.{IsPage}
use Rattle.drive_base.specs.View.{DriveView, views}
use Rattle.drive_base.specs.declared.drive.Drive.{Ghosts}
use Rattle.drive_base.specs.declared.drive.TheConstants.{LONGEST_NAME}
use Rattle.drive_base.specs.declared.plan.SetPlan.{SetPlan}
use Rattle.list_page.specs.Laws.{FirstIsFirst, FirstIsInRange, PageOnTime}
use Rattle.slot_core.specs.NameList.{ListsNames}
use Rattle.slot_core.specs.Sections.{SaysKept}
use Rattle.slot_core.specs.Stubs.{Says, StubOfEntry}
use Rattle.slot_core.specs.Views.{SlotNumbers}
use Rattle.slot_core.specs.declared.slot.SlotFault.{SlotFault}
use Rattle.slot_core.specs.declared.stub.Stub.{Stub}
use Rattle.receipts.specs.Events.{Log, Note, Section as SectionSeen, Shown}
use Rattle.receipts.specs.Events.Event.{BarredFrom, Turned}
use Rattle.receipts.specs.Events.Shown.{ContentShown, NamesShown, NoneShown}
use Rattle.receipts.specs.Listing.{ViewsKey, key_in}
use Rattle.receipts.specs.Looks.{HasEntry}
use Rattle.receipts.specs.Pages.{Candidate, PageRule}
use Rattle.receipts.specs.Paging.{DoesNothing, ListsPage}
use Rattle.receipts.specs.Registers.{bucket_register, bucket_slot, key_register, key_slot}
use Rattle.receipts.specs.declared.barred.Barred.{Barred}
use Rattle.receipts.specs.declared.barred.Barred.TheVariants as barred
use Rattle.op_steps.specs.BucketLooks.{LooksSo, SaysBucket}
use Rattle.op_steps.specs.Looking.{LookIsTurn, LookSays, shown_by}
use Rattle.op_steps.specs.Moves.{TellMoves}
use Rattle.op_steps.specs.Naming.{NamesIsTurn, NamesSays, names_by}
use Rattle.op_steps.specs.Notes.{note_of, noted, refusal_by}
use Rattle.op_steps.specs.Store.{SlotSeen, TellerSeen}
use Rattle.op_steps.specs.Ready.{IsReady}
use Rattle.op_steps.specs.Words.{BarredSo, IsSection, TellsSo, TurnsSo}
use Rattle.op_steps.specs.declared.looking.Look.{Look}
use Rattle.op_steps.specs.declared.looking.Looked.{Looked}
use Rattle.op_steps.specs.declared.looking.Looked.TheVariants as looked_of
use Rattle.op_steps.specs.declared.next.OpNext.{OpNext}
use Rattle.op_steps.specs.declared.next.OpNext.TheVariants.{Data, Done, Feed, Section, Tell}
use Rattle.op_steps.proofs.TellLemmas.{one_untold, told_pays}
use Rattle.receipts.specs.Paying.{ChangesNothing, Pays}
use Rattle.list_ops.specs.Lists.{HasPaged, IsAtView, IsPageTask, PageStands, page_step}
use Rattle.list_ops.specs.Names.{key_of}
use Rattle.list_ops.specs.Rounds.{HasBucket, IsAtKey, IsAtSlot, IsInRound}
use Rattle.list_ops.specs.Sheets.{AfterLook, AfterNames, AfterView, AsksOn, Begins, Sheet, Sought, ViewsOn, barred_page, sheet_of, with_names, with_rows}
use Rattle.list_ops.specs.declared.page_state.PageState.{PageState}
use Rattle.list_ops.specs.declared.page_state.PageState.TheVariants.{Asking, Looking, Over, Telling, Viewing}
use Rattle.list_ops.specs.declared.page_state.Wanted.{Wanted}
use Rattle.list_ops.specs.declared.page_state.Work.{Work}
use Rattle.list_ops.proofs.LogLemmas.{barred_paged, bucket_pays, has_more, idle_rest, kept_entry, memory_pays, no_bytes, page_ready, refused_paged, tells_ready}
use Rattle.list_ops.proofs.RoundLemmas.{all_slots, at_key, at_next_round, at_next_slot, begins_at_slot, none_listed, page_over}
use Rattle.list_ops.proofs.ViewLemmas.{in_round, page_cut}

-- the names of a page, where it was shown
abbrev pub AreListed : {Y : Type 0} → List ℕ → ℕ → Result (List (String Y)) SlotFault → Type 0
AreListed from most (Ok names) = IsPage from most LONGEST_NAME (map string_bytes names)
AreListed from most (Err fault) = Unit {0}

module _ (set : SetPlan) (task : Task) (rule : PageRule) (bucket : List ℕ) (is_page : IsPageTask task rule bucket) where
  -- what comes next in a round has its log
  sought_paged : (sheet : Sheet) (rest : List SectionSeen) (log : Log) (state : PageState) → HasBucket bucket rest log → IsInRound rule bucket sheet rest
      → Sought rule bucket sheet state → HasPaged set task rule bucket state log
  sought_paged sheet rest log Looking has round sought = absurd sought
  sought_paged sheet rest log (Asking later) has round (ends, (bound, bound_is, later_is)) =
      (rest, has, subst (λ s. IsAtSlot rule bucket s rest) (sym later_is) (at_next_round rule bucket sheet rest round bound ends bound_is))
  sought_paged sheet rest log (Viewing later wanted) has round goes =
      let key_is : wanted.at.key ≡ key_of bucket goes.name = ap (λ (a : Key). a.key) goes.at_is in (
        rest,
        has,
        record {
          at = subst (λ k. IsAtKey rule bucket (sheet_of later) k rest) (sym key_is) (at_key rule bucket sheet rest round (sheet_of later) wanted goes);
          at_is = goes.at_is ∙ ap (key_in bucket) (sym key_is);
          slot_is = goes.slot_is ∙ ap key_slot (sym goes.at_is);
        },
      )
  sought_paged sheet rest log (Telling reply) has round (ends, none, reply_is) = subst (λ r. IsReady set task r log) (sym reply_is)
      (tells_ready set task rule bucket rest _ log is_page has (inl (page_over rule bucket sheet rest round ends none (idle_rest bucket rest log has))))
  sought_paged sheet rest log (Over cut) has round sought = subst (λ c. Pays set task c log) (sym sought) (bucket_pays set task bucket rest log has)

  -- the log after a page of names that was shown
  shown_paged : (sheet : Sheet) (names : List (List ℕ)) (rest : List SectionSeen) (log : Log) (k : ℕ) (note : Note) (state : PageState)
      → HasBucket bucket rest log → IsAtSlot rule bucket sheet rest → HasEntry sheet.slot [] Kept note → note.refusal ≡ None
      → IsPage sheet.from sheet.most LONGEST_NAME names → AsksOn rule bucket (with_names rule bucket sheet names) state
      → HasPaged set task rule bucket state (log ++ Turned k (Some note) (NamesShown sheet.from sheet.most names) ∷ [])
  shown_paged sheet names rest log k note state has at entry unrefused page asks =
      let section : SectionSeen = record { note = note; shown = NamesShown sheet.from sheet.most names } in
      let after : Log = log ++ Turned k (Some note) section.shown ∷ [] in
      let lists : ListsPage sheet.slot (record { from = sheet.from; most = sheet.most; names = names }) section =
      record { entry = entry; unrefused = unrefused; shown = refl } in
      let has_after : HasBucket bucket (rest ++ section ∷ []) after = has_more bucket rest log k section has (sheet.slot, [], entry) in
      elim asks [
        | inl next ↦ subst (λ s. HasPaged set task rule bucket s after) (sym next.1.1) (
          rest ++ section ∷ [],
          has_after,
          subst (λ s. IsAtSlot rule bucket s (rest ++ section ∷ [])) (sym next.1.2) (at_next_slot rule bucket sheet rest section names at lists page),
        )
        | inr (inl looks) ↦ sought_paged looks.1.0 (rest ++ section ∷ []) after state has_after
            (all_slots rule bucket sheet rest section names at lists page looks.1.0 looks.0 looks.1.1) looks.1.2
        | inr (inr over) ↦ subst (λ s. HasPaged set task rule bucket s after) (sym over) (bucket_pays set task bucket (rest ++ section ∷ []) after has_after)
      ]

  -- the log after a page of names
  names_paged : {Y : Type 0} (sheet : Sheet) (rest : List SectionSeen) (log : Log) (numbers : SlotNumbers) (answer : Result (List (String Y)) SlotFault)
      (stub : Option Stub) (state : PageState) → HasBucket bucket rest log → IsAtSlot rule bucket sheet rest → numbers.index < 64 → sheet.slot ≡ numbers.index
      → StubOfEntry numbers answer stub → Says stub (SaysKept []) → AreListed sheet.from sheet.most answer → AfterNames rule bucket sheet answer state
      → HasPaged set task rule bucket state (log ++ Turned numbers.index (noted stub) (names_by sheet.from sheet.most answer) ∷ [])
  names_paged sheet rest log numbers (Ok names) stub state has at in_store slot x says page after =
      let made = x.0 in
      let bytes = map string_bytes names in
      let saying : Says (Some made) (SaysKept []) = subst (λ s. Says s (SaysKept [])) x.1 says in
      subst (λ s. HasPaged set task rule bucket state (log ++ Turned numbers.index (noted s) (NamesShown sheet.from sheet.most bytes) ∷ [])) (sym x.1)
      (shown_paged sheet bytes rest log numbers.index (note_of made) state has at
      (subst (λ k. HasEntry k [] Kept (note_of made)) (sym slot) (kept_entry [] numbers x.2.0 None made x.2.1 x.2.2 saying))
      (ap (option_and_then refusal_by) x.2.2.fault_is) page after)
  names_paged {Y} sheet rest log numbers (Err fault) stub state has at in_store slot x says page after =
      refused_paged set task rule bucket rest log is_page has numbers in_store fault [] NoneShown (List (String Y)) (Err fault) stub state refl x says after

  -- the log after the look at a key that was done
  module _ (on_time : PageOnTime) where
    viewed_paged : (sheet : Sheet) (wanted : Wanted) (rest : List SectionSeen) (log : Log) (k : ℕ) (note : Note) (content : List ℕ) (state : PageState)
        → HasBucket bucket rest log → IsAtView rule bucket sheet wanted rest
        → HasEntry (key_slot (key_in bucket wanted.at.key)) (key_register (key_in bucket wanted.at.key)) Kept note → note.refusal ≡ None
        → ViewsOn rule bucket wanted.at.key content sheet state ⊎ (state ≡ Over (Some NoMemoryCut))
        → HasPaged set task rule bucket state (log ++ Turned k (Some note) (ContentShown content) ∷ [])
    viewed_paged sheet wanted rest log k note content state has view entry unrefused (inl views) =
        let section : SectionSeen = record { note = note; shown = ContentShown content } in
        let candidate : Candidate = record { key = wanted.at.key; state = views.key_state } in
        let after : Log = log ++ Turned k (Some note) section.shown ∷ [] in
        let has_after : HasBucket bucket (rest ++ section ∷ []) after = has_more bucket rest log k section has (_, _, entry) in
        let viewed : ViewsKey bucket candidate section =
        record { canonical = views.canonical; looks = record { entry = entry; unrefused = unrefused; shown = ap ContentShown views.content_is } } in
        elim views.goes [
          | inl over ↦ subst (λ s. HasPaged set task rule bucket s after) (sym over.1) (tells_ready set task rule bucket (rest ++ section ∷ []) _ after is_page has_after
              (inl (page_cut rule bucket sheet candidate rest section view.at viewed on_time over.0 (idle_rest bucket (rest ++ section ∷ []) after has_after))))
          | inr on ↦ sought_paged (with_rows rule bucket sheet candidate) (rest ++ section ∷ []) after state has_after
              (in_round rule bucket sheet candidate rest section view.at viewed on.0) on.1
        ]
    viewed_paged sheet wanted rest log k note content state has view entry unrefused (inr over) =
        let section : SectionSeen = record { note = note; shown = ContentShown content } in
        subst (λ s. HasPaged set task rule bucket s (log ++ Turned k (Some note) (ContentShown content) ∷ [])) (sym over)
        (bucket_pays set task bucket (rest ++ section ∷ []) (log ++ Turned k (Some note) (ContentShown content) ∷ [])
        (has_more bucket rest log k section has (_, _, entry)))

    -- the log after the look at a key
    view_paged : (sheet : Sheet) (wanted : Wanted) (rest : List SectionSeen) (log : Log) (numbers : SlotNumbers) (answer : Result (List ℕ) SlotFault)
        (stub : Option Stub) (state : PageState) → HasBucket bucket rest log → IsAtView rule bucket sheet wanted rest → numbers.index < 64
        → wanted.slot ≡ numbers.index → StubOfEntry numbers answer stub → Says stub (SaysKept (key_register wanted.at))
        → AfterView rule bucket wanted.at.key sheet answer state
        → HasPaged set task rule bucket state (log ++ Turned numbers.index (noted stub) (shown_by answer) ∷ [])
    view_paged sheet wanted rest log numbers (Ok content) stub state has view in_store slot x says after =
        let made = x.0 in
        let saying : Says (Some made) (SaysKept (key_register wanted.at)) = subst (λ s. Says s (SaysKept (key_register wanted.at))) x.1 says in
        let entry : HasEntry (key_slot wanted.at) (key_register wanted.at) Kept (note_of made) =
        subst (λ k. HasEntry k (key_register wanted.at) Kept (note_of made)) (sym slot ∙ view.slot_is)
        (kept_entry (key_register wanted.at) numbers x.2.0 None made x.2.1 x.2.2 saying) in
        subst (λ s. HasPaged set task rule bucket state (log ++ Turned numbers.index (noted s) (ContentShown content) ∷ [])) (sym x.1)
        (viewed_paged sheet wanted rest log numbers.index (note_of made) content state has view
        (subst (λ a. HasEntry (key_slot a) (key_register a) Kept (note_of made)) view.at_is entry)
        (ap (option_and_then refusal_by) x.2.2.fault_is) after)
    view_paged sheet wanted rest log numbers (Err fault) stub state has view in_store slot x says after =
        refused_paged set task rule bucket rest log is_page has numbers in_store fault (key_register wanted.at) NoneShown (List ℕ) (Err fault) stub state refl x says after

  -- the log after the look that found the bucket
  module _ (first : FirstIsFirst) (in_range : FirstIsInRange) where
    found_paged : (log : Log) (state : PageState) → HasBucket bucket [] log → Begins rule bucket state → HasPaged set task rule bucket state log
    found_paged log Looking has begins = absurd begins
    found_paged log (Asking work) has begins =
        ([], has, subst (λ s. IsAtSlot rule bucket s []) (sym begins.1) (begins_at_slot first in_range rule bucket begins.0))
    found_paged log (Viewing work wanted) has begins = absurd begins
    found_paged log (Telling reply) has begins = subst (λ r. IsReady set task r log) (sym begins.1)
        (tells_ready set task rule bucket [] _ log is_page has (inl (none_listed rule bucket begins.0)))
    found_paged log (Over cut) has begins = subst (λ c. Pays set task c log) (sym begins) (bucket_pays set task bucket [] log has)

    -- the log after the look at the bucket, whose one section it is
    looked_paged : (looked : Looked) (k : ℕ) (note : Option Note) (shown : Shown) (state : PageState) → SaysBucket bucket looked (Turned k note shown ∷ [])
        → AfterLook rule bucket looked state → HasPaged set task rule bucket state (Turned k note shown ∷ [])
    looked_paged (looked_of.There mode) k note shown state says after = found_paged (Turned k note shown ∷ []) state (record {
      untold = one_untold (Turned k note shown) tt;
      uncut = refl;
      no_body = refl;
      idle = subst (All DoesNothing) (sym says.sections) (All-cons DoesNothing says.look [] (bucket_slot bucket, bucket_register bucket, says.finds.looks.entry)
          (All-nil DoesNothing));
      look = says.look;
      sections = says.sections;
      mode = mode;
      finds = says.finds;
    }) after
    looked_paged (looked_of.Refused why) k note shown state says after =
        subst (λ s. HasPaged set task rule bucket s (Turned k note shown ∷ [])) (sym after) (page_ready set task rule bucket (Refused why) (Turned k note shown ∷ []) is_page
        (one_untold (Turned k note shown) tt) refl refl (inl says))
    looked_paged looked_of.LacksMemory k note shown state says after = subst (λ s. HasPaged set task rule bucket s (Turned k note shown ∷ [])) (sym after)
        (memory_pays set task (Turned k note shown ∷ []) (one_untold (Turned k note shown) tt) refl says)

  -- nothing was done yet, and the look at the bucket can't be done
  barred_first : (k : ℕ) (why : Barred) → bucket_slot bucket ≡ k → HasPaged set task rule bucket (barred_page why) (BarredFrom k why ∷ [])
  barred_first k barred.Spent is = page_ready set task rule bucket (Refused SeqSpent) (BarredFrom k barred.Spent ∷ []) is_page
      (one_untold (BarredFrom k barred.Spent) tt) refl refl
      (inl (inr (inr (record {
        sections = refl;
        barred = record {
          spent = subst (λ i. Contains (BarredFrom k barred.Spent ∷ []) (BarredFrom i barred.Spent)) (sym is)
              (Contains-push [] (BarredFrom k barred.Spent));
          told = refl;
        };
      }))))
  barred_first k barred.NoMemory is =
      memory_pays set task (BarredFrom k barred.NoMemory ∷ []) (one_untold (BarredFrom k barred.NoMemory) tt) refl (All-nil ChangesNothing)

-- the slot of a section
abbrev slot_in : OpNext → ℕ
slot_in (Section k) = k
slot_in Data = 0
slot_in Feed = 0
slot_in Tell = 0
slot_in Done = 0

module _ (set : SetPlan) (task : Task) (rule : PageRule) (bucket : List ℕ) where
  -- the look at the bucket
  pub look_so : {D : Type 0} (ghosts : Ghosts D) (later : PageState) (name : List ℕ) (was after : SlotSeen D) (look : Look) (old new : List DriveView)
      → FirstIsFirst → FirstIsInRange → page_step bucket Looking ≡ Section was.numbers.index → name ≡ bucket_register bucket
      → LooksSo ghosts name was after look old new → AfterLook rule bucket look.looked later
      → TurnsSo ghosts (PageStands set task rule bucket Looking) (PageStands set task rule bucket later) look.stub was after old new
  look_so ghosts later name was after look old new first in_range next name_is says told claim log x =
      let index : was.numbers.index ≡ bucket_slot bucket = sym (ap slot_in next) in (
        claim,
        says.shown,
        record {
          none = x.none;
          is_page = x.is_page;
          paged = subst (λ l. HasPaged set task rule bucket later (l ++ Turned was.numbers.index (noted look.stub) says.shown ∷ [])) (sym x.paged)
              (looked_paged set task rule bucket x.is_page first in_range look.looked was.numbers.index (noted look.stub) says.shown later
              (says.says bucket name_is index) told);
        },
        says.turns claim,
      )

  -- the section that lists names
  pub names_so : {D Y : Type 0} (ghosts : Ghosts D) (work : Work) (later : PageState) (from : List ℕ) (most : ℕ) (was after : SlotSeen D)
      (answer : Result (List (String Y)) SlotFault) (stub : Option Stub) (disks : List D) → NamesIsTurn ghosts Y
      → page_step bucket (Asking work) ≡ Section was.numbers.index → from ≡ string_bytes work.from → most ≡ work.most
      → NamesSays ghosts was after from most answer stub → AreListed from most answer → AfterNames rule bucket (sheet_of work) answer later
      → TurnsSo ghosts (PageStands set task rule bucket (Asking work)) (PageStands set task rule bucket later) stub was after (views ghosts disks) (views ghosts disks)
  names_so ghosts work later from most was after answer stub disks law next from_is most_is says listed told claim log x =
      let slot : work.slot ≡ was.numbers.index = ap slot_in next in
      let in_store : was.numbers.index < 64 = subst (λ k. k < 64) slot work.within in
      let own : List ℕ = string_bytes work.from in
      let own_says : NamesSays ghosts was after own work.most answer stub = subst (λ n. NamesSays ghosts was after own n answer stub) most_is
      (subst (λ f. NamesSays ghosts was after f most answer stub) from_is says) in
      let own_listed : AreListed own work.most answer = subst (λ n. AreListed own n answer) most_is (subst (λ f. AreListed f most answer) from_is listed) in (
        claim,
        names_by own work.most answer,
        record {
          none = x.none;
          is_page = x.is_page;
          paged = names_paged set task rule bucket x.is_page (sheet_of work) x.paged.0 log was.numbers answer stub later x.paged.1 x.paged.2 in_store slot
              own_says.turns.stub_is own_says.says own_listed told;
        },
        law was after own work.most answer stub (views ghosts disks) claim own_says,
      )

  -- the look at a key
  pub view_so : {D : Type 0} (ghosts : Ghosts D) (work : Work) (wanted : Wanted) (later : PageState) (name : List ℕ) (was after : SlotSeen D)
      (answer : Result (List ℕ) SlotFault) (stub : Option Stub) (old new : List D) → PageOnTime → LookIsTurn ghosts
      → page_step bucket (Viewing work wanted) ≡ Section was.numbers.index → name ≡ string_bytes wanted.name → LookSays ghosts was after name answer stub old new
      → AfterView rule bucket wanted.at.key (sheet_of work) answer later
      → TurnsSo ghosts (PageStands set task rule bucket (Viewing work wanted)) (PageStands set task rule bucket later) stub was after (views ghosts old) (views ghosts new)
  view_so ghosts work wanted later name was after answer stub old new on_time law next name_is says told claim log x =
      let slot : wanted.slot ≡ was.numbers.index = ap slot_in next in
      let in_store : was.numbers.index < 64 = subst (λ k. k < 64) slot wanted.within in
      let kept : Says stub (SaysKept (key_register wanted.at)) = subst (λ n. Says stub (SaysKept n)) (name_is ∙ wanted.named) says.says in (
        claim,
        shown_by answer,
        record {
          none = x.none;
          is_page = x.is_page;
          paged = view_paged set task rule bucket x.is_page on_time (sheet_of work) wanted x.paged.0 log was.numbers answer stub later x.paged.1 x.paged.2 in_store slot
              says.turns.stub_is kept told;
        },
        law was after name answer stub old new claim says,
      )

  -- a section that can't be done
  pub barred_so : (state : PageState) (why : Barred)
      → BarredSo (PageStands set task rule bucket state) (PageStands set task rule bucket (barred_page why)) (page_step bucket state) why
  barred_so Looking why claim log k next x = record {
    none = x.none;
    is_page = x.is_page;
    paged = subst (λ l. HasPaged set task rule bucket (barred_page why) (l ++ BarredFrom k why ∷ [])) (sym x.paged)
        (barred_first set task rule bucket x.is_page k why (ap slot_in next));
  }
  barred_so (Asking work) why claim log k next x =
      let slot : work.slot ≡ k = ap slot_in next in
      record {
        none = x.none;
        is_page = x.is_page;
        paged = barred_paged set task rule bucket x.paged.0 log x.is_page x.paged.1 k (subst (λ n. n < 64) slot work.within) why;
      }
  barred_so (Viewing work wanted) why claim log k next x =
      let slot : wanted.slot ≡ k = ap slot_in next in
      record {
        none = x.none;
        is_page = x.is_page;
        paged = barred_paged set task rule bucket x.paged.0 log x.is_page x.paged.1 k (subst (λ n. n < 64) slot wanted.within) why;
      }
  barred_so (Telling reply) why claim log k next x = absurd (subst IsSection (sym next) tt)
  barred_so (Over cut) why claim log k next x = absurd (subst IsSection (sym next) tt)

  -- the telling
  pub tell_so : {T : Type 0} (takes breaks : Effect T) (reply : Reply) (cut : Option Cut) (old new : TellerSeen T) → TellMoves takes breaks (TheHead reply) cut old new
      → TellsSo takes breaks (PageStands set task rule bucket (Telling reply)) (PageStands set task rule bucket (Over cut)) old new
  tell_so takes breaks reply cut old new moves claim log x =
      let bytes = no_bytes set task rule bucket x.is_page reply in (
        TheHead reply,
        cut,
        record {
          none = x.none;
          is_page = x.is_page;
          paged = told_pays takes breaks set task reply log cut old new bytes.0 bytes.1 x.paged moves;
        },
        moves,
      )

-- what a listing of names answers is a page
pub are_listed : {D Y : Type 0} (ghosts : Ghosts D) (set : SetPlan) (from : List ℕ) (most : ℕ) (answer : Result (List (String Y)) SlotFault) (old new : List D)
    → ListsNames ghosts set from most answer old new → AreListed from most answer
are_listed ghosts set from most (Ok names) old new x = x.are.page
are_listed ghosts set from most (Err fault) old new x = tt
