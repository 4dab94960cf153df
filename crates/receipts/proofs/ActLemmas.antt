-- The act of a receipt is the call's.
use Rattle.std.proofs.Common.{◌≡◌, ◌∙◌, ℕ, zero, suc, List, [], ◌∷◌, ◌++◌, map, Option, None, Contains, append-nil, ap, inl, inr, refl, subst, sym, arith}
use Rattle.std.proofs.lemmas.List.{get_or-map, length-map}
use Rattle.std.proofs.lemmas.List.Elements.{Contains-append_left, Contains-push}
use Rattle.call_types.specs.declared.act.Act.{Act}
use Rattle.call_types.specs.declared.act.Act.TheVariants as act_of
use Rattle.call_types.specs.declared.act.Brief.{Brief}
use Rattle.call_types.specs.declared.act.Brief.TheVariants as brief
use Rattle.call_types.specs.declared.names.Key.{Key}
use Rattle.call_types.specs.declared.names.Mode.{Mode}
use Rattle.call_types.specs.declared.names.Pick.{Pick}
use Rattle.call_types.specs.declared.names.RangeAsk.{RangeAsk}
use Rattle.call_types.specs.declared.refusal.Refusal.{Refusal}
use Rattle.call_types.specs.declared.reply.BucketRow.{BucketRow}
use Rattle.call_types.specs.declared.reply.Reply.{Reply}
use Rattle.call_types.specs.declared.reply.Reply.TheVariants as reply_of
use Rattle.desk_base.specs.Telling.Telling.{Head as TheHead}
use Rattle.desk_base.specs.declared.call.Call.{Call}
use Rattle.desk_base.specs.declared.call.Call.TheVariants as call_of
use Rattle.drive_base.specs.declared.plan.SetPlan.{SetPlan}
use Rattle.stamp_id.specs.declared.stamp.ChangeId.{ChangeId}
use Rattle.version_list.specs.Answers.{IsServed}
use Rattle.receipts.specs.BucketLists.{FindsRow}
use Rattle.receipts.specs.Bucketing.{BucketActOwes, bucket_target}
use Rattle.receipts.specs.Committing.{EndsAtCommit, KeyIsCommitted, Target, act_target}
use Rattle.receipts.specs.Deeds.{DeedOwes}
use Rattle.receipts.specs.Events.{Log, Note, Section, body_of, notes_of, sections_of}
use Rattle.receipts.specs.Events.Event.{Told}
use Rattle.receipts.specs.Laws.{IsDoneIn, IsLookedAtIn, NotesAreOwed, ReceiptShowsAct, ShowsAct, ShowsPage}
use Rattle.receipts.specs.Listing.{PageOwes, ViewsKey, key_in}
use Rattle.receipts.specs.Looks.{EndsAtLook}
use Rattle.receipts.specs.Owes.{OwesCall}
use Rattle.receipts.specs.Pages.{Candidate, PageRule, keys_rule, versions_rule}
use Rattle.receipts.specs.Putting.{PutsBody}
use Rattle.receipts.specs.Reading.{EndsBeforeRead, ReadsKey, TellsHead, TellsRead}
use Rattle.receipts.specs.Registers.{bucket_register, bucket_slot, key_register, key_slot}
use Rattle.receipts.specs.Uploads.{upload_of}
use Rattle.receipts.proofs.JoinLemmas.{bodies_join, notes_join}

-- a refusal serves nothing
pub unserved : (reply : Reply) (why : Refusal) → reply ≡ reply_of.Refused why → IsServed reply → ⊥
unserved reply why is served = subst IsServed is served

pub at_look : (bucket : List ℕ) (reply : Reply) (log : Log) → EndsAtLook bucket reply log → IsServed reply → ⊥
at_look bucket reply log (inl x) served = unserved reply _ x.told served
at_look bucket reply log (inr (inl x)) served = unserved reply _ x.refuses.told served
at_look bucket reply log (inr (inr x)) served = unserved reply _ x.barred.told served

-- the notes of a log that has these sections
one_note : (log : Log) (own : Section) → sections_of log ≡ own ∷ [] → Contains (notes_of log) own.note
one_note log own is = subst (λ sections. Contains (map (λ (section : Section). section.note) sections) own.note) (sym is) (zero, omega arith, refl)

second_note : (log : Log) (look own : Section) → sections_of log ≡ look ∷ own ∷ [] → Contains (notes_of log) own.note
second_note log look own is =
    subst (λ sections. Contains (map (λ (section : Section). section.note) sections) own.note) (sym is) (suc zero, omega arith, refl)

-- the note of a section is among those of its log
note_there : (sections : List Section) (x : Section) → Contains sections x → Contains (map (λ (section : Section). section.note) sections) x.note
note_there sections x h =
    let long = length-map sections (λ (section : Section). section.note) in
    let lt = h.1 in
    (h.0, omega (arith, long, lt), get_or-map (λ (section : Section). section.note) sections h.0 x x.note lt ∙ ap (λ (section : Section). section.note) h.2)

-- what a commit shows
pub shows_commit : (target : Target) (before : List Section) (reply : Reply) (log : Log) → EndsAtCommit target before reply log → IsServed reply
    → IsDoneIn target.slot target.register (λ call. (change : Option ChangeId) × target.IsCall change call) reply (notes_of log)
shows_commit target before reply log x served = elim x.ends [
  | inl made ↦ record {
    note = x.own.note;
    there = note_there (sections_of log) x.own (subst (λ sections. Contains sections x.own) (sym x.sections) (Contains-push before x.own));
    call = made.call;
    is_call = (made.change, made.is_call);
    entry = made.entry;
  }
  | inr refused ↦ absurd (unserved reply _ refused.refuses.told served)
]

-- what a commit of a key shows
shows_change : (at : Key) (now : ℕ) (IsAct : Act → Type 0) (reply : Reply) (log : Log) → KeyIsCommitted at now IsAct reply log → IsServed reply
    → (done : Act) × IsAct done
    × IsDoneIn (key_slot at) (key_register at) (λ call. (mode : Mode) × (change : Option ChangeId) × (call ≡ brief.Change at mode done change now)) reply (notes_of log)
shows_change at now IsAct reply log x served =
    let done = shows_commit (act_target at x.mode now IsAct) (x.look ∷ []) reply log x.commit served in (
      done.is_call.1.0,
      done.is_call.1.1,
      record { note = done.note; there = done.there; call = done.call; is_call = (x.mode, done.is_call.0, done.is_call.1.2); entry = done.entry },
    )

-- what a commit of a bucket shows
shows_bucket : (bucket : List ℕ) (call : Option ChangeId → Brief) (reply : Reply) (log : Log) → BucketActOwes bucket call reply log → IsServed reply
    → IsDoneIn (bucket_slot bucket) (bucket_register bucket) (λ told. (change : Option ChangeId) × (told ≡ call change)) reply (notes_of log)
shows_bucket bucket call reply log (inl x) served = shows_commit (bucket_target bucket call) [] reply log x served
shows_bucket bucket call reply log (inr x) served = absurd (unserved reply _ x.barred.told served)

-- what a commit of just this act shows
shows_deed : (at : Key) (act : Act) (now : ℕ) (reply : Reply) (log : Log) → KeyIsCommitted at now (λ done. done ≡ act) reply log → IsServed reply
    → IsDoneIn (key_slot at) (key_register at) (λ call. (mode : Mode) × (change : Option ChangeId) × (call ≡ brief.Change at mode act change now)) reply (notes_of log)
shows_deed at act now reply log x served =
    let change = shows_change at now (λ done. done ≡ act) reply log x served in
    subst (λ done. IsDoneIn (key_slot at) (key_register at)
    (λ call. (mode : Mode) × (change : Option ChangeId) × (call ≡ brief.Change at mode done change now)) reply (notes_of log)) change.1 change.2

-- what a call shows that does just this act
shows_owed : (at : Key) (act : Act) (now : ℕ) (reply : Reply) (log : Log) → DeedOwes at act now reply log → IsServed reply
    → IsDoneIn (key_slot at) (key_register at) (λ call. (mode : Mode) × (change : Option ChangeId) × (call ≡ brief.Change at mode act change now)) reply (notes_of log)
shows_owed at act now reply log (inl ended) served = absurd (at_look at.bucket reply log ended served)
shows_owed at act now reply log (inr (inl made)) served = shows_deed at act now reply log made served
shows_owed at act now reply log (inr (inr barred)) served = absurd (unserved reply _ barred.barred.told served)

-- what a read of a key shows
shows_read : (at : Key) (pick : Pick) (whole : Reply) (log : Log) → ReadsKey at pick whole log
    → IsDoneIn (key_slot at) (key_register at) (λ call. (mode : Mode) × (call ≡ brief.Read at mode pick)) whole (notes_of log)
shows_read at pick whole log x = record {
  note = x.own.note;
  there = second_note log x.look x.own x.sections;
  call = brief.Read at x.mode pick;
  is_call = (x.mode, refl);
  entry = x.entry;
}

before_read : (at : Key) (reply : Reply) (log : Log) → EndsBeforeRead at reply log → IsServed reply → ⊥
before_read at reply log (inl x) served = at_look at.bucket reply log x served
before_read at reply log (inr (inl x)) served = unserved reply _ x.refuses.told served
before_read at reply log (inr (inr x)) served = unserved reply _ x.barred.told served

shows_get : (set : SetPlan) (at : Key) (pick : Pick) (ask : RangeAsk) (matches : Option (List ℕ)) (now : ℕ) (body : List ℕ) (whole reply : Reply) (log : Log)
    → ReadsKey at pick whole log → TellsRead set ask matches whole reply log → IsServed reply
    → ShowsAct set (call_of.Get at pick ask matches) now body reply (notes_of log)
shows_get set at pick ask matches now body (reply_of.Found version whole id) reply log reads (inl fails) served = absurd (unserved reply _ fails.told served)
shows_get set at pick ask matches now body (reply_of.Found version whole id) reply log reads (inr (met, inl told)) served = elim told.told [
  | inl is ↦ (version, told.span, whole, id, is, shows_read at pick (reply_of.Found version whole id) log reads)
  | inr lost ↦ absurd (unserved reply _ lost.2 served)
]
shows_get set at pick ask matches now body (reply_of.Found version whole id) reply log reads (inr (met, inr invalid)) served =
    absurd (unserved reply _ invalid.told served)
shows_get set at pick ask matches now body (reply_of.Refused why) reply log reads tells served = absurd (unserved reply why tells served)
shows_get set at pick ask matches now body reply_of.Plain reply log reads tells served = absurd tells
shows_get set at pick ask matches now body (reply_of.Buckets rows) reply log reads tells served = absurd tells
shows_get set at pick ask matches now body (reply_of.Mode mode) reply log reads tells served = absurd tells
shows_get set at pick ask matches now body (reply_of.Stored etag id) reply log reads tells served = absurd tells
shows_get set at pick ask matches now body (reply_of.Deleted id marker) reply log reads tells served = absurd tells
shows_get set at pick ask matches now body (reply_of.Page rows cut) reply log reads tells served = absurd tells
shows_get set at pick ask matches now body (reply_of.Versions rows cut) reply log reads tells served = absurd tells
shows_get set at pick ask matches now body (reply_of.Opened id) reply log reads tells served = absurd tells
shows_get set at pick ask matches now body (reply_of.Completed etag id) reply log reads tells served = absurd tells

shows_head : (at : Key) (pick : Pick) (matches : Option (List ℕ)) (whole reply : Reply) (log : Log) → ReadsKey at pick whole log → TellsHead matches whole reply
    → IsServed reply → IsDoneIn (key_slot at) (key_register at) (λ call. (mode : Mode) × (call ≡ brief.Read at mode pick)) reply (notes_of log)
shows_head at pick matches (reply_of.Found version whole id) reply log reads (inl fails) served = absurd (unserved reply _ fails.told served)
shows_head at pick matches (reply_of.Found version whole id) reply log reads (inr told) served =
    subst (λ r. IsDoneIn (key_slot at) (key_register at) (λ call. (mode : Mode) × (call ≡ brief.Read at mode pick)) r (notes_of log)) (sym told.1)
    (shows_read at pick (reply_of.Found version whole id) log reads)
shows_head at pick matches (reply_of.Refused why) reply log reads tells served = absurd (unserved reply why tells served)
shows_head at pick matches reply_of.Plain reply log reads tells served = absurd tells
shows_head at pick matches (reply_of.Buckets rows) reply log reads tells served = absurd tells
shows_head at pick matches (reply_of.Mode mode) reply log reads tells served = absurd tells
shows_head at pick matches (reply_of.Stored etag id) reply log reads tells served = absurd tells
shows_head at pick matches (reply_of.Deleted id marker) reply log reads tells served = absurd tells
shows_head at pick matches (reply_of.Page rows cut) reply log reads tells served = absurd tells
shows_head at pick matches (reply_of.Versions rows cut) reply log reads tells served = absurd tells
shows_head at pick matches (reply_of.Opened id) reply log reads tells served = absurd tells
shows_head at pick matches (reply_of.Completed etag id) reply log reads tells served = absurd tells

later_there : (first : Section) (more : List Section) (x : Section) → Contains more x → Contains (first ∷ more) x
later_there first more x h =
    let lt = h.1 in
    (suc h.0, omega (arith, lt), h.2)

-- what a list of buckets shows of each row
shows_row : (row : BucketRow) (log : Log) → (look : Section) × Contains (sections_of log) look × FindsRow row look
    → IsLookedAtIn (bucket_slot row.name) (bucket_register row.name) (notes_of log)
shows_row row log x = record {
  note = x.0.note;
  there = note_there (sections_of log) x.0 x.1;
  entry = x.2.looks.entry;
}

-- what a page shows of each key
shows_key : (bucket : List ℕ) (candidate : Candidate) (log : Log) (look : Section) (rest : List Section) → sections_of log ≡ look ∷ rest
    → (view : Section) × Contains rest view × ViewsKey bucket candidate view
    → IsLookedAtIn (key_slot (key_in bucket candidate.key)) (key_register (key_in bucket candidate.key)) (notes_of log)
shows_key bucket candidate log look rest is x = record {
  note = x.0.note;
  there = note_there (sections_of log) x.0 (subst (λ sections. Contains sections x.0) (sym is) (later_there look rest x.0 x.1));
  entry = x.2.looks.entry;
}

shows_page : (rule : PageRule) (bucket : List ℕ) (reply : Reply) (log : Log) → PageOwes rule bucket reply log → IsServed reply
    → ShowsPage rule bucket reply (notes_of log)
shows_page rule bucket reply log (inl x) served = absurd (at_look bucket reply log x served)
shows_page rule bucket reply log (inr x) served = elim x.tells [
  | inl listed ↦ (listed.looked, listed.told, λ k d l. shows_key bucket _ log x.look x.rest x.sections (listed.viewed k d l))
  | inr (inl refused) ↦ absurd (unserved reply _ refused.refuses.told served)
  | inr (inr barred) ↦ absurd (unserved reply _ barred.barred.told served)
]

-- what is owed before the reply is told shows the act
shows : (set : SetPlan) (call : Call) (now : ℕ) (reply : Reply) (log : Log) → OwesCall set call now reply log → IsServed reply
    → ShowsAct set call now (body_of log) reply (notes_of log)
shows set call_of.ListBuckets now reply log x served = elim x.1 [
  | inl listed ↦ (listed.0, listed.1, λ k d l. shows_row _ log (listed.2.found k d l))
  | inr (inl refused) ↦ absurd (unserved reply _ refused.refuses.told served)
  | inr (inr barred) ↦ absurd (unserved reply _ barred.barred.told served)
]
shows set (call_of.CreateBucket bucket) now reply log x served = shows_bucket bucket _ reply log x.1 served
shows set (call_of.HeadBucket bucket) now reply log x served = elim x.1 [
  | inl ended ↦ absurd (at_look bucket reply log ended served)
  | inr there ↦ record { note = there.1.look.note; there = one_note log there.1.look there.1.sections; entry = there.1.finds.looks.entry }
]
shows set (call_of.GetVersioning bucket) now reply log x served = elim x.1 [
  | inl ended ↦ absurd (at_look bucket reply log ended served)
  | inr there ↦ record { note = there.1.look.note; there = one_note log there.1.look there.1.sections; entry = there.1.finds.looks.entry }
]
shows set (call_of.PutVersioning bucket long) now reply log x served = elim x.1 [
  | inl set_so ↦ (set_so.mode, shows_bucket bucket _ reply log set_so.owes served)
  | inr malformed ↦ absurd (unserved reply _ malformed.told served)
]
shows set (call_of.Put at kinds stated long) now reply log x served = elim x.1 [
  | inl ended ↦ absurd (at_look at.bucket reply log ended served)
  | inr (inl put) ↦
      let change = shows_change at now (PutsBody set kinds (body_of log) put.id) reply log put.commit served in
      (put.id, change.0, change.1, x.0, change.2)
  | inr (inr (inl barred)) ↦ absurd (unserved reply _ barred.barred.told served)
  | inr (inr (inr (inl begun))) ↦ absurd (unserved reply _ begun.refuses.told served)
  | inr (inr (inr (inr (inl differs)))) ↦ absurd (unserved reply _ differs.told served)
  | inr (inr (inr (inr (inr few)))) ↦ absurd (unserved reply _ few.told served)
]
shows set (call_of.Get at pick ask matches) now reply log x served = elim x.1 [
  | inl ended ↦ absurd (before_read at reply log ended served)
  | inr told ↦ shows_get set at pick ask matches now (body_of log) told.whole reply log told.reads told.tells served
]
shows set (call_of.Head at pick matches) now reply log x served = elim x.1 [
  | inl ended ↦ absurd (before_read at reply log ended served)
  | inr told ↦ shows_head at pick matches told.whole reply log told.reads told.tells served
]
shows set (call_of.Delete at pick) now reply log x served = shows_owed at (act_of.Delete pick) now reply log x.1 served
shows set (call_of.List2 bucket page) now reply log x served = shows_page (keys_rule page) bucket reply log x.1 served
shows set (call_of.ListVersions bucket page) now reply log x served = shows_page (versions_rule page) bucket reply log x.1 served
shows set (call_of.Create at kinds) now reply log (inl x) served = absurd (unserved reply _ x.0 served)
shows set (call_of.Create at kinds) now reply log (inr x) served = shows_owed at (act_of.Create kinds) now reply log x.1 served
shows set (call_of.Part at upload number stated long) now reply log x served = absurd (unserved reply _ x.0 served)
shows set (call_of.Complete at upload long) now reply log x served = absurd (unserved reply _ x.0 served)
shows set (call_of.Abort at upload) now reply log (inl x) served = absurd (unserved reply _ x.0 served)
shows set (call_of.Abort at upload) now reply log (inr x) served = shows_owed at (act_of.Abort (upload_of upload)) now reply log x.1 served

-- what a part of the notes shows all of them show
more_done : (slot : ℕ) (name : List ℕ) (IsCall : Brief → Type 0) (told : Reply) (notes more : List Note)
    → IsDoneIn slot name IsCall told notes → IsDoneIn slot name IsCall told (notes ++ more)
more_done slot name IsCall told notes more x = record {
  note = x.note;
  there = Contains-append_left notes more x.note x.there;
  call = x.call;
  is_call = x.is_call;
  entry = x.entry;
}

more_looked : (slot : ℕ) (name : List ℕ) (notes more : List Note) → IsLookedAtIn slot name notes → IsLookedAtIn slot name (notes ++ more)
more_looked slot name notes more x = record { note = x.note; there = Contains-append_left notes more x.note x.there; entry = x.entry }

more_shows : (set : SetPlan) (call : Call) (now : ℕ) (body : List ℕ) (reply : Reply) (notes more : List Note)
    → ShowsAct set call now body reply notes → ShowsAct set call now body reply (notes ++ more)
more_shows set call_of.ListBuckets now body reply notes more x = (x.0, x.1, λ k d l. more_looked _ _ notes more (x.2 k d l))
more_shows set (call_of.CreateBucket bucket) now body reply notes more x = more_done _ _ _ reply notes more x
more_shows set (call_of.HeadBucket bucket) now body reply notes more x = more_looked _ _ notes more x
more_shows set (call_of.GetVersioning bucket) now body reply notes more x = more_looked _ _ notes more x
more_shows set (call_of.PutVersioning bucket long) now body reply notes more x = (x.0, more_done _ _ _ reply notes more x.1)
more_shows set (call_of.Put at kinds stated long) now body reply notes more x = (x.0, x.1, x.2, x.3, more_done _ _ _ reply notes more x.4)
more_shows set (call_of.Get at pick ask matches) now body reply notes more x = (x.0, x.1, x.2, x.3, x.4, more_done _ _ _ _ notes more x.5)
more_shows set (call_of.Head at pick matches) now body reply notes more x = more_done _ _ _ reply notes more x
more_shows set (call_of.Delete at pick) now body reply notes more x = more_done _ _ _ reply notes more x
more_shows set (call_of.List2 bucket page) now body reply notes more x = (x.0, x.1, λ k d l. more_looked _ _ notes more (x.2 k d l))
more_shows set (call_of.ListVersions bucket page) now body reply notes more x = (x.0, x.1, λ k d l. more_looked _ _ notes more (x.2 k d l))
more_shows set (call_of.Create at kinds) now body reply notes more x = more_done _ _ _ reply notes more x
more_shows set (call_of.Part at upload number stated long) now body reply notes more x = x
more_shows set (call_of.Complete at upload long) now body reply notes more x = x
more_shows set (call_of.Abort at upload) now body reply notes more x = more_done _ _ _ reply notes more x

pub receipt_shows_act : ReceiptShowsAct
receipt_shows_act set task body reply bytes notes x served =
    let owed = x.owes.front.was_owed in
    let joined : notes_of x.log ≡ notes_of owed.before ++ notes_of owed.rest =
    ap notes_of owed.parts ∙ notes_join owed.before (Told (TheHead reply) None ∷ owed.rest) in
    let taken : body_of x.log ≡ body_of owed.before =
    ap body_of owed.parts ∙ (bodies_join owed.before (Told (TheHead reply) None ∷ owed.rest)
    ∙ (ap (λ rest. body_of owed.before ++ rest) owed.over ∙ append-nil (body_of owed.before))) in
    let first = more_shows set task.call task.now (body_of owed.before) reply (notes_of owed.before) (notes_of owed.rest)
    (shows set task.call task.now reply owed.before owed.owed served) in
    subst (λ l. ShowsAct set task.call task.now body reply l) (sym (x.notes_are ∙ joined))
    (subst (λ b. ShowsAct set task.call task.now b reply (notes_of owed.before ++ notes_of owed.rest)) (sym (x.body_is ∙ taken)) first)

pub notes_are_owed : NotesAreOwed
notes_are_owed set task body reply bytes notes x =
    let owed = x.owes.front.was_owed in
    let none : notes_of owed.rest ≡ [] = ap (map (λ (section : Section). section.note)) owed.still in
    let joined : notes_of x.log ≡ notes_of owed.before =
    ap notes_of owed.parts ∙ (notes_join owed.before (Told (TheHead reply) None ∷ owed.rest)
    ∙ (ap (λ rest. notes_of owed.before ++ rest) none ∙ append-nil (notes_of owed.before))) in
    (owed.before, owed.owed, x.notes_are ∙ joined)
