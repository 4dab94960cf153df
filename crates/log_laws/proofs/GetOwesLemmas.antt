-- A GetObject is told letters of data drives only where its read says so.
use Rattle.std.proofs.Common.{◌≡◌, ◌⊎◌, ◌∙◌, ◌+◌, ℕ, List, [], ◌∷◌, ◌++◌, Option, None, Ok, Err, Result, ap, ap₂, append-nil, inl, inr, length, subst, subst₂, sym}
use Rattle.audit_trail.specs.declared.entry.Deed.TheVariants.{Done}
use Rattle.call_types.specs.Refusals.{refusal_of}
use Rattle.call_types.specs.declared.act.Brief.TheVariants.{Answer, Read}
use Rattle.call_types.specs.declared.names.Key.{Key}
use Rattle.call_types.specs.declared.names.Mode.{Mode}
use Rattle.call_types.specs.declared.names.Pick.{Pick}
use Rattle.call_types.specs.declared.names.RangeAsk.{RangeAsk}
use Rattle.call_types.specs.declared.names.Span.{Span}
use Rattle.call_types.specs.declared.names.VersionName.{VersionName}
use Rattle.call_types.specs.declared.refusal.KeyRefusal.{KeyRefusal}
use Rattle.call_types.specs.declared.refusal.Refusal.{Refusal}
use Rattle.call_types.specs.declared.refusal.Refusal.TheVariants.{InvalidRange, PreconditionFailed, ShardQuorum}
use Rattle.call_types.specs.declared.reply.Reply.{Reply}
use Rattle.call_types.specs.declared.reply.Reply.TheVariants.{Buckets, Completed, Deleted, Found, Mode as TheMode, Opened, Page, Plain, Refused, Stored, Versions}
use Rattle.call_types.specs.declared.version.Version.{Version}
use Rattle.call_types.specs.declared.why.Why.{Why}
use Rattle.desk_base.specs.Answering.{Task}
use Rattle.desk_base.specs.Telling.{Effect, Telling}
use Rattle.desk_base.specs.Telling.Telling.{Head as TheHead}
use Rattle.desk_base.specs.declared.call.Call.{Call}
use Rattle.desk_base.specs.declared.call.Call.TheVariants.{Get}
use Rattle.drive_base.specs.declared.drive.Drive.{Ghosts}
use Rattle.drive_base.specs.declared.plan.SetPlan.{SetPlan}
use Rattle.span_plan.specs.Span.{Plans}
use Rattle.receipts.specs.Dues.{RepliesRead}
use Rattle.receipts.specs.Events.{Log, Section, sections_of}
use Rattle.receipts.specs.Events.Event.{Told}
use Rattle.receipts.specs.Letters.{CannotRead, Wanted}
use Rattle.receipts.specs.Looks.{FindsBucket, HasEntry, IsOfSection, TellsRefusal}
use Rattle.receipts.specs.Owes.{OwesCall, OwesReply}
use Rattle.receipts.specs.Registers.{key_register, key_slot}
use Rattle.receipts.specs.Paying.{BodyIsCut}
use Rattle.receipts.specs.Reading.{BodyIsLost, EndsBeforeRead, GetOwes, ReadsKey, TellsRead}
use Rattle.receipts.specs.Spans.{body_length}
use Rattle.log_laws.specs.Getting.{GetsGoOn, GetsLackNothing}
use Rattle.log_laws.specs.Reads.{EnoughServeReads, ReadsData, ShowsAnother}
use Rattle.log_laws.specs.Requests.{LogComplete}
use Rattle.op_steps.specs.Steps.{Ran}
use Rattle.op_steps.specs.Store.{Store}
use Rattle.log_laws.proofs.GetLemmas.{reads_found, sections_join}
use Rattle.call_types.specs.declared.refusal.KeyRefusal.TheVariants as key

abbrev letters : List Why → Reply
letters whys = Refused (ShardQuorum whys)

-- what a refusal is
abbrev told_refusal : Refusal → Reply
told_refusal why = Refused why

same_refusal : (a b : Refusal) → told_refusal a ≡ told_refusal b → a ≡ b
same_refusal a b e = cc

same_whys : (a b : List Why) → ShardQuorum a ≡ ShardQuorum b → a ≡ b
same_whys a b e = cc

same_letters : (a b : List Why) → letters a ≡ letters b → a ≡ b
same_letters a b e = same_whys a b (same_refusal (ShardQuorum a) (ShardQuorum b) e)

-- letters are no invalid range
no_range : (whys : List Why) (long : ℕ) → ShardQuorum whys ≡ InvalidRange long → ⊥
no_range whys long e = absurd cc

-- nor a condition that fails
no_condition : (whys : List Why) → ShardQuorum whys ≡ PreconditionFailed → ⊥
no_condition whys e = absurd cc

-- a section isn't refused so
not_of_section : (whys : List Why) (why : Refusal) → IsOfSection why → ShardQuorum whys ≡ why → ⊥
not_of_section whys why is same = subst IsOfSection (sym same) is

tells_none : (slot : ℕ) (note : _) (whys : List Why) → TellsRefusal slot note (letters whys) → ⊥
tells_none slot note whys x = not_of_section whys x.why x.of_section (same_refusal (ShardQuorum whys) x.why x.told)

-- nor a call before its read
ends_before : (at : Key) (whys : List Why) (log : Log) → EndsBeforeRead at (letters whys) log → ⊥
ends_before at whys log (inl (inl lacking)) = (let told = lacking.told in absurd cc)
ends_before at whys log (inl (inr (inl look))) = tells_none _ look.look.note whys look.refuses
ends_before at whys log (inl (inr (inr barred))) = (let told = barred.barred.told in absurd cc)
ends_before at whys log (inr (inl read)) = tells_none _ read.own.note whys read.refuses
ends_before at whys log (inr (inr barred)) = (let told = barred.barred.told in absurd cc)

-- nor by the state of a key
key_refuses : (whys : List Why) (why : KeyRefusal) → ShardQuorum whys ≡ refusal_of why → ⊥
key_refuses whys (key.NoSuchKey marker) e = absurd cc
key_refuses whys key.NoSuchVersion e = absurd cc
key_refuses whys (key.MarkerNamed id modified) e = absurd cc
key_refuses whys key.VersionLimit e = absurd cc
key_refuses whys key.NoSuchUpload e = absurd cc
key_refuses whys key.InvalidPart e = absurd cc
key_refuses whys key.PartOrder e = absurd cc
key_refuses whys key.PartSmall e = absurd cc
key_refuses whys key.UploadLimit e = absurd cc

-- what is known of a read that can't go on
record CannotGoOn (set : SetPlan) (whys : List Why) (log : Log) : Type 0 where
  wanted : Wanted
  next : ℕ
  reads : ReadsData wanted log
  cause : CannotRead set wanted next whys log

module _ (set : SetPlan) (at : Key) (pick : Pick) (ask : RangeAsk) (matches : Option (List ℕ)) (log : Log) where
  -- one that is refused so read its key
  refused_read : (whys : List Why) (whole : Reply) → ReadsKey at pick whole log → TellsRead set ask matches whole (letters whys) log
      → CannotGoOn set whys log
  refused_read whys (Found version whole id) reads (inl fails) =
      absurd (no_condition whys (same_refusal (ShardQuorum whys) PreconditionFailed fails.told))
  refused_read whys (Found version whole id) reads (inr (met, inl span)) = by span.told
    where
      by : (letters whys ≡ Found version span.span id)
          ⊎ ((others : List Why) × BodyIsLost set version span.span span.span.at others log × (letters whys ≡ Refused (ShardQuorum others))) → CannotGoOn set whys log
      by (inl found) = absurd cc
      by (inr (others, lost, same)) = record {
        wanted = lost.wanted;
        next = span.span.at;
        reads = reads_found log reads.look reads.own at reads.mode pick version whole id ask span.span lost.wanted reads.sections reads.bucket reads.entry lost.is_wanted span.plans;
        cause = subst (λ (w : List Why). CannotRead set lost.wanted span.span.at w log) (sym (same_letters whys others same)) lost.cause;
      }
  refused_read whys (Found version whole id) reads (inr (met, inr invalid)) =
      absurd (no_range whys invalid.invalid.0 (same_refusal (ShardQuorum whys) (InvalidRange invalid.invalid.0) invalid.told))
  refused_read whys (Refused why) reads told =
      absurd (by reads.due.answer reads.due.replies)
    where
      by : (answer : Result ℕ KeyRefusal) → RepliesRead reads.mode reads.due.versions answer (Refused why) → ⊥
      by (Ok place) (v, there, is) = absurd cc
      by (Err other) is = key_refuses whys other (same_refusal (ShardQuorum whys) (refusal_of other) (told ∙ is))
  refused_read whys Plain reads told = absurd told
  refused_read whys (Buckets rows) reads told = absurd told
  refused_read whys (TheMode mode) reads told = absurd told
  refused_read whys (Stored etag id) reads told = absurd told
  refused_read whys (Deleted id marker) reads told = absurd told
  refused_read whys (Page rows cut) reads told = absurd told
  refused_read whys (Versions rows cut) reads told = absurd told
  refused_read whys (Opened id) reads told = absurd told
  refused_read whys (Completed etag id) reads told = absurd told

  refused_get : (whys : List Why) → GetOwes set at pick ask matches (letters whys) log → CannotGoOn set whys log
  refused_get whys (inl ends) = absurd (ends_before at whys log ends)
  refused_get whys (inr told) = refused_read whys told.whole told.reads told.tells

  -- what the sections of one say that found a version
  record FoundBy (version : Version) (span : Span) : Type 0 where
    look : Section
    own : Section
    sections : sections_of log ≡ look ∷ own ∷ []
    mode : Mode
    bucket : FindsBucket at.bucket mode look
    whole : Span
    id : Option VersionName
    entry : HasEntry (key_slot at) (key_register at) (Done (Read at mode pick) (Answer (Found version whole id))) own.note
    plans : Plans (body_length version.what) ask (Ok span)

  found_read : (version : Version) (span : Span) (id : Option VersionName) (whole : Reply) → ReadsKey at pick whole log
      → TellsRead set ask matches whole (Found version span id) log → FoundBy version span
  found_read version span id (Found other full given) reads (inl fails) = (let told = fails.told in absurd cc)
  found_read version span id (Found other full given) reads (inr (met, inl x)) = by x.told
    where
      by : (Found version span id ≡ Found other x.span given)
          ⊎ ((whys : List Why) × BodyIsLost set other x.span x.span.at whys log × (Found version span id ≡ Refused (ShardQuorum whys))) → FoundBy version span
      by (inl same) =
          let one : version ≡ other = cc in
          let two : span ≡ x.span = cc in
          record {
            look = reads.look;
            own = reads.own;
            sections = reads.sections;
            mode = reads.mode;
            bucket = reads.bucket;
            whole = full;
            id = given;
            entry = subst (λ (v : Version). HasEntry (key_slot at) (key_register at) (Done (Read at reads.mode pick) (Answer (Found v full given))) reads.own.note)
                (sym one) reads.entry;
            plans = subst₂ (λ (v : Version) (s : Span). Plans (body_length v.what) ask (Ok s)) (sym one) (sym two) x.plans;
          }
      by (inr (whys, lost, same)) = absurd cc
  found_read version span id (Found other full given) reads (inr (met, inr invalid)) = (let told = invalid.told in absurd cc)
  found_read version span id (Refused why) reads told = absurd cc
  found_read version span id Plain reads told = absurd told
  found_read version span id (Buckets rows) reads told = absurd told
  found_read version span id (TheMode mode) reads told = absurd told
  found_read version span id (Stored etag other) reads told = absurd told
  found_read version span id (Deleted other marker) reads told = absurd told
  found_read version span id (Page rows cut) reads told = absurd told
  found_read version span id (Versions rows cut) reads told = absurd told
  found_read version span id (Opened other) reads told = absurd told
  found_read version span id (Completed etag other) reads told = absurd told

  found_get : (version : Version) (span : Span) (id : Option VersionName) → GetOwes set at pick ask matches (Found version span id) log → FoundBy version span
  found_get version span id (inl (inl (inl lacking))) = (let told = lacking.told in absurd cc)
  found_get version span id (inl (inl (inr (inl look)))) = (let told = look.refuses.told in absurd cc)
  found_get version span id (inl (inl (inr (inr barred)))) = (let told = barred.barred.told in absurd cc)
  found_get version span id (inl (inr (inl read))) = (let told = read.refuses.told in absurd cc)
  found_get version span id (inl (inr (inr barred))) = (let told = barred.barred.told in absurd cc)
  found_get version span id (inr told) = found_read version span id told.whole told.reads told.tells

-- the reply that was owed to a GetObject
owed_get : (set : SetPlan) (task : Task) (at : Key) (pick : Pick) (ask : RangeAsk) (matches : Option (List ℕ)) (reply : Reply) (log : Log) → task.call ≡ Get at pick ask matches
    → OwesReply set task reply log → GetOwes set at pick ask matches reply log
owed_get set task at pick ask matches reply log is owes = (subst (λ (c : Call). OwesCall set c task.now reply log) is owes).1

-- a cut one's log has no more sections
cut_read : (set : SetPlan) (task : Task) (at : Key) (pick : Pick) (ask : RangeAsk) (matches : Option (List ℕ)) (whys : List Why) (tale : List Telling) (log : Log) → task.call ≡ Get at pick ask matches
    → BodyIsCut set task whys tale log → CannotGoOn set whys log
cut_read set task at pick ask matches whys tale log is x =
    let owed = x.front.was_owed in
    let found = found_get set at pick ask matches owed.before x.version x.span x.id (owed_get set task at pick ask matches (Found x.version x.span x.id) owed.before is owed.owed) in
    let sections : sections_of log ≡ found.look ∷ found.own ∷ [] =
    ap sections_of owed.parts ∙ (sections_join owed.before (Told (TheHead (Found x.version x.span x.id)) None ∷ owed.rest)
    ∙ (ap₂ (λ (a b : List Section). a ++ b) found.sections owed.still ∙ append-nil (found.look ∷ found.own ∷ []))) in
    record {
      wanted = x.wanted;
      next = x.span.at + length x.bytes;
      reads = reads_found log found.look found.own at found.mode pick x.version found.whole found.id ask x.span x.wanted sections found.bucket found.entry x.is_wanted found.plans;
      cause = inr x.few;
    }

module _ {D T : Type 0} (ghosts : Ghosts D) (takes breaks : Effect T) where
  -- a front of a log in which a read can't go on
  goes_on : (set : SetPlan) (disks : ℕ) (whys : List Why) (front more log : Log) (old new : Store D T) (ran : Ran ghosts takes breaks set log old new)
      → LogComplete ghosts takes breaks set log old new ran → EnoughServeReads ghosts takes breaks set disks log old new ran → log ≡ front ++ more
      → CannotGoOn set whys front → (wanted : Wanted) × ShowsAnother ghosts takes breaks set disks wanted log old new
  goes_on set disks whys front more log old new ran complete serve is x =
      let on = complete.reads disks x.wanted front more (serve x.wanted front more is x.reads) is x.reads in
      elim x.cause [
        | inl none ↦ absurd (on.manifests whys none)
        | inr few ↦ (x.wanted, on.blocks x.next whys few)
      ]

  pub gets_go_on : GetsGoOn ghosts takes breaks
  gets_go_on set task at pick ask matches disks whys log old new ran complete is serve (inl owed) =
      goes_on set disks whys owed.before (Told (TheHead (letters whys)) None ∷ owed.rest) log old new ran complete serve owed.parts
      (refused_get set at pick ask matches owed.before whys (owed_get set task at pick ask matches (letters whys) owed.before is owed.owed))
  gets_go_on set task at pick ask matches disks whys log old new ran complete is serve (inr (tale, cut)) =
      goes_on set disks whys log [] log old new ran complete serve (sym (append-nil log)) (cut_read set task at pick ask matches whys tale log is cut)

  pub gets_lack_nothing : GetsLackNothing ghosts takes breaks
  gets_lack_nothing set task at pick ask matches disks whys log old new ran complete is serve all told =
      let x = gets_go_on set task at pick ask matches disks whys log old new ran complete is serve told in
      x.1.is_other (all x.1.drive x.1.within)
