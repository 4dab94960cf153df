-- The laws of what calls owe.
use Rattle.std.specs.Prelude.{◌≡◌, ℕ, ◌<◌, List, ◌∷◌, ◌++◌, All, Contains, length, map, Option, Some, None}
use Rattle.std.specs.List.{concat}
use Rattle.audit_trail.specs.declared.entry.Deed.TheVariants.{Done, Kept}
use Rattle.call_types.specs.declared.act.Act.{Act}
use Rattle.call_types.specs.declared.act.Act.TheVariants as act
use Rattle.call_types.specs.declared.act.Brief.{Brief}
use Rattle.call_types.specs.declared.act.Brief.TheVariants as brief
use Rattle.call_types.specs.declared.feed.Cut.{Cut}
use Rattle.call_types.specs.declared.feed.Cut.TheVariants.{BodyCut, NoMemory, ReadFault, ShardCut, WriteFault}
use Rattle.call_types.specs.declared.names.Mode.{Mode}
use Rattle.call_types.specs.declared.names.Span.{Span}
use Rattle.call_types.specs.declared.names.VersionName.{VersionName}
use Rattle.call_types.specs.declared.reply.BucketRow.{BucketRow}
use Rattle.call_types.specs.declared.reply.Reply.{Reply}
use Rattle.call_types.specs.declared.reply.Reply.TheVariants.{Buckets, Found}
use Rattle.call_types.specs.declared.version.Version.{Version}
use Rattle.desk_base.specs.Answering.{Task, TellsPart, bytes_after}
use Rattle.desk_base.specs.Telling.{Telling}
use Rattle.desk_base.specs.Telling.Telling.{Head as TheHead, Piece}
use Rattle.desk_base.specs.declared.call.Call.{Call}
use Rattle.desk_base.specs.declared.call.Call.TheVariants.{ListBuckets, CreateBucket, HeadBucket, GetVersioning, PutVersioning, Put, Get, Head, Delete, List2, ListVersions, Create, Part, Complete, Abort}
use Rattle.drive_base.specs.declared.plan.SetPlan.{SetPlan}
use Rattle.stamp_id.specs.declared.stamp.ChangeId.{ChangeId}
use Rattle.version_list.specs.Answers.{IsServed}
use Rattle.receipts.specs.Events.{IsQuiet, Log, Note, body_of, calls_at, cuts_of, notes_of, sections_of, tale_of, tried_of}
use Rattle.receipts.specs.Listing.{key_in}
use Rattle.receipts.specs.Looks.{HasEntry}
use Rattle.receipts.specs.Owes.{OwesReply}
use Rattle.receipts.specs.Pages.{Candidate, PageRule, keys_rule, page_of, rows_of, versions_rule}
use Rattle.receipts.specs.Paying.{ChangesNothing, EndsAs, Outcome, Pays, Receipt, TellsOutcome}
use Rattle.receipts.specs.Paying.Outcome.{Replied}
use Rattle.receipts.specs.Putting.{PutsBody}
use Rattle.receipts.specs.Registers.{bucket_register, bucket_slot, key_register, key_slot}
use Rattle.receipts.specs.Uploads.{upload_of}
use Rattle.stamp_id.specs.declared.version.VersionId.{VersionId}

-- each reading of two logs in a row is that of the first and then that of the second
abbrev pub SectionsJoin : Type 0
SectionsJoin = (log more : Log) → sections_of (log ++ more) ≡ sections_of log ++ sections_of more

abbrev pub NotesJoin : Type 0
NotesJoin = (log more : Log) → notes_of (log ++ more) ≡ notes_of log ++ notes_of more

abbrev pub BodiesJoin : Type 0
BodiesJoin = (log more : Log) → body_of (log ++ more) ≡ body_of log ++ body_of more

abbrev pub TalesJoin : Type 0
TalesJoin = (log more : Log) → tale_of (log ++ more) ≡ tale_of log ++ tale_of more

abbrev pub CutsJoin : Type 0
CutsJoin = (log more : Log) → cuts_of (log ++ more) ≡ cuts_of log ++ cuts_of more

abbrev pub CallsJoin : Type 0
CallsJoin = (k : ℕ) (log more : Log) → calls_at k (log ++ more) ≡ calls_at k log ++ calls_at k more

-- quiet events leave the notes
abbrev pub QuietKeepsNotes : Type 0
QuietKeepsNotes = (log more : Log) → All IsQuiet more → notes_of (log ++ more) ≡ notes_of log

-- the reply that is owed stays owed
abbrev pub QuietKeepsReply : Type 0
QuietKeepsReply = (set : SetPlan) (task : Task) (reply : Reply) (log more : Log) → All IsQuiet more → OwesReply set task reply log
    → OwesReply set task reply (log ++ more)

-- what is paid stays paid
abbrev pub QuietKeepsPay : Type 0
QuietKeepsPay = (set : SetPlan) (task : Task) (cut : Option Cut) (log more : Log) → All IsQuiet more → Pays set task cut log → Pays set task cut (log ++ more)

-- one log has one outcome
abbrev pub OutcomesAreOne : Type 0
OutcomesAreOne = (cut : Option Cut) (log : Log) (a b : Outcome) → EndsAs cut a → EndsAs cut b → TellsOutcome a log → TellsOutcome b log → a ≡ b

-- what is told as a desk must, the telling that broke included, by what cuts the call
abbrev pub TellsAs : Call → Option Cut → List Telling → Type 0
TellsAs call None tale = (reply : Reply) × (pieces : List (List ℕ)) × (length (concat pieces) ≡ bytes_after reply call)
    × (tale ≡ TheHead reply ∷ map Piece pieces)
TellsAs call (Some ReadFault) tale = TellsPart call tale
TellsAs call (Some (BodyCut read stated)) tale = TellsPart call tale
TellsAs call (Some WriteFault) tale = TellsPart call tale
TellsAs call (Some (ShardCut whys)) tale = (reply : Reply) × (pieces : List (List ℕ)) × (length (concat pieces) < bytes_after reply call)
    × (tale ≡ TheHead reply ∷ map Piece pieces)
TellsAs call (Some NoMemory) tale = TellsPart call tale

abbrev pub PayIsTold : Type 0
PayIsTold = (set : SetPlan) (task : Task) (cut : Option Cut) (log : Log) → Pays set task cut log → TellsAs task.call cut (tried_of log)

-- one of the notes is of a section that did such a call at a register, and was replied so
pub record IsDoneIn (slot : ℕ) (name : List ℕ) (IsCall : Brief → Type 0) (told : Reply) (notes : List Note) : Type 0 where
  pub note : Note
  pub there : Contains notes note
  pub call : Brief
  pub is_call : IsCall call
  pub entry : HasEntry slot name (Done call (brief.Answer told)) note

-- or of one that looked at it
pub record IsLookedAtIn (slot : ℕ) (name : List ℕ) (notes : List Note) : Type 0 where
  pub note : Note
  pub there : Contains notes note
  pub entry : HasEntry slot name Kept note

-- a page has the rows of keys that sections looked at
abbrev pub ShowsPage : PageRule → List ℕ → Reply → List Note → Type 0
ShowsPage rule bucket reply notes = (looked : List Candidate) × (reply ≡ page_of rule (rows_of rule looked))
    × All (λ candidate. IsLookedAtIn (key_slot (key_in bucket candidate.key)) (key_register (key_in bucket candidate.key)) notes) looked

-- the sections of a call that is served did it, and were replied what is told of it: for a read, of the whole body
abbrev pub ShowsAct : SetPlan → Call → ℕ → List ℕ → Reply → List Note → Type 0
ShowsAct set ListBuckets now body reply notes = (rows : List BucketRow) × (reply ≡ Buckets rows) × All (λ row. IsLookedAtIn (bucket_slot row.name) (bucket_register row.name) notes) rows
ShowsAct set (CreateBucket bucket) now body reply notes =
    IsDoneIn (bucket_slot bucket) (bucket_register bucket) (λ call. (change : Option ChangeId) × (call ≡ brief.MakeBucket bucket change now)) reply notes
ShowsAct set (HeadBucket bucket) now body reply notes = IsLookedAtIn (bucket_slot bucket) (bucket_register bucket) notes
ShowsAct set (GetVersioning bucket) now body reply notes = IsLookedAtIn (bucket_slot bucket) (bucket_register bucket) notes
ShowsAct set (PutVersioning bucket long) now body reply notes = (mode : Mode)
    × IsDoneIn (bucket_slot bucket) (bucket_register bucket) (λ call. (change : Option ChangeId) × (call ≡ brief.SetMode bucket mode change now)) reply notes
ShowsAct set (Put at kind md5 long) now body reply notes = (id : VersionId) × (done : Act) × PutsBody set kind body id done × (length body ≡ long)
    × IsDoneIn (key_slot at) (key_register at) (λ call. (mode : Mode) × (change : Option ChangeId) × (call ≡ brief.Change at mode done change now)) reply notes
ShowsAct set (Get at pick ask matches) now body reply notes = (version : Version) × (span whole : Span) × (id : Option VersionName) × (reply ≡ Found version span id)
    × IsDoneIn (key_slot at) (key_register at) (λ call. (mode : Mode) × (call ≡ brief.Read at mode pick)) (Found version whole id) notes
ShowsAct set (Head at pick matches) now body reply notes =
    IsDoneIn (key_slot at) (key_register at) (λ call. (mode : Mode) × (call ≡ brief.Read at mode pick)) reply notes
ShowsAct set (Delete at pick) now body reply notes = IsDoneIn (key_slot at) (key_register at)
    (λ call. (mode : Mode) × (change : Option ChangeId) × (call ≡ brief.Change at mode (act.Delete pick) change now)) reply notes
ShowsAct set (List2 bucket page) now body reply notes = ShowsPage (keys_rule page) bucket reply notes
ShowsAct set (ListVersions bucket page) now body reply notes = ShowsPage (versions_rule page) bucket reply notes
ShowsAct set (Create at kind) now body reply notes = IsDoneIn (key_slot at) (key_register at)
    (λ call. (mode : Mode) × (change : Option ChangeId) × (call ≡ brief.Change at mode (act.Create kind) change now)) reply notes
ShowsAct set (Part at upload number md5 long) now body reply notes = ⊥
ShowsAct set (Complete at upload long) now body reply notes = ⊥
ShowsAct set (Abort at upload) now body reply notes = IsDoneIn (key_slot at) (key_register at)
    (λ call. (mode : Mode) × (change : Option ChangeId) × (call ≡ brief.Change at mode (act.Abort (upload_of upload)) change now)) reply notes

-- the act of a receipt is the call's, where the reply isn't a refusal
abbrev pub ReceiptShowsAct : Type 0
ReceiptShowsAct = (set : SetPlan) (task : Task) (body : List ℕ) (reply : Reply) (bytes : List ℕ) (notes : List Note)
    → Receipt set task body (Replied reply bytes) notes → IsServed reply → ShowsAct set task.call task.now body reply notes

-- a call is cut by its feed
abbrev pub IsOfFeed : Cut → Type 0
IsOfFeed ReadFault = Unit {0}
IsOfFeed (BodyCut read stated) = Unit {0}
IsOfFeed WriteFault = ⊥
IsOfFeed (ShardCut whys) = ⊥
IsOfFeed NoMemory = ⊥

-- a call that is cut by its feed changed nothing
abbrev pub CutBodyChangesNothing : Type 0
CutBodyChangesNothing = (set : SetPlan) (task : Task) (cut : Cut) (log : Log) → IsOfFeed cut → Pays set task (Some cut) log → All ChangesNothing (sections_of log)

-- the notes of a receipt whose reply was told whole are those by which the reply was owed
abbrev pub NotesAreOwed : Type 0
NotesAreOwed = (set : SetPlan) (task : Task) (body : List ℕ) (reply : Reply) (bytes : List ℕ) (notes : List Note)
    → Receipt set task body (Replied reply bytes) notes → (front : Log) × OwesReply set task reply front × (notes ≡ notes_of front)
