-- How a call ends, what is owed then, and the receipt of it.
use Rattle.std.specs.Prelude.{◌≡◌, ◌⊎◌, ℕ, ◌+◌, ◌<◌, ◌≤◌, List, [], ◌∷◌, ◌++◌, All, length, map, Option, Some, None, MatchOption}
use Rattle.std.specs.List.{concat}
use Rattle.audit_trail.specs.declared.entry.Deed.{Deed}
use Rattle.audit_trail.specs.declared.entry.Deed.TheVariants.{Done, Kept}
use Rattle.call_types.specs.declared.act.Brief.TheVariants.{Gather, Read}
use Rattle.call_types.specs.declared.feed.Cut.{Cut}
use Rattle.call_types.specs.declared.feed.Cut.TheVariants.{BodyCut, NoMemory, ReadFault, ShardCut, WriteFault}
use Rattle.call_types.specs.declared.names.Span.{Span}
use Rattle.call_types.specs.declared.names.VersionName.{VersionName}
use Rattle.call_types.specs.declared.reply.Reply.{Reply}
use Rattle.call_types.specs.declared.reply.Reply.TheVariants.{Found}
use Rattle.call_types.specs.declared.version.Version.{Version}
use Rattle.call_types.specs.declared.why.Why.{Why}
use Rattle.desk_base.specs.Answering.{Task, bytes_after}
use Rattle.desk_base.specs.Calls.{stated_length}
use Rattle.desk_base.specs.Telling.{Telling}
use Rattle.desk_base.specs.Telling.Telling.{Head as TheHead, Piece}
use Rattle.drive_base.specs.declared.plan.SetPlan.{SetPlan}
use Rattle.receipts.specs.Events.{IsUntold, Log, Note, Section, body_of, cuts_of, notes_of, sections_of, tale_of}
use Rattle.receipts.specs.Events.Event.{Told}
use Rattle.receipts.specs.Owes.{OwesReply}
use Rattle.receipts.specs.Letters.{FewBlocks, Wanted}
use Rattle.receipts.specs.Reading.{IsWanted}
use Rattle.receipts.specs.Spans.{GivesBytes}

-- how a call ends: with a whole reply and the bytes behind its head, or cut, with what was told by then
pub data Outcome : Type 0 where
  Replied : Reply → List ℕ → Outcome
  CutOff : Cut → List Telling → Outcome

-- the head of a reply was told, and then these bytes
abbrev pub IsTaleOf : Reply → List ℕ → List Telling → Type 0
IsTaleOf reply bytes tale = (pieces : List (List ℕ)) × (tale ≡ TheHead reply ∷ map Piece pieces) × (concat pieces ≡ bytes)

-- what was told is the outcome's
abbrev pub TellsOutcome : Outcome → Log → Type 0
TellsOutcome (Replied reply bytes) log = IsTaleOf reply bytes (tale_of log)
TellsOutcome (CutOff why tale) log = tale ≡ tale_of log

-- a call that is cut ends cut for that, and one that isn't has its reply
abbrev pub EndsAs : Option Cut → Outcome → Type 0
EndsAs cut (Replied reply bytes) = cut ≡ None
EndsAs cut (CutOff why tale) = cut ≡ Some why

-- what an entry says left all as it was: nothing was done, or something was read
abbrev pub LeavesAll : Deed → Type 0
LeavesAll Kept = Unit {0}
LeavesAll (Done (Read at mode pick) reply) = Unit {0}
LeavesAll (Done (Gather at upload parts) reply) = Unit {0}
LeavesAll other = ⊥

-- a section changed nothing: it wrote no entry, or one of such a deed
abbrev pub ChangesNothing : Section → Type 0
ChangesNothing section = MatchOption section.note.entry (Unit {0}) (λ entry. LeavesAll entry.deed)

-- the sections of a log changed nothing, or all of them were done when a reply was owed
abbrev pub DidNoMore : SetPlan → Task → Log → Type 0
DidNoMore set task log = All ChangesNothing (sections_of log)
    ⊎ ((reply : Reply) × (front : Log) × (rest : Log) × (log ≡ front ++ rest) × OwesReply set task reply front × (sections_of rest ≡ []))

-- the reply was owed when its head was told. Before it nothing was told, and after it nothing is taken of the body and no section has a note
pub record WasOwed (set : SetPlan) (task : Task) (reply : Reply) (log : Log) : Type 0 where
  pub before : Log
  pub rest : Log
  pub parts : log ≡ before ++ Told (TheHead reply) None ∷ rest
  pub first : All IsUntold before
  pub owed : OwesReply set task reply before
  pub over : body_of rest ≡ []
  pub still : sections_of rest ≡ []

-- the head of a reply that was owed was told, and behind it the first bytes of its body
pub record TellsFront (set : SetPlan) (task : Task) (reply : Reply) (bytes : List ℕ) (log : Log) : Type 0 where
  pub was_owed : WasOwed set task reply log
  pub given : GivesBytes set task.call reply bytes log

-- a reply was told whole, and nothing failed
pub record OwesWhole (set : SetPlan) (task : Task) (reply : Reply) (bytes : List ℕ) (log : Log) : Type 0 where
  pub front : TellsFront set task reply bytes log
  pub whole : length bytes ≡ bytes_after reply task.call
  pub uncut : cuts_of log ≡ []

-- nothing was told, and nothing was done that no reply tells; or a front of a reply was told
abbrev pub OwesPart : SetPlan → Task → List Telling → Log → Type 0
OwesPart set task tale log = ((tale ≡ []) × DidNoMore set task log) ⊎ ((reply : Reply) × (bytes : List ℕ) × IsTaleOf reply bytes tale
    × (length bytes ≤ bytes_after reply task.call) × TellsFront set task reply bytes log)

-- the sink failed in the midst of the head of a reply that was owed. Before it nothing was told, and after it nothing is told, nothing is taken of the body
-- and no section has a note
pub record HeadBroke (set : SetPlan) (task : Task) (reply : Reply) (log : Log) : Type 0 where
  pub before : Log
  pub rest : Log
  pub parts : log ≡ before ++ Told (TheHead reply) (Some WriteFault) ∷ rest
  pub first : All IsUntold before
  pub last : All IsUntold rest
  pub owed : OwesReply set task reply before
  pub no_bytes : body_of rest ≡ []
  pub no_sections : sections_of rest ≡ []

-- or in the midst of the next bytes of its body, and after them nothing is told
pub record PieceBroke (set : SetPlan) (task : Task) (tale : List Telling) (log : Log) : Type 0 where
  pub before : Log
  pub piece : List ℕ
  pub rest : Log
  pub parts : log ≡ before ++ Told (Piece piece) (Some WriteFault) ∷ rest
  pub last : All IsUntold rest
  pub reply : Reply
  pub bytes : List ℕ
  pub tale_is : IsTaleOf reply bytes tale
  pub few : length (bytes ++ piece) ≤ bytes_after reply task.call
  pub front : TellsFront set task reply (bytes ++ piece) log

-- a telling broke, and with what was told before it is the front of an owed reply
abbrev pub TellingBroke : SetPlan → Task → List Telling → Log → Type 0
TellingBroke set task tale log = ((tale ≡ []) × (reply : Reply) × HeadBroke set task reply log) ⊎ PieceBroke set task tale log

-- the body of a version was cut after some of its bytes: too few drives gave a block of the next one, by these letters
pub record BodyIsCut (set : SetPlan) (task : Task) (whys : List Why) (tale : List Telling) (log : Log) : Type 0 where
  pub version : Version
  pub span : Span
  pub id : Option VersionName
  pub bytes : List ℕ
  pub tale_is : IsTaleOf (Found version span id) bytes tale
  pub some : 0 < length bytes
  pub less : length bytes < bytes_after (Found version span id) task.call
  pub front : TellsFront set task (Found version span id) bytes log
  pub wanted : Wanted
  pub is_wanted : IsWanted version.what span wanted
  pub few : FewBlocks set wanted (span.at + length bytes) whys log
  pub uncut : cuts_of log ≡ []

-- what is owed of a call that is cut: the failure of feed or teller that cut it, or the letters of the drives; what was told is the front of an owed reply,
-- and nothing was done that no reply tells
abbrev pub OwesCut : SetPlan → Task → Cut → List Telling → Log → Type 0
OwesCut set task ReadFault tale log = (tale ≡ []) × (cuts_of log ≡ ReadFault ∷ []) × All ChangesNothing (sections_of log)
OwesCut set task (BodyCut read stated) tale log = (tale ≡ []) × (cuts_of log ≡ BodyCut read stated ∷ [])
    × (read ≡ length (body_of log)) × (stated ≡ stated_length task.call) × (read < stated) × All ChangesNothing (sections_of log)
OwesCut set task WriteFault tale log = TellingBroke set task tale log × (cuts_of log ≡ WriteFault ∷ [])
OwesCut set task (ShardCut whys) tale log = BodyIsCut set task whys tale log
OwesCut set task NoMemory tale log = OwesPart set task tale log × ((cuts_of log ≡ []) ⊎ (cuts_of log ≡ NoMemory ∷ []))

-- what is owed of a call that ends so
abbrev pub Owes : SetPlan → Task → Outcome → Log → Type 0
Owes set task (Replied reply bytes) log = OwesWhole set task reply bytes log
Owes set task (CutOff why tale) log = OwesCut set task why tale log

-- a log pays what its call owes: it ends so, and what was told is owed
pub record Pays (set : SetPlan) (task : Task) (cut : Option Cut) (log : Log) : Type 0 where
  pub outcome : Outcome
  pub ends : EndsAs cut outcome
  pub tells : TellsOutcome outcome log
  pub owes : Owes set task outcome log

-- a receipt of a call whose body this was and which ended so: the notes of its sections in their order, all of them
pub record Receipt (set : SetPlan) (task : Task) (body : List ℕ) (outcome : Outcome) (notes : List Note) : Type 0 where
  pub log : Log
  pub tells : TellsOutcome outcome log
  pub owes : Owes set task outcome log
  pub body_is : body ≡ body_of log
  pub notes_are : notes ≡ notes_of log
