-- What GetObject and HeadObject owe.
use Rattle.std.specs.Prelude.{◌≡◌, ◌⊎◌, ℕ, ◌+◌, ◌<◌, Bool, true, false, List, [], ◌∷◌, Ok, Err, Option, Some, None}
use Rattle.audit_trail.specs.declared.entry.Deed.TheVariants.{Done}
use Rattle.call_types.specs.declared.act.Brief.TheVariants.{Answer, Read}
use Rattle.call_types.specs.declared.names.Key.{Key}
use Rattle.call_types.specs.declared.names.Mode.{Mode}
use Rattle.call_types.specs.declared.names.Pick.{Pick}
use Rattle.call_types.specs.declared.names.RangeAsk.{RangeAsk}
use Rattle.call_types.specs.declared.names.Span.{Span}
use Rattle.call_types.specs.declared.names.VersionName.{VersionName}
use Rattle.call_types.specs.declared.refusal.Refusal.TheVariants.{InvalidRange, PreconditionFailed, ShardQuorum}
use Rattle.call_types.specs.declared.reply.Reply.{Reply}
use Rattle.call_types.specs.declared.reply.Reply.TheVariants.{Found, Refused}
use Rattle.call_types.specs.declared.version.Version.{Version}
use Rattle.call_types.specs.declared.version.What.{What}
use Rattle.call_types.specs.declared.version.What.TheVariants.{Marker, Object}
use Rattle.call_types.specs.declared.why.Why.{Why}
use Rattle.drive_base.specs.declared.plan.SetPlan.{SetPlan}
use Rattle.header_values.specs.EntityTags.{names_tag, tag_text}
use Rattle.span_plan.specs.Span.{Plans}
use Rattle.span_plan.specs.declared.ranges.InvalidRange.{InvalidRange as Unsatisfiable}
use Rattle.receipts.specs.Committing.{KeyIsBarred}
use Rattle.receipts.specs.Dues.{IsDueRead}
use Rattle.receipts.specs.Events.{Log, Section, sections_of}
use Rattle.receipts.specs.Letters.{CannotRead, Wanted}
use Rattle.receipts.specs.Looks.{EndsAtLook, FindsBucket, HasEntry, IsIdle, TellsRefusal}
use Rattle.receipts.specs.Registers.{key_register, key_slot}
use Rattle.receipts.specs.Spans.{body_length}

-- a call's sections are the look at its bucket, which has this mode, and the read of its key, which was replied so for the whole body
pub record ReadsKey (at : Key) (pick : Pick) (whole : Reply) (log : Log) : Type 0 where
  pub look : Section
  pub own : Section
  pub sections : sections_of log ≡ look ∷ own ∷ []
  pub mode : Mode
  pub bucket : FindsBucket at.bucket mode look
  pub entry : HasEntry (key_slot at) (key_register at) (Done (Read at mode pick) (Answer whole)) own.note
  pub due : IsDueRead mode pick whole

-- or it is refused
pub record ReadIsRefused (at : Key) (reply : Reply) (log : Log) : Type 0 where
  pub look : Section
  pub own : Section
  pub sections : sections_of log ≡ look ∷ own ∷ []
  pub mode : Mode
  pub bucket : FindsBucket at.bucket mode look
  pub idle : IsIdle (key_slot at) (key_register at) own.note
  pub refuses : TellsRefusal (key_slot at) own.note reply

-- how a call ends that reads a key, where its section found no version
abbrev pub EndsBeforeRead : Key → Reply → Log → Type 0
EndsBeforeRead at reply log = EndsAtLook at.bucket reply log ⊎ ReadIsRefused at reply log ⊎ KeyIsBarred at reply log

-- what is wanted of a version's body, up to the end of a span; a marker has none
abbrev pub IsWanted : What → Span → Wanted → Type 0
IsWanted Marker span wanted = ⊥
IsWanted (Object data_id print size md5 parts upload kind) span wanted =
    (wanted.id ≡ data_id) × (wanted.print ≡ print) × (wanted.reach ≡ span.at + span.length)

-- the body of a version can't be read from a byte of a span on that has some, by these letters
pub record BodyIsLost (set : SetPlan) (version : Version) (span : Span) (next : ℕ) (whys : List Why) (log : Log) : Type 0 where
  pub wanted : Wanted
  pub is_wanted : IsWanted version.what span wanted
  pub some : 0 < span.length
  pub cause : CannotRead set wanted next whys log

-- the range that a GetObject asks for is satisfiable in the version's body: the version is told with that span, or too few drives gave its first byte
pub record SpanIsTold (set : SetPlan) (ask : RangeAsk) (version : Version) (id : Option VersionName) (reply : Reply) (log : Log) : Type 0 where
  pub span : Span
  pub plans : Plans (body_length version.what) ask (Ok span)
  pub told : (reply ≡ Found version span id)
      ⊎ ((whys : List Why) × BodyIsLost set version span span.at whys log × (reply ≡ Refused (ShardQuorum whys)))

-- or it isn't
pub record RangeIsInvalid (ask : RangeAsk) (version : Version) (reply : Reply) : Type 0 where
  pub invalid : Unsatisfiable
  pub plans : Plans (body_length version.what) ask (Err invalid)
  pub told : reply ≡ Refused (InvalidRange invalid.0)

-- whether a version has one of the entity tags of an `If-Match` (RFC 9110, section 13.1.1). Without one there is no condition, and a marker has no tag
abbrev pub is_met : Option (List ℕ) → What → Bool
is_met None what = true
is_met (Some value) Marker = false
is_met (Some value) (Object data_id print size md5 parts upload kind) = names_tag value (tag_text md5 parts)

-- the version has none of them, and the call is told so
pub record ConditionFails (matches : Option (List ℕ)) (version : Version) (reply : Reply) : Type 0 where
  pub unmet : is_met matches version.what ≡ false
  pub told : reply ≡ Refused PreconditionFailed

-- what a GetObject is told of what the read of its key was replied: of a version that was found the condition comes first, and then the range
abbrev pub TellsRead : SetPlan → RangeAsk → Option (List ℕ) → Reply → Reply → Log → Type 0
TellsRead set ask matches (Found version whole id) reply log = ConditionFails matches version reply
    ⊎ ((is_met matches version.what ≡ true) × (SpanIsTold set ask version id reply log ⊎ RangeIsInvalid ask version reply))
TellsRead set ask matches (Refused why) reply log = reply ≡ Refused why
TellsRead set ask matches other reply log = ⊥

-- and what a HeadObject is told: the version with its whole body
abbrev pub TellsHead : Option (List ℕ) → Reply → Reply → Type 0
TellsHead matches (Found version whole id) reply = ConditionFails matches version reply
    ⊎ ((is_met matches version.what ≡ true) × (reply ≡ Found version whole id))
TellsHead matches (Refused why) reply = reply ≡ Refused why
TellsHead matches other reply = ⊥

-- a GetObject is told what its read found
pub record GetIsTold (set : SetPlan) (at : Key) (pick : Pick) (ask : RangeAsk) (matches : Option (List ℕ)) (reply : Reply) (log : Log) : Type 0 where
  pub whole : Reply
  pub reads : ReadsKey at pick whole log
  pub tells : TellsRead set ask matches whole reply log

-- what a GetObject is answered
abbrev pub GetOwes : SetPlan → Key → Pick → RangeAsk → Option (List ℕ) → Reply → Log → Type 0
GetOwes set at pick ask matches reply log = EndsBeforeRead at reply log ⊎ GetIsTold set at pick ask matches reply log

-- a HeadObject is told what its read found
pub record HeadIsTold (at : Key) (pick : Pick) (matches : Option (List ℕ)) (reply : Reply) (log : Log) : Type 0 where
  pub whole : Reply
  pub reads : ReadsKey at pick whole log
  pub tells : TellsHead matches whole reply

-- what a HeadObject is answered
abbrev pub HeadOwes : Key → Pick → Option (List ℕ) → Reply → Log → Type 0
HeadOwes at pick matches reply log = EndsBeforeRead at reply log ⊎ HeadIsTold at pick matches reply log
