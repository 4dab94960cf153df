-- What the log of a ListBuckets has, by how far the list is.
use Rattle.std.specs.Prelude.{◌≡◌, ◌≢◌, ◌⊎◌, ℕ, ◌+◌, ◌<◌, List, [], ◌∷◌, ◌++◌, All, Contains, codes, length, slice_index_or, Option, None}
use Rattle.std.specs.List.Sorted.{IsStrictlySortedBy}
use Rattle.std.specs.declared.cmp.Ordering.TheVariants.{Less}
use Rattle.bucket_book.specs.Name.{IsBucketName}
use Rattle.call_types.specs.declared.feed.Cut.{Cut}
use Rattle.call_types.specs.declared.reply.BucketRow.{BucketRow}
use Rattle.desk_base.specs.Answering.{Task}
use Rattle.desk_base.specs.declared.call.Call.TheVariants.{ListBuckets}
use Rattle.drive_base.specs.Names.{IsPage, byte_order}
use Rattle.drive_base.specs.declared.drive.TheConstants.{LONGEST_NAME}
use Rattle.drive_base.specs.declared.plan.SetPlan.{SetPlan}
use Rattle.receipts.specs.BucketLists.{FindsRow, row_order}
use Rattle.receipts.specs.Events.{IsUntold, Log, Section, body_of, cuts_of, sections_of}
use Rattle.receipts.specs.Looks.{LooksAt}
use Rattle.receipts.specs.Paging.{DoesNothing, IsAskedFor, ListsPage}
use Rattle.receipts.specs.Paying.{Pays}
use Rattle.receipts.specs.Registers.{bucket_register, bucket_slot}
use Rattle.op_steps.specs.Claims.{Claim, no_claim}
use Rattle.op_steps.specs.Ready.{IsReady}
use Rattle.op_steps.specs.declared.next.OpNext.{OpNext}
use Rattle.op_steps.specs.declared.next.OpNext.TheVariants as next
use Rattle.bucket_ops.specs.Seeking.{IsWanted, Sheet, page_names, sheet_of}
use Rattle.bucket_ops.specs.declared.list_state.ListState.{ListState}
use Rattle.bucket_ops.specs.declared.list_state.ListState.TheVariants.{Looking, Over, Paging, Telling}
use Rattle.bucket_ops.specs.declared.list_state.Wanted.{Wanted}

-- the task of a ListBuckets of this second
abbrev pub list_task : ℕ → Task
list_task second = record { call = ListBuckets; now = second }

-- what comes next, and why it was cut
abbrev pub list_step : ListState → OpNext
list_step (Paging work) = next.Section work.slot
list_step (Looking work wanted) = next.Section work.slot
list_step (Telling reply) = next.Tell
list_step (Over cut) = next.Done

abbrev pub list_cut : ListState → Option Cut
list_cut (Paging work) = None
list_cut (Looking work wanted) = None
list_cut (Telling reply) = None
list_cut (Over cut) = cut

-- one name doesn't stand behind another
abbrev pub IsUpTo : List ℕ → List ℕ → Type 0
IsUpTo a b = byte_order b a ≢ Less

-- a bucket is done with where the names of these slots are, and of this slot those up to a name
abbrev pub IsBehind : ℕ → List ℕ → List ℕ → Type 0
IsBehind slot from bucket = (bucket_slot bucket < slot) ⊎ ((bucket_slot bucket ≡ slot) × IsUpTo (bucket_register bucket) from)

-- a name is one of the first names of a page
abbrev pub IsAmong : List ℕ → List (List ℕ) → ℕ → Type 0
IsAmong name names end = (k : ℕ) × (k < end) × (slice_index_or names k name ≡ name)

-- the rows so far are those of the buckets that looks found, and nothing else was done
pub record HasFound (rows : List BucketRow) (log : Log) : Type 0 where
  pub untold : All IsUntold log
  pub uncut : cuts_of log ≡ []
  pub no_body : body_of log ≡ []
  pub idle : All DoesNothing (sections_of log)
  pub rising : IsStrictlySortedBy row_order rows
  pub found : All (λ row. (look : Section) × Contains (sections_of log) look × FindsRow row look) rows
  pub given : (row : BucketRow) (look : Section) → Contains (sections_of log) look → FindsRow row look → Contains rows row

-- the buckets that are done with were asked for
pub record HasAsked (slot : ℕ) (from : List ℕ) (log : Log) : Type 0 where
  pub begins : IsUpTo (codes "b/") from
  pub asked : (bucket : List ℕ) → IsBucketName bucket → IsBehind slot from bucket
      → IsAskedFor (bucket_slot bucket) (bucket_register bucket) (sections_of log)

-- a section looked at a bucket, and was shown this content
abbrev pub LooksAtBucket : (bucket content : List ℕ) → Section → Type 0
LooksAtBucket bucket content section = LooksAt (bucket_slot bucket) (bucket_register bucket) content section

-- each look so far was at a bucket of which this holds
abbrev pub LooksOnlyAt : (List ℕ → Type 0) → Log → Type 0
LooksOnlyAt Was log = (bucket content : List ℕ) (look : Section) → Contains (sections_of log) look → LooksAtBucket bucket content look → Was bucket

-- a bucket was looked at by one of these sections
abbrev pub WasLookedAt : List ℕ → List Section → Type 0
WasLookedAt bucket sections = (content : List ℕ) × (look : Section) × Contains sections look × LooksAtBucket bucket content look

-- a list whose next page comes next
pub record IsAtPage (sheet : Sheet) (log : Log) : Type 0 where
  pub found : HasFound sheet.rows log
  pub asked : HasAsked sheet.slot sheet.from log
  pub only : LooksOnlyAt (IsBehind sheet.slot sheet.from) log

-- a list that goes over the names of a page, of which the first ones are done with
pub record IsInPage (sheet : Sheet) (done : ℕ) (log : Log) : Type 0 where
  pub found : HasFound sheet.rows log
  pub asked : HasAsked sheet.slot sheet.from log
  pub page : IsPage sheet.from page_names LONGEST_NAME sheet.names
  pub before : List Section
  pub section : Section
  pub after : List Section
  pub parts : sections_of log ≡ before ++ section ∷ after
  pub lists : ListsPage sheet.slot (record { from = sheet.from; most = page_names; names = sheet.names }) section
  pub looked : (bucket : List ℕ) → IsBucketName bucket → bucket_slot bucket ≡ sheet.slot → IsAmong (bucket_register bucket) sheet.names done
      → (bucket_register bucket ≡ sheet.from) ⊎ WasLookedAt bucket after
  pub only : LooksOnlyAt (λ bucket. IsBehind sheet.slot sheet.from bucket
      ⊎ ((bucket_slot bucket ≡ sheet.slot) × IsAmong (bucket_register bucket) sheet.names done)) log

-- a list that looks at the bucket of a name of a page next
pub record IsAtLook (sheet : Sheet) (wanted : Wanted) (log : Log) : Type 0 where
  pub own : ℕ
  pub at_is : sheet.at ≡ own + 1
  pub within : own < length sheet.names
  pub is : (d : List ℕ) → IsWanted sheet.slot sheet.from (slice_index_or sheet.names own d) wanted
  pub page : IsInPage sheet own log

-- the log of an op so far, which holds nothing of a slot
abbrev pub HasListed : SetPlan → ℕ → ListState → Log → Type 0
HasListed set second (Paging work) log = IsAtPage (sheet_of work) log
HasListed set second (Looking work wanted) log = IsAtLook (sheet_of work) wanted log
HasListed set second (Telling reply) log = IsReady set (list_task second) reply log
HasListed set second (Over cut) log = Pays set (list_task second) cut log

pub record ListStands (set : SetPlan) (second : ℕ) (state : ListState) (claim : Claim) (log : Log) : Type 0 where
  pub none : claim ≡ no_claim claim.slot
  pub listed : HasListed set second state log
