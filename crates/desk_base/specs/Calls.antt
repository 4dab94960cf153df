-- Which calls are lawful, and what they state of their body (Amazon S3 API Reference).
use Rattle.std.specs.Prelude.{◌≡◌, ℕ, ◌≤◌, List, length, Option, Some, None}
use Rattle.std.specs.Str.{IsUtf8}
use Rattle.call_types.specs.Feeds.{FeedView}
use Rattle.call_types.specs.declared.names.Key.{Key}
use Rattle.call_types.specs.declared.names.RangeAsk.{RangeAsk}
use Rattle.call_types.specs.declared.names.RangeAsk.TheVariants.{Whole, FromTo, From, Last}
use Rattle.bucket_book.specs.Name.{IsBucketName}
use Rattle.desk_base.specs.declared.asks.ListAsk.{ListAsk}
use Rattle.desk_base.specs.declared.asks.VersionsAsk.{VersionsAsk}
use Rattle.desk_base.specs.declared.call.Call.{Call}
use Rattle.desk_base.specs.declared.call.Call.TheVariants.{ListBuckets, CreateBucket, HeadBucket, GetVersioning, PutVersioning, Put, Get, Head, Delete, List2, ListVersions, Create, Part, Complete, Abort}

-- the greatest length of a body of PutObject and UploadPart: 5 GiB
abbrev pub most_body : ℕ
most_body = 5368709120

-- the greatest length of a document that is read: 2 MiB
abbrev pub most_document : ℕ
most_document = 2097152

-- the greatest length of a key, in bytes
abbrev pub longest_key : ℕ
longest_key = 1024

-- the greatest length of a content type, in bytes
abbrev pub longest_kind : ℕ
longest_kind = 255

-- the most rows of a page of a listing
abbrev pub most_rows : ℕ
most_rows = 1000

-- the most parts of an upload, and the greatest number of a part
abbrev pub most_parts : ℕ
most_parts = 10000

-- the stated length of the body that a call takes, 0 for a call that takes none
abbrev pub stated_length : Call → ℕ
stated_length ListBuckets = 0
stated_length (CreateBucket bucket) = 0
stated_length (HeadBucket bucket) = 0
stated_length (GetVersioning bucket) = 0
stated_length (PutVersioning bucket long) = long
stated_length (Put at kind md5 long) = long
stated_length (Get at pick ask matches) = 0
stated_length (Head at pick matches) = 0
stated_length (Delete at pick) = 0
stated_length (List2 bucket page) = 0
stated_length (ListVersions bucket page) = 0
stated_length (Create at kind) = 0
stated_length (Part at upload number md5 long) = long
stated_length (Complete at upload long) = long
stated_length (Abort at upload) = 0

-- a key of a bucket: a bucket's name, and 1 to 1,024 bytes of UTF-8
pub record IsKey (at : Key) : Type 0 where
  pub bucket : IsBucketName at.bucket
  pub some : 1 ≤ length at.key
  pub few : length at.key ≤ longest_key
  pub utf8 : IsUtf8 at.key

-- the first place that is asked for isn't above the last one
abbrev pub IsRange : RangeAsk → Type 0
IsRange Whole = Unit {0}
IsRange (FromTo first last) = first ≤ last
IsRange (From first) = Unit {0}
IsRange (Last count) = Unit {0}

-- a text that is UTF-8, where there is one
abbrev pub IsText : Option (List ℕ) → Type 0
IsText None = Unit {0}
IsText (Some text) = IsUtf8 text

-- what a listing of keys may ask for
pub record IsListAsk (page : ListAsk) : Type 0 where
  pub prefix : IsUtf8 page.prefix
  pub delimiter : IsUtf8 page.delimiter
  pub most : page.most ≤ most_rows
  pub start_after : IsText page.start_after
  pub token : IsText page.token

-- what a listing of versions may ask for: a version's marker comes with a key's alone
pub record IsVersionsAsk (page : VersionsAsk) : Type 0 where
  pub prefix : IsUtf8 page.prefix
  pub delimiter : IsUtf8 page.delimiter
  pub most : page.most ≤ most_rows
  pub key_marker : IsText page.key_marker
  pub with_key : page.key_marker ≡ None → page.id_marker ≡ None

-- which calls a head may state
abbrev pub IsLawful : Call → Type 0
IsLawful ListBuckets = Unit {0}
IsLawful (CreateBucket bucket) = IsBucketName bucket
IsLawful (HeadBucket bucket) = IsBucketName bucket
IsLawful (GetVersioning bucket) = IsBucketName bucket
IsLawful (PutVersioning bucket long) = IsBucketName bucket × (long ≤ most_document)
IsLawful (Put at kind md5 long) = IsKey at × (length kind ≤ longest_kind) × (long ≤ most_body)
IsLawful (Get at pick ask matches) = IsKey at × IsRange ask
IsLawful (Head at pick matches) = IsKey at
IsLawful (Delete at pick) = IsKey at
IsLawful (List2 bucket page) = IsBucketName bucket × IsListAsk page
IsLawful (ListVersions bucket page) = IsBucketName bucket × IsVersionsAsk page
IsLawful (Create at kind) = IsKey at × (length kind ≤ longest_kind)
IsLawful (Part at upload number md5 long) = IsKey at × (1 ≤ number) × (number ≤ most_parts) × (long ≤ most_body)
IsLawful (Complete at upload long) = IsKey at × (long ≤ most_document)
IsLawful (Abort at upload) = IsKey at

-- a feed of a call's body, which has given nothing yet
pub record IsFeedOf (feed : FeedView) (call : Call) : Type 0 where
  pub stated : feed.stated ≡ stated_length call
  pub none_given : feed.given ≡ 0
