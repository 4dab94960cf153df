-- The headers of each reply (RFC 9110; Amazon S3 API Reference, "Common Response Headers").
use Rattle.std.specs.Prelude.{ℕ, ◌+◌, ◌-◌, ◌==◌, Bool, if◌then◌else◌, List, [], ◌∷◌, ◌++◌, length, codes, decimal, Option, Some, None, option_map}
use Rattle.call_types.specs.declared.names.Span.{Span}
use Rattle.call_types.specs.declared.names.VersionName.{VersionName}
use Rattle.call_types.specs.declared.refusal.Refusal.{Refusal}
use Rattle.call_types.specs.declared.refusal.Refusal.TheVariants.{NoSuchKey, MarkerNamed, InvalidRange}
use Rattle.call_types.specs.declared.reply.Reply.{Reply}
use Rattle.call_types.specs.declared.reply.Reply.TheVariants.{Plain, Stored, Found, Deleted, Completed, Refused}
use Rattle.call_types.specs.declared.version.What.{What}
use Rattle.call_types.specs.declared.version.What.TheVariants.{Marker, Object}
use Rattle.desk_base.specs.declared.call.Call.{Call}
use Rattle.desk_base.specs.declared.call.Call.TheVariants.{CreateBucket}
use Rattle.s3_reply.specs.Asked.{Asked, is_silent}
use Rattle.s3_reply.specs.Dates.{http_date}
use Rattle.s3_reply.specs.Documents.{document_bytes}
use Rattle.s3_reply.specs.Statuses.{body_length, gives_part, status_of}
use Rattle.s3_reply.specs.Words.{quoted_tag, name_text}

-- a header, and its value where the reply has it
pub record Header : Type 0 where
  pub name : List ℕ
  pub value : Option (List ℕ)

-- this header
abbrev pub header : List ℕ → Option (List ℕ) → Header
header name value = record { name = name; value = value }

-- its line, none where the reply doesn't have it
abbrev pub value_line : List ℕ → Option (List ℕ) → List ℕ
value_line name None = []
value_line name (Some value) = (name ++ codes ": ") ++ value ++ codes "\r\n"

abbrev pub line_of : Header → List ℕ
line_of h = value_line h.name h.value

-- this text where it holds
abbrev pub where_true : Bool → List ℕ → Option (List ℕ)
where_true holds value = if holds then Some value else None

-- Content-Length: that of a 200 of HeadObject is the version's, a 204 and any other reply to HEAD have none, and else it is the body's,
-- which is a span of a version or a document
abbrev pub length_of_rest : Bool → ℕ → ℕ → Option (List ℕ)
length_of_rest silent status size = if silent then None else if status == 204 then None else Some (decimal size)

abbrev pub content_length_of : Bool → ℕ → ℕ → Reply → Option (List ℕ)
content_length_of silent status size (Found version span id) = Some (decimal (if silent then body_length version.what else span.length))
content_length_of silent status size other = length_of_rest silent status size

-- Content-Type: that of a version, as it was given, and XML with a document
abbrev pub kind_of : What → Option (List ℕ)
kind_of Marker = None
kind_of (Object data_id print size md5 parts upload kind) = Some kind

abbrev pub type_of_document : ℕ → Option (List ℕ)
type_of_document size = if size == 0 then None else Some (codes "application/xml")

abbrev pub content_type_of : ℕ → Reply → Option (List ℕ)
content_type_of size (Found version span id) = kind_of version.what
content_type_of size other = type_of_document size

-- Content-Range: with 206 the first and the last place and the version's length, with 416 that length alone
abbrev pub range_text : Span → ℕ → List ℕ
range_text span size = codes "bytes " ++ decimal span.at ++ codes "-" ++ decimal (span.at + span.length - 1) ++ codes "/" ++ decimal size

abbrev pub range_of_refusal : Refusal → Option (List ℕ)
range_of_refusal (InvalidRange size) = Some (codes "bytes */" ++ decimal size)
range_of_refusal other = None

abbrev pub content_range_of : Option Call → Reply → Option (List ℕ)
content_range_of call (Found version span id) = where_true (gives_part call (body_length version.what)) (range_text span (body_length version.what))
content_range_of call (Refused why) = range_of_refusal why
content_range_of call other = None

-- when a marker that a refusal names was made
abbrev pub marker_moment : Refusal → Option ℕ
marker_moment (MarkerNamed id modified) = Some modified
marker_moment other = None

-- Allow: a marker can be deleted
abbrev pub allow_of : Reply → Option (List ℕ)
allow_of (Refused why) = option_map (λ modified. codes "DELETE") (marker_moment why)
allow_of other = None

-- Location: of a bucket that was made
abbrev pub place_of_bucket : Option Call → Option (List ℕ)
place_of_bucket (Some (CreateBucket bucket)) = Some (codes "/" ++ bucket)
place_of_bucket other = None

abbrev pub location_of : Option Call → Reply → Option (List ℕ)
location_of call Plain = place_of_bucket call
location_of call other = None

-- Last-Modified: of a version, or of a marker that a refusal names
abbrev pub last_modified_of : Reply → Option (List ℕ)
last_modified_of (Found version span id) = Some (http_date version.modified)
last_modified_of (Refused why) = option_map http_date (marker_moment why)
last_modified_of other = None

-- ETag: of a version, or of an object or a part that was stored
abbrev pub tag_of_version : What → Option (List ℕ)
tag_of_version Marker = None
tag_of_version (Object data_id print size md5 parts upload kind) = Some (quoted_tag (record { md5 = md5; parts = parts }))

abbrev pub etag_of : Reply → Option (List ℕ)
etag_of (Stored etag id) = Some (quoted_tag etag)
etag_of (Found version span id) = tag_of_version version.what
etag_of other = None

-- Accept-Ranges: ranges of a version can be asked for
abbrev pub accept_ranges_of : Reply → Option (List ℕ)
accept_ranges_of (Found version span id) = Some (codes "bytes")
accept_ranges_of other = None

-- the delete marker that a refusal names
abbrev pub marker_of : Refusal → Option VersionName
marker_of (NoSuchKey marker) = marker
marker_of (MarkerNamed id modified) = Some id
marker_of other = None

-- x-amz-delete-marker: one was made or removed, or a refusal names one
abbrev pub delete_marker_of : Reply → Option (List ℕ)
delete_marker_of (Deleted id marker) = where_true marker (codes "true")
delete_marker_of (Refused why) = option_map (λ name. codes "true") (marker_of why)
delete_marker_of other = None

-- the version that a reply names
abbrev pub told_name : Reply → Option VersionName
told_name (Stored etag id) = id
told_name (Found version span id) = id
told_name (Deleted id marker) = id
told_name (Completed etag id) = id
told_name (Refused why) = marker_of why
told_name other = None

-- x-amz-version-id: the version that a reply names
abbrev pub version_id_of : Reply → Option (List ℕ)
version_id_of reply = option_map name_text (told_name reply)

-- the headers in their order
abbrev pub headers_of : Asked → ℕ → Bool → List Header
headers_of asked now close =
    header (codes "Date") (Some (http_date now))
    ∷ header (codes "Connection") (where_true close (codes "close"))
    ∷ header (codes "Content-Length") (content_length_of (is_silent asked.head) (status_of asked.call asked.reply) (length (document_bytes asked)) asked.reply)
    ∷ header (codes "Content-Type") (content_type_of (length (document_bytes asked)) asked.reply)
    ∷ header (codes "Content-Range") (content_range_of asked.call asked.reply)
    ∷ header (codes "Allow") (allow_of asked.reply)
    ∷ header (codes "Location") (location_of asked.call asked.reply)
    ∷ header (codes "Last-Modified") (last_modified_of asked.reply)
    ∷ header (codes "ETag") (etag_of asked.reply)
    ∷ header (codes "Accept-Ranges") (accept_ranges_of asked.reply)
    ∷ header (codes "x-amz-delete-marker") (delete_marker_of asked.reply)
    ∷ header (codes "x-amz-version-id") (version_id_of asked.reply)
    ∷ []
