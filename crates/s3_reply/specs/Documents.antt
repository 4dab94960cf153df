-- The document of each reply (Amazon S3 API Reference; the ETags, ids and names of section "Words").
use Rattle.std.specs.Prelude.{ℕ, Bool, ◌==◌, if◌then◌else◌, List, [], ◌∷◌, ◌++◌, length, map, codes, decimal, Option, Some, None, option_map, unwrap_or}
use Rattle.hex.specs.Hex.{encode_lower}
use Rattle.stamp_id.specs.VersionId.{id_text}
use Rattle.call_types.specs.declared.names.Etag.{Etag}
use Rattle.call_types.specs.declared.names.Key.{Key}
use Rattle.call_types.specs.declared.names.VersionName.{VersionName}
use Rattle.call_types.specs.declared.names.Mode.{Mode}
use Rattle.call_types.specs.declared.names.Mode.TheVariants.{Never, Enabled, Suspended}
use Rattle.call_types.specs.declared.reply.Reply.{Reply}
use Rattle.call_types.specs.declared.reply.Reply.TheVariants as reply
use Rattle.call_types.specs.declared.reply.BucketRow.{BucketRow}
use Rattle.call_types.specs.declared.reply.PageRow.{PageRow}
use Rattle.call_types.specs.declared.reply.PageRow.TheVariants as page_row
use Rattle.call_types.specs.declared.reply.VersionRow.{VersionRow}
use Rattle.call_types.specs.declared.reply.VersionRow.TheVariants as version_row
use Rattle.call_types.specs.declared.reply.PageCut.{PageCut}
use Rattle.desk_base.specs.declared.asks.ListAsk.{ListAsk}
use Rattle.desk_base.specs.declared.asks.VersionsAsk.{VersionsAsk}
use Rattle.desk_base.specs.declared.call.Call.{Call}
use Rattle.desk_base.specs.declared.call.Call.TheVariants.{List2, ListVersions, Create, Complete}
use Rattle.s3_reply.specs.Asked.{Asked, is_silent, path_of}
use Rattle.s3_reply.specs.Dates.{timestamp}
use Rattle.s3_reply.specs.Escaping.{url_encoded}
use Rattle.s3_reply.specs.Statuses.{Words, words_of}
use Rattle.s3_reply.specs.Words.{quoted_tag, name_text, truth_text}
use Rattle.s3_reply.specs.Xml.{Content, joined, element, leaf, optional_leaf, declaration, open_tag, document_text}
use Rattle.s3_reply.specs.Xml.Content.{Nothing, Element}

-- S3's name space
abbrev pub name_space : List (List ℕ × List ℕ)
name_space = (codes "xmlns", codes "http://s3.amazonaws.com/doc/2006-03-01/") ∷ []

-- a root of S3's name space
abbrev pub root : List ℕ → List Content → Content
root name contents = Element name name_space (joined contents)

-- a document as far as the start tag of its root
unfoldable pub root_open : List ℕ → List ℕ
root_open name = declaration ++ open_tag name name_space

-- of a refusal: its code, its message, and the path as received
abbrev pub error_document : Words → List ℕ → Content
error_document words path = element (codes "Error")
    (joined (leaf (codes "Code") words.code ∷ leaf (codes "Message") words.message ∷ leaf (codes "Resource") path ∷ []))

-- a bucket
abbrev pub bucket_content : BucketRow → Content
bucket_content row = element (codes "Bucket")
    (joined (leaf (codes "Name") row.name ∷ leaf (codes "CreationDate") (timestamp row.created) ∷ []))

-- of ListBuckets
abbrev pub buckets_document : List BucketRow → Content
buckets_document rows = root (codes "ListAllMyBucketsResult") (element (codes "Buckets") (joined (map bucket_content rows)) ∷ [])

-- the status that a mode has
abbrev pub mode_text : Mode → Option (List ℕ)
mode_text Never = None
mode_text Enabled = Some (codes "Enabled")
mode_text Suspended = Some (codes "Suspended")

-- of GetBucketVersioning
abbrev pub mode_document : Mode → Content
mode_document mode = root (codes "VersioningConfiguration") (optional_leaf (codes "Status") (mode_text mode) ∷ [])

-- a name in a listing, percent-encoded where the call asks for it
abbrev pub listed_name : Bool → List ℕ → List ℕ
listed_name encoded name = if encoded then url_encoded name else name

-- a text that stands only where it isn't empty
abbrev pub unless_empty : List ℕ → Option (List ℕ)
unless_empty text = if length text == 0 then None else Some text

-- says that names are percent-encoded, where they are
abbrev pub encoding_content : Bool → Content
encoding_content encoded = optional_leaf (codes "EncodingType") (if encoded then Some (codes "url") else None)

-- the keys that begin with a prefix
abbrev pub group_content : Bool → List ℕ → Content
group_content encoded prefix = element (codes "CommonPrefixes") (leaf (codes "Prefix") (listed_name encoded prefix))

-- when an object was made, its tag and its length
abbrev pub object_facts : ℕ → ℕ → Etag → List Content
object_facts modified size etag =
    leaf (codes "LastModified") (timestamp modified) ∷ leaf (codes "ETag") (quoted_tag etag) ∷ leaf (codes "Size") (decimal size)
    ∷ leaf (codes "StorageClass") (codes "STANDARD") ∷ []

-- a key in a page of keys
unfoldable pub object_content : Bool → List ℕ → ℕ → ℕ → Etag → Content
object_content encoded key modified size etag =
    element (codes "Contents") (joined (leaf (codes "Key") (listed_name encoded key) ∷ object_facts modified size etag))

-- a row of a page of keys that is a key; a group stands elsewhere
abbrev pub key_content : Bool → PageRow → Content
key_content encoded (page_row.Object key modified size etag) = object_content encoded key modified size etag
key_content encoded (page_row.Group prefix) = Nothing

-- a group in a page of keys
abbrev pub key_group_content : Bool → PageRow → Content
key_group_content encoded (page_row.Object key modified size etag) = Nothing
key_group_content encoded (page_row.Group prefix) = group_content encoded prefix

-- what was asked of a page of keys
abbrev pub page_asked : List ℕ → ListAsk → List Content
page_asked bucket page =
    leaf (codes "Name") bucket ∷ leaf (codes "Prefix") (listed_name page.encoded page.prefix)
    ∷ optional_leaf (codes "Delimiter") (option_map (listed_name page.encoded) (unless_empty page.delimiter))
    ∷ optional_leaf (codes "StartAfter") (option_map (listed_name page.encoded) page.start_after)
    ∷ optional_leaf (codes "ContinuationToken") (option_map encode_lower page.token) ∷ []

-- where a page of keys ends, and how many rows it has
abbrev pub page_end : ListAsk → ℕ → PageCut → List Content
page_end page count cut =
    optional_leaf (codes "NextContinuationToken") (option_map encode_lower cut.next)
    ∷ leaf (codes "KeyCount") (decimal count) ∷ leaf (codes "MaxKeys") (decimal page.most) ∷ encoding_content page.encoded
    ∷ leaf (codes "IsTruncated") (truth_text cut.truncated) ∷ []

-- of ListObjectsV2: what was asked, where the page ends, all keys, and then all groups
unfoldable pub page_document : List ℕ → ListAsk → List PageRow → PageCut → Content
page_document bucket page rows cut = root (codes "ListBucketResult")
    (joined (page_asked bucket page) ∷ joined (page_end page (length rows) cut) ∷ joined (map (key_content page.encoded) rows)
    ∷ joined (map (key_group_content page.encoded) rows) ∷ [])

-- the name of a version in a page of versions
abbrev pub version_names : Bool → List ℕ → List ℕ → Bool → List Content → List Content
version_names encoded key id latest rest =
    leaf (codes "Key") (listed_name encoded key) ∷ leaf (codes "VersionId") id ∷ leaf (codes "IsLatest") (truth_text latest) ∷ rest

-- a version in a page of versions
unfoldable pub listed_version : Bool → List ℕ → VersionName → Bool → ℕ → ℕ → Etag → Content
listed_version encoded key id latest modified size etag =
    element (codes "Version") (joined (version_names encoded key (name_text id) latest (object_facts modified size etag)))

-- a delete marker in a page of versions
unfoldable pub listed_marker : Bool → List ℕ → VersionName → Bool → ℕ → Content
listed_marker encoded key id latest modified =
    element (codes "DeleteMarker")
    (joined (version_names encoded key (name_text id) latest (leaf (codes "LastModified") (timestamp modified) ∷ [])))

-- a row of a page of versions that is a version or a marker; a group stands elsewhere
abbrev pub version_content : Bool → VersionRow → Content
version_content encoded (version_row.Object key id latest modified size etag) = listed_version encoded key id latest modified size etag
version_content encoded (version_row.Marker key id latest modified) = listed_marker encoded key id latest modified
version_content encoded (version_row.Group prefix) = Nothing

-- a group in a page of versions
abbrev pub version_group_content : Bool → VersionRow → Content
version_group_content encoded (version_row.Object key id latest modified size etag) = Nothing
version_group_content encoded (version_row.Marker key id latest modified) = Nothing
version_group_content encoded (version_row.Group prefix) = group_content encoded prefix

-- what was asked of a page of versions
abbrev pub versions_asked : List ℕ → VersionsAsk → List Content
versions_asked bucket page =
    leaf (codes "Name") bucket ∷ leaf (codes "Prefix") (listed_name page.encoded page.prefix)
    ∷ optional_leaf (codes "Delimiter") (option_map (listed_name page.encoded) (unless_empty page.delimiter))
    ∷ leaf (codes "KeyMarker") (listed_name page.encoded (unwrap_or page.key_marker []))
    ∷ leaf (codes "VersionIdMarker") (unwrap_or (option_map name_text page.id_marker) []) ∷ []

-- where a page of versions ends
abbrev pub versions_end : VersionsAsk → PageCut → List Content
versions_end page cut =
    optional_leaf (codes "NextKeyMarker") (option_map (listed_name page.encoded) cut.next)
    ∷ optional_leaf (codes "NextVersionIdMarker") (option_map name_text cut.next_id)
    ∷ leaf (codes "MaxKeys") (decimal page.most) ∷ encoding_content page.encoded ∷ leaf (codes "IsTruncated") (truth_text cut.truncated) ∷ []

-- of ListObjectVersions: what was asked, where the page ends, all versions and markers in the order of rows, and then all groups
unfoldable pub versions_document : List ℕ → VersionsAsk → List VersionRow → PageCut → Content
versions_document bucket page rows cut = root (codes "ListVersionsResult")
    (joined (versions_asked bucket page) ∷ joined (versions_end page cut) ∷ joined (map (version_content page.encoded) rows)
    ∷ joined (map (version_group_content page.encoded) rows) ∷ [])

-- of CreateMultipartUpload
abbrev pub opened_document : Key → List ℕ → Content
opened_document at upload = root (codes "InitiateMultipartUploadResult")
    (leaf (codes "Bucket") at.bucket ∷ leaf (codes "Key") at.key ∷ leaf (codes "UploadId") upload ∷ [])

-- of CompleteMultipartUpload
abbrev pub completed_document : Key → Etag → Content
completed_document at etag = root (codes "CompleteMultipartUploadResult")
    (leaf (codes "Location") (codes "/" ++ at.bucket ++ codes "/" ++ at.key) ∷ leaf (codes "Bucket") at.bucket ∷ leaf (codes "Key") at.key
    ∷ leaf (codes "ETag") (quoted_tag etag) ∷ [])

-- the documents of replies to calls that name them: a page, a page of versions, an upload that is opened and one that is completed
abbrev pub page_of_call : Option Call → List PageRow → PageCut → Option Content
page_of_call (Some (List2 bucket page)) rows cut = Some (page_document bucket page rows cut)
page_of_call other rows cut = None

abbrev pub versions_of_call : Option Call → List VersionRow → PageCut → Option Content
versions_of_call (Some (ListVersions bucket page)) rows cut = Some (versions_document bucket page rows cut)
versions_of_call other rows cut = None

abbrev pub opened_of_call : Option Call → List ℕ → Option Content
opened_of_call (Some (Create at kind)) upload = Some (opened_document at upload)
opened_of_call other upload = None

abbrev pub completed_of_call : Option Call → Etag → Option Content
completed_of_call (Some (Complete at upload size)) etag = Some (completed_document at etag)
completed_of_call other etag = None

-- the document of a reply, where it has one
abbrev pub document_of : Option Call → List ℕ → Reply → Option Content
document_of call path reply.Plain = None
document_of call path (reply.Buckets rows) = Some (buckets_document rows)
document_of call path (reply.Mode mode) = Some (mode_document mode)
document_of call path (reply.Stored etag id) = None
document_of call path (reply.Found version span id) = None
document_of call path (reply.Deleted id marker) = None
document_of call path (reply.Page rows cut) = page_of_call call rows cut
document_of call path (reply.Versions rows cut) = versions_of_call call rows cut
document_of call path (reply.Opened upload) = opened_of_call call (id_text upload)
document_of call path (reply.Completed etag id) = completed_of_call call etag
document_of call path (reply.Refused why) = Some (error_document (words_of why) path)

-- the bytes of a document, none where there is none
abbrev pub text_of : Option Content → List ℕ
text_of None = []
text_of (Some root) = document_text root

-- the bytes of the document of a reply; a HEAD has no body
abbrev pub document_bytes : Asked → List ℕ
document_bytes asked = if is_silent asked.head then [] else text_of (document_of asked.call (path_of asked.head) asked.reply)
