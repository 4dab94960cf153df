-- The status of each reply, and of each refusal its code and its message (Amazon S3 API Reference, "Error Responses"; RFC 9110, section 15).
use Rattle.std.specs.Prelude.{ℕ, Bool, true, false, nat_lt, if◌then◌else◌, List, [], ◌++◌, codes, decimal, unwrap_or, Option, Some}
use Rattle.http.specs.StatusCode.{code_digits, reason_phrase}
use Rattle.call_types.specs.Letters.{letters_of}
use Rattle.call_types.specs.declared.names.RangeAsk.{RangeAsk}
use Rattle.call_types.specs.declared.names.RangeAsk.TheVariants.{Whole, FromTo, From, Last}
use Rattle.call_types.specs.declared.refusal.Refusal.{Refusal}
use Rattle.call_types.specs.declared.refusal.Refusal.TheVariants.{BadHead, HeadTooLong, NoLength, ChunkedBody, InvalidURI, NotImplemented, InvalidBucketName, KeyTooLong, InvalidArgument, InvalidDigest, EntityTooLarge, MalformedXML, NoSuchBucket, BucketThere, BadDigest, NoSuchKey, NoSuchVersion, MarkerNamed, VersionLimit, UploadLimit, NoSuchUpload, InvalidPart, PartOrder, PartSmall, PreconditionFailed, InvalidRange, ReadQuorum, WriteQuorum, Undecided, ShardQuorum, SeqSpent, NotInFlight, AuditFailed}
use Rattle.call_types.specs.declared.reply.Reply.{Reply}
use Rattle.call_types.specs.declared.reply.Reply.TheVariants.{Plain, Found, Deleted, Refused}
use Rattle.call_types.specs.declared.version.What.{What}
use Rattle.call_types.specs.declared.version.What.TheVariants.{Marker, Object}
use Rattle.desk_base.specs.declared.call.Call.{Call}
use Rattle.desk_base.specs.declared.call.Call.TheVariants.{Get, Delete, Abort}

-- what a client is told of a refusal
pub record Words : Type 0 where
  pub status : ℕ
  pub code : List ℕ
  pub message : List ℕ

-- these words
abbrev pub words : ℕ → List ℕ → List ℕ → Words
words status code message = record { status = status; code = code; message = message }

-- those of what may be asked again
abbrev pub slow_down : List ℕ → Words
slow_down message = words 503 (codes "SlowDown") message

-- the words of each refusal
abbrev pub words_of : Refusal → Words
words_of BadHead = words 400 (codes "BadRequest") (codes "The request head is malformed.")
words_of HeadTooLong = words 400 (codes "RequestHeaderTooLong") (codes "The request head is too long.")
words_of NoLength = words 411 (codes "MissingContentLength") (codes "The Content-Length header is missing.")
words_of ChunkedBody = words 501 (codes "NotImplemented") (codes "Chunked bodies are not served.")
words_of InvalidURI = words 400 (codes "InvalidURI") (codes "The target is not a path in UTF-8.")
words_of NotImplemented = words 501 (codes "NotImplemented") (codes "This call is not served.")
words_of InvalidBucketName = words 400 (codes "InvalidBucketName") (codes "The bucket name is not valid.")
words_of KeyTooLong = words 400 (codes "KeyTooLongError") (codes "The key is longer than 1024 bytes.")
words_of (InvalidArgument name) = words 400 (codes "InvalidArgument") (codes "Invalid value of " ++ name ++ codes ".")
words_of InvalidDigest = words 400 (codes "InvalidDigest") (codes "The Content-MD5 is not valid.")
words_of EntityTooLarge = words 400 (codes "EntityTooLarge") (codes "The body is longer than the limit.")
words_of (MalformedXML place) =
    words 400 (codes "MalformedXML") (codes "The document is not well formed at byte " ++ decimal place ++ codes ".")
words_of NoSuchBucket = words 404 (codes "NoSuchBucket") (codes "The specified bucket does not exist.")
words_of BucketThere = words 409 (codes "BucketAlreadyOwnedByYou") (codes "The bucket is there already.")
words_of (BadDigest stated computed) = words 400 (codes "BadDigest") (codes "The Content-MD5 differs from the body.")
words_of (NoSuchKey marker) = words 404 (codes "NoSuchKey") (codes "The specified key does not exist.")
words_of NoSuchVersion = words 404 (codes "NoSuchVersion") (codes "The specified version does not exist.")
words_of (MarkerNamed id modified) = words 405 (codes "MethodNotAllowed") (codes "The specified version is a delete marker.")
words_of VersionLimit = words 400 (codes "TooManyVersions") (codes "The key has 10000 versions.")
words_of UploadLimit = words 400 (codes "TooManyUploads") (codes "The key has 1000 open uploads.")
words_of NoSuchUpload = words 404 (codes "NoSuchUpload") (codes "The specified upload does not exist.")
words_of InvalidPart = words 400 (codes "InvalidPart") (codes "A listed part was not found.")
words_of PartOrder = words 400 (codes "InvalidPartOrder") (codes "The parts are not in rising order.")
words_of PartSmall = words 400 (codes "EntityTooSmall") (codes "A part is smaller than 5242880 bytes.")
words_of PreconditionFailed = words 412 (codes "PreconditionFailed") (codes "The precondition doesn't hold.")
words_of (InvalidRange size) = words 416 (codes "InvalidRange") (codes "The range is not satisfiable.")
words_of (ReadQuorum whys) = slow_down (codes "Read quorum: " ++ letters_of whys)
words_of (WriteQuorum whys) = slow_down (codes "Write quorum: " ++ letters_of whys)
words_of (Undecided k u whys) =
    slow_down (codes "Undecided " ++ decimal k ++ codes " " ++ decimal u ++ codes ": " ++ letters_of whys)
words_of (ShardQuorum whys) = slow_down (codes "Shard quorum: " ++ letters_of whys)
words_of SeqSpent = slow_down (codes "The slot's numbers are spent.")
words_of (NotInFlight id) = slow_down (codes "The write is not in flight.")
words_of (AuditFailed before after) = slow_down (codes "The audit failed.")

-- the length of the body of a version; a marker has none
abbrev pub body_length : What → ℕ
body_length Marker = 0
body_length (Object data_id print size md5 parts upload kind) = size

-- whether the answer to a satisfiable range of a body of n bytes is a part of it: a range is asked for, and the body is not empty
abbrev pub is_part : ℕ → RangeAsk → Bool
is_part n Whole = false
is_part n (FromTo first last) = nat_lt 0 n
is_part n (From first) = nat_lt 0 n
is_part n (Last count) = nat_lt 0 n

-- the same of a call: GetObject alone asks for a range
abbrev pub gives_part : Option Call → ℕ → Bool
gives_part (Some (Get at pick ask matches)) n = is_part n ask
gives_part other n = false

-- DeleteObject and AbortMultipartUpload have nothing to tell
abbrev pub removes : Option Call → Bool
removes (Some (Delete at pick)) = true
removes (Some (Abort at upload)) = true
removes other = false

-- the status of a reply to a call
abbrev pub status_of : Option Call → Reply → ℕ
status_of call Plain = if removes call then 204 else 200
status_of call (Deleted id marker) = 204
status_of call (Found version span id) = if gives_part call (body_length version.what) then 206 else 200
status_of call (Refused why) = (words_of why).status
status_of call other = 200

-- the first line of a head, whatever the version of the request
unfoldable pub status_line : ℕ → List ℕ
status_line status = codes "HTTP/1.1 " ++ code_digits status ++ codes " " ++ unwrap_or (reason_phrase status) [] ++ codes "\r\n"
