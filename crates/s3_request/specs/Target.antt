-- The path and the query of the target of a request (RFC 3986, sections 3.3 and 3.4), and the bucket and the key that a path names (S3 API, path-style).
use Rattle.std.specs.Prelude.{ℕ, ◌==◌, ◌&&◌, List, Bool, drop, cond, length, slice_index, Result, Ok, Err}
use Rattle.std.specs.Str.{is_utf8}
use Rattle.percent_encoding.specs.Percent.{percent_decode}
use Rattle.form_urlencoded.specs.Form.{split_once}
use Rattle.call_types.specs.declared.refusal.Refusal.{Refusal}
use Rattle.call_types.specs.declared.refusal.Refusal.TheVariants.{InvalidURI}
use Rattle.s3_request.specs.declared.target.Place.{Place}
use Rattle.s3_request.specs.declared.target.Place.TheVariants.{Service, Bucket, Object}

-- the byte of a slash
abbrev pub slash : ℕ
slash = 47

-- the byte of a question mark
abbrev pub question_mark : ℕ
question_mark = 63

-- whether a target begins with a slash
abbrev pub begins_with_slash : List ℕ → Bool
begins_with_slash target = slice_index target 0 == slash

-- the path behind its first slash, decoded: a `%` without two hex digits stays, and a plus is a plus
abbrev pub path_of : List ℕ → List ℕ
path_of target = percent_decode (split_once question_mark (drop 1 target)).0

-- the query, behind the first question mark
abbrev pub query_of : List ℕ → List ℕ
query_of target = (split_once question_mark (drop 1 target)).1

-- a bucket, or a key of it where there is one
abbrev pub place_at : List ℕ → List ℕ → Place
place_at bucket key = cond (length key == 0) (Bucket bucket) (Object (record { bucket = bucket; key = key }))

-- What a path names behind its first slash: the service where nothing stands there, else the bucket up to the next slash, and the key behind that.
abbrev pub place_in : List ℕ → Place
place_in path = cond (length path == 0) Service (place_at (split_once slash path).0 (split_once slash path).1)

-- The place that a target names. The target begins with a slash, and its decoded path is UTF-8.
abbrev pub place_of : List ℕ → Result Place Refusal
place_of target = cond (begins_with_slash target && is_utf8 (path_of target)) (Ok (place_in (path_of target))) (Err InvalidURI)
