-- The table of calls: which call a method, a path and the names of a query ask for (S3 API).
use Rattle.std.specs.Prelude.{◌||◌, ℕ, List, Bool, false, cond, codes, Option, Some, None}
use Rattle.std.specs.Str.{bytes_eq}
use Rattle.s3_request.specs.Query.{Pairs, value_of, has}
use Rattle.s3_request.specs.declared.routes.Method.{Method}
use Rattle.s3_request.specs.declared.routes.Method.TheVariants as method
use Rattle.s3_request.specs.declared.routes.BucketRow.{BucketRow}
use Rattle.s3_request.specs.declared.routes.BucketRow.TheVariants as bucket
use Rattle.s3_request.specs.declared.routes.KeyRow.{KeyRow}
use Rattle.s3_request.specs.declared.routes.KeyRow.TheVariants as key

-- the method of a request; methods are compared byte by byte
abbrev pub method_of : List ℕ → Method
method_of name =
    cond (bytes_eq name (codes "GET")) method.Get
    (cond (bytes_eq name (codes "PUT")) method.Put
    (cond (bytes_eq name (codes "HEAD")) method.Head
    (cond (bytes_eq name (codes "POST")) method.Post
    (cond (bytes_eq name (codes "DELETE")) method.Delete method.Other))))

-- whether the first `list-type` is 2
abbrev pub asks_version_2 : Option (List ℕ) → Bool
asks_version_2 None = false
asks_version_2 (Some text) = bytes_eq text (codes "2")

-- a GET of a bucket
abbrev pub bucket_get : Pairs → Option BucketRow
bucket_get pairs =
    cond (has pairs (codes "versioning")) (Some bucket.GetVersioning)
    (cond (has pairs (codes "uploads")) None
    (cond (has pairs (codes "versions")) (Some bucket.ListVersions)
    (cond (asks_version_2 (value_of pairs (codes "list-type"))) (Some bucket.List2) None)))

-- the row of a bucket, or none where the call isn't served
abbrev pub bucket_row : Method → Pairs → Option BucketRow
bucket_row method.Get pairs = bucket_get pairs
bucket_row method.Put pairs = Some (cond (has pairs (codes "versioning")) bucket.PutVersioning bucket.Create)
bucket_row method.Head pairs = Some bucket.Head
bucket_row method.Post pairs = None
bucket_row method.Delete pairs = None
bucket_row method.Other pairs = None

-- a PUT of a key, with an upload or without
abbrev pub key_put : Bool → Pairs → Option KeyRow
key_put upload pairs =
    cond upload (cond (has pairs (codes "partNumber")) (Some key.Part) None)
    (cond (has pairs (codes "partNumber")) None (Some key.Put))

-- the row of a key, or none where the call isn't served
abbrev pub key_row : Method → Pairs → Option KeyRow
key_row method.Get pairs = cond (has pairs (codes "uploadId") || has pairs (codes "partNumber")) None (Some key.Get)
key_row method.Put pairs = key_put (has pairs (codes "uploadId")) pairs
key_row method.Head pairs = Some key.Head
key_row method.Post pairs = cond (has pairs (codes "uploads")) (Some key.Create) (cond (has pairs (codes "uploadId")) (Some key.Complete) None)
key_row method.Delete pairs = cond (has pairs (codes "uploadId")) (Some key.Abort) (Some key.Delete)
key_row method.Other pairs = None
