-- What a listing asks for (S3 API, ListObjectsV2 and ListObjectVersions).
use Rattle.std.specs.Prelude.{◌&&◌, ◌||◌, nat_le, not, min, ℕ, List, [], ◌∷◌, Bool, true, false, cond, codes, Option, Some, None, is_some, Result, Ok, Err}
use Rattle.std.specs.Option.{option_map, unwrap_or}
use Rattle.std.specs.Str.{bytes_eq, is_utf8}
use Rattle.hex.specs.Hex.{decode_of}
use Rattle.hex.specs.declared.error.FromHexError.{FromHexError}
use Rattle.call_types.specs.declared.names.VersionName.{VersionName}
use Rattle.call_types.specs.declared.refusal.Refusal.{Refusal}
use Rattle.call_types.specs.declared.refusal.Refusal.TheVariants.{InvalidArgument}
use Rattle.desk_base.specs.Calls.{most_rows}
use Rattle.desk_base.specs.declared.asks.ListAsk.{ListAsk}
use Rattle.desk_base.specs.declared.asks.VersionsAsk.{VersionsAsk}
use Rattle.s3_request.specs.Query.{Pairs, value_of}
use Rattle.s3_request.specs.Arguments.{number_of, version_name_of}

-- a text, or the empty one
abbrev pub text_or_empty : Option (List ℕ) → List ℕ
text_or_empty value = unwrap_or value []

-- at most 1,000 rows of a number of 31 bits
abbrev pub rows_within : Option ℕ → Option ℕ
rows_within None = None
rows_within (Some number) = cond (nat_le number 2147483647) (Some (min number most_rows)) None

-- `max-keys`: how many rows at most, and none where the value is wrong
abbrev pub most_of : Option (List ℕ) → Option ℕ
most_of None = Some most_rows
most_of (Some text) = rows_within (number_of text)

-- `encoding-type`: whether names are percent-encoded, and none where the value is wrong
abbrev pub encoded_of : Option (List ℕ) → Option Bool
encoded_of None = Some false
encoded_of (Some text) = cond (bytes_eq text (codes "url")) (Some true) None

-- bytes that are UTF-8
abbrev pub text_in : Result (List ℕ) FromHexError → Option (Option (List ℕ))
text_in (Ok bytes) = cond (is_utf8 bytes) (Some (Some bytes)) None
text_in (Err error) = None

-- `continuation-token`: the text of which it is the hex, and none where the value is wrong
abbrev pub token_of : Option (List ℕ) → Option (Option (List ℕ))
token_of None = Some None
token_of (Some text) = text_in (decode_of text)

-- `version-id-marker`, which comes only with a `key-marker`, and none where it is wrong
abbrev pub id_marker_of : Option (List ℕ) → Option (List ℕ) → Option (Option VersionName)
id_marker_of key None = Some None
id_marker_of None (Some text) = None
id_marker_of (Some key) (Some text) = option_map Some (version_name_of text)

-- Whether a name is that of a wrong argument, of `max-keys`, `encoding-type` and a third.
abbrev pub is_wrong : Bool → Bool → List ℕ → Bool → List ℕ → Bool
is_wrong most encoded third other name =
    bytes_eq name (codes "max-keys") && most || bytes_eq name (codes "encoding-type") && encoded || bytes_eq name third && other

-- the first name in a query that passes a test
unfoldable pub first_name : (List ℕ → Bool) → Pairs → List ℕ
first_name test [] = []
first_name test (pair ∷ pairs) = cond (test pair.0) pair.0 (first_name test pairs)

-- the refusal of the wrong argument that stands first in the query
abbrev pub refuse_first : Pairs → Bool → Bool → List ℕ → Bool → Refusal
refuse_first pairs most encoded third other = InvalidArgument (first_name (is_wrong most encoded third other) pairs)

-- what ListObjectsV2 asks for, where no argument is wrong
abbrev pub list_page : Pairs → Option ℕ → Option Bool → Option (Option (List ℕ)) → Result ListAsk Refusal
list_page pairs (Some most) (Some encoded) (Some token) = Ok (record {
  prefix = text_or_empty (value_of pairs (codes "prefix"));
  delimiter = text_or_empty (value_of pairs (codes "delimiter"));
  most = most;
  encoded = encoded;
  start_after = value_of pairs (codes "start-after");
  token = token;
})
list_page pairs most encoded token =
    Err (refuse_first pairs (not (is_some most)) (not (is_some encoded)) (codes "continuation-token") (not (is_some token)))

-- what ListObjectsV2 asks for
abbrev pub list_ask : Pairs → Result ListAsk Refusal
list_ask pairs =
    list_page pairs (most_of (value_of pairs (codes "max-keys"))) (encoded_of (value_of pairs (codes "encoding-type")))
    (token_of (value_of pairs (codes "continuation-token")))

-- what ListObjectVersions asks for, where no argument is wrong
abbrev pub versions_page : Pairs → Option ℕ → Option Bool → Option (Option VersionName) → Result VersionsAsk Refusal
versions_page pairs (Some most) (Some encoded) (Some marker) = Ok (record {
  prefix = text_or_empty (value_of pairs (codes "prefix"));
  delimiter = text_or_empty (value_of pairs (codes "delimiter"));
  most = most;
  encoded = encoded;
  key_marker = value_of pairs (codes "key-marker");
  id_marker = marker;
})
versions_page pairs most encoded marker =
    Err (refuse_first pairs (not (is_some most)) (not (is_some encoded)) (codes "version-id-marker") (not (is_some marker)))

-- what ListObjectVersions asks for
abbrev pub versions_ask : Pairs → Result VersionsAsk Refusal
versions_ask pairs =
    versions_page pairs (most_of (value_of pairs (codes "max-keys"))) (encoded_of (value_of pairs (codes "encoding-type")))
    (id_marker_of (value_of pairs (codes "key-marker")) (value_of pairs (codes "version-id-marker")))
