-- The arguments of a query (URL Standard, section 5; S3 API).
use Rattle.std.specs.Prelude.{ℕ, List, [], ◌∷◌, Bool, map, codes, Option, is_some}
use Rattle.std.specs.List.{list_any}
use Rattle.std.specs.Map.{lookup}
use Rattle.std.specs.Str.{bytes_eq}
use Rattle.std.specs.Str.Lossy.{utf8_lossy}
use Rattle.std.specs.String.{string_bytes}
use Rattle.form_urlencoded.specs.Form.{raw_pairs, decode}
use Rattle.s3_request.specs.declared.query.Argument.{Argument}

-- names and values in their order
abbrev pub Pairs : Type 0
Pairs = List (List ℕ × List ℕ)

-- the text of a name or a value: decoded, with U+FFFD for what is no UTF-8
abbrev pub text_of : List ℕ → List ℕ
text_of bytes = utf8_lossy (decode bytes)

-- a decoded name and its decoded value
abbrev pub pair_of : List ℕ × List ℕ → List ℕ × List ℕ
pair_of pair = (text_of pair.0, text_of pair.1)

-- the arguments of a query
abbrev pub pairs_of : List ℕ → Pairs
pairs_of query = map pair_of (raw_pairs query)

-- an argument as a pair
abbrev pub seen : Argument → List ℕ × List ℕ
seen argument = (string_bytes argument.name, string_bytes argument.value)

-- the first value of a name
abbrev pub value_of : Pairs → List ℕ → Option (List ℕ)
value_of pairs name = lookup (bytes_eq name) pairs

-- whether a name is present, with or without a value
abbrev pub has : Pairs → List ℕ → Bool
has pairs name = is_some (value_of pairs name)

-- the names of calls that aren't served
abbrev pub unserved_names : List (List ℕ)
unserved_names =
    codes "accelerate" ∷ codes "acl" ∷ codes "analytics" ∷ codes "attributes" ∷ codes "cors" ∷ codes "delete" ∷ codes "encryption"
    ∷ codes "intelligent-tiering" ∷ codes "inventory" ∷ codes "legal-hold" ∷ codes "lifecycle" ∷ codes "location" ∷ codes "logging"
    ∷ codes "metrics" ∷ codes "notification" ∷ codes "object-lock" ∷ codes "ownershipControls" ∷ codes "policy" ∷ codes "policyStatus"
    ∷ codes "publicAccessBlock" ∷ codes "replication" ∷ codes "requestPayment" ∷ codes "restore" ∷ codes "retention" ∷ codes "select"
    ∷ codes "tagging" ∷ codes "torrent" ∷ codes "website" ∷ []

-- whether a name is one of these
abbrev pub is_unserved : List ℕ → Bool
is_unserved name = list_any (bytes_eq name) unserved_names

-- whether one of the arguments has such a name
unfoldable pub asks_unserved : Pairs → Bool
asks_unserved pairs = list_any (λ pair. is_unserved pair.0) pairs
