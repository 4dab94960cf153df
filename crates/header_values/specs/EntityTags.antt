-- Entity tags, and the headers that name some of them (RFC 9110, sections 5.6.1, 8.8.3 and 13.1.1).
use Rattle.std.specs.Prelude.{ℕ, Bool, false, not, List, [], ◌∷◌, ◌++◌, ◌-◌, ◌&&◌, ◌||◌, codes, decimal, length, take, drop, ◌==◌, if◌then◌else◌, bytes_eq}
use Rattle.std.specs.List.{list_any, prefix_len, suffix_len}
use Rattle.hex.specs.Hex.{encode_lower}

-- a hyphen and the number of parts, where there are parts
abbrev pub part_count : ℕ → List ℕ
part_count parts = if parts == 0 then [] else codes "-" ++ decimal parts

-- the text of an entity tag of S3: the MD5 in hex, and the number of parts of an object that was put in parts
abbrev pub tag_text : List ℕ → ℕ → List ℕ
tag_text md5 parts = encode_lower md5 ++ part_count parts

-- blanks are spaces and tabs
abbrev pub is_blank : ℕ → Bool
is_blank byte = (byte == 32) || (byte == 9)

-- a text without the blanks in front of it
abbrev pub trimmed_start : List ℕ → List ℕ
trimmed_start text = drop (prefix_len is_blank text) text

-- a text without the blanks behind it
abbrev pub trimmed_end : List ℕ → List ℕ
trimmed_end text = take (length text - suffix_len is_blank text) text

-- a text without the blanks around it
abbrev pub trimmed : List ℕ → List ℕ
trimmed text = trimmed_end (trimmed_start text)

-- a member that was begun and the members behind it: a comma parts two, but not within double quotes
abbrev pub members_from : Bool → List ℕ → List ℕ → List (List ℕ)
members_from quoted member [] = member ∷ []
members_from quoted member (byte ∷ rest) =
    if (byte == 44) && not quoted then member ∷ members_from false [] rest
    else members_from (if byte == 34 then not quoted else quoted) (member ++ byte ∷ []) rest

-- the members of a list in a header, with the blanks around them
abbrev pub members_of : List ℕ → List (List ℕ)
members_of value = members_from false [] value

-- a member is an entity tag: in double quotes, or bare. A weak one begins with `W/`, and is none
abbrev pub is_tag : List ℕ → List ℕ → Bool
is_tag tag member = bytes_eq (trimmed member) tag || bytes_eq (trimmed member) (codes "\"" ++ tag ++ codes "\"")

-- the value of an `If-Match` names an entity tag: it is `*`, or one of its members is that tag
abbrev pub names_tag : List ℕ → List ℕ → Bool
names_tag value tag = bytes_eq (trimmed value) (codes "*") || list_any (is_tag tag) (members_of value)
