-- Documents as trees, and their text.
use Rattle.std.specs.Prelude.{ℕ, List, [], ◌∷◌, ◌++◌, codes, Option, Some, None}
use Rattle.std.specs.List.{flat_map}
use Rattle.s3_reply.specs.Escaping.{escaped}

-- what an element holds: nothing, a text, an element with its attributes, or one thing after another
pub data Content : Type 0 where
  Nothing : Content
  Text : List ℕ → Content
  Element : List ℕ → List (List ℕ × List ℕ) → Content → Content
  Then : Content → Content → Content

-- an attribute's name and value
abbrev pub attribute_text : List ℕ × List ℕ → List ℕ
attribute_text attribute = codes " " ++ attribute.0 ++ codes "=\"" ++ escaped attribute.1 ++ codes "\""

-- the two tags of an element
abbrev pub open_tag : List ℕ → List (List ℕ × List ℕ) → List ℕ
open_tag name attributes = codes "<" ++ name ++ flat_map attribute_text attributes ++ codes ">"

abbrev pub close_tag : List ℕ → List ℕ
close_tag name = codes "</" ++ name ++ codes ">"

-- the text: every element has both tags, and there is no white space between elements
abbrev pub printed : Content → List ℕ
printed Nothing = []
printed (Text text) = escaped text
printed (Element name attributes content) = open_tag name attributes ++ (printed content ++ close_tag name)
printed (Then content next) = printed content ++ printed next

-- one thing after another
abbrev pub joined : List Content → Content
joined [] = Nothing
joined (content ∷ rest) = Then content (joined rest)

-- an element without attributes
abbrev pub element : List ℕ → Content → Content
element name content = Element name [] content

-- an element that holds a text
unfoldable pub leaf : List ℕ → List ℕ → Content
leaf name text = element name (Text text)

-- the same where there is a text, and else nothing
unfoldable pub optional_leaf : List ℕ → Option (List ℕ) → Content
optional_leaf name None = Nothing
optional_leaf name (Some text) = leaf name text

-- how every document begins (XML 1.0, section 2.8)
unfoldable pub declaration : List ℕ
declaration = codes "<?xml version=\"1.0\" encoding=\"UTF-8\"?>"

-- a whole document
abbrev pub document_text : Content → List ℕ
document_text root = declaration ++ printed root
