-- One byte more of a list, and a tag in double quotes.
use Rattle.std.proofs.Common.{◌≡◌, ◌≢◌, ℕ, ◌+◌, ◌<◌, ◌≤◌, Bool, true, false, not, ◌||◌, List, [], ◌∷◌, ◌++◌, length, get_or, drop, bytes_eq, refl, sym, ap, ◌∙◌, inl, inr}
use Rattle.std.proofs.lemmas.Bool.{false_from_ne_true}
use Rattle.std.proofs.lemmas.Bool.Decides.{eqb_tells, same_from_decides}
use Rattle.std.proofs.lemmas.List.{at_drop_more, same_from_push}
use Rattle.std.proofs.lemmas.List.Edits.{between_more, between_none}
use Rattle.std.proofs.lemmas.Slice.Eq.{bytes_eq-Decides}
use Rattle.std.specs.Bool.{Decides}
use Rattle.std.specs.List.{between, list_any}
use Rattle.header_values.specs.EntityTags.{is_tag, members_from}

-- the byte at i comes next, and it is one more of the member that began at start
next_byte : (quoted : Bool) (value : List ℕ) (start i : ℕ) → i < length value
    → members_from quoted (between start i value) (drop i value) ≡ members_from quoted (between start i value) (get_or value i 0 ∷ drop (i + 1) value)
next_byte quoted value start i within = at_drop_more (members_from quoted (between start i value)) value i 0 within

-- a comma outside of double quotes
comma : (quoted : Bool) (member rest : List ℕ) (byte : ℕ) → byte ≡ 44 → quoted ≡ false
    → members_from quoted member (byte ∷ rest) ≡ member ∷ members_from false [] rest
comma quoted member rest byte is outside = rw (is, outside) refl

-- a double quote
quote : (quoted : Bool) (member rest : List ℕ) (byte : ℕ) → byte ≡ 34
    → members_from quoted member (byte ∷ rest) ≡ members_from (not quoted) (member ++ byte ∷ []) rest
quote quoted member rest byte is = rw is refl

-- another byte, or a comma within double quotes
other : (quoted : Bool) (member rest : List ℕ) (byte : ℕ) → byte ≢ 34 → (byte ≡ 44 → quoted ≡ true)
    → members_from quoted member (byte ∷ rest) ≡ members_from quoted (member ++ byte ∷ []) rest
other quoted member rest byte plain inside =
    elim (eqb_tells byte 34) [
      | inl e ↦ absurd (plain e.1)
      | inr e ↦ elim (eqb_tells byte 44) [
        | inl f ↦ rw (e.0, f.0, inside f.1) refl
        | inr f ↦ rw (e.0, f.0) refl
      ]
    ]

-- the same in a text that is gone over
pub at_comma : (quoted : Bool) (value : List ℕ) (start i : ℕ) → i < length value → get_or value i 0 ≡ 44 → quoted ≡ false
    → members_from quoted (between start i value) (drop i value) ≡ between start i value ∷ members_from false [] (drop (i + 1) value)
at_comma quoted value start i within is outside =
    next_byte quoted value start i within ∙ comma quoted (between start i value) (drop (i + 1) value) (get_or value i 0) is outside

pub at_quote : (quoted : Bool) (value : List ℕ) (start i : ℕ) → start ≤ i → i < length value → get_or value i 0 ≡ 34
    → members_from quoted (between start i value) (drop i value) ≡ members_from (not quoted) (between start (i + 1) value) (drop (i + 1) value)
at_quote quoted value start i behind within is =
    next_byte quoted value start i within
    ∙ quote quoted (between start i value) (drop (i + 1) value) (get_or value i 0) is
    ∙ ap (λ member. members_from (not quoted) member (drop (i + 1) value)) (sym (between_more value start i 0 behind within))

pub at_other : (quoted : Bool) (value : List ℕ) (start i : ℕ) → start ≤ i → i < length value → get_or value i 0 ≢ 34 → (get_or value i 0 ≡ 44 → quoted ≡ true)
    → members_from quoted (between start i value) (drop i value) ≡ members_from quoted (between start (i + 1) value) (drop (i + 1) value)
at_other quoted value start i behind within plain inside =
    next_byte quoted value start i within
    ∙ other quoted (between start i value) (drop (i + 1) value) (get_or value i 0) plain inside
    ∙ ap (λ member. members_from quoted member (drop (i + 1) value)) (sym (between_more value start i 0 behind within))

-- whether a tag is among the members stays the same over a comma behind a member that isn't it
pub comma_keeps : (tag value : List ℕ) (quoted : Bool) (start i : ℕ) (answer : Bool)
    → i < length value → get_or value i 0 ≡ 44 → quoted ≡ false → is_tag tag (between start i value) ≡ false
    → answer ≡ list_any (is_tag tag) (members_from quoted (between start i value) (drop i value))
    → answer ≡ list_any (is_tag tag) (members_from quoted (between (i + 1) (i + 1) value) (drop (i + 1) value))
comma_keeps tag value quoted start i answer within is outside fails so_far =
    so_far
    ∙ ap (list_any (is_tag tag)) (at_comma quoted value start i within is outside)
    ∙ ap (λ passes. passes || list_any (is_tag tag) (members_from false [] (drop (i + 1) value))) fails
    ∙ ap (λ member. list_any (is_tag tag) (members_from false member (drop (i + 1) value))) (sym (between_none value (i + 1)))
    ∙ ap (λ q. list_any (is_tag tag) (members_from q (between (i + 1) (i + 1) value) (drop (i + 1) value))) (sym outside)

-- two texts in double quotes are the same where the texts are
same_quoted : (inner tag : List ℕ) → Decides (bytes_eq (34 ∷ (inner ++ 34 ∷ [])) (34 ∷ (tag ++ 34 ∷ []))) (inner ≡ tag)
same_quoted inner tag = (
  λ passes. let whole = (bytes_eq-Decides (34 ∷ (inner ++ 34 ∷ [])) (34 ∷ (tag ++ 34 ∷ []))).0 passes in
      let behind : inner ++ 34 ∷ [] ≡ tag ++ 34 ∷ [] = cc in
      (same_from_push inner tag 34 34 behind).0,
  λ same. (bytes_eq-Decides (34 ∷ (inner ++ 34 ∷ [])) (34 ∷ (tag ++ 34 ∷ []))).1 (ap (λ t. 34 ∷ (t ++ 34 ∷ [])) same),
)

-- a text in double quotes is a tag in double quotes where what stands in them is the tag
pub in_quotes : (text rest inner tag : List ℕ) → text ≡ 34 ∷ rest → rest ≡ inner ++ 34 ∷ [] → bytes_eq inner tag ≡ bytes_eq text (34 ∷ (tag ++ 34 ∷ []))
in_quotes text rest inner tag front behind =
    let e : text ≡ 34 ∷ (inner ++ 34 ∷ []) = front ∙ ap (λ t. 34 ∷ t) behind in
    rw e (same_from_decides (bytes_eq inner tag) (bytes_eq (34 ∷ (inner ++ 34 ∷ [])) (34 ∷ (tag ++ 34 ∷ []))) (bytes_eq-Decides inner tag) (same_quoted inner tag))

-- a text that doesn't end in a double quote is none
pub no_end : (text rest tag : List ℕ) → text ≡ 34 ∷ rest → ((front : List ℕ) → rest ≢ front ++ 34 ∷ []) → false ≡ bytes_eq text (34 ∷ (tag ++ 34 ∷ []))
no_end text rest tag front none =
    sym (false_from_ne_true (bytes_eq text (34 ∷ (tag ++ 34 ∷ []))) (λ passes.
    let whole = sym front ∙ (bytes_eq-Decides text (34 ∷ (tag ++ 34 ∷ []))).0 passes in
    let behind : rest ≡ tag ++ 34 ∷ [] = cc in
    none tag behind))
