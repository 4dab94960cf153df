-- Texts that are written piece by piece.
use Rattle.std.proofs.Common.{◌≡◌, ◌≢◌, ℕ, ◌+◌, ◌<◌, List, [], ◌∷◌, ◌++◌, length, map, take, get_or, codes, decimal, refl, sym, ap, ◌∙◌, arith, append_assoc}
use Rattle.std.proofs.lemmas.List.{append-nil, take_more, map-append}
use Rattle.std.proofs.lemmas.Bool.Decides.{nat_tests}
use Rattle.std.specs.List.{flat_map}
use Rattle.s3_reply.specs.Documents.{name_space, root_open}
use Rattle.s3_reply.specs.Escaping.{escaped}
use Rattle.header_values.specs.EntityTags.{part_count}
use Rattle.s3_reply.specs.Xml.{Content, printed, joined, attribute_text, open_tag, close_tag, declaration}
use Rattle.s3_reply.proofs.EscapedLemmas.{escaped-append}

-- a piece, and what follows it
pub after : (a b c x rest : List ℕ) → b ≡ a ++ x → c ≡ b ++ rest → c ≡ a ++ (x ++ rest)
after a b c x rest first next = next ∙ ap (λ t. t ++ rest) first ∙ append_assoc a x rest

-- the last piece of a list of pieces
pub last : (a b x : List ℕ) → b ≡ a ++ x → b ≡ a ++ (x ++ [])
last a b x first = first ∙ ap (λ t. a ++ t) (sym (append-nil x))

-- a piece of an escaped text, and what follows it
pub after_text : (a b c xs ys : List ℕ) → b ≡ a ++ escaped xs → c ≡ b ++ escaped ys → c ≡ a ++ escaped (xs ++ ys)
after_text a b c xs ys first next = after a b c (escaped xs) (escaped ys) first next ∙ ap (λ t. a ++ t) (sym (escaped-append xs ys))

-- the text of the name space's attribute
pub space_text : flat_map attribute_text name_space ≡ codes " xmlns=\"http://s3.amazonaws.com/doc/2006-03-01/\""
unfolding escaped
space_text = refl

-- a document: the start tag of its root, what the root holds, and its end tag
pub rooted : (a b c d name inner : List ℕ) → b ≡ a ++ root_open name → c ≡ b ++ inner → d ≡ c ++ close_tag name → d ≡ a ++ (declaration ++ (open_tag name name_space ++ (inner ++ close_tag name)))
unfolding root_open
rooted a b c d name inner first then_inner end =
    after a b d (declaration ++ open_tag name name_space) (inner ++ close_tag name) first (after b c d inner (close_tag name) then_inner end)
    ∙ ap (λ t. a ++ t) (append_assoc declaration (open_tag name name_space) (inner ++ close_tag name))

-- one thing more
joined_more : (contents : List Content) (content : Content) → printed (joined (contents ++ content ∷ [])) ≡ printed (joined contents) ++ printed content
joined_more [] content = append-nil (printed content)
joined_more (first ∷ rest) content =
    ap (λ t. printed first ++ t) (joined_more rest content) ∙ sym (append_assoc (printed first) (printed (joined rest)) (printed content))

-- two lists of contents
pub joined-append : (xs ys : List Content) → printed (joined (xs ++ ys)) ≡ printed (joined xs) ++ printed (joined ys)
joined-append [] ys = refl
joined-append (x ∷ xs) ys =
    ap (λ t. printed x ++ t) (joined-append xs ys) ∙ sym (append_assoc (printed x) (printed (joined xs)) (printed (joined ys)))

-- one row more
pub row_step : {A : Type 0} (f : A → Content) (rows : List A) (i : ℕ) (row : A) (old now next : List ℕ) → i < length rows → row ≡ get_or rows i row → now ≡ old ++ printed (joined (map f (take i rows))) → next ≡ now ++ printed (f row) → next ≡ old ++ printed (joined (map f (take (i + 1) rows)))
row_step f rows i row old now next low same was is =
    let taken : map f (take (i + 1) rows) ≡ map f (take i rows) ++ f row ∷ []
    = ap (map f) (take_more rows i row low) ∙ map-append f (take i rows) (get_or rows i row ∷ []) ∙ ap (λ r. map f (take i rows) ++ f r ∷ []) (sym same) in
    after old now next (printed (joined (map f (take i rows)))) (printed (f row)) was is
    ∙ ap (λ t. old ++ t) (sym (ap (λ l. printed (joined l)) taken ∙ joined_more (map f (take i rows)) (f row)))

-- no part count, and one
pub none_counted : (n : ℕ) → n ≡ 0 → part_count n ≡ []
none_counted n e = rw e

pub counted : (n : ℕ) → n ≢ 0 → part_count n ≡ codes "-" ++ decimal n
counted n some = grind (arith, nat_tests)

-- pieces one after the other, as a text in that order
pub chain2 : (v0 v1 v2 x1 x2 : List ℕ) → v1 ≡ v0 ++ x1 → v2 ≡ v1 ++ x2 → v2 ≡ v0 ++ (x1 ++ x2)
chain2 v0 v1 v2 x1 x2 e1 e2 = after v0 v1 v2 x1 x2 e1 e2

pub chain3 : (v0 v1 v2 v3 x1 x2 x3 : List ℕ) → v1 ≡ v0 ++ x1 → v2 ≡ v1 ++ x2 → v3 ≡ v2 ++ x3 → v3 ≡ v0 ++ ((x1 ++ x2) ++ x3)
chain3 v0 v1 v2 v3 x1 x2 x3 e1 e2 e3 = after v0 v2 v3 (x1 ++ x2) x3 (chain2 v0 v1 v2 x1 x2 e1 e2) e3

pub chain4 : (v0 v1 v2 v3 v4 x1 x2 x3 x4 : List ℕ) → v1 ≡ v0 ++ x1 → v2 ≡ v1 ++ x2 → v3 ≡ v2 ++ x3 → v4 ≡ v3 ++ x4 → v4 ≡ v0 ++ (((x1 ++ x2) ++ x3) ++ x4)
chain4 v0 v1 v2 v3 v4 x1 x2 x3 x4 e1 e2 e3 e4 = after v0 v3 v4 ((x1 ++ x2) ++ x3) x4 (chain3 v0 v1 v2 v3 x1 x2 x3 e1 e2 e3) e4

pub chain5 : (v0 v1 v2 v3 v4 v5 x1 x2 x3 x4 x5 : List ℕ) → v1 ≡ v0 ++ x1 → v2 ≡ v1 ++ x2 → v3 ≡ v2 ++ x3 → v4 ≡ v3 ++ x4 → v5 ≡ v4 ++ x5 → v5 ≡ v0 ++ ((((x1 ++ x2) ++ x3) ++ x4) ++ x5)
chain5 v0 v1 v2 v3 v4 v5 x1 x2 x3 x4 x5 e1 e2 e3 e4 e5 = after v0 v4 v5 (((x1 ++ x2) ++ x3) ++ x4) x5 (chain4 v0 v1 v2 v3 v4 x1 x2 x3 x4 e1 e2 e3 e4) e5

pub chain6 : (v0 v1 v2 v3 v4 v5 v6 x1 x2 x3 x4 x5 x6 : List ℕ) → v1 ≡ v0 ++ x1 → v2 ≡ v1 ++ x2 → v3 ≡ v2 ++ x3 → v4 ≡ v3 ++ x4 → v5 ≡ v4 ++ x5 → v6 ≡ v5 ++ x6 → v6 ≡ v0 ++ (((((x1 ++ x2) ++ x3) ++ x4) ++ x5) ++ x6)
chain6 v0 v1 v2 v3 v4 v5 v6 x1 x2 x3 x4 x5 x6 e1 e2 e3 e4 e5 e6 = after v0 v5 v6 ((((x1 ++ x2) ++ x3) ++ x4) ++ x5) x6 (chain5 v0 v1 v2 v3 v4 v5 x1 x2 x3 x4 x5 e1 e2 e3 e4 e5) e6

-- the same of escaped texts
pub text2 : (v0 v1 v2 x1 x2 : List ℕ) → v1 ≡ v0 ++ escaped x1 → v2 ≡ v1 ++ escaped x2 → v2 ≡ v0 ++ escaped (x1 ++ x2)
text2 v0 v1 v2 x1 x2 e1 e2 = after_text v0 v1 v2 x1 x2 e1 e2

pub text3 : (v0 v1 v2 v3 x1 x2 x3 : List ℕ) → v1 ≡ v0 ++ escaped x1 → v2 ≡ v1 ++ escaped x2 → v3 ≡ v2 ++ escaped x3 → v3 ≡ v0 ++ escaped ((x1 ++ x2) ++ x3)
text3 v0 v1 v2 v3 x1 x2 x3 e1 e2 e3 = after_text v0 v2 v3 (x1 ++ x2) x3 (text2 v0 v1 v2 x1 x2 e1 e2) e3

pub text4 : (v0 v1 v2 v3 v4 x1 x2 x3 x4 : List ℕ) → v1 ≡ v0 ++ escaped x1 → v2 ≡ v1 ++ escaped x2 → v3 ≡ v2 ++ escaped x3 → v4 ≡ v3 ++ escaped x4 → v4 ≡ v0 ++ escaped (((x1 ++ x2) ++ x3) ++ x4)
text4 v0 v1 v2 v3 v4 x1 x2 x3 x4 e1 e2 e3 e4 = after_text v0 v3 v4 ((x1 ++ x2) ++ x3) x4 (text3 v0 v1 v2 v3 x1 x2 x3 e1 e2 e3) e4

pub text5 : (v0 v1 v2 v3 v4 v5 x1 x2 x3 x4 x5 : List ℕ) → v1 ≡ v0 ++ escaped x1 → v2 ≡ v1 ++ escaped x2 → v3 ≡ v2 ++ escaped x3 → v4 ≡ v3 ++ escaped x4 → v5 ≡ v4 ++ escaped x5 → v5 ≡ v0 ++ escaped ((((x1 ++ x2) ++ x3) ++ x4) ++ x5)
text5 v0 v1 v2 v3 v4 v5 x1 x2 x3 x4 x5 e1 e2 e3 e4 e5 = after_text v0 v4 v5 (((x1 ++ x2) ++ x3) ++ x4) x5 (text4 v0 v1 v2 v3 v4 x1 x2 x3 x4 e1 e2 e3 e4) e5

pub text6 : (v0 v1 v2 v3 v4 v5 v6 x1 x2 x3 x4 x5 x6 : List ℕ) → v1 ≡ v0 ++ escaped x1 → v2 ≡ v1 ++ escaped x2 → v3 ≡ v2 ++ escaped x3 → v4 ≡ v3 ++ escaped x4 → v5 ≡ v4 ++ escaped x5 → v6 ≡ v5 ++ escaped x6 → v6 ≡ v0 ++ escaped (((((x1 ++ x2) ++ x3) ++ x4) ++ x5) ++ x6)
text6 v0 v1 v2 v3 v4 v5 v6 x1 x2 x3 x4 x5 x6 e1 e2 e3 e4 e5 e6 = after_text v0 v5 v6 ((((x1 ++ x2) ++ x3) ++ x4) ++ x5) x6 (text5 v0 v1 v2 v3 v4 v5 x1 x2 x3 x4 x5 e1 e2 e3 e4 e5) e6
