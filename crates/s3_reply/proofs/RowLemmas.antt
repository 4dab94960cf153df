-- The text of a row of a page, with the digits as they are.
use Rattle.std.proofs.Common.{◌≡◌, ℕ, true, List, [], ◌++◌, codes, decimal, refl, ap, ◌∙◌, append_assoc}
use Rattle.std.specs.List.{list_all}
use Rattle.hex.specs.Hex.{encode_lower}
use Rattle.call_types.specs.declared.names.Etag.{Etag}
use Rattle.s3_reply.specs.Dates.{timestamp}
use Rattle.s3_reply.specs.Documents.{object_facts}
use Rattle.s3_reply.specs.Escaping.{escaped, is_plain}
use Rattle.header_values.specs.EntityTags.{part_count, tag_text}
use Rattle.s3_reply.specs.Words.{quoted_tag}
use Rattle.s3_reply.specs.Xml.{printed, joined, leaf, open_tag, close_tag}
use Rattle.s3_reply.proofs.EscapedLemmas.{escaped-append}
use Rattle.s3_reply.proofs.PlainLemmas.{escaped_plain, both_plain, decimal_plain, count_plain}

quote_text : escaped (codes "\"") ≡ codes "&quot;"
unfolding escaped
quote_text = refl

standard_text : escaped (codes "STANDARD") ≡ codes "STANDARD"
unfolding escaped
standard_text = refl

leaf_text : (name text written : List ℕ) → escaped text ≡ written → printed (leaf name text) ≡ open_tag name [] ++ (written ++ close_tag name)
unfolding leaf
leaf_text name text written e = ap (λ t. open_tag name [] ++ (t ++ close_tag name)) e

quoted_text : (etag : Etag) → list_all is_plain (encode_lower etag.md5) ≡ true → escaped (quoted_tag etag) ≡ (codes "&quot;" ++ tag_text etag.md5 etag.parts) ++ codes "&quot;"
quoted_text etag plain =
    let tag = escaped_plain (tag_text etag.md5 etag.parts) (both_plain (encode_lower etag.md5) (part_count etag.parts) plain (count_plain etag.parts)) in
    escaped-append (codes "\"" ++ tag_text etag.md5 etag.parts) (codes "\"")
    ∙ ap (λ t. t ++ escaped (codes "\"")) (escaped-append (codes "\"") (tag_text etag.md5 etag.parts))
    ∙ ap (λ t. (t ++ escaped (tag_text etag.md5 etag.parts)) ++ escaped (codes "\"")) quote_text
    ∙ ap (λ t. (codes "&quot;" ++ t) ++ escaped (codes "\"")) tag
    ∙ ap (λ t. (codes "&quot;" ++ tag_text etag.md5 etag.parts) ++ t) quote_text

facts_joined : (stamp hex parts size : List ℕ) →
    (open_tag (codes "LastModified") [] ++ (stamp ++ close_tag (codes "LastModified")))
    ++ ((open_tag (codes "ETag") [] ++ (((codes "&quot;" ++ (hex ++ parts)) ++ codes "&quot;") ++ close_tag (codes "ETag")))
    ++ ((open_tag (codes "Size") [] ++ (size ++ close_tag (codes "Size")))
    ++ ((open_tag (codes "StorageClass") [] ++ (codes "STANDARD" ++ close_tag (codes "StorageClass"))) ++ [])))
    ≡ codes "<LastModified>" ++ (stamp ++ (codes "</LastModified><ETag>&quot;" ++ (hex ++ (parts ++ (codes "&quot;</ETag><Size>" ++ (size ++ codes "</Size><StorageClass>STANDARD</StorageClass>"))))))
facts_joined stamp hex parts size = simp append_assoc

pub facts_text : (modified size : ℕ) (etag : Etag) → list_all is_plain (timestamp modified) ≡ true → list_all is_plain (encode_lower etag.md5) ≡ true → printed (joined (object_facts modified size etag)) ≡ codes "<LastModified>" ++ (timestamp modified ++ (codes "</LastModified><ETag>&quot;" ++ (encode_lower etag.md5 ++ (part_count etag.parts ++ (codes "&quot;</ETag><Size>" ++ (decimal size ++ codes "</Size><StorageClass>STANDARD</StorageClass>"))))))
facts_text modified size etag stamp hex =
    let a = leaf_text (codes "LastModified") (timestamp modified) (timestamp modified) (escaped_plain (timestamp modified) stamp) in
    let b = leaf_text (codes "ETag") (quoted_tag etag) ((codes "&quot;" ++ tag_text etag.md5 etag.parts) ++ codes "&quot;") (quoted_text etag hex) in
    let d = leaf_text (codes "Size") (decimal size) (decimal size) (escaped_plain (decimal size) (decimal_plain size)) in
    let e = leaf_text (codes "StorageClass") (codes "STANDARD") (codes "STANDARD") standard_text in
    ap (λ t. t ++ (printed (leaf (codes "ETag") (quoted_tag etag)) ++ (printed (leaf (codes "Size") (decimal size)) ++ (printed (leaf (codes "StorageClass") (codes "STANDARD")) ++ [])))) a
    ∙ ap (λ t. (open_tag (codes "LastModified") [] ++ (timestamp modified ++ close_tag (codes "LastModified"))) ++ (t ++ (printed (leaf (codes "Size") (decimal size)) ++ (printed (leaf (codes "StorageClass") (codes "STANDARD")) ++ [])))) b
    ∙ ap (λ t. (open_tag (codes "LastModified") [] ++ (timestamp modified ++ close_tag (codes "LastModified"))) ++ ((open_tag (codes "ETag") [] ++ (((codes "&quot;" ++ tag_text etag.md5 etag.parts) ++ codes "&quot;") ++ close_tag (codes "ETag"))) ++ (t ++ (printed (leaf (codes "StorageClass") (codes "STANDARD")) ++ [])))) d
    ∙ ap (λ t. (open_tag (codes "LastModified") [] ++ (timestamp modified ++ close_tag (codes "LastModified"))) ++ ((open_tag (codes "ETag") [] ++ (((codes "&quot;" ++ tag_text etag.md5 etag.parts) ++ codes "&quot;") ++ close_tag (codes "ETag"))) ++ ((open_tag (codes "Size") [] ++ (decimal size ++ close_tag (codes "Size"))) ++ (t ++ [])))) e
    ∙ facts_joined (timestamp modified) (encode_lower etag.md5) (part_count etag.parts) (decimal size)

pub object_joined : (key facts : List ℕ) →
    open_tag (codes "Contents") [] ++ (((open_tag (codes "Key") [] ++ (key ++ close_tag (codes "Key"))) ++ facts) ++ close_tag (codes "Contents"))
    ≡ codes "<Contents><Key>" ++ (key ++ (codes "</Key>" ++ (facts ++ codes "</Contents>")))
object_joined key facts = simp append_assoc
