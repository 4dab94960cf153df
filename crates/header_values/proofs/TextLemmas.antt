-- The text of a tag, written in an array.
use Rattle.std.proofs.Common.{◌≡◌, ◌≢◌, ℕ, ◌+◌, ◌*◌, ◌<◌, ◌≤◌, List, ◌∷◌, ◌++◌, length, take, set, codes, decimal, sym, ap, ◌∙◌, arith}
use Rattle.std.proofs.Math.Seq.{take-append-add}
use Rattle.std.proofs.lemmas.Bool.Decides.{nat_tests}
use Rattle.std.proofs.lemmas.List.{length-set, take-append-le, take_at, take_more_set}
use Rattle.std.proofs.lemmas.Slice.{take-put_mid}
use borrow.Rule.Slice.PartMut.{put_mid, post_of}
use Rattle.hex.specs.Hex.{encode_lower, lower_digits}
use Rattle.hex.proofs.HexLemmas.{length-encode_with}
use Rattle.header_values.specs.EntityTags.{part_count, tag_text}

-- a number of parts that isn't 0
hyphened : (n : ℕ) → n ≢ 0 → part_count n ≡ codes "-" ++ decimal n
hyphened n some = grind (arith, nat_tests)

-- a hyphen and a number in front of what was there
pub counted : (parts : ℕ) (place digits written : List ℕ) (k : ℕ) → parts ≢ 0 → 0 < length place → digits ≡ decimal parts → written ≡ digits
    → take (1 + length digits) (put_mid 1 k (set place 0 45) written) ≡ part_count parts
counted parts place digits written k some room text copied =
    let long : 1 + length digits ≡ 1 + length written = ap (λ t. 1 + length t) (sym copied) in
    let wide : 1 ≤ length (set place 0 45) = omega (arith, length-set place 0 45) in
    take-put_mid 1 k (set place 0 45) written (1 + length digits) long wide
    ∙ ap (λ t. t ++ written) (take_more_set place 0 45 room)
    ∙ ap (λ t. 45 ∷ t) (copied ∙ text)
    ∙ sym (hyphened parts some)

-- the digits of an MD5, and the count behind them
pub text_written : (md5 front place written : List ℕ) (parts count : ℕ) → length md5 ≡ 16 → front ≡ encode_lower md5 → count ≤ length written → take count written ≡ part_count parts
    → take (32 + count) (put_mid 32 6 (front ++ post_of 0 32 place) written) ≡ tag_text md5 parts
text_written md5 front place written parts count size text within is =
    let long : length front ≡ 32 = ap length text ∙ length-encode_with lower_digits md5 ∙ ap (λ n. 2 * n) size in
    let head : take 32 (front ++ post_of 0 32 place) ≡ front = take_at front (post_of 0 32 place) 32 long in
    let rest = written ++ post_of 32 6 (front ++ post_of 0 32 place) in
    ap (λ t. take (32 + count) (t ++ rest)) head
    ∙ ap (λ n. take (n + count) (front ++ rest)) (sym long)
    ∙ take-append-add front rest count
    ∙ ap (λ t. front ++ t) (take-append-le count written (post_of 32 6 (front ++ post_of 0 32 place)) within ∙ is)
    ∙ ap (λ t. t ++ part_count parts) text
