-- What decides of a text decides one way.
use Rattle.std.proofs.Common.{◌≡◌, ℕ, ◌+◌, ◌-◌, List, [], ◌++◌, length, take, drop, inl, inr, sym, ap, ◌∙◌, subst, arith, take-append-drop, length-take}
use Rattle.std.proofs.lemmas.List.{take_all, take-take}
use Rattle.std.proofs.Math.Seq.{take-append-add}
use Rattle.httparse.specs.Grammar.{RequestHead, ReadsRequest, print_request, NeverHasRequest, MayBecomeRequest, EndsInTarget}
use Rattle.httparse.proofs.GrammarLemmas.{request_unique}
use Rattle.http_wire.specs.Heads.{BeginsHead, HasLine65, IsOpen, IsBad, IsTooLong}
use Rattle.http_wire.specs.Laws.{HeadsExclude}
use Rattle.http_wire.proofs.LimitLemmas.{line_65-append, whole_or_line_65}

whole_bad : (text after : List ℕ) (h : RequestHead) → BeginsHead text h after → IsBad (take 65536 text) → ⊥
whole_bad text after h begins bad =
    let front : take 65535 (take 65536 text) ≡ take 65535 text = take-take 65535 65536 text (omega arith) in
    let all : take 65535 (take 65536 text) ++ drop 65535 text ≡ text =
    ap (λ (t : List ℕ). t ++ drop 65535 text) front ∙ take-append-drop 65535 text in
    bad.never (drop 65535 text) h after (subst (λ (t : List ℕ). ReadsRequest t h after) (sym all) begins.reads)

whole_long : (text after : List ℕ) (h : RequestHead) → BeginsHead text h after → IsTooLong (take 65536 text) → ⊥
whole_long text after h begins (inl has) =
    whole_or_line_65 text after h begins (subst HasLine65 (take-append-drop 65536 text) (line_65-append (take 65536 text) (drop 65536 text) has))
whole_long text after h begins (inr fills) =
    let head = print_request h in
    let place : length head + (65536 - length head) ≡ 65536 = omega (arith, begins.bytes) in
    let front : take 65536 text ≡ head ++ take (65536 - length head) after =
    ap (take 65536) begins.reads.1 ∙ ap (λ (n : ℕ). take n (head ++ after)) (sym place)
    ∙ take-append-add head after (65536 - length head) in
    fills.none h (take (65536 - length head) after) (begins.reads.0, front)

may_or_never : (text : List ℕ) → MayBecomeRequest text → NeverHasRequest text → EndsInTarget text
may_or_never text (inl (more, h, reads)) never = absurd (never more h [] reads)
may_or_never text (inr inside) never = inside

open_long : (text : List ℕ) → IsOpen text → IsTooLong (take 65536 text) → ⊥
open_long text is_open (inl has) = is_open.lines (subst HasLine65 (take_all 65536 text (omega (arith, is_open.short))) has)
open_long text is_open (inr fills) = omega (arith, is_open.short, fills.full, length-take 65536 text)

open_bad : (text : List ℕ) → IsOpen text → IsBad (take 65536 text) → EndsInTarget text
open_bad text is_open bad =
    let first : take 65536 text ≡ text = take_all 65536 text (omega (arith, is_open.short)) in
    let all : take 65535 (take 65536 text) ≡ text = ap (take 65535) first ∙ take_all 65535 text (omega (arith, is_open.short)) in
    may_or_never text is_open.goes_on (subst NeverHasRequest all bad.never)

bad_long : (text : List ℕ) → IsBad text → IsTooLong text → EndsInTarget (take 65535 text)
bad_long text bad (inl has) = absurd (bad.lines has)
bad_long text bad (inr fills) = may_or_never (take 65535 text) fills.goes_on bad.never

pub heads_exclude : HeadsExclude
heads_exclude = record {
  one_head = λ text after rest h k first second. request_unique text h k after rest first.reads second.reads;
  whole_open = λ text after h begins is_open. is_open.none h after begins.reads;
  whole_bad = whole_bad;
  whole_long = whole_long;
  open_long = open_long;
  open_bad = open_bad;
  bad_long = bad_long;
}
