-- What has decided stays so, whatever follows.
use Rattle.std.proofs.Common.{◌≡◌, ℕ, zero, suc, ◌<◌, ◌≤◌, List, [], ◌∷◌, ◌++◌, length, take, drop, get_or, inl, inr, refl, sym, ap, ◌∙◌, subst, arith, append_assoc, append-nil, length-append, length-take}
use Rattle.std.specs.Prelude.{◌⊎◌, true}
use Rattle.std.proofs.lemmas.List.{take_all, take-append-le, append_cancel_left}
use Rattle.std.proofs.lemmas.List.Elements.{All-nil, All-cons, All-take}
use Rattle.std.proofs.lemmas.Str.{IsUtf8-from_ascii}
use Rattle.std.proofs.Math.Seq.{take-append_seam}
use Rattle.httparse.specs.Grammar.{AllPass, is_uri_byte, LineEnd, lf, print_blank, print_end, print_version, IsField, RequestHead, ReadsRequest, NeverHasRequest, MayBecomeRequest}
use Rattle.httparse.proofs.GrammarLemmas.{ReadsRequest-append}
use Rattle.http_wire.specs.Heads.{BeginsHead, HasLine65, IsOpen, IsBad, IsTooLong, FillsUp}
use Rattle.http_wire.specs.Laws.{HeadsStay}
use Rattle.http_wire.proofs.LineLemmas.{print_request-lines}
use Rattle.http_wire.proofs.LimitLemmas.{line_65-append}

take_both : (n : ℕ) (text more : List ℕ) → (s : List ℕ) × (take n (text ++ more) ≡ take n text ++ s)
take_both zero text more = ([], refl)
take_both (suc n) [] more = (take (suc n) more, refl)
take_both (suc n) (b ∷ text) more = let rest = take_both n text more in (rest.0, ap (λ (t : List ℕ). b ∷ t) rest.1)

-- a byte with a front before it stands behind the text, or in it
front_or_inside : (text more front : List ℕ) (byte : ℕ) (rest : List ℕ) → text ++ more ≡ front ++ byte ∷ rest
    → ((q : List ℕ) × (front ≡ text ++ q)) ⊎ ((q : List ℕ) × (text ≡ front ++ byte ∷ q))
front_or_inside [] more front byte rest e = inl (front, refl)
front_or_inside (u ∷ text) more [] byte rest e = inr (text, cc)
front_or_inside (u ∷ text) more (v ∷ front) byte rest e =
    elim (front_or_inside text more front byte rest (cc)) [
      | inl behind ↦ inl (behind.0, cc)
      | inr inside ↦ inr (inside.0, cc)
    ]

never_append : (text more : List ℕ) → NeverHasRequest text → NeverHasRequest (text ++ more)
never_append text more never rest h after reads =
    never (more ++ rest) h after (subst (λ (t : List ℕ). ReadsRequest t h after) (append_assoc text more rest) reads)

whole_more : (text more after : List ℕ) (h : RequestHead) → BeginsHead text h after → BeginsHead (text ++ more) h (after ++ more)
whole_more text more after h begins = record {
  reads = ReadsRequest-append text h after more begins.reads;
  bytes = begins.bytes;
  lines = begins.lines;
}

-- a line 65 behind a text with which no head begins
no_later_line : (text more : List ℕ) → length text ≤ 65536 → length (text ++ more) ≤ 65536 → IsBad text → HasLine65 (text ++ more) → ⊥
no_later_line text more short long bad has =
    elim (front_or_inside text more has.front has.byte has.rest has.text_is) [
      | inl behind ↦ behind_it behind.0 behind.1
      | inr inside ↦ bad.lines (record {
        front = has.front;
        byte = has.byte;
        rest = inside.0;
        text_is = inside.1;
        full = has.full;
        last = has.last;
        more = has.more;
      })
    ]
  where
    behind_it : (q : List ℕ) → has.front ≡ text ++ q → ⊥
    behind_it q front =
        let room : length text ≤ 65535 = omega (arith, long, ap length has.text_is, length-append has.front (has.byte ∷ has.rest), ap length front, length-append text q) in
        bad.never (q ++ print_end lf) has.full.head []
        (subst (λ (t : List ℕ). ReadsRequest (t ++ (q ++ print_end lf)) has.full.head []) (sym (take_all 65535 text room))
        (subst (λ (t : List ℕ). ReadsRequest t has.full.head []) (ap (λ (t : List ℕ). t ++ print_end lf) front ∙ append_assoc text q (print_end lf)) has.full.reads))

bad_more : (text more : List ℕ) → IsBad (take 65536 text) → IsBad (take 65536 (text ++ more))
bad_more text more bad =
    let both = take_both 65536 text more in
    let first = take_both 65535 (take 65536 text) both.0 in
    subst IsBad (sym both.1) (record {
      never = subst NeverHasRequest (sym first.1) (never_append (take 65535 (take 65536 text)) first.0 bad.never);
      lines = no_later_line (take 65536 text) both.0 (omega (arith, length-take 65536 text))
          (omega (arith, ap length both.1, length-take 65536 (text ++ more))) bad;
    })

long_more : (text more : List ℕ) → IsTooLong (take 65536 text) → IsTooLong (take 65536 (text ++ more))
long_more text more (inl has) =
    let both = take_both 65536 text more in
    inl (subst HasLine65 (sym both.1) (line_65-append (take 65536 text) both.0 has))
long_more text more (inr fills) =
    inr (subst FillsUp (sym (take-append-le 65536 text more (omega (arith, fills.full, length-take 65536 text)))) fills)

-- the head that goes on behind a method
abbrev plain_head : (blank : List LineEnd) (method : List ℕ) → RequestHead
plain_head blank method = record { blank = blank; method = method; target = 47 ∷ []; minor = 1; line_end = lf; fields = []; last = lf }

plain_regroup : (a b d e : List ℕ) → (a ++ b) ++ (32 ∷ 47 ∷ 32 ∷ (d ++ (e ++ e)))
    ≡ ((a ++ (b ++ 32 ∷ (47 ∷ 32 ∷ (d ++ (e ++ []))))) ++ e) ++ []
plain_regroup a b d e = simp (append_assoc, append-nil)

slash_ascii : (i : ℕ) → get_or (47 ∷ []) i 0 < 128
slash_ascii zero = omega arith
slash_ascii (suc i) = omega arith

may_before : (text more : List ℕ) → MayBecomeRequest (text ++ more) → MayBecomeRequest text
may_before text more (inl (rest, h, reads)) =
    inl (more ++ rest, h, subst (λ (t : List ℕ). ReadsRequest t h []) (append_assoc text more rest) reads)
may_before text more (inr (blank, method, target, token, uri, e)) =
    elim (front_or_inside text more (print_blank blank ++ method) 32 target e) [
      | inl behind ↦ inl (behind.0 ++ ending, plain_head blank method, goes_on behind.0 behind.1)
      | inr inside ↦ inr (blank, method, inside.0, token, inside_uri inside.0 inside.1, inside.1)
    ]
  where
    ending : List ℕ
    ending = 32 ∷ 47 ∷ 32 ∷ (print_version 1 ++ (print_end lf ++ print_end lf))

    goes_on : (q : List ℕ) → print_blank blank ++ method ≡ text ++ q → ReadsRequest (text ++ (q ++ ending)) (plain_head blank method) []
    goes_on q front = (
      record {
        method = token;
        target = (omega arith, All-cons (λ b. is_uri_byte b ≡ true) 47 [] refl (All-nil (λ b. is_uri_byte b ≡ true)));
        target_text = IsUtf8-from_ascii (47 ∷ []) slash_ascii;
        minor = omega arith;
        fields = All-nil IsField;
      },
      sym (append_assoc text q ending) ∙ ap (λ (t : List ℕ). t ++ ending) (sym front)
          ∙ plain_regroup (print_blank blank) method (print_version 1) (print_end lf)
          ∙ ap (λ (t : List ℕ). t ++ []) (sym (print_request-lines (plain_head blank method))),
    )

    inside_uri : (q : List ℕ) → text ≡ (print_blank blank ++ method) ++ 32 ∷ q → AllPass is_uri_byte q
    inside_uri q text_is =
        let front : List ℕ = print_blank blank ++ method in
        let whole : front ++ (32 ∷ (q ++ more)) ≡ front ++ (32 ∷ target) =
        sym (append_assoc front (32 ∷ q) more) ∙ ap (λ (t : List ℕ). t ++ more) (sym text_is) ∙ e in
        let parts : q ++ more ≡ target = ap (drop 1) (append_cancel_left front (32 ∷ (q ++ more)) (32 ∷ target) whole) in
        subst (AllPass is_uri_byte) (ap (take (length q)) (sym parts) ∙ take-append_seam q more)
        (All-take (λ b. is_uri_byte b ≡ true) (length q) target uri)

open_before : (text more : List ℕ) → IsOpen (text ++ more) → IsOpen text
open_before text more is_open = record {
  short = omega (arith, is_open.short, length-append text more);
  none = λ h rest reads. is_open.none h (rest ++ more) (ReadsRequest-append text h rest more reads);
  goes_on = may_before text more is_open.goes_on;
  lines = λ has. is_open.lines (line_65-append text more has);
}

pub heads_stay : HeadsStay
heads_stay = record { whole_more = whole_more; bad_more = bad_more; long_more = long_more; open_before = open_before }
