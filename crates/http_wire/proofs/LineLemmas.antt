-- The lines of a head.
use Rattle.std.proofs.Common.{◌≡◌, ℕ, ◌+◌, ◌<◌, ◌≤◌, Bool, true, false, cond, List, [], ◌∷◌, ◌++◌, length, refl, sym, ap, ◌∙◌, subst, arith, append_assoc, append-nil, length-append, codes}
use Rattle.std.specs.Prelude.{All}
use Rattle.std.specs.List.{flat_map}
use Rattle.std.proofs.lemmas.Bool.{ne_eqb}
use Rattle.std.proofs.lemmas.List.{append_cancel_right}
use Rattle.std.proofs.lemmas.List.Elements.{All-head, All-tail}
use Rattle.httparse.specs.Grammar.{AllPass, is_token_byte, is_uri_byte, is_value_byte, LineEnd, crlf, lf, print_end, print_blank, print_version, Field, print_field, IsField, RequestHead, print_request, IsRequestHead, ReadsRequest}
use Rattle.httparse.proofs.PieceLemmas.{token_is_no_newline}
use Rattle.httparse.proofs.GrammarLemmas.{print_request-append}
use Rattle.http_wire.specs.Lines.{feed, line_feeds, from_start, line_ends, EndsLine65}
use Rattle.http_wire.proofs.FeedLemmas.{feed_none, line_feeds-append, no_feeds}

-- the bytes of a head up to the empty line that ends it
abbrev pub lines_text : RequestHead → List ℕ
lines_text h =
    print_blank h.blank ++ (h.method ++ 32 ∷ (h.target ++ 32 ∷ (print_version h.minor
    ++ (print_end h.line_end ++ flat_map print_field h.fields))))

pub print_request-lines : (h : RequestHead) → print_request h ≡ lines_text h ++ print_end h.last
print_request-lines h =
    sym (append-nil (print_request h)) ∙ print_request-append h []
    ∙ regroup (print_blank h.blank) h.method h.target (print_version h.minor) (print_end h.line_end)
    (flat_map print_field h.fields) (print_end h.last)
  where
    regroup : (a b c d e f g : List ℕ)
        → a ++ (b ++ 32 ∷ (c ++ 32 ∷ (d ++ (e ++ ((f ++ g) ++ [])))))
        ≡ (a ++ (b ++ 32 ∷ (c ++ 32 ∷ (d ++ (e ++ f))))) ++ g
    regroup a b c d e f g = simp (append_assoc, append-nil)

token_feed : is_token_byte 10 ≡ false
unfolding is_token_byte
token_feed = refl

end_feeds : (e : LineEnd) → line_feeds (print_end e) ≡ 1
end_feeds crlf = refl
end_feeds lf = refl

version_feeds : (minor : ℕ) → minor ≤ 1 → line_feeds (print_version minor) ≡ 0
version_feeds minor small =
    let digit : feed (48 + minor) ≡ 0 = feed_none (48 + minor) (ne_eqb (48 + minor) 10 (λ e. omega (arith, e))) in
    let word : line_feeds (codes "HTTP/1.") ≡ 0 = refl in
    omega (arith, digit, line_feeds-append (codes "HTTP/1.") ((48 + minor) ∷ []), word)

field_feeds : (f : Field) → IsField f → line_feeds (print_field f) ≡ 1
field_feeds f is =
    omega (
      arith,
      line_feeds-append (f.name ++ 58 ∷ f.raw) (print_end f.end),
      line_feeds-append f.name (58 ∷ f.raw),
      no_feeds is_token_byte token_feed f.name is.name.1,
      no_feeds is_value_byte refl f.raw is.raw,
      end_feeds f.end,
    )

fields_feeds : (fs : List Field) → All IsField fs → line_feeds (flat_map print_field fs) ≡ length fs
fields_feeds [] all = refl
fields_feeds (f ∷ fs) all =
    omega (arith, line_feeds-append (print_field f) (flat_map print_field fs), field_feeds f (All-head IsField f fs all), fields_feeds fs (All-tail IsField f fs all))

after_blank : (es : List LineEnd) (text : List ℕ) → from_start (print_blank es ++ text) ≡ from_start text
after_blank [] text = refl
after_blank (crlf ∷ es) text = after_blank es text
after_blank (lf ∷ es) text = after_blank es text

at_token : (word text : List ℕ) → 0 < length word → AllPass is_token_byte word → from_start (word ++ text) ≡ word ++ text
at_token [] text some all = absurd (omega arith)
at_token (b ∷ word) text some all =
    ap (λ (t : Bool). cond t (from_start (word ++ text)) (b ∷ (word ++ text)))
    (token_is_no_newline b (All-head (λ v. is_token_byte v ≡ true) b word all))

-- the lines of a head are one more than its header lines
pub lines_count : (h : RequestHead) → IsRequestHead h → line_ends (lines_text h) ≡ length h.fields + 1
lines_count h is =
    let fields = flat_map print_field h.fields in
    let ended = print_end h.line_end ++ fields in
    let versioned = print_version h.minor ++ ended in
    let targeted : List ℕ = h.target ++ 32 ∷ versioned in
    let begun : line_ends (lines_text h) ≡ line_feeds (h.method ++ 32 ∷ targeted) =
    ap line_feeds (after_blank h.blank (h.method ++ 32 ∷ targeted) ∙ at_token h.method (32 ∷ targeted) is.method.0 is.method.1) in
    omega (
      arith,
      begun,
      line_feeds-append h.method (32 ∷ targeted),
      no_feeds is_token_byte token_feed h.method is.method.1,
      line_feeds-append h.target (32 ∷ versioned),
      no_feeds is_uri_byte refl h.target is.target.1,
      line_feeds-append (print_version h.minor) ended,
      version_feeds h.minor is.minor,
      line_feeds-append (print_end h.line_end) fields,
      end_feeds h.line_end,
      fields_feeds h.fields is.fields,
    )

-- the text ends in LF
abbrev EndsInFeed : List ℕ → Type 0
EndsInFeed text = (before : List ℕ) × (text ≡ before ++ 10 ∷ [])

feed_after : (a b : List ℕ) → EndsInFeed b → EndsInFeed (a ++ b)
feed_after a b ends = (a ++ ends.0, ap (λ (t : List ℕ). a ++ t) ends.1 ∙ sym (append_assoc a ends.0 (10 ∷ [])))

feed_end : (e : LineEnd) → EndsInFeed (print_end e)
feed_end crlf = (13 ∷ [], refl)
feed_end lf = ([], refl)

feed_fields : (a : List ℕ) (fs : List Field) → EndsInFeed a → EndsInFeed (a ++ flat_map print_field fs)
feed_fields a [] ends = subst EndsInFeed (sym (append-nil a)) ends
feed_fields a (f ∷ fs) ends =
    subst EndsInFeed (append_assoc a (print_field f) (flat_map print_field fs))
    (feed_fields (a ++ print_field f) fs (feed_after a (print_field f) (feed_after (f.name ++ 58 ∷ f.raw) (print_end f.end) (feed_end f.end))))

pub lines_end : (h : RequestHead) → EndsInFeed (lines_text h)
lines_end h =
    let lines = feed_fields (print_end h.line_end) h.fields (feed_end h.line_end) in
    feed_after (print_blank h.blank) _ (feed_after h.method _ (feed_after (32 ∷ h.target) _ (feed_after (32 ∷ print_version h.minor) _ lines)))

-- a head whose empty line is LF alone is its lines and LF
pub front_is : (front : List ℕ) (h : RequestHead) → ReadsRequest (front ++ 10 ∷ []) h [] → h.last ≡ lf → front ≡ lines_text h
front_is front h reads last =
    append_cancel_right front (lines_text h) (10 ∷ [])
    (reads.1 ∙ append-nil (print_request h) ∙ print_request-lines h ∙ ap (λ (e : LineEnd). lines_text h ++ print_end e) last)

-- the lines of a head with 64 header lines end the 65th line
pub full_lines : (front : List ℕ) (h : RequestHead) → ReadsRequest (front ++ 10 ∷ []) h [] → h.last ≡ lf
    → length h.fields ≡ 64 → EndsLine65 front
full_lines front h reads last lines =
    let same : front ≡ lines_text h = front_is front h reads last in
    subst EndsLine65 (sym same) (record {
      before = (lines_end h).0;
      text_is = (lines_end h).1;
      count = omega (arith, lines_count h reads.0, lines);
    })

snoc_last : (a b : List ℕ) (x y : ℕ) → a ++ x ∷ [] ≡ b ++ y ∷ [] → x ≡ y
snoc_last [] [] x y e = cc
snoc_last [] (v ∷ b) x y e = absurd (omega (arith, ap length e, length-append b (y ∷ [])))
snoc_last (u ∷ a) [] x y e = absurd (omega (arith, ap length e, length-append a (x ∷ [])))
snoc_last (u ∷ a) (v ∷ b) x y e = snoc_last a b x y (cc)

-- where LF stands before the last LF of a head, its empty line is LF alone
pub last_is_lf : (before : List ℕ) (h : RequestHead) → ReadsRequest ((before ++ 10 ∷ []) ++ 10 ∷ []) h [] → h.last ≡ lf
last_is_lf before h reads =
    go h.last (reads.1 ∙ append-nil (print_request h) ∙ print_request-lines h)
  where
    go : (e : LineEnd) → (before ++ 10 ∷ []) ++ 10 ∷ [] ≡ lines_text h ++ print_end e → e ≡ lf
    go lf same = refl
    go crlf same =
        let shorter : before ++ 10 ∷ [] ≡ lines_text h ++ 13 ∷ [] =
        append_cancel_right (before ++ 10 ∷ []) (lines_text h ++ 13 ∷ []) (10 ∷ [])
        (same ∙ sym (append_assoc (lines_text h) (13 ∷ []) (10 ∷ []))) in
        let bytes : 10 ≡ 13 = snoc_last before (lines_text h) 10 13 shorter in
        absurd (omega (arith, bytes))
