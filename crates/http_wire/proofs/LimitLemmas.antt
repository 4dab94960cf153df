-- What line 65 excludes, and what shows it.
use Rattle.std.proofs.Common.{◌≡◌, ℕ, ◌+◌, ◌<◌, ◌≤◌, true, false, List, [], ◌∷◌, ◌++◌, length, take, drop, get_or, inl, inr, refl, sym, ap, ◌∙◌, subst, arith, append_assoc, append-nil, length-append, take-append-drop, length-take, length-drop, get_or-drop, add-zero}
use Rattle.std.specs.Prelude.{All, IsTrue, ◌↔◌, ◌⊎◌, ◌&&◌, ◌==◌}
use Rattle.std.specs.List.{flat_map}
use Rattle.std.proofs.lemmas.Bool.{false≢true, and_parts, and_from, eqb-true, eq-eqb, both_ways}
use Rattle.std.proofs.lemmas.List.{length-map, take_all, append_cancel_left, drop_all, drop_more}
use Rattle.std.proofs.lemmas.List.Elements.{All-head, All-take, All-drop}
use Rattle.httparse.specs.Grammar.{AllPass, is_token_byte, lf, LineEnd, print_end, print_blank, print_version, Field, print_field, IsField, RequestHead, print_request, IsRequestHead, ReadsRequest, HasNoRequest, NeverHasRequest}
use Rattle.httparse.specs.Pieces.{is_newline, RequestStart, Section}
use Rattle.httparse.specs.Spans.{RequestExceeds, IsRequestAt, IsRequestOf, IsRequestWithin, header_bytes, name_and_value}
use Rattle.httparse.specs.declared.spans.HeaderSpan.{HeaderSpan}
use Rattle.httparse.specs.declared.spans.RequestSpans.{RequestSpans}
use Rattle.httparse.proofs.PieceLemmas.{Stops_token, RequestStart_deterministic, Section_skip, newline_not_stopped, token_is_no_newline}
use Rattle.httparse.proofs.GrammarLemmas.{ReadsRequest-append, request_unique, request_tree, request_pieces}
use Rattle.http_wire.specs.Heads.{BeginsHead, HasLine65, IsFullHead}
use Rattle.http_wire.specs.Lines.{EndsLine65, NoLine65, Line65EndsAt}
use Rattle.http_wire.proofs.FeedLemmas.{ends_unique}
use Rattle.http_wire.proofs.LineLemmas.{lines_text, print_request-lines, front_is, full_lines, last_is_lf}

-- more bytes leave line 65 there
pub line_65-append : (text more : List ℕ) → HasLine65 text → HasLine65 (text ++ more)
line_65-append text more has = record {
  front = has.front;
  byte = has.byte;
  rest = has.rest ++ more;
  text_is = ap (λ (t : List ℕ). t ++ more) has.text_is ∙ append_assoc has.front (has.byte ∷ has.rest) more;
  full = has.full;
  last = has.last;
  more = has.more;
}

-- the lines in front of line 65 end the 65th line
pub front_ends : (text : List ℕ) (has : HasLine65 text) → EndsLine65 has.front
front_ends text has = full_lines has.front has.full.head has.full.reads has.last has.full.lines

-- the byte that ends a longer text can be left off behind a byte in it
cut_last : (a : List ℕ) (b : ℕ) (w front : List ℕ) (z : ℕ) → a ++ b ∷ w ≡ front ++ z ∷ [] → 0 < length w
    → (q : List ℕ) × (front ≡ a ++ b ∷ q)
cut_last [] b w [] z e some = absurd (omega (arith, ap length e, some))
cut_last [] b w (v ∷ front) z e some = (front, cc)
cut_last (u ∷ a) b w [] z e some = absurd (omega (arith, ap length e, length-append a (b ∷ w)))
cut_last (u ∷ a) b w (v ∷ front) z e some = let r = cut_last a b w front z (cc) some in (r.0, cc)

-- the head that the first 64 header lines make
abbrev first_lines : RequestHead → RequestHead
first_lines h = record h { fields = take 64 h.fields; last = lf }

first_reads : (h : RequestHead) → IsRequestHead h → ReadsRequest (lines_text (first_lines h) ++ 10 ∷ []) (first_lines h) []
first_reads h is = (
  record {
    method = is.method;
    target = is.target;
    target_text = is.target_text;
    minor = is.minor;
    fields = All-take IsField 64 h.fields is.fields;
  },
  sym (print_request-lines (first_lines h)) ∙ sym (append-nil (print_request (first_lines h))),
)

flat_map-append : (fs gs : List Field) → flat_map print_field (fs ++ gs) ≡ flat_map print_field fs ++ flat_map print_field gs
flat_map-append [] gs = refl
flat_map-append (f ∷ fs) gs =
    ap (λ (t : List ℕ). print_field f ++ t) (flat_map-append fs gs) ∙ sym (append_assoc (print_field f) (flat_map print_field fs) (flat_map print_field gs))

-- the lines of a head, and those of it that came first
split_lines : (h : RequestHead) → lines_text h ≡ lines_text (first_lines h) ++ flat_map print_field (drop 64 h.fields)
split_lines h =
    ap (λ (fs : List Field). lines_text (record h { fields = fs })) (sym (take-append-drop 64 h.fields))
    ∙ ap (λ (t : List ℕ). print_blank h.blank ++ (h.method ++ 32 ∷ (h.target ++ 32 ∷ (print_version h.minor ++ (print_end h.line_end ++ t))))) (flat_map-append (take 64 h.fields) (drop 64 h.fields))
    ∙ regroup (print_blank h.blank) h.method h.target (print_version h.minor) (print_end h.line_end) (flat_map print_field (take 64 h.fields)) (flat_map print_field (drop 64 h.fields))
  where
    regroup : (a b c d e f g : List ℕ) → a ++ (b ++ 32 ∷ (c ++ 32 ∷ (d ++ (e ++ (f ++ g))))) ≡ (a ++ (b ++ 32 ∷ (c ++ 32 ∷ (d ++ (e ++ f))))) ++ g
    regroup a b c d e f g = simp append_assoc

-- the first byte of a field line, and what follows it
line_byte : (g : Field) → IsField g → (b : ℕ) × (w : List ℕ) × (print_field g ≡ b ∷ w) × (is_newline b ≡ false) × (0 < length w)
line_byte g is = go g.name is.name.0 is.name.1
  where
    go : (name : List ℕ) → 0 < length name → AllPass is_token_byte name
        → (b : ℕ) × (w : List ℕ) × (name ++ 58 ∷ g.raw ++ print_end g.end ≡ b ∷ w) × (is_newline b ≡ false) × (0 < length w)
    go [] some all = absurd (omega arith)
    go (b ∷ name) some all =
        let long = length-append (name ++ 58 ∷ g.raw) (print_end g.end) in
        (b, name ++ 58 ∷ g.raw ++ print_end g.end, refl, token_is_no_newline b (All-head (λ v. is_token_byte v ≡ true) b name all), omega (arith, long, length-append name (58 ∷ g.raw)))

-- more header lines than 64 show line 65
pub exceeds_line_65 : (text : List ℕ) → RequestExceeds 64 text → HasLine65 text
exceeds_line_65 text (front, rest, text_is, h, reads, over) = go (drop 64 h.fields) refl
  where
    go : (gs : List Field) → drop 64 h.fields ≡ gs → HasLine65 text
    go [] none = absurd (omega (arith, ap length none, length-drop 64 h.fields, over))
    go (g ∷ gs) some =
        let is : IsField g = All-head IsField g gs (subst (All IsField) some (All-drop IsField 64 h.fields reads.0.fields)) in
        let line = line_byte g is in
        let tail : List ℕ = flat_map print_field gs ++ print_end h.last in
        let first : lines_text (first_lines h) ++ line.0 ∷ (line.1 ++ tail) ≡ front ++ 10 ∷ [] =
        sym (reads.1 ∙ append-nil (print_request h) ∙ print_request-lines h
        ∙ ap (λ (t : List ℕ). t ++ print_end h.last) (split_lines h ∙ ap (λ (t : List Field). lines_text (first_lines h) ++ flat_map print_field t) some)
        ∙ append_assoc (lines_text (first_lines h)) (print_field g ++ flat_map print_field gs) (print_end h.last)
        ∙ ap (λ (t : List ℕ). lines_text (first_lines h) ++ t) (append_assoc (print_field g) (flat_map print_field gs) (print_end h.last) ∙ ap (λ (t : List ℕ). t ++ tail) line.2)) in
        let cut = cut_last (lines_text (first_lines h)) line.0 (line.1 ++ tail) front 10 first (omega (arith, line.4, length-append line.1 tail)) in
        record {
          front = lines_text (first_lines h);
          byte = line.0;
          rest = cut.0 ++ rest;
          text_is = text_is ∙ ap (λ (t : List ℕ). t ++ rest) cut.1 ∙ append_assoc (lines_text (first_lines h)) (line.0 ∷ cut.0) rest;
          full = record {
            head = first_lines h;
            reads = first_reads h reads.0;
            lines = length-take 64 h.fields ∙ omega (arith, over);
          };
          last = refl;
          more = line.3;
        }

-- the start line of a head, before other bytes than its own
start_pieces : (h : RequestHead) (rest : List ℕ) → IsRequestHead h
    → RequestStart (request_tree h).0 (lines_text (record h { fields = [] }) ++ rest) rest
start_pieces h rest is = (
  _,
  (regroup (print_blank h.blank) h.method h.target (print_version h.minor) (print_end h.line_end) rest, Stops_token h.method _ is.method.0 is.method.1),
  (_, (is.method.0, is.method.1, refl), (_, ((is.target.0, is.target.1, refl), is.target_text), (_, (is.minor, refl), refl))),
)
  where
    regroup : (a b c d e r : List ℕ)
        → (a ++ (b ++ 32 ∷ (c ++ 32 ∷ (d ++ (e ++ []))))) ++ r ≡ a ++ (b ++ 32 ∷ (c ++ 32 ∷ (d ++ (e ++ r))))
    regroup a b c d e r = simp (append_assoc, append-nil)

-- a head within the limits has no line 65
pub whole_or_line_65 : (text after : List ℕ) (h : RequestHead) → BeginsHead text h after → HasLine65 text → ⊥
whole_or_line_65 text after h begins has =
    let k = has.full.head in
    let is : IsRequestHead k = has.full.reads.0 in
    let fields = flat_map print_field k.fields in
    let middle : List ℕ = fields ++ has.byte ∷ has.rest in
    let text_is : text ≡ lines_text (record k { fields = [] }) ++ middle =
    has.text_is ∙ ap (λ (t : List ℕ). t ++ has.byte ∷ has.rest) (front_is has.front k has.full.reads has.last)
    ∙ regroup (print_blank k.blank) k.method k.target (print_version k.minor) (print_end k.line_end) fields (has.byte ∷ has.rest) in
    let start : RequestStart (request_tree k).0 text middle =
    subst (λ (t : List ℕ). RequestStart (request_tree k).0 t middle) (sym text_is) (start_pieces k middle is) in
    let pieces = request_pieces text h after begins.reads in
    let same = RequestStart_deterministic.unique (request_tree k).0 (request_tree h).0 text middle pieces.0 start pieces.1 in
    let skipped = Section_skip k.fields h.fields h.last middle (has.byte ∷ has.rest) after (is.fields, refl)
    (subst (λ (m : List ℕ). Section (h.fields, h.last) m after) (sym same.1) pieces.2) in
    let long : length h.fields ≡ length k.fields + length skipped.0 = ap length skipped.1 ∙ length-append k.fields skipped.0 in
    go skipped.0 h.last (omega (arith, long, begins.lines, has.full.lines)) skipped.2
  where
    regroup : (a b c d e f r : List ℕ) → (a ++ (b ++ 32 ∷ (c ++ 32 ∷ (d ++ (e ++ f))))) ++ r
        ≡ (a ++ (b ++ 32 ∷ (c ++ 32 ∷ (d ++ (e ++ []))))) ++ (f ++ r)
    regroup a b c d e f r = simp (append_assoc, append-nil)

    go : (hs : List Field) (last : LineEnd) → length hs ≤ 0 → Section (hs, last) (has.byte ∷ has.rest) after → ⊥
    go [] last none section = newline_not_stopped last after (has.byte ∷ has.rest) (sym section.1) has.more
    go (f ∷ hs) last none section = absurd (omega (arith, none))

-- a text without a head has none in its first bytes
pub none_in_front : (n : ℕ) (text : List ℕ) → HasNoRequest text → HasNoRequest (take n text)
none_in_front n text none h rest reads =
    none h (rest ++ drop n text) (subst (λ (t : List ℕ). ReadsRequest t h (rest ++ drop n text)) (take-append-drop n text) (ReadsRequest-append (take n text) h rest (drop n text) reads))

-- as many fields as spans
fields_counted : (buf : List ℕ) (headers : List HeaderSpan) (r : RequestSpans) (h : RequestHead)
    → r.headers ≤ length headers → IsRequestAt buf headers r h → length h.fields ≡ r.headers
fields_counted buf headers r h fits at =
    let spans = length-map (take r.headers headers) (header_bytes buf) in
    let names = length-map h.fields name_and_value in
    omega (arith, spans, names, ap length at.fields, length-take r.headers headers, fits)

-- the parser's answer on a text says whether the text is a head with 64 header lines
pub full_iff : (buf : List ℕ) (headers : List HeaderSpan) (r : RequestSpans) → length headers ≡ 64
    → IsRequestWithin buf headers r → IsRequestOf buf headers r
    → IsTrue ((r.len == length buf) && (r.headers == 64)) ↔ IsFullHead buf
full_iff buf headers r room within (h, at) = (there, back)
  where
    there : IsTrue ((r.len == length buf) && (r.headers == 64)) → IsFullHead buf
    there test =
        let both = and_parts (r.len == length buf) (r.headers == 64) test in
        let all = eqb-true r.len (length buf) both.0 in
        record {
          head = h;
          reads = subst (λ (t : List ℕ). ReadsRequest buf h t) (drop_all r.len buf (omega (arith, all))) at.reads;
          lines = fields_counted buf headers r h within.section.count_fits at ∙ eqb-true r.headers 64 both.1;
        }

    back : IsFullHead buf → IsTrue ((r.len == length buf) && (r.headers == 64))
    back full =
        let same = request_unique buf h full.head (drop r.len buf) [] at.reads full.reads in
        let all : length (drop r.len buf) ≡ 0 = ap length same.1 in
        let long : r.len ≡ length buf = omega (arith, all, length-drop r.len buf, within.section.len_fits) in
        let lines : length h.fields ≡ 64 = ap (λ (k : RequestHead). length k.fields) same.0 ∙ full.lines in
        and_from (r.len == length buf) (r.headers == 64) (eq-eqb r.len (length buf) long)
        (eq-eqb r.headers 64 (sym (fields_counted buf headers r h within.section.count_fits at) ∙ lines))

-- where the 65th line does not end, or nothing follows that begins a line, there is no line 65
pub no_line_65 : (text : List ℕ) → NoLine65 text → HasLine65 text → ⊥
no_line_65 text none has = none has.front (has.byte ∷ has.rest) has.text_is (front_ends text has)

-- line 65 begins where the 65th line ends
line_65_place : (text : List ℕ) (n : ℕ) → Line65EndsAt text n → (has : HasLine65 text)
    → (take n text ≡ has.front) × (drop n text ≡ has.byte ∷ has.rest)
line_65_place text n ends has =
    let front : take n text ≡ has.front =
    ends_unique (take n text) has.front (drop n text) (has.byte ∷ has.rest) (take-append-drop n text ∙ has.text_is) ends.ends (front_ends text has) in (
      front,
      append_cancel_left has.front (drop n text) (has.byte ∷ has.rest)
          (ap (λ (t : List ℕ). t ++ drop n text) (sym front) ∙ take-append-drop n text ∙ has.text_is),
    )

line_byte_is : (text : List ℕ) (n : ℕ) → Line65EndsAt text n → (has : HasLine65 text) → get_or text n 0 ≡ has.byte
line_byte_is text n ends has =
    let place = line_65_place text n ends has in
    sym (get_or-drop n text 0 0 ∙ ap (λ (k : ℕ). get_or text k 0) (add-zero n)) ∙ ap (λ (t : List ℕ). get_or t 0 0) place.1

pub line_65_elsewhere : (text : List ℕ) (n : ℕ) → Line65EndsAt text n
    → (n ≡ length text) ⊎ (is_newline (get_or text n 0) ≡ true) → HasLine65 text → ⊥
line_65_elsewhere text n ends (inl at_end) has =
    let place = line_65_place text n ends has in
    omega (arith, ap length place.1, length-drop n text, at_end)
line_65_elsewhere text n ends (inr newline) has =
    let byte : get_or text n 0 ≡ has.byte = line_byte_is text n ends has in
    both_ways (is_newline has.byte) has.more (ap is_newline (sym byte) ∙ newline)

-- the lines that end there decide
pub line_65_at : (text : List ℕ) (n : ℕ) → Line65EndsAt text n → n < length text → is_newline (get_or text n 0) ≡ false
    → IsFullHead (take n text ++ print_end lf) ↔ HasLine65 text
line_65_at text n ends inside more = (there, back)
  where
    there : IsFullHead (take n text ++ print_end lf) → HasLine65 text
    there full = record {
      front = take n text;
      byte = get_or text n 0;
      rest = drop (n + 1) text;
      text_is = sym (take-append-drop n text) ∙ ap (λ (t : List ℕ). take n text ++ t) (drop_more text n 0 inside);
      full = full;
      last = last_is_lf ends.ends.before full.head
          (subst (λ (t : List ℕ). ReadsRequest (t ++ 10 ∷ []) full.head []) ends.ends.text_is full.reads);
      more = more;
    }

    back : HasLine65 text → IsFullHead (take n text ++ print_end lf)
    back has = subst (λ (t : List ℕ). IsFullHead (t ++ print_end lf)) (sym (line_65_place text n ends has).0) has.full

-- a text with which no head begins, as far as it is judged
pub never_in_front : (text : List ℕ) → length text < 65536 → NeverHasRequest text → NeverHasRequest (take 65535 text)
never_in_front text short never = subst NeverHasRequest (sym (take_all 65535 text (omega (arith, short)))) never

pub none_if_never : (text : List ℕ) → NeverHasRequest text → HasNoRequest text
none_if_never text never h rest reads = never [] h rest (subst (λ (t : List ℕ). ReadsRequest t h rest) (sym (append-nil text)) reads)

-- an answer of no
pub no_iff : {P : Type 0} → (P → ⊥) → IsTrue false ↔ P
no_iff none = (λ e. absurd (false≢true e), λ p. absurd (none p))
