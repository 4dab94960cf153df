-- What a reader holds, byte by byte.
use Rattle.std.proofs.Common.{◌≡◌, ◌≢◌, ◌⊎◌, ◌==◌, ℕ, zero, suc, ◌+◌, ◌<◌, ◌≤◌, Bool, true, false, List, [], ◌∷◌, ◌++◌, All, get_or, length, take, Option, Some, None, MatchOption, inl, inr, refl, sym, ap, subst, ◌∙◌, arith}
use Rattle.std.proofs.lemmas.List.{append-nil, append_assoc, length_push, take_more}
use Rattle.std.proofs.lemmas.List.Elements.{All-nil, All-push}
use Rattle.drill_script.specs.Limits.{most_lines, most_bytes}
use Rattle.drill_script.specs.Lines.{spelling}
use Rattle.drill_script.specs.Reader.{AreGood, HasRead, Judged, Progress, SpellsNext, Weighed, first_bad}
use Rattle.drill_script.specs.Scripts.{IsFirstBad, IsNoFeed, IsOver, IsScript, StaysBad, feeds, line_text, script_text}
use Rattle.drill_script.specs.declared.line.Line.{Line}
use Rattle.drill_script.proofs.FeedLemmas.{feeds_both, never, no_feeds, reaches, same_front}
use Rattle.drill_script.proofs.OverLemmas.{none_over, not_empty, not_yet, reads_on, still_on}
use Rattle.drill_script.proofs.ScriptLemmas.{no_follower, script_last, script_more, text_more}
use Rattle.drill_script.proofs.WordLemmas.{line_lacks_feed}

-- ---- bytes behind bytes

-- what stays bad stays so with more bytes
pub stays_bad : (bytes more : List ℕ) (n : ℕ) → StaysBad bytes n → StaysBad (bytes ++ more) n
stays_bad bytes more n stays = λ rest. subst (λ (all : List ℕ). IsFirstBad all n) (sym (append_assoc bytes more rest)) (stays (more ++ rest))

-- reading that is over stays so
over_more : (bytes more : List ℕ) → IsOver bytes → IsOver (bytes ++ more)
over_more bytes more (inl long) = inl (record {
  front = long.front;
  run = long.run;
  back = long.back ++ more;
  are = ap (λ (b : List ℕ). b ++ more) long.are ∙ (append_assoc long.front (long.run ++ long.back) more ∙ ap (λ (b : List ℕ). long.front ++ b) (append_assoc long.run long.back more));
  lacks_feed = long.lacks_feed;
  long = long.long;
})
over_more bytes more (inr many) = inr (record {
  front = many.front;
  byte = many.byte;
  back = many.back ++ more;
  are = ap (λ (b : List ℕ). b ++ more) many.are ∙ append_assoc many.front (many.byte ∷ many.back) more;
  many = many.many;
})

-- ---- the first bad line

-- it is the one behind the good ones, where no line is spelled there
bad_here : (bytes : List ℕ) (lines : List Line) (line : List ℕ) (ended : ℕ) → AreGood bytes lines line ended → (rest : List ℕ) → ((line ++ rest ≢ []) ⊎ (lines ≡ []))
    → ((l : Line) (more : List ℕ) → IsScript (lines ++ l ∷ []) → line ++ rest ≢ line_text l ++ more) → IsFirstBad (bytes ++ rest) (ended + 1)
bad_here bytes lines line ended good rest left none = record {
  before = lines;
  rest = line ++ rest;
  begun = good.begun;
  are = ap (λ (b : List ℕ). b ++ rest) good.are ∙ append_assoc (script_text lines) line rest;
  left = left;
  none = none;
  at = let count = good.count in omega arith;
}

-- so it is, whatever follows a byte, where no line is spelled with that byte
stays_here : (bytes : List ℕ) (lines : List Line) (line : List ℕ) (ended byte : ℕ) → AreGood bytes lines line ended
    → ((l : Line) (rest more : List ℕ) → IsScript (lines ++ l ∷ []) → line ++ byte ∷ rest ≢ line_text l ++ more) → StaysBad (bytes ++ byte ∷ []) (ended + 1)
stays_here bytes lines line ended byte good none = λ rest.
    subst (λ (all : List ℕ). IsFirstBad all (ended + 1)) (sym (append_assoc bytes (byte ∷ []) rest))
    (bad_here bytes lines line ended good (byte ∷ rest) (inl (not_empty line byte rest)) (λ l more script. none l rest more script))

-- a line's text and what follows it
line_split : (l : Line) (more : List ℕ) → line_text l ++ more ≡ spelling l ++ 10 ∷ more
line_split l more = append_assoc (spelling l) (10 ∷ []) more

-- ---- a byte more

-- a reader that was given nothing
pub begins : HasRead [] (record { lines = []; line = []; ended = 0; bad = None; over = false })
begins = record {
  ends = λ e. record { front = []; ended_there = inl refl; are = refl; lacks_feed = All-nil IsNoFeed; count = refl };
  over = still_on false [] refl none_over;
  known = λ e. absurd cc;
  state = record { begun = inl refl; are = refl; count = refl };
}

more_known : (bytes more : List ℕ) (bad : Option ℕ) (good : Type 0) → bad ≢ None → MatchOption bad good (StaysBad bytes) → (other : Type 0) → MatchOption bad other (StaysBad (bytes ++ more))
more_known bytes more None good known state other = absurd (known refl)
more_known bytes more (Some n) good known state other = stays_bad bytes more n state

-- one that is over takes no notice
pub passes : (bytes : List ℕ) (byte : ℕ) (reader : Progress) → HasRead bytes reader → reader.over ≡ true → HasRead (bytes ++ byte ∷ []) reader
passes bytes byte reader read over = record {
  ends = λ e. let bad : true ≡ false = sym over ∙ e in absurd cc;
  over = (λ e. over_more bytes (byte ∷ []) (read.over.0 e), λ o. over);
  known = read.known;
  state = more_known bytes (byte ∷ []) reader.bad (AreGood bytes reader.lines reader.line reader.ended) (read.known over) read.state (AreGood (bytes ++ byte ∷ []) reader.lines reader.line reader.ended);
}

more_state : (bytes : List ℕ) (byte : ℕ) (lines : List Line) (line : List ℕ) (ended : ℕ) (bad : Option ℕ) → MatchOption bad (AreGood bytes lines line ended) (StaysBad bytes)
    → MatchOption bad (AreGood (bytes ++ byte ∷ []) lines (line ++ byte ∷ []) ended) (StaysBad (bytes ++ byte ∷ []))
more_state bytes byte lines line ended None good = record {
  begun = good.begun;
  are = ap (λ (b : List ℕ). b ++ byte ∷ []) good.are ∙ append_assoc (script_text lines) line (byte ∷ []);
  count = good.count;
}
more_state bytes byte lines line ended (Some n) stays = stays_bad bytes (byte ∷ []) n stays

-- one byte more of a line
pub takes : (bytes : List ℕ) (byte : ℕ) (reader : Progress) → HasRead bytes reader → reader.over ≡ false → byte ≢ 10 → reader.ended < most_lines → length reader.line < most_bytes
    → HasRead (bytes ++ byte ∷ []) (record reader { line = reader.line ++ byte ∷ [] })
takes bytes byte reader read reads feed few short =
    let ends = read.ends reads in
    record {
      ends = λ e. record {
        front = ends.front;
        ended_there = ends.ended_there;
        are = ap (λ (b : List ℕ). b ++ byte ∷ []) ends.are ∙ append_assoc ends.front reader.line (byte ∷ []);
        lacks_feed = All-push IsNoFeed reader.line byte ends.lacks_feed feed;
        count = ends.count;
      };
      over = still_on reader.over (bytes ++ byte ∷ []) reads
          (reads_on bytes byte reader.line reader.ended ends (not_yet reader.over bytes reads read.over) few (inr short));
      known = λ e. let bad : true ≡ false = sym e ∙ reads in absurd cc;
      state = more_state bytes byte reader.lines reader.line reader.ended reader.bad read.state;
    }

stopped_state : (bytes : List ℕ) (byte : ℕ) (lines : List Line) (line : List ℕ) (ended : ℕ) (bad : Option ℕ) → MatchOption bad (AreGood bytes lines line ended) (StaysBad bytes)
    → (AreGood bytes lines line ended → StaysBad (bytes ++ byte ∷ []) (ended + 1)) → (other : Type 0) → MatchOption (first_bad bad (ended + 1)) other (StaysBad (bytes ++ byte ∷ []))
stopped_state bytes byte lines line ended None good here other = here good
stopped_state bytes byte lines line ended (Some n) stays here other = stays_bad bytes (byte ∷ []) n stays

is_known : (bad : Option ℕ) (n : ℕ) → first_bad bad n ≢ None
is_known None n = λ e. cc
is_known (Some m) n = λ e. cc

-- reading that ends with a byte
stops : (bytes : List ℕ) (byte : ℕ) (reader : Progress) → HasRead bytes reader → IsOver (bytes ++ byte ∷ []) → (AreGood bytes reader.lines reader.line reader.ended → StaysBad (bytes ++ byte ∷ []) (reader.ended + 1))
    → HasRead (bytes ++ byte ∷ []) (record reader { bad = first_bad reader.bad (reader.ended + 1); over = true })
stops bytes byte reader read over here = record {
  ends = λ e. absurd cc;
  over = (λ e. over, λ o. refl);
  known = λ e. is_known reader.bad (reader.ended + 1);
  state = stopped_state bytes byte reader.lines reader.line reader.ended reader.bad read.state here (AreGood (bytes ++ byte ∷ []) reader.lines reader.line reader.ended);
}

-- there are too many lines
pub stops_many : (bytes : List ℕ) (byte : ℕ) (reader : Progress) → HasRead bytes reader → reader.over ≡ false → reader.ended ≡ most_lines
    → HasRead (bytes ++ byte ∷ []) (record reader { bad = first_bad reader.bad (reader.ended + 1); over = true })
stops_many bytes byte reader read reads full =
    let ends = read.ends reads in
    let all : feeds bytes ≡ feeds ends.front + feeds reader.line = ap feeds ends.are ∙ feeds_both ends.front reader.line in
    let count : feeds ends.front ≡ reader.ended = ends.count in
    stops bytes byte reader read (inr (record { front = bytes; byte = byte; back = []; are = refl; many = omega arith }))
    (λ good. stays_here bytes reader.lines reader.line reader.ended byte good (λ l rest more script.
    let last = script_last reader.lines l script in
    let few = last.2 in
    let same = good.count in
    absurd (omega arith)))

-- a line is too long
pub stops_long : (bytes : List ℕ) (byte : ℕ) (reader : Progress) → HasRead bytes reader → reader.over ≡ false → length reader.line ≡ most_bytes → byte ≢ 10
    → HasRead (bytes ++ byte ∷ []) (record reader { bad = first_bad reader.bad (reader.ended + 1); over = true })
stops_long bytes byte reader read reads full feed =
    let ends = read.ends reads in
    let run : All IsNoFeed (reader.line ++ byte ∷ []) = All-push IsNoFeed reader.line byte ends.lacks_feed feed in
    let size : length (reader.line ++ byte ∷ []) ≡ length reader.line + 1 = length_push reader.line byte in
    stops bytes byte reader read
    (inl (record {
      front = ends.front;
      run = reader.line ++ byte ∷ [];
      back = [];
      are = ap (λ (b : List ℕ). b ++ byte ∷ []) ends.are ∙ (append_assoc ends.front reader.line (byte ∷ []) ∙ ap (λ (b : List ℕ). ends.front ++ b) (sym (append-nil (reader.line ++ byte ∷ []))));
      lacks_feed = run;
      long = omega arith;
    }))
    (λ good. stays_here bytes reader.lines reader.line reader.ended byte good (λ l rest more script e.
    let last = script_last reader.lines l script in
    let short = (last.0).short in
    let same : (reader.line ++ byte ∷ []) ++ rest ≡ spelling l ++ 10 ∷ more = append_assoc reader.line (byte ∷ []) rest ∙ (e ∙ line_split l more) in
    let within = reaches (reader.line ++ byte ∷ []) (spelling l) rest more run same in
    omega arith))

-- ---- the end of a line

weighed_state : (bytes : List ℕ) (lines : List Line) (line : List ℕ) (ended : ℕ) → AreGood bytes lines line ended → All IsNoFeed line → length line ≤ most_bytes → ended < most_lines
    → (more : List Line) (bad : Option ℕ) → Weighed lines line (ended + 1) more bad → MatchOption bad (AreGood (bytes ++ 10 ∷ []) more [] (ended + 1)) (StaysBad (bytes ++ 10 ∷ []))
weighed_state bytes lines line ended good plain short few more None weighed =
    let l : Line = weighed.0 in
    let more_is : more ≡ lines ++ l ∷ [] = weighed.1 in
    let next : SpellsNext lines line l = weighed.2 in
    let same : line ≡ spelling l = next.are in
    let small : length (spelling l) ≤ most_bytes = subst (λ (t : List ℕ). length t ≤ most_bytes) same short in
    let count = good.count in
    let script : IsScript (lines ++ l ∷ []) = script_more lines l good.begun (record { words = next.words; fits = next.fits; short = small }) next.follows (omega arith) in
    let longer = length_push lines l in
    let text : bytes ++ 10 ∷ [] ≡ script_text (lines ++ l ∷ []) =
    ap (λ (b : List ℕ). b ++ 10 ∷ []) (good.are ∙ ap (λ (t : List ℕ). script_text lines ++ t) same) ∙ (append_assoc (script_text lines) (spelling l) (10 ∷ []) ∙ sym (text_more lines l)) in
    record {
      begun = inr (subst IsScript (sym more_is) script);
      are = text ∙ (ap script_text (sym more_is) ∙ sym (append-nil (script_text more)));
      count = ap length more_is ∙ omega arith;
    }
weighed_state bytes lines line ended good plain short few more (Some n) weighed =
    subst (λ (k : ℕ). StaysBad (bytes ++ 10 ∷ []) k) (sym weighed.0)
    (stays_here bytes lines line ended 10 good (λ l rest after script e.
    let words = ((script_last lines l script).0).words in
    let fronts = same_front line (spelling l) rest after plain (line_lacks_feed l words) (e ∙ line_split l after) in
    no_follower lines line l weighed.1 script fronts.0))

judged_state : (bytes : List ℕ) (lines : List Line) (line : List ℕ) (ended : ℕ) (bad : Option ℕ) → MatchOption bad (AreGood bytes lines line ended) (StaysBad bytes) → All IsNoFeed line → length line ≤ most_bytes
    → ended < most_lines → (more : List Line) (after : Option ℕ) → MatchOption bad (Weighed lines line (ended + 1) more after) (λ first. after ≡ Some first)
    → MatchOption after (AreGood (bytes ++ 10 ∷ []) more [] (ended + 1)) (StaysBad (bytes ++ 10 ∷ []))
judged_state bytes lines line ended None good plain short few more after weighed = weighed_state bytes lines line ended good plain short few more after weighed
judged_state bytes lines line ended (Some n) stays plain short few more after same = rw same (stays_bad bytes (10 ∷ []) n stays)

-- a line that was judged has ended
pub ends_line : (bytes : List ℕ) (old mid view : Progress) (line : List ℕ) → HasRead bytes old → old.over ≡ false → length old.line ≤ most_bytes → old.ended < most_lines → Judged old mid
    → view ≡ mid → line ≡ [] → HasRead (bytes ++ 10 ∷ []) (record view { line = line; ended = view.ended + 1 })
ends_line bytes old mid view line read reads short few judged same cleared =
    let ends = read.ends reads in
    let plain : feeds old.line ≡ 0 = no_feeds old.line ends.lacks_feed in
    let all : feeds bytes ≡ feeds ends.front + feeds old.line = ap feeds ends.are ∙ feeds_both ends.front old.line in
    let count : feeds ends.front ≡ old.ended = ends.count in
    let one : feeds (bytes ++ 10 ∷ []) ≡ feeds bytes + 1 = feeds_both bytes (10 ∷ []) in
    let over : mid.over ≡ false = judged.over ∙ reads in
    let new : HasRead (bytes ++ 10 ∷ []) (record mid { line = []; ended = old.ended + 1 }) = record {
      ends = λ e. record { front = bytes ++ 10 ∷ []; ended_there = inr (bytes, refl); are = sym (append-nil (bytes ++ 10 ∷ [])); lacks_feed = All-nil IsNoFeed; count = omega arith };
      over = still_on mid.over (bytes ++ 10 ∷ []) over
          (reads_on bytes 10 old.line old.ended ends (not_yet old.over bytes reads read.over) few (inl refl));
      known = λ e. let bad : true ≡ false = sym e ∙ over in absurd cc;
      state = judged_state bytes old.lines old.line old.ended old.bad read.state ends.lacks_feed short few mid.lines mid.bad judged.state;
    } in
    let counted = subst (λ (n : ℕ). HasRead (bytes ++ 10 ∷ []) (record mid { line = []; ended = n + 1 })) (sym judged.ended) new in
    let empty = subst (λ (l : List ℕ). HasRead (bytes ++ 10 ∷ []) (record mid { line = l; ended = mid.ended + 1 })) (sym cleared) counted in
    subst (λ (r : Progress). HasRead (bytes ++ 10 ∷ []) (record r { line = line; ended = r.ended + 1 })) (sym same) empty

-- ---- the end of the bytes

still_reads : (over : Bool) (bad : Option ℕ) → bad ≡ None → (over ≡ true → bad ≢ None) → over ≡ false
still_reads false bad none known = refl
still_reads true bad none known = absurd (known refl none)

-- what isn't some number is none
pub no_bad : (bad : Option ℕ) → ((n : ℕ) → bad ≡ Some n → ⊥) → bad ≡ None
no_bad None none = refl
no_bad (Some n) none = absurd (none n refl)

-- a bad line is known
pub finds_bad : (bytes : List ℕ) (reader : Progress) (n : ℕ) → HasRead bytes reader → reader.bad ≡ Some n → IsFirstBad bytes n
finds_bad bytes reader n read is =
    let stays : StaysBad bytes n = rw is at read.state in
    subst (λ (all : List ℕ). IsFirstBad all n) (append-nil bytes) (stays [])

-- no line is bad so far
good_so_far : (bytes : List ℕ) (reader : Progress) → HasRead bytes reader → reader.bad ≡ None → AreGood bytes reader.lines reader.line reader.ended
good_so_far bytes reader read none = rw none at read.state

what_is_left : (line : List ℕ) (lines : List Line) → (0 < length line) ⊎ (length lines ≡ 0) → (line ≢ []) ⊎ (lines ≡ [])
what_is_left line lines (inl some) = inl (λ e. let none : length line ≡ 0 = ap length e in omega arith)
what_is_left line [] (inr none) = inr refl
what_is_left line (l ∷ lines) (inr none) = absurd (omega arith)

-- a number that isn't 0
pub above_zero : (n : ℕ) (empty : Bool) → empty ≡ (n == 0) → empty ≡ false → 0 < n
above_zero zero empty is no_such = let bad : true ≡ false = sym is ∙ no_such in absurd cc
above_zero (suc n) empty is no_such = omega arith

-- there is no line, or the last one has no LF
pub finds_open : (bytes : List ℕ) (reader : Progress) → HasRead bytes reader → reader.bad ≡ None → (0 < length reader.line) ⊎ (length reader.lines ≡ 0) → IsFirstBad bytes (reader.ended + 1)
finds_open bytes reader read none left =
    let good = good_so_far bytes reader read none in
    let ends = read.ends (still_reads reader.over reader.bad none read.known) in
    record {
      before = reader.lines;
      rest = reader.line;
      begun = good.begun;
      are = good.are;
      left = what_is_left reader.line reader.lines left;
      none = λ l more script e. never reader.line (spelling l) more ends.lacks_feed (e ∙ line_split l more);
      at = let count = good.count in omega arith;
    }

-- ---- a piece, byte by byte

-- a byte more of a piece
pub piece_more : (bytes piece : List ℕ) (i : ℕ) → i < length piece → (bytes ++ take i piece) ++ get_or piece i 0 ∷ [] ≡ bytes ++ take (i + 1) piece
piece_more bytes piece i low = append_assoc bytes (take i piece) (get_or piece i 0 ∷ []) ∙ ap (λ (t : List ℕ). bytes ++ t) (sym (take_more piece i 0 low))
