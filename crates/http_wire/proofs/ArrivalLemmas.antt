-- Pieces that come one after the other.
use Rattle.std.proofs.Common.{◌≡◌, ℕ, ◌<◌, List, [], ◌∷◌, ◌++◌, length, take, drop, inl, inr, refl, sym, ap, ◌∙◌, subst, arith, append_assoc, append-nil, length-append, length-take, take-append-drop}
use Rattle.std.proofs.lemmas.List.{take_all, drop_at}
use Rattle.fault_base.specs.Counts.{Rose}
use Rattle.httparse.specs.Grammar.{RequestHead, print_request}
use Rattle.http_wire.specs.Heads.{BeginsHead, IsOpen}
use Rattle.http_wire.specs.Parts.{HeadParts, parts_of}
use Rattle.http_wire.specs.Framing.{SaysLength, SaysNoLength, IsChunked}
use Rattle.http_wire.specs.Taking.{CameBehind, SourceView, TakenNone}
use Rattle.http_wire.specs.Answers.{Came, HasNoLength, HasChunks}
use Rattle.http_wire.proofs.SourceLemmas.{taken_both, taken_none, taken_still}

-- nothing came yet
pub came_none : (before : List ℕ) (source : SourceView) → Came before before source source
came_none before source = record {
  piece = [];
  text_is = sym (append-nil before);
  took = taken_none source;
  asked = inl refl;
}

-- what is short is judged whole
pub open_short : (text : List ℕ) → IsOpen (take 65536 text) → length text < 65536
open_short text is_open = omega (arith, is_open.short, length-take 65536 text)

pub open_whole : (text : List ℕ) → IsOpen (take 65536 text) → IsOpen text
open_whole text is_open = subst IsOpen (take_all 65536 text (omega (arith, open_short text is_open))) is_open

-- one piece more came behind what was open
pub came_more : (before mid text : List ℕ) (source between after : SourceView) (n : ℕ) → Came before mid source between
    → IsOpen (take 65536 mid) → CameBehind n mid text between after → Came before text source after
came_more before mid text source between after n came is_open behind = record {
  piece = came.piece ++ behind.piece;
  text_is = behind.new_is ∙ ap (λ (t : List ℕ). t ++ behind.piece) came.text_is ∙ append_assoc before came.piece behind.piece;
  took = taken_both came.piece behind.piece source between after came.took behind.took;
  asked = inr (record {
    asked = mid;
    last = behind.piece;
    text_is = behind.new_is;
    reached = omega (arith, ap length came.text_is, length-append before came.piece);
    was_open = open_whole mid is_open;
    most = omega (arith, behind.size, behind.most);
  });
}

-- nothing was taken
pub came_still : (before mid text : List ℕ) (source between after : SourceView) → Came before mid source between
    → text ≡ mid → TakenNone between after → Came before text source after
came_still before mid text source between after came same still =
    subst (λ (t : List ℕ). Came before t source after) (sym same) (record {
      piece = came.piece;
      text_is = came.text_is;
      took = taken_still came.piece source between after came.took still;
      asked = came.asked;
    })

-- a count that rose since, and stood until then
pub rose_since : (first mid last : ℕ) → mid ≡ first → Rose mid last → Rose first last
rose_since first mid last same rose = subst (λ (n : ℕ). Rose n last) same rose

-- no byte came
pub came_nothing : (mid text : List ℕ) (between after : SourceView) → CameBehind 0 mid text between after → text ≡ mid
came_nothing mid text between after behind =
    behind.new_is ∙ ap (λ (t : List ℕ). mid ++ t) (no_bytes behind.piece behind.size) ∙ append-nil mid
  where
    no_bytes : (piece : List ℕ) → length piece ≡ 0 → piece ≡ []
    no_bytes [] none = refl
    no_bytes (b ∷ piece) none = absurd (omega (arith, none))

-- a head that the first bytes hold
pub begins_whole : (text : List ℕ) (n : ℕ) (h : RequestHead) → n ≡ length (print_request h)
    → BeginsHead (take 65536 text) h (drop n (take 65536 text)) → BeginsHead text h (drop n text)
begins_whole text n h len begins = record {
  reads = (begins.reads.0, whole);
  bytes = begins.bytes;
  lines = begins.lines;
}
  where
    rest : List ℕ
    rest = drop n (take 65536 text) ++ drop 65536 text

    joined : text ≡ print_request h ++ rest
    joined = sym (take-append-drop 65536 text) ∙ ap (λ (t : List ℕ). t ++ drop 65536 text) begins.reads.1
        ∙ append_assoc (print_request h) (drop n (take 65536 text)) (drop 65536 text)

    whole : text ≡ print_request h ++ drop n text
    whole = joined ∙ ap (λ (t : List ℕ). print_request h ++ t) (sym (ap (drop n) joined ∙ drop_at (print_request h) rest n (sym len)))

pub no_length : (text after : List ℕ) (head : HeadParts) (h : RequestHead) → head ≡ parts_of h → BeginsHead text h after
    → SaysNoLength head.lines → HasNoLength text
no_length text after head h parts begins says = record {
  tree = h;
  after = after;
  begins = begins;
  says = subst (λ (p : HeadParts). SaysNoLength p.lines) parts says;
}

pub has_chunks : (text after : List ℕ) (head : HeadParts) (h : RequestHead) (n : ℕ) → head ≡ parts_of h
    → BeginsHead text h after → SaysLength head.lines n → IsChunked head.lines → HasChunks text
has_chunks text after head h n parts begins says chunked = record {
  tree = h;
  after = after;
  begins = begins;
  stated = n;
  says = subst (λ (p : HeadParts). SaysLength p.lines n) parts says;
  chunked = subst (λ (p : HeadParts). IsChunked p.lines) parts chunked;
}
