-- Words, and texts that are parted at their spaces.
use Rattle.std.proofs.Common.{◌≡◌, ◌≢◌, ◌==◌, ℕ, ◌<◌, true, false, List, [], ◌∷◌, All, IsUtf8, get_or, length, ne_eqb, refl, sym, ap, subst, ◌∙◌, inl, inr, arith}
use Rattle.std.specs.List.{join_with_byte}
use Rattle.std.specs.Borrow.{Bor}
use Rattle.std.proofs.lemmas.List.{get_or-map, length-map}
use Rattle.std.proofs.lemmas.List.Elements.{All-append, All-cons, All-head, All-map, All-nil, All-tail}
use Rattle.std.proofs.lemmas.List.Splits.{join_with_byte-slice_split, slice_split_at, slice_split_none}
use Rattle.std.proofs.lemmas.Str.{IsUtf8-from_ascii}
use Rattle.std.proofs.lemmas.Str.Ascii.{IsAscii-from_all}
use Rattle.drill_script.specs.Lines.{IsWord, IsWordByte, pieces, spelling, texts_of, words_of}
use Rattle.drill_script.specs.Reader.{SpellsNext}
use Rattle.drill_script.specs.Reads.{IsTextOf, ReadsText, ReadsWords}
use Rattle.drill_script.specs.Scripts.{IsNoFeed}
use Rattle.drill_script.specs.declared.line.Line.{Line}
use Rattle.fault_base.specs.declared.memory.NoMemory.{NoMemory}
use Rattle.std.specs.Prelude.{Option, Some, None, Result, Ok, Err, IfOk}

-- ---- bytes of words

pub no_space : (b : ℕ) → IsWordByte b → b ≢ 32
no_space b (inl h) = λ e. omega arith
no_space b (inr (inl h)) = λ e. omega arith
no_space b (inr (inr (inl h))) = λ e. omega arith
no_space b (inr (inr (inr (inl h)))) = λ e. omega arith
no_space b (inr (inr (inr (inr (inl h))))) = λ e. omega arith
no_space b (inr (inr (inr (inr (inr (inl h)))))) = λ e. omega arith
no_space b (inr (inr (inr (inr (inr (inr h)))))) = λ e. omega arith

pub no_feed : (b : ℕ) → IsWordByte b → b ≢ 10
no_feed b (inl h) = λ e. omega arith
no_feed b (inr (inl h)) = λ e. omega arith
no_feed b (inr (inr (inl h))) = λ e. omega arith
no_feed b (inr (inr (inr (inl h)))) = λ e. omega arith
no_feed b (inr (inr (inr (inr (inl h))))) = λ e. omega arith
no_feed b (inr (inr (inr (inr (inr (inl h)))))) = λ e. omega arith
no_feed b (inr (inr (inr (inr (inr (inr h)))))) = λ e. omega arith

pub is_low : (b : ℕ) → IsWordByte b → b < 128
is_low b (inl h) = omega arith
is_low b (inr (inl h)) = omega arith
is_low b (inr (inr (inl h))) = omega arith
is_low b (inr (inr (inr (inl h)))) = omega arith
is_low b (inr (inr (inr (inr (inl h))))) = omega arith
is_low b (inr (inr (inr (inr (inr (inl h)))))) = omega arith
is_low b (inr (inr (inr (inr (inr (inr h)))))) = omega arith

-- ---- words with a space between each two

-- what holds of a space and of each byte of a word holds of each byte
pub joined : (P : ℕ → Type 0) → P 32 → ((b : ℕ) → IsWordByte b → P b) → (words : List (List ℕ)) → All IsWord words → All P (join_with_byte 32 words)
joined P space byte [] all = All-nil P
joined P space byte (w ∷ []) all = λ k d low. byte _ ((All-head IsWord w [] all).bytes k d low)
joined P space byte (w ∷ v ∷ more) all =
    let front : All P w = λ k d low. byte _ ((All-head IsWord w (v ∷ more) all).bytes k d low) in
    let back : All P (join_with_byte 32 (v ∷ more)) = joined P space byte (v ∷ more) (All-tail IsWord w (v ∷ more) all) in
    All-append P w (32 ∷ join_with_byte 32 (v ∷ more)) front (All-cons P 32 (join_with_byte 32 (v ∷ more)) space back)

-- a word has no space
unparted : (w : List ℕ) → IsWord w → All (λ b. (b == 32) ≡ false) w
unparted w is = λ k d low. ne_eqb _ 32 (no_space _ (is.bytes k d low))

-- words that were joined are parted again
pub parted : (w : List ℕ) (more : List (List ℕ)) → All IsWord (w ∷ more) → pieces (join_with_byte 32 (w ∷ more)) ≡ w ∷ more
parted w [] all = slice_split_none (λ b. b == 32) w (unparted w (All-head IsWord w [] all))
parted w (v ∷ more) all =
    slice_split_at (λ b. b == 32) w 32 (join_with_byte 32 (v ∷ more)) (unparted w (All-head IsWord w (v ∷ more) all)) refl
    ∙ ap (λ (x : List (List ℕ)). w ∷ x) (parted v more (All-tail IsWord w (v ∷ more) all))

-- ---- lines

-- the pieces of a line's text are its words
pub line_parted : (line : Line) → All IsWord (words_of line) → pieces (spelling line) ≡ words_of line
line_parted line all = parted _ _ all

-- a line has no LF
pub line_lacks_feed : (line : Line) → All IsWord (words_of line) → All IsNoFeed (spelling line)
line_lacks_feed line all = joined IsNoFeed (λ e. omega arith) no_feed (words_of line) all

-- and is UTF-8
pub line_is_text : (line : Line) → All IsWord (words_of line) → IsUtf8 (spelling line)
line_is_text line all = IsUtf8-from_ascii (spelling line) (IsAscii-from_all (spelling line) (joined (λ b. b < 128) (omega arith) is_low (words_of line) all))

-- a text that isn't UTF-8 is that of no line
pub no_text : (text : List ℕ) → (IsUtf8 text → ⊥) → (line : Line) → IsTextOf text line → ⊥
no_text text none line is = none (subst IsUtf8 (sym is.are) (line_is_text line is.words))

-- the pieces of the text of a line
pub text_parted : (text : List ℕ) (line : Line) → IsTextOf text line → pieces text ≡ words_of line
text_parted text line is = ap pieces is.are ∙ line_parted line is.words

-- a text whose pieces aren't words is that of no line
pub no_words : (text : List ℕ) (words : List (List ℕ)) → words ≡ pieces text → (All IsWord words → false ≡ true) → (line : Line) → IsTextOf text line → ⊥
no_words text words are none line is = let bad : false ≡ true = none (subst (All IsWord) (sym (are ∙ text_parted text line is)) is.words) in cc

-- words that were read as a line spell it
pub text_read : (text : List ℕ) (words : List (List ℕ)) (read : Option Line) → words ≡ pieces text → All IsWord words → ReadsWords words read → ReadsText text read
text_read text words None are all none = λ line is. none line is.fits (are ∙ text_parted text line is)
text_read text words (Some line) are all is = record {
  words = subst (All IsWord) is.1 all;
  fits = is.0;
  are = sym (join_with_byte-slice_split 32 text) ∙ ap (join_with_byte 32) (sym are ∙ is.1);
}

-- the same of an answer that may be want of memory
pub text_answered : (text : List ℕ) (words : List (List ℕ)) (answer : Result (Option Line) NoMemory) → words ≡ pieces text → All IsWord words → IfOk answer (ReadsWords words) → IfOk answer (ReadsText text)
text_answered text words (Ok read) are all is = text_read text words read are all is
text_answered text words (Err fault) are all is = tt

-- ---- whether texts are words

-- texts of which one is no word aren't words
pub one_other : (texts : List (Bor (List ℕ))) (i : ℕ) (d : Bor (List ℕ)) → i < length texts → (IsWord (get_or texts i d).now → false ≡ true) → All IsWord (texts_of texts) → false ≡ true
one_other texts i d low none all =
    let long : length (texts_of texts) ≡ length texts = length-map texts (λ (t : Bor (List ℕ)). t.now) in
    none (subst IsWord (get_or-map (λ (t : Bor (List ℕ)). t.now) texts i d [] low) (all i [] (omega arith)))

-- texts of which each is a word
pub all_words : (texts : List (Bor (List ℕ))) → All (λ (t : Bor (List ℕ)). IsWord t.now) texts → All IsWord (texts_of texts)
all_words texts all = All-map IsWord (λ (t : Bor (List ℕ)). t.now) texts all

-- ---- a line that may stand where it is

-- bytes that aren't UTF-8 are those of no line
pub no_next : (before : List Line) (bytes : List ℕ) → (IsUtf8 bytes → ⊥) → (line : Line) → SpellsNext before bytes line → ⊥
no_next before bytes none line next = no_text bytes none line (record { words = next.words; fits = next.fits; are = next.are })
