-- Bytes spell one script at most, or have one first bad line.
use Rattle.std.proofs.Common.{◌≡◌, ◌≢◌, ◌⊎◌, ℕ, true, false, List, [], ◌∷◌, ◌++◌, All, Option, Some, None, length, codes, decimal, inl, inr, refl, sym, ap, subst, ◌∙◌, arith}
use Rattle.std.proofs.lemmas.Fmt.{decimal_injective}
use Rattle.std.proofs.lemmas.List.{append-nil, append_assoc, length-append}
use Rattle.std.proofs.lemmas.List.Elements.{All-cons, All-head, All-nil, All-tail}
use Rattle.call_types.specs.declared.names.Mode.{Mode}
use Rattle.call_types.specs.declared.names.Mode.TheVariants.{Never, Enabled, Suspended}
use Rattle.call_types.specs.declared.names.VersionName.{VersionName}
use Rattle.call_types.specs.declared.names.VersionName.TheVariants.{Null, Id}
use Rattle.stamp_id.specs.VersionId.{IdTextsAreInjective, id_text}
use Rattle.stamp_id.specs.declared.version.VersionId.{VersionId}
use Rattle.uuid.proofs.TextLemmas.{by_index_length}
use Rattle.drill_script.specs.Lines.{Fits, IsWord, fields_of, kind_of, kind_word, mode_word, pieces, spelling, version_word, words_of}
use Rattle.drill_script.specs.Reader.{MayFollow, ReadsNext, SpellsNext}
use Rattle.drill_script.specs.Reads.{IsPlaced, IsTextOf}
use Rattle.drill_script.specs.Scripts.{IsBegun, IsEventLine, IsFirstBad, IsScript, IsSound, NoneIsBad, OneIsFirst, SpellOne, drives_of, line_text, script_text}
use Rattle.drill_script.specs.declared.line.Line.{Line}
use Rattle.drill_script.specs.declared.line.Line.TheVariants.{Set, Put, Fill, Get, GetVersion, Range, Delete, DeleteVersion, Go, Run, UpTo, Lose, Back, Hurt, Fuse, Stop}
use Rattle.drill_script.proofs.FeedLemmas.{same_front}
use Rattle.drill_script.proofs.KindLemmas.{kinds_are_one}
use Rattle.drill_script.proofs.WordLemmas.{line_lacks_feed, line_parted}

-- ---- a text is that of one line at most

modes_are_one : (a b : Mode) → mode_word a ≡ mode_word b → a ≡ b
modes_are_one Never Never e = refl
modes_are_one Never Enabled e = absurd cc
modes_are_one Never Suspended e = absurd cc
modes_are_one Enabled Never e = absurd cc
modes_are_one Enabled Enabled e = refl
modes_are_one Enabled Suspended e = absurd cc
modes_are_one Suspended Never e = absurd cc
modes_are_one Suspended Enabled e = absurd cc
modes_are_one Suspended Suspended e = refl

-- the text of an id isn't `null`
not_null : (v : VersionId) → codes "null" ≢ id_text v
unfolding id_text
not_null v = λ e. let long : length (id_text v) ≡ 36 = by_index_length 36 _ in let short : 4 ≡ length (id_text v) = ap length e in omega arith

versions_are_one : IdTextsAreInjective → (a b : VersionName) → version_word a ≡ version_word b → a ≡ b
versions_are_one texts Null Null e = refl
versions_are_one texts Null (Id w) e = absurd (not_null w e)
versions_are_one texts (Id v) Null e = absurd (not_null v (sym e))
versions_are_one texts (Id v) (Id w) e = ap Id (texts v w e)

-- lines of one kind with the same words behind the first are the same
fields_are_one : IdTextsAreInjective → (a b : Line) → Fits a → Fits b → kind_of a ≡ kind_of b → fields_of a ≡ fields_of b → a ≡ b
fields_are_one texts (Set d p m) (Set e q n) f g k w =
    let one : decimal d ≡ decimal e = cc in
    let two : decimal p ≡ decimal q = cc in
    let three : mode_word m ≡ mode_word n = cc in
    let drives : d ≡ e = decimal_injective d e (omega arith) (omega arith) one in
    let parity : p ≡ q = decimal_injective p q (omega arith) (omega arith) two in
    let mode : m ≡ n = modes_are_one m n three in
    cc
fields_are_one texts (Put a k b) (Put c l d) f g i w = cc
fields_are_one texts (Fill a k m) (Fill c l n) f g i w =
    let one : decimal m ≡ decimal n = cc in
    let same : m ≡ n = decimal_injective m n f g one in
    cc
fields_are_one texts (Get a k) (Get c l) f g i w = cc
fields_are_one texts (GetVersion a k v) (GetVersion c l u) f g i w =
    let one : version_word v ≡ version_word u = cc in
    let same : v ≡ u = versions_are_one texts v u one in
    cc
fields_are_one texts (Range a k m n) (Range c l p q) f g i w =
    let one : decimal m ≡ decimal p = cc in
    let two : decimal n ≡ decimal q = cc in
    let from : m ≡ p = decimal_injective m p f.0 g.0 one in
    let to : n ≡ q = decimal_injective n q f.1 g.1 two in
    cc
fields_are_one texts (Delete a k) (Delete c l) f g i w = cc
fields_are_one texts (DeleteVersion a k v) (DeleteVersion c l u) f g i w =
    let one : version_word v ≡ version_word u = cc in
    let same : v ≡ u = versions_are_one texts v u one in
    cc
fields_are_one texts (Go a) (Go b) f g i w = cc
fields_are_one texts (Run a) (Run b) f g i w = cc
fields_are_one texts (UpTo a) (UpTo b) f g i w = cc
fields_are_one texts (Lose m) (Lose n) f g i w =
    let one : decimal m ≡ decimal n = cc in
    let same : m ≡ n = decimal_injective m n (omega arith) (omega arith) one in
    cc
fields_are_one texts (Back m) (Back n) f g i w =
    let one : decimal m ≡ decimal n = cc in
    let same : m ≡ n = decimal_injective m n (omega arith) (omega arith) one in
    cc
fields_are_one texts (Hurt m a p) (Hurt n b q) f g i w =
    let one : decimal m ≡ decimal n = cc in
    let two : decimal p ≡ decimal q = cc in
    let index : m ≡ n = decimal_injective m n (omega arith) (omega arith) one in
    let place : p ≡ q = decimal_injective p q f.1 g.1 two in
    cc
fields_are_one texts (Fuse m p false) (Fuse n q false) f g i w =
    let one : decimal m ≡ decimal n = cc in
    let two : decimal p ≡ decimal q = cc in
    let index : m ≡ n = decimal_injective m n (omega arith) (omega arith) one in
    let calls : p ≡ q = decimal_injective p q f.1 g.1 two in
    cc
fields_are_one texts (Fuse m p true) (Fuse n q true) f g i w =
    let one : decimal m ≡ decimal n = cc in
    let two : decimal p ≡ decimal q = cc in
    let index : m ≡ n = decimal_injective m n (omega arith) (omega arith) one in
    let calls : p ≡ q = decimal_injective p q f.1 g.1 two in
    cc
fields_are_one texts (Fuse m p false) (Fuse n q true) f g i w = absurd cc
fields_are_one texts (Fuse m p true) (Fuse n q false) f g i w = absurd cc
fields_are_one texts Stop Stop f g i w = refl
fields_are_one texts a b f g i w = absurd cc

-- a text spells one line at most
pub line_is_one : IdTextsAreInjective → (a b : Line) → All IsWord (words_of a) → All IsWord (words_of b) → Fits a → Fits b → spelling a ≡ spelling b → a ≡ b
line_is_one texts a b one other f g e =
    let words : words_of a ≡ words_of b = sym (line_parted a one) ∙ (ap pieces e ∙ line_parted b other) in
    let heads : kind_word (kind_of a) ≡ kind_word (kind_of b) = cc in
    let tails : fields_of a ≡ fields_of b = cc in
    fields_are_one texts a b f g (kinds_are_one (kind_of a) (kind_of b) heads) tails

-- a line is kept where it may stand behind others
pub placed_next : IdTextsAreInjective → (before : List Line) (bytes text : List ℕ) (line : Line) (placed : Option Line) → text ≡ bytes → IsTextOf text line → IsPlaced before line placed → ReadsNext before bytes placed
placed_next texts before bytes text line None same is none = λ other next.
    let equal : other ≡ line = line_is_one texts other line next.words is.words next.fits is.fits (sym next.are ∙ (sym same ∙ is.are)) in
    none (subst (MayFollow before) equal next.follows)
placed_next texts before bytes text line (Some kept) same is placed =
    subst (SpellsNext before bytes) (sym placed.0) (record { words = is.words; fits = is.fits; follows = placed.1; are = sym same ∙ is.are })

-- ---- of two beginnings of one text, one goes on behind the other

-- the first list goes on as the second with a line more
pub record GoesOn (one other : List Line) (rest : List ℕ) : Type 0 where
  pub line : Line
  pub more : List Line
  pub back : List ℕ
  pub are : other ≡ one ++ line ∷ more
  pub text : rest ≡ line_text line ++ back

abbrev Meets : List Line → List Line → List ℕ → List ℕ → Type 0
Meets a b r s = ((a ≡ b) × (r ≡ s)) ⊎ (GoesOn a b r ⊎ GoesOn b a s)

longer : (x : Line) (a b : List Line) (r : List ℕ) → GoesOn a b r → GoesOn (x ∷ a) (x ∷ b) r
longer x a b r on = record { line = on.line; more = on.more; back = on.back; are = ap (λ (l : List Line). x ∷ l) on.are; text = on.text }

meets_more : (x : Line) (a b : List Line) (r s : List ℕ) → Meets a b r s → Meets (x ∷ a) (x ∷ b) r s
meets_more x a b r s (inl same) = inl (ap (λ (l : List Line). x ∷ l) same.0, same.1)
meets_more x a b r s (inr (inl on)) = inr (inl (longer x a b r on))
meets_more x a b r s (inr (inr on)) = inr (inr (longer x b a s on))

-- the text of lines, and what follows it
text_split : (x : Line) (a : List Line) (r : List ℕ) → script_text (x ∷ a) ++ r ≡ spelling x ++ 10 ∷ (script_text a ++ r)
text_split x a r = append_assoc (line_text x) (script_text a) r ∙ append_assoc (spelling x) (10 ∷ []) (script_text a ++ r)

meets : IdTextsAreInjective → (a b : List Line) (r s : List ℕ) → All IsSound a → All IsSound b → script_text a ++ r ≡ script_text b ++ s → Meets a b r s
meets texts [] [] r s h k e = inl (refl, e)
meets texts [] (y ∷ b) r s h k e = inr (inl (record { line = y; more = b; back = script_text b ++ s; are = refl; text = e ∙ append_assoc (line_text y) (script_text b) s }))
meets texts (x ∷ a) [] r s h k e = inr (inr (record { line = x; more = a; back = script_text a ++ r; are = refl; text = sym e ∙ append_assoc (line_text x) (script_text a) r }))
meets texts (x ∷ a) (y ∷ b) r s h k e =
    let one : IsSound x = All-head IsSound x a h in
    let other : IsSound y = All-head IsSound y b k in
    let fronts = same_front (spelling x) (spelling y) (script_text a ++ r) (script_text b ++ s) (line_lacks_feed x one.words) (line_lacks_feed y other.words) (sym (text_split x a r) ∙ (e ∙ text_split y b s)) in
    let same : x ≡ y = line_is_one texts x y one.words other.words one.fits other.fits fronts.0 in
    subst (λ (z : Line). Meets (x ∷ a) (z ∷ b) r s) same (meets_more x a b r s (meets texts a b r s (All-tail IsSound x a h) (All-tail IsSound y b k) fronts.1))

-- ---- scripts

-- each line of a script is sound
script_sound : (lines : List Line) → IsBegun lines → All IsSound lines
script_sound [] begun = All-nil IsSound
script_sound (first ∷ events) (inl none) = absurd cc
script_sound (first ∷ events) (inr script) = All-cons IsSound first events script.0 (λ k d low. (script.2 k d low).0)

all_front : {X : Type 0} (P : X → Type 0) (xs ys : List X) → All P (xs ++ ys) → All P xs
all_front P [] ys all = All-nil P
all_front P (x ∷ xs) ys all = All-cons P x xs (All-head P x (xs ++ ys) all) (all_front P xs ys (All-tail P x (xs ++ ys) all))

-- the front of a script is one
script_front : (one : List Line) (line : Line) (more : List Line) → IsBegun (one ++ line ∷ more) → IsScript (one ++ line ∷ [])
script_front [] line more (inl none) = absurd cc
script_front [] line more (inr script) = (script.0, script.1, All-nil (IsEventLine (drives_of line)), omega arith)
script_front (first ∷ events) line more (inl none) = absurd cc
script_front (first ∷ events) line more (inr script) =
    let whole : All (IsEventLine (drives_of first)) ((events ++ line ∷ []) ++ more) = subst (All (IsEventLine (drives_of first))) (sym (append_assoc events (line ∷ []) more)) script.2 in
    let long = length-append events (line ∷ more) in
    let short = length-append events (line ∷ []) in
    let few = script.3 in
    (script.0, script.1, all_front (IsEventLine (drives_of first)) (events ++ line ∷ []) more whole, omega arith)

-- nothing is a line and more
empty_text : (line : Line) (back : List ℕ) → [] ≢ line_text line ++ back
empty_text line back = λ e. gone (spelling line) (e ∙ append_assoc (spelling line) (10 ∷ []) back)
  where
    gone : (text : List ℕ) → [] ≢ text ++ 10 ∷ back
    gone [] = λ e. cc
    gone (b ∷ text) = λ e. cc

-- what stands behind the lines before the first bad one doesn't go on as a script
no_more : (bytes : List ℕ) (n : ℕ) (bad : IsFirstBad bytes n) (lines : List Line) → IsBegun lines → GoesOn bad.before lines bad.rest → ⊥
no_more bytes n bad lines begun on = bad.none on.line on.back (script_front bad.before on.line on.more (subst IsBegun on.are begun)) on.text

begun_script : (lines : List Line) → IsScript lines → IsBegun lines
begun_script lines script = inr script

-- ---- the laws

pub spell_one : IdTextsAreInjective → SpellOne
spell_one texts bytes one other spells also =
    let same : script_text one ++ [] ≡ script_text other ++ [] = append-nil (script_text one) ∙ (sym spells.are ∙ (also.are ∙ sym (append-nil (script_text other)))) in
    decide (meets texts one other [] [] (script_sound one (inr spells.script)) (script_sound other (inr also.script)) same)
  where
    decide : Meets one other [] [] → one ≡ other
    decide (inl equal) = equal.0
    decide (inr (inl on)) = absurd (empty_text on.line on.back on.text)
    decide (inr (inr on)) = absurd (empty_text on.line on.back on.text)

pub none_is_bad : IdTextsAreInjective → NoneIsBad
none_is_bad texts bytes lines n spells bad =
    let same : script_text bad.before ++ bad.rest ≡ script_text lines ++ [] = sym bad.are ∙ (spells.are ∙ sym (append-nil (script_text lines))) in
    decide (meets texts bad.before lines bad.rest [] (script_sound bad.before bad.begun) (script_sound lines (inr spells.script)) same)
  where
    left_over : bad.before ≡ lines → bad.rest ≡ [] → (bad.rest ≢ []) ⊎ (bad.before ≡ []) → ⊥
    left_over e none (inl some) = some none
    left_over e none (inr empty) = subst IsScript (sym e ∙ empty) spells.script

    decide : Meets bad.before lines bad.rest [] → ⊥
    decide (inl equal) = left_over equal.0 equal.1 bad.left
    decide (inr (inl on)) = no_more bytes n bad lines (inr spells.script) on
    decide (inr (inr on)) = empty_text on.line on.back on.text

pub one_is_first : IdTextsAreInjective → OneIsFirst
one_is_first texts bytes m n one other =
    decide (meets texts one.before other.before one.rest other.rest (script_sound one.before one.begun) (script_sound other.before other.begun) (sym one.are ∙ other.are))
  where
    decide : Meets one.before other.before one.rest other.rest → m ≡ n
    decide (inl equal) = let same : length one.before ≡ length other.before = ap length equal.0 in omega (arith, one.at, other.at)
    decide (inr (inl on)) = absurd (no_more bytes m one other.before other.begun on)
    decide (inr (inr on)) = absurd (no_more bytes n other one.before one.begun on)
