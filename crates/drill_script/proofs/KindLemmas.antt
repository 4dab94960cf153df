-- The kind of a line, and the words behind the first.
use Rattle.std.proofs.Common.{◌≡◌, ◌≢◌, ℕ, cond, List, [], ◌∷◌, Option, Some, None, bytes_eq, codes, refl, sym, ap, subst, ◌∙◌}
use Rattle.drill_script.specs.Lines.{Fits, IsNoKind, fields_of, kind_of, kind_word, words_of}
use Rattle.drill_script.specs.Reads.{IsNoLineOf, ReadsAs, ReadsWords}
use Rattle.drill_script.specs.declared.line.Line.{Line}
use Rattle.drill_script.specs.declared.line.Line.TheVariants.{Set, Put, Fill, Get, GetVersion, Range, Delete, DeleteVersion, Go, Run, UpTo, Lose, Back, Hurt, Fuse, Stop}
use Rattle.drill_script.specs.declared.kind.Kind.{Kind}
use Rattle.drill_script.specs.declared.kind.Kind.TheVariants as kind

-- ---- a word is that of one kind at most

-- the kind that has a word
kind_named : List ℕ → Option Kind
kind_named word =
    cond (bytes_eq word (codes "set")) (Some kind.Set)
    (cond (bytes_eq word (codes "put")) (Some kind.Put)
    (cond (bytes_eq word (codes "fill")) (Some kind.Fill)
    (cond (bytes_eq word (codes "get")) (Some kind.Get)
    (cond (bytes_eq word (codes "getv")) (Some kind.GetVersion)
    (cond (bytes_eq word (codes "range")) (Some kind.Range)
    (cond (bytes_eq word (codes "del")) (Some kind.Delete)
    (cond (bytes_eq word (codes "delv")) (Some kind.DeleteVersion)
    (cond (bytes_eq word (codes "go")) (Some kind.Go)
    (cond (bytes_eq word (codes "run")) (Some kind.Run)
    (cond (bytes_eq word (codes "upto")) (Some kind.UpTo)
    (cond (bytes_eq word (codes "lose")) (Some kind.Lose)
    (cond (bytes_eq word (codes "back")) (Some kind.Back)
    (cond (bytes_eq word (codes "hurt")) (Some kind.Hurt)
    (cond (bytes_eq word (codes "fuse")) (Some kind.Fuse)
    (cond (bytes_eq word (codes "stop")) (Some kind.Stop) None)))))))))))))))

named : (k : Kind) → kind_named (kind_word k) ≡ Some k
unfolding kind_named
named kind.Set = refl
named kind.Put = refl
named kind.Fill = refl
named kind.Get = refl
named kind.GetVersion = refl
named kind.Range = refl
named kind.Delete = refl
named kind.DeleteVersion = refl
named kind.Go = refl
named kind.Run = refl
named kind.UpTo = refl
named kind.Lose = refl
named kind.Back = refl
named kind.Hurt = refl
named kind.Fuse = refl
named kind.Stop = refl

pub kinds_are_one : (a b : Kind) → kind_word a ≡ kind_word b → a ≡ b
kinds_are_one a b e = let same : Some a ≡ Some b = sym (named a) ∙ (ap kind_named e ∙ named b) in cc

-- ---- the words of a line

-- no line has words of no line of its kind
none_of : (line : Line) → Fits line → IsNoLineOf (kind_of line) (fields_of line) → ⊥
none_of (Set d p m) fits none = none d p m fits.0 fits.1 refl
none_of (Put a k b) fits none = none a k b refl
none_of (Fill a k n) fits none = none a k n fits refl
none_of (Get a k) fits none = none a k refl
none_of (GetVersion a k i) fits none = none a k i refl
none_of (Range a k m n) fits none = none a k m n fits.0 fits.1 refl
none_of (Delete a k) fits none = none a k refl
none_of (DeleteVersion a k i) fits none = none a k i refl
none_of (Go a) fits none = none a refl
none_of (Run a) fits none = none a refl
none_of (UpTo a) fits none = none a refl
none_of (Lose i) fits none = none i fits refl
none_of (Back i) fits none = none i fits refl
none_of (Hurt i n k) fits none = none i n k fits.0 fits.1 refl
none_of (Fuse i k late) fits none = none i k late fits.0 fits.1 refl
none_of Stop fits none = none refl

-- words that begin with none of a kind are those of no line
pub no_kind : (word : List ℕ) (fields : List (List ℕ)) → IsNoKind word → (line : Line) → Fits line → word ∷ fields ≢ words_of line
no_kind word fields none line fits = λ e. let heads : word ≡ kind_word (kind_of line) = cc in none (kind_of line) heads

-- words that were read as a line of their kind
pub kind_read : (word : List ℕ) (fields : List (List ℕ)) (k : Kind) (read : Option Line) → word ≡ kind_word k → ReadsAs k fields read → ReadsWords (word ∷ fields) read
kind_read word fields k None is none = λ line fits e.
    let heads : word ≡ kind_word (kind_of line) = cc in
    let tails : fields ≡ fields_of line = cc in
    let same : k ≡ kind_of line = kinds_are_one k (kind_of line) (sym is ∙ heads) in
    none_of line fits (subst (λ (j : Kind). IsNoLineOf j (fields_of line)) same (subst (λ (fs : List (List ℕ)). IsNoLineOf k fs) tails none))
kind_read word fields k (Some line) is found =
    let heads : word ≡ kind_word (kind_of line) = is ∙ ap kind_word (sym found.of_kind) in
    let tails : fields ≡ fields_of line = sym found.has_fields in
    let whole : word ∷ fields ≡ kind_word (kind_of line) ∷ fields_of line = cc in
    (found.fits, whole)

-- no words at all are those of no line
pub no_words_at_all : (line : Line) → Fits line → [] ≢ words_of line
no_words_at_all line fits = λ e. cc
