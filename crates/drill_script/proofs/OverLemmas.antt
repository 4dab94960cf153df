-- When reading is over: bytes that have no line too long and none too many, and a byte behind them.
use Rattle.std.proofs.Common.{◌≡◌, ◌≢◌, ◌⊎◌, ◌↔◌, ◌==◌, ℕ, ◌+◌, ◌<◌, ◌≤◌, Bool, true, false, List, [], ◌∷◌, ◌++◌, All, cond, length, inl, inr, refl, sym, ap, subst, ◌∙◌, arith}
use Rattle.std.proofs.lemmas.List.{append-nil, append_assoc, length-append, length_push}
use Rattle.std.proofs.lemmas.List.Elements.{All-head, All-tail, All-cons, All-nil}
use Rattle.std.proofs.lemmas.List.Sums.{sum_by-cons}
use Rattle.drill_script.specs.Limits.{most_lines, most_bytes}
use Rattle.drill_script.specs.Reader.{AreEnded, EndsIn}
use Rattle.drill_script.specs.Scripts.{HasLongLine, HasManyLines, IsNoFeed, IsOver, feeds}
use Rattle.drill_script.proofs.FeedLemmas.{feeds_both, never, no_feeds}

-- ---- the last byte of bytes

-- a list with something in its midst isn't empty
pub not_empty : {X : Type 0} (xs : List X) (x : X) (ys : List X) → xs ++ x ∷ ys ≢ []
not_empty [] x ys = λ e. cc
not_empty (z ∷ xs) x ys = λ e. cc

-- bytes are none, or some and a last one
abbrev HasLast : List ℕ → Type 0
HasLast bytes = (bytes ≡ []) ⊎ ((front : List ℕ) × (last : ℕ) × (bytes ≡ front ++ last ∷ []))

last_of : (bytes : List ℕ) → HasLast bytes
last_of [] = inl refl
last_of (b ∷ bytes) = behind (last_of bytes)
  where
    behind : HasLast bytes → HasLast (b ∷ bytes)
    behind (inl none) = inr ([], b, ap (λ (t : List ℕ). b ∷ t) none)
    behind (inr last) = inr (b ∷ last.0, last.1, ap (λ (t : List ℕ). b ∷ t) last.2)

-- bytes with a last one are the same only where both are
same_push : (a b : List ℕ) (x y : ℕ) → a ++ x ∷ [] ≡ b ++ y ∷ [] → (a ≡ b) × (x ≡ y)
same_push [] [] x y e = let same : x ≡ y = cc in (refl, same)
same_push [] (d ∷ b) x y e = let tails : [] ≡ b ++ y ∷ [] = cc in absurd (not_empty b y [] (sym tails))
same_push (c ∷ a) [] x y e = let tails : a ++ x ∷ [] ≡ [] = cc in absurd (not_empty a x [] tails)
same_push (c ∷ a) (d ∷ b) x y e =
    let heads : c ≡ d = cc in
    let tails : a ++ x ∷ [] ≡ b ++ y ∷ [] = cc in
    let rest : (a ≡ b) × (x ≡ y) = same_push a b x y tails in
    let fronts : a ≡ b = rest.0 in
    let whole : c ∷ a ≡ d ∷ b = cc in
    (whole, rest.1)

-- what holds of all bytes holds of the last one, and of those before it
all_push : (a : List ℕ) (x : ℕ) → All IsNoFeed (a ++ x ∷ []) → All IsNoFeed a × IsNoFeed x
all_push [] x all = (All-nil IsNoFeed, All-head IsNoFeed x [] all)
all_push (c ∷ a) x all =
    let rest : All IsNoFeed a × IsNoFeed x = all_push a x (All-tail IsNoFeed c (a ++ x ∷ []) all) in
    (All-cons IsNoFeed c a (All-head IsNoFeed c (a ++ x ∷ []) all) rest.0, rest.1)

-- ---- a line too many

-- what stands before a byte has no more LFs than what stands before the last byte
fewer : (a b : List ℕ) (x y : ℕ) (back : List ℕ) → a ++ x ∷ [] ≡ b ++ y ∷ back → feeds b ≤ feeds a
fewer [] [] x y back e = omega arith
fewer [] (d ∷ b) x y back e = let tails : [] ≡ b ++ y ∷ back = cc in absurd (not_empty b y back (sym tails))
fewer (c ∷ a) [] x y back e = let none : feeds [] ≡ 0 = refl in omega arith
fewer (c ∷ a) (d ∷ b) x y back e =
    let heads : c ≡ d = cc in
    let tails : a ++ x ∷ [] ≡ b ++ y ∷ back = cc in
    let rest : feeds b ≤ feeds a = fewer a b x y back tails in
    let one : feeds (c ∷ a) ≡ cond {A = ℕ} (c == 10) 1 0 + feeds a = sum_by-cons (λ (k : ℕ). cond {A = ℕ} (k == 10) 1 0) c a in
    let other : feeds (d ∷ b) ≡ cond {A = ℕ} (d == 10) 1 0 + feeds b = sum_by-cons (λ (k : ℕ). cond {A = ℕ} (k == 10) 1 0) d b in
    let same : cond {A = ℕ} (c == 10) 1 0 ≡ cond {A = ℕ} (d == 10) 1 0 = ap (λ (k : ℕ). cond {A = ℕ} (k == 10) 1 0) heads in
    omega arith

-- how many lines have ended
ended_lines : (bytes line : List ℕ) (ended : ℕ) → EndsIn bytes line ended → feeds bytes ≡ ended
ended_lines bytes line ended ends =
    let all : feeds bytes ≡ feeds ends.front + feeds line = ap feeds ends.are ∙ feeds_both ends.front line in
    let plain : feeds line ≡ 0 = no_feeds line ends.lacks_feed in
    let count : feeds ends.front ≡ ended = ends.count in
    omega arith

not_many : (bytes : List ℕ) (byte : ℕ) (line : List ℕ) (ended : ℕ) → EndsIn bytes line ended → ended < most_lines → HasManyLines (bytes ++ byte ∷ []) → ⊥
not_many bytes byte line ended ends few many =
    let less : feeds many.front ≤ feeds bytes = fewer bytes many.front byte many.byte many.back many.are in
    let count : feeds bytes ≡ ended = ended_lines bytes line ended ends in
    let most : most_lines ≤ feeds many.front = many.many in
    omega arith

-- ---- a line too long

-- bytes without an LF at the end are no longer than what stands behind the last LF
behind_feed : (f r b l : List ℕ) → All IsNoFeed r → f ++ r ≡ b ++ 10 ∷ l → length r ≤ length l
behind_feed [] r b l h e = absurd (never r b l h e)
behind_feed (c ∷ f) r [] l h e =
    let tails : f ++ r ≡ l = cc in
    let long : length (f ++ r) ≡ length f + length r = length-append f r in
    let same : length (f ++ r) ≡ length l = ap length tails in
    omega arith
behind_feed (c ∷ f) r (d ∷ b) l h e = let tails : f ++ r ≡ b ++ 10 ∷ l = cc in behind_feed f r b l h tails

-- nor than the line that hasn't ended
in_line : (front line : List ℕ) → AreEnded front → (f r : List ℕ) → All IsNoFeed r → f ++ r ≡ front ++ line → length r ≤ length line
in_line front line (inl none) f r h e =
    let same : f ++ r ≡ line = e ∙ ap (λ (t : List ℕ). t ++ line) none in
    let long : length (f ++ r) ≡ length f + length r = length-append f r in
    let equal : length (f ++ r) ≡ length line = ap length same in
    omega arith
in_line front line (inr before) f r h e = behind_feed f r before.0 line h (e ∙ (ap (λ (t : List ℕ). t ++ line) before.1 ∙ append_assoc before.0 (10 ∷ []) line))

-- a line that a byte makes too long
too_long : (bytes : List ℕ) (byte : ℕ) (line : List ℕ) (ended : ℕ) → EndsIn bytes line ended → (byte ≡ 10) ⊎ (length line < most_bytes) → (f r : List ℕ) → All IsNoFeed r → most_bytes < length r
    → bytes ++ byte ∷ [] ≡ f ++ r → ⊥
too_long bytes byte line ended ends small f r plain long e = split (last_of r)
  where
    within : (byte ≡ 10) ⊎ (length line < most_bytes) → byte ≢ 10 → (run : List ℕ) → All IsNoFeed run → most_bytes ≤ length run → bytes ≡ f ++ run → ⊥
    within (inl feed) other run plain long are = other feed
    within (inr short) other run plain long are = let less : length run ≤ length line = in_line ends.front line ends.ended_there f run plain (sym are ∙ ends.are) in omega arith

    split : HasLast r → ⊥
    split (inl none) = let empty : length r ≡ 0 = ap length none in omega arith
    split (inr last) =
        let run : List ℕ = last.0 in
        let end : ℕ = last.1 in
        let are : r ≡ run ++ end ∷ [] = last.2 in
        let all : All IsNoFeed run × IsNoFeed end = all_push run end (subst (All IsNoFeed) are plain) in
        let size : length r ≡ length run + 1 = ap length are ∙ length_push run end in
        let same : (bytes ≡ f ++ run) × (byte ≡ end) = same_push bytes (f ++ run) byte end (e ∙ (ap (λ (t : List ℕ). f ++ t) are ∙ sym (append_assoc f run (end ∷ [])))) in
        within small (λ feed. all.1 (sym same.1 ∙ feed)) run all.0 (omega arith) same.0

not_long : (bytes : List ℕ) (byte : ℕ) (line : List ℕ) (ended : ℕ) → EndsIn bytes line ended → (IsOver bytes → ⊥) → (byte ≡ 10) ⊎ (length line < most_bytes) → HasLongLine (bytes ++ byte ∷ []) → ⊥
not_long bytes byte line ended ends before small long = split (last_of long.back)
  where
    split : HasLast long.back → ⊥
    split (inl none) =
        too_long bytes byte line ended ends small long.front long.run long.lacks_feed long.long (long.are ∙ ap (λ (t : List ℕ). long.front ++ t) (ap (λ (t : List ℕ). long.run ++ t) none ∙ append-nil long.run))
    split (inr last) =
        let back : List ℕ = last.0 in
        let end : ℕ = last.1 in
        let are : long.back ≡ back ++ end ∷ [] = last.2 in
        let whole : bytes ++ byte ∷ [] ≡ (long.front ++ (long.run ++ back)) ++ end ∷ [] =
        long.are ∙ (ap (λ (t : List ℕ). long.front ++ t) (ap (λ (t : List ℕ). long.run ++ t) are ∙ sym (append_assoc long.run back (end ∷ []))) ∙ sym (append_assoc long.front (long.run ++ back) (end ∷ []))) in
        let same : (bytes ≡ long.front ++ (long.run ++ back)) × (byte ≡ end) = same_push bytes (long.front ++ (long.run ++ back)) byte end whole in
        before (inl (record { front = long.front; run = long.run; back = back; are = same.0; lacks_feed = long.lacks_feed; long = long.long }))

-- ---- whether reading is over

-- it isn't with nothing
pub none_over : IsOver [] → ⊥
none_over (inl long) =
    let size : 0 ≡ length (long.front ++ (long.run ++ long.back)) = ap length long.are in
    let one : length (long.front ++ (long.run ++ long.back)) ≡ length long.front + length (long.run ++ long.back) = length-append long.front (long.run ++ long.back) in
    let two : length (long.run ++ long.back) ≡ length long.run + length long.back = length-append long.run long.back in
    let most : most_bytes < length long.run = long.long in
    omega arith
none_over (inr many) = not_empty many.front many.byte many.back (sym many.are)

-- nor with a byte more that neither makes a line too long nor begins one too many
pub reads_on : (bytes : List ℕ) (byte : ℕ) (line : List ℕ) (ended : ℕ) → EndsIn bytes line ended → (IsOver bytes → ⊥) → ended < most_lines → (byte ≡ 10) ⊎ (length line < most_bytes)
    → IsOver (bytes ++ byte ∷ []) → ⊥
reads_on bytes byte line ended ends before few small (inl long) = not_long bytes byte line ended ends before small long
reads_on bytes byte line ended ends before few small (inr many) = not_many bytes byte line ended ends few many

-- a reader that reads on
pub still_on : (over : Bool) (bytes : List ℕ) → over ≡ false → (IsOver bytes → ⊥) → (over ≡ true) ↔ IsOver bytes
still_on over bytes reads none = (λ e. let bad : true ≡ false = sym e ∙ reads in absurd cc, λ o. absurd (none o))

-- bytes that end reading are not those of one that reads on
pub not_yet : (over : Bool) (bytes : List ℕ) → over ≡ false → (over ≡ true) ↔ IsOver bytes → IsOver bytes → ⊥
not_yet over bytes reads is o = let bad : true ≡ false = sym (is.1 o) ∙ reads in cc
