-- Lists in which no item stands twice, and names that are new where they come.
use Rattle.std.proofs.Common.{◌≡◌, ◌≢◌, ℕ, Bool, true, false, List, [], ◌∷◌, ◌++◌, refl, sym, ap, subst, ◌∙◌, append_assoc}
use Rattle.std.specs.Prelude.{◌||◌, map}
use Rattle.std.specs.List.{AllByRecursion}
use Rattle.std.specs.Str.{bytes_eq}
use Rattle.std.proofs.lemmas.Bool.{false_from_ne_true}
use Rattle.std.proofs.lemmas.List.{append-nil}
use Rattle.std.proofs.lemmas.Slice.Eq.{bytes_eq-Decides}
use Rattle.version_list.specs.State.{AreDistinct}
use Rattle.version_list.specs.Layout.{is_among}
use Rattle.version_list.proofs.Known.{is_among-push, or_rest}

-- each name is new beside those that were seen and those before it
abbrev pub Fresh : List (List ℕ) → List (List ℕ) → Type 0
Fresh seen [] = Unit {0}
Fresh seen (x ∷ xs) = (is_among seen x ≡ false) × Fresh (seen ++ x ∷ []) xs

-- what holds of each item
pub each_item : {A : Type 0} (P Q : A → Type 0) → ((x : A) → P x → Q x) → (xs : List A) → AllByRecursion P xs → AllByRecursion Q xs
each_item P Q f [] all = tt
each_item P Q f (x ∷ xs) all = (f x all.0, each_item P Q f xs all.1)

both_items : {A : Type 0} (P Q R : A → Type 0) → ((x : A) → P x → Q x → R x) → (xs : List A) → AllByRecursion P xs → AllByRecursion Q xs → AllByRecursion R xs
both_items P Q R f [] p q = tt
both_items P Q R f (x ∷ xs) p q = (f x p.0 q.0, both_items P Q R f xs p.1 q.1)

-- no `or` holds
neither : (a b : Bool) → (a || b) ≡ false → (a ≡ false) × (b ≡ false)
neither true b e = absurd cc
neither false b e = (refl, e)

both_false : (a b : Bool) → a ≡ false → b ≡ false → (a || b) ≡ false
both_false true b e f = absurd cc
both_false false b e f = f

different : (a b : List ℕ) → bytes_eq a b ≡ false → a ≢ b
different a b e same = let yes_eq : bytes_eq a b ≡ true = (bytes_eq-Decides a b).1 same in absurd cc

not_equal : (a b : List ℕ) → a ≢ b → bytes_eq a b ≡ false
not_equal a b h = false_from_ne_true (bytes_eq a b) (λ e. h ((bytes_eq-Decides a b).0 e))

-- names that are new are distinct, and none of them was seen
pub fresh_distinct : (seen xs : List (List ℕ)) → Fresh seen xs → AreDistinct xs × AllByRecursion (λ x. is_among seen x ≡ false) xs
fresh_distinct seen [] f = (tt, tt)
fresh_distinct seen (x ∷ xs) f =
    let rest = fresh_distinct (seen ++ x ∷ []) xs f.1 in
    let apart = λ (y : List ℕ) (e : is_among (seen ++ x ∷ []) y ≡ false). neither (is_among seen y) (bytes_eq x y) (sym (is_among-push seen x y) ∙ e) in (
      (each_item (λ y. is_among (seen ++ x ∷ []) y ≡ false) (λ y. x ≢ y) (λ y e. different x y (apart y e).1) xs rest.1, rest.0),
      (f.0, each_item (λ y. is_among (seen ++ x ∷ []) y ≡ false) (λ y. is_among seen y ≡ false) (λ y e. (apart y e).0) xs rest.1),
    )

pub distinct_fresh : (seen xs : List (List ℕ)) → AreDistinct xs → AllByRecursion (λ x. is_among seen x ≡ false) xs → Fresh seen xs
distinct_fresh seen [] d unseen = tt
distinct_fresh seen (x ∷ xs) d unseen =
    let unseen_more = both_items (λ y. x ≢ y) (λ y. is_among seen y ≡ false) (λ y. is_among (seen ++ x ∷ []) y ≡ false)
    (λ y apart e. is_among-push seen x y ∙ both_false (is_among seen y) (bytes_eq x y) e (not_equal x y apart)) xs d.0 unseen.1 in
    (unseen.0, distinct_fresh (seen ++ x ∷ []) xs d.1 unseen_more)

-- none is among no names
pub none_seen : (xs : List (List ℕ)) → AllByRecursion (λ x. is_among [] x ≡ false) xs
unfolding is_among
none_seen [] = tt
none_seen (x ∷ xs) = (refl, none_seen xs)

-- two lists, one after the other
pub fresh_split : (seen xs ys : List (List ℕ)) → Fresh seen (xs ++ ys) → Fresh seen xs × Fresh (seen ++ xs) ys
fresh_split seen [] ys f = (tt, subst (λ (s : List (List ℕ)). Fresh s ys) (sym (append-nil seen)) f)
fresh_split seen (x ∷ xs) ys f =
    let rest = fresh_split (seen ++ x ∷ []) xs ys f.1 in
    ((f.0, rest.0), subst (λ (s : List (List ℕ)). Fresh s ys) (append_assoc seen (x ∷ []) xs) rest.1)

pub fresh_join : (seen xs ys : List (List ℕ)) → Fresh seen xs → Fresh (seen ++ xs) ys → Fresh seen (xs ++ ys)
fresh_join seen [] ys f g = subst (λ (s : List (List ℕ)). Fresh s ys) (append-nil seen) g
fresh_join seen (x ∷ xs) ys f g = (f.0, fresh_join (seen ++ x ∷ []) xs ys f.1 (subst (λ (s : List (List ℕ)). Fresh s ys) (sym (append_assoc seen (x ∷ []) xs)) g))

-- names of two lists
pub is_among-append : (a b : List (List ℕ)) (x : List ℕ) → is_among (a ++ b) x ≡ (is_among a x || is_among b x)
unfolding is_among
is_among-append [] b x = refl
is_among-append (first ∷ a) b x = ap (λ (t : Bool). bytes_eq first x || t) (is_among-append a b x) ∙ or_rest (bytes_eq first x) (is_among a x) (is_among b x)

-- distinct under a function
pub distinct_map : {A B : Type 0} (f : A → B) → ((a b : A) → f a ≡ f b → a ≡ b) → (xs : List A) → AreDistinct xs → AreDistinct (map f xs)
distinct_map f injective [] d = tt
distinct_map {A} {B} f injective (x ∷ xs) d = (moved xs d.0, distinct_map f injective xs d.1)
  where
    moved : (ys : List A) → AllByRecursion (λ y. x ≢ y) ys → AllByRecursion (λ z. f x ≢ z) (map f ys)
    moved [] all = tt
    moved (y ∷ ys) all = (λ e. all.0 (injective x y e), moved ys all.1)

pub distinct_unmap : {A B : Type 0} (f : A → B) (xs : List A) → AreDistinct (map f xs) → AreDistinct xs
distinct_unmap f [] d = tt
distinct_unmap {A} {B} f (x ∷ xs) d = (moved xs d.0, distinct_unmap f xs d.1)
  where
    moved : (ys : List A) → AllByRecursion (λ z. f x ≢ z) (map f ys) → AllByRecursion (λ y. x ≢ y) ys
    moved [] all = tt
    moved (y ∷ ys) all = (λ e. all.0 (ap f e), moved ys all.1)
