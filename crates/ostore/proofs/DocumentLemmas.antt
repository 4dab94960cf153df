-- The words of a document, one more at the end.
use Rattle.std.proofs.Common.{◌≡◌, ◌∙◌, ℕ, zero, suc, ◌+◌, ◌<◌, ◌≤◌, List, [], ◌∷◌, ◌++◌, length, take, refl, sym, ap, append_assoc, get_or, arith, map, cond}
use Rattle.std.proofs.Math.Dec.{eqb-suc-zero}
use Rattle.std.proofs.lemmas.List.{length-map, length-take-le, map_more}
use Rattle.std.specs.List.{join_with_byte}
use Rattle.term_gate.specs.declared.seen.Seen.{Seen}
use Rattle.ostore.specs.Document.{behind_comma, seen_word, seen_words}

-- behind the first place a word has its comma
later : (n : ℕ) (word : List ℕ) → behind_comma (suc n) word ≡ 44 ∷ word
later n word = ap (λ is_first. cond is_first word (44 ∷ word)) (eqb-suc-zero n)

-- texts with commas between, and one more
join_more : (texts : List (List ℕ)) (text : List ℕ) → join_with_byte 44 (texts ++ text ∷ []) ≡ join_with_byte 44 texts ++ behind_comma (length texts) text
join_more [] text = refl
join_more (one ∷ []) text = ap (λ (more : List ℕ). one ++ more) (sym (later zero text))
join_more (one ∷ two ∷ texts) text =
    ap (λ (rest : List ℕ). one ++ (44 ∷ rest))
    (join_more (two ∷ texts) text ∙ ap (λ (more : List ℕ). join_with_byte 44 (two ∷ texts) ++ more) (later (length texts) text))
    ∙ (sym (append_assoc one (44 ∷ join_with_byte 44 (two ∷ texts)) (44 ∷ text))
    ∙ ap (λ (more : List ℕ). (one ++ (44 ∷ join_with_byte 44 (two ∷ texts))) ++ more) (sym (later (suc (length texts)) text)))

-- one word more
seen_words_more : (seens : List Seen) (i : ℕ) (d : Seen) → i < length seens
    → seen_words (take (i + 1) seens) ≡ seen_words (take i seens) ++ behind_comma i (seen_word (get_or seens i d))
seen_words_more seens i d within =
    let few : i ≤ length seens = omega arith in
    ap (join_with_byte 44) (map_more seen_word seens i d within)
    ∙ (join_more (map seen_word (take i seens)) (seen_word (get_or seens i d))
    ∙ ap (λ (place : ℕ). join_with_byte 44 (map seen_word (take i seens)) ++ behind_comma place (seen_word (get_or seens i d)))
    (length-map (take i seens) seen_word ∙ length-take-le i seens few))

-- a text that ends with the words of the first drives ends with one word more
pub push_more : (seens : List Seen) (i : ℕ) (d : Seen) (begun text text_after : List ℕ) → i < length seens
    → text ≡ begun ++ seen_words (take i seens) → text_after ≡ text ++ behind_comma i (seen_word (get_or seens i d))
    → text_after ≡ begun ++ seen_words (take (i + 1) seens)
push_more seens i d begun text text_after within was is =
    is
    ∙ (ap (λ (all : List ℕ). all ++ behind_comma i (seen_word (get_or seens i d))) was
    ∙ (append_assoc begun (seen_words (take i seens)) (behind_comma i (seen_word (get_or seens i d)))
    ∙ ap (λ (more : List ℕ). begun ++ more) (sym (seen_words_more seens i d within))))
