-- The turns of the passes of workers: none at first, and joined those of all.
use Rattle.std.proofs.Common.{◌≡◌, ◌∙◌, ◌<◌, ◌++◌, ℕ, Bool, true, false, ◌||◌, List, [], ◌∷◌, Option, Some, None, All, map, refl, sym, ap, subst}
use Rattle.std.specs.List.{AllZip}
use Rattle.std.proofs.lemmas.List.{append-nil, map-append}
use Rattle.std.proofs.lemmas.List.Elements.{All-cons, All-head, All-nil, All-tail}
use Rattle.turn_lock.specs.Passes.{is_spent}
use Rattle.turn_lock.specs.declared.lock.TurnLock.{TurnLock}
use Rattle.turn_lock.specs.declared.pass.Pass.{Pass}
use Rattle.turn_lock.specs.declared.view.Turn.{Turn}
use Rattle.store_shared.specs.Among.{seen_in}
use Rattle.store_shared.specs.Parting.{IsCutAt, IsFirstAt, IsJoinedAt}
use Rattle.store_shared.specs.Sections.{TurnedSection, turn_by, turns_by}
use Rattle.store_shared.specs.SharedPasses.{pass_at}
use Rattle.store_shared.specs.declared.shared.SharedPass.{SharedPass}
use Rattle.store_shared.specs.declared.shared.TurnedSlot.{TurnedSlot}
use Rattle.ostore.specs.ServedLife.{Made}
use Rattle.ostore.specs.Workers.{AreDealt, AreUnited}

or_last : (b : Bool) → (b || true) ≡ true
or_last true = refl
or_last false = refl

module _ {D A : Type 0} where
  -- the turns of a pass in the slot of an index
  abbrev pub turns_at : SharedPass D A → ℕ → List (Turn (TurnedSlot D A))
  turns_at pass k = (seen_in (pass_at pass k)).turns

  -- it has none in any slot
  abbrev pub HasNone : SharedPass D A → Type 0
  HasNone pass = (k : ℕ) → k < 64 → turns_at pass k ≡ []

  -- it has those of these sections
  abbrev pub HasMade : Made D A → SharedPass D A → Type 0
  HasMade made pass = (k : ℕ) → k < 64 → turns_at pass k ≡ turns_by (made k)

  -- the first pass of a lock has none
  pub first_none : (lock : TurnLock (TurnedSlot D A)) (pass : Option (Pass (TurnedSlot D A))) → IsFirstAt lock pass → (seen_in pass).turns ≡ []
  first_none lock None is = absurd is
  first_none lock (Some pass) is = is.turns

  -- a pass that is cut in two keeps its turns, and the part has none
  cut_turns : (was one other : Option (Pass (TurnedSlot D A))) → IsCutAt was one other
      → ((seen_in one).turns ≡ (seen_in was).turns) × ((seen_in other).turns ≡ [])
  cut_turns None one other is = absurd is
  cut_turns (Some was) None other is = absurd is
  cut_turns (Some was) (Some one) None is = absurd is
  cut_turns (Some was) (Some one) (Some other) is = (is.turns, is.no_turns)

  -- a pass that two are joined to has the turns of both
  joined_turns : (one other now : Option (Pass (TurnedSlot D A))) → IsJoinedAt one other now
      → (seen_in now).turns ≡ (seen_in one).turns ++ (seen_in other).turns
  joined_turns None other now is = absurd is
  joined_turns (Some one) None now is = absurd is
  joined_turns (Some one) (Some other) None is = absurd is
  joined_turns (Some one) (Some other) (Some now) is = is.turns

  -- passes that are cut off one without turns have none, nor has what is left of it
  pub dealt_none : (whole : SharedPass D A) (passes : List (SharedPass D A)) (rest : SharedPass D A) → AreDealt whole passes rest → HasNone whole
      → HasNone rest × All HasNone passes
  dealt_none whole [] rest same none = (subst HasNone (sym same) none, All-nil HasNone)
  dealt_none whole (pass ∷ passes) rest (mid, split, more) none =
      let cut : (k : ℕ) → k < 64 → (turns_at mid k ≡ turns_at whole k) × (turns_at pass k ≡ []) =
      λ k inside. cut_turns (pass_at whole k) (pass_at mid k) (pass_at pass k) (split.each k inside) in
      let others = dealt_none mid passes rest more (λ k inside. (cut k inside).0 ∙ none k inside) in
      (others.0, All-cons HasNone pass passes (λ k inside. (cut k inside).1) others.1)

  -- passes without turns add none
  pub united_none : (first : SharedPass D A) (passes : List (SharedPass D A)) (whole : SharedPass D A) → AreUnited first passes whole → All HasNone passes
      → (k : ℕ) → k < 64 → turns_at whole k ≡ turns_at first k
  united_none first [] whole same none k inside = ap (λ p. turns_at p k) same
  united_none first (pass ∷ passes) whole (mid, ways, united, joined) none k inside =
      joined_turns (pass_at mid k) (pass_at pass k) (pass_at whole k) (joined.each k inside)
      ∙ (ap (λ l. turns_at mid k ++ l) (All-head HasNone pass passes none k inside)
      ∙ (append-nil (turns_at mid k) ∙ united_none first passes mid united (All-tail HasNone pass passes none) k inside))

  -- a pass is spent in the slot of an index
  abbrev pub SpentAt : ℕ → SharedPass D A → Type 0
  SpentAt k pass = (seen_in (pass_at pass k)).spent ≡ true

  -- a pass that two are joined to is spent where one of them is
  joined_spent : (one other now : Option (Pass (TurnedSlot D A))) → IsJoinedAt one other now
      → ((seen_in one).spent ≡ true → (seen_in now).spent ≡ true) × ((seen_in other).spent ≡ true → (seen_in now).spent ≡ true)
  joined_spent None other now is = absurd is
  joined_spent (Some one) None now is = absurd is
  joined_spent (Some one) (Some other) None is = absurd is
  joined_spent (Some one) (Some other) (Some now) is = (
    (λ spent. is.spent ∙ ap (λ b. b || is_spent other) spent),
    (λ spent. is.spent ∙ (ap (λ b. is_spent one || b) spent ∙ or_last (is_spent one))),
  )

  -- so is the one that all come to
  pub united_spent : (k : ℕ) → k < 64 → (first : SharedPass D A) (passes : List (SharedPass D A)) (whole : SharedPass D A) → AreUnited first passes whole
      → (SpentAt k first → SpentAt k whole) × All (λ p. SpentAt k p → SpentAt k whole) passes
  united_spent k inside first [] whole same = (subst (SpentAt k) (sym same), All-nil (λ p. SpentAt k p → SpentAt k whole))
  united_spent k inside first (pass ∷ passes) whole (mid, ways, united, joined) =
      let more = united_spent k inside first passes mid united in
      let both = joined_spent (pass_at mid k) (pass_at pass k) (pass_at whole k) (joined.each k inside) in (
        (λ s. both.0 (more.0 s)),
        All-cons (λ p. SpentAt k p → SpentAt k whole) pass passes both.1 (λ i d low s. both.0 (more.1 i d low s)),
      )

  -- the sections of several, the last ones first
  abbrev pub all_made : List (Made D A) → ℕ → List (TurnedSection D A)
  all_made [] k = []
  all_made (m ∷ made) k = all_made made k ++ m k

  -- joined passes have the turns of all, where the first has none
  pub united_made : (first : SharedPass D A) (made : List (Made D A)) (passes : List (SharedPass D A)) (whole : SharedPass D A) → AllZip HasMade made passes
      → AreUnited first passes whole → HasNone first → HasMade (all_made made) whole
  united_made first [] [] whole zip same none k inside = ap (λ p. turns_at p k) same ∙ none k inside
  united_made first [] (pass ∷ passes) whole zip united none k inside = absurd zip
  united_made first (m ∷ made) [] whole zip united none k inside = absurd zip
  united_made first (m ∷ made) (pass ∷ passes) whole (has, zip) (mid, ways, united, joined) none k inside =
      joined_turns (pass_at mid k) (pass_at pass k) (pass_at whole k) (joined.each k inside)
      ∙ (ap (λ l. l ++ turns_at pass k) (united_made first made passes mid zip united none k inside)
      ∙ (ap (λ l. turns_by (all_made made k) ++ l) (has k inside) ∙ sym (map-append turn_by (all_made made k) (m k))))
