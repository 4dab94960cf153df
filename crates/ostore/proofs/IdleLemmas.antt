-- The passes of workers as they begin: of the store's set, with no turn, and having seen those that each slot had.
use Rattle.std.proofs.Common.{◌≡◌, ◌∙◌, ◌<◌, ℕ, Bool, false, List, [], ◌∷◌, Option, Some, None, All, ap}
use Rattle.std.proofs.lemmas.List.Elements.{All-cons, All-nil}
use Rattle.drive_base.specs.declared.plan.SetPlan.{SetPlan}
use Rattle.turn_lock.specs.Passes.{is_spent, made_with, seen_by, turns_of}
use Rattle.turn_lock.specs.declared.lock.TurnLock.{TurnLock}
use Rattle.turn_lock.specs.declared.pass.Pass.{Pass}
use Rattle.turn_lock.specs.declared.view.Turn.{Turn}
use Rattle.store_shared.specs.Among.{PassSeen, seen_in}
use Rattle.store_shared.specs.Parting.{IsCutAt, IsFirstAt}
use Rattle.store_shared.specs.SharedPasses.{drives_of, pass_at, set_held, shared_holds}
use Rattle.store_shared.specs.Turned.{turns_in}
use Rattle.store_shared.specs.declared.shared.SharedPass.{SharedPass}
use Rattle.store_shared.specs.declared.shared.TurnedSlot.{TurnedSlot}
use Rattle.ostore.specs.Workers.{AreDealt, AreUnited}

module _ {D A : Type 0} where
  -- what is seen of the pass of a lock, from its parts
  abbrev pub seen_so : List (Turn (TurnedSlot D A)) → ℕ → Bool → PassSeen D A
  seen_so turns seen spent = record { turns = turns; seen = seen; spent = spent }

  seen_same : (t u : List (Turn (TurnedSlot D A))) (m n : ℕ) (a b : Bool) → t ≡ u → m ≡ n → a ≡ b → seen_so t m a ≡ seen_so u n b
  seen_same t u m n a b turns seen spent = ap (λ x. seen_so x m a) turns ∙ (ap (λ x. seen_so u x a) seen ∙ ap (λ x. seen_so u n x) spent)

  -- a pass is of this set, has seen so many turns of each slot, and made none
  pub record IsIdle (set : SetPlan) (seen : ℕ → ℕ) (pass : SharedPass D A) : Type 0 where
    pub of_set : set_held (shared_holds pass) ≡ set
    pub idle : (k : ℕ) → k < 64 → seen_in (pass_at pass k) ≡ seen_so [] (seen k) false

  -- the first pass of a lock
  pub first_idle : (lock : TurnLock (TurnedSlot D A)) (pass : Option (Pass (TurnedSlot D A))) (n : ℕ) → IsFirstAt lock pass → turns_in (made_with lock) ≡ n
      → seen_in pass ≡ seen_so [] n false
  first_idle lock None n is same = absurd is
  first_idle lock (Some pass) n is same = seen_same (turns_of pass) [] (seen_by pass) n (is_spent pass) false is.turns (is.seen ∙ same) is.spent

  -- a pass that is cut in two
  cut_idle : (was one other : Option (Pass (TurnedSlot D A))) (n : ℕ) → IsCutAt was one other → seen_in was ≡ seen_so [] n false
      → (seen_in one ≡ seen_so [] n false) × (seen_in other ≡ seen_so [] n false)
  cut_idle None one other n is idle = absurd is
  cut_idle (Some was) None other n is idle = absurd is
  cut_idle (Some was) (Some one) None n is idle = absurd is
  cut_idle (Some was) (Some one) (Some other) n is idle =
      let turns = ap (λ (s : PassSeen D A). s.turns) idle in
      let seen = ap (λ (s : PassSeen D A). s.seen) idle in
      let spent = ap (λ (s : PassSeen D A). s.spent) idle in (
        seen_same (turns_of one) [] (seen_by one) n (is_spent one) false (is.turns ∙ turns) (is.seen ∙ seen) (is.spent ∙ spent),
        seen_same (turns_of other) [] (seen_by other) n (is_spent other) false is.no_turns (is.seen_too ∙ seen) (is.spent_too ∙ spent),
      )

  -- passes that are cut off an idle one are idle
  pub dealt_idle : (set : SetPlan) (seen : ℕ → ℕ) (whole : SharedPass D A) (passes : List (SharedPass D A)) (rest : SharedPass D A) → AreDealt whole passes rest
      → IsIdle set seen whole → All (IsIdle set seen) passes
  dealt_idle set seen whole [] rest same idle = All-nil (IsIdle set seen)
  dealt_idle set seen whole (pass ∷ passes) rest (mid, split, more) idle =
      let cut : (k : ℕ) → k < 64 → (seen_in (pass_at mid k) ≡ seen_so [] (seen k) false) × (seen_in (pass_at pass k) ≡ seen_so [] (seen k) false) =
      λ k inside. cut_idle (pass_at whole k) (pass_at mid k) (pass_at pass k) (seen k) (split.each k inside) (idle.idle k inside) in
      let of_mid : IsIdle set seen mid = record { of_set = split.set ∙ idle.of_set; idle = λ k inside. (cut k inside).0 } in
      let of_pass : IsIdle set seen pass = record { of_set = split.set_too ∙ idle.of_set; idle = λ k inside. (cut k inside).1 } in
      All-cons (IsIdle set seen) pass passes of_pass (dealt_idle set seen mid passes rest more of_mid)

  -- the ways of the first pass stay in what is left of it, and in what others are joined with
  pub dealt_drives : (whole : SharedPass D A) (passes : List (SharedPass D A)) (rest : SharedPass D A) → AreDealt whole passes rest → drives_of rest ≡ drives_of whole
  dealt_drives whole [] rest same = ap drives_of same
  dealt_drives whole (pass ∷ passes) rest (mid, split, more) = dealt_drives mid passes rest more ∙ split.drives

  pub united_drives : (first : SharedPass D A) (passes : List (SharedPass D A)) (whole : SharedPass D A) → AreUnited first passes whole
      → drives_of whole ≡ drives_of first
  united_drives first [] whole same = ap drives_of same
  united_drives first (pass ∷ passes) whole (mid, ways, united, joined) = joined.drives ∙ united_drives first passes mid united
