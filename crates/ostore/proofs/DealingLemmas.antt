-- Passes that are cut off one pass, one after another, and joined again.
use Rattle.std.proofs.Common.{◌≡◌, ◌+◌, ◌<◌, ◌∙◌, ℕ, List, [], ◌∷◌, ◌++◌, Option, Some, None, ap, refl, subst, sym, length}
use Rattle.std.specs.Prelude.{option_map, slice_index_or}
use Rattle.std.proofs.lemmas.List.{get_or-map}
use Rattle.store_shared.specs.Parting.{AreJoined, IsCutAt, IsSplit, parts_at, parts_in}
use Rattle.store_shared.specs.SharedPasses.{drives_of, pass_at, pass_holds, passes_in, shared_holds}
use Rattle.store_shared.specs.declared.shared.SharedPass.{SharedPass}
use Rattle.turn_lock.specs.declared.pass.Pass.{Pass}
use Rattle.store_shared.specs.declared.shared.TurnedSlot.{TurnedSlot}
use Rattle.ostore.specs.Workers.{AreDealt, AreUnited}

module _ {D A : Type 0} where
  -- one more pass is cut off what is left
  pub dealt_more : (whole : SharedPass D A) (passes : List (SharedPass D A)) (rest more cut : SharedPass D A) → AreDealt whole passes rest
      → IsSplit rest more cut (drives_of cut) → AreDealt whole (passes ++ cut ∷ []) more
  dealt_more whole [] rest more cut is split = (more, subst (λ p. IsSplit p more cut (drives_of cut)) is split, refl)
  dealt_more whole (pass ∷ passes) rest more cut dealt split = (dealt.0, dealt.1, dealt_more dealt.0 passes rest more cut dealt.2 split)

  -- the one before the last ones that were joined is joined too
  pub united_more : (first mid whole : SharedPass D A) (ways : List D) (pass : SharedPass D A) (gone : List (SharedPass D A)) → AreUnited first gone mid
      → AreJoined mid pass whole ways → AreUnited first (pass ∷ gone) whole
  united_more first mid whole ways pass gone united joined = (mid, ways, united, joined)

  -- of a place that is cut in two, the one has one part less
  cut_parts : (was one other : Option (Pass (TurnedSlot D A))) → IsCutAt was one other
      → parts_in (option_map pass_holds one) + 1 ≡ parts_in (option_map pass_holds was)
  cut_parts (Some was) (Some one) (Some other) cut = cut.parts
  cut_parts (Some was) (Some one) None cut = absurd cut
  cut_parts (Some was) None other cut = absurd cut
  cut_parts None one other cut = absurd cut

  parts_in_place : (pass : SharedPass D A) (k : ℕ) → k < 64 → parts_at (shared_holds pass) k ≡ parts_in (option_map pass_holds (pass_at pass k))
  parts_in_place pass k below = ap parts_in (get_or-map (option_map pass_holds) (passes_in pass) k None None (subst (λ n. k < n) (sym pass.count) below))

  -- a pass off which one was cut has one part less of each lock
  pub split_parts : (pass one other : SharedPass D A) (ways : List D) → IsSplit pass one other ways → (k : ℕ) → k < 64
      → parts_at (shared_holds one) k + 1 ≡ parts_at (shared_holds pass) k
  split_parts pass one other ways split k below = ap (λ n. n + 1) (parts_in_place one k below)
      ∙ (cut_parts (pass_at pass k) (pass_at one k) (pass_at other k) (split.each k below) ∙ sym (parts_in_place pass k below))
