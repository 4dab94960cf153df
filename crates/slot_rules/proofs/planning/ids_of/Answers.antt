use Rattle.std.proofs.Common.{◌≡◌, ◌∙◌, List, [], ◌∷◌, ◌++◌, ap, refl, sym, false, true}
use Rattle.stamp_id.specs.declared.version.VersionId.{VersionId}
use Rattle.slot_rules.proofs.PlanLemmas.{all_read, piece_is}
use Rattle.slot_rules.proofs.planning.ids_of.Goals as goal

pub loop-first-preserved-in_ok-push : goal.loop-first-preserved-in_ok-push
loop-first-preserved-in_ok-push c ids is =
    let split = c.in-Some.ensures.cases in
    let read : List VersionId = c.loop-first.ids.items in
    let piece = piece_is ids read c.loop-first.left.now c.in-Some.first.now (c.in-Some.ensures.variant.0 refl) split.0 (c.loop-first.invariant ids is) in
    let found = c.in-Ok.ensures.reads piece.0 piece.1 in
    let same : c.in-Ok.id ≡ piece.0 = cc in
    let more : c.push.new.self.items ≡ read ++ c.in-Ok.id ∷ [] = c.in_ok-push.ensures.items in (
      piece.2.0,
      piece.2.1 ∙ ap (λ (l : List VersionId). l ++ piece.2.0) (ap (λ (y : VersionId). read ++ y ∷ []) (sym same) ∙ sym more),
      split.1 ∙ piece.2.2,
    )

pub loop-first-preserved : goal.loop-first-preserved
loop-first-preserved c ids is =
    let split = c.in-Some.ensures.cases in
    let piece = piece_is ids c.loop-first.ids.items c.loop-first.left.now c.in-Some.first.now (c.in-Some.ensures.variant.0 refl) split.0 (c.loop-first.invariant ids is) in
    let found = c.in_default-from_bytes.ensures.reads piece.0 piece.1 in
    absurd cc

-- fewer than 16 bytes are left
none_is_some : false ≡ true → ⊥
none_is_some e = cc

pub returns : goal.returns
returns c ids is = all_read ids c.loop-first.ids.items c.loop-first.left.now (λ long. none_is_some (c.in_default.ensures.variant.1 long)) (c.loop-first.invariant ids is)
