-- What may become the value after both writes of a change.
use Rattle.std.proofs.Common.{◌≡◌, ◌≢◌, ℕ, List, Some, None, Result, Ok, Err, ◌∙◌, sym, ap, subst, refl, inl, inr}
use Rattle.std.proofs.lemmas.Bool.{cases_eq}
use Rattle.vote_core.specs.Lane.{Base, Lane, Next, HasNext}
use Rattle.vote_core.specs.Laws.{FreshChangeStays, LiveIsOldOrOwn, MarkLeavesNoneLive, OneValue}
use Rattle.vote_core.specs.Loops.{IsFreshChange, IsPrepared, Leaves, marked, prepared}
use Rattle.vote_core.specs.Sound.{HoldsValue}
use Rattle.register_core.specs.LaneMoves.{MarkMoves}
use Rattle.register_caller.specs.BothWrites.{LiveIsLateOr}

-- the next of a prepared record
pub own_next : (a : Lane) (base : Base) (own next : Next) → a ≡ prepared base own → HasNext a next → next ≡ own
own_next a base own next same has =
    let both : Some own ≡ Some next = sym (ap (λ (l : Lane). l.next) same) ∙ has in
    let one : own ≡ next = cc in
    sym one

-- a marked record has none
pub no_next : (a : Lane) (own next : Next) → a ≡ marked own → HasNext a next → ⊥
no_next a own next same has = let both : None ≡ Some next = sym (ap (λ (l : Lane). l.next) same) ∙ has in absurd cc

-- after a prepare
live_after_prepare : LiveIsOldOrOwn → (w last c : ℕ) (content : List ℕ) (lanes after : List Lane) (base : Base) (own : Next)
    → HoldsValue w last lanes c content → Leaves (prepared base own) lanes after → LiveIsLateOr lanes c after c own.change own.content
live_after_prepare law w last c content lanes after base own holds left a next there has live =
    elim (law w last c content lanes after (prepared base own) a next holds left there has live) [
      | inl old ↦ inl (record { lane = a; there = old.0; next = next; on_its_way = has; live = old.1; change_is = refl; content_is = refl })
      | inr same ↦ let is : next ≡ own = own_next a base own next same has in inr (ap (λ (n : Next). n.change) is, ap (λ (n : Next). n.content) is)
    ]

-- after a mark that left the value
live_after_mark : LiveIsOldOrOwn → (w last c before : ℕ) (content : List ℕ) (lanes mid after : List Lane) (own : Next)
    → HoldsValue w last mid c content → LiveIsLateOr lanes before mid c own.change own.content → Leaves (marked own) mid after
    → LiveIsLateOr lanes before after c own.change own.content
live_after_mark law w last c before content lanes mid after own holds lives left a next there has live =
    elim (law w last c content mid after (marked own) a next holds left there has live) [
      | inl old ↦ lives a next old.0 has old.1
      | inr same ↦ absurd (no_next a own next same has)
    ]

-- where the change is the value
live_at_own : LiveIsOldOrOwn → MarkLeavesNoneLive → (w last c : ℕ) (content : List ℕ) (lanes mid after : List Lane) (base : Base) (own : Next)
    → HoldsValue w last mid c content → IsPrepared mid c base own → LiveIsLateOr lanes c mid c own.change own.content → Leaves (marked own) mid after
    → LiveIsLateOr lanes c after own.change own.change own.content
live_at_own law none w last c content lanes mid after base own holds ready lives left = elim (cases_eq own.change c) [
  | inl same ↦ subst (λ (n : ℕ). LiveIsLateOr lanes c after n own.change own.content) (sym same) (live_after_mark law w last c c content lanes mid after own holds lives left)
  | inr other ↦ λ a next there has live. absurd (none c mid after base own next a ready other left there has live)
]

-- after a prepare that was refused
pub live_refused : LiveIsOldOrOwn → OneValue → (w last later c now : ℕ) (content shows : List ℕ) (lanes after : List Lane) (base : Base) (own : Next)
    → HoldsValue w last lanes c content → HoldsValue w later after c content → Leaves (prepared base own) lanes after → HoldsValue w later after now shows
    → LiveIsLateOr lanes c after now own.change own.content
live_refused law one w last later c now content shows lanes after base own holds stays left here =
    subst (λ (n : ℕ). LiveIsLateOr lanes c after n own.change own.content) (one w later c w later now content shows after stays here).0
    (live_after_prepare law w last c content lanes after base own holds left)

-- after both loops, whatever value the lanes hold then
pub live_after_both : LiveIsOldOrOwn → MarkLeavesNoneLive → OneValue → {T E : Type 0} (result : Result T E) (w last later c now : ℕ) (content shows : List ℕ)
    (lanes mid after : List Lane) (base : Base) (own : Next)
    → HoldsValue w last lanes c content → HoldsValue w later mid c content → IsPrepared mid c base own → Leaves (prepared base own) lanes mid
    → Leaves (marked own) mid after → MarkMoves result w later c content own after → HoldsValue w later after now shows
    → LiveIsLateOr lanes c after now own.change own.content
live_after_both law none one (Ok done) w last later c now content shows lanes mid after base own holds stays ready first second moves here =
    subst (λ (n : ℕ). LiveIsLateOr lanes c after n own.change own.content) (one w later own.change w later now own.content shows after moves.holds here).0
    (live_at_own law none w later c content lanes mid after base own stays ready (live_after_prepare law w last c content lanes mid base own holds first) second)
live_after_both law none one (Err fault) w last later c now content shows lanes mid after base own holds stays ready first second moves here =
    let lives : LiveIsLateOr lanes c mid c own.change own.content = live_after_prepare law w last c content lanes mid base own holds first in
    elim moves [
      | inl same ↦ subst (λ (n : ℕ). LiveIsLateOr lanes c after n own.change own.content) (one w later c w later now content shows after same here).0
          (live_after_mark law w later c c content lanes mid after own stays lives second)
      | inr moved ↦ subst (λ (n : ℕ). LiveIsLateOr lanes c after n own.change own.content)
          (one w later own.change w later now own.content shows after moved here).0
          (live_at_own law none w later c content lanes mid after base own stays ready lives second)
    ]

-- a fresh change stays fresh through a prepare of others
pub fresh_after_prepare : FreshChangeStays → (other : ℕ) (lanes after : List Lane) (base : Base) (own : Next)
    → IsFreshChange lanes other → base.change ≢ other → own.change ≢ other → Leaves (prepared base own) lanes after → IsFreshChange after other
fresh_after_prepare law other lanes after base own fresh base_else own_else left =
    law other lanes after (prepared base own) fresh base_else
    (λ next has same. own_else (sym (ap (λ (n : Next). n.change) (own_next (prepared base own) base own next refl has)) ∙ same)) left

-- and through a mark
pub fresh_after_mark : FreshChangeStays → (other : ℕ) (lanes after : List Lane) (own : Next)
    → IsFreshChange lanes other → own.change ≢ other → Leaves (marked own) lanes after → IsFreshChange after other
fresh_after_mark law other lanes after own fresh own_else left =
    law other lanes after (marked own) fresh own_else (λ next has same. no_next (marked own) own next refl has) left
