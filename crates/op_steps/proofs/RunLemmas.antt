-- Logs of steps, one behind another.
use Rattle.std.proofs.Common.{◌≡◌, ◌∙◌, ℕ, List, [], ◌∷◌, ◌++◌, Option, append-nil, append_assoc, ap, inl, inr, refl, subst, sym}
use Rattle.desk_base.specs.Telling.{Effect}
use Rattle.drive_base.specs.View.{DriveView}
use Rattle.drive_base.specs.declared.plan.SetPlan.{SetPlan}
use Rattle.slot_core.specs.declared.stub.Stub.{Stub}
use Rattle.receipts.specs.Events.{Log, Note, Shown, notes_of}
use Rattle.receipts.specs.Events.Event.{Called, Fed, Told}
use Rattle.receipts.specs.declared.barred.Barred.{Barred}
use Rattle.receipts.proofs.JoinLemmas.{notes_join}
use Rattle.op_steps.specs.Claims.{Claim}
use Rattle.op_steps.specs.Going.{AddsNotes, OneStep, RanSoOver}
use Rattle.op_steps.specs.Notes.{notes_by}
use Rattle.op_steps.specs.Steps.{RanOver}
use Rattle.op_steps.specs.Store.{FeedSeen, StoreOver, TellerSeen, store_of}
use Rattle.op_steps.specs.Words.{CallsSo, FeedsSo, TellsSo}
use Rattle.op_steps.specs.declared.next.OpNext.{OpNext}
use Rattle.op_steps.specs.declared.next.OpNext.TheVariants.{Data, Feed, Tell}

-- the notes of two logs, one behind another, are those of both
pub notes_more : (log more : Log) (s t u : List Stub) → AddsNotes log s t → AddsNotes more t u → AddsNotes (log ++ more) s u
notes_more log more s t u one two = two ∙ (ap (λ notes. notes ++ notes_of more) one
    ∙ (append_assoc (notes_by s) (notes_of log) (notes_of more) ∙ ap (λ notes. notes_by s ++ notes) (sym (notes_join log more))))

module _ {S T : Type 0} (turns : ℕ → Option Note → Shown → StoreOver S T → StoreOver S T → Type 0)
    (bars : ℕ → Barred → StoreOver S T → StoreOver S T → Type 0) (takes breaks : Effect T) (set : SetPlan) where
  abbrev pub Leads : Log → StoreOver S T → StoreOver S T → Type 0
  Leads = RanOver turns bars takes breaks set

  -- a log leads on where another ends
  pub ran_join : (log more : Log) (old mid new : StoreOver S T) → Leads log old mid → Leads more mid new
      → Leads (log ++ more) old new
  ran_join [] more old mid new same ran = subst (λ (s : StoreOver S T). Leads more s new) same ran
  ran_join (event ∷ log) more old mid new (next, step, led) ran = (next, step, ran_join log more next mid new led ran)

  -- nothing was done
  pub so_none : (Old : Claim → Log → Type 0) (store : Claim → StoreOver S T) (stubs : List Stub) → RanSoOver Leads Old Old store store stubs stubs
  so_none Old store stubs claim log holds =
      (claim, [], subst (λ l. Old claim l) (sym (append-nil log)) holds, refl, sym (append-nil (notes_by stubs)))

  -- more was done
  pub so_more : (Old Mid New : Claim → Log → Type 0) (old mid new : Claim → StoreOver S T) (s t u : List Stub)
      → RanSoOver Leads Old Mid old mid s t → RanSoOver Leads Mid New mid new t u → RanSoOver Leads Old New old new s u
  so_more Old Mid New old mid new s t u first second claim log holds =
      let one = first claim log holds in
      let two = second one.0 (log ++ one.1) one.2 in (
        two.0,
        one.1 ++ two.1,
        subst (λ l. New two.0 l) (append_assoc log one.1 two.1) two.2,
        ran_join one.1 two.1 (old claim) (mid one.0) (new two.0) one.3 two.3,
        notes_more one.1 two.1 s t u one.4 two.4,
      )

  -- a step is a log
  pub any_step : (next : OpNext) (Old New : Claim → Log → Type 0) (old new : Claim → StoreOver S T) (s t : List Stub)
      → RanSoOver (OneStep next Leads) Old New old new s t → RanSoOver Leads Old New old new s t
  any_step next Old New old new s t steps claim log holds = let one = steps claim log holds in (one.0, one.1, one.2, one.3.1, one.4)

  -- a step at data drives is one call, or nothing was done
  pub called_so : (next : OpNext) (Old New : Claim → Log → Type 0) (slots : S) (old new : List DriveView) (feed : FeedSeen) (teller : TellerSeen T) (stubs : List Stub)
      → next ≡ Data → CallsSo Old New set old new → RanSoOver (OneStep next Leads) Old New (λ claim. store_of slots old claim feed teller)
      (λ claim. store_of slots new claim feed teller) stubs stubs
  called_so next Old New slots old new feed teller stubs due calls claim log holds = elim (calls claim log holds) [
    | inl one ↦ (
      one.0,
      Called one.1 one.2 ∷ [],
      one.3,
      ((due, refl), (store_of slots new one.0 feed teller, record { moves = one.4; leaves = refl }, refl)),
      sym (append-nil (notes_by stubs)),
    )
    | inr none ↦ (
      claim,
      [],
      subst (λ l. New claim l) (sym (append-nil log)) none.0,
      (due, ap (λ (disks : List DriveView). store_of slots disks claim feed teller) none.1),
      sym (append-nil (notes_by stubs)),
    )
  ]

  -- bytes taken of the body are one step
  pub fed_so : (next : OpNext) (Old New : Claim → Log → Type 0) (slots : S) (disks : List DriveView) (old new : FeedSeen) (teller : TellerSeen T) (stubs : List Stub)
      → next ≡ Feed → FeedsSo Old New old new → RanSoOver (OneStep next Leads) Old New (λ claim. store_of slots disks claim old teller)
      (λ claim. store_of slots disks claim new teller) stubs stubs
  fed_so next Old New slots disks old new teller stubs due feeds claim log holds =
      let one = feeds claim log holds in (
        claim,
        Fed one.0 one.1 ∷ [],
        one.2,
        ((due, refl), (store_of slots disks claim new teller, record { moves = one.3; leaves = refl }, refl)),
        sym (append-nil (notes_by stubs)),
      )

  -- and so is a telling
  pub told_so : (next : OpNext) (Old New : Claim → Log → Type 0) (slots : S) (disks : List DriveView) (feed : FeedSeen) (old new : TellerSeen T) (stubs : List Stub)
      → next ≡ Tell → TellsSo takes breaks Old New old new → RanSoOver (OneStep next Leads) Old New (λ claim. store_of slots disks claim feed old)
      (λ claim. store_of slots disks claim feed new) stubs stubs
  told_so next Old New slots disks feed old new stubs due tells claim log holds =
      let one = tells claim log holds in (
        claim,
        Told one.0 one.1 ∷ [],
        one.2,
        ((due, refl), (store_of slots disks claim feed new, record { moves = one.3; leaves = refl }, refl)),
        sym (append-nil (notes_by stubs)),
      )
