-- One step of a call among others.
use Rattle.std.proofs.Common.{◌≡◌, ◌<◌, ◌∙◌, ℕ, false, List, [], ◌∷◌, ◌++◌, Option, Some, None, get_or, length, option_to_list, set, append-nil, ap, refl, subst, sym, arith}
use Rattle.std.proofs.lemmas.List.{get_or-map, get_or_default, length-map, map-set, set-get_or}
use Rattle.std.specs.Prelude.{option_map}
use Rattle.audit_trail.specs.declared.entry.Entry.{Entry}
use Rattle.desk_base.specs.Telling.{Effect}
use Rattle.drive_base.specs.View.{DriveView}
use Rattle.drive_base.specs.declared.drive.Drive.{Ghosts}
use Rattle.drive_base.specs.declared.plan.SetPlan.{SetPlan}
use Rattle.receipts.specs.Events.{Log, Shown}
use Rattle.receipts.specs.Events.Event.{BarredFrom, Turned}
use Rattle.receipts.specs.declared.barred.Barred.{Barred}
use Rattle.receipts.specs.declared.barred.Barred.TheVariants as barred
use Rattle.slot_core.specs.declared.stub.Stub.{Stub}
use Rattle.op_steps.specs.Claims.{Claim}
use Rattle.op_steps.specs.Going.{AddsNotes, OneStep, RanSoOver}
use Rattle.op_steps.specs.Notes.{noted, notes_by}
use Rattle.op_steps.specs.Store.{FeedSeen, TellerSeen, slot_seen, store_of}
use Rattle.op_steps.specs.Words.{BarredSo, TurnsSo}
use Rattle.op_steps.specs.declared.next.OpNext.{OpNext}
use Rattle.op_steps.specs.declared.next.OpNext.TheVariants.{Section}
use Rattle.op_steps.proofs.TurnLemmas.{notes_kept}
use Rattle.turn_lock.specs.declared.pass.Pass.{Pass}
use Rattle.turn_lock.specs.declared.view.Turn.{Turn}
use Rattle.store_shared.specs.Among.{IsPassAt, PassSeen, pass_seen, passes_seen, seen_in, with_turn}
use Rattle.store_shared.specs.AmongSteps.{IsTurnOf, PassBarred, RanAmong}
use Rattle.store_shared.specs.SharedPasses.{pass_holds, passes_hold}
use Rattle.store_shared.specs.Turned.{SlotName, slot_in}
use Rattle.store_shared.specs.declared.shared.TurnedSlot.{TurnedSlot}

module _ {D A : Type 0} (passes : List (Option (Pass (TurnedSlot D A)))) (k : ℕ) where
  -- a pass that is there is seen in its place
  pub place_seen : (own : Pass (TurnedSlot D A)) → k < length passes → get_or passes k None ≡ Some own → IsPassAt (passes_seen passes) k (pass_seen own)
  place_seen own inside is = (
    let long = length-map passes seen_in in omega (arith, long, inside),
    λ d. get_or-map seen_in passes k None d inside ∙ ap seen_in is,
  )

  -- so is one that is put there
  pub place_set : (back : Pass (TurnedSlot D A)) → passes_seen (set passes k (Some back)) ≡ set (passes_seen passes) k (pass_seen back)
  place_set back = map-set seen_in passes k (Some back)

  -- where it holds what the one before held, all hold the same
  pub place_holds : (own back : Pass (TurnedSlot D A)) → k < length passes → get_or passes k None ≡ Some own → pass_holds back ≡ pass_holds own
      → passes_hold (set passes k (Some back)) ≡ passes_hold passes
  place_holds own back inside is same =
      map-set (option_map pass_holds) passes k (Some back) ∙ (ap (λ h. set (passes_hold passes) k (Some h)) same
      ∙ (ap (λ h. set (passes_hold passes) k h) (sym (get_or-map (option_map pass_holds) passes k None None inside ∙ ap (option_map pass_holds) is))
      ∙ set-get_or (passes_hold passes) k None))

module _ {D A T : Type 0} (ghosts : Ghosts D) (entries : A → Option (List Entry)) (count : A → ℕ) (takes breaks : Effect T) (plan : SetPlan)
    (Old New : Claim → Log → Type 0) where
  -- a section in a turn is one step, with its note
  pub turn_goes : (next : OpNext) (k : ℕ) (stub : Option Stub) (turn : Turn (TurnedSlot D A)) (was now : PassSeen D A) (old_disks new_disks : List DriveView)
      (stubs later : List Stub) → IsTurnOf plan k was turn → now ≡ with_turn was turn
      → next ≡ Section k → TurnsSo ghosts Old New stub (slot_seen entries count (slot_in turn.from)) (slot_seen entries count (slot_in turn.to)) old_disks new_disks
      → later ≡ stubs ++ option_to_list stub
      → (passes : List (PassSeen D A)) (feed : FeedSeen) (teller : TellerSeen T) → IsPassAt passes k was
      → RanSoOver (OneStep next (RanAmong ghosts entries count takes breaks plan)) Old New (λ claim. store_of passes old_disks claim feed teller)
      (λ claim. store_of (set passes k now) new_disks claim feed teller) stubs later
  turn_goes next k stub turn was now old_disks new_disks stubs later comes is due turns kept passes feed teller at claim log holds =
      let got = turns claim log holds in (
        got.0,
        Turned k (noted stub) got.1 ∷ [],
        subst (λ i. New got.0 (log ++ Turned i (noted stub) got.1 ∷ [])) (ap (λ (n : SlotName). n.index) comes.slot) got.2,
        (
          (due, refl),
          (
            store_of (set passes k now) new_disks got.0 feed teller,
            record {
              was = was;
              is = at;
              turn = turn;
              comes = comes;
              disks = new_disks;
              moves = got.3;
              leaves = ap (λ p. store_of (set passes k p) new_disks got.0 feed teller) is;
            },
            refl,
          ),
        ),
        subst (λ l. AddsNotes (Turned k (noted stub) got.1 ∷ []) stubs l) (sym kept) (notes_kept stubs stub k got.1),
      )

  -- a section that could not be done is one step, without a note
  pub bar_goes : (next : OpNext) (k : ℕ) (why : Barred) (was now : PassSeen D A) (disks : List DriveView) (stubs later : List Stub)
      → PassBarred why was now → next ≡ Section k → BarredSo Old New next why → later ≡ stubs
      → (passes : List (PassSeen D A)) (feed : FeedSeen) (teller : TellerSeen T) → IsPassAt passes k was
      → RanSoOver (OneStep next (RanAmong ghosts entries count takes breaks plan)) Old New (λ claim. store_of passes disks claim feed teller)
      (λ claim. store_of (set passes k now) disks claim feed teller) stubs later
  bar_goes next k why was now disks stubs later bars at barred kept passes feed teller is claim log holds = (
    claim,
    BarredFrom k why ∷ [],
    barred claim log k at holds,
    ((at, refl), (store_of (set passes k now) disks claim feed teller, record { was = was; now = now; is = is; bars = bars; leaves = refl }, refl)),
    ap notes_by kept ∙ sym (append-nil (notes_by stubs)),
  )

  -- where that is for want of memory all stays
  pub bar_stays : (next : OpNext) (k : ℕ) (disks : List DriveView) (stubs later : List Stub) → next ≡ Section k → BarredSo Old New next barred.NoMemory
      → later ≡ stubs → (passes : List (PassSeen D A)) (feed : FeedSeen) (teller : TellerSeen T) → k < length passes
      → RanSoOver (OneStep next (RanAmong ghosts entries count takes breaks plan)) Old New (λ claim. store_of passes disks claim feed teller)
      (λ claim. store_of passes disks claim feed teller) stubs later
  bar_stays next k disks stubs later at bars kept passes feed teller inside =
      let none : PassSeen D A = record { turns = []; seen = 0; spent = false } in
      let was = get_or passes k none in
      subst (λ p. RanSoOver (OneStep next (RanAmong ghosts entries count takes breaks plan)) Old New (λ claim. store_of passes disks claim feed teller)
      (λ claim. store_of p disks claim feed teller) stubs later) (set-get_or passes k none)
      (bar_goes next k barred.NoMemory was was disks stubs later refl at bars kept passes feed teller (inside, λ d. get_or_default passes k d none inside))
