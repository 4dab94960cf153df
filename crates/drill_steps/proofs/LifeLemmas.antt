-- Lives, one after another, leave a store that holds.
use Rattle.std.proofs.Common.{◌≡◌, ◌<◌, ◌∙◌, ℕ, List, [], ◌∷◌, ◌++◌, Option, inl, inr, refl, sym, ap, subst}
use Rattle.std.proofs.lemmas.Grind.{flat_map-append}
use Rattle.audit_trail.specs.declared.entry.Entry.{Entry}
use Rattle.desk_base.specs.Telling.{Effect}
use Rattle.drive_base.specs.View.{DriveView, views}
use Rattle.drive_base.specs.declared.drive.Drive.{Ghosts}
use Rattle.drive_base.specs.declared.plan.SetPlan.{SetPlan}
use Rattle.receipts.specs.Events.{Log}
use Rattle.slot_data.specs.Disks.{Disks}
use Rattle.slot_history.specs.Laws.{AppliedOnce, RunsStayLawful}
use Rattle.op_steps.specs.Claims.{disks_of as counted}
use Rattle.log_laws.specs.Laws.{RanKeepsFiles}
use Rattle.op_steps.specs.Leading.{RunsShowing, Standing, entered_at, entered_in, entries_at}
use Rattle.log_laws.specs.Showing.{ShowingJoins, ShowingRuns}
use Rattle.op_steps.specs.Store.{slots_seen}
use Rattle.op_steps.specs.declared.op.Op.{Ghosts as Ops}
use Rattle.store_shared.specs.Holders.{ClosedStoreHolds, IsLastUsed, KeptDrivesRest, LostServe, OpenedStoreHolds, RigHolds, TriedRigHolds}
use Rattle.store_shared.specs.Laws.{PassesAreInOrder}
use Rattle.store_shared.specs.Opening.{with_out}
use Rattle.store_shared.specs.Passes.{disks_of, set_of, slots_of}
use Rattle.store_shared.specs.Strikes.{RigIsStruck, StruckRigHolds}
use Rattle.store_shared.specs.declared.pass.StoreParts.{StoreParts}
use Rattle.drill_steps.specs.Laws.{IsHonestRun, WorldsHold}
use Rattle.drill_steps.specs.Lives.{AllRun, AreHonestLives, ChangesApplyOnce, Closes, IsHonestTurn, IsRefused, LifeHolds, Lives, LivesHold, LivesLeave, LivesRan, Opens, PartsAreHonest, Place, PlaceHolds, Rests, Rises, Suffers, TermsRise, Turn, TurnDoes, log_in, steps_in}
use Rattle.drill_steps.specs.Lives.Place.{Open, Shut}
use Rattle.drill_steps.specs.Lives.Turn.{Closed, Damaged, Lived, Opened, Refused, Rested}
use Rattle.drill_steps.specs.Worlds.{Move, World, claims_of}
use Rattle.drill_steps.proofs.HonestLemmas.{parts_stay}
use Rattle.drill_steps.proofs.RestLemmas.{moves_rest, struck_rest}

-- whichever drives are out, terms are kept as before
last_of_set : (set : SetPlan) (out used : ℕ) (disks : List DriveView) → IsLastUsed (with_out set out) used disks → IsLastUsed set used disks
last_of_set set out used disks (inl none) = inl none
last_of_set set out used disks (inr kept) = inr (record { holders = kept.holders; enough = kept.enough; each = kept.each })

-- no entries run to where a slot is, and runs join
none_run : (at : ℕ → Standing) → AllRun [] at at
none_run at slot = ([], refl)

runs_join : ShowingJoins → (one two : Log) (at mid later : ℕ → Standing) → AllRun one at mid → AllRun two mid later → AllRun (one ++ two) at later
runs_join joins one two at mid later first second slot =
    subst (λ run. RunsShowing slot run (at slot).state (later slot).state) (sym (flat_map-append (entered_in slot) one two))
    (joins slot (entered_at slot one) (entered_at slot two) (at slot).state (mid slot).state (later slot).state (first slot) (second slot))

-- what one turn leaves
pub record TurnLeaves {D A O T : Type 0} (ghosts : Ghosts D) (set : SetPlan) (turn : Turn) (used : ℕ) (at : ℕ → Standing) (new : Place D A O T) : Type 0 where
  pub last : ℕ
  pub later : ℕ → Standing
  pub rise : Rises used turn (λ n. n ≡ last)
  pub run : AllRun (steps_in turn) at later
  pub holds : PlaceHolds ghosts set last later new

module _ {D A : Type 0} (ghosts : Ghosts D) (set : SetPlan) where
  -- parts hold, whichever drives are out
  holds_of_set : (used out : ℕ) (unseen : Disks) (at : ℕ → Standing) (parts : StoreParts D A)
      → RigHolds ghosts (with_out set out) used out unseen at parts → RigHolds ghosts set used out unseen at parts
  holds_of_set used out unseen at parts x = record {
    disks = record {
      count = x.disks.count;
      tell = x.disks.tell;
      honest = x.disks.honest;
      last = last_of_set set out used (views ghosts parts.disks.items) x.disks.last;
    };
    lost_are = record { within = x.lost_are.within; lived = x.lost_are.lived; lack = x.lost_are.lack };
    manifests = x.manifests;
    slots = x.slots;
  }

module _ {D A O T : Type 0} (ghosts : Ghosts D) (set : SetPlan) where
  -- what rests holds
  rests : (used lost : ℕ) (at : ℕ → Standing) (place : Place D A O T) (parts : StoreParts D A) → place ≡ Shut lost parts → PlaceHolds ghosts set used at place
      → (unseen : Disks) × RigHolds ghosts set used lost unseen at parts
  rests used lost at place parts same x =
      let y = subst (λ (p : Place D A O T). PlaceHolds ghosts set used at p) same x in (y.unseen, y.holds)

  rested : (used lost : ℕ) (at : ℕ → Standing) (place : Place D A O T) (parts : StoreParts D A) (unseen : Disks) → place ≡ Shut lost parts
      → RigHolds ghosts set used lost unseen at parts → PlaceHolds ghosts set used at place
  rested used lost at place parts unseen same holds =
      subst (λ (p : Place D A O T). PlaceHolds ghosts set used at p) (sym same) (record { unseen = unseen; holds = holds })

  -- and so does a life
  lives_in : (used term : ℕ) (at : ℕ → Standing) (place : Place D A O T) (plan : SetPlan) (world : World D O T) → place ≡ Open plan term world
      → PlaceHolds ghosts set used at place → (unseen : Disks) × (term ≡ used) × LifeHolds ghosts set plan term unseen at world
  lives_in used term at place plan world same x =
      let y = subst (λ (p : Place D A O T). PlaceHolds ghosts set used at p) same x in (y.unseen, y.holds.0, y.holds.1)

  lived : (term : ℕ) (at : ℕ → Standing) (place : Place D A O T) (plan : SetPlan) (world : World D O T) (unseen : Disks) → place ≡ Open plan term world
      → LifeHolds ghosts set plan term unseen at world → PlaceHolds ghosts set term at place
  lived term at place plan world unseen same holds =
      subst (λ (p : Place D A O T). PlaceHolds ghosts set term at p) (sym same) (record { unseen = unseen; holds = (refl, holds) })

module _ {D A O T : Type 0} (ghosts : Ghosts D) (entries : A → Option (List Entry)) (count : A → ℕ) (set : SetPlan)
    (opens : OpenedStoreHolds ghosts entries count) (passes : PassesAreInOrder ghosts entries count) where
  -- an opening
  opened : (term used : ℕ) (at : ℕ → Standing) (old new : Place D A O T) (x : Opens ghosts entries count set term old new)
      → LostServe x.lost (views ghosts x.parts.disks.items) (views ghosts (disks_of x.pass)) → PlaceHolds ghosts set used at old
      → TurnLeaves ghosts set (Opened term) used at new
  opened term used at old new x serve holds =
      let before = rests ghosts set used x.lost at old x.parts x.was holds in
      let after = opens set used x.lost before.0 at x.parts x.pass x.is_open before.1 serve in
      let files = counted before.0 x.lost (views ghosts (disks_of x.pass)) in
      let world : World D O T = record { begun = 0; slots = slots_seen entries count (slots_of x.pass); disks = views ghosts (disks_of x.pass); seats = [] } in
      let life : LifeHolds ghosts set (set_of x.pass) x.is_open.opened.term files at world = record {
        holds = record { order = passes x.pass; holds = after.holds };
        disks = after.disks;
        lost_are = after.lost_are;
        plan_is = x.is_open.set_is ∙ ap (with_out set) (sym (ap (λ (s : SetPlan). s.out) x.is_open.set_is));
      } in
      record {
        last = term;
        later = at;
        rise = (subst (λ n. used < n) x.term_is after.rises, refl);
        run = none_run at;
        holds = lived ghosts set term at new (set_of x.pass) world files x.now
            (subst (λ n. LifeHolds ghosts set (set_of x.pass) n files at world) x.term_is life);
      }

module _ {D A O T : Type 0} (ghosts : Ghosts D) (set : SetPlan) where
  -- an opening that was refused
  refused : TriedRigHolds A ghosts → (used : ℕ) (at : ℕ → Standing) (old new : Place D A O T) (x : IsRefused ghosts set old new)
      → LostServe x.lost (views ghosts x.before.disks.items) (views ghosts x.after.disks.items) → PlaceHolds ghosts set used at old
      → TurnLeaves ghosts set Refused used at new
  refused tried used at old new x serve holds =
      let before = rests ghosts set used x.lost at old x.before x.was holds in
      record {
        last = used;
        later = at;
        rise = refl;
        run = none_run at;
        holds = rested ghosts set used x.lost at new x.after before.0 x.now (tried set used x.lost before.0 at x.before x.after before.1 x.tried serve);
      }

  -- the end of a life
  closed : ClosedStoreHolds A ghosts → (used : ℕ) (at : ℕ → Standing) (old new : Place D A O T) → Closes ghosts old new → PlaceHolds ghosts set used at old
      → TurnLeaves ghosts set Closed used at new
  closed closes used at old new x holds =
      let before = lives_in ghosts set used x.term at old x.plan x.world x.was holds in
      let life = before.2 in
      let held = closes x.plan x.term before.0 x.world.slots x.world.disks (claims_of x.world.seats) at x.parts life.holds.order life.disks life.lost_are
      life.holds.holds x.apart in
      let of_set = holds_of_set ghosts set x.term x.plan.out before.0 at x.parts
      (subst (λ (s : SetPlan). RigHolds ghosts s x.term x.plan.out before.0 at x.parts) life.plan_is held) in
      record {
        last = used;
        later = at;
        rise = refl;
        run = none_run at;
        holds = rested ghosts set used x.plan.out at new x.parts before.0 x.now
            (subst (λ n. RigHolds ghosts set n x.plan.out before.0 at x.parts) before.1 of_set);
      }

  -- damage of what rests
  damaged : StruckRigHolds A ghosts → (used : ℕ) (at : ℕ → Standing) (old new : Place D A O T) (x : Suffers ghosts old new)
      → PartsAreHonest ghosts set x.lost x.after → PlaceHolds ghosts set used at old → TurnLeaves ghosts set Damaged used at new
  damaged strikes used at old new x honest holds =
      let before = rests ghosts set used x.lost at old x.before x.was holds in
      let rig = before.1 in
      let next = struck_rest set used x.lost (views ghosts x.before.disks.items) (views ghosts x.after.disks.items) x.disks.long
      (λ k inside. (let one = x.disks.each k inside in record { tells = one.tells; kept = one.kept })) honest.formats rig.disks rig.lost_are in
      let rig_struck : RigIsStruck ghosts set x.lost x.before x.after = record {
        disks = x.disks;
        manifests = honest.manifests;
        lanes = λ k now is. (let one = x.lanes k now is in (one.0, one.1, one.2, honest.lanes k now is));
      } in
      record {
        last = used;
        later = at;
        rise = refl;
        run = none_run at;
        holds = rested ghosts set used x.lost at new x.after before.0 x.now
            (strikes set used x.lost before.0 at x.before x.after rig rig_struck next.0 next.1);
      }

  -- and trouble that isn't
  struck : StruckRigHolds A ghosts → (used : ℕ) (at : ℕ → Standing) (old new : Place D A O T) → Rests ghosts old new → PlaceHolds ghosts set used at old
      → TurnLeaves ghosts set Rested used at new
  struck strikes used at old new x holds =
      let befell = x.trouble in
      let before = rests ghosts set used befell.lost at old befell.before befell.was holds in
      let honest = parts_stay ghosts set used befell.lost before.0 at befell.before befell.after before.1 befell.disks befell.lanes x.disks x.lanes in
      let after = damaged strikes used at old new befell honest holds in
      record { last = after.last; later = after.later; rise = after.rise; run = after.run; holds = after.holds }

module _ {D A O T : Type 0} (ghosts : Ghosts D) (takes breaks : Effect T) (ops : Ops O) (set : SetPlan) (worlds : WorldsHold ghosts takes breaks ops)
    (files : RanKeepsFiles ghosts takes breaks) (kept : KeptDrivesRest) where
  -- moves of a life
  moved : (moves : List Move) (used : ℕ) (at : ℕ → Standing) (old new : Place D A O T) (x : Lives ghosts takes breaks ops moves old new)
      → IsHonestRun ghosts takes breaks ops x.plan moves x.before x.after x.ran → PlaceHolds ghosts set used at old
      → TurnLeaves ghosts set (Lived moves) used at new
  moved moves used at old new x honest holds =
      let before = lives_in ghosts set used x.term at old x.plan x.before x.was holds in
      let life = before.2 in
      let later = worlds x.plan moves x.before x.after before.0 at x.ran honest life.holds in
      let rest = moves_rest ghosts takes breaks ops x.plan files kept moves x.term x.before x.after x.ran honest life.disks life.lost_are in
      let after : LifeHolds ghosts set x.plan x.term before.0 later.later x.after =
      record { holds = later.after; disks = rest.0; lost_are = rest.1; plan_is = life.plan_is } in
      record {
        last = x.term;
        later = later.later;
        rise = sym before.1;
        run = λ slot. (later.lead slot).runs;
        holds = lived ghosts set x.term later.later new x.plan x.after before.0 x.now after;
      }

-- what follows of the term of a turn follows of it
rises_so : (used : ℕ) (turn : Turn) (One Two : ℕ → Type 0) → ((term : ℕ) → One term → Two term) → Rises used turn One → Rises used turn Two
rises_so used (Opened term) One Two so x = (x.0, so term x.1)
rises_so used Refused One Two so x = so used x
rises_so used (Lived moves) One Two so x = so used x
rises_so used Closed One Two so x = so used x
rises_so used Rested One Two so x = so used x
rises_so used Damaged One Two so x = so used x

module _ {D A O T : Type 0} (ghosts : Ghosts D) (entries : A → Option (List Entry)) (count : A → ℕ) (takes breaks : Effect T) (ops : Ops O) (set : SetPlan)
    (opens : OpenedStoreHolds ghosts entries count) (tried : TriedRigHolds A ghosts) (closes : ClosedStoreHolds A ghosts) (strikes : StruckRigHolds A ghosts)
    (kept : KeptDrivesRest) (passes : PassesAreInOrder ghosts entries count) (worlds : WorldsHold ghosts takes breaks ops)
    (files : RanKeepsFiles ghosts takes breaks) (joins : ShowingJoins) where
  -- any turn
  turned : (turn : Turn) (used : ℕ) (at : ℕ → Standing) (old new : Place D A O T) (x : TurnDoes ghosts entries count takes breaks ops set turn old new)
      → IsHonestTurn ghosts entries count takes breaks ops set turn old new x → PlaceHolds ghosts set used at old → TurnLeaves ghosts set turn used at new
  turned (Opened term) used at old new x honest holds = opened ghosts entries count set opens passes term used at old new x honest holds
  turned Refused used at old new x honest holds = refused ghosts set tried used at old new x honest holds
  turned (Lived moves) used at old new x honest holds = moved ghosts takes breaks ops set worlds files kept moves used at old new x honest holds
  turned Closed used at old new x honest holds = closed ghosts set closes used at old new x holds
  turned Rested used at old new x honest holds = struck ghosts set strikes used at old new x holds
  turned Damaged used at old new x honest holds = damaged ghosts set strikes used at old new x honest holds

  -- and any turns
  lives_leave : (turns : List Turn) (used : ℕ) (at : ℕ → Standing) (old new : Place D A O T)
      (ran : LivesRan ghosts entries count takes breaks ops set turns old new) → AreHonestLives ghosts entries count takes breaks ops set turns old new ran
      → PlaceHolds ghosts set used at old → LivesLeave ghosts set turns used at new
  lives_leave [] used at old new same honest holds = record {
    last = used;
    later = at;
    rise = refl;
    run = none_run at;
    holds = subst (λ (p : Place D A O T). PlaceHolds ghosts set used at p) (sym same) holds;
  }
  lives_leave (turn ∷ turns) used at old new (mid, x, ran) honest holds =
      let one = turned turn used at old mid x honest.0 holds in
      let more = lives_leave turns one.last one.later mid new ran honest.1 one.holds in
      record {
        last = more.last;
        later = more.later;
        rise = rises_so used turn (λ n. n ≡ one.last) (λ n. TermsRise n turns more.last)
            (λ term same. subst (λ n. TermsRise n turns more.last) (sym same) more.rise) one.rise;
        run = runs_join joins (steps_in turn) (log_in turns) at one.later more.later one.run more.run;
        holds = more.holds;
      }

module _ {D A O T : Type 0} (ghosts : Ghosts D) (entries : A → Option (List Entry)) (count : A → ℕ) (takes breaks : Effect T) (ops : Ops O) where
  pub lives_go_on : OpenedStoreHolds ghosts entries count → TriedRigHolds A ghosts → ClosedStoreHolds A ghosts → StruckRigHolds A ghosts → KeptDrivesRest
      → PassesAreInOrder ghosts entries count → WorldsHold ghosts takes breaks ops → RanKeepsFiles ghosts takes breaks → ShowingJoins
      → LivesHold ghosts entries count takes breaks ops
  lives_go_on opens tried closes strikes kept passes worlds files joins set turns old new used at ran honest holds =
      lives_leave ghosts entries count takes breaks ops set opens tried closes strikes kept passes worlds files joins turns used at old new ran honest holds

-- what each change did is applied once
pub changes_apply_once : ShowingRuns → RunsStayLawful → AppliedOnce → ChangesApplyOnce
changes_apply_once runs lawful once log at later slot run before distinct =
    let went = runs slot (entered_at slot log) (at slot).state (later slot).state (run slot) in
    let applied = once slot (entries_at slot log) (at slot).state (later slot).state before distinct went in (
      lawful slot (entries_at slot log) (at slot).state (later slot).state before went,
      applied.0,
      applied.1,
    )
