-- What lanes and data drives show stays honest where they keep what they kept and show what they showed.
use Rattle.std.proofs.Common.{◌≡◌, ◌∙◌, ◌<◌, ℕ, IsTrue, List, length, sym, ap, subst, subst₂, arith}
use Rattle.drive_base.specs.Files.{Files, Named}
use Rattle.drive_base.specs.HonestDamage.{HonestDamage}
use Rattle.drive_base.specs.View.{AtEach, DriveView, view_at, views}
use Rattle.drive_base.specs.declared.drive.Drive.{Ghosts}
use Rattle.drive_base.specs.declared.plan.SetPlan.{SetPlan}
use Rattle.drive_base.proofs.ViewLemmas.{at_each_drive, at_each_long}
use Rattle.register_core.specs.OnLanes.{AllTell, AreHonest}
use Rattle.register_core.specs.Records.{IsHonest}
use Rattle.slot_data.specs.Disks.{Disks}
use Rattle.slot_core.specs.Views.{SlotNumbers}
use Rattle.slot_core.specs.declared.slot.SlotParts.{SlotParts}
use Rattle.op_steps.specs.Claims.{Claim, DisksTell, HasHonestManifests}
use Rattle.op_steps.specs.Holding.{StoreHolds}
use Rattle.op_steps.specs.Leading.{Standing}
use Rattle.op_steps.specs.Store.{AreInOrder, SlotSeen}
use Rattle.op_steps.specs.Troubles.{IsTroubled}
use Rattle.op_steps.proofs.SlotLemmas.{order_set}
use Rattle.log_laws.proofs.PlaceLemmas.{slot_at}
use Rattle.log_laws.specs.StoreTroubles.{ShowsHonestly, StoreTroubled}
use Rattle.store_shared.specs.Holders.{ArePartsAt, AreLost, DrivesRest, RigHolds}
use Rattle.store_shared.specs.Opening.{with_out}
use Rattle.store_shared.specs.Strikes.{AreStruck}
use Rattle.store_shared.specs.declared.pass.StoreParts.{StoreParts}
use Rattle.term_gate.specs.Formats.{IsUnsealed, format_name}
use Rattle.drill_steps.specs.Laws.{FormatsAreHonest}
use Rattle.drill_steps.specs.Lives.{PartsAreHonest}
use Rattle.drill_steps.specs.Worlds.{AllShowTheSame, ShowsTheSame}

-- a drive that tells keeps what it kept
abbrev pub KeepsWhereTold : DriveView → DriveView → Type 0
KeepsWhereTold old new = IsTrue old.tells → new.files.kept ≡ old.files.kept

-- so do those that trouble befell, or that were struck
pub troubled_keep : (old new : List DriveView) → AtEach (λ k. IsTroubled) old new → AtEach (λ k. KeepsWhereTold) old new
troubled_keep old new x = record { long = x.long; each = λ k inside. (x.each k inside).kept }

pub struck_keep : (old new : List DriveView) → AreStruck old new → AtEach (λ k. KeepsWhereTold) old new
struck_keep old new x = record { long = x.long; each = λ k inside. (x.each k inside).kept }

-- manifests that were honest are
honest_manifests : (old new : Files) → new.kept ≡ old.kept → new.shown ≡ old.shown → HasHonestManifests old → HasHonestManifests new
honest_manifests old new kept shown honest =
    subst₂ (λ (a b : Named (List ℕ)). HasHonestManifests (record { kept = a; shown = b; loose = new.loose })) (sym kept) (sym shown) honest

module _ {D : Type 0} (ghosts : Ghosts D) where
  -- and lanes
  lanes_stay : (out : ℕ) (name : List ℕ) (old new : List D) → AtEach (λ k. KeepsWhereTold) (views ghosts old) (views ghosts new)
      → AtEach (λ k. ShowsTheSame) (views ghosts old) (views ghosts new) → AllTell ghosts.tells out old → AreHonest ghosts.files out name old
      → AreHonest ghosts.files out name new
  lanes_stay out name old new keeps shows told honest k d within used =
      let long = at_each_long ghosts (λ k. ShowsTheSame) old new shows in
      let inside : k < length old = omega (arith, long, within) in
      let kept = at_each_drive ghosts (λ k. KeepsWhereTold) old new keeps k d inside in
      let shown = at_each_drive ghosts (λ k. ShowsTheSame) old new shows k d inside in
      subst₂ (λ (a b : Named (List ℕ)). IsHonest (a name) (b name)) (sym (kept (told k d inside used))) (sym shown) (honest k d inside used)

  -- a store that trouble befell is in order
  pub struck_order : (set : SetPlan) (slots after : List (SlotSeen D)) (disks later : List DriveView) → StoreTroubled ghosts slots disks after later
      → AreInOrder set slots disks → AreInOrder set after later
  struck_order set slots after disks later befell order = record {
    count = befell.count ∙ order.count;
    index = λ k d inside.
        let now = slot_at after k inside in
        let s = befell.slots k now.0 now.1 in
        ap (λ (seen : SlotSeen D). seen.numbers.index) (now.1.1 d) ∙ (ap (λ (n : SlotNumbers). n.index) s.2.numbers
        ∙ (ap (λ (seen : SlotSeen D). seen.numbers.index) (sym (s.1.1 s.0)) ∙ order.index k s.0 s.1.0));
    set_is = λ k d inside.
        let now = slot_at after k inside in
        let s = befell.slots k now.0 now.1 in
        ap (λ (seen : SlotSeen D). seen.numbers.set) (now.1.1 d) ∙ (ap (λ (n : SlotNumbers). n.set) s.2.numbers
        ∙ (ap (λ (seen : SlotSeen D). seen.numbers.set) (sym (s.1.1 s.0)) ∙ order.set_is k s.0 s.1.0));
    drives = befell.disks.long ∙ order.drives;
  }

  -- so what a store shows that holds goes on to be honest
  pub shows_honestly : (set : SetPlan) (slots after : List (SlotSeen D)) (disks later : List DriveView) (unseen : Disks) (claims : List Claim) (at : ℕ → Standing)
      → StoreTroubled ghosts slots disks after later → AllShowTheSame ghosts slots disks after later → AreInOrder set slots disks
      → StoreHolds ghosts.tells ghosts.files unseen slots disks claims at → ShowsHonestly ghosts set after later
  shows_honestly set slots after disks later unseen claims at befell same order holds = record {
    lanes = λ k now is name.
        let was = befell.slots k now is in
        let have = (holds k was.0 was.1).stands.have in
        subst (λ (n : SlotNumbers). AreHonest ghosts.files n.set.out name now.lanes) (sym was.2.numbers)
        (lanes_stay was.0.numbers.set.out name was.0.lanes now.lanes (troubled_keep (views ghosts was.0.lanes) (views ghosts now.lanes) was.2.lanes)
        (same.lanes k was.0 now was.1 is) have.tell (have.honest name));
    manifests = λ k inside used.
        let one = slot_at slots 0 (let many = order.count in omega (arith, many)) in
        let tell : DisksTell set disks = subst (λ (s : SetPlan). DisksTell s disks) (order_set set slots disks 0 one.0 order one.1) (holds 0 one.0 one.1).holds.tell in
        let low : k < length disks = (let many = order.drives in omega (arith, many, inside)) in
        honest_manifests (view_at disks k).files (view_at later k).files ((befell.disks.each k low).kept (tell.tell k inside used)) (same.disks.each k low)
        (tell.honest k inside used);
  }

-- formats that were honest are, and those that were lost lack
pub formats_stay : (set : SetPlan) (used lost : ℕ) (old new : List DriveView) → AtEach (λ k. KeepsWhereTold) old new → AtEach (λ k. ShowsTheSame) old new
    → DrivesRest set used old → AreLost set used lost old → FormatsAreHonest lost new
formats_stay set used lost old new keeps shows rest are = record {
  honest = λ k within. (let long = shows.long in let inside : k < length old = omega (arith, long, within) in
      subst₂ (λ (a b : Named (List ℕ)). HonestDamage IsUnsealed (a format_name) (b format_name)) (sym (keeps.each k inside (rest.tell k inside tt)))
      (sym (shows.each k inside)) (rest.honest k inside));
  lack = λ k bit. (let many = rest.count in let low = are.within k bit in let inside : k < length old = omega (arith, many, low) in
      ap (λ (files : Named (List ℕ)). files format_name) (shows.each k inside) ∙ are.lack k bit);
}

module _ {D A : Type 0} (ghosts : Ghosts D) where
  -- so what a store shows that rests goes on to be honest
  pub parts_stay : (set : SetPlan) (used lost : ℕ) (unseen : Disks) (at : ℕ → Standing) (old new : StoreParts D A) → RigHolds ghosts set used lost unseen at old
      → AreStruck (views ghosts old.disks.items) (views ghosts new.disks.items)
      → ((k : ℕ) (now : SlotParts D A) → ArePartsAt new.slots.items k now
      → (was : SlotParts D A) × ArePartsAt old.slots.items k was × AreStruck (views ghosts was.lanes.items) (views ghosts now.lanes.items))
      → AtEach (λ k. ShowsTheSame) (views ghosts old.disks.items) (views ghosts new.disks.items)
      → ((k : ℕ) (was now : SlotParts D A) → ArePartsAt old.slots.items k was → ArePartsAt new.slots.items k now
      → AtEach (λ k. ShowsTheSame) (views ghosts was.lanes.items) (views ghosts now.lanes.items))
      → PartsAreHonest ghosts set lost new
  parts_stay set used lost unseen at old new rig struck lanes shows lanes_show = record {
    formats = formats_stay set used lost (views ghosts old.disks.items) (views ghosts new.disks.items)
        (struck_keep (views ghosts old.disks.items) (views ghosts new.disks.items) struck) shows rig.disks rig.lost_are;
    manifests = λ k inside used.
        let many = rig.disks.count in
        let low : k < length (views ghosts old.disks.items) = omega (arith, many, inside) in
        honest_manifests (view_at (views ghosts old.disks.items) k).files (view_at (views ghosts new.disks.items) k).files
        ((struck.each k low).kept (rig.disks.tell k low tt)) (shows.each k low) (rig.manifests k inside used);
    lanes = λ k now is name.
        let was = lanes k now is in
        let have = (rig.slots k was.0 was.1).stands.have in
        lanes_stay ghosts (with_out set lost).out name was.0.lanes.items now.lanes.items
        (struck_keep (views ghosts was.0.lanes.items) (views ghosts now.lanes.items) was.2) (lanes_show k was.0 now was.1 is) have.tell (have.honest name);
  }
