-- What is left of a store that was served.
use Rattle.std.proofs.Common.{◌≡◌, ◌∙◌, ◌<◌, ℕ, List, Option, Some, ap, inl, inr, length, refl, slice_index_or, sym, subst, subst₂}
use Rattle.std.specs.Global.{Global}
use Rattle.std.proofs.lemmas.Bool.{false≢true}
use Rattle.std.specs.Prelude.{All, Err, Ok, OnOk, Result, String, Vec, false, is_err}
use Rattle.audit_trail.specs.declared.entry.Entry.{Entry}
use Rattle.drive_base.specs.declared.drive.Drive.{Ghosts}
use Rattle.drive_base.specs.declared.plan.SetPlan.{SetPlan}
use Rattle.command_line.specs.Words.{Says}
use Rattle.command_line.specs.declared.plan.Command.{Command}
use Rattle.command_line.specs.declared.plan.Command.TheVariants.{Pipe, Serve, Status}
use Rattle.command_line.specs.declared.plan.Plan.{Plan}
use Rattle.io_base.specs.declared.door.Door.{Ghosts as DoorGhosts}
use Rattle.io_base.specs.declared.sink.Sink.{Ghosts as SinkGhosts}
use Rattle.io_base.specs.declared.source.Source.{Ghosts as SourceGhosts}
use Rattle.serve_loop.specs.Deeds.{Wires}
use Rattle.slot_core.specs.Views.{numbers_of}
use Rattle.slot_core.specs.declared.slot.Slot.{Slot}
use Rattle.store_shared.specs.Parting.{AreBack}
use Rattle.store_shared.specs.Passes.{disks_of, set_of, slots_of}
use Rattle.store_shared.specs.declared.pass.PassParts.{PassParts}
use Rattle.store_shared.specs.declared.pass.PlainPass.{PlainPass}
use Rattle.store_shared.specs.declared.shared.SharedPass.{SharedPass}
use Rattle.ostore.specs.Program.{Does}
use Rattle.ostore.specs.Served.{DeskServed, IsStore, IsStoreEnd, SharesDisks}
use Rattle.ostore.specs.Serving.{DoesAll, without_door}
use Rattle.ostore.specs.Sharing.{AreShared, EachShared, IsRowTo}
use Rattle.ostore.specs.Statuses.{out_of_memory}
use Rattle.ostore.specs.Workers.{DoorsServed}
use Rattle.ostore.specs.declared.rig.Ended.{Ended}
use Rattle.ostore.specs.declared.rig.Rig.{Rig}
use Rattle.ostore.specs.declared.serving.StoreEnd.{StoreEnd}

-- what holds where there is no error holds
pub without_error : {T E P : Type 0} (r : Result T E) → false ≡ is_err r → OnOk r P → P
without_error (Ok x) same holds = holds
without_error (Err e) same holds = absurd (false≢true same)

-- the parts that a pass gives back are those of a store
pub store_of_pass : {D A : Type 0} (pass : PlainPass D A) (parts : PassParts D A) → parts.set ≡ set_of pass → parts.slots.items ≡ slots_of pass
    → parts.disks.items ≡ disks_of pass → IsStore parts
store_of_pass {D} {A} pass parts set slots disks = record {
  count = ap length slots ∙ pass.count;
  index = λ k d inside. subst (λ (l : List (Slot D A)). (numbers_of (slice_index_or l k d)).index ≡ k) (sym slots)
      (pass.index k d (subst (λ (l : List (Slot D A)). k < length l) slots inside));
  of_set = λ k d inside. subst (λ (l : List (Slot D A)). (numbers_of (slice_index_or l k d)).set ≡ set_of pass) (sym slots)
      (pass.of_set k d (subst (λ (l : List (Slot D A)). k < length l) slots inside)) ∙ sym set;
  drives = ap length disks ∙ (pass.drives ∙ ap (λ (s : SetPlan). s.drives) (sym set));
}

module _ {D Root : Type 0} (ghosts : Ghosts D) (root : D → Root) where
  -- parts of a store whose data drives were shared
  pub shares_disks : {A : Type 0} (was now : PassParts D A) (old new : List D) → now.set ≡ was.set → now.slots.items ≡ was.slots.items → old ≡ was.disks.items
      → now.disks.items ≡ new → EachShared ghosts root old new → SharesDisks ghosts root was now
  shares_disks was now old new set slots before after each = record {
    set = set;
    slots = slots;
    disks = subst₂ (λ o n. EachShared ghosts root o n) before (sym after) each;
  }

  -- and were handed back then
  pub shares_back : {A : Type 0} (was now back : PassParts D A) → SharesDisks ghosts root was now → AreBack now back → SharesDisks ghosts root was back
  shares_back was now back shares are = record {
    set = are.set ∙ shares.set;
    slots = are.slots ∙ shares.slots;
    disks = subst (λ l. EachShared ghosts root was.disks.items l) (sym are.disks) shares.disks;
  }

  -- rows of ways to drives, which stand in another place now
  pub rows_to : (drives now : List D) (rows : List (Vec D Global)) → drives ≡ now → All (IsRowTo ghosts root drives) rows → All (IsRowTo ghosts root now) rows
  rows_to drives now rows same all = subst (λ l. All (IsRowTo ghosts root l) rows) same all

-- words say what they say in another place
pub says_of : {Y : Type 0} (words now : List (String Y)) (plan : Plan) → words ≡ now → Says words plan → Says now plan
says_of words now plan same says = subst (λ l. Says l plan) same says

-- the doors of a desk stand in another place now
pub doors_come_back : {K D A O S T C Root : Type 0} (desk : K) (ghosts : Ghosts D) (root : D → Root) (entries : A → Option (List Entry)) (count : A → ℕ)
    (door : DoorGhosts O S T) (source : SourceGhosts S) (sink : SinkGhosts T) (moment : Option ℕ) (clock : C) (first whole : SharedPass D A) (doors : List O)
    (back now : Vec O Global) (status starved faults faults_after : ℕ) → back ≡ now
    → DoorsServed ghosts root entries count door source sink moment desk clock first whole doors back.items status starved faults faults_after
    → DoorsServed ghosts root entries count door source sink moment desk clock first whole doors now.items status starved faults faults_after
doors_come_back {K} {D} {A} {O} desk ghosts root entries count door source sink moment clock first whole doors back now status starved faults faults_after same served =
    subst (λ (v : Vec O Global). DoorsServed ghosts root entries count door source sink moment desk clock first whole doors v.items status starved faults faults_after) same served

module _ (R G : Type 0) {D A O S T C Root : Type 0} (ghosts : Ghosts D) (root : D → Root) (entries : A → Option (List Entry)) (count : A → ℕ) (door : DoorGhosts O S T)
    (source : SourceGhosts S) (sink : SinkGhosts T) (moment : Option ℕ) (clock : C) where
  -- the doors of a store were not served
  pub unserved_end : (parts after : PassParts D A) (doors : Vec O Global) (faults : ℕ) (end : StoreEnd D A O) → SharesDisks ghosts root parts after → end.parts ≡ Some after
      → end.status ≡ out_of_memory → end.starved ≡ 0 → end.doors ≡ doors → IsStoreEnd R G ghosts root entries count door source sink moment clock parts doors.items faults faults end
  unserved_end parts after doors faults end shares parts_are status starved doors_are = inr (record {
    after = after;
    shares = shares;
    parts_are = parts_are;
    status = status;
    starved = starved;
    doors_are = ap (λ (v : Vec O Global). v.items) doors_are;
    counted = refl;
  })

  -- they were
  pub served_end : (parts shared : PassParts D A) (doors : List O) (faults faults_after : ℕ) (end : StoreEnd D A O) → SharesDisks ghosts root parts shared
      → AreShared ghosts shared.disks.items → DeskServed R G ghosts root entries count door source sink moment clock shared doors faults faults_after end
      → IsStoreEnd R G ghosts root entries count door source sink moment clock parts doors faults faults_after end
  served_end parts shared doors faults faults_after end shares all served = inl (record { shared = shared; shares = shares; all = all; served = served })

  -- a command without doors did what it does alone
  pub done_alone : (command : Command) → (command ≡ Serve → ⊥) → (rig : Rig D A) (doors : Vec O Global) (faults : ℕ) (alone : Ended D A (Unit {0}))
      (ended : Ended D A (Vec O Global)) (before after_alone after : Wires) → without_door ended ≡ alone → ended.door ≡ doors → after_alone ≡ after
      → Does ghosts entries count command moment rig alone before after_alone
      → DoesAll R G ghosts root entries count door source sink moment clock command rig doors.items faults faults ended before after
  done_alone Pipe not rig doors faults alone ended before after_alone after same back still does = record {
    done = subst₂ (λ (e : Ended D A (Unit {0})) (w : Wires). Does ghosts entries count Pipe moment rig e before w) (sym same) still does;
    doors_are = ap (λ (v : Vec O Global). v.items) back;
    counted = refl;
  }
  done_alone Status not rig doors faults alone ended before after_alone after same back still does = record {
    done = subst₂ (λ (e : Ended D A (Unit {0})) (w : Wires). Does ghosts entries count Status moment rig e before w) (sym same) still does;
    doors_are = ap (λ (v : Vec O Global). v.items) back;
    counted = refl;
  }
  done_alone Serve not rig doors faults alone ended before after_alone after same back still does = absurd (not refl)

  -- what one name of a command comes to is what the other does
  pub does_all_as : (one two : Command) (rig : Rig D A) (doors : List O) (faults faults_after : ℕ) (ended : Ended D A (Vec O Global)) (before after : Wires) → one ≡ two
      → DoesAll R G ghosts root entries count door source sink moment clock one rig doors faults faults_after ended before after
      → DoesAll R G ghosts root entries count door source sink moment clock two rig doors faults faults_after ended before after
  does_all_as one two rig doors faults faults_after ended before after same does =
      subst (λ (c : Command). DoesAll R G ghosts root entries count door source sink moment clock c rig doors faults faults_after ended before after) same does
