use Rattle.std.proofs.Common.{◌≤◌, ◌∙◌, None, Some, Ok, List, Global, String, map, refl, sym, subst, ap, arith}
use Rattle.std.specs.Prelude.{string_bytes}
use Rattle.call_types.specs.Good.{good_count}
use Rattle.drive_base.specs.Plan.{data_drives}
use Rattle.drive_base.specs.declared.plan.SetPlan.{SetPlan}
use Rattle.register_core.proofs.ViewedLemmas.{tells_on}
use Rattle.slot_history.specs.State.{State}
use Rattle.slot_core.proofs.KeptLemmas.{kept_leaves, read_leaves}
use Rattle.slot_core.proofs.ListedLemmas.{stands_listed}
use Rattle.slot_core.proofs.QuietLemmas.{leaves_with, moves_by, nothing_leaves}
use Rattle.slot_core.specs.EmptyEntry.{nothing_at}
use Rattle.slot_core.specs.Hands.{HandsStay}
use Rattle.slot_core.specs.NameList.{AreShownNames, NamesAreListed, ShowsNames}
use Rattle.slot_core.specs.Sections.{ShowsNoMore}
use Rattle.slot_core.specs.Views.{SlotNumbers, holding_of, lanes_of, numbers_of}
use Rattle.slot_core.proofs.slot.Slot.list_names.Goals as goal

pub returns-in-Err-Failed-clause-leaves : goal.returns-in-Err-Failed-clause-leaves
returns-in-Err-Failed-clause-leaves g c =
    let old = c.args.self.now in
    nothing_leaves g.D.Drive.tells g.D.Drive.files (numbers_of old) _ (holding_of old) (holding_of old) (lanes_of old) _ HandsStay
    (moves_by (numbers_of old) _ old.drawn.seq (omega arith) (omega arith) refl) refl refl c.refused.ensures.entry (λ disks hands after may. may)

pub returns-in-Err-NoMemory-clause-leaves : goal.returns-in-Err-NoMemory-clause-leaves
returns-in-Err-NoMemory-clause-leaves g c =
    let old = c.args.self.now in
    nothing_leaves g.D.Drive.tells g.D.Drive.files (numbers_of old) _ (holding_of old) (holding_of old) (lanes_of old) None HandsStay
    (moves_by (numbers_of old) _ old.drawn.seq (omega arith) (omega arith) refl) refl refl refl (λ disks hands after may. may)

pub returns-in_default-clause-leaves : goal.returns-in_default-clause-leaves
returns-in_default-clause-leaves g c =
    let old = c.args.self.now in
    let new = c.ask_lanes.new.self in
    let asked = c.ask_lanes.ensures in
    read_leaves g.D.Drive (numbers_of old) (numbers_of new) (holding_of old) (holding_of new) (lanes_of old) (lanes_of new) None
    ShowsNoMore (moves_by (numbers_of old) (numbers_of new) old.drawn.seq (omega arith) (omega arith) asked.numbers) (ap (λ (n : SlotNumbers). n.seq) asked.numbers)
    asked.holding asked.long asked.files (tells_on g.D.Drive (lanes_of old) (lanes_of new) asked.lanes) refl

pub returns-then-good-read_quorum-clause-leaves : goal.returns-then-good-read_quorum-clause-leaves
returns-then-good-read_quorum-clause-leaves g c =
    let old = c.args.self.now in
    let mid = c.ask_lanes.new.self in
    let new = c.enter_nothing.new.self in
    let asked = c.ask_lanes.ensures in
    let numbers = c.enter_nothing.ensures.numbers ∙ asked.numbers in
    leaves_with g.D.Drive.tells g.D.Drive.files (numbers_of old) (numbers_of new) (holding_of old) (holding_of new) (lanes_of old) (lanes_of mid) (lanes_of new)
    (Some c.enter_nothing.result) ShowsNoMore HandsStay c.enter_nothing.ensures.lanes
    (kept_leaves g.D.Drive (numbers_of old) (numbers_of new) (holding_of old) (holding_of new) (lanes_of old) (lanes_of mid)
    (Some c.enter_nothing.result) (nothing_at old.site.turns) ShowsNoMore
    (moves_by (numbers_of old) (numbers_of new) old.drawn.seq (omega arith) (omega arith) numbers) (ap (λ (n : SlotNumbers). n.seq) numbers)
    (c.enter_nothing.ensures.holding ∙ asked.holding) asked.long asked.files (tells_on g.D.Drive (lanes_of old) (lanes_of mid) asked.lanes) c.enter_nothing.ensures.entry refl refl (λ records state standing. tt))

-- the names are listed
listed : (g : _) (c : goal.After-enter_nothing-2 g)
    → NamesAreListed g.D.Drive c.args.self.now.site.set c.args.from.now c.args.most (map string_bytes c.from_vec.result)
    (lanes_of c.args.self.now) (lanes_of c.ask_lanes.new.self)
listed g c =
    let shown = c.in-Ok-ask_lanes.shown in
    record {
      whys = shown.whys;
      asked = c.in-Ok-ask_lanes.ensures.asked;
      enough = subst (λ (s : SetPlan). data_drives s.drives s.parity ≤ good_count shown.whys) (ap (λ (n : SlotNumbers). n.set) c.ask_lanes.ensures.numbers)
          (omega (arith, c.good.ensures, c.read_quorum.ensures.quorum, c.if-good-read_quorum.false));
      are = subst (λ (l : List (String Global)). AreShownNames g.D.Drive.tells g.D.Drive.files c.args.from.now c.args.most shown.whys (lanes_of c.args.self.now) (map string_bytes l))
          (sym c.from_vec.ensures) c.in-Ok-ask_lanes.ensures.names;
    }

pub returns-clause-leaves : goal.returns-clause-leaves
returns-clause-leaves g c =
    let old = c.args.self.now in
    let mid = c.ask_lanes.new.self in
    let new = c.enter_nothing-2.new.self in
    let asked = c.ask_lanes.ensures in
    let numbers = c.enter_nothing-2.ensures.numbers ∙ asked.numbers in
    let Shows : State → State → Type 0 = ShowsNames {Y = Global} c.args.from.now c.args.most (Ok c.from_vec.result) in
    leaves_with g.D.Drive.tells g.D.Drive.files (numbers_of old) (numbers_of new) (holding_of old) (holding_of new) (lanes_of old) (lanes_of mid) (lanes_of new)
    (Some c.enter_nothing-2.result) Shows HandsStay c.enter_nothing-2.ensures.lanes
    (kept_leaves g.D.Drive (numbers_of old) (numbers_of new) (holding_of old) (holding_of new) (lanes_of old) (lanes_of mid)
    (Some c.enter_nothing-2.result) (nothing_at old.site.turns) Shows
    (moves_by (numbers_of old) (numbers_of new) old.drawn.seq (omega arith) (omega arith) numbers) (ap (λ (n : SlotNumbers). n.seq) numbers)
    (c.enter_nothing-2.ensures.holding ∙ asked.holding) asked.long asked.files (tells_on g.D.Drive (lanes_of old) (lanes_of mid) asked.lanes) c.enter_nothing-2.ensures.entry refl refl
    (λ records state standing. λ name held made listable. stands_listed g.D.Drive (numbers_of old) (holding_of old).flights
    (lanes_of old) (lanes_of mid) records state c.args.from.now c.args.most (map string_bytes c.from_vec.result) standing (listed g c) name held made listable))
