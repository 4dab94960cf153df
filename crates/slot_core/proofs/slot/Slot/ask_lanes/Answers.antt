use Rattle.std.proofs.Common.{rules, ◌≡◌, ◌<◌, ℕ, List, length, slice_index_or, sym}
use Rattle.std.specs.Prelude.{IfOk, IsTrue}
use Rattle.std.specs.Int.{IsBitSet}
use Rattle.std.specs.Vec.{with_items}
use Rattle.std.proofs.lemmas.List.{with_items_is}
use Rattle.drive_base.specs.View.{AllGoOn, views}
use Rattle.slot_core.proofs.KeptLemmas.{on_lanes}
use Rattle.slot_core.specs.NameList.{LanesAreAsked}
use Rattle.slot_core.proofs.slot.Slot.ask_lanes.Goals as goal

-- the lanes are those that were asked
lanes_is : (g : _) (c : goal.After-self-2-1 g) → c.shown_names.new.lanes ≡ (with_items c.args.self.now.lanes c.shown_names.new.lanes).items
lanes_is g c = sym (with_items_is c.args.self.now.lanes c.shown_names.new.lanes (search rules))

pub returns-clause-asked : goal.returns-clause-asked
returns-clause-asked g c =
    on_lanes (λ (old new : List g.row.D.Denot). IfOk c.shown_names.result (λ shown. LanesAreAsked {D = g.row.D.Denot} g.D.Drive.count c.args.self.now.site.set.out shown.whys old new))
    c.deref_mut.result.now c.args.self.now.lanes.items c.shown_names.new.lanes _ c.deref_mut.ensures.value (lanes_is g c) c.shown_names.ensures.asked

pub returns-clause-long : goal.returns-clause-long
returns-clause-long g c =
    on_lanes (λ (old new : List g.row.D.Denot). length new ≡ length old)
    c.deref_mut.result.now c.args.self.now.lanes.items c.shown_names.new.lanes _ c.deref_mut.ensures.value (lanes_is g c) (search rules)

pub returns-clause-files : goal.returns-clause-files
returns-clause-files g c =
    on_lanes (λ (old new : List g.row.D.Denot). (k : ℕ) (d : g.row.D.Denot) → k < length old → IsTrue (g.D.Drive.tells (slice_index_or old k d))
    → g.D.Drive.files (slice_index_or new k d) ≡ g.D.Drive.files (slice_index_or old k d))
    c.deref_mut.result.now c.args.self.now.lanes.items c.shown_names.new.lanes _ c.deref_mut.ensures.value (lanes_is g c) c.shown_names.ensures.files

pub returns-clause-lanes : goal.returns-clause-lanes
returns-clause-lanes g c =
    on_lanes (λ (old new : List g.row.D.Denot). AllGoOn (views g.D.Drive old) (views g.D.Drive new))
    c.deref_mut.result.now c.args.self.now.lanes.items c.shown_names.new.lanes _ c.deref_mut.ensures.value (lanes_is g c) c.shown_names.ensures.lanes

pub returns-clause-out : goal.returns-clause-out
returns-clause-out g c =
    on_lanes (λ (old new : List g.row.D.Denot). (k : ℕ) (d : g.row.D.Denot) → IsBitSet c.args.self.now.site.set.out k
    → slice_index_or new k d ≡ slice_index_or old k d)
    c.deref_mut.result.now c.args.self.now.lanes.items c.shown_names.new.lanes _ c.deref_mut.ensures.value (lanes_is g c) c.shown_names.ensures.out
