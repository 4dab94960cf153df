use denote.Param.Send.{arg_send, param_send, sendable}
use Rattle.std.proofs.Common.{◌∙◌, sym, ℕ, ◌<◌, slice_index_or, rules}
use Rattle.std.proofs.Crossing.{crosses}
use Rattle.std.specs.Prelude.{IfOk}
use Rattle.ostore.proofs.HadLemmas.{all_had}
use Rattle.ostore.proofs.WaySendLemmas.{folder_send, system_send}
use Rattle.ostore.specs.Locked.{LanesFailUnlocked}
use Rattle.ostore.specs.Rigs.{HasLanes}
use Rattle.ostore.proofs.openers.slots_beside.Goals as goal
use Rattle.ostore.proofs.openers.slots_beside.Goals.{After-all_of}

-- each slot that was opened has its lanes
each_has : (g : _) (c : After-all_of g) (i : ℕ) (d : _) → i < 64 → IfOk (slice_index_or c.in_ok-opened.opened.items i d) (HasLanes c.args.drives)
each_has g c i d within = let call = (c.in_ok-opened.ensures.each i d within).1.met in search rules

-- and they fail where the root isn't locked
each_fails : (g : _) (c : After-all_of g) (i : ℕ) (d : _) → i < 64 → IfOk (slice_index_or c.in_ok-opened.opened.items i d) (LanesFailUnlocked c.args.is_locked)
each_fails g c i d within = let call = (c.in_ok-opened.ensures.each i d within).1.met in search rules

pub returns-clause-lanes : goal.returns-clause-lanes
returns-clause-lanes g c = all_had (HasLanes c.args.drives) 64 c.in_ok-opened.opened.items c.all_of.result c.all_of.ensures (sym c.in_ok-opened.opened.ok.0 ∙ c.in_ok-opened.ensures.len) (each_has g c)

pub returns-clause-locked : goal.returns-clause-locked
returns-clause-locked g c = all_had (LanesFailUnlocked c.args.is_locked) 64 c.in_ok-opened.opened.items c.all_of.result c.all_of.ensures (sym c.in_ok-opened.opened.ok.0 ∙ c.in_ok-opened.ensures.len) (each_fails g c)

pub map_indices-requires-send-X : goal.map_indices-requires-send-X
map_indices-requires-send-X g c κs within = search (param_send, arg_send, sendable, crosses, folder_send, system_send) depth 200 fits 200000
