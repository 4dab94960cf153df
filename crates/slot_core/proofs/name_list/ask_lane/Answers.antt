use Rattle.std.proofs.Common.{rules, map}
use Rattle.std.specs.Prelude.{IsTrue, IsSome, string_bytes}
use Rattle.std.specs.BTreeMap.{get_by_text}
use Rattle.slot_core.proofs.GatherLemmas.{asks_good}
use Rattle.slot_core.proofs.name_list.ask_lane.Goals as goal

pub returns-in_ok-gather-in-Ok-clause-asks : goal.returns-in_ok-gather-in-Ok-clause-asks
returns-in_ok-gather-in-Ok-clause-asks g c =
    asks_good g.D.Drive (IsTrue c.args.is_out) c.args.from.now c.args.most (map string_bytes c.in-Ok.names.items)
    (λ name. IsSome (get_by_text c.args.gathered.now name)) (λ name. IsSome (get_by_text c.gather.new.gathered name)) c.args.lane.now c.names.new.self
    (search rules) c.in-Ok.ensures.count c.in_ok-gather-in-Ok.ensures c.in-Ok.ensures.page (λ told. (c.in-Ok.ensures.files told).0)
