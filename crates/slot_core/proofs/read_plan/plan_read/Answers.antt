use Rattle.std.proofs.Common.{refl}
use Rattle.slot_core.proofs.ReadLemmas.{found_object, plans_start}
use Rattle.slot_core.proofs.read_plan.plan_read.Goals as goal

pub data_of-requires : goal.data_of-requires
data_of-requires c = found_object c.args.state.now c.args.ask.now.pick c.in-Ok.version.now c.in-Ok.ensures.found

pub returns-in_ok-row-in-Ok : goal.returns-in_ok-row-in-Ok
returns-in_ok-row-in-Ok c =
    plans_start c.args.ask.now.site.turns c.args.at.now c.args.ask.now.mode c.args.ask.now.pick c.args.state.now c.in-Ok.version.now
    (record { version = c.in_ok-clone-in-Ok.field-0; pin = record { ticket = c.args.ask.now.site.turns } }) c.in_ok-row-in-Ok.row c.args.name.now c.data_of.result
    c.in_ok-reply-in-Ok.reply c.in_ok-entries-in-Ok.entries c.in_ok-clone-in-Ok.ensures.cases refl c.in-Ok.ensures.found c.in_ok-reply-in-Ok.ensures
    c.in_ok-entries-in-Ok.ensures c.data_of.ensures c.in_ok-row-in-Ok.ensures c.requires
