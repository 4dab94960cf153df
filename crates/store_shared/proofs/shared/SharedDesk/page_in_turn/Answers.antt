use Rattle.std.proofs.Common.{◌∙◌, inl, inr, refl}
use Rattle.turn_lock.specs.Passes.{lent_to, ticket_of, turns_so_far}
use Rattle.turn_lock.specs.declared.view.Turn.{Turn}
use Rattle.store_shared.specs.declared.shared.TurnedSlot.{TurnedSlot}
use Rattle.store_shared.proofs.TurnedLemmas.{desk_name, refused_seen, turn_seen}
use Rattle.store_shared.proofs.shared.SharedDesk.page_in_turn.Goals as goal

pub returns-in-Ok-clause-pages : goal.returns-in-Ok-clause-pages
returns-in-Ok-clause-pages g c =
    let desk = c.args.self.now in
    let held = c.in-Ok.held in
    let says = c.list_names-turn.ensures in
    let to : TurnedSlot g.row.D.Denot g.row.A.Denot = record { slot = c.list_names-turn.new.self } in
    let turn : Turn (TurnedSlot g.row.D.Denot g.row.A.Denot) = record { ticket = ticket_of held; from = held.value; to = to } in
    inr (record {
      turn = turn;
      comes = record {
        slot = c.in-Ok.ensures.value.1
            ∙ desk_name desk.set desk.locks.items c.args.slot c.index-lock.result.now desk.count c.requires.slot desk.index desk.of_set c.index-lock.ensures;
        ticket = c.in-Ok.ensures.value.0;
        later = c.in-Ok.ensures.ticket.0;
        unspent = c.in-Ok.ensures.spent;
      };
      lists = record {
        turns = says.turns;
        says = says.says;
        holds = says.holds;
        leaves = says.leaves;
        lists = says.lists;
        files = says.files;
        lanes = says.lanes;
        out = says.out;
      };
      pass = turn_seen c.args.own c.give.result (turns_so_far held) (ticket_of held) (lent_to held) held.value to c.in-Ok.ensures.turns.0
          c.in-Ok.ensures.turns.1 c.give.ensures.turns c.give.ensures.pass.2 c.give.ensures.pass.3;
    })

pub returns-in-Err-clause-pages : goal.returns-in-Err-clause-pages
returns-in-Err-clause-pages g c =
    let back = c.in-Err.back in
    inl (record {
      pass = refused_seen c.args.own back c.in-Err.ensures.err.5 c.in-Err.ensures.err.3 c.in-Err.ensures.err.1;
      answers = refl;
      no_stub = refl;
    })
