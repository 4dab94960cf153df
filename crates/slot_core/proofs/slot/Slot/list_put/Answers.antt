use Rattle.std.proofs.Common.{rules, ◌≡◌, ◌+◌, ◌*◌, ◌^◌, ◌∙◌, ◌++◌, ◌∷◌, [], ℕ, List, ap, arith}
use Rattle.stamp_id.specs.Rank.{change_of}
use Rattle.slot_history.specs.Contents.{number_of_id}
use Rattle.slot_data.specs.declared.rows.FlightRow.{FlightRow}
use Rattle.slot_core.proofs.TakingLemmas.{apart_more, drawn_more}
use Rattle.slot_core.proofs.slot.Slot.list_put.Goals as goal

pub invariant_of-self-2 : goal.invariant_of-self-2
invariant_of-self-2 g c =
    let old = c.args.self.now in
    let row : FlightRow = record { id = c.from_parts-id.result; name = c.in_ok-listed.listed } in
    let is : c.push_reserved.new.self.items ≡ old.flights.items ++ row ∷ [] =
    c.push_reserved.ensures.items ∙ ap (λ (l : List FlightRow). l ++ row ∷ []) c.reserve.ensures.items in
    let number_is : number_of_id c.from_parts-id.result ≡ old.site.term * 2 ^ 64 + (old.drawn.seq + 1) =
    ap change_of c.from_parts-id.ensures.change
    ∙ (ap (λ (t : ℕ). t * 2 ^ 64 + c.next_ballot.result.seq) c.next_ballot.ensures.term
    ∙ ap (λ (s : ℕ). old.site.term * 2 ^ 64 + s) c.next_ballot.ensures.seq) in
    record {
      lanes_of_set = old.lanes_of_set;
      seq_fits = c.requires.unspent;
      count_fits = old.count_fits;
      room_in_trash = search rules;
      flights_drawn = drawn_more old.flights.items c.push_reserved.new.self.items row (old.site.term * 2 ^ 64 + old.drawn.seq) (old.site.term * 2 ^ 64 + (old.drawn.seq + 1)) is
          (omega arith) (omega arith) old.flights_drawn;
      flights_differ = apart_more old.flights.items c.push_reserved.new.self.items row (old.site.term * 2 ^ 64 + old.drawn.seq) is old.flights_drawn (omega arith) old.flights_differ;
      pins_before = old.pins_before;
    }
