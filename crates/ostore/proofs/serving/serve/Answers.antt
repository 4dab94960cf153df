use Rattle.std.proofs.Common.{inl, inr, refl, subst}
use Rattle.ostore.specs.Served.{IsHanded}
use Rattle.ostore.proofs.ServingLemmas.{store_of_pass}
use Rattle.ostore.proofs.serving.serve.Goals as goal

pub serve_store-end-requires-clause-store : goal.serve_store-end-requires-clause-store
serve_store-end-requires-clause-store g c κs within =
    store_of_pass c.in-Ok.field-0.pass c.into_parts-parts.result c.into_parts-parts.ensures.set c.into_parts-parts.ensures.slots c.into_parts-parts.ensures.disks

pub returns-in-Ok : goal.returns-in-Ok
returns-in-Ok g c =
    let shop = c.in-Ok.ensures in
    inl (record {
      parts = shop.parts;
      are = shop.are;
      opened = c.in-Ok.field-0.pass;
      opens = shop.opens;
      begun = c.into_parts-parts.result;
      set_is = c.into_parts-parts.ensures.set;
      slots_are = c.into_parts-parts.ensures.slots;
      disks_are = c.into_parts-parts.ensures.disks;
      end = c.serve_store-end.result;
      served = c.serve_store-end.ensures.end;
      status_is = c.ended.ensures.status;
      starved_is = c.ended.ensures.starved;
      doors_are = c.ended.ensures.doors;
      opening = c.ended.ensures.opening;
      line = c.ended.ensures.line;
      closed = subst (λ set. IsHanded set c.serve_store-end.result.parts c.ended.result.rig) shop.set_is c.ended.ensures.rig;
    })

pub returns-in-Err : goal.returns-in-Err
returns-in-Err g c = inr (record {
  after = c.in-Err.back.rig;
  why = c.in-Err.back.why;
  rig_is = c.shut.ensures.rig;
  opening = c.shut.ensures.opening;
  line = c.shut.ensures.line;
  status_is = c.shut.ensures.status;
  starved = c.shut.ensures.starved;
  refused = c.in-Err.ensures;
  doors_are = c.shut.ensures.doors;
  counted = refl;
})
