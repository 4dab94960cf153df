use Rattle.std.proofs.Common.{◌∙◌, inl, inr, refl, subst}
use Rattle.ostore.specs.Rigs.{StoreIsClosed}
use Rattle.ostore.proofs.OpenLemmas.{open_again}
use Rattle.ostore.proofs.piping.pipe.Goals as goal

pub returns-in-Ok : goal.returns-in-Ok
returns-in-Ok g c =
    let shop = c.in-Ok.ensures in
    let served = c.connection-served in
    inl (
      c.close.result,
      served.result.end,
      c.with.ensures.rig,
      c.with.ensures.opening,
      c.with.ensures.line,
      c.with.ensures.starved,
      c.with.ensures.status ∙ c.status_of.ensures,
      c.connection_law.ensures _ _ _ _ _ _ shop.parts c.announce-pass.result served.new.pass shop.are
          (open_again g.D.Drive g.A.Audit.entries g.A.Audit.count c.args.rig.set shop.parts c.in-Ok.shop.pass c.announce-pass.result c.announce-pass.ensures.set
          c.announce-pass.ensures.slots c.announce-pass.ensures.disks shop.opens) served.ensures
          (subst (λ set. StoreIsClosed set served.new.pass c.close.result) shop.set_is c.close.ensures),
    )

pub returns-in-Err : goal.returns-in-Err
returns-in-Err g c = inr (
  c.in-Err.back.rig,
  c.in-Err.back.why,
  c.shut.ensures.rig,
  c.shut.ensures.opening,
  c.shut.ensures.line,
  c.shut.ensures.starved,
  c.shut.ensures.status,
  c.in-Err.ensures,
  refl,
)
