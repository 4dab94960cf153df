-- No step of an actor takes files of live data away.
use Rattle.std.proofs.Common.{◌∙◌, ap, subst}
use Rattle.desk_base.specs.Telling.{Effect}
use Rattle.drive_base.specs.View.{view_at}
use Rattle.drive_base.specs.declared.drive.Drive.{Ghosts}
use Rattle.op_steps.specs.Claims.{among}
use Rattle.op_steps.specs.Holding.{StoreHolds}
use Rattle.op_steps.specs.Moves.{LosesFile}
use Rattle.op_steps.specs.Store.{Store}
use Rattle.op_steps.specs.declared.op.Op.{Ghosts as Ops}
use Rattle.log_laws.specs.Laws.{AllHold}
use Rattle.log_laws.specs.LiveFiles.{LiveFilesStay}
use Rattle.drill_steps.specs.LiveFiles.{WorldKeepsFiles}
use Rattle.drill_steps.specs.Worlds.{claims_of, store_with}
use Rattle.drill_steps.specs.Worlds.Seat.{Works}
use Rattle.drill_steps.proofs.WorldLemmas.{claims_apart}

module _ {D O T : Type 0} (ghosts : Ghosts D) (takes breaks : Effect T) (ops : Ops O) where
  pub world_keeps_files : LiveFilesStay ghosts takes breaks → WorldKeepsFiles ghosts takes breaks ops
  world_keeps_files live set number event old new unseen at k id was holds x is named told lost =
      let before = store_with old x.was x.claim in
      let after = store_with new x.now x.later in
      let claims : StoreHolds ghosts.tells ghosts.files unseen old.slots old.disks (among (claims_of x.front) x.claim (claims_of x.rest)) at =
      subst (λ l. StoreHolds ghosts.tells ghosts.files unseen old.slots old.disks l at)
      (ap claims_of x.seats_were ∙ claims_apart x.front (Works x.was x.claim x.log) x.rest) holds.holds in
      let all : AllHold ghosts.tells ghosts.files unseen before (claims_of x.front) (claims_of x.rest) at =
      λ j slot here. (let h = claims j slot here in record { stands = h.stands; holds = h.holds }) in
      live set event before x.ran.0 unseen (claims_of x.front) (claims_of x.rest) at k id was holds.order x.in_store x.ran.1 all is named told
      (subst (λ (s : Store D T). LosesFile id (view_at old.disks k).files (view_at s.disks k).files) x.ran.2 lost)
