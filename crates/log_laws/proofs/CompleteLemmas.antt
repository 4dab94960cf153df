-- Over the logs of calls on a store that holds enough lanes and data drives that serve refuse nothing.
use Rattle.std.proofs.Common.{[], ◌∷◌, ◌++◌, refl}
use Rattle.desk_base.specs.Telling.{Effect}
use Rattle.drive_base.specs.declared.drive.Drive.{Ghosts}
use Rattle.drive_base.specs.declared.plan.SetPlan.{SetPlan}
use Rattle.manifest_file.specs.Table.{ManifestsAreNoLonger}
use Rattle.manifest_file.specs.declared.manifest.TheConstants.{LONGEST_FILE}
use Rattle.op_steps.specs.Claims.{no_claim}
use Rattle.log_laws.specs.Laws.{EachStepKeepsData, RanKeepsFiles, RanKeepsHistory}
use Rattle.log_laws.specs.Requests.{CallsComplete, RequestComplete}
use Rattle.op_steps.specs.Store.{any_effect, store_of}
use Rattle.log_laws.proofs.CallingLemmas.{one_went}
use Rattle.log_laws.proofs.FileLemmas.{files_keep}
use Rattle.log_laws.proofs.HoldingLemmas.{claim_comes}
use Rattle.log_laws.proofs.ReadLemmas.{read_goes_on}
use Rattle.log_laws.proofs.RequestLemmas.{log_not}
use Rattle.log_laws.proofs.StagingLemmas.{body_taken, put_listed}
use Rattle.log_laws.proofs.StepDataLemmas.{step_data}
use Rattle.log_laws.proofs.HistoryLemmas.{history_runs}

module _ {D T : Type 0} (ghosts : Ghosts D) (takes breaks : Effect T) where
  request_by : ManifestsAreNoLonger LONGEST_FILE → EachStepKeepsData ghosts takes breaks → RanKeepsHistory ghosts takes breaks → RanKeepsFiles ghosts takes breaks
      → RequestComplete ghosts takes breaks
  request_by lengths step_law history files set log old new unseen claims at order low none holds ran =
      let held = claim_comes ghosts takes breaks unseen old claims at none holds in
      record {
        sections = λ lanes disks k note shown fault there serve enough refused.
            log_not ghosts takes breaks step_law history set unseen lanes disks log old new claims [] at k note shown fault order low held ran there serve enough
            refused;
        puts = put_listed ghosts takes breaks step_law history files set log old new unseen claims at order low held ran;
        body = body_taken ghosts takes breaks step_law history files set log old new unseen claims at order low held ran;
        reads = read_goes_on ghosts takes breaks set unseen claims step_law history lengths log old new at order low held ran;
      }

  pub request_complete : ManifestsAreNoLonger LONGEST_FILE → RequestComplete ghosts takes breaks
  request_complete lengths = request_by lengths (step_data ghosts takes breaks) (history_runs ghosts takes breaks) (files_keep ghosts takes breaks)

module _ {D : Type 0} (ghosts : Ghosts D) (lengths : ManifestsAreNoLonger LONGEST_FILE) (set : SetPlan) where
  pub calls_complete : CallsComplete ghosts set
  calls_complete [] slots disks after disks_after unseen claims at in_order holds ran = tt
  calls_complete (log ∷ logs) slots disks after disks_after unseen claims at in_order holds (mid, mid_disks, call, rest) =
      let went = one_went ghosts set log slots mid disks mid_disks in_order call in
      let later = went.holds unseen claims at holds in (
        request_complete ghosts any_effect any_effect lengths set log (store_of slots disks (no_claim call.slot) call.feed call.teller)
            (store_of mid mid_disks call.left call.feed_after call.teller_after) unseen claims at in_order call.in_store refl holds call.ran,
        calls_complete logs mid mid_disks after disks_after unseen (claims ++ later.left) later.later went.in_order later.holds rest,
      )
