-- The slots and drives of a pass stand in order, and what its desk answers is a call on their store.
use Rattle.std.proofs.Common.{◌∙◌, ℕ, List, Option}
use Rattle.std.proofs.lemmas.List.{length-map}
use Rattle.audit_trail.specs.declared.entry.Entry.{Entry}
use Rattle.drive_base.specs.View.{view, views}
use Rattle.drive_base.specs.declared.drive.Drive.{Ghosts}
use Rattle.op_steps.specs.Store.{slots_seen}
use Rattle.store_shared.specs.Answers.{any_teller}
use Rattle.store_shared.specs.Laws.{AnswersAreCalls, PassesAreInOrder}
use Rattle.store_shared.specs.Passes.{disks_of, set_of, slots_of}
use Rattle.store_shared.proofs.OrderLemmas.{fit_order, slots_fit}

module _ {D A : Type 0} (ghosts : Ghosts D) (entries : A → Option (List Entry)) (count : A → ℕ) where
  pub pass_in_order : PassesAreInOrder ghosts entries count
  pass_in_order pass = fit_order (set_of pass) (slots_seen entries count (slots_of pass)) (views ghosts (disks_of pass))
      (slots_fit entries count (set_of pass) (slots_of pass) pass.count pass.index pass.of_set) (length-map (disks_of pass) (view ghosts) ∙ pass.drives)

  pub answer_is_call : AnswersAreCalls ghosts entries count
  answer_is_call task before after body tale result x = record {
    slot = x.slot;
    in_store = x.in_store;
    left = x.left;
    feed = x.feed;
    feed_after = x.feed_after;
    teller = any_teller x.faults;
    teller_after = any_teller x.faults_after;
    ran = x.ran;
    lets_go = x.lets_go;
  }
