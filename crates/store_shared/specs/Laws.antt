-- What follows of any pass, and of whatever its desk answers.
use Rattle.std.specs.Prelude.{ℕ, List, Option, Result}
use Rattle.audit_trail.specs.declared.entry.Entry.{Entry}
use Rattle.call_types.specs.declared.feed.Cut.{Cut}
use Rattle.desk_base.specs.Answering.{Task}
use Rattle.desk_base.specs.Telling.{Telling}
use Rattle.drive_base.specs.View.{views}
use Rattle.drive_base.specs.declared.drive.Drive.{Ghosts}
use Rattle.op_steps.specs.Going.{CallRan}
use Rattle.op_steps.specs.Store.{AreInOrder, slots_seen}
use Rattle.store_shared.specs.Answers.{PlainAnswers}
use Rattle.store_shared.specs.Passes.{disks_of, set_of, slots_of}
use Rattle.store_shared.specs.declared.pass.PlainPass.{PlainPass}
use Rattle.store_shared.specs.declared.op_desk.Receipt.{Receipt}

module _ {D A : Type 0} (ghosts : Ghosts D) (entries : A → Option (List Entry)) (count : A → ℕ) where
  -- the slots and the drives of a pass are those of a store, in order
  abbrev pub IsPassInOrder : PlainPass D A → Type 0
  IsPassInOrder pass = AreInOrder (set_of pass) (slots_seen entries count (slots_of pass)) (views ghosts (disks_of pass))

  -- so are those of any pass
  abbrev pub PassesAreInOrder : Type 0
  PassesAreInOrder = (pass : PlainPass D A) → IsPassInOrder pass

  -- whatever a desk answers, the log of it is that of one call, which leads from the store of the pass before to that of the pass after
  abbrev pub AnswersAreCalls : Type 0
  AnswersAreCalls = (task : Task) (before after : PlainPass D A) (body : List ℕ) (tale : List Telling) (result : Result Receipt Cut)
      (answers : PlainAnswers ghosts entries count task before after body tale result)
      → CallRan ghosts (set_of before) answers.log (slots_seen entries count (slots_of before)) (views ghosts (disks_of before))
      (slots_seen entries count (slots_of after)) (views ghosts (disks_of after))
