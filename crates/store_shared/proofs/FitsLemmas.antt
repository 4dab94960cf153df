-- Whether a pass is one of a desk's is a fact.
use Rattle.std.proofs.Common.{Option, Some, None}
use Rattle.std.proofs.Props.{props}
use Rattle.turn_lock.specs.declared.lock.TurnLock.{TurnLock}
use Rattle.store_shared.specs.SharedPasses.{FitsDesk, IsOfLock, PassHolds, SharedHolds}
use Rattle.store_shared.specs.declared.shared.SharedDesk.{SharedDesk}
use Rattle.store_shared.specs.declared.shared.TurnedSlot.{TurnedSlot}

module _ {D A : Type 0} where
  turned_set : IsSet D → IsSet A → IsSet (TurnedSlot D A)
  turned_set d a = hlevel (d, a, props)

  of_lock_prop : IsSet (TurnedSlot D A) → (lock : TurnLock (TurnedSlot D A)) (holds : Option (PassHolds D A)) → IsProp (IsOfLock lock holds)
  of_lock_prop s lock None = λ x y. absurd x
  of_lock_prop s lock (Some holds) = hlevel (s, props)

  pub fits_prop : {R G : Type 0} → IsSet D → IsSet A → (desk : SharedDesk R D A G) (held : SharedHolds D A) → IsProp (FitsDesk desk held)
  fits_prop d a desk held = hlevel (of_lock_prop (turned_set d a), props)
