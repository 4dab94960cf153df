-- The account of a reader: the drive calls that it made, in their order, each with its answer.
use Rattle.std.specs.Prelude.{◌≡◌, ◌≢◌, ◌<◌, ℕ, List, All, Some, length, take, drop, slice_get, slice_index_or}
use Rattle.std.specs.Int.{IsBitSet}
use Rattle.drive_base.specs.Calls.{MadeCall, Seen, Tells, WasMade}
use Rattle.drive_base.specs.Trail.{IsReading}
use Rattle.drive_base.specs.View.{DriveView, view_at}

-- one call of the drive of this index
pub record Call : Type 0 where
  pub drive : ℕ
  pub made : MadeCall

-- the calls that were made, the first one first
abbrev pub Account : Type 0
Account = List Call

-- a reading was made of a drive, which was so before it and after it, and its answer tells this
pub record WasSeen (seen : Seen) (old new : DriveView) : Type 0 where
  pub made : MadeCall
  pub was : WasMade made old new
  pub tells : Tells made seen
  pub reading : IsReading made.call

-- the drive of a call is one of these, and is not out, and the call was made of it, and only read it
pub record WasCalled (out : ℕ) (call : Call) (old new : List DriveView) : Type 0 where
  pub within : call.drive < length old
  pub in_use : IsBitSet out call.drive → ⊥
  pub was : WasMade call.made (view_at old call.drive) (view_at new call.drive)
  pub reading : IsReading call.made.call

module _ {D : Type 0} where
  -- the drives but one are as they were
  abbrev pub OthersStay : ℕ → List D → List D → Type 0
  OthersStay k old new = (other : ℕ) (d : D) → other ≢ k → slice_index_or new other d ≡ slice_index_or old other d

-- a call of a drive stands in an account, and its answer tells this
pub record Stands (account : Account) (drive : ℕ) (seen : Seen) : Type 0 where
  pub place : ℕ
  pub made : MadeCall
  pub is : slice_get account place ≡ Some (record { drive = drive; made = made })
  pub tells : Tells made seen

-- bytes are a piece of others
abbrev pub IsPieceOf : List ℕ → List ℕ → Type 0
IsPieceOf bytes others = (from : ℕ) × (bytes ≡ take (length bytes) (drop from others))

-- no drive that is out was called
abbrev pub AreInUse : ℕ → Account → Type 0
AreInUse out account = All (λ call. IsBitSet out call.drive → ⊥) account
