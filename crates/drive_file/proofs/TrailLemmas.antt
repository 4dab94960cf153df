-- What a call says of the names stays so where the trail alone grows after it.
use Rattle.std.specs.Prelude.{◌≡◌, ℕ, List, Result, Ok, Err, Vec, String}
use Rattle.std.proofs.Common.{◌∙◌, inl, inr}
use Rattle.drive_base.specs.declared.fault.DriveFault.{DriveFault}
use Rattle.drive_base.specs.declared.fault.DriveFault.TheVariants.{Absent, Failed, NoMemory}
use Rattle.drive_file.specs.Calls.{KnowsTheSame, LooksUp, WritesLoose, SyncsLoose, PutsInPlace, TakesOut, ListsKnown}
use Rattle.drive_file.specs.FileDrive.{known, is_lost}
use Rattle.drive_file.specs.declared.drive.FileDrive.{FileDrive}

module _ {F : Type 0} (old mid new : FileDrive F) (names : known new ≡ known mid) (loss : is_lost new ≡ is_lost mid) where
  same : KnowsTheSame old mid → KnowsTheSame old new
  same h = record { names = names ∙ h.names; loss = loss ∙ h.loss }

  pub looks_up : {T : Type 0} (name : List ℕ) (r : Result T DriveFault) → LooksUp old name r mid → LooksUp old name r new
  looks_up name (Ok t) h = (h.0, h.1, same h.2)
  looks_up name (Err Absent) h = (h.0, h.1, same h.2)
  looks_up name (Err Failed) h = (h.0, same h.1)
  looks_up name (Err NoMemory) h = h

  pub writes_loose : {T : Type 0} (r : Result T DriveFault) → WritesLoose old r mid → WritesLoose old r new
  writes_loose (Ok t) h = (h.0, same h.1)
  writes_loose (Err Absent) h = (h.0, same h.1)
  writes_loose (Err Failed) h = same h
  writes_loose (Err NoMemory) h = h

  pub syncs_loose : {T : Type 0} (r : Result T DriveFault) → SyncsLoose old r mid → SyncsLoose old r new
  syncs_loose (Ok t) h = (h.0, same h.1)
  syncs_loose (Err Absent) h = (h.0, same h.1)
  syncs_loose (Err Failed) h = elim h [ inl l ↦ inl (loss ∙ l) | inr k ↦ inr (same k) ]
  syncs_loose (Err NoMemory) h = h

  pub puts_in_place : {T : Type 0} (name : List ℕ) (r : Result T DriveFault) → PutsInPlace old name r mid → PutsInPlace old name r new
  puts_in_place name (Ok t) h = (h.0, loss ∙ h.1, names ∙ h.2)
  puts_in_place name (Err Absent) h = (h.0, same h.1)
  puts_in_place name (Err Failed) h = elim h [ inl l ↦ inl (loss ∙ l) | inr k ↦ inr (same k) ]
  puts_in_place name (Err NoMemory) h = h

  pub takes_out : {T : Type 0} (name : List ℕ) (r : Result T DriveFault) → TakesOut old name r mid → TakesOut old name r new
  takes_out name (Ok t) h = (h.0, loss ∙ h.1, h.2, names ∙ h.3)
  takes_out name (Err Absent) h = (h.0, h.1, same h.2)
  takes_out name (Err Failed) h = (h.0, same h.1)
  takes_out name (Err NoMemory) h = h

  pub lists_known : {Y Z : Type 0} (from : List ℕ) (most longest : ℕ) (r : Result (Vec (String Y) Z) DriveFault)
      → ListsKnown old from most longest r mid → ListsKnown old from most longest r new
  lists_known from most longest (Ok found) h = (h.0, h.1, same h.2)
  lists_known from most longest (Err Absent) h = h
  lists_known from most longest (Err Failed) h = (h.0, same h.1)
  lists_known from most longest (Err NoMemory) h = (h.0, same h.1)
