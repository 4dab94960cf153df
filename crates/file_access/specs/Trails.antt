-- Which answers of a drive the letters and pieces of its calls tell.
use Rattle.std.specs.Prelude.{◌≡◌, ◌⊎◌, ℕ, ◌+◌, ◌<◌, List, length, min, Result, Ok, Err, Vec}
use Rattle.call_types.specs.declared.why.Why.{Why}
use Rattle.call_types.specs.declared.why.Why.TheVariants.{Good, Failed, Damaged, Behind, Lacks}
use Rattle.drive_base.specs.declared.fault.DriveFault.{DriveFault}
use Rattle.drive_base.specs.declared.fault.DriveFault.TheVariants as fault
use Rattle.drive_base.specs.DriveModel.{DriveModel}
use Rattle.drive_base.specs.Trail.{DriveCall, Read, and_append, and_rename, and_sync}
use Rattle.drive_base.specs.View.{DriveView}
use Rattle.file_access.specs.declared.fault.FetchFault.{FetchFault}
use Rattle.file_access.specs.declared.fault.FetchFault.TheVariants.{Because, NoMemory}
use Rattle.seal_file.specs.declared.damage.Damage.{Damage}
use Rattle.seal_file.specs.declared.damage.Damage.TheVariants.{Short, Digest, Kind, Spelling, Long}

-- the drive answered so
abbrev pub AnswerOf : {T : Type 0} → Result T Why → Result T DriveFault → Type 0
AnswerOf (Ok given) answer = answer ≡ Ok given
AnswerOf (Err Good) answer = ⊥
AnswerOf (Err (Failed before after)) answer = answer ≡ Err fault.Failed
AnswerOf (Err (Damaged damage)) answer = ⊥
AnswerOf (Err (Behind ballot)) answer = ⊥
AnswerOf (Err (Lacks kind)) answer = answer ≡ Err fault.Absent

-- damage that tells where a reading ended, which gave fewer bytes than it was asked for
abbrev pub EndedEarly : ℕ → ℕ → Damage → Result ℕ DriveFault → Type 0
EndedEarly at long (Short end) answer = (count : ℕ) × (answer ≡ Ok count) × (count < long) × (end ≡ min (at + count) 18446744073709551615)
EndedEarly at long (Digest _ _) answer = ⊥
EndedEarly at long (Kind _) answer = ⊥
EndedEarly at long (Spelling _) answer = ⊥
EndedEarly at long (Long _) answer = ⊥

-- the drive answered so where it was asked for so many bytes from a place on
abbrev pub FillAnswerOf : ℕ → ℕ → Result (Unit {0}) Why → Result ℕ DriveFault → Type 0
FillAnswerOf at long (Ok done) answer = answer ≡ Ok long
FillAnswerOf at long (Err Good) answer = ⊥
FillAnswerOf at long (Err (Failed before after)) answer = answer ≡ Err fault.Failed
FillAnswerOf at long (Err (Damaged damage)) answer = EndedEarly at long damage answer
FillAnswerOf at long (Err (Behind ballot)) answer = ⊥
FillAnswerOf at long (Err (Lacks kind)) answer = answer ≡ Err fault.Absent

-- a piece was fetched by one reading into a buffer of its length, or for want of memory by none
abbrev pub PieceCalls : {Z : Type 0} → Result (Vec ℕ Z) FetchFault → List ℕ → ℕ → ℕ → DriveView → DriveView → Type 0
PieceCalls (Ok piece) name at long old new = (before : List ℕ) × (length before ≡ long) × DriveModel (Read name at before (Ok long) piece.items) old new
PieceCalls (Err (Because why)) name at long old new = (before : List ℕ) × (after : List ℕ) × (answer : Result ℕ DriveFault) × (length before ≡ long)
    × FillAnswerOf at long (Err why) answer × DriveModel (Read name at before answer after) old new
PieceCalls (Err NoMemory) name at long old new = new ≡ old

-- a loose file was written: appended, and synced where that was answered Ok
abbrev pub LooseCalls : Result (Unit {0}) Why → List ℕ → List ℕ → List DriveCall → List DriveCall → Type 0
LooseCalls (Ok done) loose bytes old new = new ≡ and_sync (and_append old loose bytes (Ok tt)) loose (Ok tt)
LooseCalls (Err why) loose bytes old new = (answer : Result (Unit {0}) DriveFault) × AnswerOf (Err why) answer
    × ((new ≡ and_append old loose bytes answer) ⊎ (new ≡ and_sync (and_append old loose bytes (Ok tt)) loose answer))

-- a write of a file ended with the call that was answered so
abbrev pub StopsAt : Result (Unit {0}) DriveFault → List ℕ → List ℕ → List ℕ → List DriveCall → List DriveCall → Type 0
StopsAt answer loose name bytes old new = (new ≡ and_append old loose bytes answer)
    ⊎ ((new ≡ and_sync (and_append old loose bytes (Ok tt)) loose answer)
    ⊎ (new ≡ and_rename (and_sync (and_append old loose bytes (Ok tt)) loose (Ok tt)) loose name answer))

-- a file was written and put in place: all three calls were answered Ok, or the last of those that were made was not
abbrev pub FileCalls : Why → List ℕ → List ℕ → List ℕ → List DriveCall → List DriveCall → Type 0
FileCalls Good loose name bytes old new = new ≡ and_rename (and_sync (and_append old loose bytes (Ok tt)) loose (Ok tt)) loose name (Ok tt)
FileCalls (Failed before after) loose name bytes old new = StopsAt (Err fault.Failed) loose name bytes old new
FileCalls (Damaged damage) loose name bytes old new = ⊥
FileCalls (Behind ballot) loose name bytes old new = ⊥
FileCalls (Lacks kind) loose name bytes old new = StopsAt (Err fault.Absent) loose name bytes old new
