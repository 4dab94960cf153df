-- What a teller was told.
use Rattle.std.specs.Prelude.{◌≡◌, ℕ, List, [], ◌∷◌, Result, Ok, Err}
use Rattle.fault_base.specs.Counts.{Rose}
use Rattle.call_types.specs.declared.feed.Cut.{Cut}
use Rattle.call_types.specs.declared.feed.Cut.TheVariants.{ReadFault, BodyCut, WriteFault, ShardCut, NoMemory}
use Rattle.call_types.specs.declared.reply.Reply.{Reply}

-- the head of a reply, or the next bytes of its body
pub data Telling : Type 0 where
  Head : Reply → Telling
  Piece : List ℕ → Telling

-- what one telling does to a teller, or one that is cut short
abbrev pub Effect : Type 0 → Type 1
Effect T = T → Telling → T → Type 0

-- what a telling did: it was taken, or its sink failed in the midst of it, or nothing was done for want of memory
abbrev pub Tells : {T U : Type 0} → Effect T → Effect T → Result U Cut → Telling → T → T → Type 0
Tells takes breaks (Ok _) telling old new = takes old telling new
Tells takes breaks (Err ReadFault) telling old new = ⊥
Tells takes breaks (Err (BodyCut _ _)) telling old new = ⊥
Tells takes breaks (Err WriteFault) telling old new = breaks old telling new
Tells takes breaks (Err (ShardCut _)) telling old new = ⊥
Tells takes breaks (Err NoMemory) telling old new = new ≡ old

-- why it was cut: the sink's count of faults rose, or memory was missing
abbrev pub TellsCause : {T : Type 0} → Result T Cut → ℕ → ℕ → Type 0
TellsCause (Ok _) old new = new ≡ old
TellsCause (Err ReadFault) old new = ⊥
TellsCause (Err (BodyCut _ _)) old new = ⊥
TellsCause (Err WriteFault) old new = Rose old new
TellsCause (Err (ShardCut _)) old new = ⊥
TellsCause (Err NoMemory) old new = new ≡ old

-- these things were told and taken, one after the other
abbrev pub TellsAll : {T : Type 0} → Effect T → T → List Telling → T → Type 0
TellsAll takes old [] new = old ≡ new
TellsAll {T} takes old (telling ∷ more) new = (mid : T) × takes old telling mid × TellsAll takes mid more new
