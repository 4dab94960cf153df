-- What one take of a feed does.
use Rattle.std.specs.Prelude.{◌≡◌, ℕ, ◌+◌, ◌-◌, ◌<◌, ◌≤◌, Bool, true, List, [], length, take, Option, Result, Ok, Err}
use Rattle.std.specs.Io.KnownBytes.{prepend_known, append_known, IsAtEnd}
use Rattle.fault_base.specs.Counts.{Rose}
use Rattle.call_types.specs.declared.feed.Cut.{Cut}
use Rattle.call_types.specs.declared.feed.Cut.TheVariants.{ReadFault, BodyCut, WriteFault, ShardCut, NoMemory}

-- what is seen of a feed: its stated length, how many bytes it has given, the bytes that are left, told or not, all bytes that its source gave it so
-- far, those of earlier bodies too, told or not, and whether its source met its end: of the takes of it into a buffer with room the newest that did not
-- fail answered that no byte comes
pub record FeedView : Type 0 where
  pub stated : ℕ
  pub given : ℕ
  pub left : Option (List ℕ)
  pub taken : Option (List ℕ)
  pub ended : Bool

-- a feed gave these bytes, the next ones of its body; where it gave none, a source that met its end is still at its end
pub record Gave (bytes : List ℕ) (old new : FeedView) : Type 0 where
  pub stated : new.stated ≡ old.stated
  pub given : new.given ≡ old.given + length bytes
  pub left : old.left ≡ prepend_known bytes new.left
  pub taken : new.taken ≡ append_known old.taken bytes
  pub ended : bytes ≡ [] → old.ended ≡ true → new.ended ≡ true

-- the source of a feed met its end: no byte is left, as far as the feed tells
pub record FeedEnded (feed : FeedView) : Type 0 where
  pub left : IsAtEnd feed.left
  pub ended : feed.ended ≡ true

-- the front n bytes of a buffer were given: some where the buffer has room and fewer than the stated length were given, and never more than that
-- length leaves
pub record GaveFront (n : ℕ) (into : List ℕ) (old new : FeedView) : Type 0 where
  pub fits : n ≤ length into
  pub within : n ≤ old.stated - old.given
  pub some : 0 < length into → old.given < old.stated → 0 < n
  pub gave : Gave (take n into) old new

-- what a take gave; one that fails gives nothing
abbrev pub Gives : {E : Type 0} → Result ℕ E → List ℕ → FeedView → FeedView → Type 0
Gives (Ok n) into old new = GaveFront n into old new
Gives (Err _) into old new = Gave [] old new

-- why a take failed that left the feed so, with the counts of faults of the source below: the count rose, or the source met its end before the stated
-- length
abbrev pub GivesCause : {T : Type 0} → Result T Cut → FeedView → ℕ → ℕ → Type 0
GivesCause (Ok _) feed old new = new ≡ old
GivesCause (Err ReadFault) feed old new = Rose old new
GivesCause (Err (BodyCut read stated)) feed old new =
    (read ≡ feed.given) × (stated ≡ feed.stated) × (feed.given < feed.stated) × FeedEnded feed × (new ≡ old)
GivesCause (Err WriteFault) feed old new = ⊥
GivesCause (Err (ShardCut _)) feed old new = ⊥
GivesCause (Err NoMemory) feed old new = ⊥
