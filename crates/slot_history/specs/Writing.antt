-- What a section's writes leave of the records of a slot.
use Rattle.std.specs.Prelude.{◌≡◌, ℕ, false, List}
use Rattle.std.specs.Str.{bytes_eq}
use Rattle.vote_core.specs.Lane.{Lane}
use Rattle.slot_history.specs.Standing.{Records}

-- the lanes of one name were written, those of every other name are as before
pub record WritesUnder (name : List ℕ) (after : List Lane) (old new : Records) : Type 0 where
  pub is : new name ≡ after
  pub stays : (other : List ℕ) → bytes_eq name other ≡ false → new other ≡ old other
