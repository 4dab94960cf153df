-- What both writes of a change leave of the lanes of one register.
use Rattle.std.specs.Prelude.{◌≡◌, ◌≢◌, ◌⊎◌, ℕ, List, length, Contains, Option, Result}
use Rattle.std.specs.Result.{IfOk}
use Rattle.vote_core.specs.Lane.{Added, HasNext, HasRecord, Lane, Next}
use Rattle.vote_core.specs.Sound.{HoldsValue, IsLive}

-- what is written: a change, its content, and the data that it adds
pub record Written : Type 0 where
  pub change : ℕ
  pub content : List ℕ
  pub adds : Option Added

-- a next that may become the value could so before: a next of the same change, content and data was there
pub record WasLive (lanes : List Lane) (c : ℕ) (next : Next) : Type 0 where
  pub lane : Lane
  pub there : Contains lanes lane
  pub found : Next
  pub has : HasNext lane found
  pub live : IsLive lanes c lane found
  pub change_is : next.change ≡ found.change
  pub content_is : next.content ≡ found.content
  pub adds_is : next.adds ≡ found.adds

-- a next is what was written
pub record IsWritten (x : Written) (next : Next) : Type 0 where
  pub change_is : next.change ≡ x.change
  pub content_is : next.content ≡ x.content
  pub adds_is : next.adds ≡ x.adds

-- the value is as it was, and what may become it could so before or was written; or what was written is the value, and nothing else may become it
abbrev pub ValueMoves : List Lane → ℕ → List ℕ → Written → List Lane → ℕ → List ℕ → Type 0
ValueMoves lanes c content x after now shows =
    ((now ≡ c) × (shows ≡ content) × ((a : Lane) (next : Next) → Contains after a → HasNext a next → IsLive after now a next
    → WasLive lanes c next ⊎ IsWritten x next))
    ⊎ ((now ≡ x.change) × (shows ≡ x.content) × (x.change ≢ c) × ((a : Lane) (next : Next) → Contains after a → HasNext a next → IsLive after now a next → ⊥))

-- lanes on which something was written over the value c: they hold the value as it was, or what was written. Each record is one that was there, or
-- was written
pub record LeavesLanes (w later : ℕ) (x : Written) (lanes : List Lane) (c : ℕ) (content : List ℕ) (after : List Lane) (now : ℕ) (shows : List ℕ) : Type 0 where
  pub counted : length after ≡ length lanes
  pub holds : HoldsValue w later after now shows
  pub moves : ValueMoves lanes c content x after now shows
  pub records : (a : Lane) (d : ℕ) (bytes : List ℕ) → Contains after a → HasRecord a d bytes
      → ((b : Lane) × Contains lanes b × HasRecord b d bytes) ⊎ ((d ≡ x.change) × (bytes ≡ x.content))

-- what is written of a next
abbrev pub written_of : Next → Written
written_of next = record { change = next.change; content = next.content; adds = next.adds }

-- lanes on which something was written, by its result: where that is Ok, what was written is the value
pub record LeavesByResult {T E : Type 0} (w later : ℕ) (result : Result T E) (x : Written) (lanes : List Lane) (c : ℕ) (content : List ℕ) (after : List Lane) : Type 0 where
  pub now : ℕ
  pub shows : List ℕ
  pub leaves : LeavesLanes w later x lanes c content after now shows
  pub marked : IfOk result (λ done. (now ≡ x.change) × (shows ≡ x.content))
