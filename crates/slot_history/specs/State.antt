-- The state of a slot: for each name the register that stands under it, the changes that were refused and may still be applied, and those that were
-- applied.
use Rattle.std.specs.Prelude.{◌≡◌, ◌⊎◌, ℕ, false, List, [], ◌∷◌, ◌++◌, Contains}
use Rattle.std.specs.Str.{bytes_eq}
use Rattle.stamp_id.specs.declared.version.VersionId.{VersionId}
use Rattle.call_types.specs.declared.names.Key.{Key}
use Rattle.slot_history.specs.Contents.{HasOpen}
use Rattle.slot_history.specs.Names.{bucket_name, key_name, part_name}

-- what stands under a name: the number of the change that made it, 0 where none did, and its content
pub record Register : Type 0 where
  pub change : ℕ
  pub content : List ℕ

-- a register that no change made
abbrev pub blank : Register
blank = record { change = 0; content = [] }

-- the register under each name
abbrev pub Registers : Type 0
Registers = List ℕ → Register

-- a change that was refused after a write: it may be applied while its parent is the last change of its name
pub record Waiting : Type 0 where
  pub change : ℕ
  pub name : List ℕ
  pub parent : ℕ
  pub content : List ℕ

-- the state of a slot; the changes that were applied stand newest first
pub record State : Type 0 where
  pub registers : Registers
  pub pending : List Waiting
  pub applied : List ℕ

-- a slot in which nothing was done
abbrev pub no_state : State
no_state = record { registers = λ name. blank; pending = []; applied = [] }

-- a name is that of a part of an upload that its key has open
pub record IsOpenPart (registers : Registers) (name : List ℕ) : Type 0 where
  pub at : Key
  pub upload : VersionId
  pub number : ℕ
  pub name_is : name ≡ part_name at upload number
  pub opened : HasOpen (registers (key_name at)).content upload

-- a name is held: it is a bucket's, a key's, or that of a part of an upload that its key has open. What stands under the name of another part means
-- nothing
abbrev pub IsHeld : Registers → List ℕ → Type 0
IsHeld registers name = ((bucket : List ℕ) × (name ≡ bucket_name bucket)) ⊎ (((at : Key) × (name ≡ key_name at)) ⊎ IsOpenPart registers name)

-- one register is put under a name; every other name keeps its own
pub record Changes (name : List ℕ) (register : Register) (old new : Registers) : Type 0 where
  pub is : new name ≡ register
  pub stays : (other : List ℕ) → bytes_eq name other ≡ false → new other ≡ old other

-- one item is taken out of a list
pub record TakesOut {A : Type 0} (x : A) (old new : List A) : Type 0 where
  pub front : List A
  pub rest : List A
  pub old_is : old ≡ front ++ x ∷ rest
  pub new_is : new ≡ front ++ rest

-- a change is new: it neither waits nor was applied
pub record IsNew (change : ℕ) (state : State) : Type 0 where
  pub not_pending : (w : Waiting) → Contains state.pending w → w.change ≡ change → ⊥
  pub not_applied : Contains state.applied change → ⊥
