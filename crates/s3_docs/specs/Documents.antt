-- Which bytes are documents, and where others stop to be the beginning of one.
use Rattle.std.specs.Prelude.{◌≡◌, ℕ, suc, ◌<◌, ◌⊎◌, List, ◌++◌, length, take}
use Rattle.s3_docs.specs.declared.prologue.Root.{Root}
use Rattle.s3_docs.specs.declared.prologue.Root.TheVariants.{CompleteMultipartUpload, VersioningConfiguration}
use Rattle.s3_docs.specs.Machine.{Value, Parts, Versioning}
use Rattle.s3_docs.specs.Grammar.{CompleteTree, SaysComplete, complete_text, VersioningTree, SaysVersioning, versioning_text}

-- The bytes are those of a tree of this root, and say this.
abbrev pub IsDocument : Root → List ℕ → Value → Type 0
IsDocument CompleteMultipartUpload bytes (Parts parts) = (tree : CompleteTree) × SaysComplete tree parts × (bytes ≡ complete_text tree)
IsDocument VersioningConfiguration bytes (Versioning mode) = (tree : VersioningTree) × SaysVersioning tree mode × (bytes ≡ versioning_text tree)
IsDocument root bytes value = ⊥

-- Some document begins so.
abbrev pub GoesOn : Root → List ℕ → Type 0
GoesOn root bytes = (more : List ℕ) × (value : Value) × IsDocument root (bytes ++ more) value

-- The first byte at which no document goes on, or the length where a document ends early.
pub record IsPlace (root : Root) (bytes : List ℕ) (place : ℕ) : Type 0 where
  pub before : GoesOn root (take place bytes)
  pub after : (place < length bytes) × (GoesOn root (take (suc place) bytes) → ⊥)
      ⊎ (place ≡ length bytes) × ((value : Value) → IsDocument root bytes value → ⊥)
