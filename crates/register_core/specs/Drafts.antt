-- The files of a change, made before anything is written.
use Rattle.std.specs.Prelude.{◌≡◌, ℕ, List, [], Option, Some, None, replicate, string_bytes}
use Rattle.call_types.specs.declared.why.Why.{Why}
use Rattle.call_types.specs.declared.why.Why.TheVariants.{Good}
use Rattle.register_file.specs.Record.{IsCanonical}
use Rattle.register_file.specs.Spelling.{file_of}
use Rattle.register_file.specs.declared.record.Base.{Base}
use Rattle.register_file.specs.declared.record.Next.{Next}
use Rattle.register_core.specs.Records.{marked_base, settled_file, prepared_file}
use Rattle.register_core.specs.declared.drafts.Draft.{Draft}
use Rattle.register_core.specs.declared.looks.Looked.{Looked}

-- a draft that leaves this base in the end
pub record EndsAt (draft : Draft) (base : Base) : Type 0 where
  pub value : draft.value ≡ base
  pub canonical : IsCanonical (settled_file base)
  pub last : draft.last.items ≡ file_of (settled_file base)

-- a draft of a change over a base
pub record IsDraftOf (draft : Draft) (base : Base) (next : Next) : Type 0 where
  pub canonical : IsCanonical (prepared_file base next)
  pub first : draft.first.items ≡ file_of (prepared_file base next)
  pub ends : EndsAt draft (marked_base next)

-- the letters of the lanes that a change is proposed on: all of them, or those that the look found good where it completes what is pending
abbrev pub letters_for : Option Next → List Why → ℕ → List Why
letters_for None whys drives = replicate drives Good
letters_for (Some next) whys drives = whys

-- a draft of a change over the base of a look
pub record IsDraftAfterLook (looked : Looked) (change : Next) (draft : Draft) : Type 0 where
  pub «of» : IsDraftOf draft looked.base change
  pub name : string_bytes draft.name ≡ string_bytes looked.name
  pub set : draft.set ≡ looked.set
  pub longest : draft.longest ≡ looked.longest
  pub letters : draft.letters ≡ letters_for looked.pending looked.whys looked.set.drives
  pub passed : draft.passed ≡ 0

-- a draft of a change over the change of another draft
pub record IsDraftAfterDraft (first : Draft) (change : Next) (draft : Draft) : Type 0 where
  pub «of» : IsDraftOf draft first.value change
  pub name : string_bytes draft.name ≡ string_bytes first.name
  pub set : draft.set ≡ first.set
  pub longest : draft.longest ≡ first.longest
  pub letters : draft.letters ≡ replicate first.set.drives Good
  pub passed : draft.passed ≡ 0

-- a draft of the settled base of a look, which has no first file and passes over the lanes that were shown to have the base
pub record IsMendOfLook (looked : Looked) (draft : Draft) : Type 0 where
  pub ends : EndsAt draft looked.base
  pub name : string_bytes draft.name ≡ string_bytes looked.name
  pub set : draft.set ≡ looked.set
  pub longest : draft.longest ≡ looked.longest
  pub none_first : draft.first.items ≡ []
  pub letters : draft.letters ≡ replicate looked.set.drives Good
  pub passed : draft.passed ≡ looked.clean
