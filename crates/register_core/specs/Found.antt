-- What the files that were read of the lanes say.
use Rattle.std.specs.Prelude.{◌≡◌, ◌⊎◌, ⊤, ℕ, List, Option, Some, None, map, slice_index_or}
use Rattle.seal_file.specs.declared.damage.Damage.TheVariants.{Spelling}
use Rattle.call_types.specs.declared.why.Why.{Why}
use Rattle.call_types.specs.declared.why.Why.TheVariants.{Damaged}
use Rattle.sealed_record.specs.Fields.{IfThere}
use Rattle.register_file.specs.Record.{IsContent, AddsPrint}
use Rattle.register_file.specs.declared.record.RegFile.{RegFile}
use Rattle.register_file.specs.declared.record.Base.{Base}
use Rattle.register_file.specs.declared.record.Next.{Next}
use Rattle.vote_core.specs.Verdict.{VerdictRule}
use Rattle.vote_core.specs.declared.verdict.Verdict.TheVariants.{Settled, Pending}
use Rattle.register_core.specs.Records.{row_of}

-- what was read of the lane of this index
abbrev pub found_at : List (Option RegFile) → ℕ → Option RegFile
found_at found k = slice_index_or found k None

-- a lane's file that was read has this base
abbrev pub FindsBase : List (Option RegFile) → ℕ → Base → Type 0
FindsBase found k base = (file : RegFile) × (found_at found k ≡ Some file) × (file.base ≡ base)

-- a lane's file that was read has this next
abbrev pub FindsNext : List (Option RegFile) → ℕ → Next → Type 0
FindsNext found k next = (file : RegFile) × (found_at found k ≡ Some file) × (file.next ≡ Some next)

-- the verdict over what was read: the base of the settled lane and nothing pending, or the greatest base and the greatest next above it
abbrev pub Concludes : ℕ → ℕ → List (Option RegFile) → Base → Option Next → Type 0
Concludes w d found base None = (lane : ℕ) × VerdictRule w d (map row_of found) (Settled lane) × FindsBase found lane base
Concludes w d found base (Some next) = (base_lane : ℕ) × (lane : ℕ) × (k : ℕ) × (u : ℕ)
    × VerdictRule w d (map row_of found) (Pending base_lane lane k u) × FindsBase found base_lane base × FindsNext found lane next

-- what is pending can be written again: its print is a SHA-256, and its content's length fits its field
abbrev pub IsLawfulPending : Option Next → Type 0
IsLawfulPending None = ⊤
IsLawfulPending (Some next) = IfThere AddsPrint next.adds × IsContent next.content

-- the content that is looked at: the settled one, or the one that a forward would complete
abbrev pub content_of : Base → Option Next → List ℕ
content_of base None = base.content
content_of base (Some next) = next.content

-- a file has this content, in its base or its next
abbrev pub HasContent : RegFile → List ℕ → Type 0
HasContent file content = (file.base.content ≡ content) ⊎ ((next : Next) × (file.next ≡ Some next) × (next.content ≡ content))

-- the letter of a lane where a content is refused at a place: each lane that has it is damaged there, and any other keeps its letter
abbrev pub RefusedLetter : Option RegFile → List ℕ → ℕ → Why → Why → Type 0
RefusedLetter None content place letter why = why ≡ letter
RefusedLetter (Some file) content place letter why = (HasContent file content × (why ≡ Damaged (Spelling place)))
    ⊎ ((HasContent file content → ⊥) × (why ≡ letter))
