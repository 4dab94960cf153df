-- What a stage of a body answers.
use Rattle.std.specs.Prelude.{◌≡◌, ◌≢◌, ◌↔◌, ◌<◌, ◌≤◌, ◌^◌, ℕ, List, [], ◌∷◌, Option, Some, Result, Ok, Err, slice_index_or}
use Rattle.std.specs.Int.{IsBitSet}
use Rattle.md5.specs.Md5.{md5}
use Rattle.stamp_id.specs.declared.version.VersionId.{VersionId}
use Rattle.call_types.specs.Good.{good_count}
use Rattle.call_types.specs.declared.why.FileKind.TheVariants.{Format}
use Rattle.call_types.specs.declared.why.Why.{Why}
use Rattle.call_types.specs.declared.why.Why.TheVariants.{Good, Lacks}
use Rattle.drive_base.specs.Plan.{write_drives}
use Rattle.drive_base.specs.declared.plan.SetPlan.{SetPlan}
use Rattle.manifest_file.specs.declared.manifest.Manifest.{Manifest}
use Rattle.manifest_file.specs.declared.manifest.ManifestPart.{ManifestPart}
use Rattle.put_stage.specs.declared.answers.Staged.{Staged}
use Rattle.put_stage.specs.declared.answers.StageFault.{StageFault}
use Rattle.put_stage.specs.declared.answers.StageFault.TheVariants.{WriteQuorum, BadDigest, BodyCut, ReadFault, NoMemory}

-- the manifest of a body that is one part
abbrev pub manifest_of : SetPlan → VersionId → List ℕ → ℕ → List (List ℕ) → Manifest
manifest_of set id name long roots =
    let part : ManifestPart = record { id = id; length = long; roots = roots } in
    record { name = name; drives = set.drives; parity = set.parity; parts = part ∷ [] }

-- the MD5 that a caller stated, if any, is the body's
abbrev pub Agrees : Option (List ℕ) → List ℕ → Type 0
Agrees stated body = (given : List ℕ) → stated ≡ Some given → given ≡ md5 body

-- the comparison of an MD5 that was stated, if any, with the body's
abbrev pub Compares : {T : Type 0} → Option (List ℕ) → List ℕ → Result T StageFault → Type 0
Compares stated computed (Ok _) = (given : List ℕ) → stated ≡ Some given → given ≡ computed
Compares stated computed (Err (WriteQuorum _)) = ⊥
Compares stated computed (Err (BadDigest given found)) = (stated ≡ Some given) × (found ≡ computed) × (given ≢ computed)
Compares stated computed (Err BodyCut) = ⊥
Compares stated computed (Err ReadFault) = ⊥
Compares stated computed (Err NoMemory) = ⊥

-- enough drives took all, and the answer tells which, and this print, length and ETag
pub record Acknowledges (set : SetPlan) (whys : List Why) (digest : List ℕ) (size : ℕ) (tag : List ℕ) (staged : Staged) : Type 0 where
  pub enough : write_drives set.drives set.parity ≤ good_count whys
  pub took : (k : ℕ) → k < set.drives → IsBitSet staged.took k ↔ (slice_index_or whys k (Lacks Format) ≡ Good)
  pub none_else : staged.took < 2 ^ set.drives
  pub print : staged.print ≡ digest
  pub long : staged.length ≡ size
  pub etag : staged.etag ≡ tag

-- the answer of a stage of which each drive answered with a `Why`
abbrev pub Answers : SetPlan → List Why → List ℕ → ℕ → List ℕ → Result Staged StageFault → Type 0
Answers set whys print long etag (Ok staged) = Acknowledges set whys print long etag staged
Answers set whys print long etag (Err (WriteQuorum given)) = (given ≡ whys) × (good_count whys < write_drives set.drives set.parity)
Answers set whys print long etag (Err (BadDigest given computed)) = ⊥
Answers set whys print long etag (Err BodyCut) = ⊥
Answers set whys print long etag (Err ReadFault) = ⊥
Answers set whys print long etag (Err NoMemory) = ⊥
