-- Why a reader refuses: all drives were tried, and each letter has its call.
use Rattle.std.specs.Prelude.{◌≡◌, ◌<◌, ◌≤◌, ◌+◌, ◌*◌, ℕ, List, [], ◌++◌, Some, length, take, slice_get, slice_index_or}
use Rattle.stamp_id.specs.declared.version.VersionId.{VersionId}
use Rattle.call_types.specs.Good.{good_count}
use Rattle.call_types.specs.declared.why.Why.{Why}
use Rattle.call_types.specs.declared.why.Why.TheVariants.{Good}
use Rattle.drive_base.specs.Plan.{data_drives}
use Rattle.drive_base.specs.declared.plan.SetPlan.{SetPlan}
use Rattle.manifest_file.specs.declared.manifest.Manifest.{Manifest}
use Rattle.manifest_file.specs.declared.manifest.ManifestPart.{ManifestPart}
use Rattle.shard_file.specs.Stripes.{stripe_count, stripe_size}
use Rattle.get_read.specs.Account.{Account}
use Rattle.get_read.specs.Causes.{body_length}
use Rattle.get_read.specs.Given.{IsFoundIn}
use Rattle.get_read.specs.Letters.{BlockLetter, NoManifestOf}
use Rattle.get_read.specs.Outcomes.{wanted_of}

-- no drive gave a manifest that serves
pub record NoneServesIn (set : SetPlan) (print : List ℕ) (id : VersionId) (reach : ℕ) (whys : List Why) (account : Account) : Type 0 where
  pub counted : length whys ≡ set.drives
  pub each : (k : ℕ) → k < set.drives → NoManifestOf (wanted_of set print reach) id set.out account k (slice_index_or whys k Good)

-- fewer drives than a stripe has data blocks gave a verified block of it, by the calls that were made since the reader turned to it
pub record FewGiveIn (set : SetPlan) (part : ManifestPart) (stripe : ℕ) (whys : List Why) (account since : Account) : Type 0 where
  pub within : stripe < stripe_count part.length
  pub counted : length whys ≡ set.drives
  pub few : good_count whys < data_drives set.drives set.parity
  pub each : (k : ℕ) → k < set.drives → BlockLetter (data_drives set.drives set.parity) part stripe (slice_index_or part.roots k []) set.out account since k
      (slice_index_or whys k Good)

-- this place of a body is in a stripe of a part of its manifest
pub record IsInStripe (m : Manifest) (at place : ℕ) (part : ManifestPart) (stripe : ℕ) : Type 0 where
  pub is : slice_get m.parts place ≡ Some part
  pub begun : body_length (take place m.parts) + stripe_size * stripe ≤ at
  pub ends : at < body_length (take place m.parts) + stripe_size * (stripe + 1)
  pub within : at < body_length (take place m.parts) + part.length

-- of the stripe that has the next byte too few drives gave a block since the reader turned to it, and a manifest that serves was found before that turn
pub record FewBlocksIn (set : SetPlan) (print : List ℕ) (id : VersionId) (reach next : ℕ) (whys : List Why) (before since : Account) : Type 0 where
  pub manifest : Manifest
  pub found : IsFoundIn (wanted_of set print reach) id manifest before
  pub place : ℕ
  pub part : ManifestPart
  pub stripe : ℕ
  pub next_in : IsInStripe manifest next place part stripe
  pub needed : next < reach
  pub few : FewGiveIn set part stripe whys (before ++ since) since
