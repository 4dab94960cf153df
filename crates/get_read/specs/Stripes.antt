-- A stripe that is made of blocks at hand, and what is made of them after a call.
use Rattle.std.specs.Prelude.{◌≡◌, ◌<◌, ◌*◌, ℕ, All, List, [], Option, Some, None, Vec, Result, Ok, Err, length, slice_index, slice_index_or}
use Rattle.call_types.specs.declared.why.Why.{Why}
use Rattle.drive_base.specs.Plan.{data_drives}
use Rattle.drive_base.specs.declared.plan.SetPlan.{SetPlan}
use Rattle.poly_code.specs.Codeword.{AreDistinct}
use Rattle.shard_file.specs.Stripes.{block_size, piece}
use Rattle.body_print.specs.Shards.{AreStripeBlocks}
use Rattle.get_read.specs.Blocks.{AreSifted}
use Rattle.get_read.specs.declared.blocks.Blocks.{Blocks}
use Rattle.get_read.specs.declared.faults.BodyFault.{BodyFault}
use Rattle.get_read.specs.declared.faults.BodyFault.TheVariants.{InvalidRange, ShardQuorum, NoMemory}
use Rattle.get_read.specs.declared.state.StripeWork.{StripeWork}

-- so it is of each stripe of this length that has these blocks on the drives of these rows, whatever its other shards are
abbrev pub EachStripe : SetPlan → ℕ → List ℕ → (ℕ → List ℕ) → (List ℕ → List (List ℕ) → Type 0) → Type 0
EachStripe set long rows block So = (stripe : List ℕ) (shards : List (List ℕ)) → length stripe ≡ long
    → AreStripeBlocks set.drives (data_drives set.drives set.parity) stripe shards
    → ((j : ℕ) → j < length rows → block j ≡ slice_index_or shards (slice_index rows j) []) → So stripe shards

-- of each that has the blocks at hand
abbrev pub EachStripeOf : SetPlan → ℕ → ℕ → Blocks → (List ℕ → List (List ℕ) → Type 0) → Type 0
EachStripeOf set size long found So = EachStripe set long found.rows.items (piece size found.bytes.items) So

-- blocks of one size, of as many drives as a stripe of this length has data blocks
pub record MakeStripe (set : SetPlan) (size long : ℕ) (found : Blocks) : Type 0 where
  pub rows : length found.rows.items ≡ data_drives set.drives set.parity
  pub below : All (λ row. row < set.drives) found.rows.items
  pub distinct : AreDistinct found.rows.items
  pub have : length found.bytes.items ≡ length found.rows.items * size
  pub fits : size ≡ block_size (data_drives set.drives set.parity) long

-- bytes, of this number, are the stripe whose blocks these are, if there is one
abbrev pub IsRebuilt : SetPlan → ℕ → ℕ → Blocks → List ℕ → Type 0
IsRebuilt set size long found bytes = (length bytes ≡ long) × EachStripeOf set size long found (λ stripe _. bytes ≡ stripe)

-- enough blocks verify, and the stripe comes from them, and none is at hand any more; or more blocks are wanted; or no drive is left
abbrev pub JudgesStripe : {Z : Type 0} → SetPlan → ℕ → Result (Option (Vec ℕ Z)) BodyFault → StripeWork → StripeWork → Type 0
JudgesStripe set long (Ok (Some bytes)) old new = (found : Blocks) × AreSifted old.size 0 old.found found old.whys new.whys
    × (length found.rows.items ≡ data_drives set.drives set.parity) × IsRebuilt set old.size long found bytes.items × (new.found.rows.items ≡ [])
JudgesStripe set long (Ok None) old new = ((place : ℕ) × AreSifted old.size place old.found new.found old.whys new.whys)
    × (length new.found.rows.items < data_drives set.drives set.parity) × (new.tried < set.drives)
JudgesStripe set long (Err (InvalidRange _)) old new = ⊥
JudgesStripe set long (Err (ShardQuorum whys)) old new =
    (mid : Blocks) × (letters : List Why) × ((place : ℕ) × AreSifted old.size place old.found mid old.whys letters) × AreSifted old.size 0 mid new.found letters whys
    × (length new.found.rows.items < data_drives set.drives set.parity) × (new.tried ≡ set.drives)
JudgesStripe set long (Err NoMemory) old new = length new.found.rows.items < data_drives set.drives set.parity
