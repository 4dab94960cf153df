-- Digest tables that are held, blocks at hand, and what the comparison with their digests leaves of them.
use Rattle.std.specs.Prelude.{◌≡◌, ◌≢◌, ◌⊎◌, ◌<◌, ◌≤◌, ◌+◌, ◌*◌, ℕ, All, List, [], Vec, length, map, slice_index, slice_index_or}
use Rattle.sha2.specs.Sha256.{sha256}
use Rattle.call_types.specs.Good.{good_count}
use Rattle.call_types.specs.declared.why.Why.{Why}
use Rattle.call_types.specs.declared.why.Why.TheVariants.{Good, Damaged}
use Rattle.seal_file.specs.declared.damage.Damage.TheVariants.{Digest}
use Rattle.poly_code.specs.Codeword.{AreDistinct}
use Rattle.shard_file.specs.Stripes.{piece}
use Rattle.get_read.specs.declared.blocks.Blocks.{Blocks}

-- the bytes of each of several tables
abbrev pub all_bytes : {Z : Type 0} → List (Vec ℕ Z) → List (List ℕ)
all_bytes {Z} tables = map (λ (table : Vec ℕ Z). table.items) tables

-- the drive of a row
abbrev pub row_at : Blocks → ℕ → ℕ
row_at blocks j = slice_index blocks.rows.items j

-- the digest that is stored for a row's block
abbrev pub stored_at : Blocks → ℕ → List ℕ
stored_at blocks j = slice_index_or blocks.stored.items j []

-- a row's block
abbrev pub block_at : ℕ → Blocks → ℕ → List ℕ
block_at size blocks j = piece size blocks.bytes.items j

-- a drive gave one of the blocks
abbrev pub IsRow : Blocks → ℕ → Type 0
IsRow blocks drive = (j : ℕ) × (j < length blocks.rows.items) × (row_at blocks j ≡ drive)

-- blocks of one size, each with a digest, from drives that differ and whose `Why` is good
pub record AreAtHand (size : ℕ) (blocks : Blocks) (whys : List Why) : Type 0 where
  pub hashes : length blocks.stored.items ≡ length blocks.rows.items
  pub long : length blocks.bytes.items ≡ length blocks.rows.items * size
  pub distinct : AreDistinct blocks.rows.items
  pub below : All (λ row. row < length whys) blocks.rows.items
  pub good : (j : ℕ) → j < length blocks.rows.items → slice_index_or whys (row_at blocks j) Good ≡ Good

-- the `Why` of a drive tells that its block hasn't the digest that is stored for it
abbrev pub TellsDigest : ℕ → Blocks → ℕ → Why → Type 0
TellsDigest size blocks drive why = (k : ℕ) × (k < length blocks.rows.items) × (row_at blocks k ≡ drive)
    × (stored_at blocks k ≢ sha256 (block_at size blocks k))
    × (why ≡ Damaged (Digest (stored_at blocks k) (sha256 (block_at size blocks k))))

-- a row is one of others, with its digest and its block, and is the same one where it is before a place
abbrev pub IsRowOf : ℕ → ℕ → Blocks → Blocks → ℕ → Type 0
IsRowOf size place old new j = (k : ℕ) × (k < length old.rows.items) × (j < place → k ≡ j) × (row_at new j ≡ row_at old k)
    × (stored_at new j ≡ stored_at old k) × (block_at size new j ≡ block_at size old k)

-- of blocks at hand those from a place on were compared: the ones that hadn't their digest are gone, and the `Why` of
-- their drives tells it; where it is good, the block stays
pub record AreSifted (size place : ℕ) (old new : Blocks) (whys whys_new : List Why) : Type 0 where
  pub counted : length whys_new ≡ length whys
  pub sum : good_count whys_new + length old.rows.items ≡ good_count whys + length new.rows.items
  pub left : place ≤ length new.rows.items
  pub fewer : length new.rows.items ≤ length old.rows.items
  pub at_hand : AreAtHand size new whys_new
  pub rows : (j : ℕ) → j < length new.rows.items → IsRowOf size place old new j
  pub verified : (j : ℕ) → place ≤ j → j < length new.rows.items → stored_at new j ≡ sha256 (block_at size new j)
  pub causes : (drive : ℕ) → (slice_index_or whys_new drive Good ≡ slice_index_or whys drive Good)
      ⊎ TellsDigest size old drive (slice_index_or whys_new drive Good)
  pub stays : (k : ℕ) → k < length old.rows.items → slice_index_or whys_new (row_at old k) Good ≡ Good → IsRow new (row_at old k)
