-- How far the body of a stage is taken, and what is made of it.
use Rattle.std.specs.Prelude.{◌≡◌, ◌≤◌, ◌<◌, ◌+◌, ◌*◌, ℕ, false, List, [], ◌∷◌, ◌++◌, length, map, slice_index_or, Some, Result, Ok, Err, string_bytes}
use Rattle.std.specs.List.{concat}
use Rattle.md5.specs.Md5.{Holds, md5}
use Rattle.fault_base.specs.Counts.{Rose}
use Rattle.call_types.specs.Feeds.{FeedEnded, FeedView, Gave}
use Rattle.drive_base.specs.Plan.{data_drives}
use Rattle.manifest_file.specs.Print.{print_of_parts}
use Rattle.manifest_file.specs.Spelling.{file_of}
use Rattle.manifest_file.specs.declared.manifest.Manifest.{Manifest}
use Rattle.shard_file.specs.Shards.{root_of, table_of}
use Rattle.shard_file.specs.Stripes.{stripe_size}
use Rattle.body_print.specs.Shards.{AreShards}
use Rattle.put_stage.specs.CallsSoFar.{CallsGoOn}
use Rattle.put_stage.specs.Cells.{DataCells}
use Rattle.put_stage.specs.StripeBlocks.{all_bytes, block_at}
use Rattle.put_stage.specs.Outcomes.{manifest_of}
use Rattle.put_stage.specs.Windows.{window_size, with_shards}
use Rattle.put_stage.specs.Work.{AtWork}
use Rattle.put_stage.specs.declared.stage.Load.{Load}
use Rattle.put_stage.specs.declared.stage.Made.{Made}
use Rattle.put_stage.specs.declared.stage.Stage.{Stage}
use Rattle.put_stage.specs.declared.answers.StageFault.{StageFault}
use Rattle.put_stage.specs.declared.answers.StageFault.TheVariants.{WriteQuorum, BadDigest, BodyCut, ReadFault, NoMemory}

-- the manifest of a body that has these shards
abbrev pub manifest_in : Load → List ℕ → List (List (List ℕ)) → Manifest
manifest_in load body shards = manifest_of load.set load.names.id (string_bytes load.name) (length body) (map root_of shards)

-- the manifest, the print and the MD5 of a body that has these shards
pub record IsMadeOf (load : Load) (body : List ℕ) (shards : List (List (List ℕ))) (made : Made) : Type 0 where
  pub manifest : made.manifest.items ≡ file_of (manifest_in load body shards)
  pub print : made.print ≡ print_of_parts load.set.drives load.set.parity ((length body, map root_of shards) ∷ [])
  pub etag : made.etag ≡ md5 body

-- the bytes that were taken of the body, and their shards
pub record HasTaken (load : Load) (body : List ℕ) (shards : List (List (List ℕ))) : Type 0 where
  pub of_body : load.alone ≡ false
  pub long : length body + load.left ≡ load.long
  pub whole : 0 < load.left → (count : ℕ) × (length body ≡ stripe_size * count)
  pub are : AreShards load.set.drives (data_drives load.set.drives load.set.parity) body shards
  pub tables : all_bytes load.tables.items ≡ map table_of shards
  pub hashed : 0 < load.left → Holds load.hasher body
  pub made : load.left ≡ 0 → IsMadeOf load body shards load.made

-- what is made of a load with this MD5, once its body is whole
abbrev pub MakesOf : Load → List ℕ → Made → Type 0
MakesOf load etag made = (body : List ℕ) (shards : List (List (List ℕ))) → load.long ≡ length body → etag ≡ md5 body
    → AreShards load.set.drives (data_drives load.set.drives load.set.parity) body shards → all_bytes load.tables.items ≡ map table_of shards
    → IsMadeOf load body shards made

-- the same set, id and name, and the length and the MD5 that were stated
pub record IsSameTask (old new : Load) : Type 0 where
  pub set : new.set ≡ old.set
  pub id : new.names.id ≡ old.names.id
  pub name : string_bytes new.name ≡ string_bytes old.name
  pub alone : new.alone ≡ old.alone
  pub long : new.long ≡ old.long
  pub stated : new.stated ≡ old.stated

-- a load took these bytes, the next stripes of its body
pub record TookWindow (old new : Load) (bytes : List ℕ) : Type 0 where
  pub task : IsSameTask old new
  pub left : length bytes + new.left ≡ old.left
  pub some : 0 < length bytes
  pub few : length bytes ≤ window_size old.set.drives
  pub more : List (List (List ℕ))
  pub adjoin : (k : ℕ) → k < old.set.drives → concat (slice_index_or more k []) ≡ block_at k new.window
  pub taken : (body : List ℕ) (shards : List (List (List ℕ))) → HasTaken old body shards → HasTaken new (body ++ bytes) (with_shards shards more)

-- the drives have of the next bytes what they had of those before
abbrev pub WorkGoesOn : Stage → Stage → List (List (List ℕ)) → List (List (List ℕ)) → Type 0
WorkGoesOn old new before after = (k : ℕ) (first cells : DataCells) → k < old.load.set.drives
    → AtWork old (Some (slice_index_or before k [])) k first cells → AtWork new (Some (slice_index_or after k [])) k first cells

-- a stage took these bytes, the next ones of its body
pub record Filled (old new : Stage) (bytes : List ℕ) : Type 0 where
  pub task : IsSameTask old.load new.load
  pub left : length bytes + new.load.left ≡ old.load.left
  pub some : 0 < length bytes
  pub few : length bytes ≤ window_size old.load.set.drives
  pub whys : new.whys ≡ old.whys
  pub taken : (body : List ℕ) (shards : List (List (List ℕ))) → HasTaken old.load body shards
      → (after : List (List (List ℕ))) × HasTaken new.load (body ++ bytes) after × WorkGoesOn old new shards after
      × CallsGoOn old new shards after

-- a feed gave at most so many bytes, which are no longer left
pub record GaveUpTo (most before after : ℕ) (old new : FeedView) : Type 0 where
  pub bytes : List ℕ
  pub few : length bytes ≤ most
  pub left : length bytes + after ≡ before
  pub gave : Gave bytes old new

-- what a fill took of a feed: the bytes that the feed gave; one that is refused took at most a window, and the stage has as many fewer left
abbrev pub FillTakes : Result (Unit {0}) StageFault → Stage → Stage → FeedView → FeedView → Type 0
FillTakes (Ok _) old new before after = (bytes : List ℕ) × Filled old new bytes × Gave bytes before after
FillTakes (Err _) old new before after = GaveUpTo (window_size old.load.set.drives) old.load.left new.load.left before after

-- why a fill was refused, with the counts of faults of the feed's source
abbrev pub FillCause : {T : Type 0} → Result T StageFault → FeedView → ℕ → ℕ → Type 0
FillCause (Ok _) feed old new = new ≡ old
FillCause (Err (WriteQuorum _)) feed old new = ⊥
FillCause (Err (BadDigest _ _)) feed old new = ⊥
FillCause (Err BodyCut) feed old new = (feed.given < feed.stated) × FeedEnded feed × (new ≡ old)
FillCause (Err ReadFault) feed old new = Rose old new
FillCause (Err NoMemory) feed old new = new ≡ old
