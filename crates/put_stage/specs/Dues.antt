-- The order of a stage's calls on a drive.
use Rattle.std.specs.Prelude.{Bool, true, false}
use Rattle.put_stage.specs.declared.dues.Due.{Due}
use Rattle.put_stage.specs.declared.dues.Due.TheVariants.{Block, Table, SyncShard, Manifest, SyncManifest, PlaceManifest, PlaceShard, Nothing}

-- whether the next call appends a block
abbrev pub is_block : Due → Bool
is_block Block = true
is_block Table = false
is_block SyncShard = false
is_block Manifest = false
is_block SyncManifest = false
is_block PlaceManifest = false
is_block PlaceShard = false
is_block Nothing = false

-- whether no call is left
abbrev pub is_nothing : Due → Bool
is_nothing Block = false
is_nothing Table = false
is_nothing SyncShard = false
is_nothing Manifest = false
is_nothing SyncManifest = false
is_nothing PlaceManifest = false
is_nothing PlaceShard = false
is_nothing Nothing = true

-- whether nothing but blocks is appended yet
abbrev pub is_early : Due → Bool
is_early Block = true
is_early Table = true
is_early SyncShard = false
is_early Manifest = false
is_early SyncManifest = false
is_early PlaceManifest = false
is_early PlaceShard = false
is_early Nothing = false

-- the call that follows one: a manifest alone has no shard file to put in place
abbrev pub after : Bool → Due → Due
after alone Block = Table
after alone Table = SyncShard
after alone SyncShard = Manifest
after alone Manifest = SyncManifest
after alone SyncManifest = PlaceManifest
after true PlaceManifest = Nothing
after false PlaceManifest = PlaceShard
after alone PlaceShard = Nothing
after alone Nothing = Nothing
