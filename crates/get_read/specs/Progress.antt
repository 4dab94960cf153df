-- What one call adds to the search for a manifest, to a stripe and to a window.
use Rattle.std.specs.Prelude.{◌≡◌, ◌⊎◌, ◌<◌, ◌≤◌, ◌-◌, ◌*◌, ℕ, false, List, [], ◌++◌, Option, Some, None, Vec, Result, Ok, Err, length, slice_index_or, min, take, drop}
use Rattle.sha2.specs.Sha256.{sha256}
use Rattle.call_types.specs.Good.{is_good}
use Rattle.call_types.specs.declared.why.Why.{Why}
use Rattle.drive_base.specs.Calls.{Seen, Showed, Sized}
use Rattle.drive_base.specs.Plan.{data_drives}
use Rattle.drive_base.specs.View.{DriveView}
use Rattle.drive_base.specs.declared.drive.Drive.{Ghosts}
use Rattle.drive_base.specs.declared.plan.SetPlan.{SetPlan}
use Rattle.file_access.specs.declared.fault.FetchFault.{FetchFault}
use Rattle.file_access.specs.declared.fault.FetchFault.TheVariants.{Because, NoMemory}
use Rattle.manifest_file.specs.Canonical.{IsCanonical}
use Rattle.manifest_file.specs.Spelling.{file_of}
use Rattle.manifest_file.specs.declared.manifest.TheConstants.{LONGEST_FILE}
use Rattle.manifest_file.specs.declared.manifest.Manifest.{Manifest}
use Rattle.manifest_file.specs.declared.manifest.ManifestPart.{ManifestPart}
use Rattle.shard_file.specs.Stripes.{stripe_count, stripe_size}
use Rattle.shard_file.specs.Shards.{block_place, table_place}
use Rattle.body_print.specs.Clashes.{IsClash, IsTableOrBlock}
use Rattle.body_print.specs.Names.{manifest_name, shard_name}
use Rattle.body_print.specs.Shards.{HasRoots}
use Rattle.get_read.specs.Account.{Account, WasSeen}
use Rattle.get_read.specs.Calls.{WasSeenSo}
use Rattle.get_read.specs.Causes.{Serves, digest_in}
use Rattle.get_read.specs.Given.{IsFoundIn, MetIn}
use Rattle.get_read.specs.Letters.{TellsNoBytes, TellsNoManifest, TellsNoTable}
use Rattle.get_read.specs.Blocks.{all_bytes}
use Rattle.get_read.specs.Readers.{AreCalls, IsFetchOf, IsPartOf, IsSearchOf, IsStripeOf, Told, all_calls, set_of, told_after, wants}
use Rattle.get_read.specs.Refusing.{FewGiveIn, NoneServesIn}
use Rattle.get_read.specs.Windows.{AreAhead, AreRuns, WindowCall, digests_in}
use Rattle.get_read.specs.declared.faults.BodyFault.{BodyFault}
use Rattle.get_read.specs.declared.faults.BodyFault.TheVariants.{InvalidRange, ShardQuorum, NoMemory as NoRoom}
use Rattle.get_read.specs.declared.calls.ShownBlock.{ShownBlock}
use Rattle.get_read.specs.declared.state.Asked.{Asked}
use Rattle.get_read.specs.declared.search.Search.{Search}
use Rattle.get_read.specs.declared.search.SearchFind.{SearchFind}
use Rattle.get_read.specs.declared.search.SearchFind.TheVariants.{Size, File}
use Rattle.get_read.specs.declared.fetch.StripeFind.{StripeFind}
use Rattle.get_read.specs.declared.fetch.StripeFind.TheVariants.{Table, Block}
use Rattle.get_read.specs.declared.fetch.Fetching.{Fetching}
use Rattle.get_read.specs.declared.state.StripeWork.{StripeWork}
use Rattle.get_read.specs.declared.window.Window.{Window}
use Rattle.get_read.specs.declared.window.WindowFind.{WindowFind}

-- a call of the next drive of a search gives the length of its file, or the manifest, which serves, or why there is none
abbrev pub LookCall : Search → Result SearchFind FetchFault → DriveView → DriveView → Type 0
LookCall old (Ok (Size n)) before after = (n ≤ LONGEST_FILE) × WasSeen (Sized (manifest_name old.asked.id) n) before after × (old.size ≡ None)
LookCall old (Ok (File m)) before after = (old.size ≡ Some (length (file_of m))) × IsCanonical m × Serves (wants old.asked) m
    × WasSeen (Showed (manifest_name old.asked.id) 0 (file_of m)) before after
LookCall old (Err (Because why)) before after = (is_good why ≡ false)
    × WasSeenSo (TellsNoManifest (wants old.asked) old.asked.id (λ n. old.size ≡ Some n) why) before after
LookCall old (Err NoMemory) before after = Unit {0}

-- what a search answers after one call more, which these are all calls
abbrev pub SearchAnswers : Result (Option Manifest) BodyFault → Search → Account → Type 0
SearchAnswers (Ok None) new calls = IsSearchOf new calls
SearchAnswers (Ok (Some m)) new calls = IsFoundIn (wants new.asked) new.asked.id m calls
SearchAnswers (Err (InvalidRange _)) new calls = ⊥
SearchAnswers (Err (ShardQuorum whys)) new calls =
    NoneServesIn (set_of new.asked) new.asked.wanted.print new.asked.id new.asked.wanted.reach whys calls
SearchAnswers (Err NoRoom) new calls = Unit {0}

-- a manifest is canonical and serves
abbrev pub Suits : Asked → Manifest → Type 0
Suits asked manifest = IsCanonical manifest × Serves (wants asked) manifest

-- one that is found is so
abbrev pub FindsSuiting : Asked → Result (Option Manifest) BodyFault → Type 0
FindsSuiting asked (Ok None) = Unit {0}
FindsSuiting asked (Ok (Some m)) = Suits asked m
FindsSuiting asked (Err fault) = Unit {0}

-- what is given has so many bytes, or more
abbrev pub GivesSoLong : {Z : Type 0} → ℕ → Result (Option (Vec ℕ Z)) BodyFault → Type 0
GivesSoLong n (Ok None) = Unit {0}
GivesSoLong n (Ok (Some run)) = n ≤ length run.items
GivesSoLong n (Err fault) = Unit {0}

-- a stripe, or an answer in place of it, came with one call
abbrev pub MakesOne : {T : Type 0} → Result T BodyFault → Account → Type 0
MakesOne (Ok _) calls = length calls ≡ 1
MakesOne (Err _) calls = length calls ≤ 1

-- what was met and a table or a block of a part's bytes are two byte strings with one SHA-256
pub record PartClashIn (n d : ℕ) (bytes : List ℕ) (calls : Account) : Type 0 where
  pub read : List ℕ
  pub met : MetIn calls read
  pub other : List ℕ
  pub clash : IsClash read other
  pub is : IsTableOrBlock n d bytes other

-- bytes are those of each byte string of a part's length that has the part's roots, from a stripe on, at most so many, or there is a clash
pub record IsRunBy (set : SetPlan) (part : ManifestPart) (i size : ℕ) (run : List ℕ) (calls : Account) : Type 0 where
  pub long : length run ≡ min size (part.length - stripe_size * i)
  pub exact : (bytes : List ℕ) → length bytes ≡ part.length → HasRoots set.drives (data_drives set.drives set.parity) bytes part.roots
      → (run ≡ take size (drop (stripe_size * i) bytes)) ⊎ PartClashIn set.drives (data_drives set.drives set.parity) bytes calls

-- they are one stripe
abbrev pub IsStripeBy : SetPlan → ManifestPart → ℕ → List ℕ → Account → Type 0
IsStripeBy set part i stripe calls = IsRunBy set part i stripe_size stripe calls

-- or that stripe and more
abbrev pub GivesRun : SetPlan → ManifestPart → ℕ → List ℕ → Account → Type 0
GivesRun set part i run calls = (size : ℕ) × (stripe_size ≤ size) × IsRunBy set part i size run calls

-- the part that a stripe is of
abbrev pub part_of : Fetching → ManifestPart → ManifestPart
part_of fetching default = slice_index_or fetching.manifest.parts fetching.part.place default

-- how many data blocks a stripe of what is asked for has
abbrev pub data_of : Fetching → ℕ
data_of fetching = data_drives (set_of fetching.asked).drives (set_of fetching.asked).parity

-- the digest table that is held of a drive, or nothing
abbrev pub table_held : Fetching → ℕ → List ℕ
table_held fetching k = slice_index_or (all_bytes fetching.part.tables.items) k []

-- the root of the next drive's shard, and the table that is held of it
abbrev pub next_root : Fetching → ManifestPart → List ℕ
next_root fetching part = slice_index_or part.roots fetching.work.tried []

abbrev pub next_table : Fetching → List ℕ
next_table fetching = table_held fetching fetching.work.tried

-- a table was shown now, which was not held
pub record ShowsTableNow (old : Fetching) (part : ManifestPart) (table : List ℕ) (before after : DriveView) : Type 0 where
  pub none : next_table old ≡ []
  pub size : length table ≡ 32 * stripe_count part.length
  pub digest : next_root old part ≡ sha256 table
  pub was : WasSeen (Showed (shard_name part.id) (table_place (data_of old) part.length) table) before after

-- a block was shown now, and the table that is held has this digest for it
pub record FetchesBlock (old : Fetching) (part : ManifestPart) (fetched : ShownBlock) (before after : DriveView) : Type 0 where
  pub some : 0 < length (next_table old)
  pub size : length fetched.block.items ≡ old.work.size
  pub stored : fetched.stored ≡ digest_in (next_table old) old.work.stripe
  pub was : WasSeen (Showed (shard_name part.id) (block_place (data_of old) old.work.stripe) fetched.block.items) before after

-- what a call gave tells why neither came
abbrev pub TellsNeither : Fetching → ManifestPart → Why → Seen → Type 0
TellsNeither old part why seen = TellsNoTable (data_of old) part (next_root old part) why seen ⊎ TellsNoBytes (data_of old) part old.work.stripe why seen

-- a call of the next drive of a stripe gives its digest table, or the block by the table that is held, or why there is none
abbrev pub FetchCall : Fetching → Result StripeFind FetchFault → DriveView → DriveView → Type 0
FetchCall old (Ok (Table table)) before after = (d : ManifestPart) → ShowsTableNow old (part_of old d) table.items before after
FetchCall old (Ok (Block fetched)) before after = (d : ManifestPart) → FetchesBlock old (part_of old d) fetched before after
FetchCall old (Err (Because why)) before after = (is_good why ≡ false)
    × ((d : ManifestPart) → WasSeenSo (TellsNeither old (part_of old d) why) before after)
FetchCall old (Err NoMemory) before after = Unit {0}

-- a call of the next drive of a window gives its digest table, or its blocks where that is held, or tells why neither came
abbrev pub ShowsRun : Fetching → Window → Result WindowFind FetchFault → DriveView → DriveView → Type 0
ShowsRun old window result before after = (d : ManifestPart) → WindowCall (data_of old) (part_of old d) (slice_index_or (part_of old d).roots window.tried [])
    (table_held old window.tried) window result before after

-- the digests that the table of that drive has for the stripes of the window
abbrev pub next_digests : Fetching → Window → List ℕ
next_digests old window = digests_in (table_held old window.tried) window.first window.count

-- all but the window is as before
pub record StaysBesides (old new : Fetching) : Type 0 where
  pub asked : new.asked ≡ old.asked
  pub manifest : new.manifest ≡ old.manifest
  pub at : new.at ≡ old.at
  pub part : new.part ≡ old.part
  pub work : new.work ≡ old.work

-- what a stripe answers after one call more, which these are all calls: it goes on, or its bytes are there, or too few drives gave a block
abbrev pub StripeAnswers : {Z : Type 0} → SetPlan → ManifestPart → Result (Option (Vec ℕ Z)) BodyFault → StripeWork → Told → Type 0
StripeAnswers set part (Ok None) new told = IsStripeOf set part new (all_calls told) told.since
StripeAnswers set part (Ok (Some run)) new told = GivesRun set part new.stripe run.items (all_calls told)
StripeAnswers set part (Err (InvalidRange _)) new told = ⊥
StripeAnswers set part (Err (ShardQuorum whys)) new told = FewGiveIn set part new.stripe whys (all_calls told) told.since
StripeAnswers set part (Err NoRoom) new told = Unit {0}

-- and the tables are held on
pub record FetchAnswers {Z : Type 0} (result : Result (Option (Vec ℕ Z)) BodyFault) (new : Fetching) (told : Told) : Type 0 where
  pub is_part : IsPartOf new.asked new.manifest new.part told.before (all_calls told)
  pub stripe : StripeAnswers (set_of new.asked) is_part.part result new.work told
  pub ahead : AreAhead (set_of new.asked) is_part.part new.ahead (all_calls told)

module _ {D : Type 0} (ghosts : Ghosts D) where
  -- one call of a search
  pub record SearchSteps (old new : Search) (result : Result (Option Manifest) BodyFault) (before after : List D) : Type 0 where
    pub calls : Account
    pub are : AreCalls ghosts (set_of old.asked).out calls before after
    pub made : MakesOne result calls
    pub asked : new.asked ≡ old.asked
    pub goes_on : (account : Account) → IsSearchOf old account → SearchAnswers result new (account ++ calls)

module _ {D Z : Type 0} (ghosts : Ghosts D) where
  -- one call of a stripe
  pub record FetchSteps (old new : Fetching) (result : Result (Option (Vec ℕ Z)) BodyFault) (before after : List D) : Type 0 where
    pub calls : Account
    pub are : AreCalls ghosts (set_of old.asked).out calls before after
    pub made : MakesOne result calls
    pub asked : new.asked ≡ old.asked
    pub at : new.at ≡ old.at
    pub goes_on : (told : Told) → IsFetchOf old told → FetchAnswers result new (told_after false told calls)

  -- one call for a window
  pub record WindowSteps (old : Fetching) (window : Window) (new : Fetching) (result : Result (Option (Vec ℕ Z)) BodyFault) (before after : List D) : Type 0 where
    pub calls : Account
    pub are : AreCalls ghosts (set_of old.asked).out calls before after
    pub made : MakesOne result calls
    pub asked : new.asked ≡ old.asked
    pub at : new.at ≡ old.at
    pub goes_on : (told : Told) (so : IsFetchOf old told) → AreRuns (set_of old.asked) so.is_part.part window (all_calls told)
        → FetchAnswers result new (told_after false told calls)
