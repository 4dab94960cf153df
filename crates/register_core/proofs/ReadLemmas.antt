-- From what a call read to what was read of each lane.
use Rattle.std.proofs.Common.{◌≡◌, ℕ, ◌∙◌, List, Option, Some, None, ap, subst}
use Rattle.std.specs.Prelude.{Bool, ◌↔◌, Result, Ok, Err}
use Rattle.call_types.specs.declared.why.FileKind.TheVariants.{Format, Register, Manifest, Shard}
use Rattle.call_types.specs.declared.why.Why.{Why}
use Rattle.call_types.specs.declared.why.Why.TheVariants.{Good, Failed, Damaged, Behind, Lacks}
use Rattle.drive_base.specs.Files.{Files}
use Rattle.file_access.specs.declared.fault.FetchFault.{FetchFault}
use Rattle.file_access.specs.declared.fault.FetchFault.TheVariants.{Because}
use Rattle.register_file.specs.declared.record.RegFile.{RegFile}
use Rattle.register_core.specs.Looks.{LaneIsRead}
use Rattle.register_core.specs.LaneReads.{ReadsLane}

-- two ways to say that a lane is out
pub out_same : (most : ℕ) (name : List ℕ) (file : Option RegFile) (why : Why) (out mask : Type 0) (tells : Bool) (files : Files) (old new : ℕ) → out ↔ mask
    → LaneIsRead most name file why out tells files old new → LaneIsRead most name file why mask tells files old new
out_same most name (Some file) why out mask tells files old new same is = (is.0, (λ m. is.1 (same.1 m)), is.2, is.3, is.4)
out_same most name None Good out mask tells files old new same is = is
out_same most name None (Failed before after) out mask tells files old new same is = ((λ m. is.0 (same.1 m)), is.1)
out_same most name None (Damaged damage) out mask tells files old new same is = ((λ m. is.0 (same.1 m)), is.1, is.2)
out_same most name None (Behind ballot) out mask tells files old new same is = is
out_same most name None (Lacks Format) out mask tells files old new same is = (same.0 is.0, is.1)
out_same most name None (Lacks Register) out mask tells files old new same is = is
out_same most name None (Lacks Manifest) out mask tells files old new same is = is
out_same most name None (Lacks Shard) out mask tells files old new same is = is

-- a lane whose record was read
pub read_ok : (most : ℕ) (name : List ℕ) (result : Result RegFile FetchFault) (file : RegFile) (out : Type 0) (tells : Bool) (files : Files) (old new : ℕ)
    → result ≡ Ok file → ReadsLane most name result out tells files old new → LaneIsRead most name (Some file) Good out tells files old new
read_ok most name result file out tells files old new is reads =
    subst (λ (r : Result RegFile FetchFault). ReadsLane most name r out tells files old new) is reads

-- a lane of which no record was read
pub read_err : (most : ℕ) (name : List ℕ) (result : Result RegFile FetchFault) (fault : FetchFault) (why : Why) (out : Type 0) (tells : Bool) (files : Files) (old new : ℕ)
    → result ≡ Err fault → fault ≡ Because why → ReadsLane most name result out tells files old new → LaneIsRead most name None why out tells files old new
read_err most name result fault why out tells files old new is because reads =
    subst (λ (r : Result RegFile FetchFault). ReadsLane most name r out tells files old new) (is ∙ ap (λ (f : FetchFault). Err f) because) reads
