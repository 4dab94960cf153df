-- What each trouble does to a memory drive: the drive before, whether it struck, the drive after.
use Rattle.std.specs.Prelude.{◌≡◌, Bool, true, false, Some, None}
use Rattle.std.specs.String.{string_bytes}
use Rattle.drive_memory.specs.Damage.{HurtLeaves}
use Rattle.drive_memory.specs.MemDrive.{calls_of, files_of, fault_count, starved_count, is_lost, fuse_of}
use Rattle.drive_memory.specs.declared.drive.MemDrive.{MemDrive}
use Rattle.drive_memory.specs.declared.fuse.Fuse.{Fuse}
use Rattle.drive_memory.specs.declared.troubles.Hurt.{Hurt}

-- neither count moved, and no call was made
pub record CountsStay (old new : MemDrive) : Type 0 where
  pub faults : fault_count new ≡ fault_count old
  pub starved : starved_count new ≡ starved_count old
  pub trail : calls_of new ≡ calls_of old

-- the drive is lost, and has its files and its fuse
pub record LoseDoes (old : MemDrive) (struck : Bool) (new : MemDrive) : Type 0 where
  pub strikes : struck ≡ true
  pub lost : is_lost new ≡ true
  pub files : files_of new ≡ files_of old
  pub fuse : fuse_of new ≡ fuse_of old
  pub counts : CountsStay old new

-- the drive is there and has its files, and no fuse
pub record BackDoes (old : MemDrive) (struck : Bool) (new : MemDrive) : Type 0 where
  pub strikes : struck ≡ true
  pub present : is_lost new ≡ false
  pub files : files_of new ≡ files_of old
  pub fuse : fuse_of new ≡ None
  pub counts : CountsStay old new

-- one shown byte is turned round, where it is there
pub record HurtDoes (hurt : Hurt) (old : MemDrive) (struck : Bool) (new : MemDrive) : Type 0 where
  pub files : HurtLeaves (files_of old) (string_bytes hurt.name) hurt.place struck (files_of new)
  pub loss : is_lost new ≡ is_lost old
  pub fuse : fuse_of new ≡ fuse_of old
  pub counts : CountsStay old new

-- the drive has this fuse, and its files
pub record FuseDoes (fuse : Fuse) (old : MemDrive) (struck : Bool) (new : MemDrive) : Type 0 where
  pub strikes : struck ≡ true
  pub set : fuse_of new ≡ Some fuse
  pub loss : is_lost new ≡ is_lost old
  pub files : files_of new ≡ files_of old
  pub counts : CountsStay old new
