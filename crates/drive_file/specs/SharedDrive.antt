-- What a way to a drive tells of it.
use Rattle.std.specs.Prelude.{◌≡◌, ℕ, Bool, true, false, Option, Some, option_map, Result, Ok, Err}
use Rattle.std.specs.Arc.{arc_value}
use Rattle.drive_base.specs.Files.{Files, no_files}
use Rattle.drive_file.specs.declared.lock.Lock.{Lock}
use Rattle.drive_file.specs.declared.shared.Way.{Way}
use Rattle.drive_file.specs.declared.shared.Way.TheVariants.{Alone, Shared}

-- a drive of one holder tells what it tells, a shared one nothing
abbrev pub way_tells : {D : Type 0} → (D → Bool) → Way D → Bool
way_tells tells (Alone drive) = tells drive
way_tells tells (Shared lock) = false

-- the files of a drive of one holder
abbrev pub way_files : {D : Type 0} → (D → Files) → Way D → Files
way_files files (Alone drive) = files drive
way_files files (Shared lock) = no_files

-- the count of a drive of one holder, or that of the faults that a shared way met itself
abbrev pub way_count : {D : Type 0} → (D → ℕ) → Way D → ℕ → ℕ
way_count count (Alone drive) met = count drive
way_count count (Shared lock) met = met

-- whether a way is shared
abbrev pub way_shared : {D : Type 0} → Way D → Bool
way_shared (Alone drive) = false
way_shared (Shared lock) = true

-- the value that came behind a lock, as it was then
abbrev pub lock_root : {D : Type 0} → Lock D → Option D
lock_root lock = option_map (λ home. home.of.value) (arc_value lock.place)

-- which drive a way leads to: that of one holder as it is, a shared one as it was when it was shared
abbrev pub way_root : {D : Type 0} → Way D → Option D
way_root (Alone drive) = Some drive
way_root (Shared lock) = lock_root lock

-- what sharing makes of a way: where it succeeds one that is alone becomes shared, and a shared one stays, which doesn't fail; where it fails the way stays
abbrev pub Shares : {D A E : Type 0} → Result A E → Way D → Way D → Type 0
Shares (Ok _) (Alone drive) new = way_shared new ≡ true
Shares (Ok _) (Shared lock) new = new ≡ Shared lock
Shares (Err _) (Alone drive) new = new ≡ Alone drive
Shares (Err _) (Shared lock) new = ⊥
