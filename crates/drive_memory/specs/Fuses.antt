-- What a fuse does to the next call of a drive, and how that call moves it.
use Rattle.std.specs.Prelude.{◌-◌, ◌==◌, Bool, false, not, ◌&&◌, Option, Some, None}
use Rattle.drive_memory.specs.declared.fuse.Fuse.{Fuse}

-- the fuse is spent: it fails each call, which has no effect
abbrev pub is_spent : Option Fuse → Bool
is_spent None = false
is_spent (Some fuse) = fuse.calls == 0 && not fuse.late

-- the fuse is due: it fails the next call, which has its effect
abbrev pub is_due : Option Fuse → Bool
is_due None = false
is_due (Some fuse) = fuse.calls == 0 && fuse.late

-- the fuse after one call more: one call fewer is left, and from the first failing call on it is spent
abbrev pub burned : Option Fuse → Option Fuse
burned None = None
burned (Some fuse) = Some (record { calls = fuse.calls - 1; late = fuse.late && not (fuse.calls == 0) })
