-- What a scripted drive tells.
use Rattle.std.specs.Prelude.{Bool, true, false}
use Rattle.drive_memory.specs.declared.scripted.Voice.{Voice}
use Rattle.drive_memory.specs.declared.scripted.Voice.TheVariants.{Tells, Silent, Lies}

-- whether it tells what it holds
abbrev pub is_telling : Voice → Bool
is_telling Tells = true
is_telling Silent = false
is_telling (Lies front) = false
