-- What a `StdSource` reads.
use Rattle.std.specs.Prelude.{ℕ, List, Option}
use Rattle.std.specs.Io.Buffered.{reader_remaining}
use Rattle.io_base.specs.Trail.{TakeCall}
use Rattle.io_base.specs.declared.standard_source.StdSource.{StdSource}

-- the bytes read ahead and then those that the reader has left, where it tells them
abbrev pub unread : {R : Type 0} → (R → Option (List ℕ)) → StdSource R → Option (List ℕ)
unread remaining s = reader_remaining remaining s.reader

-- the takes that were asked of it
abbrev pub asked : {R : Type 0} → StdSource R → List TakeCall
asked s = s.takes.value
