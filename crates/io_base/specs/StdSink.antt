-- What a `StdSink` writes.
use Rattle.std.specs.Prelude.{ℕ, List, Option}
use Rattle.io_base.specs.Trail.{GiveCall}
use Rattle.io_base.specs.declared.standard_sink.StdSink.{StdSink}

-- the bytes that the writer holds, where it tells them
abbrev pub written : {W : Type 0} → (W → Option (List ℕ)) → StdSink W → Option (List ℕ)
written contents s = contents s.writer

-- the gives that were asked of it
abbrev pub asked : {W : Type 0} → StdSink W → List GiveCall
asked s = s.gives.value
