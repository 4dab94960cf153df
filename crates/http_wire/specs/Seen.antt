-- What a wire shows.
use Rattle.http_wire.specs.Answers.{Wired}
use Rattle.http_wire.specs.declared.wire.Wire.{Wire}

-- the wire without its source
abbrev pub seen : {S : Type 0} → Wire S → Wired
seen w = record { waits = w.window; stated = w.stated; body_left = w.body_left; refused = w.refused }
