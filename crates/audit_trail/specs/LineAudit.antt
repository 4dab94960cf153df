-- What a `LineAudit` has.
use Rattle.std.specs.Prelude.{ℕ, Bool, if◌then◌else◌}
use Rattle.audit_trail.specs.declared.lines.LineAudit.{LineAudit}

-- its sink
abbrev pub sink_of : {K : Type 0} → LineAudit K → K
sink_of audit = audit.sink

-- whether a line was not written
abbrev pub is_cut : {K : Type 0} → LineAudit K → Bool
is_cut audit = audit.is_cut

-- one line can be written until one was not
abbrev pub line_room : {K : Type 0} → LineAudit K → ℕ
line_room audit = if audit.is_cut then 0 else 1
