-- What an audit has since room was made in it.
use Rattle.std.proofs.Common.{◌≡◌, List, Option, subst}
use Rattle.audit_trail.specs.declared.entry.Entry.{Entry}
use Rattle.slot_core.specs.Stubs.{AuditHas}
use Rattle.slot_core.specs.declared.stub.Stub.{Stub}

-- room changes nothing
pub audit_since : (stub : Option Stub) (before mid after : Option (List Entry)) → mid ≡ before → AuditHas stub mid after → AuditHas stub before after
audit_since stub before mid after same has = subst (λ (l : Option (List Entry)). AuditHas stub l after) same has
