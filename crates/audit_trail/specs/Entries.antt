-- What an audit has, and how it counts.
use Rattle.std.specs.Prelude.{◌≡◌, ℕ, List, [], ◌∷◌, ◌++◌, Option, Result, Ok, Err}
use Rattle.std.specs.Option.{option_map}
use Rattle.fault_base.specs.Counts.{Rose}
use Rattle.audit_trail.specs.declared.audit.AuditFault.{AuditFault}
use Rattle.audit_trail.specs.declared.audit.AuditFault.TheVariants.{Failed, NoMemory}
use Rattle.audit_trail.specs.declared.entry.Entry.{Entry}

-- the entries, told or not, and one more after them
abbrev pub with_entry : Option (List Entry) → Entry → Option (List Entry)
with_entry entries entry = option_map (λ before. before ++ entry ∷ []) entries

-- the faults of a `reserve`: the count rises with `Failed` and with no other answer
abbrev pub CountsReserve : {T : Type 0} → Result T AuditFault → ℕ → ℕ → Type 0
CountsReserve (Ok _) old new = new ≡ old
CountsReserve (Err Failed) old new = Rose old new
CountsReserve (Err NoMemory) old new = new ≡ old
