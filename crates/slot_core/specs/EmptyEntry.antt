-- The entries of sections that did nothing of their own.
use Rattle.std.specs.Prelude.{ℕ, [], None}
use Rattle.audit_trail.specs.declared.entry.Deed.TheVariants.{Kept}
use Rattle.audit_trail.specs.declared.entry.Entry.{Entry}

-- the entry of a section that was about no register
abbrev pub nothing_at : ℕ → Entry
nothing_at ticket = record { ticket = ticket; late = None; name = []; deed = Kept }
