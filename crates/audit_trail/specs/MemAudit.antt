-- What a `MemAudit` shows.
use Rattle.std.specs.Prelude.{ℕ, ◌-◌, List, Vec, vec_len, vec_capacity}
use Rattle.audit_trail.specs.declared.entry.Entry.{Entry}

-- its entries, and how many more fit without memory
pub record MemoryAudit : Type 0 where
  pub entries : List Entry
  pub room : ℕ

-- how many more items fit without memory
abbrev pub spare : {T A : Type 0} → Vec T A → ℕ
spare items = vec_capacity items - vec_len items
