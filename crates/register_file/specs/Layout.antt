-- The format of a register's file within its seal: the fields in their order, each with its rule.
use Rattle.std.specs.Prelude.{ℕ, ◌^◌, List, Bool, ◌&&◌, ◌==◌, nat_lt}
use Rattle.std.specs.Int.{w32, w64}
use Rattle.field_reader.specs.Format.{Format, ◌>>=◌, done, field, number, with_rule}
use Rattle.sealed_record.specs.Fields.{format_number, counted, optional}
use Rattle.stamp_id.specs.IdField.{id_field}
use Rattle.register_file.specs.Rows.{StampRow, BaseRow, AddsRow, NextRow, FileRow}

-- a term is below 2^48
abbrev pub is_term : ℕ → Bool
is_term term = nat_lt term (2 ^ 48)

-- a sequence number is below 2^62
abbrev pub is_seq : ℕ → Bool
is_seq seq = nat_lt seq (2 ^ 62)

-- whether the numbers are the same
abbrev pub is_same_stamp : StampRow → StampRow → Bool
is_same_stamp a b = a.term == b.term && a.seq == b.seq

-- a ballot or a change: a term and a sequence number, a field each
unfoldable pub stamp : Format StampRow
stamp =
    with_rule is_term (number w64) >>= λ term.
    with_rule is_seq (number w64) >>= λ seq.
    done (record { term = term; seq = seq })

-- a length of four bytes, and so many bytes
abbrev pub content : Format (List ℕ)
content = counted w32

-- the ballot, the change and the content of a base
unfoldable pub base : Format BaseRow
base =
    stamp >>= λ ballot.
    stamp >>= λ change.
    content >>= λ content.
    done (record { ballot = ballot; change = change; content = content })

-- the data that a change adds, and its print
unfoldable pub adds : Format AddsRow
adds =
    id_field >>= λ id.
    field 32 >>= λ print.
    done (record { id = id; print = print })

-- a change whose parent is this one
unfoldable pub next : StampRow → Format NextRow
next parent =
    stamp >>= λ ballot.
    stamp >>= λ change.
    with_rule (is_same_stamp parent) stamp >>= λ follows.
    optional adds >>= λ adds.
    content >>= λ content.
    done (record { ballot = ballot; change = change; parent = follows; adds = adds; content = content })

-- the format of register files
unfoldable pub register : Format FileRow
register =
    format_number >>= λ format.
    base >>= λ base.
    optional (next base.change) >>= λ next.
    done (record { base = base; next = next })
