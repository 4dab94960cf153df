-- Records as they are spelled: a ballot and a change are two numbers, and an id is its 16 bytes.
use Rattle.std.specs.Prelude.{ℕ, List, Option}
use Rattle.std.specs.Option.{option_map}
use Rattle.stamp_id.specs.VersionId.{id_bytes}
use Rattle.stamp_id.specs.declared.stamp.Ballot.{Ballot}
use Rattle.stamp_id.specs.declared.stamp.ChangeId.{ChangeId}
use Rattle.register_file.specs.declared.record.RegFile.{RegFile}
use Rattle.register_file.specs.declared.record.Base.{Base}
use Rattle.register_file.specs.declared.record.Next.{Next}
use Rattle.register_file.specs.declared.record.Adds.{Adds}

-- a term and a sequence number
pub record StampRow : Type 0 where
  pub term : ℕ
  pub seq : ℕ

-- a base
pub record BaseRow : Type 0 where
  pub ballot : StampRow
  pub change : StampRow
  pub content : List ℕ

-- the data that a change adds
pub record AddsRow : Type 0 where
  pub id : List ℕ
  pub print : List ℕ

-- a next
pub record NextRow : Type 0 where
  pub ballot : StampRow
  pub change : StampRow
  pub parent : StampRow
  pub adds : Option AddsRow
  pub content : List ℕ

-- a record
pub record FileRow : Type 0 where
  pub base : BaseRow
  pub next : Option NextRow

-- the row of each part of a record, and of the whole
abbrev pub ballot_row : Ballot → StampRow
ballot_row ballot = record { term = ballot.term; seq = ballot.seq }

-- the numbers of a change
abbrev pub change_row : ChangeId → StampRow
change_row change = ballot_row change.0

-- what is spelled of a base
abbrev pub base_row : Base → BaseRow
base_row base = record { ballot = ballot_row base.ballot; change = change_row base.change; content = base.content }

-- what is spelled of the data that a change adds
abbrev pub adds_row : Adds → AddsRow
adds_row adds = record { id = id_bytes adds.id; print = adds.print }

-- what is spelled of a next
abbrev pub next_row : Next → NextRow
next_row next = record {
  ballot = ballot_row next.ballot;
  change = change_row next.change;
  parent = change_row next.parent;
  adds = option_map adds_row next.adds;
  content = next.content;
}

-- what is spelled of a record
abbrev pub row_of : RegFile → FileRow
row_of file = record { base = base_row file.base; next = option_map next_row file.next }
