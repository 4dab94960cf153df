-- Ballots as numbers.
use Rattle.std.specs.Prelude.{◌≡◌, ◌⊎◌, ◌<◌, ℕ, ◌+◌, ◌*◌, ◌^◌}
use Rattle.stamp_id.specs.declared.stamp.Ballot.{Ballot}
use Rattle.stamp_id.specs.declared.stamp.ChangeId.{ChangeId}

-- the rank of a ballot: ballots are ordered by term, then by sequence number, and so are their ranks
abbrev pub rank_of : Ballot → ℕ
rank_of ballot = ballot.term * 2 ^ 64 + ballot.seq

-- the number of a change: the rank of the ballot that it drew when it began
abbrev pub change_of : ChangeId → ℕ
change_of change = rank_of change.0

-- ballots of one rank are the same
abbrev pub RanksAreOneToOne : Type 0
RanksAreOneToOne = (a b : Ballot) → rank_of a ≡ rank_of b → a ≡ b

-- a ballot of a greater term, or of the same term and a greater sequence number, has the greater rank
abbrev pub RanksAreInOrder : Type 0
RanksAreInOrder = (a b : Ballot) → (a.term < b.term) ⊎ ((a.term ≡ b.term) × (a.seq < b.seq)) → rank_of a < rank_of b
