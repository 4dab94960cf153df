-- Ballots and their ranks.
use Rattle.std.proofs.Common.{◌≡◌, ◌⊎◌, ◌<◌, arith}
use Rattle.stamp_id.specs.Rank.{rank_of}
use Rattle.stamp_id.specs.declared.stamp.Ballot.{Ballot}
use Rattle.stamp_id.proofs.IdLemmas.{ballot_by_parts}

-- a later ballot has the greater rank
pub ranks_in_order : (a b : Ballot) → (a.term < b.term) ⊎ ((a.term ≡ b.term) × (a.seq < b.seq)) → rank_of a < rank_of b
ranks_in_order a b before = omega arith

-- ballots of one rank are the same
pub ranks_one_to_one : (a b : Ballot) → rank_of a ≡ rank_of b → a ≡ b
ranks_one_to_one a b same =
    let term : a.term ≡ b.term = omega arith in
    let seq : a.seq ≡ b.seq = omega arith in
    ballot_by_parts a b term seq
