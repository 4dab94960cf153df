-- What an opened slot stands for.
use Rattle.std.specs.Prelude.{ℕ, ◌+◌, ◌-◌, ◌≤◌, ◌==◌, Bool, true, false, cond, List, [], Option, replicate}
use Rattle.std.proofs.Common.{sym, subst, arith}
use Rattle.audit_trail.specs.declared.entry.Entry.{Entry}
use Rattle.drive_base.specs.Files.{Files}
use Rattle.drive_base.specs.Plan.{data_drives, write_drives}
use Rattle.vote_core.specs.Lane.{blank_lane}
use Rattle.slot_data.specs.Holding.{Holding}
use Rattle.slot_history.specs.Laws.{FreshStand}
use Rattle.slot_history.specs.State.{no_state}
use Rattle.slot_core.specs.Opening.{FreshSlotStands, OpenedSlotStands, opened_numbers}
use Rattle.slot_core.specs.Standing.{SlotStands}
use Rattle.slot_core.specs.Views.{SlotNumbers, holding_of, lanes_of, last_of, quorum_of}

pub opened_stands : {D A : Type 0} (entries : A → Option (List Entry)) (count : A → ℕ) (tells : D → Bool) (files : D → Files)
    → OpenedSlotStands entries count tells files
opened_stands {D} {A} entries count tells files set index term parts slot records state is have stands =
    subst (λ (n : SlotNumbers). SlotStands tells files n (holding_of slot).flights (lanes_of slot) records state) (sym is.numbers)
    (subst (λ (h : Holding). SlotStands tells files (opened_numbers set index term) h.flights (lanes_of slot) records state) (sym is.holding)
    (subst (λ (l : List D). SlotStands tells files (opened_numbers set index term) [] l records state) (sym is.lanes)
    (record { have = have; stands = stands })))

-- a write needs some lane, and no more than there are
quorum_bounds : (n p : ℕ) → 4 ≤ n → 1 ≤ p → p + p ≤ n → (1 ≤ write_drives n p) × (write_drives n p ≤ n)
quorum_bounds n p many some half = at (data_drives n p == p)
  where
    at : (b : Bool) → (1 ≤ cond b (n - p + 1) (n - p)) × (cond b (n - p + 1) (n - p) ≤ n)
    at true = (omega arith, omega arith)
    at false = (omega arith, omega arith)

pub fresh_stands : {D A : Type 0} (entries : A → Option (List Entry)) (count : A → ℕ) (tells : D → Bool) (files : D → Files)
    → FreshStand → FreshSlotStands entries count tells files
fresh_stands entries count tells files fresh set index term parts slot is have =
    let bounds = quorum_bounds set.drives set.parity set.enough_drives set.some_parity set.half_at_most in
    let many = set.enough_drives in
    opened_stands entries count tells files set index term parts slot (λ name. replicate set.drives blank_lane) no_state is have
    (fresh (quorum_of (opened_numbers set index term)) set.drives (last_of (opened_numbers set index term)) (omega arith) bounds.0 bounds.1)
