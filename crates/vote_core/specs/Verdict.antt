-- What may be concluded from the rows of a register's lanes, where w lanes must take a write and d must answer a read.
use Rattle.std.specs.Prelude.{◌≡◌, ◌≢◌, ◌⊎◌, ℕ, ◌+◌, ◌-◌, ◌<◌, ◌≤◌, Bool, true, false, List, length, count_by, slice_index_or}
use Rattle.std.specs.List.{IsFirstMaxByKey}
use Rattle.vote_core.specs.Row.{is_good, base_height, next_height, base_change, next_change, carries}
use Rattle.vote_core.specs.declared.row.Row.{Row}
use Rattle.vote_core.specs.declared.row.Row.TheVariants.{Bad}
use Rattle.vote_core.specs.declared.verdict.Verdict.{Verdict}
use Rattle.vote_core.specs.declared.verdict.Verdict.TheVariants.{TooFew, Settled, Pending}
use Rattle.vote_core.specs.declared.verdict.Onward.{Onward}
use Rattle.vote_core.specs.declared.verdict.Onward.TheVariants.{Forward, Undecided}

-- the row of a lane
abbrev pub row_at : List Row → ℕ → Row
row_at rows lane = slice_index_or rows lane Bad

-- how many rows are good
abbrev pub good_rows : List Row → ℕ
good_rows rows = count_by is_good rows

-- how many rows are not good
abbrev pub unread_rows : List Row → ℕ
unread_rows rows = length rows - good_rows rows

-- how many good rows have this change in base or next
abbrev pub holders : ℕ → List Row → ℕ
holders c rows = count_by (carries c) rows

-- the lane of least index whose base no other base is above
abbrev pub IsGreatestBase : List Row → ℕ → Type 0
IsGreatestBase rows lane = IsFirstMaxByKey base_height rows (length rows) lane

-- the lane of least index whose next no other next is above; any lane may be it where nothing is on its way
abbrev pub IsGreatestNext : List Row → ℕ → Type 0
IsGreatestNext rows lane = IsFirstMaxByKey next_height rows (length rows) lane

-- the base of one row has a change that nothing on its way may have replaced, where the next of the other row is the greatest: that next isn't above
-- the base, or carries the base's own change, or has a change that too few lanes can have
abbrev pub IsSettledAgainst : ℕ → List Row → Row → Row → Type 0
IsSettledAgainst w rows base next = (next_height next ≤ base_height base)
    ⊎ ((next_change next ≡ base_change base) ⊎ (holders (next_change next) rows + unread_rows rows < w))

-- the next of one row is above the base of the other and has another change, which w lanes may have
pub record IsPendingOver (w : ℕ) (rows : List Row) (base next : Row) : Type 0 where
  pub above : base_height base < next_height next
  pub other : next_change next ≢ base_change base
  pub enough : w ≤ holders (next_change next) rows + unread_rows rows

-- the verdict over rows
abbrev pub VerdictRule : ℕ → ℕ → List Row → Verdict → Type 0
VerdictRule w d rows (TooFew good) = (good_rows rows < d) × (good ≡ good_rows rows)
VerdictRule w d rows (Settled lane) = (d ≤ good_rows rows) × IsGreatestBase rows lane
    × ((next : ℕ) × IsGreatestNext rows next × IsSettledAgainst w rows (row_at rows lane) (row_at rows next))
VerdictRule w d rows (Pending base_lane lane k u) = (d ≤ good_rows rows) × IsGreatestBase rows base_lane × IsGreatestNext rows lane
    × IsPendingOver w rows (row_at rows base_lane) (row_at rows lane)
    × (k ≡ holders (next_change (row_at rows lane)) rows) × (u ≡ unread_rows rows)

-- what becomes of a pending change: it is completed exactly where it adds no data, or the manifests of its data verified on at least d data drives
abbrev pub OnwardRule : ℕ → Bool → ℕ → Onward → Type 0
OnwardRule d adds there Forward = (adds ≡ false) ⊎ (d ≤ there)
OnwardRule d adds there Undecided = (adds ≡ true) × (there < d)
