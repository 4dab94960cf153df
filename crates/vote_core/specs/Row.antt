-- What a row says, in numbers. A height is 0 where there is no record, else one more than the record's rank, so that
-- heights are in the order of ballots and below them all stands what isn't there.
use Rattle.std.specs.Prelude.{ℕ, ◌+◌, Bool, true, false, ◌==◌, ◌||◌, Option, None, Some}
use Rattle.stamp_id.specs.Rank.{rank_of, change_of}
use Rattle.vote_core.specs.declared.row.Row.{Row}
use Rattle.vote_core.specs.declared.row.Row.TheVariants.{Bad, Good}
use Rattle.vote_core.specs.declared.row.NextRow.{NextRow}

-- whether a good file was read
abbrev pub is_good : Row → Bool
is_good Bad = false
is_good (Good base change next) = true

-- the height of the base
abbrev pub base_height : Row → ℕ
base_height Bad = 0
base_height (Good base change next) = 1 + rank_of base

-- the height of what is on its way
abbrev pub height_of_next : Option NextRow → ℕ
height_of_next None = 0
height_of_next (Some next) = 1 + rank_of next.ballot

-- the height of a row's next
abbrev pub next_height : Row → ℕ
next_height Bad = 0
next_height (Good base change next) = height_of_next next

-- the base carries this change
abbrev pub base_carries : ℕ → Row → Bool
base_carries c Bad = false
base_carries c (Good base change next) = change_of change == c

-- what is on its way carries this change
abbrev pub carried_by_next : ℕ → Option NextRow → Bool
carried_by_next c None = false
carried_by_next c (Some next) = change_of next.change == c

-- the next carries this change
abbrev pub next_carries : ℕ → Row → Bool
next_carries c Bad = false
next_carries c (Good base change next) = carried_by_next c next

-- the row has this change in base or next
abbrev pub carries : ℕ → Row → Bool
carries c row = base_carries c row || next_carries c row

-- the change of the base, 0 where no good file was read
abbrev pub base_change : Row → ℕ
base_change Bad = 0
base_change (Good base change next) = change_of change

-- the change of what is on its way, 0 where nothing is
abbrev pub change_of_next : Option NextRow → ℕ
change_of_next None = 0
change_of_next (Some next) = change_of next.change

-- the change of a row's next
abbrev pub next_change : Row → ℕ
next_change Bad = 0
next_change (Good base change next) = change_of_next next
