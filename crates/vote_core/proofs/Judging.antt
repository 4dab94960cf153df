-- What a look over sound lanes finds.
use Rattle.std.proofs.Common.{◌≡◌, ◌≢◌, ◌<◌, ◌≤◌, ◌+◌, ℕ, true, List, length, sym, ◌∙◌, inl, inr, arith}
use Rattle.std.proofs.lemmas.Bool.{cases_eq}
use Rattle.vote_core.specs.Row.{base_height, next_height, next_change, carries}
use Rattle.vote_core.specs.Lane.{Lane, Next, HasNext, lane_at, backs}
use Rattle.vote_core.specs.Sound.{HoldsValue}
use Rattle.vote_core.specs.Shown.{ShowLanes, Overlap, IsRead, NoneReads, FindsOther, FindsPending, FindsSettled}
use Rattle.vote_core.specs.Verdict.{row_at, good_rows, unread_rows, holders, IsGreatestBase, IsGreatestNext, IsSettledAgainst, IsPendingOver}
use Rattle.vote_core.specs.declared.row.Row.{Row}
use Rattle.vote_core.specs.declared.row.Row.TheVariants.{Bad}
use Rattle.vote_core.proofs.Members.{member_at}
use Rattle.vote_core.proofs.Backing.{backs_cases}
use Rattle.vote_core.proofs.Counting.{meets, holds_on_good}
use Rattle.vote_core.proofs.Showing.{shown_length, reads_at, good_by_base, good_by_next, carries_backed}

-- a look over sound lanes in which enough files were good
pub record IsLook (w d last c : ℕ) (content : List ℕ) (lanes : List Lane) (rows : List Row) : Type 0 where
  pub quorums : Overlap (length lanes) w d
  pub holds : HoldsValue w last lanes c content
  pub shown : ShowLanes rows lanes
  pub enough : d ≤ good_rows rows

-- some lane that was read backs the value under its greatest base's ballot
backing_read : (w d last c : ℕ) (content : List ℕ) (lanes : List Lane) (rows : List Row) (look : IsLook w d last c content lanes rows)
    → (k : ℕ) × IsRead rows lanes k × (backs c look.holds.sound.value.lane.base.ballot (lane_at lanes k) ≡ true)
backing_read w d last c content lanes rows look =
    let value = look.holds.sound.value in
    let backed = look.holds.sound.backed value.lane value.top.there value.carries in
    let overlap = look.quorums in
    let enough = look.enough in
    elim (meets (backs c value.lane.base.ballot) rows lanes (shown_length rows lanes look.shown)) [
      | inl found ↦ found
      | inr few ↦ absurd (omega arith)
    ]

-- the greatest base stands on a lane that was read
base_read : (w d last c : ℕ) (content : List ℕ) (lanes : List Lane) (rows : List Row) (b : ℕ) → IsLook w d last c content lanes rows → IsGreatestBase rows b
    → IsRead rows lanes b
base_read w d last c content lanes rows b look greatest =
    let some = backing_read w d last c content lanes rows look in
    let same = shown_length rows lanes look.shown in
    let its = reads_at rows lanes some.0 look.shown some.1 in
    let up : base_height (row_at rows some.0) ≤ base_height (row_at rows b) = greatest.1 some.0 Bad (omega (arith, some.1.there)) in
    let height = its.base_up in
    record { there = omega (arith, greatest.0); good = good_by_base (row_at rows b) (omega arith) }

-- where the greatest base doesn't carry the value's change, no base that was read does
hidden : (w d last c : ℕ) (content : List ℕ) (lanes : List Lane) (rows : List Row) (b : ℕ) → IsLook w d last c content lanes rows → IsGreatestBase rows b
    → (lane_at lanes b).base.change ≢ c → NoneReads rows lanes c
hidden w d last c content lanes rows b look greatest other = λ k read same.
    let at_b = base_read w d last c content lanes rows b look greatest in
    let long = shown_length rows lanes look.shown in
    let below = look.holds.sound.below (lane_at lanes k) (lane_at lanes b) (member_at lanes k read.there) (member_at lanes b at_b.there) same other in
    let one = (reads_at rows lanes k look.shown read).base_up in
    let two = (reads_at rows lanes b look.shown at_b).base_up in
    let up : base_height (row_at rows k) ≤ base_height (row_at rows b) = greatest.1 k Bad (omega (arith, read.there)) in
    omega arith

-- what the greatest next is, where the greatest base doesn't carry the value's change
record FindsHidden (w c : ℕ) (lanes : List Lane) (rows : List Row) (b m : ℕ) : Type 0 where
  read : IsRead rows lanes m
  next : Next
  next_is : HasNext (lane_at lanes m) next
  same : next.change ≡ c
  above : base_height (row_at rows b) < next_height (row_at rows m)
  enough : w ≤ holders c rows + unread_rows rows

-- it carries the value's change, and enough lanes may have it
found_hidden : (w d last c : ℕ) (content : List ℕ) (lanes : List Lane) (rows : List Row) (b m : ℕ) → IsLook w d last c content lanes rows → IsGreatestBase rows b
    → IsGreatestNext rows m → (lane_at lanes b).base.change ≢ c → FindsHidden w c lanes rows b m
found_hidden w d last c content lanes rows b m look greatest newest other =
    let long = shown_length rows lanes look.shown in
    let value = look.holds.sound.value in
    let none = hidden w d last c content lanes rows b look greatest other in
    let at_b = base_read w d last c content lanes rows b look greatest in
    let below = look.holds.sound.below value.lane (lane_at lanes b) value.top.there (member_at lanes b at_b.there) value.carries other in
    let two = (reads_at rows lanes b look.shown at_b).base_up in
    let some = backing_read w d last c content lanes rows look in
    elim (backs_cases c value.lane.base.ballot (lane_at lanes some.0) some.2) [
      | inl by_base ↦ absurd (none some.0 some.1 by_base)
      | inr by_next ↦
          let its = (reads_at rows lanes some.0 look.shown some.1).next_up by_next.0 by_next.1 in
          let not_below = by_next.3 in
          let up : next_height (row_at rows some.0) ≤ next_height (row_at rows m) = newest.1 some.0 Bad (omega (arith, some.1.there)) in
          let good = good_by_next (row_at rows m) (omega arith) in
          let read : IsRead rows lanes m = record { there = omega (arith, newest.0); good = good } in
          let shows = reads_at rows lanes m look.shown read in
          let there = shows.next_there (omega arith) in
          let height = shows.next_up there.0 there.1 in
          let backed = look.holds.sound.backed value.lane value.top.there value.carries in
          let held = holds_on_good (backs c value.lane.base.ballot) (carries c) (carries_backed c value.lane.base.ballot) rows lanes look.shown in
          elim (look.holds.sound.accounted (lane_at lanes m) there.0 (member_at lanes m read.there) there.1) [
            | inl same ↦ record { read = read; next = there.0; next_is = there.1; same = same; above = omega arith; enough = omega arith }
            | inr rest ↦ elim rest [
              | inl live ↦ absurd (none m read live.base)
              | inr dead ↦ let low = dead value.lane value.top.there value.carries in absurd (omega arith)
            ]
          ]
    ]

-- a verdict that is settled has read the value
pub settled_value : (w d last c : ℕ) (content : List ℕ) (lanes : List Lane) (rows : List Row) (b m : ℕ) → IsLook w d last c content lanes rows → IsGreatestBase rows b
    → IsGreatestNext rows m → IsSettledAgainst w rows (row_at rows b) (row_at rows m) → FindsSettled rows lanes c content b
settled_value w d last c content lanes rows b m look greatest newest settles =
    let read = base_read w d last c content lanes rows b look greatest in
    let shows = reads_at rows lanes b look.shown read in
    elim (cases_eq (lane_at lanes b).base.change c) [
      | inl same ↦ record { read = read; change_is = same; content_is = look.holds.contents (lane_at lanes b) (member_at lanes b read.there) same }
      | inr other ↦
          let found = found_hidden w d last c content lanes rows b m look greatest newest other in
          let above = found.above in
          let enough = found.enough in
          let its = (reads_at rows lanes m look.shown found.read).next_same found.next found.next_is in
          let carried : next_change (row_at rows m) ≡ c = its ∙ found.same in
          absurd (elim settles [
            | inl low ↦ omega arith
            | inr more ↦ elim more [
              | inl own ↦ other (sym shows.base_same ∙ (sym own ∙ carried))
              | inr few ↦ let few_of_c : holders c rows + unread_rows rows < w = rw carried at few in omega arith
            ]
          ])
    ]

-- a verdict that is pending has found the value's change, or one that may become the value
pub pending_found : (w d last c : ℕ) (content : List ℕ) (lanes : List Lane) (rows : List Row) (b m : ℕ) → IsLook w d last c content lanes rows → IsGreatestBase rows b
    → IsGreatestNext rows m → IsPendingOver w rows (row_at rows b) (row_at rows m) → (next : Next) × FindsPending rows lanes c b m next
pending_found w d last c content lanes rows b m look greatest newest pending =
    let long = shown_length rows lanes look.shown in
    let read = base_read w d last c content lanes rows b look greatest in
    let shows = reads_at rows lanes b look.shown read in
    elim (cases_eq (lane_at lanes b).base.change c) [
      | inl same ↦
          let above = pending.above in
          let good = good_by_next (row_at rows m) (omega arith) in
          let at_m : IsRead rows lanes m = record { there = omega (arith, newest.0); good = good } in
          let told = reads_at rows lanes m look.shown at_m in
          let there = told.next_there (omega arith) in
          let height = told.next_up there.0 there.1 in
          let carried = told.next_same there.0 there.1 in
          let base = shows.base_up in
          let found = elim (look.holds.sound.accounted (lane_at lanes m) there.0 (member_at lanes m at_m.there) there.1) as (λ _. FindsOther lanes c (lane_at lanes b) (lane_at lanes m) there.0) [
            | inl value ↦ absurd (pending.other (carried ∙ (value ∙ (sym same ∙ sym shows.base_same))))
            | inr rest ↦ elim rest [
              | inl live ↦ record { value = same; live = live }
              | inr dead ↦ let low = dead (lane_at lanes b) (member_at lanes b read.there) same in absurd (omega arith)
            ]
          ] in
          (there.0, record { base_read = read; next_read = at_m; next_is = there.1; found = inr found })
      | inr other ↦
          let found = found_hidden w d last c content lanes rows b m look greatest newest other in (
            found.next,
            record {
              base_read = read;
              next_read = found.read;
              next_is = found.next_is;
              found = inl (record { same = found.same; hidden = hidden w d last c content lanes rows b look greatest other });
            },
          )
    ]
