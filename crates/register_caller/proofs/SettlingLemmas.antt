-- The premises of a forward, by what a look found pending.
use Rattle.std.proofs.Common.{◌≡◌, ◌<◌, ◌∙◌, ℕ, List, Option, Some, Result, map, ap, subst, inl, inr}
use Rattle.std.proofs.lemmas.List.Elements.{Contains-get_or}
use Rattle.call_types.specs.Good.{is_good}
use Rattle.drive_base.specs.declared.drive.Drive.{Ghosts}
use Rattle.drive_base.specs.Plan.{write_drives}
use Rattle.drive_base.specs.declared.plan.SetPlan.{SetPlan}
use Rattle.register_file.specs.declared.record.Next.{Next}
use Rattle.register_file.specs.declared.record.RegFile.{RegFile}
use Rattle.stamp_id.specs.Rank.{rank_of}
use Rattle.stamp_id.specs.declared.stamp.Ballot.{Ballot}
use Rattle.vote_core.specs.Lane.{Lane, blank_lane, lane_at}
use Rattle.vote_core.specs.Laws.{AboveLastIsFresh}
use Rattle.vote_core.specs.Row.{is_good as is_good_row}
use Rattle.vote_core.specs.Sound.{HoldsValue}
use Rattle.register_core.specs.Drafts.{IsDraftAfterLook, letters_for}
use Rattle.register_core.specs.LaneMoves.{MayPropose}
use Rattle.register_core.specs.Records.{again_of, base_of, next_of}
use Rattle.register_core.specs.Seen.{FindsValueOr, LookedSeen}
use Rattle.register_core.specs.declared.drafts.Draft.{Draft}
use Rattle.register_core.specs.declared.looks.Looked.{Looked}
use Rattle.register_caller.specs.BothWrites.{BothLeave, StaysOrSteps, WroteBoth}
use Rattle.register_caller.specs.Pending.{IsPending}
use Rattle.register_caller.proofs.CallingLemmas.{found_steps, may_forward, pending_found}

-- what a pending look found
found_pending : (c : ℕ) (content : List ℕ) (lanes : List Lane) (looked : Looked) (found : Next) → FindsValueOr (Some found) looked lanes c content
    → IsPending lanes c (next_of found)
found_pending c content lanes looked found (base_lane, lane, finds, base_is) = record {
  lane = lane_at lanes lane;
  there = Contains-get_or lanes lane blank_lane finds.next_read.there;
  has = finds.next_is;
  may = elim finds.found [
    | inl own ↦ inl own.same
    | inr other ↦ inr other.live
  ];
}

module _ {D : Type 0} (ghosts : Ghosts D) where
  -- what is known of both writes of a forward, on lanes that a look saw
  pub forward_seen : {T E : Type 0} → AboveLastIsFresh → (out term to : ℕ) (looked : Looked) (found : Next) (ballot : Ballot) (draft : Draft) (result : Result T E)
      (new : List D) (read : List (Option RegFile)) (lanes : List Lane) (last c : ℕ) (content : List ℕ)
      → looked.pending ≡ Some found → IsDraftAfterLook looked (again_of looked.base ballot found) draft
      → map is_good looked.whys ≡ map is_good_row looked.rows.items
      → LookedSeen (write_drives looked.set.drives looked.set.parity) read looked lanes
      → HoldsValue (write_drives looked.set.drives looked.set.parity) last lanes c content → last < rank_of ballot
      → (wrote : WroteBoth ghosts {T = T} {E = E} draft out term to looked.base (again_of looked.base ballot found) result new lanes)
      → BothLeave {T = T} {E = E} (write_drives looked.set.drives looked.set.parity) draft.letters (base_of looked.base) (next_of (again_of looked.base ballot found)) result lanes wrote.after
      × MayPropose (write_drives looked.set.drives looked.set.parity) last (rank_of ballot) lanes c content draft.letters (base_of looked.base)
      (next_of (again_of looked.base ballot found))
      × StaysOrSteps lanes c content (next_of (again_of looked.base ballot found)).change (next_of (again_of looked.base ballot found)).content
      × IsPending lanes c (next_of found)
  forward_seen {T} {E} above out term to looked found ballot draft result new read lanes last c content is drafted on seen holds low wrote =
      let w : ℕ = write_drives looked.set.drives looked.set.parity in
      let finds = pending_found looked looked.pending found lanes c content is (seen.value last c content holds).finds in (
        subst (λ (s : SetPlan). BothLeave {T = T} {E = E} (write_drives s.drives s.parity) draft.letters (base_of looked.base) (next_of (again_of looked.base ballot found)) result lanes wrote.after)
            drafted.set wrote.leaves,
        may_forward above w last c content lanes looked found ballot draft.letters holds low finds
            (ap (map is_good) (drafted.letters ∙ ap (λ (p : Option Next). letters_for p looked.whys looked.set.drives) is) ∙ on),
        found_steps w last c content lanes looked found ballot holds finds,
        found_pending c content lanes looked found finds,
      )
