-- The claim, the log, the blocks and the drives of one call of a stage.
use Rattle.std.proofs.Common.{◌≡◌, ◌≢◌, ◌∙◌, ◌<◌, ℕ, zero, suc, List, [], ◌∷◌, ◌++◌, All, Some, cond, length, nat_eq, slice_index_or, string_bytes, inl, inr, refl, sym, ap, subst, arith, lit<}
use Rattle.std.specs.Prelude.{if◌then◌else◌}
use Rattle.std.proofs.lemmas.Bool.Decides.{eqb_tells}
use Rattle.std.proofs.lemmas.Bool.{cases_lt}
use Rattle.std.proofs.lemmas.List.Elements.{All-append}
use Rattle.std.proofs.lemmas.List.{get_or-map, get_or_past}
use Rattle.call_types.specs.declared.names.Key.{Key}
use Rattle.call_types.specs.declared.names.Mode.{Mode}
use Rattle.drive_base.specs.View.{blank_view, view, view_at, views}
use Rattle.drive_base.specs.declared.drive.Drive.{Ghosts}
use Rattle.drive_base.proofs.ViewLemmas.{length-views, view_at-views}
use Rattle.body_print.specs.Plans.{data_plan}
use Rattle.put_stage.specs.Cells.{DataCells}
use Rattle.put_stage.specs.TakenBodies.{HasTaken}
use Rattle.put_stage.specs.Work.{IsOfDrive}
use Rattle.put_stage.specs.declared.stage.Load.{Load}
use Rattle.put_stage.specs.declared.stage.Stage.{Stage}
use Rattle.stamp_id.specs.declared.version.VersionId.{VersionId}
use Rattle.slot_history.specs.Standing.{Flying}
use Rattle.slot_core.specs.declared.holding.Flight.{Flight}
use Rattle.receipts.specs.Events.{Event, IsQuiet, IsUntold, Log}
use Rattle.receipts.specs.Paying.{ChangesNothing}
use Rattle.receipts.proofs.GrowLemmas.{quiet_cuts, quiet_sections, quiet_untold}
use Rattle.op_steps.specs.Claims.{Claim, Expected, Staging}
use Rattle.op_steps.specs.Claims.Expected.{Exactly}
use Rattle.object_ops.specs.Put.{PutAsk}
use Rattle.object_ops.specs.PutStands.{HasLookedAt, HoldsPut, IsStageOf}
use Rattle.object_ops.proofs.PutWrites.{GoesOnWith}
use Rattle.object_ops.proofs.ReadingTell.{one_all}

-- ---- claims

-- a claim with another stage
abbrev pub with_stage : Claim → Staging → Claim
with_stage claim staging = record { slot = claim.slot; flight = claim.flight; pin = claim.pin; stage = Some staging; taken = claim.taken; known = claim.known }

pub held_with : (at : Key) (flight : Flight) (claim : Claim) (staging : Staging) → HoldsPut at flight claim → HoldsPut at flight (with_stage claim staging)
held_with at flight claim staging x = record {
  slot_is = x.slot_is;
  of_slot = x.of_slot;
  flight_is = x.flight_is;
  pinless = x.pinless;
  none_taken = x.none_taken;
  none_known = x.none_known;
}

pub goes_with : (claim : Claim) (staging : Staging) → GoesOnWith claim (with_stage claim staging)
goes_with claim staging = record { slot = refl; flight = refl; pin = refl; taken = refl; known = refl }

-- an id that is another
abbrev other_slot : ℕ → ℕ
other_slot zero = 1
other_slot (suc n) = 0

pub other_fits : (n : ℕ) → other_slot n < 64
other_fits zero = lit< tt
other_fits (suc n) = lit< tt

other_differs : (n : ℕ) → other_slot n ≢ n
other_differs zero same = absurd (omega (arith, same))
other_differs (suc n) same = absurd (omega (arith, same))

abbrev pub other_id : VersionId → VersionId
other_id id = record {
  change = id.change;
  slot = other_slot id.slot;
  slot_fits = other_fits id.slot;
  term_counts = id.term_counts;
  seq_counts = id.seq_counts;
}

pub other_apart : (id : VersionId) → other_id id ≢ id
other_apart id same = other_differs id.slot (ap (λ (x : VersionId). x.slot) same)

-- what is expected of a drive, where it has been called
abbrev pub expected_then : ℕ → DataCells → (ℕ → Expected) → ℕ → Expected
expected_then k cells expected j = if nat_eq j k then Exactly cells else expected j

pub expected_here : (k : ℕ) (cells : DataCells) (expected : ℕ → Expected) → expected_then k cells expected k ≡ Exactly cells
expected_here k cells expected = elim (eqb_tells k k) [
  | inl same ↦ ap (λ b. cond b (Exactly cells) (expected k)) same.0
  | inr apart ↦ absurd (apart.1 refl)
]

pub expected_other : (k j : ℕ) (cells : DataCells) (expected : ℕ → Expected) → j ≢ k → expected_then k cells expected j ≡ expected j
expected_other k j cells expected apart = elim (eqb_tells j k) [
  | inl same ↦ absurd (apart same.1)
  | inr differs ↦ ap (λ b. cond b (Exactly cells) (expected j)) differs.0
]

pub exactly_is : (a b : DataCells) → Exactly a ≡ Exactly b → a ≡ b
exactly_is a b e = cc

pub some_staging : (a b : Staging) → Some a ≡ Some b → a ≡ b
some_staging a b e = cc

pub some_flying : (a b : Flying) → Some a ≡ Some b → a ≡ b
some_flying a b e = cc

-- ---- the log, and the blocks that it has

-- the blocks of a drive's shard, whose table it has
pub drive_blocks : (load : Load) (body : List ℕ) (shards : List (List (List ℕ))) (k : ℕ) → k < load.set.drives → HasTaken load body shards
    → IsOfDrive load k (Some (slice_index_or shards k []))
drive_blocks load body shards k low taken = (
  taken.of_body,
  ap (λ l. slice_index_or l k []) taken.tables ∙ get_or-map _ shards k [] [] (let all = taken.are.count in omega (arith, all, low)),
)

-- quiet events keep what a put has looked at
pub looked_on : (bucket : List ℕ) (mode : Mode) (log : Log) (event : Event) → IsQuiet event → HasLookedAt bucket mode log → HasLookedAt bucket mode (log ++ event ∷ [])
looked_on bucket mode log event quiet x =
    let all = one_all IsQuiet event quiet in
    let same = quiet_sections log (event ∷ []) all in
    record {
      untold = All-append IsUntold log (event ∷ []) x.untold (quiet_untold (event ∷ []) all);
      uncut = quiet_cuts log (event ∷ []) all ∙ x.uncut;
      idle = subst (All ChangesNothing) (sym same) x.idle;
      look = x.look;
      sections = same ∙ x.sections;
      finds = x.finds;
    }

-- a stage with the same load is of the same put
pub stage_same : (ask : PutAsk) (flight other : Flight) (stage later : Stage) → later.load ≡ stage.load → other ≡ flight → IsStageOf ask flight stage
    → IsStageOf ask other later
stage_same ask flight other stage later load same x = record {
  set_is = ap (λ (l : Load). l.set) load ∙ (x.set_is ∙ sym (ap (λ (f : Flight). data_plan ask.set f.id) same));
  id_is = ap (λ (l : Load). l.names.id) load ∙ (x.id_is ∙ sym (ap (λ (f : Flight). f.id) same));
  name_is = ap (λ (l : Load). string_bytes l.name) load ∙ x.name_is;
  stated_is = ap (λ (l : Load). l.stated) load ∙ x.stated_is;
  long_is = ap (λ (l : Load). l.long) load ∙ x.long_is;
}

-- ---- the drives, as they are seen

module _ {D : Type 0} (ghosts : Ghosts D) (o : D) (old new : List D) (long : length new ≡ length old) where
  pub seen_old : (k : ℕ) → k < length old → view_at (views ghosts old) k ≡ view ghosts (slice_index_or old k o)
  seen_old k low = view_at-views ghosts old k o low

  pub seen_new : (k : ℕ) → k < length old → view_at (views ghosts new) k ≡ view ghosts (slice_index_or new k o)
  seen_new k low = view_at-views ghosts new k o (omega (arith, long, low))

  pub seen_same : (k : ℕ) → slice_index_or new k o ≡ slice_index_or old k o → view_at (views ghosts new) k ≡ view_at (views ghosts old) k
  seen_same k same = elim (cases_lt k (length old)) [
    | inl low ↦ seen_new k low ∙ (ap (view ghosts) same ∙ sym (seen_old k low))
    | inr high ↦ get_or_past (views ghosts new) k blank_view (let viewed = length-views ghosts new in omega (arith, viewed, long, high))
        ∙ sym (get_or_past (views ghosts old) k blank_view (let viewed = length-views ghosts old in omega (arith, viewed, high)))
  ]
