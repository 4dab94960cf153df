-- A body that a put staged for the register of a key: what its drives were asked, and why some did not take it.
use Rattle.std.proofs.Common.{◌≡◌, ◌∙◌, ◌<◌, ◌≤◌, ℕ, true, [], ◌∷◌, inl, inr, length, map, ap, refl, subst, sym}
use Rattle.std.specs.Prelude.{Ok}
use Rattle.call_types.specs.Good.{good_count, is_good}
use Rattle.call_types.specs.declared.why.Why.{Why}
use Rattle.call_types.specs.declared.why.Why.TheVariants.{Good, Failed, Damaged, Behind, Lacks}
use Rattle.drive_base.specs.Plan.{data_drives, write_drives}
use Rattle.drive_base.specs.declared.plan.SetPlan.{SetPlan}
use Rattle.manifest_file.specs.Spelling.{file_of}
use Rattle.shard_file.specs.Shards.{root_of}
use Rattle.body_print.specs.Shards.{AreShards}
use Rattle.body_print.specs.Staging.{staging_calls}
use Rattle.put_stage.specs.Dues.{is_nothing}
use Rattle.put_stage.specs.Steps.{HasDone}
use Rattle.put_stage.specs.TakenBodies.{manifest_in}
use Rattle.put_stage.specs.Work.{due_at, why_at}
use Rattle.put_stage.specs.declared.dues.Due.{Due}
use Rattle.put_stage.specs.declared.dues.Due.TheVariants.{Block, Table, SyncShard, Manifest, SyncManifest, PlaceManifest, PlaceShard, Nothing}
use Rattle.put_stage.specs.declared.answers.Staged.{Staged}
use Rattle.put_stage.proofs.SoFarLemmas.{all_calls_are_staging}
use Rattle.receipts.specs.Events.{Log, body_of, calls_at}
use Rattle.receipts.specs.Letters.{StageLetter}
use Rattle.receipts.specs.Staging.{IsStaged, StagedLetter, Staging, manifest_under}
use Rattle.op_steps.specs.Claims.{Claim}
use Rattle.object_ops.specs.Put.{PutAsk}
use Rattle.object_ops.specs.PutOutcome.{Answers}
use Rattle.object_ops.specs.PutStands.{Stages}
use Rattle.object_ops.specs.PutTarget.{register_of}
use Rattle.object_ops.specs.declared.put_state.Work.{Work}

-- the one answer that no call is left
only_nothing : (due : Due) → is_nothing due ≡ true → due ≡ Nothing
only_nothing Block is = absurd cc
only_nothing Table is = absurd cc
only_nothing SyncShard is = absurd cc
only_nothing Manifest is = absurd cc
only_nothing SyncManifest is = absurd cc
only_nothing PlaceManifest is = absurd cc
only_nothing PlaceShard is = absurd cc
only_nothing Nothing is = refl

module _ (ask : PutAsk) (work : Work) (claim : Claim) (log : Log) (staged : Staged) (s : Stages ask work claim log) (whole : work.stage.load.left ≡ 0)
    (answers : Answers work.stage (Ok staged)) where
  -- all drives that did their calls did all
  has_done : HasDone work.stage
  has_done = elim answers.may.over [
    | inl other ↦ absurd (other.1.2 (answers.concludes.1 other.1.0 other.1.1))
    | inr done ↦ done
  ]

  abbrev staging : Staging
  staging = record { id = work.flight.id; body = body_of log; shards = s.shards }

  same_manifest : manifest_in work.stage.load (body_of log) s.shards ≡ manifest_under ask.set (register_of ask.target) work.flight.id (length (body_of log)) s.shards
  same_manifest = λ i. record {
    name = s.stage_of.name_is i;
    drives = (s.stage_of.set_is i).drives;
    parity = (s.stage_of.set_is i).parity;
    parts = record { id = s.stage_of.id_is i; length = length (body_of log); roots = map root_of s.shards } ∷ [];
  }

  -- the letter of each drive
  staged_letter : (k : ℕ) → k < ask.set.drives → (why : Why) → why_at work.stage k ≡ why → StageLetter ask.set work.flight.id log k why
      → StagedLetter ask.set (register_of ask.target) staging log k why
  staged_letter k below Good is used =
      let low = subst (λ (p : SetPlan). k < p.drives) (sym s.stage_of.set_is) below in
      let serves : is_good (why_at work.stage k) ≡ true = ap is_good is in
      let over = only_nothing (due_at work.stage k) (has_done k low serves) in
      let calls = all_calls_are_staging work.stage (body_of log) s.shards k (calls_at k log) s.taken whole serves over (s.called k below) in (
        used,
        record {
          pieces = calls.0;
          joined = calls.1;
          calls = calls.2 ∙ (λ i. staging_calls (s.stage_of.id_is i) calls.0 (file_of (same_manifest i)));
        },
      )
  staged_letter k below (Failed before after) is letter = letter
  staged_letter k below (Damaged damage) is letter = letter
  staged_letter k below (Behind ballot) is letter = letter
  staged_letter k below (Lacks kind) is letter = letter

  pub is_staged : IsStaged ask.set (register_of ask.target) work.flight.id (body_of log) log
  is_staged = record {
    shards = s.shards;
    are = subst (λ (p : SetPlan). AreShards p.drives (data_drives p.drives p.parity) (body_of log) s.shards) s.stage_of.set_is s.taken.are;
    whys = work.stage.whys;
    counted = work.stage.letters ∙ ap (λ (p : SetPlan). p.drives) s.stage_of.set_is;
    enough = subst (λ (p : SetPlan). write_drives p.drives p.parity ≤ good_count work.stage.whys) s.stage_of.set_is answers.concludes.0.enough;
    each = λ k below. staged_letter k below (why_at work.stage k) refl (s.letters k below);
  }
