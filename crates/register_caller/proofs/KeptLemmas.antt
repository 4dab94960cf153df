-- The file that lanes keep after a mark.
use Rattle.std.proofs.Common.{◌≡◌, ◌∙◌, ◌<◌, ◌≤◌, ◌^◌, ℕ, List, Some, None, Result, Ok, Err, length, sym, inl, inr, arith}
use Rattle.std.specs.Prelude.{IsTrue, slice_index_or, string_bytes}
use Rattle.std.specs.Int.{IsBitSet}
use Rattle.std.specs.Result.{IfOk}
use Rattle.call_types.specs.declared.why.FileKind.TheVariants.{Format}
use Rattle.call_types.specs.declared.why.Why.{Why}
use Rattle.call_types.specs.declared.why.Why.TheVariants.{Good, Failed, Damaged, Behind, Lacks}
use Rattle.drive_base.specs.declared.drive.Drive.{Ghosts}
use Rattle.register_core.specs.LaneWrites.{OnLane, Writes, WritesEach, letter_at}
use Rattle.register_core.specs.Loose.{loose_name}
use Rattle.register_core.specs.OnLanes.{AllTell, AreUnused}
use Rattle.register_core.specs.Proposals.{Marks}
use Rattle.register_core.specs.declared.drafts.Draft.{Draft}
use Rattle.register_core.specs.declared.faults.QuorumFault.{QuorumFault}
use Rattle.register_core.specs.declared.proposals.Prepared.{Prepared}
use Rattle.register_core.proofs.LaneLemmas.{none_set}
use Rattle.register_core.proofs.LoopLemmas.{in_place}
use Rattle.register_caller.specs.Steps.{GoodKeep}

lacks_not_good : Lacks Format ≡ Good → ⊥
lacks_not_good e = cc

module _ {D : Type 0} (ghosts : Ghosts D) where
  -- a write that succeeded on a lane that tells
  write_keeps : (name bytes : List ℕ) (term from to : ℕ) (why : Why) (old new : D) → to ≤ 2 ^ 64 → IsTrue (ghosts.tells old)
      → ((later : ℕ) → from ≤ later → later < 2 ^ 64 → (ghosts.files old).loose (loose_name term later) ≡ None)
      → Writes ghosts name bytes term from to why old new → why ≡ Good → (ghosts.files new).kept name ≡ Some bytes
  write_keeps name bytes term from to Good old new few tell unused wrote good =
      (in_place ghosts (loose_name term wrote.number) name bytes (ghosts.files old) (ghosts.files new)
      (wrote.leaves tell (unused wrote.number wrote.low (omega (arith, few, wrote.high))))).0
  write_keeps name bytes term from to (Failed before after) old new few tell unused wrote good = absurd cc
  write_keeps name bytes term from to (Damaged damage) old new few tell unused wrote good = absurd cc
  write_keeps name bytes term from to (Behind ballot) old new few tell unused wrote good = absurd cc
  write_keeps name bytes term from to (Lacks kind) old new few tell unused wrote good = absurd cc

  -- a lane that tells, and whose letter is good after a loop, keeps the file that was written
  lane_keeps : (out : ℕ) (name bytes : List ℕ) (term from to : ℕ) (letters : List Why) (k : ℕ) (why : Why) (old new : D) → to ≤ 2 ^ 64
      → ((IsBitSet out k → ⊥) → IsTrue (ghosts.tells old))
      → ((IsBitSet out k → ⊥) → (later : ℕ) → from ≤ later → later < 2 ^ 64 → (ghosts.files old).loose (loose_name term later) ≡ None)
      → OnLane ghosts out 0 name bytes term from to letters k why old new → why ≡ Good → (ghosts.files new).kept name ≡ Some bytes
  lane_keeps out name bytes term from to letters k why old new few tell unused on good = elim on [
    | inl gone ↦ absurd (lacks_not_good (sym gone.letter ∙ good))
    | inr (inl kept) ↦ elim kept.passed_is [ inl bit ↦ absurd (none_set k bit) | inr bad ↦ absurd (bad (sym kept.letter_is ∙ good)) ]
    | inr (inr done) ↦ write_keeps name bytes term from to why old new few (tell done.0.in_use) (unused done.0.in_use) done.1 good
  ]

  loop_keeps : (out : ℕ) (name bytes : List ℕ) (term from to : ℕ) (letters whys : List Why) (old new : List D) → to ≤ 2 ^ 64 → AllTell ghosts.tells out old
      → AreUnused ghosts.files out term from old → WritesEach ghosts out 0 name bytes term from to letters whys old new → GoodKeep ghosts name bytes whys new
  loop_keeps out name bytes term from to letters whys old new few tell unused wrote k d below good =
      let long = wrote.long in
      let here : k < length old = omega (arith, long, below) in
      lane_keeps out name bytes term from to letters k (letter_at whys k) (slice_index_or old k d) (slice_index_or new k d) few
      (λ in_use. tell k d here in_use) (λ in_use later from_it fits. unused k d later here in_use from_it fits) (wrote.each k d here) good

  -- so each lane does whose letter is good after a mark
  pub mark_keeps : (draft : Draft) (took : Prepared) (term from to : ℕ) (result : Result (List Why) QuorumFault) (later : Draft) (old new : List D) → to ≤ 2 ^ 64
      → AllTell ghosts.tells took.out old → AreUnused ghosts.files took.out term from old → Marks ghosts draft took term from to result later old new
      → IfOk result (λ whys. GoodKeep ghosts (string_bytes draft.name) draft.last.items whys new)
  mark_keeps draft took term from to (Ok whys) later old new few tell unused marks =
      loop_keeps took.out (string_bytes draft.name) draft.last.items term from to took.whys whys old new few tell unused marks.2
  mark_keeps draft took term from to (Err fault) later old new few tell unused marks = tt
