-- Lanes that serve both writes: what makes sure of one call makes sure of the next.
use Rattle.std.proofs.Common.{◌≡◌, ◌<◌, ◌≤◌, ◌^◌, ℕ, List, length, refl, subst, sym, inl, inr, arith}
use Rattle.std.specs.Prelude.{IsTrue, slice_index_or}
use Rattle.std.specs.Int.{IsBitSet}
use Rattle.std.specs.Int.Bits.{and_zero_l}
use Rattle.fault_base.specs.Counts.{Rose}
use Rattle.call_types.specs.declared.why.Why.{Why}
use Rattle.call_types.specs.declared.why.Why.TheVariants.{Good, Failed, Damaged, Behind, Lacks}
use Rattle.drive_base.specs.declared.drive.Drive.{Ghosts}
use Rattle.drive_base.specs.View.{AllGoOn, views}
use Rattle.register_core.specs.LaneWrites.{OnLane, Writes, WritesEach, letter_at}
use Rattle.register_core.proofs.ViewedLemmas.{counts_on, tells_on}
use Rattle.register_core.specs.ServingLanes.{AllServe, Serves}

-- a count that rose in the first part of a call rose over the whole
rose_first : (old mid new : ℕ) → mid ≤ new → Rose old mid → Rose old new
rose_first old mid new up (low, inl above) = (omega arith, inl (omega arith))
rose_first old mid new up (low, inr top) = (omega arith, inr (omega arith))

-- and so did one that rose in the last part
rose_last : (old mid new : ℕ) → old ≤ mid → Rose mid new → Rose old new
rose_last old mid new up (low, inl above) = (omega arith, inl (omega arith))
rose_last old mid new up (low, inr top) = (omega arith, inr top)

-- no bit of 0 is set
none_set : (k : ℕ) → IsBitSet 0 k → ⊥
none_set k set = set (and_zero_l (2 ^ k))

module _ {D : Type 0} (ghosts : Ghosts D) where
  -- a lane that tells and had no fault took a write
  write_is_good : (name bytes : List ℕ) (term from to : ℕ) (why : Why) (old new : D) → Writes ghosts name bytes term from to why old new
      → IsTrue (ghosts.tells old) → ¬ Rose (ghosts.count old) (ghosts.count new) → why ≡ Good
  write_is_good name bytes term from to Good old new wrote told calm = refl
  write_is_good name bytes term from to (Failed before after) old new wrote told calm = absurd (calm wrote.cause.2)
  write_is_good name bytes term from to (Damaged damage) old new wrote told calm = absurd wrote.cause
  write_is_good name bytes term from to (Behind n) old new wrote told calm = absurd wrote.cause
  write_is_good name bytes term from to (Lacks kind) old new wrote told calm = absurd (wrote.cause.1 told)

  -- a lane that serves takes the write of a loop
  lane_is_good : (out : ℕ) (name bytes : List ℕ) (term from to : ℕ) (letters : List Why) (k : ℕ) (why : Why) (old new : D)
      → OnLane ghosts out 0 name bytes term from to letters k why old new → Serves ghosts out k old new → letter_at letters k ≡ Good → why ≡ Good
  lane_is_good out name bytes term from to letters k why old new on serves good = elim on [
    | inl gone ↦ absurd (serves.in_use gone.out_is)
    | inr (inl kept) ↦ elim kept.passed_is [ inl bit ↦ absurd (none_set k bit) | inr bad ↦ absurd (bad good) ]
    | inr (inr done) ↦ write_is_good name bytes term from to why old new done.1 serves.told serves.calm
  ]

  -- lanes that serve two calls serve the second
  pub serve_after : (out serving : ℕ) (letters : List Why) (old mid new : List D) → length mid ≡ length old
      → AllGoOn (views ghosts old) (views ghosts mid) → AllServe ghosts out serving letters old new → AllServe ghosts out serving letters mid new
  serve_after out serving letters old mid new long first serve k d low bit =
      let here : k < length old = omega arith in
      let lane = serve k d here bit in (
        record {
          in_use = lane.0.in_use;
          told = subst IsTrue (sym (tells_on ghosts old mid first k d here)) lane.0.told;
          calm = λ rose. lane.0.calm (rose_last (ghosts.count (slice_index_or old k d)) (ghosts.count (slice_index_or mid k d)) (ghosts.count (slice_index_or new k d)) (counts_on ghosts old mid first k d here) rose);
        },
        lane.1,
      )

  -- and their letters after a proposal are good
  pub serve_mark : (out serving : ℕ) (name bytes : List ℕ) (term from to : ℕ) (letters whys : List Why) (old mid new : List D) → length mid ≡ length old
      → WritesEach ghosts out 0 name bytes term from to letters whys old mid
      → AllGoOn (views ghosts old) (views ghosts mid) → AllGoOn (views ghosts mid) (views ghosts new)
      → AllServe ghosts out serving letters old new → AllServe ghosts out serving whys mid new
  serve_mark out serving name bytes term from to letters whys old mid new long wrote first second serve k d low bit =
      let here : k < length old = omega arith in
      let lane = serve k d here bit in
      let one : Serves ghosts out k (slice_index_or old k d) (slice_index_or mid k d) = record {
        in_use = lane.0.in_use;
        told = lane.0.told;
        calm = λ rose. lane.0.calm (rose_first (ghosts.count (slice_index_or old k d)) (ghosts.count (slice_index_or mid k d)) (ghosts.count (slice_index_or new k d)) (counts_on ghosts mid new second k d low) rose);
      } in (
        (serve_after out serving letters old mid new long first serve k d low bit).0,
        lane_is_good out name bytes term from to letters k (letter_at whys k) (slice_index_or old k d) (slice_index_or mid k d) (wrote.each k d here) one lane.1,
      )
