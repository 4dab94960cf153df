-- Lanes of a slot through looks and writes of one register.
use Rattle.std.proofs.Common.{◌≡◌, ◌<◌, ◌∙◌, ℕ, List, Option, false, cond, length, bytes_eq, ap, subst, sym, refl, inl, inr, arith}
use Rattle.std.specs.Prelude.{Bool, slice_index_or}
use Rattle.std.specs.Int.{IsBitSet}
use Rattle.std.proofs.lemmas.Bool.{cond-true, cond-false}
use Rattle.std.proofs.lemmas.Slice.Eq.{bytes_eq-Decides}
use Rattle.drive_base.specs.declared.drive.Drive.{Ghosts}
use Rattle.drive_base.specs.Files.{Files}
use Rattle.vote_core.specs.Lane.{Lane, lane_at}
use Rattle.register_core.specs.LaneWrites.{KeepsDrives}
use Rattle.register_core.specs.Loose.{loose_name}
use Rattle.register_core.specs.OnLanes.{AllTell, AreHonest, AreLanes, AreUnused}
use Rattle.register_core.specs.Records.{HasLane, IsHonest}
use Rattle.register_caller.proofs.CallingLemmas.{lanes_after_look, tell_after, unused_after_look}
use Rattle.register_caller.proofs.StepLemmas.{keeps_after_look}
use Rattle.slot_history.specs.Standing.{Flying, Records}
use Rattle.slot_history.specs.State.{State}
use Rattle.slot_history.specs.Writing.{WritesUnder}
use Rattle.slot_history.proofs.MemberLemmas.{same_or_other}
use Rattle.slot_core.proofs.LooseLemmas.{loose_terms_differ}
use Rattle.slot_core.specs.Standing.{LanesHave, SlotStands}
use Rattle.slot_core.specs.Views.{SlotNumbers}
use Rattle.slot_core.specs.LanesStay.{FilesStay, TellsStay}

-- lanes put under a name
abbrev pub with_lanes : List ℕ → List Lane → Records → Records
with_lanes name after old other = cond (bytes_eq name other) after (old other)

pub with_lanes_writes : (name : List ℕ) (after : List Lane) (old : Records) → WritesUnder name after old (with_lanes name after old)
with_lanes_writes name after old = record {
  is = cond-true (bytes_eq name name) after (old name) ((bytes_eq-Decides name name).1 refl);
  stays = λ other differs. cond-false (bytes_eq name other) after (old other) differs;
}

-- lanes whose place stays are so under every name
pub lanes_stay : (out : ℕ) (name : List ℕ) (after : List Lane) (records : Records) → ((k : ℕ) → IsBitSet out k → lane_at after k ≡ lane_at (records name) k)
    → (other : List ℕ) (k : ℕ) → IsBitSet out k → lane_at (with_lanes name after records other) k ≡ lane_at (records other) k
lanes_stay out name after records stay other k is_out =
    let writes = with_lanes_writes name after records in
    elim (same_or_other name other) [
      | inl same ↦
          let here : lane_at (with_lanes name after records name) k ≡ lane_at (records name) k = ap (λ (l : List Lane). lane_at l k) writes.is ∙ stay k is_out in
          subst (λ (n : List ℕ). lane_at (with_lanes name after records n) k ≡ lane_at (records n) k) same here
      | inr differs ↦ ap (λ (l : List Lane). lane_at l k) (writes.stays other differs)
    ]

-- other numbers of a slot: so many sections were done
abbrev pub with_turns : SlotNumbers → ℕ → SlotNumbers
with_turns numbers turns = record { set = numbers.set; index = numbers.index; term = numbers.term; turns = turns; seq = numbers.seq; count = numbers.count }

-- so many numbers were drawn
abbrev pub with_drawn : SlotNumbers → ℕ → ℕ → SlotNumbers
with_drawn numbers seq count = record { set = numbers.set; index = numbers.index; term = numbers.term; turns = numbers.turns; seq = seq; count = count }

module _ {D : Type 0} (tells : D → Bool) (files : D → Files) where
  -- what lanes stand for doesn't go by how many sections were done
  pub stands_turned : (numbers : SlotNumbers) (turns : ℕ) (flights : List Flying) (lanes : List D) (records : Records) (state : State)
      → SlotStands tells files numbers flights lanes records state → SlotStands tells files (with_turns numbers turns) flights lanes records state
  stands_turned numbers turns flights lanes records state s = record {
    have = record { tell = s.have.tell; unused = s.have.unused; unused_later = s.have.unused_later; honest = s.have.honest; are = s.have.are };
    stands = s.stands;
  }

module _ {D : Type 0} (ghosts : Ghosts D) where
  -- lanes that were looked at keep what they kept
  pub have_after_look : (numbers : SlotNumbers) (old new : List D) (records : Records) → length new ≡ length old → FilesStay ghosts old new
      → TellsStay ghosts old new → LanesHave ghosts.tells ghosts.files numbers old records → LanesHave ghosts.tells ghosts.files numbers new records
  have_after_look numbers old new records long stay tells_stay have = record {
    tell = tell_after ghosts.tells ghosts.files numbers.set.out old new long tells_stay have.tell;
    unused = unused_after_look ghosts.tells ghosts.files numbers.set.out numbers.term numbers.count old new long stay have.tell have.unused;
    unused_later = λ term above fits. unused_after_look ghosts.tells ghosts.files numbers.set.out term 0 old new long stay have.tell (have.unused_later term above fits);
    honest = λ name. (keeps_after_look ghosts numbers.set.out name numbers.term numbers.count old new long stay have.tell have.unused).honest (have.honest name);
    are = λ name. lanes_after_look ghosts.tells ghosts.files numbers.set.out name old new (records name) long stay have.tell (have.are name);
  }

  -- those of another name keep theirs through a write
  lanes_elsewhere : (out term from to : ℕ) (name other : List ℕ) (old new : List D) (lanes : List Lane) → length new ≡ length old
      → KeepsDrives ghosts out name term from to old new → bytes_eq name other ≡ false → AreLanes ghosts.files out other old lanes → AreLanes ghosts.files out other new lanes
  lanes_elsewhere out term from to name other old new lanes long keeps differs are = record {
    counted = are.counted ∙ sym long;
    each = λ k d below in_use. let low : k < length old = omega arith in
        subst (λ (f : Option (List ℕ)). HasLane f (lane_at lanes k)) (sym (keeps.others k d other low in_use differs).0) (are.each k d low in_use);
  }

  honest_elsewhere : (out term from to : ℕ) (name other : List ℕ) (old new : List D) → length new ≡ length old
      → KeepsDrives ghosts out name term from to old new → bytes_eq name other ≡ false → AreHonest ghosts.files out other old → AreHonest ghosts.files out other new
  honest_elsewhere out term from to name other old new long keeps differs honest k d below in_use =
      let low : k < length old = omega arith in
      let same = keeps.others k d other low in_use differs in
      subst (λ (f : Option (List ℕ)). IsHonest f ((ghosts.files (slice_index_or new k d)).shown other)) (sym same.0)
      (subst (λ (f : Option (List ℕ)). IsHonest ((ghosts.files (slice_index_or old k d)).kept other) f) (sym same.1) (honest k d low in_use))

  -- lanes of which one register was written
  pub have_after_write : (numbers : SlotNumbers) (seq to : ℕ) (name : List ℕ) (old new : List D) (records : Records) (after : List Lane) → length new ≡ length old
      → LanesHave ghosts.tells ghosts.files numbers old records → AllTell ghosts.tells numbers.set.out new → AreUnused ghosts.files numbers.set.out numbers.term to new
      → AreLanes ghosts.files numbers.set.out name new after → KeepsDrives ghosts numbers.set.out name numbers.term numbers.count to old new
      → LanesHave ghosts.tells ghosts.files (with_drawn numbers seq to) new (with_lanes name after records)
  have_after_write numbers seq to name old new records after long have told unused are keeps =
      let out : ℕ = numbers.set.out in
      let writes = with_lanes_writes name after records in
      record {
        tell = told;
        unused = unused;
        unused_later = λ term above fits k d later within used low small. let before : k < length old = omega arith in
            keeps.loose k d (loose_name term later) before used (λ number from below. loose_terms_differ numbers.term term number later (omega arith) fits (λ same. omega (arith, same)))
            ∙ have.unused_later term above fits k d later before used low small;
        honest = λ other. elim (same_or_other name other) [
          | inl same ↦ subst (λ (n : List ℕ). AreHonest ghosts.files out n new) same (keeps.honest (have.honest name))
          | inr differs ↦ honest_elsewhere out numbers.term numbers.count to name other old new long keeps differs (have.honest other)
        ];
        are = λ other. elim (same_or_other name other) [
          | inl same ↦ subst (λ (n : List ℕ). AreLanes ghosts.files out n new (with_lanes name after records n)) same
              (subst (λ (l : List Lane). AreLanes ghosts.files out name new l) (sym writes.is) are)
          | inr differs ↦ subst (λ (l : List Lane). AreLanes ghosts.files out other new l) (sym (writes.stays other differs))
              (lanes_elsewhere out numbers.term numbers.count to name other old new (records other) long keeps differs (have.are other))
        ];
      }
