-- The data of a slot stands while ops of other slots write and remove.
use Rattle.std.proofs.Common.{◌≡◌, ◌≢◌, inl, inr, ℕ, List, refl, sym, subst, ◌∙◌}
use Rattle.stamp_id.specs.declared.version.VersionId.{VersionId}
use Rattle.drive_base.specs.Plan.{write_drives}
use Rattle.drive_base.specs.declared.plan.SetPlan.{SetPlan}
use Rattle.manifest_file.specs.declared.manifest.Manifest.{Manifest}
use Rattle.slot_history.specs.Contents.{NamedData}
use Rattle.slot_history.specs.Standing.{Records}
use Rattle.slot_history.specs.State.{State}
use Rattle.slot_data.specs.DiskLaws.{ElsewhereIsWritten, OnlyUnder}
use Rattle.slot_data.specs.Disks.{Disks, HasHolders, HasPart, IsPieceOf, Keeps}
use Rattle.slot_data.specs.Holding.{Hands, Holding}
use Rattle.slot_data.specs.Moves.{LanesStand}
use Rattle.slot_data.specs.Standing.{DataStands, IsListed, RecordNames}
use Rattle.slot_data.proofs.DiskLemmas.{holders_stay, keeps_before, manifest_stays, piece_before, same_or_apart, shard_stays}
use Rattle.slot_data.proofs.NamingLemmas.{record_names_id, record_of_coming, record_of_named}
use Rattle.slot_data.proofs.StayLemmas.{data_stays}

module _ (set : SetPlan) (slot last : ℕ) (records : Records) (state : State) (holding : Holding) (old new : Disks) (hands : Hands) (other : VersionId)
    (stands : LanesStand set last holding records state) (wrong : other.slot ≢ slot) (only : OnlyUnder set other old new)
    (piece_was : (whole id : VersionId) → id.slot ≡ slot → IsPieceOf set new whole id → IsPieceOf set old whole id)
    (d : DataStands set slot last records state holding old hands) where
  -- an id of the slot is another
  apart : (id : VersionId) → id.slot ≡ slot → id ≢ other
  apart id of same = wrong (subst (λ (y : VersionId). y.slot ≡ slot) same of)

  -- data of the slot keeps its holders
  stays : (named : NamedData) (name : List ℕ) → named.id.slot ≡ slot → HasHolders set old named name → HasHolders set new named name
  stays named name of holders =
      holders_stay set other old new only named name holders (apart named.id of) (λ piece. wrong (d.files.of_slot named.id other of piece))

  -- what is recorded, in flight or pinned is of the slot
  recorded_of : (name : List ℕ) (id : VersionId) → RecordNames records name id → id.slot ≡ slot
  recorded_of name id r = d.names.of_slot name id (record_names_id records name id r)

  listed_of : (id : VersionId) → IsListed holding id → id.slot ≡ slot
  listed_of id is = elim is [
    | inl flying ↦ subst (λ (y : VersionId). y.slot ≡ slot) flying.id_is (d.flights.of_slot flying.flight flying.there)
    | inr pinned ↦ d.pins.of_slot id pinned
  ]

  pub elsewhere_stands : DataStands set slot last records state holding new hands
  elsewhere_stands = data_stays set slot last records state holding old new hands
      (λ k id bytes within of is. sym (manifest_stays set other old new only k id within (apart id of)) ∙ is)
      (λ k id bytes within of is. sym (shard_stays set other old new only k id within (apart id of)) ∙ is)
      (λ id m of kept. keeps_before set other old new only id m (apart id of) kept)
      piece_was
      (λ name named is. stays named name
      (recorded_of name named.id
      (record_of_named (write_drives set.drives set.parity) set.drives last holding.flights records state name named named.id stands is refl)))
      (λ name named is. stays named name (recorded_of name named.id (record_of_coming records state name named named.id is refl)))
      (λ name named is. stays named name (listed_of named.id is))
      d

-- what an id of the slot is a part of it was a part of, where nothing of the slot is a part of what is written
piece_was_elsewhere : (set : SetPlan) (slot : ℕ) (old new : Disks) (other : VersionId) → OnlyUnder set other old new
    → ((m : Manifest) (id : VersionId) → Keeps set new other m → HasPart m id → id.slot ≢ slot)
    → (whole id : VersionId) → id.slot ≡ slot → IsPieceOf set new whole id → IsPieceOf set old whole id
piece_was_elsewhere set slot old new other only parts whole id of piece = elim (same_or_apart whole other) [
  | inl same ↦ absurd (parts piece.manifest id (subst (λ (y : VersionId). Keeps set new y piece.manifest) same piece.kept) piece.part of)
  | inr differ ↦ piece_before set other old new only whole id differ piece
]

pub elsewhere_is_written : ElsewhereIsWritten
elsewhere_is_written set slot last records state holding old new hands other stands wrong only parts d =
    elsewhere_stands set slot last records state holding old new hands other stands wrong only
    (piece_was_elsewhere set slot old new other only parts) d
