-- What drives keep of other data where only the names of one id were written.
use Rattle.std.proofs.Common.{◌≡◌, ◌≢◌, ◌⊎◌, inl, inr, ℕ, zero, suc, ◌<◌, Bool, true, false, List, Some, Contains, drop, refl, sym, subst, ap, ◌∙◌, arith}
use Rattle.std.specs.Int.{IsBitSet}
use Rattle.std.specs.Str.{bytes_eq}
use Rattle.stamp_id.specs.declared.version.VersionId.{VersionId}
use Rattle.drive_base.specs.Plan.{data_drives, write_drives}
use Rattle.drive_base.specs.declared.plan.SetPlan.{SetPlan}
use Rattle.drive_base.proofs.SetLemmas.{next_counts}
use Rattle.version_list.specs.Naming.{same_id}
use Rattle.version_list.proofs.NamingLemmas.{same_id-refl, same_id-true}
use Rattle.manifest_file.specs.Spelling.{file_of}
use Rattle.manifest_file.specs.declared.manifest.Manifest.{Manifest}
use Rattle.manifest_file.specs.declared.manifest.ManifestPart.{ManifestPart}
use Rattle.body_print.specs.Holders.{HoldsPart}
use Rattle.body_print.specs.Names.{manifest_name, shard_name}
use Rattle.slot_history.specs.Contents.{NamedData}
use Rattle.slot_history.proofs.MemberLemmas.{same_or_other}
use Rattle.slot_history.proofs.NameLemmas.{first_bytes, hex_texts_are_one}
use Rattle.slot_data.specs.DiskLaws.{IsElsewhere, OnlyUnder}
use Rattle.slot_data.specs.Disks.{AtLeast, Disks, HasHolders, IsPieceOf, Keeps, kept_on}

-- two ids are the same, or they differ
pub same_or_apart : (a b : VersionId) → (a ≡ b) ⊎ (a ≢ b)
same_or_apart a b = by (same_id a b) refl
  where
    by : (t : Bool) → same_id a b ≡ t → (a ≡ b) ⊎ (a ≢ b)
    by true e = inl (same_id-true a b e)
    by false e = inr (λ same. (let is : same_id a b ≡ true = subst (λ (x : VersionId). same_id a x ≡ true) same (same_id-refl a) in absurd cc))

-- texts that aren't the same differ
texts_differ : (a b : List ℕ) → a ≢ b → bytes_eq a b ≡ false
texts_differ a b apart = elim (same_or_other a b) [
  | inl same ↦ absurd (apart same)
  | inr other ↦ other
]

-- the names of an id are none of those of another
other_manifest : (a b : VersionId) → b ≢ a → IsElsewhere a (manifest_name b)
other_manifest a b apart = (
  texts_differ (manifest_name a) (manifest_name b) (λ same. apart (sym (hex_texts_are_one a b (ap (drop 2) same)))),
  texts_differ (shard_name a) (manifest_name b) (first_bytes 115 109 _ _ (λ same. omega arith)),
)

other_shard : (a b : VersionId) → b ≢ a → IsElsewhere a (shard_name b)
other_shard a b apart = (
  texts_differ (manifest_name a) (shard_name b) (first_bytes 109 115 _ _ (λ same. omega arith)),
  texts_differ (shard_name a) (shard_name b) (λ same. apart (sym (hex_texts_are_one a b (ap (drop 2) same)))),
)

-- a set of drives has one, or none
some_or_none : (mask n : ℕ) → ((k : ℕ) × (k < n) × IsBitSet mask k) ⊎ ((k : ℕ) → k < n → IsBitSet mask k → ⊥)
some_or_none mask zero = inr (λ k within bit. omega (arith, within))
some_or_none mask (suc n) = elim (next_counts mask n) [
  | inl here ↦ inl (n, omega arith, here.1)
  | inr not_here ↦ elim (some_or_none mask n) [
    | inl found ↦ (let within = found.1 in inl (found.0, omega (arith, within), found.2))
    | inr none ↦ inr (λ k within bit. (
        let apart : k ≢ n = λ same. not_here.1 (subst (IsBitSet mask) same bit) in
        none k (omega (arith, within, apart)) bit))
  ]
]

module _ (set : SetPlan) (id : VersionId) (old new : Disks) (only : OnlyUnder set id old new) where
  -- what is kept under another id is as before
  pub manifest_stays : (k : ℕ) (other : VersionId) → k < set.drives → other ≢ id → kept_on new k (manifest_name other) ≡ kept_on old k (manifest_name other)
  manifest_stays k other within apart = only k (manifest_name other) within (other_manifest id other apart)

  pub shard_stays : (k : ℕ) (other : VersionId) → k < set.drives → other ≢ id → kept_on new k (shard_name other) ≡ kept_on old k (shard_name other)
  shard_stays k other within apart = only k (shard_name other) within (other_shard id other apart)

  pub keeps_before : (other : VersionId) (m : Manifest) → other ≢ id → Keeps set new other m → Keeps set old other m
  keeps_before other m apart kept = record {
    drive = kept.drive;
    within = kept.within;
    canonical = kept.canonical;
    is = sym (manifest_stays kept.drive other kept.within apart) ∙ kept.is;
  }

  pub piece_before : (whole other : VersionId) → whole ≢ id → IsPieceOf set new whole other → IsPieceOf set old whole other
  piece_before whole other apart piece =
      record { manifest = piece.manifest; kept = keeps_before whole piece.manifest apart piece.kept; part = piece.part }

  -- so other data of which that of the id is no part keeps its holders
  module _ (named : NamedData) (name : List ℕ) (h : HasHolders set old named name) (apart : named.id ≢ id) (no_piece : IsPieceOf set old named.id id → ⊥) where
    part_stays : (part : ManifestPart) → Contains h.manifest.parts part → part.id ≢ id
        → AtLeast set (write_drives set.drives set.parity) (λ k. HoldsPart set.drives (data_drives set.drives set.parity) part k (kept_on new k))
    part_stays part there part_apart =
        let was = h.parts part there in
        record {
          mask = was.mask;
          enough = was.enough;
          each = λ k within bit. (
              let holds = was.each k within bit in
              record {
                within = holds.within;
                blocks = holds.blocks;
                sized = holds.sized;
                is = shard_stays k part.id within part_apart ∙ holds.is;
                root = holds.root;
              });
        }

    -- where no drive must keep it none has to keep its parts
    parts_stay : (part : ManifestPart) → Contains h.manifest.parts part
        → AtLeast set (write_drives set.drives set.parity) (λ k. HoldsPart set.drives (data_drives set.drives set.parity) part k (kept_on new k))
    parts_stay part there = elim (some_or_none h.held.mask set.drives) [
      | inl found ↦
          let holds = h.held.each found.0 found.1 found.2 in
          let kept : Keeps set old named.id h.manifest = record {
            drive = found.0;
            within = found.1;
            canonical = h.is.canonical;
            is = holds.0.is ∙ ap (λ (m : Manifest). Some (file_of m)) holds.1;
          } in
          part_stays part there (λ same. no_piece (record { manifest = h.manifest; kept = kept; part = record { part = part; there = there; id_is = same } }))
      | inr none ↦ record { mask = h.held.mask; enough = h.held.enough; each = λ k within bit. absurd (none k within bit) }
    ]

    pub holders_stay : HasHolders set new named name
    holders_stay = record {
      manifest = h.manifest;
      is = h.is;
      held = record {
        mask = h.held.mask;
        enough = h.held.enough;
        each = λ k within bit. (
            let holds = h.held.each k within bit in (
              record {
                manifest = holds.0.manifest;
                canonical = holds.0.canonical;
                is = manifest_stays k named.id within apart ∙ holds.0.is;
                printed = holds.0.printed;
              },
              holds.1,
            ));
      };
      alike = λ k bytes within is. h.alike k bytes within (sym (manifest_stays k named.id within apart) ∙ is);
      parts = parts_stay;
    }
