-- Whether a drive has exactly what is expected of it.
use Rattle.std.proofs.Common.{◌≡◌, ◌≢◌, ◌⊎◌, ℕ, Bool, true, false, List, Option, Some, None, inl, inr, refl, ap}
use Rattle.std.specs.Str.{bytes_eq}
use Rattle.std.proofs.lemmas.Slice.Eq.{bytes_eq-Decides}
use Rattle.drive_base.specs.Files.{LooseFile}
use Rattle.put_stage.specs.Cells.{DataCells}
use Rattle.slot_history.proofs.MemberLemmas.{same_or_other}

pub same_text : (a b : List ℕ) → (a ≡ b) ⊎ (a ≢ b)
same_text a b = elim (same_or_other a b) [
  | inl same ↦ inl same
  | inr other ↦ inr (λ same. let is : bytes_eq a b ≡ true = (bytes_eq-Decides a b).1 same in absurd cc)
]

same_kept : (a b : Option (List ℕ)) → (a ≡ b) ⊎ (a ≢ b)
same_kept None None = inl refl
same_kept None (Some b) = inr (λ same. absurd cc)
same_kept (Some a) None = inr (λ same. absurd cc)
same_kept (Some a) (Some b) = elim (same_text a b) [
  | inl same ↦ inl (ap (λ (x : List ℕ). Some x) same)
  | inr apart ↦ inr (λ same. apart cc)
]

same_flag : (a b : Bool) → (a ≡ b) ⊎ (a ≢ b)
same_flag true true = inl refl
same_flag true false = inr (λ same. absurd cc)
same_flag false true = inr (λ same. absurd cc)
same_flag false false = inl refl

same_file : (a b : LooseFile) → (a ≡ b) ⊎ (a ≢ b)
same_file a b = elim (same_text a.bytes b.bytes) [
  | inl bytes ↦ elim (same_flag a.synced b.synced) [
    | inl synced ↦ inl (λ i. record { bytes = bytes i; synced = synced i })
    | inr apart ↦ inr (λ same. apart (ap (λ (x : LooseFile). x.synced) same))
  ]
  | inr apart ↦ inr (λ same. apart (ap (λ (x : LooseFile). x.bytes) same))
]

same_loose : (a b : Option LooseFile) → (a ≡ b) ⊎ (a ≢ b)
same_loose None None = inl refl
same_loose None (Some b) = inr (λ same. absurd cc)
same_loose (Some a) None = inr (λ same. absurd cc)
same_loose (Some a) (Some b) = elim (same_file a b) [
  | inl same ↦ inl (ap (λ (x : LooseFile). Some x) same)
  | inr apart ↦ inr (λ same. apart cc)
]

-- the files under four names are these, or they aren't
pub same_cells : (a b : DataCells) → (a ≡ b) ⊎ (a ≢ b)
same_cells a b = elim (same_kept a.manifest b.manifest) [
  | inr apart ↦ inr (λ same. apart (ap (λ (x : DataCells). x.manifest) same))
  | inl manifest ↦ elim (same_kept a.shard b.shard) [
    | inr apart ↦ inr (λ same. apart (ap (λ (x : DataCells). x.shard) same))
    | inl shard ↦ elim (same_loose a.loose_manifest b.loose_manifest) [
      | inr apart ↦ inr (λ same. apart (ap (λ (x : DataCells). x.loose_manifest) same))
      | inl loose_manifest ↦ elim (same_loose a.loose_shard b.loose_shard) [
        | inr apart ↦ inr (λ same. apart (ap (λ (x : DataCells). x.loose_shard) same))
        | inl loose_shard ↦
            inl (λ i. record { manifest = manifest i; shard = shard i; loose_manifest = loose_manifest i; loose_shard = loose_shard i })
      ]
    ]
  ]
]
