-- The table of bucket records is lawful.
use Rattle.std.proofs.Common.{◌≡◌, ℕ, zero, suc, ◌<◌, refl, sym, ap, arith}
use Rattle.std.proofs.lemmas.Bool.{ltb-true, lt-ltb}
use Rattle.field_reader.proofs.Parts.{IsSpelled}
use Rattle.field_reader.proofs.Series.{Kept}
use Rattle.field_reader.proofs.Chains.{u8_kept, u64_kept, done_kept, then_field, told, ruled}
use Rattle.sealed_record.specs.Laws.{IsLawful}
use Rattle.sealed_record.proofs.Rows.{Matches, lawful_table}
use Rattle.call_types.specs.declared.names.Mode.{Mode}
use Rattle.call_types.specs.declared.names.Mode.TheVariants.{Never, Enabled, Suspended}
use Rattle.bucket_book.specs.Table.{BucketRow, mode_number, row_of, is_moment, is_mode, bucket, bytes_of, IsCanonical, bucket_table}

record IsRow (r : BucketRow) : Type 0 where
  created : r.created < 253402300800
  mode : r.mode < 3

abbrev row_with : ℕ → ℕ → BucketRow
row_with created mode = record { created = created; mode = mode }

spelled : IsSpelled bucket (Kept IsRow bytes_of)
unfolding bucket
spelled = told (
    then_field (λ (r : BucketRow). r.created) (ruled is_moment u64_kept) (λ created.
    then_field (λ (r : BucketRow). r.mode) (ruled is_mode u8_kept) (λ mode. done_kept (row_with created mode))
    (λ mode r k q. ap (λ (r : BucketRow). r.mode) (sym q)))
    (λ created r k q. ap (λ (r : BucketRow). r.created) (sym q.rest)))
    (λ r k. record { created = ltb-true _ _ k.part.1; mode = ltb-true _ _ k.rest.part.1 })
    (λ r k. record { part = (omega (arith, k.created), lt-ltb _ _ k.created); rest = record { part = (omega (arith, k.mode), lt-ltb _ _ k.mode); rest = refl } })
    (λ r. refl)

-- each mode has a number below 3 of its own
mode_fits : (mode : Mode) → mode_number mode < 3
mode_fits Never = omega arith
mode_fits Enabled = omega arith
mode_fits Suspended = omega arith

pub mode_same : (a b : Mode) → mode_number a ≡ mode_number b → a ≡ b
mode_same Never Never e = refl
mode_same Never Enabled e = absurd (omega (arith, e))
mode_same Never Suspended e = absurd (omega (arith, e))
mode_same Enabled Never e = absurd (omega (arith, e))
mode_same Enabled Enabled e = refl
mode_same Enabled Suspended e = absurd (omega (arith, e))
mode_same Suspended Never e = absurd (omega (arith, e))
mode_same Suspended Enabled e = absurd (omega (arith, e))
mode_same Suspended Suspended e = refl

mode_made : (number : ℕ) → number < 3 → (mode : Mode) × (mode_number mode ≡ number)
mode_made zero fits = (Never, refl)
mode_made (suc zero) fits = (Enabled, omega arith)
mode_made (suc (suc zero)) fits = (Suspended, omega arith)
mode_made (suc (suc (suc n))) fits = absurd (omega (arith, fits))

matches : Matches row_of IsCanonical IsRow
matches = record {
  into = λ b h. record { created = h.created; mode = mode_fits b.mode };
  back = λ b h. record { created = h.created };
  same = λ a b e.
      let created : a.created ≡ b.created = ap (λ (r : BucketRow). r.created) e in
      let mode : a.mode ≡ b.mode = mode_same a.mode b.mode (ap (λ (r : BucketRow). r.mode) e) in
      λ i. record { created = created i; mode = mode i };
  made = λ r h.
      let mode = mode_made r.mode h.mode in
      (record { created = r.created; mode = mode.0 }, ap (row_with r.created) mode.1);
}

pub bucket_lawful : IsLawful bucket_table
bucket_lawful = lawful_table bucket_table IsRow spelled matches
