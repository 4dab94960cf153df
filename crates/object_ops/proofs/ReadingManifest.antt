-- Why no drive gave a manifest, by the log that has the calls of a reader.
use Rattle.std.proofs.Common.{◌≡◌, ◌≢◌, ◌∙◌, ℕ, List, Some, None, length, inl, inr, ap, refl, subst, sym}
use Rattle.sha2.specs.Sha256.{sha256}
use Rattle.field_reader.specs.Format.{fault_at, place_of}
use Rattle.seal_file.specs.Sealing.{IsDamage}
use Rattle.seal_file.specs.declared.damage.Damage.{Damage}
use Rattle.seal_file.specs.declared.damage.Damage.TheVariants as damage
use Rattle.seal_file.proofs.SealedLemmas.{no_damage, sealed-injective}
use Rattle.stamp_id.specs.declared.version.VersionId.{VersionId}
use Rattle.call_types.specs.declared.why.FileKind.TheVariants as kind
use Rattle.call_types.specs.declared.why.Why.{Why}
use Rattle.call_types.specs.declared.why.Why.TheVariants as letter
use Rattle.drive_base.specs.Calls.{Seen}
use Rattle.drive_base.specs.Calls.Seen.{CutShort, Faulted, Missing, Showed, Sized}
use Rattle.drive_base.specs.declared.plan.SetPlan.{SetPlan}
use Rattle.manifest_file.specs.Canonical.{IsCanonical}
use Rattle.manifest_file.specs.Layout.{manifest}
use Rattle.manifest_file.specs.Print.{text_under}
use Rattle.manifest_file.specs.Spelling.{file_of, manifest_kind, spelling}
use Rattle.manifest_file.specs.declared.manifest.Manifest.{Manifest}
use Rattle.manifest_file.proofs.LawProofs.{files_injective, spelling_found}
use Rattle.body_print.specs.Names.{manifest_name}
use Rattle.get_read.specs.Account.{Account, Stands}
use Rattle.get_read.specs.Causes.{Fits, IsUnserved as IsUnservedFile, Serves as Suits}
use Rattle.get_read.specs.Letters.{NoManifestOf, TellsNoManifest, TellsNoPiece, TellsNoSize}
use Rattle.get_read.specs.Manifests.{IsDamagedSo}
use Rattle.get_read.specs.Outcomes.{wanted_of}
use Rattle.get_read.specs.Refusing.{NoneServesIn}
use Rattle.receipts.specs.Events.{Log, Saw}
use Rattle.receipts.specs.Letters.{IsInUse, ManifestLetter, NoneServes, Serves, Wanted}
use Rattle.object_ops.specs.ReadingTold.{AreLogged}
use Rattle.object_ops.proofs.ReadingLists.{is_none}
use Rattle.object_ops.proofs.ReadingSpans.{saw_so}

module _ (set : SetPlan) (id : VersionId) (print : List ℕ) (reach : ℕ) where
  abbrev pub wanted : Wanted
  wanted = record { id = id; print = print; reach = reach }

  -- a manifest serves a reader where it serves the read
  pub serves : (m : Manifest) → IsCanonical m → Suits (wanted_of set print reach) m → Serves set wanted m
  serves m canonical x = record {
    canonical = canonical;
    drives = x.fits.drives;
    parity = x.fits.parity;
    printed = x.print;
    reaches = x.fits.reaches;
  }

  fits : (m : Manifest) → Serves set wanted m → Fits (wanted_of set print reach) m
  fits m x = record { drives = x.drives; parity = x.parity; reaches = x.reaches }

  -- a canonical manifest's spelling has no fault
  faultless : (m : Manifest) → IsCanonical m → fault_at manifest (spelling m) ≡ None
  faultless m canonical = ap place_of (spelling_found m canonical)

  -- a file with something wrong is that of no manifest that serves
  unserved : (file : List ℕ) (wrong : Damage) → IsUnservedFile (wanted_of set print reach) file wrong → (m : Manifest) → Serves set wanted m → file ≢ file_of m
  unserved file wrong (inl damaged) m x is =
      no_damage manifest_kind (spelling m) wrong refl (subst (λ f. IsDamage manifest_kind f wrong) is damaged)
  unserved file wrong (inr (inl bad)) m x is =
      let body : bad.0 ≡ spelling m = (sealed-injective manifest_kind manifest_kind bad.0 (spelling m) refl (sym bad.2 ∙ is)).1 in
      let none : None ≡ Some bad.1 = sym (faultless m x.canonical) ∙ (sym (ap (fault_at manifest) body) ∙ bad.3) in
      subst is_none none tt
  unserved file wrong (inr (inr (inl other))) m x is =
      let same : other.0 ≡ m = files_injective other.0 m other.1 x.canonical (sym other.2 ∙ is) in
      other.3 (x.printed ∙ sym (ap (λ (n : Manifest). sha256 (text_under n)) same))
  unserved file wrong (inr (inr (inr other))) m x is =
      let same : other.0 ≡ m = files_injective other.0 m other.1 x.canonical (sym other.2 ∙ is) in
      other.3 (subst (Fits (wanted_of set print reach)) (sym same) (fits m x))

  module _ (calls : Account) (log : Log) (logged : AreLogged calls log) (k : ℕ) (in_use : IsInUse set k) where
    -- what a call told it told in the log
    here : (seen : Seen) (told : Seen) → Stands calls k seen → seen ≡ told → Saw log k told
    here seen told stands is = subst (Saw log k) is (saw_so calls log logged k seen stands)

    -- no length came
    no_size : (why : Why) (seen : Seen) → Stands calls k seen → TellsNoSize kind.Manifest (manifest_name id) why seen → ManifestLetter set wanted log k why
    no_size letter.Good seen stands x = absurd x
    no_size (letter.Failed before after) seen stands x = (in_use, here seen (Faulted (manifest_name id) before after) stands x)
    no_size (letter.Damaged wrong) seen stands x = absurd x
    no_size (letter.Behind ballot) seen stands x = absurd x
    no_size (letter.Lacks lacked) seen stands x = subst (λ l. ManifestLetter set wanted log k (letter.Lacks l)) (sym x.0)
        (in_use, here seen (Missing (manifest_name id)) stands x.1)

    -- too few bytes came
    no_piece : (why : Why) (n : ℕ) (seen : Seen) → Stands calls k seen → Stands calls k (Sized (manifest_name id) n)
        → TellsNoPiece kind.Manifest (manifest_name id) 0 n why seen → ManifestLetter set wanted log k why
    no_piece letter.Good n seen stands sized x = absurd x
    no_piece (letter.Failed before after) n seen stands sized x = (in_use, here seen (Faulted (manifest_name id) before after) stands x)
    no_piece (letter.Damaged (damage.Short place)) n seen stands sized x = (
      in_use,
      inr (inl (record {
        long = n;
        sized = saw_so calls log logged k (Sized (manifest_name id) n) sized;
        place = place;
        short = here seen (CutShort (manifest_name id) 0 n place) stands x;
      })),
    )
    no_piece (letter.Damaged (damage.Digest stored computed)) n seen stands sized x = absurd x
    no_piece (letter.Damaged (damage.Kind found)) n seen stands sized x = absurd x
    no_piece (letter.Damaged (damage.Spelling place)) n seen stands sized x = absurd x
    no_piece (letter.Damaged (damage.Long long)) n seen stands sized x = absurd x
    no_piece (letter.Behind ballot) n seen stands sized x = absurd x
    no_piece (letter.Lacks lacked) n seen stands sized x = subst (λ l. ManifestLetter set wanted log k (letter.Lacks l)) (sym x.0)
        (in_use, here seen (Missing (manifest_name id)) stands x.1)

    -- the file is no manifest that serves
    no_file : (why : Why) (file : List ℕ) (seen : Seen) → Stands calls k seen → Stands calls k (Sized (manifest_name id) (length file))
        → seen ≡ Showed (manifest_name id) 0 file → IsDamagedSo (wanted_of set print reach) file why → ManifestLetter set wanted log k why
    no_file letter.Good file seen stands sized is x = absurd x
    no_file (letter.Failed before after) file seen stands sized is x = absurd x
    no_file (letter.Damaged wrong) file seen stands sized is x = (
      in_use,
      inr (inr (
        file,
        record {
          sized = saw_so calls log logged k (Sized (manifest_name id) (length file)) sized;
          showed = here seen (Showed (manifest_name id) 0 file) stands is;
          none = unserved file wrong x;
        },
      )),
    )
    no_file (letter.Behind ballot) file seen stands sized is x = absurd x
    no_file (letter.Lacks lacked) file seen stands sized is x = absurd x

    no_manifest : (why : Why) (seen : Seen) → Stands calls k seen
        → TellsNoManifest (wanted_of set print reach) id (λ n. Stands calls k (Sized (manifest_name id) n)) why seen → ManifestLetter set wanted log k why
    no_manifest why seen stands (inl x) = no_size why seen stands x
    no_manifest why seen stands (inr (inl x)) = subst (ManifestLetter set wanted log k) (sym x.3)
        (in_use, inl (x.0, here seen (Sized (manifest_name id) x.0) stands x.1, x.2))
    no_manifest why seen stands (inr (inr (inl x))) = no_piece why x.0 seen stands x.1 x.2
    no_manifest why seen stands (inr (inr (inr x))) = no_file why x.0 seen stands x.1 x.2 x.3

  letter_so : (calls : Account) (log : Log) → AreLogged calls log → (k : ℕ) (why : Why) → NoManifestOf (wanted_of set print reach) id set.out calls k why
      → ManifestLetter set wanted log k why
  letter_so calls log logged k why (inl out) = subst (ManifestLetter set wanted log k) (sym out.1) out.0
  letter_so calls log logged k why (inr used) = no_manifest calls log logged k used.0 why used.1.0 used.1.1 used.1.2

  -- no drive gave a manifest that serves
  pub none_serves : (whys : List Why) (calls : Account) (log : Log) → AreLogged calls log → NoneServesIn set print id reach whys calls → NoneServes set wanted whys log
  none_serves whys calls log logged x = record { counted = x.counted; each = λ k inside. letter_so calls log logged k _ (x.each k inside) }
