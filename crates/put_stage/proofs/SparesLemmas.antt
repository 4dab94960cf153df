-- A call of a stage changes nothing but what is under the four names of an id.
use Rattle.std.proofs.Common.{◌≡◌, ◌∙◌, ℕ, false, List, Option, Some, None, ap, inl, inr}
use Rattle.std.specs.Prelude.{◌⊎◌, Bool, IsTrue, Result, Ok, Err, OnOk, OnErr}
use Rattle.std.specs.Str.{bytes_eq}
use Rattle.stamp_id.specs.declared.version.VersionId.{VersionId}
use Rattle.call_types.specs.declared.why.Why.{Why}
use Rattle.drive_base.specs.Files.{Files, LooseFile, Named, with_loose}
use Rattle.drive_base.specs.Leaves.{Placed}
use Rattle.file_access.specs.Writing.{Appended, PlacedOrTouched, Synced, Touches}
use Rattle.body_print.specs.Names.{shard_name, manifest_name, loose_shard_name, loose_manifest_name}
use Rattle.put_stage.specs.Cells.{IsNeither, Spares}
use Rattle.put_stage.proofs.CallLemmas.{elsewhere}

-- a name that is one of two
abbrev pub IsOneOf : List ℕ → List ℕ → List ℕ → Type 0
IsOneOf one two name = (name ≡ one) ⊎ (name ≡ two)

-- it is none of the others
other_than : (one two name other : List ℕ) → IsOneOf one two name → IsNeither one two other → bytes_eq name other ≡ false
other_than one two name other (inl is) neither = ap (λ (n : List ℕ). bytes_eq n other) is ∙ neither.0
other_than one two name other (inr is) neither = ap (λ (n : List ℕ). bytes_eq n other) is ∙ neither.1

-- a loose file that is changed touches its name alone
changed_loose : (old new : Files) (loose : List ℕ) (w : Option LooseFile) → new ≡ with_loose old loose w → Touches loose old new
changed_loose old new loose w is = record {
  kept = ap (λ (f : Files). f.kept) is;
  shown = ap (λ (f : Files). f.shown) is;
  others = λ other apart. ap (λ (f : Files). f.loose other) is ∙ elsewhere old.loose loose w other apart;
}

module _ (id : VersionId) (old new : Files) where
  touched_spares : (loose : List ℕ) → IsOneOf (loose_manifest_name id) (loose_shard_name id) loose → Touches loose old new → Spares id old new
  touched_spares loose one touches = record {
    kept = λ other apart. ap (λ (named : Named (List ℕ)). named other) touches.kept;
    shown = λ other apart. ap (λ (named : Named (List ℕ)). named other) touches.shown;
    loose = λ other apart. touches.others other (other_than _ _ loose other one apart);
  }

  placed_spares : (loose name : List ℕ) → IsOneOf (loose_manifest_name id) (loose_shard_name id) loose → IsOneOf (manifest_name id) (shard_name id) name
      → Placed old loose name new → Spares id old new
  placed_spares loose name one named is = record {
    kept = λ other apart. ap (λ (f : Files). f.kept other) is.is ∙ elsewhere old.kept name (Some is.bytes) other (other_than _ _ name other named apart);
    shown = λ other apart. ap (λ (f : Files). f.shown other) is.is ∙ elsewhere old.shown name (Some is.bytes) other (other_than _ _ name other named apart);
    loose = λ other apart. ap (λ (f : Files). f.loose other) is.is ∙ elsewhere old.loose loose None other (other_than _ _ loose other one apart);
  }

-- over two moves
spares_both : (id : VersionId) (old mid new : Files) → Spares id old mid → Spares id mid new → Spares id old new
spares_both id old mid new first second = record {
  kept = λ other apart. second.kept other apart ∙ first.kept other apart;
  shown = λ other apart. second.shown other apart ∙ first.shown other apart;
  loose = λ other apart. second.loose other apart ∙ first.loose other apart;
}

module _ (id : VersionId) (told : Bool) (old new : Files) where
  pub append_spares : (loose bytes : List ℕ) (result : Result (Unit {0}) Why) → IsOneOf (loose_manifest_name id) (loose_shard_name id) loose
      → OnOk result (IsTrue told → Appended loose bytes old new) → OnErr result (IsTrue told → Touches loose old new) → IsTrue told → Spares id old new
  append_spares loose bytes (Ok done) one ok err tells = touched_spares id old new loose one (changed_loose old new loose _ (ok tells))
  append_spares loose bytes (Err why) one ok err tells = touched_spares id old new loose one (err tells)

  pub sync_spares : (loose : List ℕ) (result : Result (Unit {0}) Why) → IsOneOf (loose_manifest_name id) (loose_shard_name id) loose
      → OnOk result (IsTrue told → Synced loose old new) → OnErr result (IsTrue told → Touches loose old new) → IsTrue told → Spares id old new
  sync_spares loose (Ok done) one ok err tells = touched_spares id old new loose one (changed_loose old new loose _ (ok tells).is)
  sync_spares loose (Err why) one ok err tells = touched_spares id old new loose one (err tells)

  pub place_spares : (loose name : List ℕ) (result : Result (Unit {0}) Why) → IsOneOf (loose_manifest_name id) (loose_shard_name id) loose
      → IsOneOf (manifest_name id) (shard_name id) name
      → OnOk result (IsTrue told → Placed old loose name new) → OnErr result (IsTrue told → PlacedOrTouched loose name old new) → IsTrue told → Spares id old new
  place_spares loose name (Ok done) one named ok err tells = placed_spares id old new loose name one named (ok tells)
  place_spares loose name (Err why) one named ok err tells = placed_or_not (err tells)
    where
      placed_or_not : PlacedOrTouched loose name old new → Spares id old new
      placed_or_not (inl touched) = touched_spares id old new loose one touched
      placed_or_not (inr (done, placed, touched)) =
          spares_both id old done new (placed_spares id old done loose name one named placed) (touched_spares id done new loose one touched)
