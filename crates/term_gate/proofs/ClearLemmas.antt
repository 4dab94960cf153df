-- A write after the loose name was cleared.
use Rattle.std.proofs.Common.{◌≡◌, ◌⊎◌, ℕ, ◌≤◌, List, Option, None, Some, refl, sym, ap, subst, ◌∙◌, inl, inr, arith}
use Rattle.std.specs.Prelude.{Bool, IsTrue}
use Rattle.std.specs.Str.{bytes_eq}
use Rattle.std.proofs.lemmas.Map.{update_other, update_same}
use Rattle.std.proofs.lemmas.Slice.Eq.{bytes_eq-Decides}
use Rattle.call_types.specs.declared.why.FileKind.TheVariants.{Format}
use Rattle.call_types.specs.declared.why.Why.{Why}
use Rattle.call_types.specs.declared.why.Why.TheVariants.{Good, Failed, Damaged, Behind, Lacks}
use Rattle.drive_base.specs.Files.{Files, LooseFile, with_name}
use Rattle.drive_base.specs.View.{DriveView, GoesOn}
use Rattle.file_access.specs.Writing.{Discarded, HasLoose, IsInPlace, Touches, WriteCause, WriteLeaves}
use Rattle.term_gate.specs.Formats.{format_name, loose_format_name}
use Rattle.term_gate.specs.Writing.{FormatIsWritten}

-- nothing was changed twice but under one loose name
touches_twice : (loose : List ℕ) (old mid new : Files) → Touches loose old mid → Touches loose mid new → Touches loose old new
touches_twice loose old mid new one two = record {
  kept = two.kept ∙ one.kept;
  shown = two.shown ∙ one.shown;
  others = λ other apart. two.others other apart ∙ one.others other apart;
}

in_place_after : (loose name bytes : List ℕ) (old mid new : Files) → Touches loose old mid → IsInPlace loose name bytes mid new
    → IsInPlace loose name bytes old new
in_place_after loose name bytes old mid new one two = record {
  kept = two.kept ∙ ap (λ named. with_name named name (Some bytes)) one.kept;
  shown = two.shown ∙ ap (λ named. with_name named name (Some bytes)) one.shown;
  others = λ other apart. two.others other apart ∙ one.others other apart;
}

either_after : (loose name bytes : List ℕ) (old mid new : Files) → Touches loose old mid
    → Touches loose mid new ⊎ IsInPlace loose name bytes mid new → Touches loose old new ⊎ IsInPlace loose name bytes old new
either_after loose name bytes old mid new one (inl two) = inl (touches_twice loose old mid new one two)
either_after loose name bytes old mid new one (inr two) = inr (in_place_after loose name bytes old mid new one two)

-- what a write leaves, from before its loose name was cleared
pub leaves_after : (why : Why) (loose name bytes : List ℕ) (old mid new : Files) → Touches loose old mid → WriteLeaves why loose name bytes mid new
    → WriteLeaves why loose name bytes old new
leaves_after Good loose name bytes old mid new one two = in_place_after loose name bytes old mid new one two
leaves_after (Failed before after) loose name bytes old mid new one two = either_after loose name bytes old mid new one two
leaves_after (Damaged damage) loose name bytes old mid new one two = two
leaves_after (Behind ballot) loose name bytes old mid new one two = two
leaves_after (Lacks kind) loose name bytes old mid new one two = either_after loose name bytes old mid new one two

-- a loose file that was discarded isn't there, and nothing else was changed
pub discarded_clears : (loose : List ℕ) (old new : Files) → Discarded loose old new → Touches loose old new × (new.loose loose ≡ None)
discarded_clears loose old new gone = (
  record {
    kept = ap (λ (files : Files). files.kept) gone.is;
    shown = ap (λ (files : Files). files.shown) gone.is;
    others = λ other apart. ap (λ (files : Files). files.loose other) gone.is ∙ update_other bytes_eq old.loose loose None other apart;
  },
  ap (λ (files : Files). files.loose loose) gone.is ∙ update_same bytes_eq old.loose loose None loose ((bytes_eq-Decides loose loose).1 refl),
)

-- there is no loose file where none can be there
no_loose : (found : Option LooseFile) → (((file : LooseFile) × (found ≡ Some file)) → ⊥) → found ≡ None
no_loose None none = refl
no_loose (Some file) none = absurd (none (file, refl))

-- a loose file that wasn't there isn't, and nothing was changed
pub lacking_clears : (loose : List ℕ) (old new : Files) → new ≡ old → (HasLoose old loose → ⊥) → Touches loose old new × (new.loose loose ≡ None)
lacking_clears loose old new same none = (
  record {
    kept = ap (λ (files : Files). files.kept) same;
    shown = ap (λ (files : Files). files.shown) same;
    others = λ other apart. ap (λ (files : Files). files.loose other) same;
  },
  ap (λ (files : Files). files.loose loose) same ∙ no_loose (old.loose loose) none,
)

-- a format file was written where nothing stands under its loose name
pub written_after : (file : List ℕ) (term k : ℕ) (why : Why) (old mid new : DriveView) → GoesOn old mid → mid.count ≡ old.count
    → (IsTrue old.tells → Touches (loose_format_name term k) old.files mid.files × (mid.files.loose (loose_format_name term k) ≡ None))
    → (IsTrue mid.tells → mid.files.loose (loose_format_name term k) ≡ None → WriteLeaves why (loose_format_name term k) format_name file mid.files new.files)
    → WriteCause Format (IsTrue mid.tells) why mid.count new.count → new.tells ≡ mid.tells → mid.count ≤ new.count
    → FormatIsWritten file term k why old new
written_after file term k why old mid new on same cleared leaves cause tells more = record {
  leaves = λ told.
      let clear = cleared told in
      leaves_after why (loose_format_name term k) format_name file old.files mid.files new.files clear.0 (leaves (subst IsTrue (sym on.tells) told) clear.1);
  cause = subst (λ (n : ℕ). WriteCause Format (IsTrue old.tells) why n new.count) same
      (subst (λ (told : Bool). WriteCause Format (IsTrue told) why mid.count new.count) on.tells cause);
  goes_on = record { tells = tells ∙ on.tells; count = omega (arith, same, more) };
}
