-- A search for the manifest before and after one call.
use Rattle.std.proofs.Common.{◌≡◌, ◌∙◌, ℕ, ◌+◌, ◌<◌, ◌≤◌, List, [], ◌∷◌, ◌++◌, length, slice_index_or, slice_set, ap, subst, sym, inl, inr, arith, get_or-set_other}
use Rattle.std.specs.Prelude.{Option, Some, None}
use Rattle.std.proofs.lemmas.Bool.{cases_eq, cases_lt}
use Rattle.std.proofs.lemmas.List.{get_or-set_same, length-set, set-get_or}
use Rattle.stamp_id.specs.declared.version.VersionId.{VersionId}
use Rattle.call_types.specs.declared.why.Why.{Why}
use Rattle.call_types.specs.declared.why.Why.TheVariants.{Good}
use Rattle.drive_base.specs.Calls.{MadeCall, Seen, Showed, Sized, Tells}
use Rattle.drive_base.specs.declared.plan.SetPlan.{SetPlan}
use Rattle.manifest_file.specs.Canonical.{IsCanonical}
use Rattle.manifest_file.specs.Spelling.{file_of}
use Rattle.manifest_file.specs.declared.manifest.TheConstants.{LONGEST_FILE}
use Rattle.manifest_file.specs.declared.manifest.Manifest.{Manifest}
use Rattle.body_print.specs.Names.{manifest_name}
use Rattle.get_read.specs.Account.{Account, Call, Stands}
use Rattle.get_read.specs.Causes.{Serves, Wanted}
use Rattle.get_read.specs.Given.{IsFoundIn}
use Rattle.get_read.specs.Letters.{NoManifestOf, TellsNoManifest}
use Rattle.get_read.specs.PassedDrives.{PassesDrive, PassesOver}
use Rattle.get_read.specs.Readers.{IsSearch, set_of, wants}
use Rattle.get_read.specs.Refusing.{NoneServesIn}
use Rattle.get_read.specs.declared.state.Asked.{Asked}
use Rattle.get_read.proofs.AccountLemmas.{no_manifest_on, stands_last, stands_on}

-- a drive that is left with its letter, and those that are out behind it
pub passes_drive : (set : SetPlan) (why : Why) (place next : ℕ) (old new : List Why) → place < set.drives → length old ≡ set.drives
    → PassesOver set (place + 1) next (slice_set old place why) new → PassesDrive set why place next old new
passes_drive set why place next old new low counted over = record {
  past = omega (arith, over.least);
  most = over.most;
  in_use = over.in_use;
  counted = over.counted ∙ length-set old place why;
  before = λ k before. over.before k (omega arith) ∙ get_or-set_other old place k why Good (omega arith);
  letter = over.before place (omega arith) ∙ get_or-set_same old place why Good (omega arith);
  out = λ k past within. over.out k (omega arith) within;
  untried = over.untried;
  sum = over.sum;
}

-- a drive that gave a block is left, and its letter stays good
pub passes_good : (set : SetPlan) (place next : ℕ) (old new : List Why) → place < set.drives → length old ≡ set.drives → slice_index_or old place Good ≡ Good
    → PassesOver set (place + 1) next old new → PassesDrive set Good place next old new
passes_good set place next old new low counted good over =
    let same : slice_set old place Good ≡ old = ap (slice_set old place) (sym good) ∙ set-get_or old place Good in
    passes_drive set Good place next old new low counted (subst (λ (w : List Why). PassesOver set (place + 1) next w new) (sym same) over)

-- the length of the next drive's file is told
pub search_sized : (asked : Asked) (tried : ℕ) (size : Option ℕ) (whys : List Why) (calls : Account) (n : ℕ) (made : MadeCall)
    → IsSearch asked tried size whys calls → n ≤ LONGEST_FILE → Tells made (Sized (manifest_name asked.id) n)
    → IsSearch asked tried (Some n) whys (calls ++ record { drive = tried; made = made } ∷ [])
search_sized asked tried size whys calls n made is few tells =
    let call : Call = record { drive = tried; made = made } in
    record {
      tried_so = λ k low. no_manifest_on (wants asked) asked.id (set_of asked).out calls (call ∷ []) k _ (is.tried_so k low);
      next_in_use = is.next_in_use;
      sized = λ m some.
          let same : n ≡ m = cc in
          (omega arith, subst (λ (l : ℕ). Stands (calls ++ call ∷ []) tried (Sized (manifest_name asked.id) l)) same (stands_last calls call _ tells));
    }

-- the manifest is found
pub search_found : (asked : Asked) (tried : ℕ) (size : Option ℕ) (whys : List Why) (calls : Account) (m : Manifest) (made : MadeCall)
    → IsSearch asked tried size whys calls → size ≡ Some (length (file_of m)) → IsCanonical m → Serves (wants asked) m
    → Tells made (Showed (manifest_name asked.id) 0 (file_of m))
    → IsFoundIn (wants asked) asked.id m (calls ++ record { drive = tried; made = made } ∷ [])
search_found asked tried size whys calls m made is told canonical serves tells =
    let call : Call = record { drive = tried; made = made } in
    record {
      canonical = canonical;
      serves = serves;
      drive = tried;
      sized = stands_on calls (call ∷ []) tried _ (is.sized (length (file_of m)) told).1;
      showed = stands_last calls call _ tells;
    }

-- what a call tells by what was told before, told otherwise
told_as : (wanted : Wanted) (id : VersionId) (Was Is : ℕ → Type 0) (why : Why) (seen : Seen) → ((n : ℕ) → Was n → Is n)
    → TellsNoManifest wanted id Was why seen → TellsNoManifest wanted id Is why seen
told_as wanted id Was Is why seen on (inl size) = inl size
told_as wanted id Was Is why seen on (inr (inl long)) = inr (inl long)
told_as wanted id Was Is why seen on (inr (inr (inl cut))) = inr (inr (inl (cut.0, on cut.0 cut.1, cut.2)))
told_as wanted id Was Is why seen on (inr (inr (inr other))) = inr (inr (inr (other.0, on (length other.0) other.1, other.2, other.3)))

-- the next drive is left, with what its call tells
pub search_passed : (asked : Asked) (tried next : ℕ) (size : Option ℕ) (whys new : List Why) (calls : Account) (why : Why) (seen : Seen) (made : MadeCall)
    → Tells made seen → IsSearch asked tried size whys calls → tried < (set_of asked).drives → PassesDrive (set_of asked) why tried next whys new
    → TellsNoManifest (wants asked) asked.id (λ n. size ≡ Some n) why seen
    → IsSearch asked next None new (calls ++ record { drive = tried; made = made } ∷ [])
search_passed asked tried next size whys new calls why seen made seen_so is low passes tells =
    let call : Call = record { drive = tried; made = made } in
    let after = calls ++ call ∷ [] in
    let out = (set_of asked).out in
    record {
      tried_so = λ k before. elim (cases_lt k tried) [
        | inl lower ↦
            subst (λ (w : Why). NoManifestOf (wants asked) asked.id out after k w) (sym (passes.before k lower))
            (no_manifest_on (wants asked) asked.id out calls (call ∷ []) k _ (is.tried_so k lower))
        | inr past ↦ elim (cases_eq k tried) [
          | inl same ↦
              subst (λ (j : ℕ). NoManifestOf (wants asked) asked.id out after j (slice_index_or new j Good)) (sym same)
              (subst (λ (w : Why). NoManifestOf (wants asked) asked.id out after tried w) (sym passes.letter)
              (inr (
                is.next_in_use low,
                (
                  seen,
                  stands_last calls call seen seen_so,
                  told_as (wants asked) asked.id (λ n. size ≡ Some n) (λ n. Stands after tried (Sized (manifest_name asked.id) n)) why seen
                      (λ n told. stands_on calls (call ∷ []) tried _ (is.sized n told).1) tells,
                ),
              )))
          | inr apart ↦ inl (passes.out k (omega arith) before)
        ]
      ];
      next_in_use = passes.in_use;
      sized = λ n some. absurd cc;
    }

-- all drives are tried
pub none_serves : (asked : Asked) (tried : ℕ) (size : Option ℕ) (whys : List Why) (calls : Account) → IsSearch asked tried size whys calls
    → tried ≡ (set_of asked).drives → length whys ≡ (set_of asked).drives
    → NoneServesIn (set_of asked) asked.wanted.print asked.id asked.wanted.reach whys calls
none_serves asked tried size whys calls is all counted = record {
  counted = counted;
  each = λ k low. is.tried_so k (omega arith);
}
