-- One step of a search, by what its call gave.
use Rattle.std.proofs.Common.{◌≡◌, ◌⊎◌, ◌∙◌, ℕ, ◌<◌, List, [], ◌∷◌, ◌++◌, length, slice_index_or, slice_set, ap, refl, subst, sym, inl, inr, arith, append-nil}
use Rattle.std.specs.Prelude.{Err, None, Ok, Some, false}
use Rattle.std.specs.Int.{IsBitSet}
use Rattle.call_types.specs.Good.{is_good}
use Rattle.call_types.specs.declared.why.Why.{Why}
use Rattle.call_types.specs.declared.why.Why.TheVariants.{Good, Failed, Damaged, Behind, Lacks}
use Rattle.seal_file.specs.declared.damage.Damage.TheVariants.{Long}
use Rattle.drive_base.specs.Calls.{Seen, Showed, Sized}
use Rattle.drive_base.specs.View.{DriveView, view}
use Rattle.drive_base.specs.declared.drive.Drive.{Ghosts}
use Rattle.file_access.specs.declared.fault.FetchFault.{FetchFault}
use Rattle.file_access.specs.declared.fault.FetchFault.TheVariants.{Because, NoMemory as NoRoom}
use Rattle.manifest_file.specs.declared.manifest.TheConstants.{LONGEST_FILE}
use Rattle.manifest_file.specs.declared.manifest.Manifest.{Manifest}
use Rattle.manifest_file.specs.Spelling.{file_of}
use Rattle.body_print.specs.Names.{manifest_name}
use Rattle.get_read.specs.Account.{Account, WasSeen}
use Rattle.get_read.specs.Progress.{LookCall, SearchSteps}
use Rattle.get_read.specs.Calls.{IdleOrCalled}
use Rattle.get_read.specs.Causes.{Wanted}
use Rattle.get_read.specs.Manifests.{IsDamagedSo, IsServed}
use Rattle.get_read.specs.PassedDrives.{PassesDrive}
use Rattle.get_read.specs.Readers.{AreCalls, IsSearchOf, set_of, wants}
use Rattle.get_read.specs.Refusing.{NoneServesIn}
use Rattle.get_read.specs.declared.faults.BodyFault.TheVariants.{ShardQuorum, NoMemory}
use Rattle.get_read.specs.declared.search.SearchFind.{SearchFind}
use Rattle.get_read.specs.declared.search.SearchFind.TheVariants.{Size, File}
use Rattle.get_read.specs.declared.search.Search.{Search}
use Rattle.get_read.proofs.OneCallLemmas.{called_once, none_called}
use Rattle.get_read.proofs.SearchLemmas.{none_serves, search_found, search_passed, search_sized}

-- a cause that tells what is wrong with a file is not good
unserved_is_bad : (wanted : Wanted) (file : List ℕ) (why : Why) → IsDamagedSo wanted file why → is_good why ≡ false
unserved_is_bad wanted file Good is = absurd is
unserved_is_bad wanted file (Failed b a) is = absurd is
unserved_is_bad wanted file (Damaged damage) is = refl
unserved_is_bad wanted file (Behind ballot) is = absurd is
unserved_is_bad wanted file (Lacks kind) is = absurd is

-- the next drive's file is longer than any manifest's
pub look_long : (old : Search) (name : List ℕ) (n : ℕ) (was now : DriveView) → name ≡ manifest_name old.asked.id → LONGEST_FILE < n
    → WasSeen (Sized name n) was now → LookCall old (Err (Because (Damaged (Long n)))) was now
look_long old name n was now same more seen =
    let seen_so : WasSeen (Sized (manifest_name old.asked.id) n) was now = subst (λ (b : List ℕ). WasSeen (Sized b n) was now) same seen in
    (refl, (Sized (manifest_name old.asked.id) n, seen_so, inr (inl (n, refl, more, refl))))

-- it has no manifest that serves
pub look_unserved : (old : Search) (name file : List ℕ) (fault : FetchFault) (was now : DriveView) → name ≡ manifest_name old.asked.id → old.size ≡ Some (length file)
    → WasSeen (Showed name 0 file) was now → IsServed (wants old.asked) file (Err fault) → LookCall old (Err fault) was now
look_unserved old name file NoRoom was now same long seen served = tt
look_unserved old name file (Because why) was now same long seen served =
    let seen_so : WasSeen (Showed (manifest_name old.asked.id) 0 file) was now = subst (λ (b : List ℕ). WasSeen (Showed b 0 file) was now) same seen in
    (unserved_is_bad (wants old.asked) file why served, (Showed (manifest_name old.asked.id) 0 file, seen_so, inr (inr (inr (file, long, refl, served)))))

-- it has one
pub look_served : (old : Search) (name file : List ℕ) (m : Manifest) (was now : DriveView) → name ≡ manifest_name old.asked.id → old.size ≡ Some (length file)
    → WasSeen (Showed name 0 file) was now → IsServed (wants old.asked) file (Ok m) → LookCall old (Ok (File m)) was now
look_served old name file m was now same long seen served = (
  long ∙ ap (λ (b : List ℕ). Some (length b)) served.1,
  served.0,
  served.2,
  subst (λ (b : List ℕ). WasSeen (Showed b 0 (file_of m)) was now) same (subst (λ (b : List ℕ). WasSeen (Showed name 0 b) was now) served.1 seen),
)

-- one call was made before the memory was short
pub look_without : {D : Type 0} (ghosts : Ghosts D) (file name : List ℕ) (fault : FetchFault) (was now : D) → WasSeen (Showed name 0 file) (view ghosts was) (view ghosts now)
    → IdleOrCalled {T = SearchFind} ghosts (Err fault) was now
look_without ghosts file name NoRoom was now seen = inr (Showed name 0 file, seen)
look_without ghosts file name (Because why) was now seen = tt

module _ {D : Type 0} (ghosts : Ghosts D) (old new : Search) where
  -- no drive is left
  pub search_over : (drives : List D) → new ≡ old → old.tried ≡ (set_of old.asked).drives → length old.whys ≡ (set_of old.asked).drives
      → SearchSteps ghosts old new (Err (ShardQuorum old.whys)) drives drives
  search_over drives same all counted = record {
    calls = [];
    are = refl;
    made = omega arith;
    asked = ap (λ (s : Search). s.asked) same;
    goes_on = λ account is.
        subst (λ (s : Search). NoneServesIn (set_of s.asked) s.asked.wanted.print s.asked.id s.asked.wanted.reach old.whys (account ++ [])) (sym same)
        (subst (NoneServesIn (set_of old.asked) old.asked.wanted.print old.asked.id old.asked.wanted.reach old.whys) (sym (append-nil account))
        (none_serves old.asked old.tried old.size old.whys account is all counted));
  }

  -- a call gave the length of the next drive's file
  pub search_sizes : (n : ℕ) (drives : List D) (e now : D) → old.tried < length drives
      → (IsBitSet (set_of old.asked).out old.tried → ⊥) → new.asked ≡ old.asked → new.tried ≡ old.tried → new.size ≡ Some n → new.whys ≡ old.whys
      → LookCall old (Ok (Size n)) (view ghosts (slice_index_or drives old.tried e)) (view ghosts now)
      → SearchSteps ghosts old new (Ok None) drives (slice_set drives old.tried now)
  search_sizes n drives e now low in_use asked tried size whys call = record {
    calls = record { drive = old.tried; made = call.1.made } ∷ [];
    are = called_once ghosts (set_of old.asked).out old.tried (Sized (manifest_name old.asked.id) n) drives e now low in_use call.1;
    made = refl;
    asked = asked;
    goes_on = λ account so. rw (asked, tried, size, whys) (search_sized old.asked old.tried old.size old.whys account n call.1.made so call.0 call.1.tells);
  }

  -- or the manifest
  pub search_finds : (m : Manifest) (drives : List D) (e now : D) → old.tried < length drives
      → (IsBitSet (set_of old.asked).out old.tried → ⊥) → new.asked ≡ old.asked
      → LookCall old (Ok (File m)) (view ghosts (slice_index_or drives old.tried e)) (view ghosts now)
      → SearchSteps ghosts old new (Ok (Some m)) drives (slice_set drives old.tried now)
  search_finds m drives e now low in_use asked call = record {
    calls = record { drive = old.tried; made = call.3.made } ∷ [];
    are = called_once ghosts (set_of old.asked).out old.tried (Showed (manifest_name old.asked.id) 0 (file_of m)) drives e now low in_use call.3;
    made = refl;
    asked = asked;
    goes_on = λ account so. rw asked (search_found old.asked old.tried old.size old.whys account m call.3.made so call.0 call.1 call.2 call.3.tells);
  }

  -- there was not enough memory, before a call or after it
  pub search_without : (drives : List D) (e now : D) → old.tried < length drives
      → (IsBitSet (set_of old.asked).out old.tried → ⊥) → new.asked ≡ old.asked
      → (now ≡ slice_index_or drives old.tried e) ⊎ ((seen : Seen) × WasSeen seen (view ghosts (slice_index_or drives old.tried e)) (view ghosts now))
      → SearchSteps ghosts old new (Err NoMemory) drives (slice_set drives old.tried now)
  search_without drives e now low in_use asked (inl same) = record {
    calls = [];
    are = none_called ghosts drives old.tried e now same;
    made = omega arith;
    asked = asked;
    goes_on = λ account so. tt;
  }
  search_without drives e now low in_use asked (inr seen) = record {
    calls = record { drive = old.tried; made = seen.1.made } ∷ [];
    are = called_once ghosts (set_of old.asked).out old.tried seen.0 drives e now low in_use seen.1;
    made = omega arith;
    asked = asked;
    goes_on = λ account so. tt;
  }

  -- what the next drive's call told, after which it was left
  pub search_left : (why : Why) (drives : List D) (e now : D) → old.tried < length drives
      → (IsBitSet (set_of old.asked).out old.tried → ⊥) → old.tried < (set_of old.asked).drives → new.asked ≡ old.asked → new.size ≡ None
      → LookCall old (Err (Because why)) (view ghosts (slice_index_or drives old.tried e)) (view ghosts now)
      → PassesDrive (set_of old.asked) why old.tried new.tried old.whys new.whys
      → (calls : Account) × AreCalls ghosts (set_of old.asked).out calls drives (slice_set drives old.tried now) × (length calls ≡ 1)
      × ((account : Account) → IsSearchOf old account → IsSearchOf new (account ++ calls))
  search_left why drives e now low in_use inside asked none call passes =
      let seen = call.1.0 in
      let made = call.1.1.made in (
        record { drive = old.tried; made = made } ∷ [],
        called_once ghosts (set_of old.asked).out old.tried seen drives e now low in_use call.1.1,
        refl,
        λ account so. rw (asked, none) (search_passed old.asked old.tried new.tried old.size old.whys new.whys account why seen made call.1.1.tells so
            inside passes call.1.2),
      )

  -- others are left
  pub search_goes_past : (drives after : List D) → new.asked ≡ old.asked
      → ((calls : Account) × AreCalls ghosts (set_of old.asked).out calls drives after × (length calls ≡ 1)
      × ((account : Account) → IsSearchOf old account → IsSearchOf new (account ++ calls)))
      → SearchSteps ghosts old new (Ok None) drives after
  search_goes_past drives after asked left = record { calls = left.0; are = left.1; made = left.2; asked = asked; goes_on = left.3 }

  -- none is
  pub search_ends : (drives after : List D) → new.asked ≡ old.asked → new.tried ≡ (set_of new.asked).drives → length new.whys ≡ (set_of new.asked).drives
      → ((calls : Account) × AreCalls ghosts (set_of old.asked).out calls drives after × (length calls ≡ 1)
      × ((account : Account) → IsSearchOf old account → IsSearchOf new (account ++ calls)))
      → SearchSteps ghosts old new (Err (ShardQuorum new.whys)) drives after
  search_ends drives after asked all counted left = record {
    calls = left.0;
    are = left.1;
    made = omega (arith, left.2);
    asked = asked;
    goes_on = λ account so. none_serves new.asked new.tried new.size new.whys (account ++ left.0) (left.3 account so) all counted;
  }
