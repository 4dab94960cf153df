-- What a verdict concludes from is there.
use Rattle.std.proofs.Common.{◌≡◌, ℕ, ◌<◌, ◌≤◌, [], ◌∷◌, suc, List, Option, Some, None, length, map, ap, subst, sym, refl, inl, inr, arith}
use Rattle.std.specs.Option.{option_map}
use Rattle.std.proofs.lemmas.Bool.{cases_lt}
use Rattle.std.proofs.Math.ListN.{get_or-map}
use Rattle.register_file.specs.declared.record.RegFile.{RegFile}
use Rattle.register_file.specs.declared.record.Base.{Base}
use Rattle.register_file.specs.declared.record.Next.{Next}
use Rattle.vote_core.specs.Row.{base_height, height_of_next, next_height}
use Rattle.vote_core.specs.Verdict.{IsGreatestBase, good_rows, row_at, VerdictRule}
use Rattle.vote_core.specs.declared.row.Row.{Row}
use Rattle.vote_core.specs.declared.row.Row.TheVariants.{Bad, Good}
use Rattle.vote_core.specs.declared.verdict.Verdict.TheVariants.{Pending}
use Rattle.std.specs.Prelude.{Result, Ok, Err}
use Rattle.std.specs.Result.{IsErrAnd}
use Rattle.call_types.specs.declared.why.Why.{Why}
use Rattle.drive_base.specs.declared.drive.Drive.{Ghosts}
use Rattle.drive_base.specs.Plan.{data_drives, write_drives}
use Rattle.drive_base.specs.declared.plan.SetPlan.{SetPlan}
use Rattle.register_core.specs.Looks.{Forwards, IsConcluded, IsStopped}
use Rattle.register_core.specs.declared.faults.QuorumFault.{QuorumFault}
use Rattle.register_core.specs.declared.faults.QuorumFault.TheVariants.{ReadQuorum, WriteQuorum, Undecided, NoMemory}
use Rattle.register_core.specs.Found.{FindsBase, FindsNext, found_at}
use Rattle.register_core.specs.Records.{row_of, row_of_next}

-- the row of a lane is that of what was found there
pub row_found : (found : List (Option RegFile)) (k : ℕ) → row_at (map row_of found) k ≡ row_of (found_at found k)
row_found found k = get_or-map row_of found k None

-- where no base has a height no row is good
none_good : (rows : List Row) → ((k : ℕ) → k < length rows → base_height (row_at rows k) ≡ 0) → good_rows rows ≡ 0
none_good [] low = refl
none_good (Bad ∷ rows) low = none_good rows (λ k below. low (suc k) (omega arith))
none_good (Good base change next ∷ rows) low = let no : base_height (Good base change next) ≡ 0 = low 0 (omega arith) in absurd (omega arith)

-- a base that has a height is there
base_of_height : (read : Option RegFile) → 0 < base_height (row_of read) → (base : Base) × ((file : RegFile) × (read ≡ Some file) × (file.base ≡ base))
base_of_height None up = absurd (omega arith)
base_of_height (Some file) up = (file.base, (file, refl, refl))

-- a next that has a height is there
next_of_file : (file : RegFile) (next : Option Next) → file.next ≡ next → 0 < next_height (row_of (Some file))
    → (n : Next) × ((f : RegFile) × (Some file ≡ Some f) × (f.next ≡ Some n))
next_of_file file None is up =
    let none : 0 < height_of_next (option_map row_of_next None) = subst (λ (n : Option Next). 0 < height_of_next (option_map row_of_next n)) is up in
    absurd (omega arith)
next_of_file file (Some next) is up = (next, (file, refl, is))

next_of_height : (read : Option RegFile) → 0 < next_height (row_of read) → (next : Next) × ((file : RegFile) × (read ≡ Some file) × (file.next ≡ Some next))
next_of_height None up = absurd (omega arith)
next_of_height (Some file) up = next_of_file file file.next refl up

-- the greatest base of rows of which some are good is there
pub base_there : (d : ℕ) (found : List (Option RegFile)) (lane : ℕ) → 1 ≤ d → d ≤ good_rows (map row_of found) → IsGreatestBase (map row_of found) lane
    → (base : Base) × FindsBase found lane base
base_there d found lane some enough greatest =
    elim (cases_lt 0 (base_height (row_at (map row_of found) lane))) [
      | inl up ↦ base_of_height (found_at found lane) (subst (λ (row : Row). 0 < base_height row) (row_found found lane) up)
      | inr low ↦
          let none = none_good (map row_of found) (λ k below. let up = greatest.1 k Bad below in omega arith) in
          absurd (omega arith)
    ]

-- a next above a base is there
pub next_there : (found : List (Option RegFile)) (lane low : ℕ) → low < next_height (row_at (map row_of found) lane) → (next : Next) × FindsNext found lane next
next_there found lane low above = next_of_height (found_at found lane)
    (subst (λ (row : Row). 0 < next_height row) (row_found found lane) (omega arith))

-- a fault that was passed on
pub err_is : {T E : Type 0} (result : Result T E) (fault : E) → IsErrAnd result (λ e. e ≡ fault) → result ≡ Err fault
err_is (Ok value) fault is = absurd is
err_is (Err e) fault is = ap (λ x. Err x) is

module _ {D : Type 0} (ghosts : Ghosts D) where
  -- a pending change that may not be completed
  pub stopped : (T : Type 0) (set : SetPlan) (found : List (Option RegFile)) (letters : List Why) (base_lane lane k u : ℕ) (next : Next) (fault : QuorumFault)
      (old new : List D) → VerdictRule (write_drives set.drives set.parity) (data_drives set.drives set.parity) (map row_of found) (Pending base_lane lane k u)
      → FindsNext found lane next → Forwards ghosts {T = T} set next k u (Err fault) old new
      → IsConcluded ghosts set found letters (Err fault) old new
  stopped T set found letters base_lane lane k u next (ReadQuorum whys) old new verdict next_is refused = absurd refused
  stopped T set found letters base_lane lane k u next (WriteQuorum whys) old new verdict next_is refused = absurd refused
  stopped T set found letters base_lane lane k u next (Undecided had unread whys) old new verdict next_is refused =
      subst (λ (m : ℕ). IsStopped ghosts set found m unread whys old new) (sym refused.0)
      (subst (λ (m : ℕ). IsStopped ghosts set found k m whys old new) (sym refused.1)
      (record { base_lane = base_lane; lane = lane; verdict = verdict; next = next; next_is = next_is; lacks = refused.2 }))
  stopped T set found letters base_lane lane k u next NoMemory old new verdict next_is refused = tt
