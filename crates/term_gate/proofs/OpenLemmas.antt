-- What follows from what an opening did: drives go on, its answer is told by its cause, and its term is fresh.
use Rattle.std.proofs.Common.{◌≡◌, ◌<◌, ◌≤◌, ◌+◌, ◌^◌, ℕ, List, Option, None, Some, length, lit<, refl, sym, ap, subst, ◌∙◌, inl, inr, arith}
use Rattle.std.specs.Prelude.{Result, Ok, Err, IfOk}
use Rattle.call_types.specs.Good.{IsGoodMask}
use Rattle.call_types.specs.declared.why.FileKind.TheVariants.{Format}
use Rattle.call_types.specs.declared.why.Why.{Why}
use Rattle.call_types.specs.declared.why.Why.TheVariants.{Lacks}
use Rattle.drive_base.specs.DriveSet.{count_in}
use Rattle.drive_base.specs.View.{AllGoOn, DriveView, GoesOn, view_at}
use Rattle.drive_base.specs.declared.plan.SetPlan.{SetPlan}
use Rattle.drive_base.proofs.ViewLemmas.{only_read_go_on, still_tell, two_calls_go_on, untouched_go_on}
use Rattle.term_gate.specs.Deciding.{AreAbsent, ChecksSet, IsTop, term_of}
use Rattle.term_gate.specs.Opening.{Follows, GoesOnFrom, IsBeingMade, IsMade, IsUnmade, Opens, TakesTerm, TermIsWritten}
use Rattle.term_gate.specs.Reading.{AreRead, DriveIsRead, format_at, why_at}
use Rattle.term_gate.specs.Terms.{EachTells, IsFresh, IsKept}
use Rattle.term_gate.specs.Writing.{AreWritten, DriveIsWritten, file_for}
use Rattle.term_gate.specs.declared.opening.Opened.{Opened}
use Rattle.term_gate.specs.declared.record.Format.{Format as DriveFormat}
use Rattle.term_gate.specs.declared.refusal.OpenRefusal.{OpenRefusal}
use Rattle.term_gate.specs.declared.refusal.OpenRefusal.TheVariants.{WrongSet, OpenQuorum, NoMemory, TermSpent, AuditFailed}
use Rattle.term_gate.proofs.TermLemmas.{above_answered, above_read, counts_some, some_in, term_kept}

-- drives that stay go on
stay : (old new : List DriveView) → new ≡ old → AllGoOn old new
stay old new same = subst (AllGoOn old) (sym same) (untouched_go_on old)

-- a drive goes on over a write
one_goes_on : (file : List ℕ) (term passed : ℕ) (other : Why) (k : ℕ) (why : Why) (old new : DriveView)
    → DriveIsWritten file term passed other k why old new → GoesOn old new
one_goes_on file term passed other k why old new (inl over) =
    subst (GoesOn old) (sym over.stays) (record { tells = refl; count = omega arith })
one_goes_on file term passed other k why old new (inr (apart, written)) = written.goes_on

-- drives go on over the writes
pub writes_go_on : (set : SetPlan) (term passed : ℕ) (other : Why) (whys : List Why) (old new : List DriveView)
    → AreWritten set term passed other whys old new → AllGoOn old new
writes_go_on set term passed other whys old new wrote = record {
  long = wrote.drives.long;
  each = λ k lt. one_goes_on (file_for set k term) term passed other k (why_at whys k) (view_at old k) (view_at new k) (wrote.drives.each k lt);
}

pub takes_go_on : (set : SetPlan) (top out : ℕ) (result : Result Opened OpenRefusal) (old new : List DriveView)
    → TakesTerm set top out result old new → AllGoOn old new
takes_go_on set top out (Ok opened) old new takes = writes_go_on set (top + 1) out (Lacks Format) takes.0 old new takes.2.wrote
takes_go_on set top out (Err (WrongSet found wanted)) old new takes = absurd takes
takes_go_on set top out (Err (OpenQuorum whys)) old new takes = writes_go_on set (top + 1) out (Lacks Format) whys old new takes.1.wrote
takes_go_on set top out (Err NoMemory) old new takes = stay old new takes.0
takes_go_on set top out (Err TermSpent) old new takes = stay old new takes.0
takes_go_on set top out (Err (AuditFailed before after)) old new takes = absurd takes

pub made_goes_on : (set : SetPlan) (whys written : List Why) (old new : List DriveView) → IsMade set whys written old new → AllGoOn old new
made_goes_on set whys written old new made = writes_go_on set 0 made.passed _ written old new made.wrote

unmade_goes_on : (set : SetPlan) (whys told : List Why) (old new : List DriveView) → IsUnmade set whys told old new → AllGoOn old new
unmade_goes_on set whys told old new (inl refused) = stay old new refused.2
unmade_goes_on set whys told old new (inr (made, bad)) = made_goes_on set whys told old new made

pub from_goes_on : (set : SetPlan) (whys : List Why) (top : ℕ) (result : Result Opened OpenRefusal) (old new : List DriveView)
    → GoesOnFrom set whys top result old new → AllGoOn old new
from_goes_on set whys top result old new (inl (making, inl (mid, written, made, good, takes))) =
    two_calls_go_on old mid new (made_goes_on set whys written old mid made) (takes_go_on set 0 0 result mid new takes)
from_goes_on set whys top result old new (inl (making, inr (inl (told, is, unmade)))) = unmade_goes_on set whys told old new unmade
from_goes_on set whys top result old new (inl (making, inr (inr (is, same)))) = stay old new same
from_goes_on set whys top result old new (inr (made, (good, counts, inl (enough, (out, absent, takes))))) = takes_go_on set top out result old new takes
from_goes_on set whys top result old new (inr (made, (good, counts, inr (few, is, same)))) = stay old new same

-- the drives go on over all that followed
pub follows_go_on : (set : SetPlan) (result : Result Opened OpenRefusal) (old new : List DriveView) → Follows set result old new → AllGoOn old new
follows_go_on set result old new all =
    two_calls_go_on old all.mid new (only_read_go_on old all.mid all.read.read.only) (from_goes_on set all.whys all.top result all.mid new all.goes_on)

-- an answer that no opening gives once the formats are all of the set
no_other : (set : SetPlan) (whys : List Why) (top : ℕ) (refusal : OpenRefusal) (old new : List DriveView)
    → ((told : List Why) → refusal ≡ OpenQuorum told → ⊥) → (refusal ≡ NoMemory → ⊥)
    → ((low out : ℕ) (from to : List DriveView) → TakesTerm set low out (Err refusal) from to → ⊥)
    → GoesOnFrom set whys top (Err refusal) old new → ⊥
no_other set whys top refusal old new no_quorum no_memory no_take (inl (making, inl (mid, written, made, good, takes))) = no_take 0 0 mid new takes
no_other set whys top refusal old new no_quorum no_memory no_take (inl (making, inr (inl (told, is, unmade)))) =
    no_quorum told (let e : Err refusal ≡ Err (OpenQuorum told) = is in cc)
no_other set whys top refusal old new no_quorum no_memory no_take (inl (making, inr (inr (is, same)))) = no_memory (let e : Err refusal ≡ Err NoMemory = is in cc)
no_other set whys top refusal old new no_quorum no_memory no_take (inr (made, (good, counts, inl (enough, (out, absent, takes))))) = no_take top out old new takes
no_other set whys top refusal old new no_quorum no_memory no_take (inr (made, (good, counts, inr (few, is, same)))) =
    no_quorum whys (let e : Err refusal ≡ Err (OpenQuorum whys) = is in cc)

-- what followed is what opening answers
pub follows_opens : (set : SetPlan) (result : Result Opened OpenRefusal) (old new : List DriveView) → Follows set result old new → Opens set result old new
follows_opens set (Ok opened) old new all = all
follows_opens set (Err (WrongSet found wanted)) old new all =
    absurd (no_other set all.whys all.top (WrongSet found wanted) all.mid new (λ told e. cc) (λ e. cc) (λ low out from to takes. takes) all.goes_on)
follows_opens set (Err (OpenQuorum whys)) old new all = all
follows_opens set (Err NoMemory) old new all = inr all
follows_opens set (Err TermSpent) old new all = all
follows_opens set (Err (AuditFailed before after)) old new all =
    absurd (no_other set all.whys all.top (AuditFailed before after) all.mid new (λ told e. cc) (λ e. cc) (λ low out from to takes. takes) all.goes_on)

-- the term that was taken is kept
taken_kept : (set : SetPlan) (top out : ℕ) (opened : Opened) (old new : List DriveView) → EachTells old → TakesTerm set top out (Ok opened) old new
    → IsKept set opened.term new
taken_kept set top out opened old new tell (whys, taken, written, enough, term_is, out_is) =
    subst (λ (term : ℕ). IsKept set term new) (sym term_is) (term_kept set (top + 1) out taken whys old new tell written.wrote written.took enough)

-- a term that was taken is above the top
taken_above : (set : SetPlan) (top out used : ℕ) (opened : Opened) (old new : List DriveView) → TakesTerm set top out (Ok opened) old new
    → used ≤ top → used < opened.term
taken_above set top out used opened old new (whys, taken, written, enough, term_is, out_is) low = omega (arith, low, term_is)

-- the term of a set that was opened is fresh
pub opened_fresh : (set : SetPlan) (opened : Opened) (old new : List DriveView) → 4 ≤ set.drives → set.parity + set.parity ≤ set.drives → length old ≡ set.drives
    → Follows set (Ok opened) old new → IsFresh set opened old new
opened_fresh set opened old new four half long all =
    let to_mid = only_read_go_on old all.mid all.read.read.only in
    elim all.goes_on [
      | inl (making, inl (made_at, written, made, good, takes)) ↦ record {
        kept = λ tell. taken_kept set 0 0 opened made_at new
            (still_tell (λ k. Unit {0}) all.mid made_at (made_goes_on set all.whys written all.mid made_at made)
            (still_tell (λ k. Unit {0}) old all.mid to_mid tell)) takes;
        above = λ tell honest used kept. taken_above set 0 0 used opened made_at new takes
            (let low = above_answered set all.formats all.whys all.top used old all.mid four half tell honest all.read.read all.read.top_is made.answered kept in
            let none = making.0 in omega (arith, low, none));
      }
      | inl (making, inr (inl (told, is, unmade))) ↦ absurd (let e : Ok opened ≡ Err (OpenQuorum told) = is in cc)
      | inl (making, inr (inr (is, same))) ↦ absurd (let e : Ok opened ≡ Err NoMemory = is in cc)
      | inr (made, (good, counts, inl (enough, (out, absent, takes)))) ↦ record {
        kept = λ tell. taken_kept set all.top out opened all.mid new (still_tell (λ k. Unit {0}) old all.mid to_mid tell) takes;
        above = λ tell honest used kept. taken_above set all.top out used opened all.mid new takes
            (above_read set all.formats all.whys all.top used good old all.mid four half long tell honest all.read.read all.read.top_is counts enough kept);
      }
      | inr (made, (good, counts, inr (few, is, same))) ↦ absurd (let e : Ok opened ≡ Err (OpenQuorum all.whys) = is in cc)
    ]

-- the term of each answer is fresh
pub answer_fresh : (set : SetPlan) (result : Result Opened OpenRefusal) (old new : List DriveView) → 4 ≤ set.drives → set.parity + set.parity ≤ set.drives
    → length old ≡ set.drives → Follows set result old new → IfOk result (λ opened. IsFresh set opened old new)
answer_fresh set (Ok opened) old new four half long all = opened_fresh set opened old new four half long all
answer_fresh set (Err refusal) old new four half long all = tt

-- a set that was refused by its formats
pub check_refused : (set : SetPlan) (formats : List (Option DriveFormat)) (whys : List Why) (refusal : OpenRefusal) (old new : List DriveView)
    → AreRead formats whys old new → ChecksSet {T = Unit {0}} set formats (Err refusal) → Opens set (Err refusal) old new
check_refused set formats whys (WrongSet found wanted) old new read refused = record { formats = formats; whys = whys; read = read; other = refused }
check_refused set formats whys (OpenQuorum told) old new read refused = absurd refused
check_refused set formats whys NoMemory old new read refused = absurd refused
check_refused set formats whys TermSpent old new read refused = absurd refused
check_refused set formats whys (AuditFailed before after) old new read refused = absurd refused

-- a format that was read has a term below 2^48
read_below : (f : Option DriveFormat) (why : Why) (old new : DriveView) → DriveIsRead f why old new → term_of f < 2 ^ 48
read_below (Some f) why old new is = is.2.term
read_below None why old new is = lit< tt

-- so has the greatest
pub top_below : (formats : List (Option DriveFormat)) (whys : List Why) (top : ℕ) (old new : List DriveView) → AreRead formats whys old new → IsTop formats top
    → top < 2 ^ 48
top_below formats whys top old new read top_is = elim top_is.had [
  | inl none ↦ subst (λ (t : ℕ). t < 2 ^ 48) (sym none) (lit< tt)
  | inr (k, lt, is) ↦ subst (λ (t : ℕ). t < 2 ^ 48) is
      (read_below (format_at formats k) (why_at whys k) (view_at old k) (view_at new k) (read.drives.each k (omega (arith, lt, read.counted))))
]

-- the term above the top was written, and the drives that took it are counted by a set of them
pub term_written : (set : SetPlan) (top out : ℕ) (whys : List Why) (mask drives count : ℕ) (old new : List DriveView) → length old ≡ set.drives → top + 1 < 2 ^ 48
    → AreWritten set (top + 1) out (Lacks Format) whys old new → IsGoodMask whys mask → drives ≡ mask → count ≡ count_in drives set.drives
    → TermIsWritten set top out whys count old new
term_written set top out whys mask drives count old new long below wrote good is counted = record {
  below = below;
  wrote = wrote;
  took = record {
    mask = mask;
    good = good;
    count_is = counted ∙ ap (λ (m : ℕ). count_in m set.drives) is ∙ ap (count_in mask) (sym (wrote.lettered ∙ long));
  };
}

-- a set is being made where some drive has no format and no term was read
pub is_making : (whys : List Why) (top mask count n : ℕ) → AreAbsent whys mask → count ≡ count_in mask n → 0 < count → top ≡ 0 → IsBeingMade whys top
is_making whys top mask count n absent counted some none =
    let found = some_in mask n (omega (arith, counted, some)) in
    let is = (absent found.0).0 found.2 in
    (none, (found.0, is.0, is.1))

-- it isn't where every drive has one
pub none_lacks : (whys : List Why) (top mask count n : ℕ) → AreAbsent whys mask → length whys ≡ n → count ≡ count_in mask n → count ≤ 0 → IsBeingMade whys top → ⊥
none_lacks whys top mask count n absent long counted none (low, (k, lt, lacks)) =
    let one = counts_some mask n k (omega (arith, lt, long)) ((absent k).1 (lt, lacks)) in
    omega (arith, one, counted, none)
