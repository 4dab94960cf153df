-- A term that enough drives keep stays kept.
use Rattle.std.proofs.Common.{◌≡◌, ◌⊎◌, ◌<◌, ◌≤◌, ◌+◌, ℕ, List, Option, Some, length, refl, sym, ap, subst, ◌∙◌, inl, inr, arith}
use Rattle.std.specs.Prelude.{IsTrue, Result, Ok, Err}
use Rattle.std.specs.Str.{bytes_eq}
use Rattle.std.proofs.lemmas.Map.{update_same}
use Rattle.std.proofs.lemmas.Slice.Eq.{bytes_eq-Decides}
use Rattle.call_types.specs.declared.why.FileKind.TheVariants.{Format}
use Rattle.call_types.specs.declared.why.Why.{Why}
use Rattle.call_types.specs.declared.why.Why.TheVariants.{Good, Failed, Damaged, Behind, Lacks}
use Rattle.drive_base.specs.DriveSet.{count_in}
use Rattle.drive_base.specs.Files.{Files}
use Rattle.drive_base.specs.Plan.{write_drives}
use Rattle.drive_base.specs.View.{AllOnlyRead, DriveView, OnlyRead, view_at}
use Rattle.drive_base.specs.declared.plan.SetPlan.{SetPlan}
use Rattle.drive_base.proofs.ViewLemmas.{only_read_go_on, still_tell}
use Rattle.file_access.specs.Writing.{IsInPlace, Touches, WriteLeaves}
use Rattle.term_gate.specs.Deciding.{AllAnswered}
use Rattle.term_gate.specs.Formats.{format_name, format_of, loose_format_name}
use Rattle.term_gate.specs.Laws.{IsPlanFor, TermsStay}
use Rattle.term_gate.specs.Opening.{Follows, IsMade, IsUnmade, TakesTerm}
use Rattle.term_gate.specs.Reading.{why_at}
use Rattle.term_gate.specs.Table.{IsCanonical}
use Rattle.term_gate.specs.Terms.{EachHonest, EachTells, IsKept, KeepsTerm}
use Rattle.term_gate.specs.Writing.{AreWritten, DriveIsWritten, file_for}
use Rattle.term_gate.specs.declared.opening.Opened.{Opened}
use Rattle.term_gate.specs.declared.refusal.OpenRefusal.{OpenRefusal}
use Rattle.term_gate.specs.declared.refusal.OpenRefusal.TheVariants.{WrongSet, OpenQuorum, NoMemory, TermSpent, AuditFailed}
use Rattle.term_gate.proofs.OpenLemmas.{made_goes_on}
use Rattle.term_gate.proofs.TermLemmas.{above_answered, above_read}

-- a drive whose kept files stay keeps its term
keeps_same : (used : ℕ) (old new : DriveView) → new.files.kept ≡ old.files.kept → KeepsTerm used old → KeepsTerm used new
keeps_same used old new same keeps = record {
  found = keeps.found;
  canonical = keeps.canonical;
  kept = ap (λ (named : List ℕ → Option (List ℕ)). named format_name) same ∙ keeps.kept;
  least = keeps.least;
}

-- a drive that was only read keeps its term
pub keeps_read : (used : ℕ) (old new : DriveView) → IsTrue old.tells → OnlyRead old new → KeepsTerm used old → KeepsTerm used new
keeps_read used old new told only keeps = keeps_same used old new (ap (λ (files : Files). files.kept) (only.files told)) keeps

-- a drive where a format with a term not below was put in place keeps that
keeps_placed : (set : SetPlan) (used term k : ℕ) (loose : List ℕ) (old new : DriveView) → IsCanonical (format_of set k term) → used ≤ term
    → IsInPlace loose format_name (file_for set k term) old.files new.files → KeepsTerm used new
keeps_placed set used term k loose old new canonical low placed = record {
  found = format_of set k term;
  canonical = canonical;
  kept = ap (λ (named : List ℕ → Option (List ℕ)). named format_name) placed.kept
      ∙ update_same bytes_eq old.files.kept format_name (Some (file_for set k term)) format_name ((bytes_eq-Decides format_name format_name).1 refl);
  least = low;
}

keeps_either : (set : SetPlan) (used term k : ℕ) (loose : List ℕ) (old new : DriveView) → IsCanonical (format_of set k term) → used ≤ term
    → Touches loose old.files new.files ⊎ IsInPlace loose format_name (file_for set k term) old.files new.files → KeepsTerm used old → KeepsTerm used new
keeps_either set used term k loose old new canonical low (inl touched) keeps = keeps_same used old new touched.kept keeps
keeps_either set used term k loose old new canonical low (inr placed) keeps = keeps_placed set used term k loose old new canonical low placed

-- so over a write, whatever came of it
keeps_left : (set : SetPlan) (used term k : ℕ) (why : Why) (loose : List ℕ) (old new : DriveView) → IsCanonical (format_of set k term) → used ≤ term
    → WriteLeaves why loose format_name (file_for set k term) old.files new.files → KeepsTerm used old → KeepsTerm used new
keeps_left set used term k Good loose old new canonical low leaves keeps = keeps_placed set used term k loose old new canonical low leaves
keeps_left set used term k (Failed before after) loose old new canonical low leaves keeps = keeps_either set used term k loose old new canonical low leaves keeps
keeps_left set used term k (Damaged damage) loose old new canonical low leaves keeps = absurd leaves
keeps_left set used term k (Behind ballot) loose old new canonical low leaves keeps = absurd leaves
keeps_left set used term k (Lacks kind) loose old new canonical low leaves keeps = keeps_either set used term k loose old new canonical low leaves keeps

pub keeps_written : (set : SetPlan) (used term passed k : ℕ) (other why : Why) (old new : DriveView) → IsCanonical (format_of set k term) → used ≤ term
    → IsTrue old.tells
    → DriveIsWritten (file_for set k term) term passed other k why old new → KeepsTerm used old → KeepsTerm used new
keeps_written set used term passed k other why old new canonical low told (inl over) keeps = subst (KeepsTerm used) (sym over.stays) keeps
keeps_written set used term passed k other why old new canonical low told (inr (apart, written)) keeps =
    keeps_left set used term k why (loose_format_name term k) old new canonical low (written.leaves told) keeps

-- a term is kept by the same drives, where each of them keeps it
kept_on : (set : SetPlan) (used : ℕ) (old new : List DriveView) → length new ≡ length old
    → ((k : ℕ) → k < length old → KeepsTerm used (view_at old k) → KeepsTerm used (view_at new k)) → IsKept set used old → IsKept set used new
kept_on set used old new long each kept = record {
  holders = kept.holders;
  enough = subst (λ (n : ℕ). write_drives set.drives set.parity ≤ count_in kept.holders n) (sym long) kept.enough;
  each = λ k lt bit. let here : k < length old = omega (arith, lt, long) in each k here (kept.each k here bit);
}

kept_read : (set : SetPlan) (used : ℕ) (old new : List DriveView) → EachTells old → AllOnlyRead old new → IsKept set used old → IsKept set used new
kept_read set used old new tell only kept =
    kept_on set used old new only.long (λ k lt keeps. keeps_read used (view_at old k) (view_at new k) (tell k lt tt) (only.each k lt) keeps) kept

kept_written : (set : SetPlan) (used term passed : ℕ) (other : Why) (whys : List Why) (old new : List DriveView) → used ≤ term → EachTells old
    → AreWritten set term passed other whys old new → IsKept set used old → IsKept set used new
kept_written set used term passed other whys old new low tell wrote kept =
    kept_on set used old new wrote.drives.long
    (λ k lt keeps. keeps_written set used term passed k other (why_at whys k) (view_at old k) (view_at new k) (wrote.canonical k lt) low (tell k lt tt)
    (wrote.drives.each k lt) keeps)
    kept

kept_same : (set : SetPlan) (used : ℕ) (old new : List DriveView) → new ≡ old → IsKept set used old → IsKept set used new
kept_same set used old new same kept = subst (IsKept set used) (sym same) kept

kept_taken : (set : SetPlan) (used top out : ℕ) (result : Result Opened OpenRefusal) (old new : List DriveView) → used ≤ top → EachTells old
    → TakesTerm set top out result old new → IsKept set used old → IsKept set used new
kept_taken set used top out (Ok opened) old new low tell takes kept =
    kept_written set used (top + 1) out (Lacks Format) takes.0 old new (omega (arith, low)) tell takes.2.wrote kept
kept_taken set used top out (Err (WrongSet found wanted)) old new low tell takes kept = absurd takes
kept_taken set used top out (Err (OpenQuorum whys)) old new low tell takes kept =
    kept_written set used (top + 1) out (Lacks Format) whys old new (omega (arith, low)) tell takes.1.wrote kept
kept_taken set used top out (Err NoMemory) old new low tell takes kept = kept_same set used old new takes.0 kept
kept_taken set used top out (Err TermSpent) old new low tell takes kept = kept_same set used old new takes.0 kept
kept_taken set used top out (Err (AuditFailed before after)) old new low tell takes kept = absurd takes

kept_made : (set : SetPlan) (used : ℕ) (whys written : List Why) (old new : List DriveView) → used ≤ 0 → EachTells old
    → IsMade set whys written old new → IsKept set used old → IsKept set used new
kept_made set used whys written old new low tell made kept = kept_written set used 0 made.passed Good written old new low tell made.wrote kept

kept_unmade : (set : SetPlan) (used : ℕ) (whys told : List Why) (old new : List DriveView) → (AllAnswered whys → used ≤ 0) → EachTells old
    → IsUnmade set whys told old new → IsKept set used old → IsKept set used new
kept_unmade set used whys told old new low tell (inl refused) kept = kept_same set used old new refused.2 kept
kept_unmade set used whys told old new low tell (inr (made, bad)) kept = kept_made set used whys told old new (low made.answered) tell made kept

-- so over all that followed the reads
kept_follows : (set : SetPlan) (result : Result Opened OpenRefusal) (old new : List DriveView) (used : ℕ) → IsPlanFor set old → EachTells old → EachHonest old
    → Follows set result old new → IsKept set used old → IsKept set used new
kept_follows set result old new used plan tell honest all kept =
    let go = only_read_go_on old all.mid all.read.read.only in
    let tell_mid : EachTells all.mid = still_tell (λ k. Unit {0}) old all.mid go tell in
    let kept_mid = kept_read set used old all.mid tell all.read.read.only kept in
    let answered : AllAnswered all.whys → used ≤ all.top =
    (λ a. above_answered set all.formats all.whys all.top used old all.mid plan.four plan.half tell honest all.read.read all.read.top_is a kept) in
    elim all.goes_on [
      | inl (making, inl (made_at, written, made, good, takes)) ↦
          let low : used ≤ 0 = (let below = answered made.answered in omega (arith, below, making.0)) in
          kept_taken set used 0 0 result made_at new low (still_tell (λ k. Unit {0}) all.mid made_at
          (made_goes_on set all.whys written all.mid made_at made) tell_mid) takes
          (kept_made set used all.whys written all.mid made_at low tell_mid made kept_mid)
      | inl (making, inr (inl (told, is, unmade))) ↦
          kept_unmade set used all.whys told all.mid new (λ a. let below = answered a in omega (arith, below, making.0)) tell_mid unmade kept_mid
      | inl (making, inr (inr (is, same))) ↦ kept_same set used all.mid new same kept_mid
      | inr (made, (good, counts, inl (enough, (out, absent, takes)))) ↦
          kept_taken set used all.top out result all.mid new
          (above_read set all.formats all.whys all.top used good old all.mid plan.four plan.half plan.long tell honest all.read.read all.read.top_is counts enough kept)
          tell_mid takes kept_mid
      | inr (made, (good, counts, inr (few, is, same))) ↦ kept_same set used all.mid new same kept_mid
    ]

pub terms_stay : TermsStay
terms_stay set (Ok opened) old new plan opens tell honest used kept = kept_follows set (Ok opened) old new used plan tell honest opens kept
terms_stay set (Err (WrongSet found wanted)) old new plan opens tell honest used kept = kept_read set used old new tell opens.read.only kept
terms_stay set (Err (OpenQuorum whys)) old new plan opens tell honest used kept = kept_follows set (Err (OpenQuorum whys)) old new used plan tell honest opens kept
terms_stay set (Err NoMemory) old new plan (inl only) tell honest used kept = kept_read set used old new tell only kept
terms_stay set (Err NoMemory) old new plan (inr all) tell honest used kept = kept_follows set (Err NoMemory) old new used plan tell honest all kept
terms_stay set (Err TermSpent) old new plan opens tell honest used kept = kept_follows set (Err TermSpent) old new used plan tell honest opens kept
terms_stay set (Err (AuditFailed before after)) old new plan opens tell honest used kept = absurd opens
