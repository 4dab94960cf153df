-- A drive that keeps a format and shows it honestly keeps one after an opening, and isn't out of it.
use Rattle.std.proofs.Common.{◌≡◌, ◌<◌, ◌+◌, ◌^◌, ℕ, List, length, sym, subst, inl, inr, arith}
use Rattle.std.specs.Prelude.{IsTrue, Result, Ok, Err}
use Rattle.std.specs.Int.{IsBitSet}
use Rattle.std.specs.Int.Bits.{and_zero_l}
use Rattle.call_types.specs.declared.why.FileKind.TheVariants.{Format}
use Rattle.call_types.specs.declared.why.Why.{Why}
use Rattle.call_types.specs.declared.why.Why.TheVariants.{Good, Lacks}
use Rattle.drive_base.specs.HonestDamage.{IsHonestAt}
use Rattle.drive_base.specs.View.{AllGoOn, AllOnlyRead, DriveView, view_at}
use Rattle.drive_base.specs.declared.plan.SetPlan.{SetPlan}
use Rattle.drive_base.proofs.ViewLemmas.{only_read_go_on}
use Rattle.term_gate.specs.Formats.{IsUnsealed, format_name}
use Rattle.term_gate.specs.Laws.{FormatsStay}
use Rattle.term_gate.specs.Opening.{Follows, IsMadeAndOpened, IsOpenedOrNot, IsUnmade, TakesTerm}
use Rattle.term_gate.specs.Reading.{format_at, why_at}
use Rattle.term_gate.specs.Terms.{KeepsTerm}
use Rattle.term_gate.specs.Writing.{AreWritten}
use Rattle.term_gate.specs.declared.opening.Opened.{Opened}
use Rattle.term_gate.specs.declared.refusal.OpenRefusal.{OpenRefusal}
use Rattle.term_gate.specs.declared.refusal.OpenRefusal.TheVariants.{WrongSet, OpenQuorum, NoMemory, TermSpent, AuditFailed}
use Rattle.term_gate.proofs.OpenLemmas.{made_goes_on}
use Rattle.term_gate.proofs.StayLemmas.{keeps_read, keeps_written}
use Rattle.term_gate.proofs.TermLemmas.{lacks_none, read_lacks}

abbrev is_ok : Result Opened OpenRefusal → Type 0
is_ok (Ok opened) = Unit {0}
is_ok (Err why) = ⊥

module _ (set : SetPlan) (k : ℕ) where
  -- one drive of some goes on to tell
  tells_on : (old new : List DriveView) → k < length old → AllGoOn old new → IsTrue (view_at old k).tells → IsTrue (view_at new k).tells
  tells_on old new lt go told = subst IsTrue (sym (go.each k lt).tells) told

  -- it keeps a format where it was only read
  holds_read : (old new : List DriveView) → k < length old → IsTrue (view_at old k).tells → AllOnlyRead old new → KeepsTerm 0 (view_at old k)
      → KeepsTerm 0 (view_at new k)
  holds_read old new lt told only keeps = keeps_read 0 (view_at old k) (view_at new k) told (only.each k lt) keeps

  -- where formats were written, whatever came of it
  holds_written : (term passed : ℕ) (other : Why) (whys : List Why) (old new : List DriveView) → k < length old → IsTrue (view_at old k).tells
      → AreWritten set term passed other whys old new → KeepsTerm 0 (view_at old k) → KeepsTerm 0 (view_at new k)
  holds_written term passed other whys old new lt told wrote keeps =
      keeps_written set 0 term passed k other (why_at whys k) (view_at old k) (view_at new k) (wrote.canonical k lt) (omega arith) told (wrote.drives.each k lt) keeps

  -- and where nothing was done
  holds_same : (old new : List DriveView) → new ≡ old → KeepsTerm 0 (view_at old k) → KeepsTerm 0 (view_at new k)
  holds_same old new same keeps = subst (λ (drives : List DriveView). KeepsTerm 0 (view_at drives k)) (sym same) keeps

  -- so over the taking of a term
  holds_taken : (top out : ℕ) (result : Result Opened OpenRefusal) (old new : List DriveView) → k < length old → IsTrue (view_at old k).tells
      → TakesTerm set top out result old new → KeepsTerm 0 (view_at old k) → KeepsTerm 0 (view_at new k)
  holds_taken top out (Ok opened) old new lt told takes keeps = holds_written (top + 1) out (Lacks Format) takes.0 old new lt told takes.2.wrote keeps
  holds_taken top out (Err (WrongSet found wanted)) old new lt told takes keeps = absurd takes
  holds_taken top out (Err (OpenQuorum whys)) old new lt told takes keeps = holds_written (top + 1) out (Lacks Format) whys old new lt told takes.1.wrote keeps
  holds_taken top out (Err NoMemory) old new lt told takes keeps = holds_same old new takes.0 keeps
  holds_taken top out (Err TermSpent) old new lt told takes keeps = holds_same old new takes.0 keeps
  holds_taken top out (Err (AuditFailed before after)) old new lt told takes keeps = absurd takes

  holds_unmade : (whys told : List Why) (old new : List DriveView) → k < length old → IsTrue (view_at old k).tells → IsUnmade set whys told old new
      → KeepsTerm 0 (view_at old k) → KeepsTerm 0 (view_at new k)
  holds_unmade whys told old new lt tell (inl refused) keeps = holds_same old new refused.2 keeps
  holds_unmade whys told old new lt tell (inr (made, bad)) keeps = holds_written 0 made.passed Good told old new lt tell made.wrote keeps

  -- over the making of a set
  holds_made : (whys : List Why) (result : Result Opened OpenRefusal) (old new : List DriveView) → k < length old → IsTrue (view_at old k).tells
      → IsMadeAndOpened set whys result old new → KeepsTerm 0 (view_at old k) → KeepsTerm 0 (view_at new k)
  holds_made whys result old new lt told (inl (mid, written, made, good, takes)) keeps =
      let go = made_goes_on set whys written old mid made in
      holds_taken 0 0 result mid new (let same = go.long in omega (arith, same, lt)) (tells_on old mid lt go told) takes
      (holds_written 0 made.passed Good written old mid lt told made.wrote keeps)
  holds_made whys result old new lt told (inr (inl (letters, is, unmade))) keeps = holds_unmade whys letters old new lt told unmade keeps
  holds_made whys result old new lt told (inr (inr (is, same))) keeps = holds_same old new same keeps

  -- over the opening of one that was made before
  holds_again : (whys : List Why) (top : ℕ) (result : Result Opened OpenRefusal) (old new : List DriveView) → k < length old → IsTrue (view_at old k).tells
      → IsOpenedOrNot set whys top result old new → KeepsTerm 0 (view_at old k) → KeepsTerm 0 (view_at new k)
  holds_again whys top result old new lt told (good, counts, inl (enough, (out, absent, takes))) keeps = holds_taken top out result old new lt told takes keeps
  holds_again whys top result old new lt told (good, counts, inr (few, is, same)) keeps = holds_same old new same keeps

  -- and over all that followed the reads
  holds_follows : (result : Result Opened OpenRefusal) (old new : List DriveView) → k < length old → IsTrue (view_at old k).tells → Follows set result old new
      → KeepsTerm 0 (view_at old k) → KeepsTerm 0 (view_at new k)
  holds_follows result old new lt told all keeps =
      let only = all.read.read.only in
      let long = only.long in
      let here : k < length all.mid = omega (arith, long, lt) in
      let tells = tells_on old all.mid lt (only_read_go_on old all.mid only) told in
      let mid = holds_read old all.mid lt told only keeps in
      elim all.goes_on [
        | inl (making, being) ↦ holds_made all.whys result all.mid new here tells being mid
        | inr (made, again) ↦ holds_again all.whys all.top result all.mid new here tells again mid
      ]

  -- ---- it isn't out

  -- of a set that is being made none is
  in_made : (opened : Opened) (whys : List Why) (old new : List DriveView) → IsMadeAndOpened set whys (Ok opened) old new → IsBitSet opened.out k → ⊥
  in_made opened whys old new (inl (mid, written, made, good, (letters, taken, takes, enough, term_is, out_is))) bit =
      subst (λ (mask : ℕ). IsBitSet mask k) out_is bit (and_zero_l (2 ^ k))
  in_made opened whys old new (inr (inl (letters, refused, unmade))) bit = subst is_ok refused tt
  in_made opened whys old new (inr (inr (refused, same))) bit = subst is_ok refused tt

  -- of another those are that show none
  in_again : (opened : Opened) (old new : List DriveView) (all : Follows set (Ok opened) old new) → k < length old → IsTrue (view_at old k).tells
      → IsHonestAt IsUnsealed format_name (view_at old k).files → KeepsTerm 0 (view_at old k)
      → IsOpenedOrNot set all.whys all.top (Ok opened) all.mid new → IsBitSet opened.out k → ⊥
  in_again opened old new all lt told honest keeps (good, counts, inl (enough, (out, absent, (letters, taken, takes, fit, term_is, out_is)))) bit =
      let lacks = ((absent k).0 (subst (λ (mask : ℕ). IsBitSet mask k) out_is bit)).1 in
      let none = read_lacks (format_at all.formats k) (why_at all.whys k) (view_at old k) (view_at all.mid k) (all.read.read.drives.each k lt) lacks told in
      lacks_none 0 (view_at old k) none honest keeps
  in_again opened old new all lt told honest keeps (good, counts, inr (few, refused, same)) bit = subst is_ok refused tt

  not_out : (opened : Opened) (old new : List DriveView) → Follows set (Ok opened) old new → k < length old → IsTrue (view_at old k).tells
      → IsHonestAt IsUnsealed format_name (view_at old k).files → KeepsTerm 0 (view_at old k) → IsBitSet opened.out k → ⊥
  not_out opened old new all lt told honest keeps bit = elim all.goes_on [
    | inl being ↦ in_made opened all.whys all.mid new being.1 bit
    | inr again ↦ in_again opened old new all lt told honest keeps again.1 bit
  ]

pub formats_stay : FormatsStay
formats_stay set (Ok opened) old new long opens k lt told keeps honest =
    (holds_follows set k (Ok opened) old new lt told opens keeps, λ bit. not_out set k opened old new opens lt told honest keeps bit)
formats_stay set (Err (WrongSet found wanted)) old new long opens k lt told keeps honest = (holds_read set k old new lt told opens.read.only keeps, tt)
formats_stay set (Err (OpenQuorum whys)) old new long opens k lt told keeps honest =
    (holds_follows set k (Err (OpenQuorum whys)) old new lt told opens keeps, tt)
formats_stay set (Err NoMemory) old new long (inl only) k lt told keeps honest = (holds_read set k old new lt told only keeps, tt)
formats_stay set (Err NoMemory) old new long (inr all) k lt told keeps honest = (holds_follows set k (Err NoMemory) old new lt told all keeps, tt)
formats_stay set (Err TermSpent) old new long opens k lt told keeps honest = (holds_follows set k (Err TermSpent) old new lt told opens keeps, tt)
formats_stay set (Err (AuditFailed before after)) old new long opens k lt told keeps honest = absurd opens
