-- What an opening of a set leaves on its drives under all names but those of formats, and that damage of formats and manifests stays honest.
use Rattle.std.proofs.Common.{◌≡◌, ◌⊎◌, ◌+◌, ◌<◌, ◌∙◌, ℕ, false, List, Option, Some, length, refl, sym, ap, subst, inl, inr, arith}
use Rattle.std.specs.Prelude.{IsTrue, Result, Ok, Err}
use Rattle.std.specs.Int.{IsBitSet}
use Rattle.std.specs.Str.{bytes_eq}
use Rattle.std.proofs.lemmas.Map.{update_other, update_same}
use Rattle.std.proofs.lemmas.Slice.Eq.{bytes_eq-Decides}
use Rattle.call_types.specs.declared.why.FileKind.TheVariants.{Format}
use Rattle.call_types.specs.declared.why.Why.{Why}
use Rattle.call_types.specs.declared.why.Why.TheVariants.{Good, Failed, Damaged, Behind, Lacks}
use Rattle.drive_base.specs.Files.{Files}
use Rattle.drive_base.specs.HonestDamage.{IsHonestAt, KeepsHonesty}
use Rattle.drive_base.specs.View.{AllOnlyRead, AtEach, DriveView, OnlyRead, view_at}
use Rattle.drive_base.specs.declared.plan.SetPlan.{SetPlan}
use Rattle.file_access.specs.Writing.{IsInPlace, Touches, WriteLeaves}
use Rattle.body_print.specs.Names.{manifest_name}
use Rattle.stamp_id.specs.declared.version.VersionId.{VersionId}
use Rattle.op_steps.specs.Claims.{HasHonestManifests, IsUnsealed as IsNoManifest, ShowsNoOther}
use Rattle.op_steps.proofs.DataLemmas.{no_other_stays}
use Rattle.term_gate.specs.Formats.{IsUnsealed, format_name, loose_format_name}
use Rattle.term_gate.specs.Opening.{Follows, IsMadeAndOpened, IsOpenedOrNot, Opens, TakesTerm}
use Rattle.term_gate.specs.Reading.{why_at}
use Rattle.term_gate.specs.Terms.{EachHonest, EachTells}
use Rattle.term_gate.specs.Writing.{AreWritten, DriveIsWritten, file_for}
use Rattle.term_gate.specs.declared.opening.Opened.{Opened}
use Rattle.term_gate.specs.declared.refusal.OpenRefusal.{OpenRefusal}
use Rattle.term_gate.specs.declared.refusal.OpenRefusal.TheVariants.{AuditFailed, NoMemory, OpenQuorum, TermSpent, WrongSet}

-- a name isn't the one under which a format is written
abbrev IsNoLooseFormat : List ℕ → Type 0
IsNoLooseFormat name = (term k : ℕ) → bytes_eq (loose_format_name term k) name ≡ false

-- a drive goes on to tell, has what it had under all names but those of formats, and keeps damage of its format honest
pub record SparesOthers (old new : DriveView) : Type 0 where
  pub tells : new.tells ≡ old.tells
  pub kept : (name : List ℕ) → bytes_eq format_name name ≡ false → new.files.kept name ≡ old.files.kept name
  pub shown : (name : List ℕ) → bytes_eq format_name name ≡ false → new.files.shown name ≡ old.files.shown name
  pub loose : (name : List ℕ) → IsNoLooseFormat name → new.files.loose name ≡ old.files.loose name
  pub honesty : KeepsHonesty format_name old.files new.files

others_same : (old new : DriveView) → new ≡ old → SparesOthers old new
others_same old new same = record {
  tells = ap (λ (v : DriveView). v.tells) same;
  kept = λ name apart. ap (λ (v : DriveView). v.files.kept name) same;
  shown = λ name apart. ap (λ (v : DriveView). v.files.shown name) same;
  loose = λ name apart. ap (λ (v : DriveView). v.files.loose name) same;
  honesty = inr (ap (λ (v : DriveView). v.files.kept format_name) same, ap (λ (v : DriveView). v.files.shown format_name) same);
}

others_read : (old new : DriveView) → IsTrue old.tells → OnlyRead old new → SparesOthers old new
others_read old new told only = record {
  tells = only.goes_on.tells;
  kept = λ name apart. ap (λ (files : Files). files.kept name) (only.files told);
  shown = λ name apart. ap (λ (files : Files). files.shown name) (only.files told);
  loose = λ name apart. ap (λ (files : Files). files.loose name) (only.files told);
  honesty = inr (ap (λ (files : Files). files.kept format_name) (only.files told), ap (λ (files : Files). files.shown format_name) (only.files told));
}

-- honesty that two changes keep
honesty_twice : (old mid new : Files) → KeepsHonesty format_name old mid → KeepsHonesty format_name mid new → KeepsHonesty format_name old new
honesty_twice old mid new one (inl placed) = inl placed
honesty_twice old mid new (inl placed) (inr stays) = inl (stays.1 ∙ (placed ∙ sym stays.0))
honesty_twice old mid new (inr first) (inr stays) = inr (stays.0 ∙ first.0, stays.1 ∙ first.1)

others_twice : (old mid new : DriveView) → SparesOthers old mid → SparesOthers mid new → SparesOthers old new
others_twice old mid new one two = record {
  tells = two.tells ∙ one.tells;
  kept = λ name apart. two.kept name apart ∙ one.kept name apart;
  shown = λ name apart. two.shown name apart ∙ one.shown name apart;
  loose = λ name apart. two.loose name apart ∙ one.loose name apart;
  honesty = honesty_twice old.files mid.files new.files one.honesty two.honesty;
}

-- what stands loose under another name is touched neither way
others_touched : (term k : ℕ) (old new : DriveView) → new.tells ≡ old.tells → Touches (loose_format_name term k) old.files new.files → SparesOthers old new
others_touched term k old new same touched = record {
  tells = same;
  kept = λ name apart. ap (λ (named : List ℕ → Option (List ℕ)). named name) touched.kept;
  shown = λ name apart. ap (λ (named : List ℕ → Option (List ℕ)). named name) touched.shown;
  loose = λ name apart. touched.others name (apart term k);
  honesty = inr (
    ap (λ (named : List ℕ → Option (List ℕ)). named format_name) touched.kept,
    ap (λ (named : List ℕ → Option (List ℕ)). named format_name) touched.shown,
  );
}

-- what was put in place is shown as it is kept
placed_honest : (loose bytes : List ℕ) (old new : Files) → IsInPlace loose format_name bytes old new → new.shown format_name ≡ new.kept format_name
placed_honest loose bytes old new placed =
    let here = (bytes_eq-Decides format_name format_name).1 refl in
    ap (λ (named : List ℕ → Option (List ℕ)). named format_name) placed.shown
    ∙ (update_same bytes_eq old.shown format_name (Some bytes) format_name here
    ∙ sym (ap (λ (named : List ℕ → Option (List ℕ)). named format_name) placed.kept
    ∙ update_same bytes_eq old.kept format_name (Some bytes) format_name here))

others_placed : (term k : ℕ) (bytes : List ℕ) (old new : DriveView) → new.tells ≡ old.tells
    → IsInPlace (loose_format_name term k) format_name bytes old.files new.files → SparesOthers old new
others_placed term k bytes old new same placed = record {
  tells = same;
  kept = λ name apart. ap (λ (named : List ℕ → Option (List ℕ)). named name) placed.kept
      ∙ update_other bytes_eq old.files.kept format_name (Some bytes) name apart;
  shown = λ name apart. ap (λ (named : List ℕ → Option (List ℕ)). named name) placed.shown
      ∙ update_other bytes_eq old.files.shown format_name (Some bytes) name apart;
  loose = λ name apart. placed.others name (apart term k);
  honesty = inl (placed_honest (loose_format_name term k) bytes old.files new.files placed);
}

others_either : (term k : ℕ) (bytes : List ℕ) (old new : DriveView) → new.tells ≡ old.tells
    → Touches (loose_format_name term k) old.files new.files ⊎ IsInPlace (loose_format_name term k) format_name bytes old.files new.files → SparesOthers old new
others_either term k bytes old new same (inl touched) = others_touched term k old new same touched
others_either term k bytes old new same (inr placed) = others_placed term k bytes old new same placed

-- so over a write, whatever came of it
others_left : (why : Why) (term k : ℕ) (bytes : List ℕ) (old new : DriveView) → new.tells ≡ old.tells
    → WriteLeaves why (loose_format_name term k) format_name bytes old.files new.files → SparesOthers old new
others_left Good term k bytes old new same leaves = others_placed term k bytes old new same leaves
others_left (Failed before after) term k bytes old new same leaves = others_either term k bytes old new same leaves
others_left (Damaged damage) term k bytes old new same leaves = absurd leaves
others_left (Behind ballot) term k bytes old new same leaves = absurd leaves
others_left (Lacks kind) term k bytes old new same leaves = others_either term k bytes old new same leaves

others_written : (file : List ℕ) (term passed k : ℕ) (other why : Why) (old new : DriveView) → IsTrue old.tells
    → DriveIsWritten file term passed other k why old new → SparesOthers old new
others_written file term passed k other why old new told (inl over) = others_same old new over.stays
others_written file term passed k other why old new told (inr (apart, written)) =
    others_left why term k file old new written.goes_on.tells (written.leaves told)

-- ---- each drive of a set

abbrev pub EachSparesOthers : List DriveView → List DriveView → Type 0
EachSparesOthers old new = AtEach (λ k. SparesOthers) old new

each_twice : (old mid new : List DriveView) → EachSparesOthers old mid → EachSparesOthers mid new → EachSparesOthers old new
each_twice old mid new one two = record {
  long = two.long ∙ one.long;
  each = λ k lt. others_twice (view_at old k) (view_at mid k) (view_at new k) (one.each k lt) (two.each k (let same = one.long in omega (arith, same, lt)));
}

pub each_tells : (old new : List DriveView) → EachTells old → EachSparesOthers old new → EachTells new
each_tells old new tell keep k lt any =
    let here : k < length old = (let same = keep.long in omega (arith, same, lt)) in
    subst IsTrue (sym (keep.each k here).tells) (tell k here tt)

-- damage of a format stays honest
honest_stays : (old new : Files) → KeepsHonesty format_name old new → IsHonestAt IsUnsealed format_name old → IsHonestAt IsUnsealed format_name new
honest_stays old new (inl placed) honest = inl placed
honest_stays old new (inr stays) (inl same) = inl (stays.1 ∙ (same ∙ sym stays.0))
honest_stays old new (inr stays) (inr (bytes, is, unsealed)) = inr (bytes, stays.1 ∙ is, unsealed)

pub each_honest : (old new : List DriveView) → EachHonest old → EachSparesOthers old new → EachHonest new
each_honest old new honest keep k lt =
    let here : k < length old = (let same = keep.long in omega (arith, same, lt)) in
    honest_stays (view_at old k).files (view_at new k).files (keep.each k here).honesty (honest k here)

-- damage of manifests stays honest
manifest_stays : (old new : DriveView) (id : VersionId) → SparesOthers old new → ShowsNoOther IsNoManifest (manifest_name id) old.files
    → ShowsNoOther IsNoManifest (manifest_name id) new.files
manifest_stays old new id keep = no_other_stays IsNoManifest (manifest_name id) old.files new.files
    (inr (keep.kept (manifest_name id) refl, keep.shown (manifest_name id) refl))

-- on each drive of a set that isn't lost
pub manifests_on : (set : SetPlan) (lost : ℕ) (old new : List DriveView) → length old ≡ set.drives → EachSparesOthers old new
    → ((k : ℕ) → k < set.drives → (IsBitSet lost k → ⊥) → HasHonestManifests (view_at old k).files)
    → (k : ℕ) → k < set.drives → (IsBitSet lost k → ⊥) → HasHonestManifests (view_at new k).files
manifests_on set lost old new long keep honest k within in_use =
    λ id. manifest_stays (view_at old k) (view_at new k) id (keep.each k (omega (arith, long, within))) (honest k within in_use id)

each_written : (set : SetPlan) (term passed : ℕ) (other : Why) (whys : List Why) (old new : List DriveView) → EachTells old
    → AreWritten set term passed other whys old new → EachSparesOthers old new
each_written set term passed other whys old new tell wrote = record {
  long = wrote.drives.long;
  each = λ k lt. others_written (file_for set k term) term passed k other (why_at whys k) (view_at old k) (view_at new k) (tell k lt tt) (wrote.drives.each k lt);
}

each_same : (old new : List DriveView) → new ≡ old → EachSparesOthers old new
each_same old new same = record {
  long = ap length same;
  each = λ k lt. others_same (view_at old k) (view_at new k) (ap (λ (l : List DriveView). view_at l k) same);
}

pub each_read : (old new : List DriveView) → EachTells old → AllOnlyRead old new → EachSparesOthers old new
each_read old new tell only = record {
  long = only.long;
  each = λ k lt. others_read (view_at old k) (view_at new k) (tell k lt tt) (only.each k lt);
}

each_taken : (set : SetPlan) (top out : ℕ) (result : Result Opened OpenRefusal) (old new : List DriveView) → EachTells old → TakesTerm set top out result old new
    → EachSparesOthers old new
each_taken set top out (Ok opened) old new tell (whys, taken, written, enough, is, out_is) =
    each_written set (top + 1) out (Lacks Format) whys old new tell written.wrote
each_taken set top out (Err (WrongSet found wanted)) old new tell takes = absurd takes
each_taken set top out (Err (OpenQuorum whys)) old new tell (taken, written, few) = each_written set (top + 1) out (Lacks Format) whys old new tell written.wrote
each_taken set top out (Err NoMemory) old new tell (same, below) = each_same old new same
each_taken set top out (Err TermSpent) old new tell (same, last) = each_same old new same
each_taken set top out (Err (AuditFailed before after)) old new tell takes = absurd takes

each_made : (set : SetPlan) (whys : List Why) (result : Result Opened OpenRefusal) (old new : List DriveView) → EachTells old → IsMadeAndOpened set whys result old new
    → EachSparesOthers old new
each_made set whys result old new tell (inl (mid, written, made, good, takes)) =
    let first = each_written set 0 made.passed Good written old mid tell made.wrote in
    each_twice old mid new first (each_taken set 0 0 result mid new (each_tells old mid tell first) takes)
each_made set whys result old new tell (inr (inl (told, refused, inl (told_is, unanswered, same)))) = each_same old new same
each_made set whys result old new tell (inr (inl (told, refused, inr (made, bad)))) = each_written set 0 made.passed Good told old new tell made.wrote
each_made set whys result old new tell (inr (inr (lacks, same))) = each_same old new same

each_again : (set : SetPlan) (whys : List Why) (top : ℕ) (result : Result Opened OpenRefusal) (old new : List DriveView) → EachTells old
    → IsOpenedOrNot set whys top result old new → EachSparesOthers old new
each_again set whys top result old new tell (good, counted, inl (enough, (out, absent, takes))) = each_taken set top out result old new tell takes
each_again set whys top result old new tell (good, counted, inr (few, refused, same)) = each_same old new same

each_follows : (set : SetPlan) (result : Result Opened OpenRefusal) (old new : List DriveView) → EachTells old → Follows set result old new → EachSparesOthers old new
each_follows set result old new tell x =
    let first = each_read old x.mid tell x.read.read.only in
    let told = each_tells old x.mid tell first in
    each_twice old x.mid new first (elim x.goes_on [
      | inl being ↦ each_made set x.whys result x.mid new told being.1
      | inr again ↦ each_again set x.whys x.top result x.mid new told again.1
    ])

-- an opening of a set over drives that tell, whatever came of it, keeps what is no format
pub tried_spares_others : (set : SetPlan) (result : Result Opened OpenRefusal) (old new : List DriveView) → Opens set result old new → EachTells old
    → EachSparesOthers old new
tried_spares_others set (Ok opened) old new x tell = each_follows set (Ok opened) old new tell x
tried_spares_others set (Err (WrongSet found wanted)) old new x tell = each_read old new tell x.read.only
tried_spares_others set (Err (OpenQuorum whys)) old new x tell = each_follows set (Err (OpenQuorum whys)) old new tell x
tried_spares_others set (Err NoMemory) old new (inl only) tell = each_read old new tell only
tried_spares_others set (Err NoMemory) old new (inr x) tell = each_follows set (Err NoMemory) old new tell x
tried_spares_others set (Err TermSpent) old new x tell = each_follows set (Err TermSpent) old new tell x
tried_spares_others set (Err (AuditFailed before after)) old new x tell = absurd x

pub opened_spares_others : (set : SetPlan) (opened : Opened) (old new : List DriveView) → Opens set (Ok opened) old new → EachTells old → EachSparesOthers old new
opened_spares_others set opened old new x tell = tried_spares_others set (Ok opened) old new x tell
