-- Which drives are out in a set that was opened: those without a format, and lost ones that serve are among them.
use Rattle.std.proofs.Common.{◌≡◌, ◌+◌, ◌<◌, ◌≤◌, ◌∙◌, ℕ, None, Some, List, Option, length, refl, sym, ap, subst, inl, inr, arith}
use Rattle.std.specs.Prelude.{IsTrue, Result, Ok, Err}
use Rattle.std.specs.Int.{IsBitSet}
use Rattle.fault_base.specs.Counts.{Rose}
use Rattle.call_types.specs.declared.why.FileKind.TheVariants.{Format, Register, Manifest, Shard}
use Rattle.call_types.specs.declared.why.Why.{Why}
use Rattle.call_types.specs.declared.why.Why.TheVariants.{Good, Failed, Damaged, Behind, Lacks}
use Rattle.drive_base.specs.Files.{Files}
use Rattle.drive_base.specs.View.{DriveView, view_at}
use Rattle.drive_base.specs.declared.plan.SetPlan.{SetPlan}
use Rattle.register_core.proofs.LaneLemmas.{none_set}
use Rattle.term_gate.proofs.TermLemmas.{none_found, read_lacks}
use Rattle.term_gate.specs.Complete.{Serves, ShowsNone}
use Rattle.term_gate.specs.Formats.{format_name}
use Rattle.term_gate.specs.Opening.{Follows, IsMadeAndOpened, IsOpenedOrNot, Opens}
use Rattle.term_gate.specs.Reading.{DriveIsRead, format_at, why_at}
use Rattle.term_gate.specs.Table.{format_file}
use Rattle.term_gate.specs.Terms.{EachTells}
use Rattle.term_gate.specs.Writing.{DriveIsWritten, file_for}
use Rattle.term_gate.specs.declared.opening.Opened.{Opened}
use Rattle.term_gate.specs.declared.record.Format.{Format as DriveFormat}
use Rattle.term_gate.specs.declared.refusal.OpenRefusal.{OpenRefusal}
use Rattle.store_shared.specs.Holders.{AreLost, LostServe}

abbrev is_ok : Result Opened OpenRefusal → Type 0
is_ok (Ok opened) = Unit {0}
is_ok (Err why) = ⊥

-- a count didn't fall over a write
pub count_up : (file : List ℕ) (term passed k : ℕ) (other why : Why) (old new : DriveView) → DriveIsWritten file term passed other k why old new → old.count ≤ new.count
count_up file term passed k other why old new (inl over) = subst (λ (v : DriveView). old.count ≤ v.count) (sym over.stays) (omega arith)
count_up file term passed k other why old new (inr (apart, written)) = written.goes_on.count

-- a drive that is passed over stays
pub passed_over : (file : List ℕ) (term passed k : ℕ) (other why : Why) (was now : DriveView) → IsBitSet passed k
    → DriveIsWritten file term passed other k why was now → now ≡ was
passed_over file term passed k other why was now in_it (inl over) = over.stays
passed_over file term passed k other why was now in_it (inr (apart, written)) = absurd (apart in_it)

-- a drive that serves and shows no format is found without one
pub lacks_read : (f : Option DriveFormat) (why : Why) (old new : DriveView) → DriveIsRead f why old new → IsTrue old.tells → ShowsNone old
    → (Rose old.count new.count → ⊥) → why ≡ Lacks Format
lacks_read (Some f) why old new is told lacks calm = absurd (none_found (old.files.shown format_name) (format_file f) lacks (is.3 told))
lacks_read None Good old new is told lacks calm = absurd is
lacks_read None (Failed before after) old new (low, (mid, rose), high) told lacks calm = absurd (calm (
  omega arith,
  elim rose [
    | inl more ↦ inl (omega arith)
    | inr top ↦ inr (omega arith)
  ],
))
lacks_read None (Damaged damage) old new is told lacks calm =
    let shown = is.1 told in absurd (none_found (old.files.shown format_name) shown.0 lacks shown.1)
lacks_read None (Behind ballot) old new is told lacks calm = absurd is
lacks_read None (Lacks Format) old new is told lacks calm = refl
lacks_read None (Lacks Register) old new is told lacks calm = absurd is
lacks_read None (Lacks Manifest) old new is told lacks calm = absurd is
lacks_read None (Lacks Shard) old new is told lacks calm = absurd is

-- no count of a drive that serves rose
pub calm_so_far : (old mid new : DriveView) → Serves old new → mid.count ≤ new.count → Rose old.count mid.count → ⊥
calm_so_far old mid new serves up (low, inl more) = (let stands = serves.stands in omega (arith, stands, more, up))
calm_so_far old mid new serves up (low, inr top) = (let stands = serves.stands in let few = serves.low in omega (arith, stands, few, top, up))

module _ (set : SetPlan) (used lost : ℕ) (old new : List DriveView) (tell : EachTells old) (long : length old ≡ set.drives) where
  module _ (are : AreLost set used lost old) (serve : LostServe lost old new) where
    -- a set of which some drive is lost isn't made anew
    not_made : (opened : Opened) (whys : List Why) (mid : List DriveView) (k : ℕ) → used < opened.term → IsBitSet lost k
        → IsMadeAndOpened set whys (Ok opened) mid new → ⊥
    not_made opened whys mid k above in_it (inl (made_at, written, made, good, (letters, taken, takes, enough, term_is, out_is))) =
        (let lived = are.lived k in_it in omega (arith, above, lived, term_is))
    not_made opened whys mid k above in_it (inr (inl (told, refused, unmade))) = subst is_ok refused tt
    not_made opened whys mid k above in_it (inr (inr (lacks, same))) = subst is_ok lacks tt

    again_out : (opened : Opened) (x : Follows set (Ok opened) old new) (k : ℕ) → IsBitSet lost k → IsOpenedOrNot set x.whys x.top (Ok opened) x.mid new
        → IsBitSet opened.out k
    again_out opened x k in_it (good, counted, inl (enough, (out, absent, (whys, taken, written, fit, term_is, out_is)))) =
        let lt : k < length old = (let within = are.within k in_it in omega (arith, within, long)) in
        let same = x.read.read.only.long in
        let up = count_up (file_for set k (x.top + 1)) (x.top + 1) out k (Lacks Format) (why_at whys k) (view_at x.mid k) (view_at new k)
        (written.wrote.drives.each k (omega (arith, same, lt))) in
        let lacks = lacks_read (format_at x.formats k) (why_at x.whys k) (view_at old k) (view_at x.mid k) (x.read.read.drives.each k lt) (tell k lt tt)
        (are.lack k in_it) (calm_so_far (view_at old k) (view_at x.mid k) (view_at new k) (serve k in_it) up) in
        let lettered = x.read.read.lettered in
        subst (λ (mask : ℕ). IsBitSet mask k) (sym out_is) ((absent k).1 (omega (arith, lettered, lt), lacks))
    again_out opened x k in_it (good, counted, inr (few, refused, same)) = absurd (subst is_ok refused tt)

    -- lost drives are out
    pub lost_are_out : (opened : Opened) → used < opened.term → Opens set (Ok opened) old new → (k : ℕ) → IsBitSet lost k → IsBitSet opened.out k
    lost_are_out opened above x k in_it = elim x.goes_on [
      | inl being ↦ absurd (not_made opened x.whys x.mid k above in_it being.1)
      | inr again ↦ again_out opened x k in_it again.1
    ]

  -- ---- drives that are out

  -- one is of the set and shows no format
  record IsOut (k : ℕ) : Type 0 where
    within : k < set.drives
    lacks : ShowsNone (view_at new k)

  out_of_made : (opened : Opened) (whys : List Why) (mid : List DriveView) (k : ℕ) → IsMadeAndOpened set whys (Ok opened) mid new → IsBitSet opened.out k → ⊥
  out_of_made opened whys mid k (inl (made_at, written, made, good, (letters, taken, takes, enough, term_is, out_is))) out =
      none_set k (subst (λ (mask : ℕ). IsBitSet mask k) out_is out)
  out_of_made opened whys mid k (inr (inl (told, refused, unmade))) out = subst is_ok refused tt
  out_of_made opened whys mid k (inr (inr (lacks, same))) out = subst is_ok lacks tt

  out_of_again : (opened : Opened) (x : Follows set (Ok opened) old new) (k : ℕ) → IsOpenedOrNot set x.whys x.top (Ok opened) x.mid new
      → IsBitSet opened.out k → IsOut k
  out_of_again opened x k (good, counted, inl (enough, (out, absent, (whys, taken, written, fit, term_is, out_is)))) bit =
      let here : IsBitSet out k = subst (λ (mask : ℕ). IsBitSet mask k) out_is bit in
      let found = (absent k).0 here in
      let lt : k < length old = (let inside = found.0 in let lettered = x.read.read.lettered in omega (arith, lettered, inside)) in
      let none = read_lacks (format_at x.formats k) (why_at x.whys k) (view_at old k) (view_at x.mid k) (x.read.read.drives.each k lt) found.1 (tell k lt tt) in
      let read = (x.read.read.only.each k lt).files (tell k lt tt) in
      let same = x.read.read.only.long in
      let stays = passed_over (file_for set k (x.top + 1)) (x.top + 1) out k (Lacks Format) (why_at whys k) (view_at x.mid k) (view_at new k) here
      (written.wrote.drives.each k (omega (arith, same, lt))) in
      record {
        within = omega (arith, lt, long);
        lacks = ap (λ (v : DriveView). v.files.shown format_name) stays ∙ (ap (λ (files : Files). files.shown format_name) read ∙ none);
      }
  out_of_again opened x k (good, counted, inr (few, refused, same)) bit = absurd (subst is_ok refused tt)

  -- so are all that are out
  out_lacks : (opened : Opened) → Opens set (Ok opened) old new → (k : ℕ) → IsBitSet opened.out k → IsOut k
  out_lacks opened x k bit = elim x.goes_on [
    | inl being ↦ absurd (out_of_made opened x.whys x.mid k being.1 bit)
    | inr again ↦ out_of_again opened x k again.1 bit
  ]

  -- they are lost then
  pub out_are_lost : (other : SetPlan) (opened : Opened) → other.drives ≡ set.drives → 1 ≤ opened.term → Opens set (Ok opened) old new
      → AreLost other opened.term opened.out new
  out_are_lost other opened same lived x = record {
    within = λ k bit. (let found = out_lacks opened x k bit in let inside = found.within in omega (arith, inside, same));
    lived = λ k bit. lived;
    lack = λ k bit. (out_lacks opened x k bit).lacks;
  }
