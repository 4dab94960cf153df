-- Lanes and data drives hold as before when an opening was tried.
use Rattle.std.proofs.Common.{◌≡◌, ◌<◌, ◌≤◌, ◌+◌, ◌^◌, ◌==◌, ◌∙◌, ℕ, Bool, true, false, bit_and, cond, List, length, inl, inr, refl, sym, ap, subst, arith}
use Rattle.std.specs.Prelude.{Result, Ok, Err}
use Rattle.std.specs.Int.{IsBitSet}
use Rattle.call_types.specs.declared.why.FileKind.TheVariants.{Format}
use Rattle.call_types.specs.declared.why.Why.{Why}
use Rattle.call_types.specs.declared.why.Why.TheVariants.{Lacks}
use Rattle.drive_base.specs.Files.{Files, Named}
use Rattle.drive_base.specs.View.{AllOnlyRead, DriveView, view_at, views}
use Rattle.drive_base.specs.declared.drive.Drive.{Ghosts}
use Rattle.drive_base.specs.declared.plan.SetPlan.{SetPlan}
use Rattle.slot_data.specs.Disks.{Disks, kept_on}
use Rattle.slot_data.specs.Laws.{NumbersAreDrawn, OutMayChange}
use Rattle.slot_core.specs.Views.{last_of}
use Rattle.body_print.specs.Names.{manifest_name, shard_name}
use Rattle.op_steps.specs.Claims.{counted_on, disks_of as counted}
use Rattle.term_gate.proofs.TermLemmas.{above_answered}
use Rattle.term_gate.specs.Complete.{ShowsNone}
use Rattle.term_gate.specs.Deciding.{AllAnswered}
use Rattle.term_gate.specs.Formats.{format_name}
use Rattle.term_gate.specs.Laws.{IsPlanFor, TermsStay}
use Rattle.term_gate.specs.Opening.{Follows, IsMadeAndOpened, IsOpenedOrNot, Opens, TakesTerm}
use Rattle.term_gate.specs.Reading.{format_at, why_at}
use Rattle.term_gate.specs.Terms.{EachHonest, EachTells}
use Rattle.term_gate.specs.Writing.{AreWritten, file_for}
use Rattle.term_gate.specs.declared.opening.Opened.{Opened}
use Rattle.term_gate.specs.declared.refusal.OpenRefusal.{OpenRefusal}
use Rattle.term_gate.specs.declared.refusal.OpenRefusal.TheVariants.{AuditFailed, NoMemory, OpenQuorum, TermSpent, WrongSet}
use Rattle.store_shared.specs.Holders.{AreLost, IsLastUsed, LostServe, SlotRests, TriedRigHolds, spent_numbers}
use Rattle.store_shared.specs.Opening.{with_out}
use Rattle.store_shared.proofs.HolderDataLemmas.{KeepSameData, data_goes_on}
use Rattle.store_shared.proofs.HolderFileLemmas.{EachSparesOthers, each_honest, each_tells, manifests_on, tried_spares_others}
use Rattle.store_shared.proofs.HolderLemmas.{none_loose, on_drive}
use Rattle.store_shared.proofs.HolderOutLemmas.{calm_so_far, count_up, lacks_read, passed_over}

-- ---- lost drives are not written

-- a count didn't fall where the formats were written
written_up : (set : SetPlan) (term passed : ℕ) (other : Why) (whys : List Why) (old new : List DriveView) (k : ℕ) → k < length old
    → AreWritten set term passed other whys old new → (view_at old k).count ≤ (view_at new k).count
written_up set term passed other whys old new k lt wrote =
    count_up (file_for set k term) term passed k other (why_at whys k) (view_at old k) (view_at new k) (wrote.drives.each k lt)

same_up : (old new : List DriveView) (k : ℕ) → new ≡ old → (view_at old k).count ≤ (view_at new k).count
same_up old new k same = subst (λ (l : List DriveView). (view_at old k).count ≤ (view_at l k).count) (sym same) (omega arith)

-- nor where a term was taken
taken_up : (set : SetPlan) (top out : ℕ) (result : Result Opened OpenRefusal) (old new : List DriveView) (k : ℕ) → k < length old
    → TakesTerm set top out result old new → (view_at old k).count ≤ (view_at new k).count
taken_up set top out (Ok opened) old new k lt (whys, taken, written, enough, is, out_is) = written_up set (top + 1) out (Lacks Format) whys old new k lt written.wrote
taken_up set top out (Err (WrongSet found wanted)) old new k lt takes = absurd takes
taken_up set top out (Err (OpenQuorum whys)) old new k lt (taken, written, few) = written_up set (top + 1) out (Lacks Format) whys old new k lt written.wrote
taken_up set top out (Err NoMemory) old new k lt (same, below) = same_up old new k same
taken_up set top out (Err TermSpent) old new k lt (same, last) = same_up old new k same
taken_up set top out (Err (AuditFailed before after)) old new k lt takes = absurd takes

-- a drive that is out stays
out_stays : (set : SetPlan) (top out : ℕ) (result : Result Opened OpenRefusal) (old new : List DriveView) (k : ℕ) → k < length old → IsBitSet out k
    → TakesTerm set top out result old new → view_at new k ≡ view_at old k
out_stays set top out (Ok opened) old new k lt bit (whys, taken, written, enough, is, out_is) =
    passed_over (file_for set k (top + 1)) (top + 1) out k (Lacks Format) (why_at whys k) (view_at old k) (view_at new k) bit (written.wrote.drives.each k lt)
out_stays set top out (Err (WrongSet found wanted)) old new k lt bit takes = absurd takes
out_stays set top out (Err (OpenQuorum whys)) old new k lt bit (taken, written, few) =
    passed_over (file_for set k (top + 1)) (top + 1) out k (Lacks Format) (why_at whys k) (view_at old k) (view_at new k) bit (written.wrote.drives.each k lt)
out_stays set top out (Err NoMemory) old new k lt bit (same, below) = ap (λ (l : List DriveView). view_at l k) same
out_stays set top out (Err TermSpent) old new k lt bit (same, last) = ap (λ (l : List DriveView). view_at l k) same
out_stays set top out (Err (AuditFailed before after)) old new k lt bit takes = absurd takes

module _ (set : SetPlan) (used lost : ℕ) (old new : List DriveView) (tell : EachTells old) (honest : EachHonest old) (long : length old ≡ set.drives)
    (last : IsLastUsed set used old) (are : AreLost set used lost old) (serve : LostServe lost old new) where
  inside : (k : ℕ) → IsBitSet lost k → k < length old
  inside k bit = (let within = are.within k bit in omega (arith, within, long))

  -- a lost drive that was only read shows none still
  read_none : (k : ℕ) → IsBitSet lost k → (mid : List DriveView) → AllOnlyRead old mid → ShowsNone (view_at mid k)
  read_none k bit mid only =
      ap (λ (files : Files). files.shown format_name) ((only.each k (inside k bit)).files (tell k (inside k bit) tt)) ∙ are.lack k bit

  -- a set of which some drive is lost was opened before, so it isn't made
  not_answered : (result : Result Opened OpenRefusal) (x : Follows set result old new) (k : ℕ) → IsBitSet lost k → x.top ≡ 0 → AllAnswered x.whys → ⊥
  not_answered result x k bit none answered =
      let lived = are.lived k bit in
      elim last [
        | inl fresh ↦ (omega (arith, fresh, lived))
        | inr kept ↦
            let below = above_answered set x.formats x.whys x.top used old x.mid set.enough_drives set.half_at_most tell honest x.read.read x.read.top_is answered kept in
            (omega (arith, below, none, lived))
      ]

  again_none : (result : Result Opened OpenRefusal) (x : Follows set result old new) (k : ℕ) → IsBitSet lost k → IsOpenedOrNot set x.whys x.top result x.mid new
      → ShowsNone (view_at new k)
  again_none result x k bit (good, counted, inl (enough, (out, absent, takes))) =
      let lt = inside k bit in
      let same = x.read.read.only.long in
      let here : k < length x.mid = omega (arith, same, lt) in
      let up = taken_up set x.top out result x.mid new k here takes in
      let lacks = lacks_read (format_at x.formats k) (why_at x.whys k) (view_at old k) (view_at x.mid k) (x.read.read.drives.each k lt) (tell k lt tt)
      (are.lack k bit) (calm_so_far (view_at old k) (view_at x.mid k) (view_at new k) (serve k bit) up) in
      let lettered = x.read.read.lettered in
      let is_out : IsBitSet out k = (absent k).1 (omega (arith, lettered, lt), lacks) in
      subst ShowsNone (sym (out_stays set x.top out result x.mid new k here is_out takes)) (read_none k bit x.mid x.read.read.only)
  again_none result x k bit (good, counted, inr (few, refused, same)) =
      subst (λ (l : List DriveView). ShowsNone (view_at l k)) (sym same) (read_none k bit x.mid x.read.read.only)

  made_none : (result : Result Opened OpenRefusal) (x : Follows set result old new) (k : ℕ) → IsBitSet lost k → x.top ≡ 0
      → IsMadeAndOpened set x.whys result x.mid new → ShowsNone (view_at new k)
  made_none result x k bit none (inl (mid, written, made, good, takes)) = absurd (not_answered result x k bit none made.answered)
  made_none result x k bit none (inr (inl (told, refused, inl (told_is, unanswered, same)))) =
      subst (λ (l : List DriveView). ShowsNone (view_at l k)) (sym same) (read_none k bit x.mid x.read.read.only)
  made_none result x k bit none (inr (inl (told, refused, inr (made, bad)))) = absurd (not_answered result x k bit none made.answered)
  made_none result x k bit none (inr (inr (lacks, same))) =
      subst (λ (l : List DriveView). ShowsNone (view_at l k)) (sym same) (read_none k bit x.mid x.read.read.only)

  follows_none : (result : Result Opened OpenRefusal) (x : Follows set result old new) (k : ℕ) → IsBitSet lost k → ShowsNone (view_at new k)
  follows_none result x k bit = elim x.goes_on [
    | inl being ↦ made_none result x k bit being.0.0 being.1
    | inr again ↦ again_none result x k bit again.1
  ]

  -- so lost drives stay without a format
  still_none : (result : Result Opened OpenRefusal) → Opens set result old new → (k : ℕ) → IsBitSet lost k → ShowsNone (view_at new k)
  still_none (Ok opened) x k bit = follows_none (Ok opened) x k bit
  still_none (Err (WrongSet found wanted)) x k bit = read_none k bit new x.read.only
  still_none (Err (OpenQuorum whys)) x k bit = follows_none (Err (OpenQuorum whys)) x k bit
  still_none (Err NoMemory) (inl only) k bit = read_none k bit new only
  still_none (Err NoMemory) (inr x) k bit = follows_none (Err NoMemory) x k bit
  still_none (Err TermSpent) x k bit = follows_none (Err TermSpent) x k bit
  still_none (Err (AuditFailed before after)) x k bit = absurd x

-- ---- what counts of the drives stays

-- of one drive, where it does
pub counted_same : (unseen : Disks) (lost : ℕ) (old new : List DriveView) (k : ℕ) (name : List ℕ) → (view_at new k).files.kept name ≡ (view_at old k).files.kept name
    → counted_on unseen lost new k name ≡ counted_on unseen lost old k name
counted_same unseen lost old new k name stays = by_bit (bit_and lost (2 ^ k) == 0)
  where
    by_bit : (b : Bool) → cond b (view_at new k).files.kept (kept_on unseen k) name ≡ cond b (view_at old k).files.kept (kept_on unseen k) name
    by_bit true = stays
    by_bit false = refl

-- under a name of data
same_kept : (set : SetPlan) (unseen : Disks) (lost : ℕ) (old new : List DriveView) → length old ≡ set.drives → EachSparesOthers old new
    → KeepSameData set (counted unseen lost old) (counted unseen lost new)
same_kept set unseen lost old new long keep =
    let under : (k : ℕ) (name : List ℕ) → k < set.drives → (view_at new k).files.kept name ≡ (view_at old k).files.kept name
    → kept_on (counted unseen lost new) k name ≡ kept_on (counted unseen lost old) k name =
    λ k name within stays.
    (let same = keep.long in
    ap (λ (named : Named (List ℕ)). named name) (on_drive unseen lost new k (omega (arith, same, long, within)))
    ∙ (counted_same unseen lost old new k name stays
    ∙ ap (λ (named : Named (List ℕ)). named name) (sym (on_drive unseen lost old k (omega (arith, long, within)))))) in
    record {
      manifest = λ k id within. under k (manifest_name id) within ((keep.each k (omega (arith, long, within))).kept (manifest_name id) refl);
      shard = λ k id within. under k (shard_name id) within ((keep.each k (omega (arith, long, within))).kept (shard_name id) refl);
    }

module _ {D : Type 0} (A : Type 0) (ghosts : Ghosts D) where
  pub tried_rig_holds : TermsStay → OutMayChange → NumbersAreDrawn → TriedRigHolds A ghosts
  tried_rig_holds terms out_may drawn set used lost unseen at old new x tried serve =
      let was = views ghosts old.disks.items in
      let now = views ghosts new.disks.items in
      let keep = tried_spares_others set tried.result was now tried.opens x.disks.tell in
      let plan : IsPlanFor set was = record { four = set.enough_drives; half = set.half_at_most; long = x.disks.count } in
      record {
        disks = record {
          count = keep.long ∙ x.disks.count;
          tell = each_tells was now x.disks.tell keep;
          honest = each_honest was now x.disks.honest keep;
          last = elim x.disks.last [
            | inl none ↦ inl none
            | inr kept ↦ inr (terms set tried.result was now plan tried.opens x.disks.tell x.disks.honest used kept)
          ];
        };
        lost_are = record {
          within = x.lost_are.within;
          lived = x.lost_are.lived;
          lack = still_none set used lost was now x.disks.tell x.disks.honest x.disks.count x.disks.last x.lost_are serve tried.result tried.opens;
        };
        manifests = manifests_on set lost was now x.disks.count keep x.manifests;
        slots = λ k of there.
            let found = tried.lanes k of there in
            let rests = x.slots k found.0 found.1 in
            let last = last_of (spent_numbers (with_out set lost) k used) in
            let here : SlotRests ghosts.tells ghosts.files (with_out set lost) k used unseen now found.0.lanes.items (at k) = record {
              stands = rests.stands;
              held = data_goes_on out_may drawn (with_out set lost) (with_out set lost) k last last (at k).records (at k).state
                  (counted unseen lost was) (counted unseen lost now) refl refl (omega arith)
                  (same_kept (with_out set lost) unseen lost was now x.disks.count keep) rests.held;
              loose = λ j id within in_use of_slot higher. none_loose set was now j id x.disks.count keep within (rests.loose j id within in_use of_slot higher);
            } in
            subst (λ (l : List D). SlotRests ghosts.tells ghosts.files (with_out set lost) k used unseen now l (at k)) (sym found.2) here;
      }
