use Rattle.std.proofs.Common.{rules, ◌≡◌, ◌<◌, ◌+◌, ◌∙◌, ℕ, List, length, slice_index_or, slice_set, arith, ap, subst, sym}
use Rattle.std.specs.Int.{IsBitSet}
use Rattle.std.proofs.lemmas.List.{get_or_default, length-set}
use Rattle.drive_base.specs.View.{OnlyRead, view}
use Rattle.drive_base.proofs.ViewLemmas.{at_each_view}
use Rattle.call_types.specs.declared.why.Why.{Why}
use Rattle.call_types.specs.declared.why.Why.TheVariants.{Good}
use Rattle.register_core.specs.LaneWrites.{letter_at}
use Rattle.register_core.specs.Manifests.{ManifestLetter}
use Rattle.file_access.proofs.EachLemmas.{AreGoodFrom, good_after, set_each}
use Rattle.register_core.proofs.EachLemmas.{letters_more, letters_same, only_read_more}
use Rattle.register_core.proofs.ManifestLemmas.{letter_err, letter_ok}
use Rattle.register_core.proofs.manifests.look_for_data.Goals as goal
use Rattle.register_core.proofs.manifests.look_for_data.Goals.{in-Ok, in-Err-Because}

pub manifest_on-requires : goal.manifest_on-requires
manifest_on-requires g c = omega (arith, c.loop-disk.invariant.at)

pub loop-disk-preserved : goal.loop-disk-preserved
loop-disk-preserved g c =
    let D = g.D.Drive in
    let T = g.row.D.Denot in
    let i = c.loop-disk.disk-index in
    let x = c.manifest_on.new.disk in
    let old = c.args.disks.now in
    let now = c.loop-disk.disks in
    let inv = c.loop-disk.invariant in
    let low : i < length now = omega arith in
    let lettered : i < length c.loop-disk.whys = omega (arith, inv.long) in
    let was : (d : T) → slice_index_or now i c.disk-item.result ≡ slice_index_or old i d =
    (λ d. get_or_default now i c.disk-item.result d low ∙ inv.others i d (omega arith)) in
    let P : ℕ → Why → T → T → Type 0 =
    (λ k (v : Why) a b. ManifestLetter c.args.set c.args.adds.now v (IsBitSet c.args.set.out k) (D.tells a) (D.files a) (D.count a) (D.count b)) in
    let before = slice_index_or now i c.disk-item.result in
    let outcome = c.manifest_on.ensures.outcome (search rules) in
    let one : (why : Why) → P c.loop-disk.index why before x → (d : T) → P i why (slice_index_or old i d) x =
    (λ why given d. subst (λ (a : T). P i why a x) (was d) (subst (λ (n : ℕ). P n why before x) inv.at given)) in
    record {
      at = omega (arith, inv.at);
      long = elim c.match-manifest_on.branch [
        | in-Ok w ↦ ap length w.whys-is ∙ inv.long
        | in-Err-Because w ↦ ap length (w.whys-is ∙ w.set.ensures) ∙ length-set c.loop-disk.whys c.loop-disk.index w.in-Err-Because.why ∙ inv.long
      ];
      letters = elim c.match-manifest_on.branch [
        | in-Ok w ↦
            let given : P c.loop-disk.index Good before x = letter_ok c.args.set c.args.adds.now (IsBitSet c.args.set.out c.loop-disk.index) c.manifest_on.result
            w.in-Ok.field-0 (D.tells before) (D.files before) (D.count before) (D.count x) w.in-Ok.is outcome in
            subst (λ (ws : List Why). (k : ℕ) (d : T) → k < i + 1 → P k (letter_at ws k) (slice_index_or old k d) (slice_index_or (slice_set now i x) k d)) (sym w.whys-is)
            (letters_same T P c.loop-disk.whys old now i x lettered low inv.good (one Good given) inv.letters)
        | in-Err-Because w ↦
            let why = w.in-Err-Because.why in
            let given : P c.loop-disk.index why before x = letter_err c.args.set c.args.adds.now (IsBitSet c.args.set.out c.loop-disk.index) c.manifest_on.result
            w.in-Err-Because.field-0 why (D.tells before) (D.files before) (D.count before) (D.count x) w.in-Err-Because.is w.in-Err-Because.field-0-is outcome in
            let whys = w.whys-is ∙ w.set.ensures ∙ ap (λ (n : ℕ). slice_set c.loop-disk.whys n why) inv.at in
            subst (λ (ws : List Why). (k : ℕ) (d : T) → k < i + 1 → P k (letter_at ws k) (slice_index_or old k d) (slice_index_or (slice_set now i x) k d)) (sym whys)
            (letters_more T P c.loop-disk.whys old now i why x lettered low (one why given) inv.letters)
      ];
      good = elim c.match-manifest_on.branch [
        | in-Ok w ↦ subst (AreGoodFrom (i + 1)) (sym w.whys-is) (λ k from. inv.good k (omega arith))
        | in-Err-Because w ↦ subst (AreGoodFrom (i + 1)) (sym (w.whys-is ∙ w.set.ensures ∙ ap (λ (n : ℕ). slice_set c.loop-disk.whys n w.in-Err-Because.why) inv.at))
            (good_after c.loop-disk.whys i w.in-Err-Because.why inv.good)
      ];
      stay = set_each T (λ (k : ℕ) (a b : T). IsBitSet c.args.set.out k → b ≡ a) old now i x low
          (λ d bit. c.manifest_on.ensures.alone (subst (IsBitSet c.args.set.out) (sym inv.at) bit) ∙ was d) inv.stay;
      read = set_each T (λ (k : ℕ) (a b : T). OnlyRead (view D a) (view D b)) old now i x low
          (λ d. subst (λ (a : T). OnlyRead (view D a) (view D x)) (was d) c.manifest_on.ensures.read) inv.read;
      others = search rules;
    }

pub returns-in-Err-NoMemory-clause-disks_read : goal.returns-in-Err-NoMemory-clause-disks_read
returns-in-Err-NoMemory-clause-disks_read g c =
    let D = g.D.Drive in
    let T = g.row.D.Denot in
    let i = c.loop-disk.disk-index in
    let x = c.manifest_on.new.disk in
    let old = c.args.disks.now in
    let now = c.loop-disk.disks in
    let inv = c.loop-disk.invariant in
    let low : i < length now = omega arith in
    let was : (d : T) → slice_index_or now i c.disk-item.result ≡ slice_index_or old i d =
    (λ d. get_or_default now i c.disk-item.result d low ∙ inv.others i d (omega arith)) in
    only_read_more D old now i x c.loop-disk.auto.disks low
    (λ d. subst (λ (a : T). OnlyRead (view D a) (view D x)) (was d) c.manifest_on.ensures.read) inv.read

pub returns-clause-disks_read : goal.returns-clause-disks_read
returns-clause-disks_read g c =
    at_each_view g.D.Drive (λ k. OnlyRead) c.args.disks.now c.loop-disk.disks c.loop-disk.auto.disks (λ k d within. c.loop-disk.invariant.read k d)
