use Rattle.std.proofs.Common.{rules, ◌≡◌, ◌<◌, ◌+◌, ◌∙◌, ◌++◌, ◌∷◌, [], ℕ, List, length, slice_index_or, slice_set, arith, ap, subst, sym, get_or-set_other, get_or-set_same}
use Rattle.std.specs.Prelude.{Option, Some, None}
use Rattle.std.proofs.lemmas.List.{get_or_default, length-set, length-append}
use Rattle.call_types.specs.declared.why.FileKind.TheVariants.{Format}
use Rattle.call_types.specs.declared.why.Why.{Why}
use Rattle.call_types.specs.declared.why.Why.TheVariants.{Good, Lacks}
use Rattle.drive_base.specs.View.{OnlyRead, view}
use Rattle.drive_base.proofs.ViewLemmas.{at_each_view, length-views}
use Rattle.term_gate.specs.declared.record.Format.{Format as DriveFormat}
use Rattle.term_gate.specs.Reading.{DriveIsRead, format_at, why_at}
use Rattle.file_access.proofs.EachLemmas.{AreGoodFrom, found_more, good_after, set_each}
use Rattle.term_gate.proofs.EachLemmas.{only_more, read_err, read_ok}
use Rattle.term_gate.proofs.reading.read_formats.Goals as goal
use Rattle.term_gate.proofs.reading.read_formats.Goals.{in-Ok+in_ok-push-in-Ok, in-Err-Because+in_ok-push-in-Err-Because}

pub loop-index-preserved : goal.loop-index-preserved
loop-index-preserved g c =
    let D = g.D.Drive in
    let T = g.row.D.Denot in
    let i = c.loop-index.index in
    let x = c.read_on.new.disk in
    let old = c.args.disks.now in
    let now = c.loop-index.disks in
    let inv = c.loop-index.invariant in
    let items = c.loop-index.formats.items in
    let whys = c.loop-index.whys in
    let low : i < length now = omega arith in
    let lettered : i < length whys = omega (arith, inv.long) in
    let before = slice_index_or now i c.index-disks-index.result in
    let was : (d : T) → before ≡ slice_index_or old i d =
    (λ d. get_or_default now i c.index-disks-index.result d low ∙ inv.others i d (omega arith)) in
    let P : ℕ → Option DriveFormat → Why → T → T → Type 0 = (λ k f (v : Why) a b. DriveIsRead f v (view D a) (view D b)) in
    let one : (f : Option DriveFormat) (why : Why) → P i f why before x → (d : T) → P i f why (slice_index_or old i d) x =
    (λ f why given d. subst (λ (a : T). P i f why a x) (was d) given) in
    let Found : List (Option DriveFormat) → Type 0 =
    (λ fs. (k : ℕ) (d : T) → k < i + 1
    → P k (format_at fs k) (why_at c.match-read_on.whys k) (slice_index_or old k d) (slice_index_or (slice_set now i x) k d)) in
    record {
      counted = elim c.match-read_on.branch [
        | in-Ok+in_ok-push-in-Ok w ↦
            let pushed : c.match-read_on.formats.items ≡ items ++ Some w.in-Ok.format ∷ [] = rw w.formats-is w.in_ok-push-in-Ok.ensures.items in
            ap length pushed ∙ length-append items (Some w.in-Ok.format ∷ []) ∙ ap (λ (n : ℕ). n + 1) inv.counted
        | in-Err-Because+in_ok-push-in-Err-Because w ↦
            let pushed : c.match-read_on.formats.items ≡ items ++ None ∷ [] = rw w.formats-is w.in_ok-push-in-Err-Because.ensures.items in
            ap length pushed ∙ length-append items (None ∷ []) ∙ ap (λ (n : ℕ). n + 1) inv.counted
      ];
      long = elim c.match-read_on.branch [
        | in-Ok+in_ok-push-in-Ok w ↦ ap length w.whys-is ∙ inv.long
        | in-Err-Because+in_ok-push-in-Err-Because w ↦ ap length (w.whys-is ∙ w.set.ensures) ∙ length-set whys i w.in-Err-Because.why ∙ inv.long
      ];
      found = elim c.match-read_on.branch [
        | in-Ok+in_ok-push-in-Ok w ↦
            let f = w.in-Ok.format in
            let pushed : c.match-read_on.formats.items ≡ items ++ Some f ∷ [] = rw w.formats-is w.in_ok-push-in-Ok.ensures.items in
            let given : P i (Some f) Good before x = read_ok c.read_on.result f (view D before) (view D x) w.in-Ok.is c.read_on.ensures.outcome in
            subst Found (sym pushed)
            (found_more T P items whys c.match-read_on.whys old now i (Some f) Good x inv.counted low
            (ap (λ (ws : List Why). why_at ws i) w.whys-is ∙ inv.good i (omega arith) lettered) (λ k other. ap (λ (ws : List Why). why_at ws k) w.whys-is)
            (one (Some f) Good given) inv.found)
        | in-Err-Because+in_ok-push-in-Err-Because w ↦
            let why = w.in-Err-Because.why in
            let pushed : c.match-read_on.formats.items ≡ items ++ None ∷ [] = rw w.formats-is w.in_ok-push-in-Err-Because.ensures.items in
            let given : P i None why before x =
            read_err c.read_on.result w.in-Err-Because.field-0 why (view D before)
            (view D x) w.in-Err-Because.is w.in-Err-Because.field-0-is c.read_on.ensures.outcome in
            let set_whys = w.whys-is ∙ w.set.ensures in
            subst Found (sym pushed)
            (found_more T P items whys c.match-read_on.whys old now i None why x inv.counted low
            (ap (λ (ws : List Why). why_at ws i) set_whys ∙ get_or-set_same whys i why (Lacks Format) lettered)
            (λ k other. ap (λ (ws : List Why). why_at ws k) set_whys ∙ get_or-set_other whys i k why (Lacks Format) other)
            (one None why given) inv.found)
      ];
      good = elim c.match-read_on.branch [
        | in-Ok+in_ok-push-in-Ok w ↦ subst (AreGoodFrom (i + 1)) (sym w.whys-is) (λ k from. inv.good k (omega arith))
        | in-Err-Because+in_ok-push-in-Err-Because w ↦ subst (AreGoodFrom (i + 1)) (sym (w.whys-is ∙ w.set.ensures))
            (good_after whys i w.in-Err-Because.why inv.good)
      ];
      only = set_each T (λ (k : ℕ) (a b : T). OnlyRead (view D a) (view D b)) old now i x low
          (λ d. subst (λ (a : T). OnlyRead (view D a) (view D x)) (was d) c.read_on.ensures.only) inv.only;
      others = search rules;
    }

pub returns-clause-read : goal.returns-clause-read
returns-clause-read g c =
    let D = g.D.Drive in
    let inv = c.loop-index.invariant in
    let old = c.args.disks.now in
    let all : c.loop-index.index ≡ length old = omega arith in
    let same : length c.loop-index.disks ≡ length old = omega arith in
    record {
      counted = inv.counted ∙ all ∙ sym (length-views D old);
      lettered = inv.long ∙ sym (length-views D old);
      drives = at_each_view D (λ k. DriveIsRead (format_at c.loop-index.formats.items k) (why_at c.loop-index.whys k)) old c.loop-index.disks same
          (λ k d below. inv.found k d (omega arith));
      only = at_each_view D (λ k. OnlyRead) old c.loop-index.disks same (λ k d below. inv.only k d);
    }

pub returns-in_err-push-in-Ok-clause-only : goal.returns-in_err-push-in-Ok-clause-only
returns-in_err-push-in-Ok-clause-only g c =
    let T = g.row.D.Denot in
    let i = c.loop-index.index in
    let now = c.loop-index.disks in
    let old = c.args.disks.now in
    let low : i < length now = omega arith in
    let long : length now ≡ length old = omega arith in
    let was : (d : T) → slice_index_or now i c.index-disks-index.result ≡ slice_index_or old i d =
    (λ d. get_or_default now i c.index-disks-index.result d low ∙ c.loop-index.invariant.others i d (omega arith)) in
    only_more T g.D.Drive old now i (slice_index_or now i c.index-disks-index.result) c.read_on.new.disk long low was c.read_on.ensures.only c.loop-index.invariant.only

pub returns-in_err-push-in-Err-Because-clause-only : goal.returns-in_err-push-in-Err-Because-clause-only
returns-in_err-push-in-Err-Because-clause-only g c =
    let T = g.row.D.Denot in
    let i = c.loop-index.index in
    let now = c.loop-index.disks in
    let old = c.args.disks.now in
    let low : i < length now = omega arith in
    let long : length now ≡ length old = omega arith in
    let was : (d : T) → slice_index_or now i c.index-disks-index.result ≡ slice_index_or old i d =
    (λ d. get_or_default now i c.index-disks-index.result d low ∙ c.loop-index.invariant.others i d (omega arith)) in
    only_more T g.D.Drive old now i (slice_index_or now i c.index-disks-index.result) c.read_on.new.disk long low was c.read_on.ensures.only c.loop-index.invariant.only

pub returns-in-Err-NoMemory-clause-only : goal.returns-in-Err-NoMemory-clause-only
returns-in-Err-NoMemory-clause-only g c =
    let T = g.row.D.Denot in
    let i = c.loop-index.index in
    let now = c.loop-index.disks in
    let old = c.args.disks.now in
    let low : i < length now = omega arith in
    let long : length now ≡ length old = omega arith in
    let was : (d : T) → slice_index_or now i c.index-disks-index.result ≡ slice_index_or old i d =
    (λ d. get_or_default now i c.index-disks-index.result d low ∙ c.loop-index.invariant.others i d (omega arith)) in
    only_more T g.D.Drive old now i (slice_index_or now i c.index-disks-index.result) c.read_on.new.disk long low was c.read_on.ensures.only c.loop-index.invariant.only

pub returns-clause-only : goal.returns-clause-only
returns-clause-only g c =
    let old = c.args.disks.now in
    let same : length c.loop-index.disks ≡ length old = omega arith in
    at_each_view g.D.Drive (λ k. OnlyRead) old c.loop-index.disks same (λ k d below. c.loop-index.invariant.only k d)
