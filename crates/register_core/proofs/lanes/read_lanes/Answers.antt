use Rattle.std.proofs.Common.{rules, ◌≡◌, ◌<◌, ◌+◌, ◌∙◌, ◌++◌, ◌∷◌, [], ℕ, List, length, slice_index_or, slice_set, arith, ap, subst, sym, get_or-set_other, get_or-set_same}
use Rattle.std.specs.Prelude.{IsTrue, Option, Some, None}
use Rattle.std.specs.Int.{IsBitSet}
use Rattle.std.proofs.lemmas.List.{get_or_default, length-set, length-append}
use Rattle.call_types.specs.declared.why.FileKind.TheVariants.{Format}
use Rattle.call_types.specs.declared.why.Why.{Why}
use Rattle.call_types.specs.declared.why.Why.TheVariants.{Good, Lacks}
use Rattle.register_file.specs.declared.record.RegFile.{RegFile}
use Rattle.drive_base.specs.View.{OnlyRead, view}
use Rattle.drive_base.proofs.ViewLemmas.{at_each_view}
use Rattle.register_core.specs.LaneWrites.{letter_at}
use Rattle.register_core.specs.Found.{found_at}
use Rattle.register_core.specs.Looks.{LaneIsRead}
use Rattle.file_access.proofs.EachLemmas.{AreGoodFrom, found_more, good_after, set_each}
use Rattle.register_core.proofs.EachLemmas.{only_read_more}
use Rattle.register_core.proofs.ReadLemmas.{out_same, read_err, read_ok}
use Rattle.register_core.proofs.SeenLemmas.{letters_on}
use Rattle.register_core.proofs.lanes.read_lanes.Goals as goal
use Rattle.register_core.proofs.lanes.read_lanes.Goals.{in-Ok+in_ok-push-in-Ok, in-Err-Because+in_ok-push-in-Err-Because}

pub loop-index-preserved : goal.loop-index-preserved
loop-index-preserved g c =
    let D = g.D.Drive in
    let T = g.row.D.Denot in
    let i = c.loop-index.index in
    let x = c.read_lane.new.lane in
    let old = c.args.lanes.now in
    let now = c.loop-index.lanes in
    let inv = c.loop-index.invariant in
    let items = c.loop-index.files.items in
    let whys = c.loop-index.whys in
    let low : i < length now = omega arith in
    let lettered : i < length whys = omega (arith, inv.long) in
    let was : (d : T) → slice_index_or now i c.index-lanes-index.result ≡ slice_index_or old i d =
    (λ d. get_or_default now i c.index-lanes-index.result d low ∙ inv.others i d (omega arith)) in
    let P : ℕ → Option RegFile → Why → T → T → Type 0 =
    (λ k f (v : Why) a b. LaneIsRead c.args.most c.args.name.now f v (IsBitSet c.args.out k) (D.tells a) (D.files a) (D.count a) (D.count b)) in
    let before = slice_index_or now i c.index-lanes-index.result in
    let one : (f : Option RegFile) (why : Why) → P i f why before x → (d : T) → P i f why (slice_index_or old i d) x =
    (λ f why given d. subst (λ (a : T). P i f why a x) (was d) given) in
    record {
      counted = elim c.match-read_lane.branch [
        | in-Ok+in_ok-push-in-Ok w ↦
            let pushed : c.match-read_lane.files.items ≡ items ++ Some w.in-Ok.file ∷ [] = rw w.files-is w.in_ok-push-in-Ok.ensures.items in
            ap length pushed ∙ length-append items (Some w.in-Ok.file ∷ []) ∙ ap (λ (n : ℕ). n + 1) inv.counted
        | in-Err-Because+in_ok-push-in-Err-Because w ↦
            let pushed : c.match-read_lane.files.items ≡ items ++ None ∷ [] = rw w.files-is w.in_ok-push-in-Err-Because.ensures.items in
            ap length pushed ∙ length-append items (None ∷ []) ∙ ap (λ (n : ℕ). n + 1) inv.counted
      ];
      long = elim c.match-read_lane.branch [
        | in-Ok+in_ok-push-in-Ok w ↦ ap length w.whys-is ∙ inv.long
        | in-Err-Because+in_ok-push-in-Err-Because w ↦ ap length (w.whys-is ∙ w.set.ensures) ∙ length-set whys i w.in-Err-Because.why ∙ inv.long
      ];
      found = elim c.match-read_lane.branch [
        | in-Ok+in_ok-push-in-Ok w ↦
            let file = w.in-Ok.file in
            let pushed : c.match-read_lane.files.items ≡ items ++ Some file ∷ [] = rw w.files-is w.in_ok-push-in-Ok.ensures.items in
            let given : P i (Some file) Good before x =
            out_same c.args.most c.args.name.now (Some file) Good (IsTrue c.is_out.result) (IsBitSet c.args.out i) (D.tells before) (D.files before) (D.count before) (D.count x) c.is_out.ensures
            (read_ok c.args.most c.args.name.now c.read_lane.result file (IsTrue c.is_out.result) (D.tells before) (D.files before) (D.count before) (D.count x)
            w.in-Ok.is c.read_lane.ensures.outcome) in
            subst (λ (fs : List (Option RegFile)). (k : ℕ) (d : T) → k < i + 1 → P k (found_at fs k) (letter_at c.match-read_lane.whys k) (slice_index_or old k d) (slice_index_or (slice_set now i x) k d)) (sym pushed)
            (found_more T P items whys c.match-read_lane.whys old now i (Some file) Good x inv.counted low
            (ap (λ (ws : List Why). letter_at ws i) w.whys-is ∙ inv.good i (omega arith) lettered) (λ k other. ap (λ (ws : List Why). letter_at ws k) w.whys-is)
            (one (Some file) Good given) inv.found)
        | in-Err-Because+in_ok-push-in-Err-Because w ↦
            let why = w.in-Err-Because.why in
            let pushed : c.match-read_lane.files.items ≡ items ++ None ∷ [] = rw w.files-is w.in_ok-push-in-Err-Because.ensures.items in
            let given : P i None why before x =
            out_same c.args.most c.args.name.now None why (IsTrue c.is_out.result) (IsBitSet c.args.out i) (D.tells before) (D.files before) (D.count before) (D.count x) c.is_out.ensures
            (read_err c.args.most c.args.name.now c.read_lane.result w.in-Err-Because.field-0 why (IsTrue c.is_out.result) (D.tells before) (D.files before) (D.count before) (D.count x)
            w.in-Err-Because.is w.in-Err-Because.field-0-is c.read_lane.ensures.outcome) in
            let set_whys = w.whys-is ∙ w.set.ensures in
            subst (λ (fs : List (Option RegFile)). (k : ℕ) (d : T) → k < i + 1 → P k (found_at fs k) (letter_at c.match-read_lane.whys k) (slice_index_or old k d) (slice_index_or (slice_set now i x) k d)) (sym pushed)
            (found_more T P items whys c.match-read_lane.whys old now i None why x inv.counted low
            (ap (λ (ws : List Why). letter_at ws i) set_whys ∙ get_or-set_same whys i why (Lacks Format) lettered)
            (λ k other. ap (λ (ws : List Why). letter_at ws k) set_whys ∙ get_or-set_other whys i k why (Lacks Format) other)
            (one None why given) inv.found)
      ];
      good = elim c.match-read_lane.branch [
        | in-Ok+in_ok-push-in-Ok w ↦ subst (AreGoodFrom (i + 1)) (sym w.whys-is) (λ k from. inv.good k (omega arith))
        | in-Err-Because+in_ok-push-in-Err-Because w ↦ subst (AreGoodFrom (i + 1)) (sym (w.whys-is ∙ w.set.ensures))
            (good_after whys i w.in-Err-Because.why inv.good)
      ];
      stay = set_each T (λ (k : ℕ) (a b : T). IsBitSet c.args.out k → b ≡ a) old now i x low
          (λ d bit. c.read_lane.ensures.alone (c.is_out.ensures.1 bit) ∙ was d) inv.stay;
      read = set_each T (λ (k : ℕ) (a b : T). OnlyRead (view D a) (view D b)) old now i x low
          (λ d. subst (λ (a : T). OnlyRead (view D a) (view D x)) (was d) c.read_lane.ensures.read) inv.read;
      others = search rules;
    }

pub returns-clause-read : goal.returns-clause-read
returns-clause-read g c =
    let D = g.D.Drive in
    let inv = c.loop-index.invariant in
    let old = c.args.lanes.now in
    let all : c.loop-index.index ≡ length old = omega arith in
    let counted = inv.counted ∙ all in
    let each : (k : ℕ) (d : g.row.D.Denot) → k < length old
    → LaneIsRead c.args.most c.args.name.now (found_at c.loop-index.files.items k) (letter_at c.loop-index.whys k) (IsBitSet c.args.out k)
    (D.tells (slice_index_or old k d)) (D.files (slice_index_or old k d)) (D.count (slice_index_or old k d)) (D.count (slice_index_or c.loop-index.lanes k d)) =
    (λ k d below. inv.found k d (omega arith)) in
    record {
      counted = counted;
      lettered = inv.long;
      on = letters_on D c.args.out c.args.most c.args.name.now c.loop-index.files.items c.loop-index.whys old c.loop-index.lanes counted inv.long each;
      each = each;
      stay = inv.stay;
    }

pub returns-clause-lanes_read : goal.returns-clause-lanes_read
returns-clause-lanes_read g c =
    at_each_view g.D.Drive (λ k. OnlyRead) c.args.lanes.now c.loop-index.lanes c.loop-index.auto.lanes (λ k d within. c.loop-index.invariant.read k d)

pub returns-in-Err-NoMemory-clause-lanes_read : goal.returns-in-Err-NoMemory-clause-lanes_read
returns-in-Err-NoMemory-clause-lanes_read g c =
    let D = g.D.Drive in
    let now = c.loop-index.lanes in
    let inv = c.loop-index.invariant in
    only_read_more D c.args.lanes.now now c.loop-index.index c.read_lane.new.lane c.loop-index.auto.lanes (omega arith)
    (λ d. subst (λ (a : g.row.D.Denot). OnlyRead (view D a) (view D c.read_lane.new.lane))
    (get_or_default now c.loop-index.index c.index-lanes-index.result d (omega arith) ∙ inv.others c.loop-index.index d (omega arith)) c.read_lane.ensures.read) inv.read

pub returns-in_err-push-in-Ok-clause-lanes_read : goal.returns-in_err-push-in-Ok-clause-lanes_read
returns-in_err-push-in-Ok-clause-lanes_read g c =
    let D = g.D.Drive in
    let now = c.loop-index.lanes in
    let inv = c.loop-index.invariant in
    only_read_more D c.args.lanes.now now c.loop-index.index c.read_lane.new.lane c.loop-index.auto.lanes (omega arith)
    (λ d. subst (λ (a : g.row.D.Denot). OnlyRead (view D a) (view D c.read_lane.new.lane))
    (get_or_default now c.loop-index.index c.index-lanes-index.result d (omega arith) ∙ inv.others c.loop-index.index d (omega arith)) c.read_lane.ensures.read) inv.read

pub returns-in_err-push-in-Err-Because-clause-lanes_read : goal.returns-in_err-push-in-Err-Because-clause-lanes_read
returns-in_err-push-in-Err-Because-clause-lanes_read g c =
    let D = g.D.Drive in
    let now = c.loop-index.lanes in
    let inv = c.loop-index.invariant in
    only_read_more D c.args.lanes.now now c.loop-index.index c.read_lane.new.lane c.loop-index.auto.lanes (omega arith)
    (λ d. subst (λ (a : g.row.D.Denot). OnlyRead (view D a) (view D c.read_lane.new.lane))
    (get_or_default now c.loop-index.index c.index-lanes-index.result d (omega arith) ∙ inv.others c.loop-index.index d (omega arith)) c.read_lane.ensures.read) inv.read
