use Rattle.std.proofs.Common.{rules, ◌≡◌, ◌<◌, ◌+◌, ◌∙◌, ℕ, List, length, map, slice_index_or, slice_set, arith, ap, subst, sym}
use Rattle.std.specs.Prelude.{IsTrue, IsSome, string_bytes}
use Rattle.std.specs.BTreeMap.{get_by_text}
use Rattle.std.specs.Int.{IsBitSet}
use Rattle.std.proofs.lemmas.List.{get_or_default, length-set}
use Rattle.call_types.specs.declared.why.Why.{Why}
use Rattle.drive_base.specs.View.{GoesOn, view}
use Rattle.drive_base.proofs.ViewLemmas.{at_each_view}
use Rattle.file_access.proofs.EachLemmas.{set_each}
use Rattle.register_core.proofs.EachLemmas.{letters_more}
use Rattle.register_core.specs.LaneWrites.{letter_at}
use Rattle.slot_core.proofs.GatherLemmas.{gathered_more, letter_same, names_of_gathered}
use Rattle.slot_core.specs.NamePages.{AreGathered}
use Rattle.slot_core.specs.NameList.{NamesLetter}
use Rattle.slot_core.proofs.name_list.shown_names.Goals as goal

pub loop-index-preserved : goal.loop-index-preserved
loop-index-preserved g c =
    let D = g.D.Drive in
    let T = g.row.D.Denot in
    let i = c.loop-index.index in
    let x = c.ask_lane.new.lane in
    let old = c.args.lanes.now in
    let now = c.loop-index.lanes in
    let inv = c.loop-index.invariant in
    let whys = c.loop-index.whys in
    let why = c.in_ok-why.why in
    let asks = c.in_ok-why.ensures.asks in
    let low : i < length now = omega arith in
    let lettered : i < length whys = omega (arith, inv.long) in
    let within : i < length old = omega arith in
    let was : (d : T) → slice_index_or now i c.index-lanes-index.result ≡ slice_index_or old i d =
    (λ d. get_or_default now i c.index-lanes-index.result d low ∙ inv.others i d (omega arith)) in
    let before = slice_index_or now i c.index-lanes-index.result in
    let P : ℕ → Why → T → T → Type 0 = (λ k v a b. NamesLetter (IsBitSet c.args.out k) v (D.count a) (D.count b)) in
    record {
      long = ap length c.set.ensures ∙ (length-set whys i why ∙ inv.long);
      letters = subst (λ (ws : List Why). (k : ℕ) (d : T) → k < i + 1 → P k (letter_at ws k) (slice_index_or old k d) (slice_index_or (slice_set now i x) k d))
          (sym c.set.ensures)
          (letters_more T P whys old now i why x lettered low
          (λ d. subst (λ (a : T). P i why a x) (was d) (letter_same (IsTrue c.is_out-skips.result) (IsBitSet c.args.out i) why (D.count before) (D.count x) c.is_out-skips.ensures asks.letter))
          inv.letters);
      gathered = subst (λ (ws : List Why). AreGathered D.tells D.files (i + 1) c.args.from.now c.args.most ws (λ name. IsSome (get_by_text c.ask_lane.new.gathered name)) old)
          (sym c.set.ensures)
          (gathered_more D (IsTrue c.is_out-skips.result) i c.args.from.now c.args.most whys why
          (λ name. IsSome (get_by_text c.loop-index.gathered name)) (λ name. IsSome (get_by_text c.ask_lane.new.gathered name)) old before x
          within lettered (λ d. sym (was d)) inv.gathered asks);
      stay = set_each T (λ (k : ℕ) (a b : T). IsBitSet c.args.out k → b ≡ a) old now i x low
          (λ d bit. asks.stay (c.is_out-skips.ensures.1 bit) ∙ was d) inv.stay;
      files = set_each T (λ (k : ℕ) (a b : T). IsTrue (D.tells a) → D.files b ≡ D.files a) old now i x low
          (λ d. subst (λ (a : T). IsTrue (D.tells a) → D.files x ≡ D.files a) (was d) c.ask_lane.ensures.files) inv.files;
      goes_on = set_each T (λ (k : ℕ) (a b : T). GoesOn (view D a) (view D b)) old now i x low
          (λ d. subst (λ (a : T). GoesOn (view D a) (view D x)) (was d) c.ask_lane.ensures.goes_on) inv.goes_on;
      others = search rules;
    }

pub returns-clause-asked : goal.returns-clause-asked
returns-clause-asked g c =
    let inv = c.loop-index.invariant in
    let all : c.loop-index.index ≡ length c.args.lanes.now = omega arith in
    record {
      lettered = inv.long;
      each = λ k d below. inv.letters k d (omega arith);
      stay = inv.stay;
    }

pub returns-clause-names : goal.returns-clause-names
returns-clause-names g c =
    let D = g.D.Drive in
    let inv = c.loop-index.invariant in
    let all : c.loop-index.index ≡ length c.args.lanes.now = omega arith in
    names_of_gathered D (get_by_text c.loop-index.gathered) c.args.from.now c.args.most c.loop-index.whys (map string_bytes c.in_ok-names.names.items) c.args.lanes.now
    (subst (λ (n : ℕ). AreGathered D.tells D.files n c.args.from.now c.args.most c.loop-index.whys (λ name. IsSome (get_by_text c.loop-index.gathered name)) c.args.lanes.now)
    all inv.gathered)
    c.in_ok-names.ensures.page c.in_ok-names.ensures.shown

pub returns-clause-lanes : goal.returns-clause-lanes
returns-clause-lanes g c =
    at_each_view g.D.Drive (λ k. GoesOn) c.args.lanes.now c.loop-index.lanes c.loop-index.auto.lanes (λ k d within. c.loop-index.invariant.goes_on k d)

pub returns-in_err-names-clause-lanes : goal.returns-in_err-names-clause-lanes
returns-in_err-names-clause-lanes g c =
    at_each_view g.D.Drive (λ k. GoesOn) c.args.lanes.now c.loop-index.lanes c.loop-index.auto.lanes (λ k d within. c.loop-index.invariant.goes_on k d)

pub returns-in_err-why-clause-lanes : goal.returns-in_err-why-clause-lanes
returns-in_err-why-clause-lanes g c =
    let D = g.D.Drive in
    let T = g.row.D.Denot in
    let i = c.loop-index.index in
    let x = c.ask_lane.new.lane in
    let old = c.args.lanes.now in
    let now = c.loop-index.lanes in
    let inv = c.loop-index.invariant in
    let low : i < length now = omega arith in
    let was : (d : T) → slice_index_or now i c.index-lanes-index.result ≡ slice_index_or old i d =
    (λ d. get_or_default now i c.index-lanes-index.result d low ∙ inv.others i d (omega arith)) in
    let each : (k : ℕ) (d : T) → GoesOn (view D (slice_index_or old k d)) (view D (slice_index_or (slice_set now i x) k d)) =
    set_each T (λ (k : ℕ) (a b : T). GoesOn (view D a) (view D b)) old now i x low
    (λ d. subst (λ (a : T). GoesOn (view D a) (view D x)) (was d) c.ask_lane.ensures.goes_on) inv.goes_on in
    at_each_view D (λ k. GoesOn) old (slice_set now i x) (length-set now i x ∙ c.loop-index.auto.lanes) (λ k d within. each k d)
