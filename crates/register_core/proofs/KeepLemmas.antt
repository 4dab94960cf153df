-- What proposing, marking and mending keep of the register's lanes.
use Rattle.std.proofs.Common.{◌≡◌, ◌⊎◌, ℕ, zero, suc, ◌+◌, ◌^◌, ◌<◌, ◌≤◌, Bool, true, false, List, [], ◌∷◌, cond, length, map, replicate, string_bytes, inl, inr, refl, sym, subst, ◌∙◌, arith}
use Rattle.std.specs.Prelude.{Contains}
use Rattle.std.specs.Int.{IsBitSet}
use Rattle.std.proofs.lemmas.List.{length-map, length-replicate}
use Rattle.std.proofs.lemmas.List.Sums.{sum_by-cons}
use Rattle.call_types.specs.Good.{good_count, is_good}
use Rattle.call_types.specs.declared.why.Why.{Why}
use Rattle.call_types.specs.declared.why.Why.TheVariants.{Good}
use Rattle.drive_base.specs.declared.drive.Drive.{Ghosts}
use Rattle.register_file.specs.declared.record.Base.{Base}
use Rattle.register_file.specs.declared.record.Next.{Next}
use Rattle.vote_core.specs.Lane.{Lane, lane_at, Base as LaneBase, Next as LaneNext}
use Rattle.vote_core.specs.Row.{is_good as is_good_row}
use Rattle.vote_core.specs.Laws.{ForwardKeeps, HadByPlaces, LeftAtByPlaces, LeftByPlaces, MarkSettles, MarkStaysDrawn, MendStaysCalm, MendStaysDrawn, PrepareKeeps, PrepareStaysDrawn, MarkKeeps as MarkLaw, MendKeeps as MendLaw}
use Rattle.vote_core.specs.Loops.{AtLeastHave, Have, IsAgain, IsPrepared, Leaves, LeavesAt, marked, mended, prepared, size}
use Rattle.vote_core.specs.Sound.{HoldsValue, LanesAreDrawn}
use Rattle.register_core.specs.Drafts.{EndsAt, IsDraftOf}
use Rattle.register_core.specs.LaneMoves.{IsMarked, IsProposed, MayProposeAgain, PrepareLeaves, StaysValue}
use Rattle.register_core.specs.LaneWrites.{WritesEach, letter_at}
use Rattle.register_core.specs.OnLanes.{AllTell, AreLanes, AreUnused}
use Rattle.register_core.specs.Proposals.{CountsWritten, MendKeeps, Mends, WritesFirst, WritesLast, quorum_of}
use Rattle.register_core.specs.Records.{base_of, marked_base, next_of, prepared_file, settled_file}
use Rattle.register_core.specs.declared.drafts.Draft.{Draft}
use Rattle.register_core.specs.declared.mends.Mended.{Mended}
use Rattle.register_core.specs.declared.proposals.Prepared.{Prepared}
use Rattle.register_core.proofs.LaneLemmas.{after_are, after_have, after_leaves, after_leaves_at, after_stay, lanes_after, none_set, target_at}

-- a pending change that is proposed again over the base of a lane
again_stays : ForwardKeeps → (w last later c : ℕ) (content : List ℕ) (lanes after : List Lane) (letters : List Why) (base : LaneBase) (next : LaneNext)
    → last ≤ later → HoldsValue w last lanes c content → MayProposeAgain later lanes c letters base next
    → LeavesAt (map is_good letters) (prepared base next) lanes after → StaysValue w later c content base next after
again_stays law w last later c content lanes after letters base next rises holds may left =
    let found_base : LaneBase = (lane_at lanes may.base_lane).base in
    let kept = law w last later c content lanes after may.rows may.base_lane may.lane may.found next rises holds may.finds
    (subst (λ (b : LaneBase). IsAgain later lanes b may.found next) (sym may.base_is) may.again)
    (subst (λ (b : LaneBase). LeavesAt (map is_good_row may.rows) (prepared b next) lanes after) (sym may.base_is)
    (subst (λ (targets : List Bool). LeavesAt targets (prepared base next) lanes after) may.on left)) in
    record { holds = kept.0; ready = subst (λ (b : LaneBase). IsPrepared after c b next) may.base_is kept.1 }

-- what a loop that prepares leaves
pub prepare_leaves : PrepareKeeps → ForwardKeeps → PrepareStaysDrawn → (w : ℕ) (letters : List Why) (base : LaneBase) (next : LaneNext) (lanes after : List Lane)
    → LeavesAt (map is_good letters) (prepared base next) lanes after → Leaves (prepared base next) lanes after
    → PrepareLeaves w letters base next lanes after
prepare_leaves own forward drawn w letters base next lanes after left_at left = record {
  value = λ last later c content may. elim may.may [
    | inl mine ↦
        let kept = own w last later c content lanes after base next may.rises may.holds mine.stands mine.value mine.own left in
        record { holds = kept.0; ready = kept.1 }
    | inr pending ↦ again_stays forward w last later c content lanes after letters base next may.rises may.holds pending left_at
  ];
  numbers = λ last later may. drawn last later lanes after base next may.rises may.drawn may.stands may.parent may.above may.own may.within left;
}

-- lanes that no loop has touched are as each leaves them
pub as_before : LeftByPlaces → (x : Lane) (lanes : List Lane) → Leaves x lanes lanes
as_before by_places x lanes = by_places x lanes lanes refl (λ k below. inl refl)

-- what no loop has touched is left by each
pub untouched : LeftAtByPlaces → LeftByPlaces → PrepareKeeps → ForwardKeeps → PrepareStaysDrawn → (w : ℕ) (letters : List Why) (base : LaneBase) (next : LaneNext) (lanes : List Lane)
    → length letters ≡ length lanes → PrepareLeaves w letters base next lanes lanes
untouched by_targets by_places own forward drawn w letters base next lanes sized =
    prepare_leaves own forward drawn w letters base next lanes lanes
    (by_targets (map is_good letters) (prepared base next) lanes lanes (length-map letters is_good ∙ sized) refl (λ k below. inl refl))
    (as_before by_places (prepared base next) lanes)

-- some lane has a record that at least one lane has
pub some_has : (mask : List Bool) (x : Lane) (lanes : List Lane) → Have mask x lanes → 1 ≤ size mask → Contains lanes x
some_has [] x [] have some = absurd (omega arith)
some_has [] x (lane ∷ lanes) have some = absurd have
some_has (has ∷ mask) x [] have some = absurd have
some_has (true ∷ mask) x (lane ∷ lanes) have some = (zero, omega arith, have.0 refl)
some_has (false ∷ mask) x (lane ∷ lanes) have some =
    let more : size (false ∷ mask) ≡ 0 + size mask = sum_by-cons (λ (b : Bool). cond b 1 0) false mask in
    let rest = some_has mask x lanes have.1 (omega arith) in
    (suc rest.0, omega (arith, rest.1), rest.2)

module _ {D : Type 0} (ghosts : Ghosts D) where
  -- what a loop wrote, in other words
  pub wrote_as : {out passed passed_is : ℕ} {name name_is bytes bytes_is : List ℕ} {term from to : ℕ} {letters letters_are whys : List Why} {old new : List D}
      → passed ≡ passed_is → name ≡ name_is → bytes ≡ bytes_is → letters ≡ letters_are
      → WritesEach ghosts out passed name bytes term from to letters whys old new
      → WritesEach ghosts out passed_is name_is bytes_is term from to letters_are whys old new
  wrote_as {out} {passed} {passed_is} {name} {name_is} {bytes} {bytes_is} {term} {from} {to} {letters} {letters_are} {whys} {old} {new} p n b l wrote =
      subst (λ (x : ℕ). WritesEach ghosts out x name_is bytes_is term from to letters_are whys old new) p
      (subst (λ (x : List ℕ). WritesEach ghosts out passed x bytes_is term from to letters_are whys old new) n
      (subst (λ (x : List ℕ). WritesEach ghosts out passed name x term from to letters_are whys old new) b
      (subst (λ (x : List Why). WritesEach ghosts out passed name bytes term from to x whys old new) l wrote)))

  -- what proposing keeps, but for its result
  pub record Proposed (draft : Draft) (out : ℕ) (base : Base) (next : Next) (whys : List Why) (new : List D) (lanes : List Lane) : Type 0 where
    pub after : List Lane
    pub are : AreLanes ghosts.files out (string_bytes draft.name) new after
    pub left : Leaves (prepared (base_of base) (next_of next)) lanes after
    pub leaves : PrepareLeaves (quorum_of draft) draft.letters (base_of base) (next_of next) lanes after
    pub stay : (k : ℕ) → IsBitSet out k → lane_at after k ≡ lane_at lanes k
    pub took : quorum_of draft ≤ good_count whys → AtLeastHave (quorum_of draft) (map is_good whys) (prepared (base_of base) (next_of next)) after

  pub proposed : LeftAtByPlaces → LeftByPlaces → HadByPlaces → PrepareKeeps → ForwardKeeps → PrepareStaysDrawn
      → (draft : Draft) (out term from to : ℕ) (base : Base) (next : Next) (whys : List Why) (old new : List D) (lanes : List Lane)
      → to ≤ 2 ^ 64 → length draft.letters ≡ length old → IsDraftOf draft base next
      → WritesFirst ghosts draft out term from to whys old new
      → AllTell ghosts.tells out old → AreUnused ghosts.files out term from old → AreLanes ghosts.files out (string_bytes draft.name) old lanes
      → Proposed draft out base next whys new lanes
  proposed by_targets by_places by_mask own forward drawn draft out term from to base next whys old new lanes few sized is wrote tell unused are =
      let x : Lane = prepared (base_of base) (next_of next) in
      let name : List ℕ = string_bytes draft.name in
      let loop = lanes_after ghosts out out 0 name draft.first.items term from to draft.letters whys x old new lanes few
      (record { file = prepared_file base next; canonical = is.canonical; bytes_are = is.first; record_is = refl }) wrote tell unused are in
      let left : Leaves x lanes loop.after = after_leaves ghosts by_places out out 0 name draft.letters whys x old new lanes are.counted loop in
      record {
        after = loop.after;
        are = after_are ghosts out out 0 name draft.first.items term from to draft.letters whys x old new lanes wrote loop;
        left = left;
        leaves = prepare_leaves own forward drawn (quorum_of draft) draft.letters (base_of base) (next_of next) lanes loop.after
            (after_leaves_at ghosts by_targets out out 0 name draft.letters whys x old new lanes are.counted sized loop) left;
        stay = after_stay ghosts out out 0 name draft.letters whys x old new lanes are.counted loop;
        took = λ enough. after_have ghosts by_mask (quorum_of draft) out out name draft.letters whys x old new lanes (wrote.counted ∙ sized) enough loop;
      }

  -- what marking keeps, but for its result
  pub record HasMarked (draft : Draft) (took : Prepared) (next : Next) (whys : List Why) (new : List D) (lanes : List Lane) : Type 0 where
    pub after : List Lane
    pub are : AreLanes ghosts.files took.out (string_bytes draft.name) new after
    pub left : Leaves (marked (next_of next)) lanes after
    pub stay : (k : ℕ) → IsBitSet took.out k → lane_at after k ≡ lane_at lanes k
    pub any : (base : LaneBase) (last c : ℕ) (content : List ℕ) → IsProposed (quorum_of draft) last lanes c content took.whys base (next_of next)
        → HoldsValue (quorum_of draft) last after c content ⊎ HoldsValue (quorum_of draft) last after (next_of next).change (next_of next).content
    pub enough : quorum_of draft ≤ good_count whys → (base : LaneBase) (last c : ℕ) (content : List ℕ)
        → IsProposed (quorum_of draft) last lanes c content took.whys base (next_of next) → IsMarked (quorum_of draft) last c (next_of next) after
    pub numbers : (base : LaneBase) (last : ℕ) → AtLeastHave (quorum_of draft) (map is_good took.whys) (prepared base (next_of next)) lanes
        → LanesAreDrawn last lanes → LanesAreDrawn last after
    pub have : (k : ℕ) → k < length after → letter_at whys k ≡ Good → lane_at after k ≡ marked (next_of next)

  pub has_marked : LeftAtByPlaces → LeftByPlaces → HadByPlaces → MarkLaw → MarkSettles → MarkStaysDrawn
      → (draft : Draft) (took : Prepared) (term from to : ℕ) (next : Next) (whys : List Why) (old new : List D) (lanes : List Lane)
      → to ≤ 2 ^ 64 → 1 ≤ quorum_of draft → length took.whys ≡ length old → EndsAt draft (marked_base next)
      → WritesLast ghosts draft took term from to whys old new
      → AllTell ghosts.tells took.out old → AreUnused ghosts.files took.out term from old → AreLanes ghosts.files took.out (string_bytes draft.name) old lanes
      → HasMarked draft took next whys new lanes
  has_marked by_targets by_places by_mask any settles drawn draft took term from to next whys old new lanes few some sized ends wrote tell unused are =
      let w : ℕ = quorum_of draft in
      let n : LaneNext = next_of next in
      let x : Lane = marked n in
      let out : ℕ = took.out in
      let name : List ℕ = string_bytes draft.name in
      let loop = lanes_after ghosts out out 0 name draft.last.items term from to took.whys whys x old new lanes few
      (record { file = settled_file (marked_base next); canonical = ends.canonical; bytes_are = ends.last; record_is = refl }) wrote tell unused are in
      let left_at : LeavesAt (map is_good took.whys) x lanes loop.after =
      after_leaves_at ghosts by_targets out out 0 name took.whys whys x old new lanes are.counted sized loop in
      let left : Leaves x lanes loop.after = after_leaves ghosts by_places out out 0 name took.whys whys x old new lanes are.counted loop in
      record {
        after = loop.after;
        are = after_are ghosts out out 0 name draft.last.items term from to took.whys whys x old new lanes wrote loop;
        left = left;
        stay = after_stay ghosts out out 0 name took.whys whys x old new lanes are.counted loop;
        any = λ base last c content ready.
            any w last c content lanes loop.after base n (map is_good took.whys) some ready.holds ready.ready ready.took left_at;
        enough = λ many base last c content ready.
            let done = settles w last c content lanes loop.after base n (map is_good took.whys) (map is_good whys) some ready.holds ready.ready ready.took left_at
            (after_have ghosts by_mask w out out name took.whys whys x old new lanes (wrote.counted ∙ sized) many loop) in
            record { holds = done.0; stands = done.1; held = done.2; calm = done.3 };
        numbers = λ base last had lawful.
            drawn last lanes loop.after base n lawful (some_has (map is_good took.whys) (prepared base n) lanes had.have (omega (arith, had.enough))) left;
        have = λ k below good. (loop.has k (omega (arith, loop.counted)) good (none_set k)).1;
      }

  -- what mending keeps
  pub mend_keeps : LeftByPlaces → MendLaw → MendStaysCalm → MendStaysDrawn
      → (draft : Draft) (out unknown term from to : ℕ) (base : Base) (answer : Mended) (old new : List D) (lanes : List Lane)
      → to ≤ 2 ^ 64 → EndsAt draft base
      → WritesEach ghosts out draft.passed (string_bytes draft.name) draft.last.items term from to (replicate draft.set.drives Good) answer.whys old new
      → AllTell ghosts.tells out old → AreUnused ghosts.files out term from old → AreLanes ghosts.files unknown (string_bytes draft.name) old lanes
      → MendKeeps ghosts draft out unknown base answer new lanes
  mend_keeps by_places keeps calm drawn draft out unknown term from to base answer old new lanes few ends wrote tell unused are =
      let b : LaneBase = base_of base in
      let x : Lane = mended b in
      let name : List ℕ = string_bytes draft.name in
      let letters : List Why = replicate draft.set.drives Good in
      let loop = lanes_after ghosts out unknown draft.passed name draft.last.items term from to letters answer.whys x old new lanes few
      (record { file = settled_file base; canonical = ends.canonical; bytes_are = ends.last; record_is = refl }) wrote tell unused are in
      let left : Leaves x lanes loop.after =
      after_leaves ghosts by_places out unknown draft.passed name letters answer.whys x old new lanes are.counted loop in
      record {
        after = loop.after;
        are = after_are ghosts out unknown draft.passed name draft.last.items term from to letters answer.whys x old new lanes wrote loop;
        left = left;
        stay = after_stay ghosts out unknown draft.passed name letters answer.whys x old new lanes are.counted loop;
        leaves = record {
          value = λ last c content holds stands is. (
            keeps (quorum_of draft) last c content lanes loop.after b holds stands is left,
            λ quiet. calm (quorum_of draft) last c content lanes loop.after b holds quiet stands is left,
          );
          numbers = λ last lawful stands. drawn last lanes loop.after b lawful stands left;
        };
        may = λ k d below. elim (loop.each k d (omega (arith, wrote.long))).left [
          | inl same ↦ inl same
          | inr done ↦ inr (done.1, done.2)
        ];
        has = λ k d below good not_passed.
            let target = (loop.has k (omega (arith, wrote.long)) good not_passed).0 in
            (loop.each k d (omega (arith, wrote.long))).has target good;
      }

  -- what mending answers
  pub mends : (draft : Draft) (out term from to : ℕ) (answer : Mended) (old new : List D) → length old ≡ draft.set.drives
      → WritesEach ghosts out draft.passed (string_bytes draft.name) draft.last.items term from to (replicate draft.set.drives Good) answer.whys old new
      → CountsWritten draft.passed answer.whys answer.lanes → Mends ghosts draft out term from to answer old new
  mends draft out term from to answer old new sized wrote counts =
      let letters : List Why = replicate draft.set.drives Good in
      let many : length answer.whys ≡ length old = wrote.counted ∙ length-replicate draft.set.drives Good ∙ sym sized in
      record {
        wrote = wrote;
        written = counts.written;
        counted = counts.counted ∙ many;
        are = λ k below. (
          λ has. let was = (counts.are k (omega arith)).0 has in
              (target_at ghosts out draft.passed (string_bytes draft.name) draft.last.items term from to letters answer.whys old new wrote k below was.1 was.0, was.1),
          λ was. (counts.are k (omega arith)).1 (was.0.not_passed, was.1),
        );
        many = counts.many_is;
      }
