-- The records that a loop of writes leaves on the lanes.
use Rattle.std.proofs.Common.{◌≡◌, ◌≢◌, ◌⊎◌, ℕ, zero, suc, ◌+◌, ◌^◌, ◌<◌, ◌≤◌, Bool, false, IsTrue, List, [], ◌∷◌, Option, None, Some, cond, length, map, slice_index_or, ap, inl, inr, refl, sym, subst, ◌∙◌, arith}
use Rattle.std.specs.Int.{IsBitSet}
use Rattle.std.specs.Int.Bits.{and_zero_l}
use Rattle.std.proofs.lemmas.List.Sums.{sum_by-cons}
use Rattle.std.proofs.lemmas.Bool.{cases_lt}
use Rattle.std.proofs.lemmas.List.{get_or-map, get_or_default, length-map}
use Rattle.std.proofs.Math.ListN.{get_or-eq_default}
use Rattle.call_types.specs.Good.{good_count, is_good}
use Rattle.call_types.specs.declared.why.FileKind.TheVariants.{Format}
use Rattle.call_types.specs.declared.why.Why.{Why}
use Rattle.call_types.specs.declared.why.Why.TheVariants.{Good, Failed, Damaged, Behind, Lacks}
use Rattle.call_types.proofs.GoodLemmas.{good_means}
use Rattle.drive_base.specs.declared.drive.Drive.{Ghosts}
use Rattle.drive_base.specs.Files.{Files, Named}
use Rattle.file_access.specs.Writing.{IsInPlace, Touches, WriteLeaves}
use Rattle.register_file.specs.Record.{IsCanonical}
use Rattle.register_file.specs.Spelling.{file_of}
use Rattle.register_file.specs.declared.record.RegFile.{RegFile}
use Rattle.vote_core.specs.Lane.{Lane, blank_lane, lane_at}
use Rattle.register_core.specs.Loose.{loose_name}
use Rattle.vote_core.specs.Laws.{HadByPlaces, LeftAtByPlaces, LeftByPlaces}
use Rattle.vote_core.specs.Loops.{AtLeastHave, Leaves, LeavesAt, size}
use Rattle.register_core.specs.LaneWrites.{IsTarget, OnLane, WritesEach, letter_at}
use Rattle.register_core.specs.OnLanes.{AllTell, AreLanes, AreUnused}
use Rattle.register_core.specs.Records.{HasLane, lane_of}
use Rattle.register_core.proofs.LoopLemmas.{in_place}

-- records that were chosen place by place
pub record Chosen (n : ℕ) (P : ℕ → Lane → Type 0) : Type 0 where
  pub lanes : List Lane
  pub counted : length lanes ≡ n
  pub each : (k : ℕ) → k < n → P k (lane_at lanes k)

-- a record of one place
pub record Choice (P : Lane → Type 0) : Type 0 where
  pub lane : Lane
  pub is : P lane

pub choose : (n : ℕ) (P : ℕ → Lane → Type 0) → ((k : ℕ) → k < n → Choice (P k)) → Chosen n P
choose zero P each = record { lanes = []; counted = refl; each = λ k below. absurd (omega arith) }
choose (suc n) P each =
    let first : Choice (P zero) = each zero (omega arith) in
    let rest : Chosen n (λ k. P (suc k)) = choose n (λ k. P (suc k)) (λ k below. each (suc k) (omega arith)) in
    record {
      lanes = first.lane ∷ rest.lanes;
      counted = ap suc rest.counted;
      each = at n P first rest;
    }
  where
    at : (n : ℕ) (P : ℕ → Lane → Type 0) (first : Choice (P zero)) (rest : Chosen n (λ k. P (suc k))) (k : ℕ) → k < suc n → P k (lane_at (first.lane ∷ rest.lanes) k)
    at n P first rest zero below = first.is
    at n P first rest (suc k) below = rest.each k (omega arith)

-- a write that succeeded has its file in place
placed_or_failed : (why : Why) (loose name bytes : List ℕ) (old new : Files) → WriteLeaves why loose name bytes old new
    → IsInPlace loose name bytes old new ⊎ (Touches loose old new × (why ≢ Good))
placed_or_failed Good loose name bytes old new left = inl left
placed_or_failed (Failed before after) loose name bytes old new left = elim left [
  | inl touched ↦ inr (touched, failed_not_good before after)
  | inr placed ↦ inl placed
]
  where
    failed_not_good : (before after : ℕ) → Failed before after ≢ Good
    failed_not_good before after e = cc
placed_or_failed (Damaged damage) loose name bytes old new left = absurd left
placed_or_failed (Behind ballot) loose name bytes old new left = absurd left
placed_or_failed (Lacks kind) loose name bytes old new left = elim left [
  | inl touched ↦ inr (touched, lacks_not_good kind)
  | inr placed ↦ inl placed
]
  where
    lacks_not_good : (kind : _) → Lacks kind ≢ Good
    lacks_not_good kind e = cc

-- the file of a record, and what stands for it
pub record FileOf (bytes : List ℕ) (x : Lane) : Type 0 where
  pub file : RegFile
  pub canonical : IsCanonical file
  pub bytes_are : bytes ≡ file_of file
  pub record_is : x ≡ lane_of file

has_lane_of_file : (bytes : List ℕ) (x : Lane) (kept : Option (List ℕ)) → FileOf bytes x → kept ≡ Some bytes → HasLane kept x
has_lane_of_file bytes x kept is same =
    subst (λ (k : Option (List ℕ)). HasLane k x) (sym same) (is.file, is.canonical, is.bytes_are, is.record_is)

-- no bit of 0 is set
pub none_set : (k : ℕ) → IsBitSet 0 k → ⊥
none_set k set = set (and_zero_l (2 ^ k))

-- the size of a list of tests
pub size_of_good : (whys : List Why) → size (map is_good whys) ≡ good_count whys
size_of_good [] = refl
size_of_good (why ∷ whys) =
    sum_by-cons (λ (has : Bool). cond has 1 0) (is_good why) (map is_good whys)
    ∙ ap (λ (n : ℕ). cond (is_good why) 1 0 + n) (size_of_good whys)
    ∙ sym (sum_by-cons (λ (w : Why). cond (is_good w) 1 0) why whys)

module _ {D : Type 0} (ghosts : Ghosts D) where
  -- the record of a lane after a loop: the one before, or the loop's
  pub record LaneAfter (out unknown passed k : ℕ) (name : List ℕ) (letters whys : List Why) (x : Lane) (new : D) (before after : Lane) : Type 0 where
    pub are : (IsBitSet unknown k → ⊥) → HasLane ((ghosts.files new).kept name) after
    pub left : (after ≡ before) ⊎ (IsTarget out passed letters k × (after ≡ x) × HasLane ((ghosts.files new).kept name) after)
    pub has : IsTarget out passed letters k → letter_at whys k ≡ Good → (after ≡ x) × HasLane ((ghosts.files new).kept name) after

  -- a lane that wasn't written
  stays : (out unknown passed k : ℕ) (name : List ℕ) (letters whys : List Why) (x : Lane) (old new : D) (before : Lane) → new ≡ old
      → ((IsBitSet unknown k → ⊥) → HasLane ((ghosts.files old).kept name) before) → (IsTarget out passed letters k → ⊥)
      → LaneAfter out unknown passed k name letters whys x new before before
  stays out unknown passed k name letters whys x old new before same was no_target = record {
    are = λ known. subst (λ (d : D). HasLane ((ghosts.files d).kept name) before) (sym same) (was known);
    left = inl refl;
    has = λ target good. absurd (no_target target);
  }

  -- the record of a lane after a loop
  lane_after : (out unknown passed k : ℕ) (name bytes : List ℕ) (term from to : ℕ) (letters whys : List Why) (x : Lane) (old new : D) (before : Lane)
      → to ≤ 2 ^ 64 → FileOf bytes x
      → ((IsBitSet out k → ⊥) → IsTrue (ghosts.tells old))
      → ((IsBitSet out k → ⊥) → (later : ℕ) → from ≤ later → later < 2 ^ 64 → (ghosts.files old).loose (loose_name term later) ≡ None)
      → ((IsBitSet unknown k → ⊥) → HasLane ((ghosts.files old).kept name) before)
      → OnLane ghosts out passed name bytes term from to letters k (letter_at whys k) old new
      → Choice (LaneAfter out unknown passed k name letters whys x new before)
  lane_after out unknown passed k name bytes term from to letters whys x old new before few is tell unused was on = elim on [
    | inl gone ↦ record {
      lane = before;
      is = stays out unknown passed k name letters whys x old new before gone.stays was (λ target. target.in_use gone.out_is);
    }
    | inr (inl kept) ↦ record {
      lane = before;
      is = stays out unknown passed k name letters whys x old new before kept.stays was
          (λ target. elim kept.passed_is [ inl bit ↦ target.not_passed bit | inr bad ↦ bad target.good ]);
    }
    | inr (inr done) ↦
        let target = done.0 in
        let writes = done.1 in
        let loose = loose_name term writes.number in
        let left : WriteLeaves (letter_at whys k) loose name bytes (ghosts.files old) (ghosts.files new) =
        writes.leaves (tell target.in_use) (unused target.in_use writes.number writes.low (omega (arith, writes.high))) in
        elim (placed_or_failed (letter_at whys k) loose name bytes (ghosts.files old) (ghosts.files new) left) [
          | inl placed ↦
              let there : HasLane ((ghosts.files new).kept name) x =
              has_lane_of_file bytes x ((ghosts.files new).kept name) is (in_place ghosts loose name bytes (ghosts.files old) (ghosts.files new) placed).0 in
              record {
                lane = x;
                is = record { are = λ known. there; left = inr (target, refl, there); has = λ aimed good. (refl, there) };
              }
          | inr failed ↦ record {
            lane = before;
            is = record {
              are = λ known. subst (λ (named : Named (List ℕ)). HasLane (named name) before) (sym failed.0.kept) (was known);
              left = inl refl;
              has = λ aimed good. absurd (failed.1 good);
            };
          }
        ]
  ]

  -- a lane that isn't passed over, and whose letter is good then, was to be written
  aimed : (out passed k : ℕ) (name bytes : List ℕ) (term from to : ℕ) (letters : List Why) (why : Why) (old new : D)
      → OnLane ghosts out passed name bytes term from to letters k why old new → why ≡ Good → (IsBitSet passed k → ⊥) → IsTarget out passed letters k
  aimed out passed k name bytes term from to letters why old new on good not_passed = elim on [
    | inl gone ↦ absurd (not_lacking (sym gone.letter ∙ good))
    | inr (inl kept) ↦ elim kept.passed_is [ inl bit ↦ absurd (not_passed bit) | inr bad ↦ absurd (bad (sym kept.letter_is ∙ good)) ]
    | inr (inr done) ↦ done.0
  ]
    where
      not_lacking : Lacks Format ≢ Good
      not_lacking e = cc

  -- the same of each lane
  pub target_at : (out passed : ℕ) (name bytes : List ℕ) (term from to : ℕ) (letters whys : List Why) (old new : List D)
      → WritesEach ghosts out passed name bytes term from to letters whys old new
      → (k : ℕ) → k < length old → letter_at whys k ≡ Good → (IsBitSet passed k → ⊥) → IsTarget out passed letters k
  target_at out passed name bytes term from to letters whys [] new wrote k below good not_passed = absurd (omega arith)
  target_at out passed name bytes term from to letters whys (o ∷ os) new wrote k below good not_passed =
      aimed out passed k name bytes term from to letters (letter_at whys k) (slice_index_or (o ∷ os) k o) (slice_index_or new k o)
      (wrote.each k o below) good not_passed

  -- the records of the lanes after a loop: each is as before or the loop's, and the loop's where its letter is good then
  pub record LanesAfter (out unknown passed : ℕ) (name : List ℕ) (letters whys : List Why) (x : Lane) (old new : List D) (lanes : List Lane) : Type 0 where
    pub after : List Lane
    pub counted : length after ≡ length old
    pub each : (k : ℕ) (d : D) → k < length old
        → LaneAfter out unknown passed k name letters whys x (slice_index_or new k d) (lane_at lanes k) (lane_at after k)
    pub left : (k : ℕ) → k < length old → (lane_at after k ≡ lane_at lanes k) ⊎ (IsTarget out passed letters k × (lane_at after k ≡ x))
    pub has : (k : ℕ) → k < length old → letter_at whys k ≡ Good → (IsBitSet passed k → ⊥) → IsTarget out passed letters k × (lane_at after k ≡ x)

  pub lanes_after : (out unknown passed : ℕ) (name bytes : List ℕ) (term from to : ℕ) (letters whys : List Why) (x : Lane) (old new : List D) (lanes : List Lane)
      → to ≤ 2 ^ 64 → FileOf bytes x
      → WritesEach ghosts out passed name bytes term from to letters whys old new
      → AllTell ghosts.tells out old → AreUnused ghosts.files out term from old → AreLanes ghosts.files unknown name old lanes
      → LanesAfter out unknown passed name letters whys x old new lanes
  lanes_after out unknown passed name bytes term from to letters whys x [] new lanes few is wrote tell unused are = record {
    after = [];
    counted = refl;
    each = λ k d below. absurd (omega arith);
    left = λ k below. absurd (omega arith);
    has = λ k below good not_passed. absurd (omega arith);
  }
  lanes_after out unknown passed name bytes term from to letters whys x (o ∷ os) new lanes few is wrote tell unused are =
      let P : ℕ → Lane → Type 0 = λ k after. LaneAfter out unknown passed k name letters whys x (slice_index_or new k o) (lane_at lanes k) after in
      let picked : Chosen (length (o ∷ os)) P = choose (length (o ∷ os)) P (λ k below.
      lane_after out unknown passed k name bytes term from to letters whys x (slice_index_or (o ∷ os) k o) (slice_index_or new k o) (lane_at lanes k) few is
      (λ in_use. tell k o below in_use) (λ in_use later at fits. unused k o later below in_use at fits) (λ known. are.each k o below known) (wrote.each k o below)) in
      record {
        after = picked.lanes;
        counted = picked.counted;
        each = λ k d below.
            subst (λ (n : D). LaneAfter out unknown passed k name letters whys x n (lane_at lanes k) (lane_at picked.lanes k))
            (get_or_default new k o d (omega (arith, wrote.long))) (picked.each k below);
        left = λ k below. elim (picked.each k below).left [ inl same ↦ inl same | inr done ↦ inr (done.0, done.1) ];
        has = λ k below good not_passed.
            let target = target_at out passed name bytes term from to letters whys (o ∷ os) new wrote k below good not_passed in
            (target, ((picked.each k below).has target good).0);
      }

  -- the drives keep these records
  pub after_are : (out unknown passed : ℕ) (name bytes : List ℕ) (term from to : ℕ) (letters whys : List Why) (x : Lane) (old new : List D) (lanes : List Lane)
      → WritesEach ghosts out passed name bytes term from to letters whys old new
      → (loop : LanesAfter out unknown passed name letters whys x old new lanes) → AreLanes ghosts.files unknown name new loop.after
  after_are out unknown passed name bytes term from to letters whys x old new lanes wrote loop = record {
    counted = loop.counted ∙ sym wrote.long;
    each = λ k d below known. (loop.each k d (omega (arith, wrote.long))).are known;
  }

  -- lanes that are out are as they were
  pub after_stay : (out unknown passed : ℕ) (name : List ℕ) (letters whys : List Why) (x : Lane) (old new : List D) (lanes : List Lane) → length lanes ≡ length old
      → (loop : LanesAfter out unknown passed name letters whys x old new lanes) → (k : ℕ) → IsBitSet out k → lane_at loop.after k ≡ lane_at lanes k
  after_stay out unknown passed name letters whys x old new lanes long loop k bit = elim (cases_lt k (length old)) [
    | inl below ↦ elim (loop.left k below) [ inl same ↦ same | inr done ↦ absurd (done.0.in_use bit) ]
    | inr beyond ↦
        get_or-eq_default loop.after blank_lane (omega (arith, loop.counted)) ∙ sym (get_or-eq_default lanes blank_lane (omega arith))
  ]

  -- whether a lane's letter is good, in a list of tests
  good_at : (letters : List Why) (k : ℕ) → k < length letters → slice_index_or (map is_good letters) k false ≡ is_good (letter_at letters k)
  good_at letters k below = get_or-map is_good letters k (Lacks Format) false below

  -- what a loop leaves, in the words of the theory of lanes
  pub after_leaves_at : LeftAtByPlaces → (out unknown passed : ℕ) (name : List ℕ) (letters whys : List Why) (x : Lane) (old new : List D) (lanes : List Lane)
      → length lanes ≡ length old → length letters ≡ length old
      → (loop : LanesAfter out unknown passed name letters whys x old new lanes) → LeavesAt (map is_good letters) x lanes loop.after
  after_leaves_at law out unknown passed name letters whys x old new lanes long sized loop =
      law (map is_good letters) x lanes loop.after (length-map letters is_good ∙ sized ∙ sym long) (loop.counted ∙ sym long)
      (λ k below. elim (loop.left k (omega arith)) [
        | inl same ↦ inl same
        | inr done ↦ inr (good_at letters k (omega arith) ∙ ap is_good done.0.good, done.1)
      ])

  pub after_leaves : LeftByPlaces → (out unknown passed : ℕ) (name : List ℕ) (letters whys : List Why) (x : Lane) (old new : List D) (lanes : List Lane)
      → length lanes ≡ length old
      → (loop : LanesAfter out unknown passed name letters whys x old new lanes) → Leaves x lanes loop.after
  after_leaves law out unknown passed name letters whys x old new lanes long loop =
      law x lanes loop.after (loop.counted ∙ sym long) (λ k below. elim (loop.left k (omega arith)) [ inl same ↦ inl same | inr done ↦ inr done.1 ])

  -- as many lanes as have a good letter have the loop's record
  pub after_have : HadByPlaces → (w out unknown : ℕ) (name : List ℕ) (letters whys : List Why) (x : Lane) (old new : List D) (lanes : List Lane)
      → length whys ≡ length old → w ≤ good_count whys
      → (loop : LanesAfter out unknown 0 name letters whys x old new lanes) → AtLeastHave w (map is_good whys) x loop.after
  after_have law w out unknown name letters whys x old new lanes sized enough loop = record {
    have = law (map is_good whys) x loop.after (length-map whys is_good ∙ sized ∙ sym loop.counted)
        (λ k below good. (loop.has k (omega (arith, loop.counted))
        (good_means (letter_at whys k) (sym (good_at whys k (omega (arith, loop.counted))) ∙ good)) (none_set k)).1);
    enough = subst (λ (n : ℕ). w ≤ n) (sym (size_of_good whys)) enough;
  }
