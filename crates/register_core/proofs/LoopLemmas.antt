-- What a loop of writes leaves of the lanes' drives.
use Rattle.std.proofs.Common.{◌≡◌, ◌⊎◌, ℕ, ◌+◌, ◌^◌, ◌<◌, ◌≤◌, Bool, true, false, IsTrue, List, None, Some, cond, length, slice_index_or, slice_set, ap, inl, inr, refl, sym, subst, ◌∙◌, arith}
use Rattle.std.specs.Str.{bytes_eq}
use Rattle.std.specs.Int.{IsBitSet}
use Rattle.std.proofs.lemmas.Bool.{cases_eq}
use Rattle.std.proofs.lemmas.List.{get_or-set_other, get_or-set_same}
use Rattle.std.proofs.lemmas.Slice.Eq.{bytes_eq-Decides}
use Rattle.call_types.specs.declared.why.FileKind.TheVariants.{Format}
use Rattle.call_types.specs.declared.why.Why.{Why}
use Rattle.call_types.specs.declared.why.Why.TheVariants.{Good, Failed, Damaged, Behind, Lacks}
use Rattle.drive_base.specs.declared.drive.Drive.{Ghosts}
use Rattle.drive_base.specs.Files.{Files, Named}
use Rattle.file_access.specs.Writing.{IsInPlace, Touches, WriteLeaves}
use Rattle.register_core.specs.Loose.{loose_name}
use Rattle.register_core.specs.LaneWrites.{IsPassed, IsTarget, KeepsDrives, OnLane, Writes, letter_at}
use Rattle.register_core.specs.OnLanes.{AllTell, AreUnused}
use Rattle.register_core.specs.Records.{IsHonest}
use Rattle.register_core.proofs.LooseLemmas.{loose_names_differ}

module _ {D : Type 0} (ghosts : Ghosts D) where
  -- what is left of a lane, where the numbers are within a wider range
  pub on_lane_wider : (out passed : ℕ) (name bytes : List ℕ) (term from to low high : ℕ) (letters : List Why) (k : ℕ) (why : Why) (old new : D) → low ≤ from → to ≤ high
      → OnLane ghosts out passed name bytes term from to letters k why old new
      → OnLane ghosts out passed name bytes term low high letters k why old new
  on_lane_wider out passed name bytes term from to low high letters k why old new below above on = elim on [
    | inl gone ↦ inl gone
    | inr (inl kept) ↦ inr (inl kept)
    | inr (inr done) ↦ inr (inr (done.0, wider done.1))
  ]
    where
      wider : Writes ghosts name bytes term from to why old new → Writes ghosts name bytes term low high why old new
      wider writes = record {
        number = writes.number;
        low = omega (arith, writes.low);
        high = omega (arith, writes.high);
        leaves = writes.leaves;
        cause = writes.cause;
      }

  -- what a write leaves: nothing but a loose file is changed, or the file is in place
  pub touched_or_placed : (why : Why) (loose name bytes : List ℕ) (old new : Files) → WriteLeaves why loose name bytes old new
      → Touches loose old new ⊎ IsInPlace loose name bytes old new
  touched_or_placed Good loose name bytes old new left = inr left
  touched_or_placed (Failed before after) loose name bytes old new left = left
  touched_or_placed (Damaged damage) loose name bytes old new left = absurd left
  touched_or_placed (Behind ballot) loose name bytes old new left = absurd left
  touched_or_placed (Lacks kind) loose name bytes old new left = left

  -- a write under a loose name that is not in use, on a lane that tells
  pub record Told (out passed k : ℕ) (name bytes : List ℕ) (term from to : ℕ) (letters : List Why) (why : Why) (old new : D) : Type 0 where
    pub target : IsTarget out passed letters k
    pub number : ℕ
    pub low : from ≤ number
    pub high : number < to
    pub leaves : WriteLeaves why (loose_name term number) name bytes (ghosts.files old) (ghosts.files new)

  -- a lane that tells is as it was, with its letter or as one that is out, or is written
  pub told : (out passed k : ℕ) (name bytes : List ℕ) (term from to : ℕ) (letters : List Why) (why : Why) (old new : D) → to ≤ 2 ^ 64
      → (IsBitSet out k → ⊥) → IsTrue (ghosts.tells old)
      → ((later : ℕ) → from ≤ later → later < 2 ^ 64 → (ghosts.files old).loose (loose_name term later) ≡ None)
      → OnLane ghosts out passed name bytes term from to letters k why old new
      → IsPassed ghosts out passed k (letter_at letters k) why old new ⊎ Told out passed k name bytes term from to letters why old new
  told out passed k name bytes term from to letters why old new few in_use tell unused on = elim on [
    | inl gone ↦ absurd (in_use gone.out_is)
    | inr (inl kept) ↦ inl kept
    | inr (inr done) ↦ inr (record {
      target = done.0;
      number = done.1.number;
      low = done.1.low;
      high = done.1.high;
      leaves = done.1.leaves tell (unused done.1.number done.1.low (omega (arith, done.1.high)));
    })
  ]

  -- what stands under another loose name stays
  loose_stays : (loose name bytes other : List ℕ) (old new : Files) → bytes_eq loose other ≡ false → Touches loose old new ⊎ IsInPlace loose name bytes old new
      → new.loose other ≡ old.loose other
  loose_stays loose name bytes other old new differ left = elim left [
    | inl touched ↦ touched.others other differ
    | inr placed ↦ placed.others other differ
  ]

  -- what is kept under another name stays
  kept_stays : (loose name bytes other : List ℕ) (old new : Files) → bytes_eq name other ≡ false → Touches loose old new ⊎ IsInPlace loose name bytes old new
      → (new.kept other ≡ old.kept other) × (new.shown other ≡ old.shown other)
  kept_stays loose name bytes other old new differ left = elim left [
    | inl touched ↦ (ap (λ (f : Named (List ℕ)). f other) touched.kept, ap (λ (f : Named (List ℕ)). f other) touched.shown)
    | inr placed ↦ (
      ap (λ (f : Named (List ℕ)). f other) placed.kept ∙ ap (λ (b : Bool). cond b (Some bytes) (old.kept other)) differ,
      ap (λ (f : Named (List ℕ)). f other) placed.shown ∙ ap (λ (b : Bool). cond b (Some bytes) (old.shown other)) differ,
    )
  ]

  -- what is in place is kept and shown
  pub in_place : (loose name bytes : List ℕ) (old new : Files) → IsInPlace loose name bytes old new
      → (new.kept name ≡ Some bytes) × (new.shown name ≡ Some bytes)
  in_place loose name bytes old new placed =
      let same : bytes_eq name name ≡ true = (bytes_eq-Decides name name).1 refl in (
        ap (λ (f : Named (List ℕ)). f name) placed.kept ∙ ap (λ (b : Bool). cond b (Some bytes) (old.kept name)) same,
        ap (λ (f : Named (List ℕ)). f name) placed.shown ∙ ap (λ (b : Bool). cond b (Some bytes) (old.shown name)) same,
      )

  -- damage stays honest
  honest_stays : (loose name bytes : List ℕ) (old new : Files) → Touches loose old new ⊎ IsInPlace loose name bytes old new
      → IsHonest (old.kept name) (old.shown name) → IsHonest (new.kept name) (new.shown name)
  honest_stays loose name bytes old new left honest = elim left [
    | inl touched ↦
        subst (λ (kept : Named (List ℕ)). IsHonest (kept name) (new.shown name)) (sym touched.kept)
        (subst (λ (shown : Named (List ℕ)). IsHonest (old.kept name) (shown name)) (sym touched.shown) honest)
    | inr placed ↦ let both = in_place loose name bytes old new placed in inl (both.1 ∙ sym both.0)
  ]

  -- a loop keeps the drives
  pub keeps_drives : (out passed : ℕ) (name bytes : List ℕ) (term from to : ℕ) (letters whys : List Why) (old new : List D) → to ≤ 2 ^ 64 → from ≤ to
      → length new ≡ length old
      → ((k : ℕ) (d : D) → k < length old
      → OnLane ghosts out passed name bytes term from to letters k (letter_at whys k) (slice_index_or old k d) (slice_index_or new k d))
      → AllTell ghosts.tells out old → AreUnused ghosts.files out term from old → KeepsDrives ghosts out name term from to old new
  keeps_drives out passed name bytes term from to letters whys old new few rises long each tell unused =
      record {
        unused = λ k d later below in_use at fits.
            let was = unused k d later (omega (arith, long)) in_use (omega arith) fits in
            elim (known k d (omega (arith, long)) in_use) [
              | inl passed_by ↦ subst (λ (x : D). (ghosts.files x).loose (loose_name term later) ≡ None) (sym passed_by.stays) was
              | inr writes ↦
                  loose_stays (loose_name term writes.number) name bytes (loose_name term later) _ _
                  (loose_names_differ term writes.number later (omega (arith, writes.high)) fits (λ e. omega (arith, e, writes.high)))
                  (touched_or_placed _ _ _ _ _ _ writes.leaves) ∙ was
            ];
        loose = λ k d other below in_use differs. elim (known k d below in_use) [
          | inl passed_by ↦ ap (λ (x : D). (ghosts.files x).loose other) passed_by.stays
          | inr writes ↦ loose_stays (loose_name term writes.number) name bytes other _ _ (differs writes.number writes.low writes.high)
              (touched_or_placed _ _ _ _ _ _ writes.leaves)
        ];
        others = λ k d other below in_use differ. elim (known k d below in_use) [
          | inl passed_by ↦ (ap (λ (x : D). (ghosts.files x).kept other) passed_by.stays, ap (λ (x : D). (ghosts.files x).shown other) passed_by.stays)
          | inr writes ↦ kept_stays (loose_name term writes.number) name bytes other _ _ differ (touched_or_placed _ _ _ _ _ _ writes.leaves)
        ];
        honest = λ honest k d below in_use.
            let was = honest k d (omega (arith, long)) in_use in
            elim (known k d (omega (arith, long)) in_use) [
              | inl passed_by ↦ subst (λ (x : D). IsHonest ((ghosts.files x).kept name) ((ghosts.files x).shown name)) (sym passed_by.stays) was
              | inr writes ↦ honest_stays (loose_name term writes.number) name bytes _ _ (touched_or_placed _ _ _ _ _ _ writes.leaves) was
            ];
      }
    where
      known : (k : ℕ) (d : D) → k < length old → (IsBitSet out k → ⊥)
          → IsPassed ghosts out passed k (letter_at letters k) (letter_at whys k) (slice_index_or old k d) (slice_index_or new k d)
          ⊎ Told out passed k name bytes term from to letters (letter_at whys k) (slice_index_or old k d) (slice_index_or new k d)
      known k d below in_use =
          told out passed k name bytes term from to letters (letter_at whys k) (slice_index_or old k d) (slice_index_or new k d) few in_use
          (tell k d below in_use) (λ later at fits. unused k d later below in_use at fits) (each k d below)

  -- the places of a list of letters and of a list of drives that a loop has gone over, one more of them
  pub one_place_more : (R Q : ℕ → Why → D → D → Type 0) (index : ℕ) (whys : List Why) (why : Why) (before now : List D) (lane : D)
      → index < length whys → index < length now
      → ((k : ℕ) (w : Why) (a b : D) → R k w a b → Q k w a b)
      → ((k : ℕ) (d : D) → k < index → R k (letter_at whys k) (slice_index_or before k d) (slice_index_or now k d))
      → ((d : D) → Q index why (slice_index_or before index d) lane)
      → (k : ℕ) (d : D) → k < index + 1
      → Q k (letter_at (slice_set whys index why) k) (slice_index_or before k d) (slice_index_or (slice_set now index lane) k d)
  one_place_more R Q index whys why before now lane low_whys low_now wider so here k d below = elim (cases_eq k index) [
    | inl same ↦
        subst (λ (i : ℕ). Q i (letter_at (slice_set whys index why) i) (slice_index_or before i d) (slice_index_or (slice_set now index lane) i d)) (sym same)
        (subst (λ (w : Why). Q index w (slice_index_or before index d) (slice_index_or (slice_set now index lane) index d))
        (sym (get_or-set_same whys index why (Lacks Format) low_whys))
        (subst (λ (x : D). Q index why (slice_index_or before index d) x) (sym (get_or-set_same now index lane d low_now)) (here d)))
    | inr other ↦
        subst (λ (w : Why). Q k w (slice_index_or before k d) (slice_index_or (slice_set now index lane) k d))
        (sym (get_or-set_other whys index k why (Lacks Format) other))
        (subst (λ (x : D). Q k (letter_at whys k) (slice_index_or before k d) x) (sym (get_or-set_other now index k lane d other))
        (wider k (letter_at whys k) (slice_index_or before k d) (slice_index_or now k d) (so k d (omega arith))))
  ]
