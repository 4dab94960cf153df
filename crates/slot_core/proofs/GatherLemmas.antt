-- The names that are listed are the first of those that the lanes show.
use Rattle.std.specs.Prelude.{◌≡◌, ◌≢◌, ◌⊎◌, ◌↔◌, ℕ, ◌+◌, ◌<◌, ◌≤◌, Bool, true, false, cond, IsTrue, IsSome, List, [], ◌∷◌, ◌++◌, All, Contains, length, map, slice_index_or, slice_set, Option, Some, String, string_bytes, refl}
use Rattle.std.proofs.Common.{sym, ap, ◌∙◌, subst, inl, inr, arith, get_or-set_other, get_or-set_same}
use Rattle.std.proofs.lemmas.Bool.{cases_eq}
use Rattle.std.proofs.lemmas.List.{map-append}
use Rattle.std.proofs.lemmas.List.Elements.{All-contains, All-weaker, Contains-append_left, Contains-get_or, Contains-push, Contains-push_cases}
use Rattle.std.proofs.lemmas.Map.Text.{btree_map_updates_text}
use Rattle.std.proofs.lemmas.Slice.Eq.{bytes_eq-Decides}
use Rattle.std.specs.BTreeMap.{BTreeMap, UpdatesBy, get_by_text}
use Rattle.std.specs.Cmp.Lexicographic.{slice_cmp}
use Rattle.std.specs.Ordering.{nat_cmp}
use Rattle.std.specs.Str.{bytes_eq}
use Rattle.std.specs.String.{string_cmp}
use Rattle.std.specs.declared.cmp.Ordering.TheVariants.{Less}
use Rattle.call_types.specs.declared.why.FileKind.TheVariants.{Format, Manifest, Register, Shard}
use Rattle.call_types.specs.declared.why.Why.{Why}
use Rattle.call_types.specs.declared.why.Why.TheVariants.{Behind, Damaged, Failed, Good, Lacks}
use Rattle.drive_base.specs.declared.drive.Drive.{Ghosts}
use Rattle.drive_base.specs.Files.{Named}
use Rattle.drive_base.specs.Names.{IsBefore, IsPage, ListsShown, byte_order}
use Rattle.drive_base.specs.declared.drive.TheConstants.{LONGEST_NAME}
use Rattle.register_core.specs.LaneWrites.{letter_at}
use Rattle.slot_core.proofs.SortedLemmas.{before_trans, each_or, within_same}
use Rattle.slot_core.specs.NamePages.{AreGathered, AsksLane, HasPage}
use Rattle.slot_core.specs.NameList.{AreShownNames, IsGiven, IsListable, IsShown, NamesLetter}

module _ {D : Type 0} (ghosts : Ghosts D) where
  -- a page that is gathered stays so
  page_later : (from : List ℕ) (most : ℕ) (Had Has : List ℕ → Type 0) (lane : D) → ((name : List ℕ) → Had name → Has name)
      → HasPage ghosts.tells ghosts.files from most Had lane → HasPage ghosts.tells ghosts.files from most Has lane
  page_later from most Had Has lane keeps h = record {
    given = h.given;
    page = h.page;
    there = All-weaker Had Has keeps h.given h.there;
    shown = h.shown;
  }

  -- a name that a lane shows which answered, and which is in the stretch, is given where its page was gathered
  given_of_page : {T : Type 0} (union : Named T) (from : List ℕ) (most : ℕ) (names : List (List ℕ)) (lane : D)
      → IsPage from most LONGEST_NAME names → ListsShown union from most LONGEST_NAME names
      → HasPage ghosts.tells ghosts.files from most (λ name. IsSome (union name)) lane → IsTrue (ghosts.tells lane)
      → (name : List ℕ) → IsSome ((ghosts.files lane).shown name) → IsListable from name → IsGiven most names name
  given_of_page union from most names lane page lists has told name shown listable = elim ((has.shown told).complete name shown listable.begins listable.short) [
    | inl there ↦ lists.complete name (All-contains (λ n. IsSome (union n)) has.given name has.there there) listable.begins listable.short
    | inr full ↦ elim (each_or (Contains names) ((length names ≡ most) × All (λ g. IsBefore g name) names) has.given (λ g there. of_given full.1 g there)) [
      | inl all ↦ inr (same_page full all)
      | inr given ↦ inr given
    ]
  ]
    where
      of_given : All (λ g. IsBefore g name) has.given → (g : List ℕ) → Contains has.given g → Contains names g ⊎ ((length names ≡ most) × All (λ x. IsBefore x name) names)
      of_given below g there = elim (lists.complete g (All-contains (λ n. IsSome (union n)) has.given g has.there there)
          (All-contains (λ n. byte_order n from ≢ Less) has.given g has.page.begins there) (All-contains (λ n. length n ≤ LONGEST_NAME) has.given g has.page.short there)) [
            | inl in_names ↦ inl in_names
            | inr after ↦ inr (
              after.0,
              All-weaker (λ x. IsBefore x g) (λ x. IsBefore x name)
                  (λ x before. before_trans x g name before (All-contains (λ n. IsBefore n name) has.given g below there)) names after.1,
            )
          ]

      same_page : (length has.given ≡ most) × All (λ g. IsBefore g name) has.given → All (Contains names) has.given
          → (length names ≡ most) × All (λ g. IsBefore g name) names
      same_page full all =
          let few = page.few in
          let size = full.0 in
          let same : names ≡ has.given = within_same has.given names has.page.rising page.rising (λ z there. All-contains (Contains names) has.given z all there) (omega arith) in
          subst (λ (l : List (List ℕ)). (length l ≡ most) × All (λ g. IsBefore g name) l) (sym same) full

  -- so the first of all that was gathered are the first that lanes show
  pub names_of_gathered : {T : Type 0} (union : Named T) (from : List ℕ) (most : ℕ) (whys : List Why) (names : List (List ℕ)) (lanes : List D)
      → AreGathered ghosts.tells ghosts.files (length lanes) from most whys (λ name. IsSome (union name)) lanes
      → IsPage from most LONGEST_NAME names → ListsShown union from most LONGEST_NAME names
      → AreShownNames ghosts.tells ghosts.files from most whys lanes names
  names_of_gathered union from most whys names lanes gathered page lists = record {
    page = page;
    shows = All-weaker (λ n. IsSome (union n)) (IsShown ghosts.tells ghosts.files whys lanes) (λ n has. (gathered.shows n has).0) names lists.shows;
    complete = λ k d name within good told shown listable.
        given_of_page union from most names (slice_index_or lanes k d) page lists (gathered.pages k d within good) told name shown listable;
  }

  -- one lane more was asked
  pub gathered_more : (out : Type 0) (i : ℕ) (from : List ℕ) (most : ℕ) (whys : List Why) (why : Why) (Had Has : List ℕ → Type 0) (lanes : List D) (old new : D)
      → i < length lanes → i < length whys → ((d : D) → slice_index_or lanes i d ≡ old)
      → AreGathered ghosts.tells ghosts.files i from most whys Had lanes → AsksLane ghosts out from most why Had Has old new
      → AreGathered ghosts.tells ghosts.files (i + 1) from most (slice_set whys i why) Has lanes
  gathered_more out i from most whys why Had Has lanes old new within lettered is gathered asks = record { shows = shows; pages = pages }
    where
      shows : (name : List ℕ) → Has name → (by : IsShown ghosts.tells ghosts.files (slice_set whys i why) lanes name) × (by.place < i + 1)
      shows name has = elim (asks.from_lane name has) [
        | inl had ↦
            let before = gathered.shows name had in
            let low : before.0.place < i = before.1 in (
              record {
                place = before.0.place;
                within = before.0.within;
                answered = get_or-set_other whys i before.0.place why (Lacks Format) (omega arith) ∙ before.0.answered;
                shown = before.0.shown;
              },
              omega arith,
            )
        | inr found ↦ (
          record {
            place = i;
            within = within;
            answered = get_or-set_same whys i why (Lacks Format) lettered ∙ found.0;
            shown = λ d. subst (λ (lane : D). IsTrue (ghosts.tells lane) → IsSome ((ghosts.files lane).shown name)) (sym (is d)) found.1;
          },
          omega arith,
        )
      ]

      pages : (k : ℕ) (d : D) → k < i + 1 → letter_at (slice_set whys i why) k ≡ Good → HasPage ghosts.tells ghosts.files from most Has (slice_index_or lanes k d)
      pages k d below good = elim (cases_eq k i) [
        | inl same ↦ subst (λ (m : ℕ). HasPage ghosts.tells ghosts.files from most Has (slice_index_or lanes m d)) (sym same)
            (subst (λ (lane : D). HasPage ghosts.tells ghosts.files from most Has lane) (sym (is d))
            (asks.page (sym (get_or-set_same whys i why (Lacks Format) lettered) ∙ (ap (λ (m : ℕ). letter_at (slice_set whys i why) m) (sym same) ∙ good))))
        | inr other ↦ page_later from most Had Has (slice_index_or lanes k d) asks.keeps
            (gathered.pages k d (omega arith) (sym (get_or-set_other whys i k why (Lacks Format) other) ∙ good))
      ]

-- a name is gathered, or still to be
abbrev pub HasOrWill : {X Y : Type 0} → BTreeMap (String Y) X → List (String Y) → List ℕ → Type 0
HasOrWill gathered names name = IsSome (get_by_text gathered name) ⊎ Contains (map string_bytes names) name

-- one more name was gathered
pub gather_step : {X Y : Type 0} (m n : BTreeMap (String Y) X) (key : String Y) (value : X) (rest all : List (String Y))
    → UpdatesBy string_cmp (λ k. slice_cmp nat_cmp (string_bytes key) (string_bytes k)) m n (Some value) → all ≡ rest ++ key ∷ []
    → (name : List ℕ) → HasOrWill n rest name ↔ HasOrWill m all name
gather_step {X} {Y} m n key value rest all updates is name = (forth, back)
  where
    text_is : get_by_text n name ≡ cond (bytes_eq (string_bytes key) name) (Some value) (get_by_text m name)
    text_is = btree_map_updates_text (string_bytes key) m n (Some value) updates name

    texts : map string_bytes all ≡ map string_bytes rest ++ string_bytes key ∷ []
    texts = ap (map string_bytes) is ∙ map-append string_bytes rest (key ∷ [])

    from_all : Contains (map string_bytes all) name → Contains (map string_bytes rest) name ⊎ (string_bytes key ≡ name)
    from_all there = Contains-push_cases (map string_bytes rest) (string_bytes key) name (subst (λ (l : List (List ℕ)). Contains l name) texts there)

    to_all : Contains (map string_bytes rest ++ string_bytes key ∷ []) name → Contains (map string_bytes all) name
    to_all there = subst (λ (l : List (List ℕ)). Contains l name) (sym texts) there

    new_some : (b : Bool) → bytes_eq (string_bytes key) name ≡ b → IsSome (cond b (Some value) (get_by_text m name)) → HasOrWill m all name
    new_some true same some = inr (to_all (subst (λ (q : List ℕ). Contains (map string_bytes rest ++ string_bytes key ∷ []) q)
        ((bytes_eq-Decides (string_bytes key) name).0 same) (Contains-push (map string_bytes rest) (string_bytes key))))
    new_some false other some = inl some

    forth : HasOrWill n rest name → HasOrWill m all name
    forth has = elim has [
      | inl some ↦ new_some (bytes_eq (string_bytes key) name) refl (subst (λ (o : Option X). IsSome o) text_is some)
      | inr will ↦ inr (to_all (Contains-append_left (map string_bytes rest) (string_bytes key ∷ []) name will))
    ]

    kept_some : (b : Bool) → IsSome (get_by_text m name) → IsSome (cond b (Some value) (get_by_text m name))
    kept_some true some = refl
    kept_some false some = some

    key_some : (b : Bool) → bytes_eq (string_bytes key) name ≡ b → string_bytes key ≡ name → IsSome (cond b (Some value) (get_by_text m name))
    key_some true same equal = refl
    key_some false other equal = absurd (let yes : bytes_eq (string_bytes key) name ≡ true = (bytes_eq-Decides (string_bytes key) name).1 equal in cc)

    back : HasOrWill m all name → HasOrWill n rest name
    back has = elim has [
      | inl some ↦ inl (subst (λ (o : Option X). IsSome o) (sym text_is) (kept_some (bytes_eq (string_bytes key) name) some))
      | inr will ↦ elim (from_all will) [
        | inl later ↦ inr later
        | inr equal ↦ inl (subst (λ (o : Option X). IsSome o) (sym text_is) (key_some (bytes_eq (string_bytes key) name) refl equal))
      ]
    ]

-- a letter by another way to say that the lane is out
pub letter_same : (P Q : Type 0) (why : Why) (old new : ℕ) → P ↔ Q → NamesLetter P why old new → NamesLetter Q why old new
letter_same P Q Good old new same letter = ((λ q. letter.0 (same.1 q)), letter.1)
letter_same P Q (Failed before after) old new same letter = ((λ q. letter.0 (same.1 q)), letter.1, letter.2, letter.3)
letter_same P Q (Damaged damage) old new same letter = absurd letter
letter_same P Q (Behind ballot) old new same letter = absurd letter
letter_same P Q (Lacks Format) old new same letter = (same.0 letter.0, letter.1)
letter_same P Q (Lacks Register) old new same letter = absurd letter
letter_same P Q (Lacks Manifest) old new same letter = absurd letter
letter_same P Q (Lacks Shard) old new same letter = absurd letter

-- what is so exactly where another thing is, which is so exactly where a third one is
pub iff_trans : {P Q R : Type 0} → P ↔ Q → Q ↔ R → P ↔ R
iff_trans first second = ((λ p. second.0 (first.0 p)), (λ r. first.1 (second.1 r)))

-- a lane that isn't out answered, and its page was gathered
pub asks_good : {D : Type 0} (ghosts : Ghosts D) (out : Type 0) (from : List ℕ) (most : ℕ) (given : List (List ℕ))
    (Had Has : List ℕ → Type 0) (old new : D)
    → (out → ⊥) → ghosts.count new ≡ ghosts.count old → ((name : List ℕ) → Has name ↔ (Had name ⊎ Contains given name))
    → IsPage from most LONGEST_NAME given → (IsTrue (ghosts.tells old) → ListsShown (ghosts.files old).shown from most LONGEST_NAME given)
    → AsksLane ghosts out from most Good Had Has old new
asks_good ghosts out from most given Had Has old new used counted gathers page lists = record {
  letter = (used, counted);
  stay = λ is. absurd (used is);
  keeps = λ name had. (gathers name).1 (inl had);
  from_lane = λ name has. elim ((gathers name).0 has) [
    | inl had ↦ inl had
    | inr found ↦ inr (refl, λ told. All-contains (λ n. IsSome ((ghosts.files old).shown n)) given name (lists told).shows found)
  ];
  page = λ good. record {
    given = given;
    page = page;
    there = λ k d within. (gathers (slice_index_or given k d)).1 (inr (Contains-get_or given k d within));
    shown = lists;
  };
}
