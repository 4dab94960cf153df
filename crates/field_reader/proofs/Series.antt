-- Series of parts: how they are spelled, and how a loop reads one.
use Rattle.std.proofs.Common.{◌≡◌, ℕ, zero, suc, ◌-◌, ◌+◌, ◌≤◌, ◌<◌, List, [], ◌∷◌, ◌++◌, length, Ok, Err, refl, sym, ap, subst, ◌∙◌, append_assoc, arith}
use Rattle.std.specs.List.{flat_map}
use Rattle.std.proofs.lemmas.List.{append-nil}
use Rattle.std.proofs.lemmas.List.Concat.{flat_map-cons}
use Rattle.field_reader.specs.declared.fault.ReadFault.{ReadFault}
use Rattle.field_reader.specs.declared.fault.ReadFault.TheVariants.{At, NoMemory}
use Rattle.field_reader.specs.Format.{Spot, Found, Format, and_then, ◌>>=◌, done, series}
use Rattle.field_reader.specs.Reading.{Gives}
use Rattle.field_reader.specs.Spelling.{IsBytes}
use Rattle.field_reader.proofs.Parts.{IsSpelled, Then, then_spelled, Done, done_spelled, told_spelled}

-- the texts of a list of parts, each after those before it
abbrev pub Each : {A : Type 0} → (List A → A → List ℕ → Type 0) → List A → List A → List ℕ → Type 0
Each Spells before [] text = text ≡ []
Each {A} Spells before (a ∷ others) text = (front : List ℕ) × (back : List ℕ) × Spells before a front × Each Spells (before ++ a ∷ []) others back × (text ≡ front ++ back)

-- so many of them
pub record Counted {A : Type 0} (Spells : List A → A → List ℕ → Type 0) (count : ℕ) (before values : List A) (text : List ℕ) : Type 0 where
  pub counted : length values ≡ count
  pub each : Each Spells before values text

pub series_spelled : {A : Type 0} (part : List A → Format A) (Spells : List A → A → List ℕ → Type 0) → ((before : List A) → IsSpelled (part before) (Spells before))
    → (count : ℕ) (before : List A) → IsSpelled (series count part before) (Counted Spells count before)
unfolding series
series_spelled {A} part Spells one zero before =
    let into : (values : List A) (text : List ℕ) → IsBytes text → Done [] values text → Counted Spells 0 before values text = λ values text fits d.
    subst (λ (v : List A). Counted Spells 0 before v text) (sym d.is) (record { counted = refl; each = d.nothing }) in
    let out_of : (values : List A) (text : List ℕ) → Counted Spells 0 before values text → Done [] values text = none before in
    told_spelled (done []) (Done []) (Counted Spells 0 before) into out_of (done_spelled [])
  where
    none : (before values : List A) (text : List ℕ) → Counted Spells 0 before values text → Done [] values text
    none before [] text c = record { is = refl; nothing = c.each }
    none before (a ∷ others) text c = absurd (omega (arith, c.counted))
series_spelled {A} part Spells one (suc count) before =
    let Rest : A → List A → List ℕ → Type 0 = λ first. Then (Counted Spells count (before ++ first ∷ [])) (λ others. Done (first ∷ others)) in
    let both = then_spelled (part before) (λ first. series count part (before ++ first ∷ []) >>= λ others. done (first ∷ others)) (Spells before) Rest (one before)
    (λ first. then_spelled (series count part (before ++ first ∷ [])) (λ others. done (first ∷ others)) (Counted Spells count (before ++ first ∷ [])) (λ others. Done (first ∷ others))
    (series_spelled part Spells one count (before ++ first ∷ [])) (λ others. done_spelled (first ∷ others))) in
    told_spelled (series (suc count) part before) (Then (Spells before) Rest) (Counted Spells (suc count) before) (into before) (out_of before) both
  where
    into : (before values : List A) (text : List ℕ) → IsBytes text → Then (Spells before) (λ first. Then (Counted Spells count (before ++ first ∷ [])) (λ others. Done (first ∷ others))) values text → Counted Spells (suc count) before values text
    into before values text fits t =
        let u = t.is_rest in
        let P : List A → Type 0 = λ v. Counted Spells (suc count) before v text in
        let all : text ≡ t.front ++ u.front = t.whole ∙ ap (λ (x : List ℕ). t.front ++ x) (u.whole ∙ ap (λ (x : List ℕ). u.front ++ x) u.is_rest.nothing ∙ append-nil u.front) in
        let here : P (t.first ∷ u.first) = record { counted = ap suc u.is_first.counted; each = (t.front, u.front, t.is_first, u.is_first.each, all) } in
        subst P (sym u.is_rest.is) here

    out_of : (before values : List A) (text : List ℕ) → Counted Spells (suc count) before values text → Then (Spells before) (λ first. Then (Counted Spells count (before ++ first ∷ [])) (λ others. Done (first ∷ others))) values text
    out_of before [] text c = absurd (omega (arith, c.counted))
    out_of before (a ∷ others) text c =
        let e = c.each in
        record {
          first = a;
          front = e.0;
          back = e.1;
          is_first = e.2;
          is_rest = record { first = others; front = e.1; back = []; is_first = record { counted = omega (arith, c.counted); each = e.3 }; is_rest = record { is = refl; nothing = refl }; whole = sym (append-nil e.1) };
          whole = e.4;
        }

-- each item keeps a fact that may speak of those before it
abbrev pub AllAfter : {A : Type 0} → (List A → A → Type 0) → List A → List A → Type 0
AllAfter Keeps before [] = Unit {0}
AllAfter {A} Keeps before (a ∷ others) = Keeps before a × AllAfter Keeps (before ++ a ∷ []) others

-- a part that keeps a fact and is spelled by a function
pub record Kept {A : Type 0} (Keeps : A → Type 0) (bytes : A → List ℕ) (value : A) (text : List ℕ) : Type 0 where
  pub keeps : Keeps value
  pub is : text ≡ bytes value

-- so many of them
pub record Listed {A : Type 0} (Keeps : List A → A → Type 0) (bytes : A → List ℕ) (count : ℕ) (before values : List A) (text : List ℕ) : Type 0 where
  pub counted : length values ≡ count
  pub each : AllAfter Keeps before values
  pub is : text ≡ flat_map bytes values

each_all : {A : Type 0} (Keeps : List A → A → Type 0) (bytes : A → List ℕ) (before values : List A) (text : List ℕ) → Each (λ before. Kept (Keeps before) bytes) before values text → AllAfter Keeps before values × (text ≡ flat_map bytes values)
each_all Keeps bytes before [] text e = (tt, e)
each_all {A} Keeps bytes before (a ∷ others) text e =
    let rest = each_all Keeps bytes (before ++ a ∷ []) others e.1 e.3 in
    ((e.2.keeps, rest.0), e.4 ∙ ap (λ (x : List ℕ). x ++ e.1) e.2.is ∙ ap (λ (x : List ℕ). bytes a ++ x) rest.1 ∙ sym (flat_map-cons bytes a others))

all_each : {A : Type 0} (Keeps : List A → A → Type 0) (bytes : A → List ℕ) (before values : List A) (text : List ℕ) → AllAfter Keeps before values → text ≡ flat_map bytes values → Each (λ before. Kept (Keeps before) bytes) before values text
all_each Keeps bytes before [] text all e = e
all_each {A} Keeps bytes before (a ∷ others) text all e =
    (bytes a, flat_map bytes others, record { keeps = all.0; is = refl }, all_each Keeps bytes (before ++ a ∷ []) others (flat_map bytes others) all.1 refl, e ∙ flat_map-cons bytes a others)

pub listed_spelled : {A : Type 0} (part : List A → Format A) (Keeps : List A → A → Type 0) (bytes : A → List ℕ) → ((before : List A) → IsSpelled (part before) (Kept (Keeps before) bytes))
    → (count : ℕ) (before : List A) → IsSpelled (series count part before) (Listed Keeps bytes count before)
listed_spelled part Keeps bytes one count before =
    told_spelled (series count part before) (Counted (λ before. Kept (Keeps before) bytes) count before) (Listed Keeps bytes count before)
    (λ values text fits c. let a = each_all Keeps bytes before values text c.each in record { counted = c.counted; each = a.0; is = a.1 })
    (λ values text l. record { counted = l.counted; each = all_each Keeps bytes before values text l.each l.is })
    (series_spelled part (λ before. Kept (Keeps before) bytes) one count before)

-- ---- a loop

-- what was read before, and what is still read
abbrev pub with_front : {A : Type 0} → List A → Found (List A) → Found (List A)
with_front front found = and_then found (λ others. done (front ++ others))

regroup : {A : Type 0} (front : List A) (a : A) (found : Found (List A)) → with_front front (and_then found (λ others. done (a ∷ others))) ≡ with_front (front ++ a ∷ []) found
regroup {A} front a (Ok x) = let same : front ++ (a ∷ x.0) ≡ (front ++ a ∷ []) ++ x.0 = sym (append_assoc front (a ∷ []) x.0) in ap (λ (l : List A). done l x.1) same
regroup front a (Err place) = refl

-- nothing was read yet
pub begins : {A : Type 0} (part : List A → Format A) (front : List A) (count : ℕ) (from : Spot) → front ≡ [] → with_front front (series (count - 0) part front from) ≡ series count part [] from
begins {A} part front count from none =
    let all : count - 0 ≡ count = omega arith in
    rw (none, all) (nothing_before (series count part [] from))
  where
    nothing_before : (found : Found (List A)) → with_front [] found ≡ found
    nothing_before (Ok x) = refl
    nothing_before (Err place) = refl

-- a part more was read
pub goes_on : {A : Type 0} (part : List A → Format A) (front : List A) (count i : ℕ) (from : Spot) (a : A) (to : Spot) (total : Found (List A)) → i < count → part front from ≡ Ok (a, to)
    → with_front front (series (count - i) part front from) ≡ total → with_front (front ++ a ∷ []) (series (count - (i + 1)) part (front ++ a ∷ []) to) ≡ total
unfolding series
goes_on {A} part front count i from a to total lt one so_far =
    let k : count - i ≡ suc (count - (i + 1)) = omega arith in
    let step : with_front front (series (count - i) part front from) ≡ with_front (front ++ a ∷ []) (series (count - (i + 1)) part (front ++ a ∷ []) to) =
    rw (k, one) (regroup front a (series (count - (i + 1)) part (front ++ a ∷ []) to)) in
    sym step ∙ so_far

-- a part was refused, or memory was missing
pub stops : {A X Y : Type 0} (view : X → A) (views : Y → List A) (e : ReadFault) (after behind : Spot) (part : List A → Format A) (front : List A) (count i : ℕ) (from : Spot) (total : Found (List A)) → i < count
    → Gives view (Err e) after (part front from) → with_front front (series (count - i) part front from) ≡ total → Gives views (Err e) behind total
unfolding series
stops view views (At place) after behind part front count i from total lt one so_far =
    let k : count - i ≡ suc (count - (i + 1)) = omega arith in
    let step : with_front front (series (count - i) part front from) ≡ Err place = rw (k, one) refl in
    sym so_far ∙ step
stops view views NoMemory after behind part front count i from total lt one so_far = tt

-- all parts were read
pub is_done : {A : Type 0} (part : List A → Format A) (front : List A) (count i : ℕ) (from : Spot) (total : Found (List A)) → count ≤ i → with_front front (series (count - i) part front from) ≡ total → total ≡ Ok (front, from)
unfolding series
is_done {A} part front count i from total le so_far =
    let k : count - i ≡ 0 = omega arith in
    let all : front ++ [] ≡ front = append-nil front in
    let step : with_front front (series (count - i) part front from) ≡ Ok (front, from) = rw k (ap (λ (l : List A). done l from) all) in
    sym so_far ∙ step
