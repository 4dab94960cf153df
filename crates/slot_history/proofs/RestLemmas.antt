-- Lanes go on to stand for a state while puts begin and end, and blank ones stand for the state in which nothing was done.
use Rattle.std.proofs.Common.{◌≡◌, ◌<◌, ◌≤◌, ◌∙◌, ℕ, zero, suc, true, List, [], ◌∷◌, ◌++◌, replicate, None, Some, sym, ap, subst, refl, inl, inr, arith}
use Rattle.std.proofs.lemmas.List.{length-replicate}
use Rattle.std.proofs.lemmas.List.Elements.{Contains-push_cases}
use Rattle.stamp_id.specs.declared.version.VersionId.{VersionId}
use Rattle.upload_book.specs.Laws.{ContentIsInjective}
use Rattle.upload_book.specs.Storing.{is_open}
use Rattle.version_list.specs.Laws.{SpellingIsInjective}
use Rattle.version_list.specs.NamesId.{names_id}
use Rattle.version_list.specs.State.{IsCanonical}
use Rattle.version_list.specs.declared.state.KeyState.{KeyState}
use Rattle.vote_core.specs.Lane.{HasRecord, Lane, blank_lane}
use Rattle.vote_core.specs.Laws.{DrawingKeeps, FreshIsCalm}
use Rattle.slot_history.specs.Contents.{HasOpen, NamesId, SpellsKey, no_key, number_of_id}
use Rattle.slot_history.specs.Laws.{DrawingStands, FlightsBegin, FlightsEnd, FreshStand}
use Rattle.slot_history.specs.Standing.{AreBlank, Flying, IsLawfulUnder, IsSpent}
use Rattle.slot_history.specs.State.{no_state}
use Rattle.slot_history.specs.Waiting.{IsLawful}
use Rattle.slot_history.proofs.MemberLemmas.{cons_cases, nil_none}
use Rattle.slot_history.proofs.StandLemmas.{rests_stand, spent_later, under_blank}

pub drawing_stands : DrawingKeeps → DrawingStands
drawing_stands drawing w drives last later flights records state up stands =
    rests_stand drawing w drives last later flights flights records state up (spent_later last later flights flights up (λ f h. h))
    (λ f h. let low = stands.flying f h in omega arith) stands

pub flights_end : DrawingKeeps → FlightsEnd
flights_end drawing w drives last flights rest records state fewer stands =
    rests_stand drawing w drives last last flights rest records state (omega arith) (spent_later last last flights rest (omega arith) fewer)
    (λ f h. stands.flying f (fewer f h)) stands

-- what is spent is not the number of a put that begins
spent_begins : (last number : ℕ) (flights : List Flying) (flight : Flying) → number_of_id flight.id ≡ number → last < number
    → (c : ℕ) → IsSpent last flights c → IsSpent number (flights ++ flight ∷ []) c
spent_begins last number flights flight is above c spent = record {
  drawn = let low = spent.drawn in omega arith;
  landed = λ f h same. elim (Contains-push_cases flights flight f h) [
    | inl was ↦ spent.landed f was same
    | inr own ↦
        let equal : number ≡ c = sym is ∙ (ap (λ (g : Flying). number_of_id g.id) own ∙ same) in
        let low = spent.drawn in omega arith
  ];
}

pub flights_begin : DrawingKeeps → FlightsBegin
flights_begin drawing w drives last flights flight records state stands above =
    rests_stand drawing w drives last (number_of_id flight.id) flights (flights ++ flight ∷ []) records state (omega arith)
    (spent_begins last (number_of_id flight.id) flights flight refl above)
    (λ f h. elim (Contains-push_cases flights flight f h) [
      | inl was ↦ let low = stands.flying f was in omega arith
      | inr own ↦ subst (λ (g : Flying). number_of_id g.id ≤ number_of_id flight.id) own (omega arith)
    ]) stands

-- lanes of a fresh register are blank
fresh_blank : (n : ℕ) → AreBlank (replicate n blank_lane)
fresh_blank zero a h = absurd (nil_none a h)
fresh_blank (suc n) a h = elim (cons_cases blank_lane (replicate n blank_lane) a h) [
  | inl same ↦ sym same
  | inr later ↦ fresh_blank n a later
]

-- a blank lane has no content, made by no change
blank_record : (a : Lane) (c : ℕ) (content : List ℕ) → a ≡ blank_lane → HasRecord a c content → (c ≡ 0) × (content ≡ [])
blank_record a c content is has = elim (subst (λ (l : Lane). HasRecord l c content) is has) [
  | inl by_base ↦ (sym by_base.0, sym by_base.1)
  | inr by_next ↦ absurd (let none : None ≡ Some by_next.0 = by_next.1 in cc)
]

-- no byte spells the key that has nothing
none_canonical : IsCanonical no_key
none_canonical = record { few_versions = omega arith; few_uploads = omega arith; distinct = tt; versions = tt; uploads = tt }

empty_key : SpellingIsInjective → (state : KeyState) → SpellsKey [] state → state ≡ no_key
empty_key one state spells = one state no_key spells.canonical none_canonical (sym spells.is)

-- it has nothing open, and names no id
none_open : SpellingIsInjective → (upload : VersionId) → HasOpen [] upload → ⊥
none_open one upload opens =
    let none : is_open upload no_key ≡ true = subst (λ (k : KeyState). is_open upload k ≡ true) (empty_key one opens.state opens.spells) opens.opened in
    absurd cc

none_named : SpellingIsInjective → ContentIsInjective → (name : List ℕ) (id : VersionId) → NamesId name [] id → ⊥
none_named one row name id names = elim names [
  | inl key ↦
      let none : names_id id no_key ≡ true = subst (λ (k : KeyState). names_id id k ≡ true) (empty_key one key.state key.spells) key.names in
      absurd cc
  | inr part ↦
      let there = part.1 in
      let same : None ≡ Some there.part = row None (Some there.part) tt there.spells.canonical there.spells.is in
      absurd cc
]

-- the state in which nothing was done is lawful
none_lawful : SpellingIsInjective → IsLawful no_state
none_lawful one = record {
  once = λ q h done. nil_none q h;
  some = λ q h. absurd (nil_none q h);
  differ = tt;
  parents = λ q h. absurd (nil_none q h);
  lasts = λ name. inl refl;
  opens = λ q h parent at upload is opens. absurd (nil_none q h);
  opened = λ at upload opens. absurd (none_open one upload opens);
  parts = record {
    none_stands = λ at upload number. inl refl;
    none_waits = λ at upload number q h is. absurd (nil_none q h);
  };
}

-- blank lanes are lawful under each name
blank_lawful : FreshIsCalm → SpellingIsInjective → ContentIsInjective → (w drives last : ℕ) (name : List ℕ) → 1 ≤ drives → 1 ≤ w → w ≤ drives
    → IsLawfulUnder drives last [] (replicate drives blank_lane) name
blank_lawful fresh one row w drives last name some few enough = record {
  counted = length-replicate drives blank_lane;
  drawn = (fresh drives w last some enough).0.sound.drawn;
  contents = λ a c content there has. inl (blank_record a c content (fresh_blank drives a there) has).1;
  ids = λ a c content id there has names.
      let none : content ≡ [] = (blank_record a c content (fresh_blank drives a there) has).1 in
      absurd (none_named one row name id (subst (λ (bytes : List ℕ). NamesId name bytes id) none names));
  changes = λ a c content there has. record {
    drawn = let none = (blank_record a c content (fresh_blank drives a there) has).0 in omega arith;
    landed = λ f h same. nil_none f h;
  };
}

pub fresh_stands : FreshIsCalm → SpellingIsInjective → ContentIsInjective → FreshStand
fresh_stands fresh one row w drives last some few enough = record {
  under = λ name held. under_blank fresh w drives last (replicate drives blank_lane) no_state name few enough
      (length-replicate drives blank_lane) (fresh_blank drives) refl;
  lawful_under = λ name. blank_lawful fresh one row w drives last name some few enough;
  lawful = none_lawful one;
  pending = λ q h. absurd (nil_none q h);
  applied = λ c h. absurd (nil_none c h);
  flying = λ f h. absurd (nil_none f h);
  uploads = λ at upload number. inl (fresh_blank drives);
}
