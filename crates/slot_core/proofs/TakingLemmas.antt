-- Rows that are taken out of a slot's memory.
use Rattle.std.proofs.Common.{◌≡◌, ◌≢◌, ◌⊎◌, inl, inr, ◌∙◌, ℕ, ◌+◌, ◌<◌, ◌≤◌, Bool, true, List, [], ◌∷◌, ◌++◌, map, length, All, Contains, Option, None, Some, refl, sym, subst, ap, arith}
use Rattle.std.specs.Prelude.{slice_index_or, filter, not}
use Rattle.std.specs.List.{list_any}
use Rattle.std.proofs.lemmas.List.{get_or_append_left, get_or_push, length_push, map-append}
use Rattle.std.proofs.lemmas.List.Elements.{All-contains, All-contains_itself, All-filter, All-map, All-push, All-take, All-weaker, filter_passes}
use Rattle.stamp_id.specs.declared.version.VersionId.{VersionId}
use Rattle.slot_history.specs.Contents.{number_of_id}
use Rattle.slot_history.specs.Standing.{Flying}
use Rattle.slot_history.specs.State.{TakesOut}
use Rattle.slot_data.specs.Holding.{Holding, IsInFlight, IsPinned, Pinned}
use Rattle.slot_data.specs.Moves.{TakesTrash, given_up, with_pins}
use Rattle.slot_data.specs.Rows.{PinsAreFound, flying_of, is_id, pin_names, pinned_of}
use Rattle.slot_data.specs.declared.rows.FlightRow.{FlightRow}
use Rattle.slot_data.specs.declared.rows.PinRow.{PinRow}
use Rattle.slot_rules.specs.Fields.{AreApart}
use Rattle.slot_rules.specs.Taking.{TakesRow}
use Rattle.slot_core.specs.Sections.{PinGoes, PutGoes, TakesFirst}

-- what is taken out of a list is taken out of the list of what a function gives
pub taken_mapped : {A B : Type 0} (f : A → B) (x : A) (old new : List A) → TakesOut x old new → TakesOut (f x) (map f old) (map f new)
taken_mapped f x old new t = record {
  front = map f t.front;
  rest = map f t.rest;
  old_is = ap (map f) t.old_is ∙ map-append f t.front (x ∷ t.rest);
  new_is = ap (map f) t.new_is ∙ map-append f t.front t.rest;
}

-- where no row has the id, no put of it is under way
pub none_flies : (rows : List FlightRow) (id : VersionId) → All (λ (row : FlightRow). row.id ≡ id → ⊥) rows → IsInFlight (map flying_of rows) id → ⊥
none_flies rows id none flying =
    All-contains (λ (f : Flying). f.id ≡ id → ⊥) (map flying_of rows) flying.flight
    (All-map (λ (f : Flying). f.id ≡ id → ⊥) flying_of rows none) flying.there flying.id_is

-- where no row has the ticket, no pin has it
pub none_pins : (rows : List PinRow) (ticket : ℕ) → All (λ (row : PinRow). row.ticket ≡ ticket → ⊥) rows
    → (p : Pinned) → Contains (map pinned_of rows) p → p.ticket ≢ ticket
none_pins rows ticket none p there =
    All-contains (λ (q : Pinned). q.ticket ≡ ticket → ⊥) (map pinned_of rows) p (All-map (λ (q : Pinned). q.ticket ≡ ticket → ⊥) pinned_of rows none) there

-- trash that is taken was there, and no pin names it; what is left was there
pub taken_of_first : (most : ℕ) (rows : List PinRow) (held kept : Holding) (ids : List VersionId) → held.pins ≡ map pinned_of rows → PinsAreFound
    → TakesFirst most rows held kept ids → TakesTrash held ids kept.trash
taken_of_first most rows held kept ids pins found first = record {
  there = λ id here. All-contains (Contains held.trash) ids id (subst (λ (l : List VersionId). All (Contains held.trash) l) (sym first.taken)
      (All-take (Contains held.trash) most free_ids (All-filter is_free (Contains held.trash) held.trash (All-contains_itself held.trash)))) here;
  unpinned = λ id here pinned. let free : is_free id ≡ true = All-contains (λ x. is_free x ≡ true) ids id
      (subst (λ (l : List VersionId). All (λ x. is_free x ≡ true) l) (sym first.taken) (All-take (λ x. is_free x ≡ true) most free_ids (filter_passes is_free held.trash))) here in
      let named : list_any (pin_names id) rows ≡ true = (found rows id).1 (subst (λ (l : List Pinned). IsPinned l id) pins pinned) in
      let clash : not true ≡ true = subst (λ (b : Bool). not b ≡ true) named free in cc;
  left_there = λ id here. All-contains (Contains held.trash) kept.trash id (subst (λ (l : List VersionId). All (Contains held.trash) l) (sym left_is)
      (All-filter is_left (Contains held.trash) held.trash (All-contains_itself held.trash))) here;
}
  where
    is_free : VersionId → Bool
    is_free id = not (list_any (pin_names id) rows)

    is_left : VersionId → Bool
    is_left id = not (list_any (is_id id) ids)

    free_ids : List VersionId
    free_ids = filter is_free held.trash

    left_is : kept.trash ≡ filter is_left held.trash
    left_is = ap (λ (h : Holding). h.trash) first.left

-- what a slot keeps, by its parts
abbrev with_parts : List Flying → List Pinned → List VersionId → Holding
with_parts flights pins trash = record { flights = flights; pins = pins; trash = trash }

-- two such are the same, where each of their parts is
same_holding : (a b : Holding) → a.flights ≡ b.flights → a.pins ≡ b.pins → a.trash ≡ b.trash → a ≡ b
same_holding a b flights pins trash =
    ap (λ (l : List Flying). with_parts l a.pins a.trash) flights
    ∙ (ap (λ (l : List Pinned). with_parts b.flights l a.trash) pins ∙ ap (λ (l : List VersionId). with_parts b.flights b.pins l) trash)

-- a put whose row is taken off the list, and whose data is trash, is given up
pub put_gone : (rows new : List FlightRow) (row : FlightRow) (id : VersionId) (held kept : Holding) → held.flights ≡ map flying_of rows
    → (row.id ≡ id) × TakesOut row rows new → kept.flights ≡ map flying_of new → kept.pins ≡ held.pins → kept.trash ≡ held.trash ++ row.id ∷ []
    → PutGoes id held kept
put_gone rows new row id held kept listed taken flights pins trash = inl (
  flying_of row,
  map flying_of new,
  taken.0,
  subst (λ (l : List Flying). TakesOut (flying_of row) l (map flying_of new)) (sym listed) (taken_mapped flying_of row rows new taken.1),
  same_holding kept (given_up held (map flying_of new) id) flights pins (trash ∙ ap (λ (y : VersionId). held.trash ++ y ∷ []) taken.0),
)

-- where no row has its id, all stays
pub put_stays : (r : Option FlightRow) (rows new : List FlightRow) (id : VersionId) (held kept : Holding) → r ≡ None → held.flights ≡ map flying_of rows
    → TakesRow (λ (row : FlightRow). row.id ≡ id) r rows new → kept.flights ≡ map flying_of new → kept.pins ≡ held.pins → kept.trash ≡ held.trash
    → PutGoes id held kept
put_stays r rows new id held kept is listed takes flights pins trash =
    let none = subst (λ (o : Option FlightRow). TakesRow (λ (row : FlightRow). row.id ≡ id) o rows new) is takes in
    inr (
      (λ flying. none_flies rows id none.0 (subst (λ (l : List Flying). IsInFlight l id) listed flying)),
      same_holding kept held (flights ∙ (ap (map flying_of) none.1 ∙ sym listed)) pins trash,
    )

-- a pin whose row is taken off the list is gone
pub pin_goes : (r : Option PinRow) (rows new : List PinRow) (ticket : ℕ) (held : Holding) → held.pins ≡ map pinned_of rows
    → TakesRow (λ (row : PinRow). row.ticket ≡ ticket) r rows new → PinGoes ticket held (with_pins held (map pinned_of new))
pin_goes (Some row) rows new ticket held listed taken = inl (
  pinned_of row,
  map pinned_of new,
  taken.0,
  subst (λ (l : List Pinned). TakesOut (pinned_of row) l (map pinned_of new)) (sym listed) (taken_mapped pinned_of row rows new taken.1),
  refl,
)
pin_goes None rows new ticket held listed none = inr (
  (λ p there. none_pins rows ticket none.0 p (subst (λ (l : List Pinned). Contains l p) listed there)),
  ap (with_pins held) (ap (map pinned_of) none.1 ∙ sym listed),
)

-- the numbers of puts under way were drawn, once one more was drawn for a put
pub drawn_more : (rows new : List FlightRow) (row : FlightRow) (last later : ℕ) → new ≡ rows ++ row ∷ [] → last ≤ later → number_of_id row.id ≤ later
    → All (λ (r : FlightRow). number_of_id r.id ≤ last) rows → All (λ (r : FlightRow). number_of_id r.id ≤ later) new
drawn_more rows new row last later is up low all =
    subst (λ (l : List FlightRow). All (λ (r : FlightRow). number_of_id r.id ≤ later) l) (sym is)
    (All-push (λ (r : FlightRow). number_of_id r.id ≤ later) rows row
    (All-weaker (λ (r : FlightRow). number_of_id r.id ≤ last) (λ (r : FlightRow). number_of_id r.id ≤ later) (λ r le. omega arith) rows all) low)

-- they differ still
pub apart_more : (rows new : List FlightRow) (row : FlightRow) (last : ℕ) → new ≡ rows ++ row ∷ []
    → All (λ (r : FlightRow). number_of_id r.id ≤ last) rows → last < number_of_id row.id → AreApart rows → AreApart new
apart_more rows new row last is all above apart = subst AreApart (sym is) pushed
  where
    side : (j : ℕ) → j < length (rows ++ row ∷ []) → (j < length rows) ⊎ (length rows ≡ j)
    side j within = let long : length (rows ++ row ∷ []) ≡ length rows + 1 = length_push rows row in grind arith

    pushed : AreApart (rows ++ row ∷ [])
    pushed i j d order within same = elim (side j within) [
      | inl low ↦ let first : i < length rows = omega arith in
          apart i j d order low (ap (λ (r : FlightRow). number_of_id r.id) (sym (get_or_append_left rows (row ∷ []) d i first))
          ∙ (same ∙ ap (λ (r : FlightRow). number_of_id r.id) (get_or_append_left rows (row ∷ []) d j low)))
      | inr end ↦ let first : i < length rows = omega arith in
          let drawn = all i d first in
          let equal : number_of_id (slice_index_or rows i d).id ≡ number_of_id row.id =
          ap (λ (r : FlightRow). number_of_id r.id) (sym (get_or_append_left rows (row ∷ []) d i first))
          ∙ (same ∙ ap (λ (r : FlightRow). number_of_id r.id) (get_or_push rows row d j end)) in
          omega arith
    ]
