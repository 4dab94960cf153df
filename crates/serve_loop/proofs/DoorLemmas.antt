-- The connections of a door, put together.
use Rattle.std.proofs.Common.{◌≡◌, ◌≤◌, ◌+◌, ℕ, true, false, List, [], ◌∷◌, ◌++◌, length, map, Option, Some, None, refl, sym, ap, ◌∙◌, subst, arith, append_assoc, append-nil, length-append}
use Rattle.std.specs.Prelude.{Result}
use Rattle.std.proofs.lemmas.List.{map-append, length-map}
use Rattle.fault_base.specs.Counts.{Rose}
use Rattle.io_base.specs.Door.{IsOwed, told_more}
use Rattle.call_types.specs.declared.feed.Cut.{Cut}
use Rattle.desk_base.specs.Answering.{Task}
use Rattle.desk_base.specs.Telling.{Telling}
use Rattle.serve_loop.specs.Doors.{AreVisited, DoorEndsSo, DoorServed, DoorView, GaveVisits, IsEven, IsVisited, ServedSince, ServesOne, Sight, Visit, capped, given_of, returned_of, told_all, want_in, wants_in}
use Rattle.serve_loop.specs.declared.ends.DoorEnd.{DoorEnd}
use Rattle.serve_loop.specs.declared.ends.DoorEnd.TheVariants.{Over, DoorFailed}

told_none : {X : Type 0} (known : Option (List X)) → known ≡ told_all known []
told_none None = refl
told_none (Some all) = ap Some (sym (append-nil all))

told_both : {X : Type 0} (known : Option (List X)) (xs ys : List X) → told_all (told_all known xs) ys ≡ told_all known (xs ++ ys)
told_both None xs ys = refl
told_both (Some all) xs ys = ap Some (append_assoc all xs ys)

-- ---- connections that ended for want of memory

wants_both : {S T : Type 0} (vs ws : List (Visit S T)) → wants_in (vs ++ ws) ≡ wants_in vs + wants_in ws
wants_both [] ws = omega arith
wants_both (visit ∷ vs) ws = omega (arith, wants_both vs ws)

-- a capped count goes on as the count does
capped_on : (a b : ℕ) → capped (capped a + b) ≡ capped (a + b)
capped_on a b = omega arith

-- ---- pairs that came back

owed : {X : Type 0} (gave returned : Option (List X)) (pair : X) → IsEven gave returned → IsOwed (told_more gave pair) returned
owed None returned pair even = tt
owed (Some gave) None pair even = tt
owed (Some gave) (Some returned) pair even = omega (arith, even, length-append gave (pair ∷ []))

even_more : {X : Type 0} (gave returned : Option (List X)) (xs ys : List X) → length ys ≤ length xs → IsEven gave returned → IsEven (told_all gave xs) (told_all returned ys)
even_more None returned xs ys less even = tt
even_more (Some gave) None xs ys less even = tt
even_more (Some gave) (Some returned) xs ys less even = omega (arith, less, even, length-append gave xs, length-append returned ys)

module _ {S T : Type 0} where
  as_many : (visits : List (Visit S T)) → length (map returned_of visits) ≤ length (map given_of visits)
  as_many visits = omega (arith, length-map visits returned_of, length-map visits given_of)

  pub visits_none : (old new : DoorView S T) → new.gave ≡ old.gave → new.returned ≡ old.returned → GaveVisits [] old new
  visits_none old new gave returned = record {
    gave = gave ∙ told_none old.gave;
    returned = λ even. returned ∙ told_none old.returned;
    shut = λ over. refl;
  }

  pub visits_more : (vs ws : List (Visit S T)) (old mid new : DoorView S T) → GaveVisits vs old mid → (old.over ≡ true → mid.over ≡ true) → GaveVisits ws mid new
      → GaveVisits (vs ++ ws) old new
  visits_more vs ws old mid new first over more = record {
    gave = more.gave ∙ ap (λ k. told_all k (map given_of ws)) first.gave ∙ told_both old.gave (map given_of vs) (map given_of ws)
        ∙ ap (told_all old.gave) (sym (map-append given_of vs ws));
    returned = λ even.
        let came = first.returned even in
        let now_even : IsEven mid.gave mid.returned = subst (λ g. IsEven g mid.returned) (sym first.gave)
        (subst (IsEven (told_all old.gave (map given_of vs))) (sym came)
        (even_more old.gave old.returned (map given_of vs) (map returned_of vs) (as_many vs) even)) in
        more.returned now_even ∙ ap (λ k. told_all k (map returned_of ws)) came ∙ told_both old.returned (map returned_of vs) (map returned_of ws)
        ∙ ap (told_all old.returned) (sym (map-append returned_of vs ws));
    shut = λ shut. ap (λ l. l ++ ws) (first.shut shut) ∙ more.shut (over shut);
  }

  -- one pair was given, and came back
  pub visits_one : (visit : Visit S T) (old mid new : DoorView S T) → (old.over ≡ false) → mid.gave ≡ told_more old.gave (given_of visit) → mid.returned ≡ old.returned
      → (IsOwed mid.gave mid.returned → new.returned ≡ told_more mid.returned (returned_of visit)) → new.gave ≡ mid.gave → GaveVisits (visit ∷ []) old new
  visits_one visit old mid new open_before gave same back stays = record {
    gave = stays ∙ gave;
    returned = λ even. back (subst (IsOwed mid.gave) (sym same) (subst (λ g. IsOwed g old.returned) (sym gave) (owed old.gave old.returned (given_of visit) even)))
        ∙ ap (λ k. told_more k (returned_of visit)) same;
    shut = λ shut. let clash : false ≡ true = sym open_before ∙ shut in cc;
  }

module _ {M R S T : Type 0} (answers : Task → M → M → List ℕ → List Telling → Result R Cut → Type 0) (clock : Option ℕ) (seen : Sight S T) where
  pub visited_more : (vs ws : List (Visit S T)) (old mid new : M) → AreVisited answers clock seen old vs mid → AreVisited answers clock seen mid ws new → AreVisited answers clock seen old (vs ++ ws) new
  visited_more [] ws old mid new same more = subst (λ m. AreVisited answers clock seen m ws new) (sym same) more
  visited_more (visit ∷ vs) ws old mid new (next, first, rest) more = (next, first, visited_more vs ws next mid new rest more)

  -- a connection was served that the door gave, and it came back
  abbrev pub serves_one : (visit : Visit S T) (old new : M) (before mid after : DoorView S T) → IsVisited answers clock seen old visit new
      → (before.over ≡ false) × (mid.over ≡ false) → mid.gave ≡ told_more before.gave (given_of visit) → mid.returned ≡ before.returned → mid.faults ≡ before.faults
      → (IsOwed mid.gave mid.returned → after.returned ≡ told_more mid.returned (returned_of visit)) → after.over ≡ mid.over → after.gave ≡ mid.gave → after.faults ≡ mid.faults
      → ServesOne answers clock seen old new before after
  serves_one visit old new before mid after visited opened gave same counted back over stays count = record {
    visit = visit;
    visited = visited;
    passed = visits_one visit before mid after opened.0 gave same back stays;
    over = over ∙ opened.1 ∙ sym opened.0;
    counted = count ∙ counted;
  }

  -- the connections so far
  pub record DoorSoFar (old now : M) (start here : DoorView S T) (first starved : ℕ) : Type 0 where
    pub visits : List (Visit S T)
    pub visited : AreVisited answers clock seen old visits now
    pub passed : GaveVisits visits start here
    pub over : here.over ≡ start.over
    pub counted : here.faults ≡ start.faults
    pub wanted : (count : ℕ) → first ≡ capped count → starved ≡ capped (count + wants_in visits)

  pub door_none : (old : M) (start : DoorView S T) (first : ℕ) → DoorSoFar old old start start first first
  door_none old start first = record {
    visits = [];
    visited = refl;
    passed = visits_none start start refl refl;
    over = refl;
    counted = refl;
    wanted = λ count is. is ∙ ap capped (omega arith);
  }

  pub door_more : (old mid new : M) (start here there : DoorView S T) (first starved next : ℕ) → DoorSoFar old mid start here first starved
      → (one : ServesOne answers clock seen mid new here there) → next ≡ capped (starved + want_in one.visit.end) → DoorSoFar old new start there first next
  door_more old mid new start here there first starved next so_far one wants = record {
    visits = so_far.visits ++ one.visit ∷ [];
    visited = visited_more so_far.visits (one.visit ∷ []) old mid new so_far.visited (new, one.visited, refl);
    passed = visits_more so_far.visits (one.visit ∷ []) start here there so_far.passed (λ shut. so_far.over ∙ shut) one.passed;
    over = one.over ∙ so_far.over;
    counted = one.counted ∙ so_far.counted;
    wanted = λ count is. wants ∙ ap (λ n. capped (n + want_in one.visit.end)) (so_far.wanted count is)
        ∙ capped_on (count + wants_in so_far.visits) (want_in one.visit.end)
        ∙ ap capped (omega (arith, wants_both so_far.visits (one.visit ∷ [])));
  }

  -- the same where no connection came any more
  wanted_all : (old mid : M) (start here : DoorView S T) (first starved : ℕ) (so_far : DoorSoFar old mid start here first starved) (count : ℕ) → first ≡ capped count
      → starved ≡ capped (count + wants_in (so_far.visits ++ []))
  wanted_all old mid start here first starved so_far count is =
      so_far.wanted count is ∙ ap (λ visits. capped (count + wants_in visits)) (sym (append-nil so_far.visits))

  -- no connection came any more, or the door failed
  abbrev pub door_ended : (old mid : M) (start here there : DoorView S T) (first starved : ℕ) (end : DoorEnd) → DoorSoFar old mid start here first starved
      → there.gave ≡ here.gave → there.returned ≡ here.returned → DoorEndsSo end start there → DoorServed answers clock seen end old mid start there
  door_ended old mid start here there first starved end so_far gave returned ends = record {
    visits = so_far.visits ++ [];
    visited = visited_more so_far.visits [] old mid mid so_far.visited refl;
    passed = visits_more so_far.visits [] start here there so_far.passed (λ over. so_far.over ∙ over) (visits_none here there gave returned);
    ends = ends;
  }

  pub ends_over : (old mid : M) (start here there : DoorView S T) (first starved : ℕ) → DoorSoFar old mid start here first starved → there.over ≡ true → there.faults ≡ here.faults
      → DoorEndsSo Over start there
  ends_over old mid start here there first starved so_far shut counted = (shut, counted ∙ so_far.counted)

  pub ends_failed : (old mid : M) (start here there : DoorView S T) (first starved : ℕ) → DoorSoFar old mid start here first starved → there.over ≡ here.over → Rose here.faults there.faults
      → DoorEndsSo (DoorFailed start.faults there.faults) start there
  ends_failed old mid start here there first starved so_far over rose =
      (over ∙ so_far.over, refl, refl, subst (λ n. Rose n there.faults) so_far.counted rose)

  -- a door that was over is over when it was served
  stays_over : (end : DoorEnd) (old new : DoorView S T) → DoorEndsSo end old new → old.over ≡ true → new.over ≡ true
  stays_over Over old new ends shut = ends.0
  stays_over (DoorFailed before after) old new ends shut = ends.0 ∙ shut

  module _ {H : Type 0} (holds : M → H) where
    -- nothing was served yet
    pub since_none : (old : M) (start : DoorView S T) → ServedSince answers clock seen holds old old start start 0
    since_none old start = record {
      holds_still = refl;
      visits = [];
      visited = refl;
      passed = visits_none start start refl refl;
      shut = λ shut. shut;
      counted = refl;
    }

    -- a door was served once more
    since_more : (old mid new : M) (start here there : DoorView S T) (first starved : ℕ) (end : DoorEnd) → ServedSince answers clock seen holds old mid start here first
        → holds new ≡ holds mid → (served : DoorServed answers clock seen end mid new here there)
        → ((count : ℕ) → first ≡ capped count → starved ≡ capped (count + wants_in served.visits)) → ServedSince answers clock seen holds old new start there starved
    since_more old mid new start here there first starved end since stays served wanted = record {
      holds_still = stays ∙ since.holds_still;
      visits = since.visits ++ served.visits;
      visited = visited_more since.visits served.visits old mid new since.visited served.visited;
      passed = visits_more since.visits served.visits start here there since.passed since.shut served.passed;
      shut = λ shut. stays_over end here there served.ends (since.shut shut);
      counted = wanted (wants_in since.visits) since.counted ∙ ap capped (sym (wants_both since.visits served.visits));
    }

    -- it was served once more, to this end
    pub since_ended : (old mid new : M) (start here now there : DoorView S T) (first starved : ℕ) (end : DoorEnd) → ServedSince answers clock seen holds old mid start here first
        → holds new ≡ holds mid → DoorSoFar mid new here now first starved → there.gave ≡ now.gave → there.returned ≡ now.returned → DoorEndsSo end here there
        → ServedSince answers clock seen holds old new start there starved
    since_ended old mid new start here now there first starved end since stays so_far gave returned ends =
        since_more old mid new start here there first starved end since stays (door_ended mid new here now there first starved end so_far gave returned ends)
        (wanted_all mid new here now first starved so_far)
