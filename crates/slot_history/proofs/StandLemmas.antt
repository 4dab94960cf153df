-- What goes on to stand while numbers are drawn and puts begin and end, and what blank lanes stand for.
use Rattle.std.proofs.Common.{◌≡◌, ◌≤◌, ◌∙◌, ℕ, List, [], ◌∷◌, length, replicate, None, Some, Contains, sym, ap, subst, refl, arith}
use Rattle.vote_core.specs.Lane.{HasNext, Lane, Next, blank_lane}
use Rattle.vote_core.specs.Laws.{DrawingKeeps, FreshIsCalm}
use Rattle.vote_core.specs.Sound.{HoldsValue, IsDrawn, IsLive, LanesAreDrawn}
use Rattle.slot_history.specs.Contents.{number_of_id}
use Rattle.slot_history.specs.Standing.{AreBlank, BringsItsOwn, Flying, IsLawfulUnder, IsSpent, Records, Stands, StandsUnder, WaitsAs}
use Rattle.slot_history.specs.State.{Register, State, Waiting, blank}
use Rattle.slot_history.proofs.MemberLemmas.{head_there, tail_there}

-- what is spent is still spent where fewer puts are under way and more numbers were drawn
pub spent_later : (last later : ℕ) (flights rest : List Flying) → last ≤ later → ((f : Flying) → Contains rest f → Contains flights f)
    → (c : ℕ) → IsSpent last flights c → IsSpent later rest c
spent_later last later flights rest up fewer c spent = record {
  drawn = omega (arith, spent.drawn);
  landed = λ f h. spent.landed f (fewer f h);
}

-- the numbers of lanes that were drawn stay so
pub drawn_still : (last later : ℕ) (lanes : List Lane) → last ≤ later → LanesAreDrawn last lanes → LanesAreDrawn later lanes
drawn_still last later lanes up drawn a there =
    let was : IsDrawn last a = drawn a there in
    record {
      parent = was.parent;
      above = was.above;
      base_own = was.base_own;
      next_own = was.next_own;
      base_drawn = omega (arith, was.base_drawn);
      next_drawn = λ next is. let low = was.next_drawn next is in omega arith;
    }

-- and what is lawful under a name stays so
pub lawful_still : (drives last later : ℕ) (flights rest : List Flying) (lanes : List Lane) (name : List ℕ) → last ≤ later
    → ((c : ℕ) → IsSpent last flights c → IsSpent later rest c) → IsLawfulUnder drives last flights lanes name → IsLawfulUnder drives later rest lanes name
lawful_still drives last later flights rest lanes name up spent was = record {
  counted = was.counted;
  drawn = drawn_still last later lanes up was.drawn;
  contents = was.contents;
  ids = λ a c content id there has names. spent (number_of_id id) (was.ids a c content id there has names);
  changes = λ a c content there has. spent c (was.changes a c content there has);
}

-- what stands under a name does so for another state with the same register, where what waits under the name waits still
pub under_still : DrawingKeeps → (w last later : ℕ) (lanes : List Lane) (state other : State) (name : List ℕ) → last ≤ later
    → other.registers name ≡ state.registers name → ((q : Waiting) → Contains state.pending q → q.name ≡ name → Contains other.pending q)
    → StandsUnder w last lanes state name → StandsUnder w later lanes other name
under_still drawing w last later lanes state other name up same kept under = record {
  holds = subst (λ (r : Register). HoldsValue w later lanes r.change r.content) (sym same)
      (drawing w last later (state.registers name).change (state.registers name).content lanes up under.holds);
  waits = λ a next there has live.
      let found = under.waits a next there has (subst (λ (r : Register). IsLive lanes r.change a next) same live) in
      let one : WaitsAs state name next found.0 = found.1 in (
        found.0,
        record {
          there = kept found.0 one.there one.name_is;
          change_is = one.change_is;
          name_is = one.name_is;
          parent_is = one.parent_is;
          content_is = one.content_is;
        },
      );
  brings = λ a next there has live. subst (λ (r : Register). BringsItsOwn name r next) (sym same)
      (under.brings a next there has (subst (λ (r : Register). IsLive lanes r.change a next) same live));
}

-- lanes without files are as many blank ones
pub all_blank : (lanes : List Lane) → AreBlank lanes → lanes ≡ replicate (length lanes) blank_lane
all_blank [] none = refl
all_blank (lane ∷ lanes) none =
    let first : lane ≡ blank_lane = none lane (head_there lane lanes) in
    let others : lanes ≡ replicate (length lanes) blank_lane = all_blank lanes (λ a h. none a (tail_there lane lanes a h)) in
    cc

pub blank_next : (lanes : List Lane) (a : Lane) (next : Next) → AreBlank lanes → Contains lanes a → HasNext a next → ⊥
blank_next lanes a next none there has =
    let is : None ≡ Some next = sym (ap (λ (l : Lane). l.next) (none a there)) ∙ has in absurd cc

-- they stand for a blank register
pub under_blank : FreshIsCalm → (w drives last : ℕ) (lanes : List Lane) (state : State) (name : List ℕ) → 1 ≤ w → w ≤ drives → length lanes ≡ drives
    → AreBlank lanes → state.registers name ≡ blank → StandsUnder w last lanes state name
under_blank fresh w drives last lanes state name some enough counted none is = record {
  holds = subst (λ (r : Register). HoldsValue w last lanes r.change r.content) (sym is)
      (subst (λ (l : List Lane). HoldsValue w last l 0 []) (sym (all_blank lanes none)) (fresh (length lanes) w last (omega arith) (omega arith)).0);
  waits = λ a next there has live. absurd (blank_next lanes a next none there has);
  brings = λ a next there has live. absurd (blank_next lanes a next none there has);
}

-- numbers are drawn, and puts begin or end
pub rests_stand : DrawingKeeps → (w drives last later : ℕ) (flights rest : List Flying) (records : Records) (state : State) → last ≤ later
    → ((c : ℕ) → IsSpent last flights c → IsSpent later rest c) → ((f : Flying) → Contains rest f → number_of_id f.id ≤ later)
    → Stands w drives last flights records state → Stands w drives later rest records state
rests_stand drawing w drives last later flights rest records state up spent flying stands = record {
  under = λ name held. under_still drawing w last later (records name) state state name up refl (λ q h is. h) (stands.under name held);
  lawful_under = λ name. lawful_still drives last later flights rest (records name) name up spent (stands.lawful_under name);
  lawful = stands.lawful;
  pending = λ p h. spent p.change (stands.pending p h);
  applied = λ c h. spent c (stands.applied c h);
  flying = flying;
  uploads = stands.uploads;
}
