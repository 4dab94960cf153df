-- The claims of a slot while a pin of one of them begins and ends.
use Rattle.std.proofs.Common.{◌≡◌, ◌≢◌, ◌≤◌, ◌∙◌, ℕ, List, [], ◌∷◌, ◌++◌, Contains, Option, Some, None, cond, option_to_list, option_map, inl, inr, refl, sym, ap, ap₂, subst, arith}
use Rattle.std.specs.List.{flat_map}
use Rattle.std.proofs.lemmas.Bool.Decides.{eqb_tells}
use Rattle.std.proofs.lemmas.Grind.{flat_map-append}
use Rattle.std.proofs.lemmas.List.Elements.{Contains-append_left, Contains-append_right, Contains-append_cases, Contains-push_cases, filter-append}
use Rattle.drive_base.specs.View.{DriveView}
use Rattle.drive_base.specs.declared.plan.SetPlan.{SetPlan}
use Rattle.stamp_id.specs.declared.version.VersionId.{VersionId}
use Rattle.slot_history.specs.Standing.{Flying, Records}
use Rattle.slot_history.specs.State.{State, TakesOut}
use Rattle.slot_history.proofs.TakenLemmas.{first_there, left_apart, left_there, none_there, rest_there, taken_or_left, there_cases}
use Rattle.slot_data.specs.Disks.{Disks}
use Rattle.slot_data.specs.Holding.{Hands, Holding, Known, Pinned, Purpose}
use Rattle.slot_data.specs.Holding.Purpose.{ForComplete, ForHeal, ForRead}
use Rattle.slot_data.specs.Moves.{with_pins}
use Rattle.slot_data.specs.Standing.{DataStands, IsListed}
use Rattle.version_list.specs.State.{AreDistinct}
use Rattle.slot_data.proofs.ListedLemmas.{put_last}
use Rattle.slot_core.specs.Sections.{MayLetGo, PinGoes}
use Rattle.op_steps.specs.Claims.{AllApart, Claim, HoldsAt, IsMet, among, claims_at, disks_of, flights_in, hands_of, is_at, no_claim, pins_in}
use Rattle.object_ops.specs.Reading.{pinned_claim}
use Rattle.object_ops.proofs.ClaimLemmas.{flight_stays, pin_stays}
use Rattle.object_ops.proofs.ReadingLists.{flat_has, flat_there, none_some, of_some, out_apart, out_distinct, put_apart}
use Rattle.object_ops.proofs.PutMine.{met_none}

-- ---- the claims of a slot, of which one is this

own_first : (index : ℕ) (claim : Claim) (rest : List Claim) → claim.slot ≡ index → claims_at index (claim ∷ rest) ≡ claim ∷ claims_at index rest
own_first index claim rest own = elim (eqb_tells claim.slot index) [
  | inl same ↦ ap (λ b. cond b (claim ∷ claims_at index rest) (claims_at index rest)) same.0
  | inr differs ↦ absurd (differs.1 own)
]

at_among : (index : ℕ) (front rest : List Claim) (claim : Claim) → claim.slot ≡ index
    → claims_at index (among front claim rest) ≡ among (claims_at index front) claim (claims_at index rest)
at_among index front rest claim own =
    filter-append (is_at index) front (claim ∷ rest) ∙ ap (λ l. claims_at index front ++ l) (own_first index claim rest own)

-- the tickets that they hold
abbrev ticket_in : Claim → List ℕ
ticket_in c = option_to_list (option_map (λ (p : Pinned). p.ticket) c.pin)

abbrev flight_in : Claim → List VersionId
flight_in c = option_to_list (option_map (λ (f : Flying). f.id) c.flight)

flights_with : (front rest : List Claim) (slot : ℕ) (p : Pinned) → flights_in (among front (pinned_claim slot p) rest) ≡ flights_in front ++ flights_in rest
flights_with front rest slot p = flat_map-append flight_in front (pinned_claim slot p ∷ rest)

flights_without : (front rest : List Claim) (slot : ℕ) → flights_in (among front (no_claim slot) rest) ≡ flights_in front ++ flights_in rest
flights_without front rest slot = flat_map-append flight_in front (no_claim slot ∷ rest)

pins_with : (front rest : List Claim) (slot : ℕ) (p : Pinned) → pins_in (among front (pinned_claim slot p) rest) ≡ pins_in front ++ p.ticket ∷ pins_in rest
pins_with front rest slot p = flat_map-append ticket_in front (pinned_claim slot p ∷ rest)

pins_without : (front rest : List Claim) (slot : ℕ) → pins_in (among front (no_claim slot) rest) ≡ pins_in front ++ pins_in rest
pins_without front rest slot = flat_map-append ticket_in front (no_claim slot ∷ rest)

-- a pin is nothing that is in hand
abbrev in_hand : List VersionId → List Known → Hands
in_hand taken known = record { taken = taken; known = known }

hands_same : (front rest : List Claim) (slot : ℕ) (p : Pinned) → hands_of (among front (no_claim slot) rest) ≡ hands_of (among front (pinned_claim slot p) rest)
hands_same front rest slot p = ap₂ in_hand
    (flat_map-append (λ (c : Claim). c.taken) front (no_claim slot ∷ rest) ∙ sym (flat_map-append (λ (c : Claim). c.taken) front (pinned_claim slot p ∷ rest)))
    (flat_map-append (λ (c : Claim). c.known) front (no_claim slot ∷ rest) ∙ sym (flat_map-append (λ (c : Claim). c.known) front (pinned_claim slot p ∷ rest)))

-- one of the claims is this one, or it is one of the others
data Whose (front : List Claim) (own : Claim) (rest : List Claim) (c : Claim) : Type 0 where
  Own : own ≡ c → Whose front own rest c
  Other : Contains (front ++ rest) c → Whose front own rest c

whose : (front : List Claim) (own : Claim) (rest : List Claim) (c : Claim) → Contains (among front own rest) c → Whose front own rest c
whose front own rest c there = elim (Contains-append_cases front (own ∷ rest) c there) [
  | inl before ↦ Other (Contains-append_left front rest c before)
  | inr behind ↦ elim (there_cases own rest c behind) [
    | inl same ↦ Own same
    | inr later ↦ Other (Contains-append_right front rest c later)
  ]
]

other_there : (front : List Claim) (own : Claim) (rest : List Claim) (c : Claim) → Contains (front ++ rest) c → Contains (among front own rest) c
other_there front own rest c there = elim (Contains-append_cases front rest c there) [
  | inl before ↦ Contains-append_left front (own ∷ rest) c before
  | inr later ↦ Contains-append_right front (own ∷ rest) c (rest_there own rest c later)
]

own_there : (front : List Claim) (own : Claim) (rest : List Claim) → Contains (among front own rest) own
own_there front own rest = Contains-append_right front (own ∷ rest) own (first_there own rest)

-- the tickets of the others
ticket_has : (front rest : List Claim) (c : Claim) (q : Pinned) → Contains (front ++ rest) c → c.pin ≡ Some q → Contains (pins_in front ++ pins_in rest) q.ticket
ticket_has front rest c q there is =
    subst (λ l. Contains l q.ticket) (flat_map-append ticket_in front rest)
    (flat_has ticket_in (front ++ rest) c q.ticket there
    (subst (λ (pin : Option Pinned). Contains (option_to_list (option_map (λ (p : Pinned). p.ticket) pin)) q.ticket) (sym is) (first_there q.ticket [])))

-- a claim with this ticket
record Tickets (claims : List Claim) (ticket : ℕ) : Type 0 where
  pub claim : Claim
  pub there : Contains claims claim
  pub pin : Pinned
  pub pin_is : claim.pin ≡ Some pin
  pub ticket_is : pin.ticket ≡ ticket

own_ticket : (claims : List Claim) (c : Claim) (ticket : ℕ) (pin : Option Pinned) → c.pin ≡ pin → Contains claims c
    → Contains (option_to_list (option_map (λ (p : Pinned). p.ticket) pin)) ticket → Tickets claims ticket
own_ticket claims c ticket None is there has = absurd (none_there ticket has)
own_ticket claims c ticket (Some p) is there has = elim (there_cases p.ticket [] ticket has) [
  | inl same ↦ record { claim = c; there = there; pin = p; pin_is = is; ticket_is = same }
  | inr none ↦ absurd (none_there ticket none)
]

tickets : (front rest : List Claim) (ticket : ℕ) → Contains (pins_in front ++ pins_in rest) ticket → Tickets (front ++ rest) ticket
tickets front rest ticket has =
    let found = flat_there ticket_in (front ++ rest) ticket (subst (λ l. Contains l ticket) (sym (flat_map-append ticket_in front rest)) has) in
    own_ticket (front ++ rest) found.0 ticket found.0.pin refl found.1 found.2

-- ---- a pin begins

module _ (set : SetPlan) (index last later : ℕ) (held : Holding) (p : Pinned) (unseen : Disks) (disks : List DriveView) (front rest : List Claim)
    (records after : Records) (state now : State) (rises : last ≤ later) where
  abbrev with_it : Holding
  with_it = with_pins held (held.pins ++ p ∷ [])

  met_more : (c : Claim) → IsMet set held unseen disks c → IsMet set with_it unseen disks c
  met_more c x = record {
    flight = x.flight;
    pin = λ q is. Contains-append_left held.pins (p ∷ []) q (x.pin q is);
    staged = x.staged;
    works = x.works;
    known = x.known;
    unwritten = x.unwritten;
  }

  met_own : IsMet set with_it unseen disks (pinned_claim index p)
  met_own = record {
    flight = λ f is. absurd (none_some f is);
    pin = λ q is. of_some (Contains with_it.pins) p q is (Contains-append_right held.pins (p ∷ []) p (first_there p []));
    staged = λ s is. absurd (none_some s is);
    works = λ s is. absurd (none_some s is);
    known = λ x there. absurd (none_there x there);
    unwritten = λ f k is. absurd (none_some f is);
  }

  pub begin_holds : HoldsAt set index last held unseen disks (among front (no_claim index) rest) records state
      → ((hands : Hands) → DataStands set index last records state held (disks_of unseen set.out disks) hands
      → DataStands set index later after now with_it (disks_of unseen set.out disks) hands)
      → HoldsAt set index later with_it unseen disks (among front (pinned_claim index p) rest) after now
  begin_holds d leaves =
      let F = claims_at index front in
      let R = claims_at index rest in
      let was : claims_at index (among front (no_claim index) rest) ≡ among F (no_claim index) R = at_among index front rest (no_claim index) refl in
      let is : claims_at index (among front (pinned_claim index p) rest) ≡ among F (pinned_claim index p) R = at_among index front rest (pinned_claim index p) refl in
      let stands = leaves (hands_of (claims_at index (among front (no_claim index) rest))) d.stands in
      let met_old : (c : Claim) → Contains (F ++ R) c → IsMet set held unseen disks c =
      (λ c there. d.met c (subst (λ l. Contains l c) (sym was) (other_there F (no_claim index) R c there))) in
      let apart_old = subst AllApart was d.apart in
      record {
        tell = d.tell;
        stands = subst (DataStands set index later after now with_it (disks_of unseen set.out disks))
            (ap hands_of was ∙ (hands_same F R index p ∙ sym (ap hands_of is))) stands;
        loose = λ k id inside in_use own above. d.loose k id inside in_use own (omega (arith, rises, above));
        met = λ c there. elim (whose F (pinned_claim index p) R c (subst (λ l. Contains l c) is there)) [
          | Own same ↦ subst (IsMet set with_it unseen disks) same met_own
          | Other other ↦ met_more c (met_old c other)
        ];
        apart = subst AllApart (sym is) (record {
          flights = subst AreDistinct (flights_without F R index ∙ sym (flights_with F R index p)) apart_old.flights;
          pins = subst AreDistinct (sym (pins_with F R index p))
              (put_apart (pins_in F) p.ticket (pins_in R) (subst AreDistinct (pins_without F R index) apart_old.pins)
              (λ ticket there same.
              let t = tickets F R ticket there in
              left_apart (λ (q : Pinned). q.ticket) p (held.pins ++ p ∷ []) held.pins (put_last held.pins p) stands.pins.differ t.pin
              ((met_old t.claim t.there).pin t.pin t.pin_is) (t.ticket_is ∙ same)));
        });
        flights_are = λ f there. subst (λ (l : List Claim). (c : Claim) × Contains l c × (c.flight ≡ Some f)) (sym is)
            (flight_stays F R (no_claim index) (pinned_claim index p) f (λ none. absurd (none_some f none))
            (subst (λ (l : List Claim). (c : Claim) × Contains l c × (c.flight ≡ Some f)) was (d.flights_are f there)));
        pins_are = λ q there. subst (λ (l : List Claim). (c : Claim) × Contains l c × (c.pin ≡ Some q)) (sym is)
            (elim (Contains-push_cases held.pins p q there) [
              | inl old ↦ pin_stays F R (no_claim index) (pinned_claim index p) q (λ none. absurd (none_some q none))
                  (subst (λ (l : List Claim). (c : Claim) × Contains l c × (c.pin ≡ Some q)) was (d.pins_are q old))
              | inr same ↦ (pinned_claim index p, own_there F (pinned_claim index p) R, ap Some same)
            ]);
      }

-- ---- a pin ends

-- a read is no Complete
abbrev is_read : Purpose → Type 0
is_read ForRead = Unit {0}
is_read ForHeal = Unit {0}
is_read ForComplete = ⊥

module _ (set : SetPlan) (index last later : ℕ) (held holding : Holding) (p : Pinned) (unseen : Disks) (disks : List DriveView) (front rest : List Claim)
    (records after : Records) (state now : State) (rises : last ≤ later) (purpose : p.purpose ≡ ForRead) (goes : PinGoes p.ticket held holding)
    (d : HoldsAt set index last held unseen disks (among front (pinned_claim index p) rest) records state) where
  abbrev F : List Claim
  F = claims_at index front

  abbrev R : List Claim
  R = claims_at index rest

  was : claims_at index (among front (pinned_claim index p) rest) ≡ among F (pinned_claim index p) R
  was = at_among index front rest (pinned_claim index p) refl

  is : claims_at index (among front (no_claim index) rest) ≡ among F (no_claim index) R
  is = at_among index front rest (no_claim index) refl

  met_old : (c : Claim) → Contains (F ++ R) c → IsMet set held unseen disks c
  met_old c there = d.met c (subst (λ l. Contains l c) (sym was) (other_there F (pinned_claim index p) R c there))

  -- the pin is listed, and the pins of other claims have other tickets
  listed : Contains held.pins p
  listed = (d.met (pinned_claim index p) (subst (λ l. Contains l (pinned_claim index p)) (sym was) (own_there F (pinned_claim index p) R))).pin p refl

  distinct : AreDistinct (pins_in F ++ p.ticket ∷ pins_in R)
  distinct = subst AreDistinct (pins_with F R index p) (subst AllApart was d.apart).pins

  other_ticket : (c : Claim) (q : Pinned) → Contains (F ++ R) c → c.pin ≡ Some q → q.ticket ≢ p.ticket
  other_ticket c q there pin_is = out_apart (pins_in F) p.ticket (pins_in R) distinct q.ticket (ticket_has F R c q there pin_is)

  -- what is taken off the list is the pin
  is_taken : (q : Pinned) (left : List Pinned) → q.ticket ≡ p.ticket → TakesOut q held.pins left → q ≡ p
  is_taken q left same takes = elim (taken_or_left q held.pins left takes p listed) [
    | inl own ↦ own
    | inr there ↦ absurd (left_apart (λ (x : Pinned). x.ticket) q held.pins left takes d.stands.pins.differ p there (sym same))
  ]

  -- the pins of other claims stay
  stays : (q : Pinned) (left : List Pinned) → q.ticket ≡ p.ticket → TakesOut q held.pins left → (c : Claim) (other : Pinned) → Contains (F ++ R) c
      → c.pin ≡ Some other → Contains left other
  stays q left same takes c other there pin_is = elim (taken_or_left q held.pins left takes other ((met_old c there).pin other pin_is)) [
    | inl own ↦ absurd (other_ticket c other there pin_is (sym (ap (λ (x : Pinned). x.ticket) own) ∙ same))
    | inr kept ↦ kept
  ]

  known_listed : (q : Pinned) (left : List Pinned) → q.ticket ≡ p.ticket → TakesOut q held.pins left → (x : Known)
      → Contains (hands_of (claims_at index (among front (pinned_claim index p) rest))).known x → IsListed (with_pins held left) x.named.id
  known_listed q left same takes x there =
      let found = flat_there (λ (c : Claim). c.known) (among F (pinned_claim index p) R) x
      (subst (λ (l : List Claim). Contains (flat_map (λ (c : Claim). c.known) l) x) was there) in
      elim (whose F (pinned_claim index p) R found.0 found.1) [
        | Own own ↦ absurd (none_there x (subst (λ (c : Claim). Contains c.known x) (sym own) found.2))
        | Other other ↦ elim ((met_old found.0 other).known x found.2) [
          | inl f ↦ inl (record { flight = f.0; there = (met_old found.0 other).flight f.0 f.1; id_is = f.2 })
          | inr pin ↦ inr (record { pin = pin.0; there = stays q left same takes found.0 pin.0 other pin.1; names = pin.2 })
        ]
      ]

  may_go : MayLetGo set p.ticket held (disks_of unseen set.out disks) (hands_of (claims_at index (among front (pinned_claim index p) rest)))
      (hands_of (claims_at index (among front (pinned_claim index p) rest)))
  may_go = (
    refl,
    λ q left same takes. record {
      listed = known_listed q left same takes;
      gathered = λ complete. absurd (subst is_read (sym purpose ∙ (sym (ap (λ (x : Pinned). x.purpose) (is_taken q left same takes)) ∙ complete)) tt);
    },
  )

  met_less : (c : Claim) → Contains (F ++ R) c → IsMet set holding unseen disks c
  met_less c there =
      let x = met_old c there in
      elim goes [
        | inl g ↦ subst (λ (h : Holding). IsMet set h unseen disks c) (sym g.4) (record {
          flight = x.flight;
          pin = λ q pin_is. stays g.0 g.1 g.2 g.3 c q there pin_is;
          staged = x.staged;
          works = x.works;
          known = x.known;
          unwritten = x.unwritten;
        })
        | inr none ↦ absurd (none.0 p listed refl)
      ]

  -- the puts are as before, and the pins are those but the one that ended
  flight_was : (f : Flying) → Contains holding.flights f → Contains held.flights f
  flight_was f there = elim goes [
    | inl g ↦ subst (λ (h : Holding). Contains h.flights f) g.4 there
    | inr none ↦ absurd (none.0 p listed refl)
  ]

  pin_was : (q : Pinned) → Contains holding.pins q → Contains held.pins q
  pin_was q there = elim goes [
    | inl g ↦ left_there g.0 held.pins g.1 g.3 q (subst (λ (h : Holding). Contains h.pins q) g.4 there)
    | inr none ↦ absurd (none.0 p listed refl)
  ]

  pin_gone : (q : Pinned) → Contains holding.pins q → Some p ≡ Some q → ⊥
  pin_gone q there own = elim goes [
    | inl g ↦ left_apart (λ (x : Pinned). x.ticket) g.0 held.pins g.1 g.3 d.stands.pins.differ q (subst (λ (h : Holding). Contains h.pins q) g.4 there)
        (of_some (λ (x : Pinned). x.ticket ≡ g.0.ticket) p q own (sym g.2))
    | inr none ↦ absurd (none.0 p listed refl)
  ]

  pub end_holds : ((hands : Hands) → MayLetGo set p.ticket held (disks_of unseen set.out disks) hands hands
      → DataStands set index last records state held (disks_of unseen set.out disks) hands
      → DataStands set index later after now holding (disks_of unseen set.out disks) hands)
      → HoldsAt set index later holding unseen disks (among front (no_claim index) rest) after now
  end_holds leaves =
      let apart_old = subst AllApart was d.apart in
      record {
        tell = d.tell;
        stands = subst (DataStands set index later after now holding (disks_of unseen set.out disks))
            (ap hands_of was ∙ (sym (hands_same F R index p) ∙ sym (ap hands_of is)))
            (leaves (hands_of (claims_at index (among front (pinned_claim index p) rest))) may_go d.stands);
        loose = λ k id inside in_use own above. d.loose k id inside in_use own (omega (arith, rises, above));
        met = λ c there. elim (whose F (no_claim index) R c (subst (λ l. Contains l c) is there)) [
          | Own own ↦ subst (IsMet set holding unseen disks) own (met_none set holding unseen disks index)
          | Other other ↦ met_less c other
        ];
        apart = subst AllApart (sym is) (record {
          flights = subst AreDistinct (flights_with F R index p ∙ sym (flights_without F R index)) apart_old.flights;
          pins = subst AreDistinct (sym (pins_without F R index)) (out_distinct (pins_in F) p.ticket (pins_in R) distinct);
        });
        flights_are = λ f there. subst (λ (l : List Claim). (c : Claim) × Contains l c × (c.flight ≡ Some f)) (sym is)
            (flight_stays F R (pinned_claim index p) (no_claim index) f (λ none. absurd (none_some f none))
            (subst (λ (l : List Claim). (c : Claim) × Contains l c × (c.flight ≡ Some f)) was (d.flights_are f (flight_was f there))));
        pins_are = λ q there. subst (λ (l : List Claim). (c : Claim) × Contains l c × (c.pin ≡ Some q)) (sym is)
            (pin_stays F R (pinned_claim index p) (no_claim index) q (λ own. absurd (pin_gone q there own))
            (subst (λ (l : List Claim). (c : Claim) × Contains l c × (c.pin ≡ Some q)) was (d.pins_are q (pin_was q there))));
      }
