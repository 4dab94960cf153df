-- What both writes of a change leave of the lanes: the value, what may become it, and their records.
use Rattle.std.proofs.Common.{◌≡◌, ◌∙◌, ℕ, List, Result, Ok, Err, length, ap, subst, sym, refl, inl, inr}
use Rattle.std.specs.Prelude.{◌⊎◌, Contains}
use Rattle.std.proofs.lemmas.Bool.{cases_eq}
use Rattle.std.proofs.lemmas.List.Elements.{Contains-get_or}
use Rattle.std.proofs.lemmas.Slice.Zip.{AllZip-long}
use Rattle.call_types.specs.declared.why.Why.{Why}
use Rattle.vote_core.specs.Lane.{Base, HasNext, HasRecord, Lane, Next, blank_lane, lane_at}
use Rattle.vote_core.specs.Laws.{LeftMembers, LiveIsOldOrOwn, MarkLeavesNoneLive}
use Rattle.vote_core.specs.Loops.{IsPrepared, Leaves, Stands, marked, prepared}
use Rattle.vote_core.specs.Sound.{HoldsValue, IsLive}
use Rattle.register_core.specs.LaneMoves.{MarkMoves, MayPropose}
use Rattle.register_caller.specs.WrittenLanes.{IsWritten, LeavesByResult, LeavesLanes, WasLive, written_of}
use Rattle.register_caller.proofs.CallingLemmas.{own_content}
use Rattle.register_caller.proofs.LiveLemmas.{no_next, own_next}

-- each record is one that was there, or carries what was written
abbrev RecordsFrom : List Lane → Next → List Lane → Type 0
RecordsFrom lanes next after = (a : Lane) (d : ℕ) (bytes : List ℕ) → Contains after a → HasRecord a d bytes
    → ((b : Lane) × Contains lanes b × HasRecord b d bytes) ⊎ ((d ≡ next.change) × (bytes ≡ next.content))

-- what may become the value could so before, or is what was written
abbrev LiveFrom : List Lane → ℕ → Next → List Lane → ℕ → Type 0
LiveFrom lanes c own after now = (a : Lane) (next : Next) → Contains after a → HasNext a next → IsLive after now a next
    → WasLive lanes c next ⊎ IsWritten (written_of own) next

-- a lane after a loop was there before, or has its record
as_before : (x : Lane) (lanes after : List Lane) → Leaves x lanes after → length after ≡ length lanes
as_before x lanes after left = AllZip-long (λ before now. (now ≡ before) ⊎ (now ≡ x)) lanes after left

-- the value's own change is proposed with the value's content
own_value : (w last later c : ℕ) (content : List ℕ) (lanes : List Lane) (letters : List Why) (base : Base) (next : Next)
    → MayPropose w last later lanes c content letters base next → next.change ≡ c → next.content ≡ content
own_value w last later c content lanes letters base next may same = elim may.may [
  | inl own ↦ let top = may.holds.sound.value in absurd (own.own.change.bases top.lane top.top.there (top.carries ∙ sym same))
  | inr forward ↦ forward.again.content
      ∙ own_content w last c content lanes (lane_at lanes forward.lane) forward.found may.holds
      (Contains-get_or lanes forward.lane blank_lane forward.finds.next_read.there) forward.finds.next_is (sym forward.again.change ∙ same)
]

-- the base over which a change may be proposed stands
base_stands : (w last later c : ℕ) (content : List ℕ) (lanes : List Lane) (letters : List Why) (base : Base) (next : Next)
    → MayPropose w last later lanes c content letters base next → Stands lanes base
base_stands w last later c content lanes letters base next may = elim may.may [
  | inl own ↦ own.stands
  | inr forward ↦ (lane_at lanes forward.base_lane, Contains-get_or lanes forward.base_lane blank_lane forward.finds.base_read.there, forward.base_is)
]

-- the records after a prepare
records_prepared : LeftMembers → (lanes after : List Lane) (base : Base) (own : Next) → Stands lanes base → Leaves (prepared base own) lanes after
    → RecordsFrom lanes own after
records_prepared members lanes after base own stands left a d bytes there has = elim (members (prepared base own) lanes after a left there) [
  | inl old ↦ inl (a, old, has)
  | inr same ↦ elim has [
    | inl below ↦
        let is : stands.0.base ≡ a.base = stands.2 ∙ sym (ap (λ (l : Lane). l.base) same) in
        inl (stands.0, stands.1, inl (ap (λ (b : Base). b.change) is ∙ below.0, ap (λ (b : Base). b.content) is ∙ below.1))
    | inr on_its_way ↦
        let is : on_its_way.0 ≡ own = own_next a base own on_its_way.0 same on_its_way.1 in
        inr (sym on_its_way.2 ∙ ap (λ (n : Next). n.change) is, sym on_its_way.3 ∙ ap (λ (n : Next). n.content) is)
  ]
]

-- and after a mark
records_marked : LeftMembers → (lanes mid after : List Lane) (own : Next) → RecordsFrom lanes own mid → Leaves (marked own) mid after → RecordsFrom lanes own after
records_marked members lanes mid after own before left a d bytes there has = elim (members (marked own) mid after a left there) [
  | inl old ↦ before a d bytes old has
  | inr same ↦ elim has [
    | inl below ↦
        let is : a.base ≡ (marked own).base = ap (λ (l : Lane). l.base) same in
        inr (sym below.0 ∙ ap (λ (b : Base). b.change) is, sym below.1 ∙ ap (λ (b : Base). b.content) is)
    | inr on_its_way ↦ absurd (no_next a own on_its_way.0 same on_its_way.1)
  ]
]

-- what may become the value after a prepare
live_prepared : LiveIsOldOrOwn → (w last c : ℕ) (content : List ℕ) (lanes after : List Lane) (base : Base) (own : Next)
    → HoldsValue w last lanes c content → Leaves (prepared base own) lanes after → LiveFrom lanes c own after c
live_prepared law w last c content lanes after base own holds left a next there has live =
    elim (law w last c content lanes after (prepared base own) a next holds left there has live) [
      | inl old ↦ inl (record { lane = a; there = old.0; found = next; has = has; live = old.1; change_is = refl; content_is = refl; adds_is = refl })
      | inr same ↦ let is : next ≡ own = own_next a base own next same has in
          inr (record {
            change_is = ap (λ (n : Next). n.change) is;
            content_is = ap (λ (n : Next). n.content) is;
            adds_is = ap (λ (n : Next). n.adds) is;
          })
    ]

-- and after a mark that left the value
live_marked : LiveIsOldOrOwn → (w last c : ℕ) (content : List ℕ) (lanes mid after : List Lane) (own : Next)
    → HoldsValue w last mid c content → LiveFrom lanes c own mid c → Leaves (marked own) mid after → LiveFrom lanes c own after c
live_marked law w last c content lanes mid after own holds lives left a next there has live =
    elim (law w last c content mid after (marked own) a next holds left there has live) [
      | inl old ↦ lives a next old.0 has old.1
      | inr same ↦ absurd (no_next a own next same has)
    ]

-- a prepare that was refused
pub leaves_refused : {T E : Type 0} → LiveIsOldOrOwn → LeftMembers → (w last later c : ℕ) (content : List ℕ) (lanes after : List Lane) (letters : List Why)
    (base : Base) (own : Next) (fault : E) → MayPropose w last later lanes c content letters base own → HoldsValue w later after c content
    → Leaves (prepared base own) lanes after → LeavesByResult {T = T} {E = E} w later (Err fault) (written_of own) lanes c content after
leaves_refused law members w last later c content lanes after letters base own fault may holds left = record {
  now = c;
  shows = content;
  leaves = record {
    counted = as_before (prepared base own) lanes after left;
    holds = holds;
    moves = inl (refl, refl, live_prepared law w last c content lanes after base own may.holds left);
    records = records_prepared members lanes after base own (base_stands w last later c content lanes letters base own may) left;
  };
  marked = tt;
}

-- both loops, where the value stayed
leaves_stays : LiveIsOldOrOwn → LeftMembers → (w last later c : ℕ) (content : List ℕ) (lanes mid after : List Lane) (letters : List Why) (base : Base) (own : Next)
    → MayPropose w last later lanes c content letters base own → HoldsValue w later mid c content → Leaves (prepared base own) lanes mid
    → Leaves (marked own) mid after → HoldsValue w later after c content → LeavesLanes w later (written_of own) lanes c content after c content
leaves_stays law members w last later c content lanes mid after letters base own may stays first second holds = record {
  counted = as_before (marked own) mid after second ∙ as_before (prepared base own) lanes mid first;
  holds = holds;
  moves = inl (refl, refl, live_marked law w later c content lanes mid after own stays (live_prepared law w last c content lanes mid base own may.holds first) second);
  records = records_marked members lanes mid after own
      (records_prepared members lanes mid base own (base_stands w last later c content lanes letters base own may) first) second;
}

-- and where the change is the value
leaves_moved : LiveIsOldOrOwn → MarkLeavesNoneLive → LeftMembers → (w last later c : ℕ) (content : List ℕ) (lanes mid after : List Lane) (letters : List Why)
    (base : Base) (own : Next) → MayPropose w last later lanes c content letters base own → HoldsValue w later mid c content → IsPrepared mid c base own
    → Leaves (prepared base own) lanes mid → Leaves (marked own) mid after → HoldsValue w later after own.change own.content
    → LeavesLanes w later (written_of own) lanes c content after own.change own.content
leaves_moved law none members w last later c content lanes mid after letters base own may stays ready first second holds = record {
  counted = as_before (marked own) mid after second ∙ as_before (prepared base own) lanes mid first;
  holds = holds;
  moves = elim (cases_eq own.change c) [
    | inl same ↦ inl (
      same,
      own_value w last later c content lanes letters base own may same,
      subst (λ (n : ℕ). LiveFrom lanes c own after n) (sym same)
          (live_marked law w later c content lanes mid after own stays (live_prepared law w last c content lanes mid base own may.holds first) second),
    )
    | inr other ↦ inr (refl, refl, other, λ a next there has live. none c mid after base own next a ready other second there has live)
  ];
  records = records_marked members lanes mid after own
      (records_prepared members lanes mid base own (base_stands w last later c content lanes letters base own may) first) second;
}

-- both loops, by the result
pub leaves_both : {T E : Type 0} → LiveIsOldOrOwn → MarkLeavesNoneLive → LeftMembers → (result : Result T E) (w last later c : ℕ) (content : List ℕ)
    (lanes mid after : List Lane) (letters : List Why) (base : Base) (own : Next) → MayPropose w last later lanes c content letters base own
    → HoldsValue w later mid c content → IsPrepared mid c base own → Leaves (prepared base own) lanes mid → Leaves (marked own) mid after
    → MarkMoves result w later c content own after → LeavesByResult {T = T} {E = E} w later result (written_of own) lanes c content after
leaves_both law none members (Ok done) w last later c content lanes mid after letters base own may stays ready first second moves = record {
  now = own.change;
  shows = own.content;
  leaves = leaves_moved law none members w last later c content lanes mid after letters base own may stays ready first second moves.holds;
  marked = (refl, refl);
}
leaves_both law none members (Err fault) w last later c content lanes mid after letters base own may stays ready first second moves = elim moves [
  | inl same ↦ record {
    now = c;
    shows = content;
    leaves = leaves_stays law members w last later c content lanes mid after letters base own may stays first second same;
    marked = tt;
  }
  | inr moved ↦ record {
    now = own.change;
    shows = own.content;
    leaves = leaves_moved law none members w last later c content lanes mid after letters base own may stays ready first second moved;
    marked = tt;
  }
]
