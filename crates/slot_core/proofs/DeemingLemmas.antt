-- A deed that changes its register: its number is new, and what its register names was drawn before.
use Rattle.std.proofs.Common.{◌≡◌, ◌≢◌, ◌<◌, ◌≤◌, ◌∙◌, ℕ, List, Option, None, Some, Contains, sym, ap, subst, refl, inl, inr, arith}
use Rattle.std.specs.Prelude.{MatchOption}
use Rattle.stamp_id.specs.Rank.{change_of}
use Rattle.stamp_id.specs.declared.stamp.ChangeId.{ChangeId}
use Rattle.stamp_id.specs.declared.version.VersionId.{VersionId}
use Rattle.call_types.specs.declared.reply.Reply.{Reply}
use Rattle.drive_base.specs.declared.plan.SetPlan.{SetPlan}
use Rattle.register_file.specs.declared.record.Next.{Next}
use Rattle.slot_history.specs.Committing.{IsOwnNumber}
use Rattle.slot_history.specs.Contents.{NamedData, NamesId, number_of_id}
use Rattle.slot_history.specs.Doing.{Does}
use Rattle.slot_history.specs.Standing.{Flying, IsSpent, Records, Stands}
use Rattle.slot_history.specs.State.{IsHeld, Registers, State}
use Rattle.slot_history.proofs.StandLemmas.{spent_later}
use Rattle.slot_history.proofs.TakenLemmas.{left_there, taken_there}
use Rattle.slot_data.specs.Holding.{Holding}
use Rattle.slot_data.specs.Moves.{LanesStand}
use Rattle.slot_data.specs.Standing.{RecordNamesId}
use Rattle.slot_rules.specs.Deeds.{IsOfNoPart, call_of, name_of}
use Rattle.slot_rules.specs.Planning.{adds_of}
use Rattle.slot_rules.specs.declared.commit.Commit.TheVariants.{Key, Part, MakeBucket, SetMode}
use Rattle.slot_rules.specs.declared.commit.Commit.{Commit}
use Rattle.slot_core.specs.CommitOutcome.{FitsPut, Lands}

-- the register of a deed that is of no part is held
pub deed_held : (deed : Commit) → IsOfNoPart deed → (registers : Registers) → IsHeld registers (name_of deed)
deed_held (Key at mode done) is registers = inr (inl (at, refl))
deed_held (Part at upload number part) is registers = absurd is
deed_held (MakeBucket bucket) is registers = inl (bucket, refl)
deed_held (SetMode bucket mode) is registers = inl (bucket, refl)

-- ---- numbers

-- the number of a section's own change: that of the put which it ends, or it was drawn after so many
abbrev pub NumberIs : ℕ → ℕ → Option VersionId → ChangeId → Type 0
NumberIs last later None change = (last < change_of change) × (change_of change ≤ later)
NumberIs last later (Some put) change = change ≡ put.change

-- puts that go on were listed before
pub lands_fewer : (put : Option VersionId) (flights rest : List Flying) → Lands put flights rest → (f : Flying) → Contains rest f → Contains flights f
lands_fewer None flights rest lands f there = subst (λ (l : List Flying). Contains l f) lands there
lands_fewer (Some id) flights rest lands f there = left_there lands.0 flights rest lands.2 f there

-- it is new
pub own_number : (last later : ℕ) (flights rest : List Flying) (put : Option VersionId) (change : ChangeId) → Lands put flights rest → NumberIs last later put change
    → IsOwnNumber last later flights rest (change_of change)
own_number last later flights rest None change lands number = inr (number.0, number.1, lands)
own_number last later flights rest (Some id) change lands number = inl (record {
  flight = lands.0;
  listed = taken_there lands.0 flights rest lands.2;
  number_is = ap number_of_id lands.1 ∙ ap change_of (sym number);
  others = left_there lands.0 flights rest lands.2;
  ended = λ g there same. lands.3 g there (same ∙ ap change_of number);
})

-- and spent then
pub own_spent : (w drives last later : ℕ) (flights rest : List Flying) (records : Records) (state : State) (put : Option VersionId) (change : ChangeId)
    → Stands w drives last flights records state → last ≤ later → Lands put flights rest → NumberIs last later put change → IsSpent later rest (change_of change)
own_spent w drives last later flights rest records state None change stands up lands number = record {
  drawn = number.1;
  landed = λ f there same.
      let low = stands.flying f (subst (λ (l : List Flying). Contains l f) lands there) in
      let above = number.0 in
      omega arith;
}
own_spent w drives last later flights rest records state (Some id) change stands up lands number = record {
  drawn = let low = stands.flying lands.0 (taken_there lands.0 flights rest lands.2) in
      let is = ap number_of_id lands.1 in
      let same = ap change_of number in
      omega arith;
  landed = λ f there same. lands.3 f there (same ∙ ap change_of number);
}

-- a change that an id is of has a number
pub number_some : (id : VersionId) (change : ChangeId) → id.change ≡ change → 0 < change_of change
number_some id change is = let some = id.seq_counts in subst (λ (c : ChangeId). 0 < change_of c) is (omega arith)

-- ---- a deed that changes its register

-- a deed that changes a register, where these puts are under way
pub record Deeming : Type 0 where
  pub set : SetPlan
  pub last : ℕ
  pub later : ℕ
  pub holding : Holding
  pub rest : List Flying
  pub records : Records
  pub state : State
  pub put : Option VersionId
  pub now : ℕ
  pub reply : Reply
  pub own : Next
  pub id : VersionId

-- its put ends, its number is new, and it makes an own change of its reply
pub record IsDeemed (s : Deeming) (deed : Commit) : Type 0 where
  pub stands : LanesStand s.set s.last s.holding s.records s.state
  pub up : s.last ≤ s.later
  pub lands : Lands s.put s.holding.flights s.rest
  pub fits : FitsPut deed s.put
  pub number : NumberIs s.last s.later s.put s.own.change
  pub id_change : s.id.change ≡ s.own.change
  pub adds : s.own.adds ≡ adds_of deed
  pub held : IsHeld s.state.registers (name_of deed)
  pub does : Does s.state.registers (name_of deed) (call_of deed (Some s.own.change) s.now) s.id s.reply s.own.content
  pub changed : s.own.content ≢ (s.state.registers (name_of deed)).content

-- what the content of a register names some record names
pub stood_names : (s : Deeming) (deed : Commit) (m : IsDeemed s deed) (id : VersionId) → NamesId (name_of deed) (s.state.registers (name_of deed)).content id
    → RecordNamesId s.records (name_of deed) id
stood_names s deed m id names =
    let holds = (m.stands.under (name_of deed) m.held).holds in
    let top = holds.sound.value in
    record {
      lane = top.lane;
      change = (s.state.registers (name_of deed)).change;
      content = (s.state.registers (name_of deed)).content;
      there = top.top.there;
      has = inl (top.carries, holds.contents top.lane top.top.there top.carries);
      names = names;
    }

-- so it was drawn, and is not under way
pub record_spent : (s : Deeming) (deed : Commit) (m : IsDeemed s deed) (id : VersionId) → RecordNamesId s.records (name_of deed) id → IsSpent s.later s.rest (number_of_id id)
record_spent s deed m id r =
    spent_later s.last s.later s.holding.flights s.rest m.up (lands_fewer s.put s.holding.flights s.rest m.lands) (number_of_id id)
    ((m.stands.lawful_under (name_of deed)).ids r.lane r.change r.content id r.there r.has r.names)

-- what is brought comes under the id of the put
pub put_is : (deed : Commit) (brings : Option NamedData) (put : Option VersionId) (named : NamedData) → MatchOption brings (put ≡ None) (λ n. put ≡ Some n.id)
    → brings ≡ Some named → put ≡ Some named.id
put_is deed None put named fits is = absurd cc
put_is deed (Some one) put named fits is = let same : one ≡ named = cc in fits ∙ ap (λ (n : NamedData). Some n.id) same

-- the put that ends
pub put_lands : (put : Option VersionId) (id : VersionId) (flights rest : List Flying) → put ≡ Some id → Lands put flights rest → Lands (Some id) flights rest
put_lands put id flights rest is lands = subst (λ (p : Option VersionId). Lands p flights rest) is lands
