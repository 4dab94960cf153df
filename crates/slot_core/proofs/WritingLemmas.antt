-- A section's own writes over a register that it settled: they may be made, and what they do.
use Rattle.std.proofs.Common.{◌≡◌, ◌<◌, ◌≤◌, ◌+◌, ◌*◌, ◌^◌, ◌∙◌, ℕ, List, ◌++◌, Option, None, Some, Contains, ap, subst, sym, refl, inl, arith}
use Rattle.std.specs.Int.{IsBitSet}
use Rattle.call_types.specs.declared.act.Brief.TheVariants.{Answer}
use Rattle.stamp_id.specs.Rank.{change_of, rank_of}
use Rattle.stamp_id.specs.declared.stamp.ChangeId.{ChangeId}
use Rattle.stamp_id.specs.declared.version.VersionId.{VersionId}
use Rattle.audit_trail.specs.declared.entry.Deed.TheVariants.{Done as DoneDeed, Refused as RefusedDeed}
use Rattle.register_file.specs.declared.record.Base.{Base}
use Rattle.register_file.specs.declared.record.Next.{Next}
use Rattle.vote_core.specs.Lane.{Lane, lane_at}
use Rattle.register_core.specs.Records.{base_of, next_of}
use Rattle.register_caller.specs.WrittenLanes.{written_of}
use Rattle.slot_history.specs.Contents.{number_of_id}
use Rattle.slot_history.proofs.TakenLemmas.{taken_there}
use Rattle.slot_history.specs.Laws.{with_waiting}
use Rattle.slot_history.specs.Moving.{Deeds, IsIdOf, drawn_by}
use Rattle.slot_history.specs.Standing.{Flying, Records}
use Rattle.slot_history.specs.State.{IsNew, Register, State}
use Rattle.slot_data.specs.Bringing.{GoOn, with_gone}
use Rattle.slot_data.specs.Disks.{Disks}
use Rattle.slot_data.specs.Holding.{Hands, Holding}
use Rattle.slot_data.specs.Moves.{LanesStand}
use Rattle.slot_data.specs.Standing.{DataStands}
use Rattle.slot_rules.specs.Deeds.{call_of, name_of}
use Rattle.slot_rules.specs.Owning.{IsOwnChange, life_at, own_seq}
use Rattle.slot_rules.specs.Planning.{IsGoneBy}
use Rattle.slot_rules.specs.Plans.{IsTale}
use Rattle.slot_rules.specs.declared.commit.Commit.TheVariants.{Key, Part, MakeBucket, SetMode}
use Rattle.slot_rules.specs.declared.commit.Commit.{Commit}
use Rattle.slot_rules.specs.declared.owning.Own.{Own}
use Rattle.slot_rules.specs.declared.site.Drawn.{Drawn}
use Rattle.slot_rules.specs.declared.site.Site.{Site}
use Rattle.slot_rules.specs.declared.telling.Tale.{Tale}
use Rattle.slot_rules.specs.declared.telling.Told.{Told}
use Rattle.slot_core.specs.CommitOutcome.{FitsPut, Lands, kept_with}
use Rattle.slot_core.specs.CommitWrite.{IsOwnOver}
use Rattle.slot_core.specs.Commits.{MayCommitData}
use Rattle.slot_core.specs.Settlement.{SettledOn, numbers_at}
use Rattle.slot_core.specs.Views.{last_of}
use Rattle.slot_core.proofs.DeedLemmas.{deed_brings, deed_commits}
use Rattle.slot_core.proofs.DeemingLemmas.{Deeming, IsDeemed, NumberIs}
use Rattle.slot_core.proofs.LandLemmas.{may_end}
use Rattle.slot_core.proofs.LaneLemmas.{with_lanes, with_lanes_writes}
use Rattle.slot_core.proofs.OwnWriteLemmas.{OwnData, OwnMade, OwnMay, Owned}

-- the change that the call of a deed drew
pub drawn_own : (deed : Commit) (change : Option ChangeId) (now : ℕ) → drawn_by (call_of deed change now) ≡ change
drawn_own (Key at mode act) change now = refl
drawn_own (Part at upload number part) change now = refl
drawn_own (MakeBucket bucket) change now = refl
drawn_own (SetMode bucket mode) change now = refl

-- what a slot keeps, with this trash
pub kept_gone : (holding : Holding) (rest : List Flying) (gone old trash : List VersionId) → holding.trash ≡ old → trash ≡ old ++ gone
    → with_gone holding rest gone ≡ kept_with holding rest trash
kept_gone holding rest gone old trash was added =
    ap (λ (t : List VersionId). kept_with holding rest t) (ap (λ (t : List VersionId). t ++ gone) was ∙ sym added)

-- the number of an own change, by how it was drawn
own_drawn : (site : Site) (mid later : Drawn) (last : ℕ) (put : Option VersionId) (change : ChangeId) → mid.seq ≤ last → later.seq ≡ own_seq last put
    → IsOwnChange (life_at site) last put change → NumberIs (last_of (numbers_at site mid)) (last_of (numbers_at site later)) put change
own_drawn site mid later last None change low seq is = (
  subst (λ (t : ℕ). site.term * 2 ^ 64 + mid.seq < t * 2 ^ 64 + change.0.seq) (sym is.0) (let same = is.1 in omega arith),
  subst (λ (t : ℕ). t * 2 ^ 64 + change.0.seq ≤ site.term * 2 ^ 64 + later.seq) (sym is.0) (let same = is.1 in omega arith),
)
own_drawn site mid later last (Some id) change low seq is = is

-- it isn't above the ballot's
own_within : (site : Site) (mid : Drawn) (last : ℕ) (put : Option VersionId) (change : ChangeId) (ballot : ℕ) (flights rest : List Flying) → mid.seq ≤ last
    → ballot ≡ site.term * 2 ^ 64 + own_seq last put → Lands put flights rest
    → ((f : Flying) → Contains flights f → number_of_id f.id ≤ site.term * 2 ^ 64 + mid.seq)
    → IsOwnChange (life_at site) last put change → change_of change ≤ ballot
own_within site mid last None change ballot flights rest low is lands drawn own =
    subst (λ (t : ℕ). t * 2 ^ 64 + change.0.seq ≤ ballot) (sym own.0) (let same = own.1 in omega arith)
own_within site mid last (Some id) change ballot flights rest low is lands drawn own =
    let below = drawn lands.0 (taken_there lands.0 flights rest lands.2) in
    let same : number_of_id lands.0.id ≡ change_of change = ap number_of_id lands.1 ∙ ap change_of (sym own) in
    omega arith

own_above : (last : ℕ) (put : Option VersionId) → last < own_seq last put
own_above last None = omega arith
own_above last (Some id) = omega arith

-- the own writes of a section, over a register that it settled
pub record Writing : Type 0 where
  pub site : Site
  pub mid : Drawn
  pub later : Drawn
  pub own : Own
  pub tale : Tale
  pub deed : Commit
  pub put : Option VersionId
  pub now : ℕ
  pub last : ℕ
  pub base : Base
  pub content : List ℕ
  pub next : Next
  pub late : Option ChangeId
  pub holding : Holding
  pub rest : List Flying
  pub records : Records
  pub state : State
  pub after : List Lane
  pub gone : List VersionId

pub record IsWriting (s : Writing) : Type 0 where
  pub seq : s.later.seq ≡ s.own.seq
  pub low : s.mid.seq ≤ s.last
  pub is : IsOwnOver s.site s.last s.deed s.put s.now s.base s.content s.tale.reply s.own s.next
  pub tale_is : IsTale s.deed (Some s.own.change) s.now s.tale
  pub gone_is : IsGoneBy s.deed s.content s.next.content s.gone
  pub stands : LanesStand s.site.set (last_of (numbers_at s.site s.mid)) s.holding s.records s.state
  pub known : SettledOn (name_of s.deed) s.base s.content s.late s.records s.state
  pub lands : Lands s.put s.holding.flights s.rest
  pub fits : FitsPut s.deed s.put
  pub stay : (k : ℕ) → IsBitSet s.site.set.out k → lane_at s.after k ≡ lane_at (s.records (name_of s.deed)) k

module _ (s : Writing) (w : IsWriting s) where
  abbrev pub before : ℕ
  before = last_of (numbers_at s.site s.mid)

  abbrev pub behind : ℕ
  behind = last_of (numbers_at s.site s.later)

  abbrev pub called : List ℕ
  called = name_of s.deed

  later_seq : s.later.seq ≡ own_seq s.last s.put
  later_seq = w.seq ∙ w.is.seq_is

  ballot_is : rank_of s.next.ballot ≡ s.site.term * 2 ^ 64 + own_seq s.last s.put
  ballot_is = ap (λ (t : ℕ). t * 2 ^ 64 + s.next.ballot.seq) w.is.term ∙ ap (λ (n : ℕ). s.site.term * 2 ^ 64 + n) w.is.seq

  rises : before ≤ behind
  rises = let same = later_seq in let above = own_above s.last s.put in let low = w.low in omega arith

  -- the content that stood
  pub stood_is : (s.state.registers called).content ≡ s.content
  stood_is = ap (λ (r : Register). r.content) w.known.register_is

  abbrev pub deemed : Deeming
  deemed = record {
    set = s.site.set;
    last = before;
    later = behind;
    holding = s.holding;
    rest = s.rest;
    records = s.records;
    state = s.state;
    put = s.put;
    now = s.now;
    reply = s.tale.reply;
    own = s.next;
    id = w.is.id;
  }

  pub is_deemed : IsDeemed deemed s.deed
  is_deemed = record {
    stands = w.stands;
    up = rises;
    lands = w.lands;
    fits = w.fits;
    number = own_drawn s.site s.mid s.later s.last s.put s.next.change w.low later_seq w.is.change;
    id_change = w.is.id_change;
    adds = w.is.adds;
    held = w.known.held;
    does = w.is.does s.state.registers stood_is w.known.held;
    changed = λ same. w.is.changed (same ∙ stood_is);
  }

  abbrev pub owned : Owned
  owned = record {
    set = s.site.set;
    last = before;
    later = behind;
    holding = s.holding;
    rest = s.rest;
    old = s.records;
    new = with_lanes called s.after s.records;
    state = s.state;
    name = called;
    base = base_of s.base;
    own = next_of s.next;
    letters = s.own.draft.letters;
    after = s.after;
  }

  pub owned_may : OwnMay owned
  owned_may = record {
    low = let is = ballot_is in let above = own_above s.last s.put in let low = w.low in omega arith;
    within = own_within s.site s.mid s.last s.put s.next.change (rank_of s.next.ballot) s.holding.flights s.rest w.low ballot_is w.lands w.stands.flying w.is.change;
    ballot = ballot_is ∙ ap (λ (n : ℕ). s.site.term * 2 ^ 64 + n) (sym later_seq);
    stands = w.stands;
    parent = ap change_of w.is.parent;
    value = sym (ap (λ (r : Register). r.change) w.known.register_is);
    stands_on = w.known.stands_on;
    may = deed_commits deemed s.deed is_deemed;
    writes = with_lanes_writes called s.after s.records;
  }

  -- the tale of the change
  told_is : s.tale.audit ≡ record { call = call_of s.deed (Some s.next.change) s.now; reply = Answer s.tale.reply }
  told_is = w.tale_is.audit ∙ ap (λ (c : ChangeId). record { call = call_of s.deed (Some c) s.now; reply = Answer s.tale.reply }) w.is.change_is

  id_is : IsIdOf s.site.index s.next.change w.is.id
  id_is = record { change_is = w.is.id_change; slot_is = w.is.id_slot }

  -- it was done
  pub done_deed : (made : OwnMade owned) → Deeds s.site.index called (DoneDeed s.tale.audit.call s.tale.audit.reply) s.state made.made
  done_deed made = subst (λ (t : Told). Deeds s.site.index called (DoneDeed t.call t.reply) s.state made.made) (sym told_is) (inl (record {
    change = s.next.change;
    drawn = drawn_own s.deed (Some s.next.change) s.now;
    is_new = made.is_new;
    id = w.is.id;
    id_is = id_is;
    content = s.next.content;
    does = is_deemed.does;
    changed = is_deemed.changed;
    changes = made.is.changes;
    pending = made.is.pending;
    applied = made.is.applied;
  }))

  -- it waits
  pub waits_deed : IsNew (change_of s.next.change) s.state
      → Deeds s.site.index called (RefusedDeed s.own.change s.tale.audit.call) s.state (with_waiting s.state called (written_of (next_of s.next)))
  waits_deed new =
      subst (λ (c : ChangeId). Deeds s.site.index called (RefusedDeed c s.tale.audit.call) s.state (with_waiting s.state called (written_of (next_of s.next)))) (sym w.is.change_is)
      (subst (λ (t : Told). Deeds s.site.index called (RefusedDeed s.next.change t.call) s.state (with_waiting s.state called (written_of (next_of s.next)))) (sym told_is) (record {
        drawn = drawn_own s.deed (Some s.next.change) s.now;
        is_new = new;
        id = w.is.id;
        id_is = id_is;
        reply = s.tale.reply;
        waiting = record { change = change_of s.next.change; name = called; parent = (s.state.registers called).change; content = s.next.content };
        change_is = refl;
        name_is = refl;
        parent_is = refl;
        does = is_deemed.does;
        changed = is_deemed.changed;
        registers = refl;
        pending = refl;
        applied = refl;
      }))

  -- what goes with its data
  pub own_data : (trash gone old : List VersionId) (disks : Disks) (hands less : Hands) → s.holding.trash ≡ old → trash ≡ old ++ gone
      → MayCommitData s.deed (kept_with s.holding s.rest trash) disks hands less
      → DataStands s.site.set s.site.index before s.records s.state s.holding disks hands → OwnData owned s.site.index hands less gone
  own_data trash gone old disks hands less was added may d = record {
    ends = may_end s.put s.holding.flights s.rest w.lands;
    brings = deed_brings deemed s.deed is_deemed s.site.index disks hands w.is.id_slot may.known d;
    goes_on = subst (λ (h : Holding). GoOn hands less h) (sym (kept_gone s.holding s.rest gone old trash was added)) may.goes_on;
  }
