-- What a look says of the records that the lanes keep: what it read is theirs, and over sound lanes it finds their value, or what may become the value.
use Rattle.std.proofs.Common.{◌≡◌, ℕ, ◌<◌, ◌∙◌, List, Option, Some, None, length, map, ap, subst, sym, refl, inl, inr, arith}
use Rattle.std.specs.Prelude.{◌↔◌}
use Rattle.std.specs.Int.{IsBitSet}
use Rattle.std.specs.Option.{option_map}
use Rattle.std.proofs.lemmas.List.Elements.{Contains-get_or}
use Rattle.register_file.specs.Table.{FileIsInjective}
use Rattle.register_file.specs.declared.record.RegFile.{RegFile}
use Rattle.register_file.specs.declared.record.Base.{Base}
use Rattle.register_file.specs.declared.record.Next.{Next}
use Rattle.vote_core.specs.Calm.{IsCalm}
use Rattle.vote_core.specs.Lane.{Lane, HasNext, blank_lane, lane_at, Base as LaneBase, Next as LaneNext}
use Rattle.vote_core.specs.Laws.{CalmSettles, PendingIsFound, SettledIsTheValue, ShownByPlaces}
use Rattle.vote_core.specs.Shown.{FindsPending, Overlap, ShowLanes}
use Rattle.vote_core.specs.Sound.{HoldsValue}
use Rattle.vote_core.specs.Verdict.{VerdictRule}
use Rattle.vote_core.specs.declared.row.Row.{Row}
use Rattle.vote_core.specs.declared.verdict.Verdict.TheVariants.{Settled, Pending}
use Rattle.register_core.specs.Found.{Concludes, FindsBase, FindsNext, content_of, found_at}
use Rattle.register_core.specs.Seen.{AreSeen, FindsValueOr, IsOnItsWay, LookedSeen, RefusedSeen, UndecidedSeen}
use Rattle.register_core.specs.Records.{base_of, next_of, row_of, settled_file}
use Rattle.register_core.specs.declared.looks.Looked.{Looked}
use Rattle.register_core.proofs.FoundLemmas.{found_below}

-- the laws of the commit protocol that a look needs
pub record LookLaws : Type 0 where
  pub settled : SettledIsTheValue
  pub pending : PendingIsFound
  pub calm : CalmSettles
  pub places : ShownByPlaces
  pub files : FileIsInjective

-- a look over lanes that hold a value and are seen
pub record IsLookOver (w d last : ℕ) (found : List (Option RegFile)) (lanes : List Lane) (c : ℕ) (content : List ℕ) : Type 0 where
  pub seen : AreSeen found lanes
  pub quorums : Overlap (length lanes) w d
  pub holds : HoldsValue w last lanes c content

-- the base that was found on a lane is the lane's
base_found : (found : List (Option RegFile)) (lanes : List Lane) (k : ℕ) (base : Base) → AreSeen found lanes → k < length lanes → FindsBase found k base
    → (lane_at lanes k).base ≡ base_of base
base_found found lanes k base seen low finds =
    ap (λ (lane : Lane). lane.base) (seen.each k finds.0 low finds.1) ∙ ap base_of finds.2

same_next : (a b : LaneNext) → Some a ≡ Some b → a ≡ b
same_next a b e = cc

-- the next that was found on a lane is the lane's
next_found : (found : List (Option RegFile)) (lanes : List Lane) (k : ℕ) (next : Next) (other : LaneNext) → AreSeen found lanes → k < length lanes
    → FindsNext found k next → HasNext (lane_at lanes k) other → other ≡ next_of next
next_found found lanes k next other seen low finds has = same_next other (next_of next)
    (sym has ∙ ap (λ (lane : Lane). lane.next) (seen.each k finds.0 low finds.1) ∙ ap (option_map next_of) finds.2)

-- what a look finds
finds_value : (w d last : ℕ) (found : List (Option RegFile)) (lanes : List Lane) (c : ℕ) (content : List ℕ) (looked : Looked) (pending : Option Next)
    → LookLaws → IsLookOver w d last found lanes c content → looked.rows.items ≡ map row_of found → Concludes w d found looked.base pending
    → FindsValueOr pending looked lanes c content
finds_value w d last found lanes c content looked None laws look rows (lane, verdict, base_is) =
    let finds = laws.settled w d last c content lanes (map row_of found) lane look.quorums look.holds look.seen.rows verdict in
    let same : (lane_at lanes lane).base ≡ base_of looked.base = base_found found lanes lane looked.base look.seen finds.read.there base_is in (
      ap (λ (base : LaneBase). base.change) (sym same) ∙ finds.change_is,
      ap (λ (base : LaneBase). base.content) (sym same) ∙ finds.content_is,
      (lane_at lanes lane, Contains-get_or lanes lane blank_lane finds.read.there, same),
    )
finds_value w d last found lanes c content looked (Some next) laws look rows (base_lane, lane, k, u, verdict, base_is, next_is) =
    let finds = laws.pending w d last c content lanes (map row_of found) base_lane lane k u look.quorums look.holds look.seen.rows verdict in
    let same : finds.0 ≡ next_of next = next_found found lanes lane next finds.0 look.seen finds.1.next_read.there next_is finds.1.next_is in (
      base_lane,
      lane,
      subst (λ (rs : List Row). FindsPending rs lanes c base_lane lane (next_of next)) (sym rows)
          (subst (λ (n : LaneNext). FindsPending (map row_of found) lanes c base_lane lane n) same finds.1),
      base_found found lanes base_lane looked.base look.seen finds.1.base_read.there base_is,
    )

apart : (base_lane lane k u other : ℕ) → Pending base_lane lane k u ≡ Settled other → ⊥
apart base_lane lane k u other e = cc

-- on a calm register nothing is pending
calm_settles : (w d last : ℕ) (found : List (Option RegFile)) (lanes : List Lane) (c : ℕ) (content : List ℕ) (base : Base) (pending : Option Next)
    → LookLaws → IsLookOver w d last found lanes c content → Concludes w d found base pending → IsCalm w lanes c → pending ≡ None
calm_settles w d last found lanes c content base None laws look concludes calm = refl
calm_settles w d last found lanes c content base (Some next) laws look (base_lane, lane, k, u, verdict, base_is, next_is) calm =
    let settles = laws.calm w d last c content lanes (map row_of found) (Pending base_lane lane k u) look.quorums look.holds calm
    look.seen.rows verdict.0 verdict in
    absurd (apart base_lane lane k u settles.0 settles.1)

-- the base that is concluded was found on some lane
pub concluded_base : (w d : ℕ) (found : List (Option RegFile)) (base : Base) (pending : Option Next) → Concludes w d found base pending
    → (lane : ℕ) × FindsBase found lane base
concluded_base w d found base None (lane, verdict, finds) = (lane, finds)
concluded_base w d found base (Some next) (base_lane, lane, k, u, verdict, finds, next_is) = (base_lane, finds)

-- a lane of which a base was found, and that base
base_at : (found : List (Option RegFile)) (lanes : List Lane) (k : ℕ) (base : Base) → AreSeen found lanes → FindsBase found k base
    → (k < length lanes) × ((lane_at lanes k).base ≡ base_of base)
base_at found lanes k base seen finds =
    let below = found_below found k finds.0 finds.1 in
    let low : k < length lanes = omega (arith, seen.counted) in
    (low, base_found found lanes k base seen low finds)

-- a lane of which a next was found, and that next
next_at : (found : List (Option RegFile)) (lanes : List Lane) (k : ℕ) (next : Next) → AreSeen found lanes → FindsNext found k next
    → (k < length lanes) × HasNext (lane_at lanes k) (next_of next)
next_at found lanes k next seen finds =
    let below = found_below found k finds.0 finds.1 in
    let low : k < length lanes = omega (arith, seen.counted) in
    (low, ap (λ (lane : Lane). lane.next) (seen.each k finds.0 low finds.1) ∙ ap (option_map next_of) finds.2)

-- what is concluded to be on its way is so
on_its_way : (w d : ℕ) (found : List (Option RegFile)) (lanes : List Lane) (base : Base) (pending : Option Next) → AreSeen found lanes
    → Concludes w d found base pending → IsOnItsWay pending lanes
on_its_way w d found lanes base None seen concludes = tt
on_its_way w d found lanes base (Some next) seen (base_lane, lane, k, u, verdict, base_is, next_is) =
    let at = next_at found lanes lane next seen next_is in
    (lane_at lanes lane, Contains-get_or lanes lane blank_lane at.0, at.1)

-- what a look that could conclude says of the lanes
pub looked_seen : (w d : ℕ) (found : List (Option RegFile)) (lanes : List Lane) (looked : Looked)
    → LookLaws → AreSeen found lanes → Overlap (length lanes) w d → looked.rows.items ≡ map row_of found → Concludes w d found looked.base looked.pending
    → ((k : ℕ) → k < length found → IsBitSet looked.clean k ↔ (found_at found k ≡ Some (settled_file looked.base)))
    → LookedSeen w found looked lanes
looked_seen w d found lanes looked laws seen quorums rows concludes clean =
    let on = concluded_base w d found looked.base looked.pending concludes in
    let at = base_at found lanes on.0 looked.base seen on.1 in
    record {
      seen = seen;
      rows = subst (λ (rs : List Row). ShowLanes rs lanes) (sym rows) seen.rows;
      base = (lane_at lanes on.0, Contains-get_or lanes on.0 blank_lane at.0, at.1);
      next = on_its_way w d found lanes looked.base looked.pending seen concludes;
      clean = λ k low set. seen.each k (settled_file looked.base) low ((clean k (omega (arith, seen.counted))).0 set);
      value = λ last c content holds.
          let look : IsLookOver w d last found lanes c content = record { seen = seen; quorums = quorums; holds = holds } in
          record {
            finds = finds_value w d last found lanes c content looked looked.pending laws look rows concludes;
            calm = calm_settles w d last found lanes c content looked.base looked.pending laws look concludes;
          };
    }

-- the content that is concluded is one that a lane keeps
pub refused_seen : (w d : ℕ) (found : List (Option RegFile)) (lanes : List Lane) (base : Base) (pending : Option Next) → AreSeen found lanes
    → Concludes w d found base pending → RefusedSeen found (content_of base pending) lanes
refused_seen w d found lanes base None seen (lane, verdict, finds) =
    let at = base_at found lanes lane base seen finds in
    record {
      seen = seen;
      lane = lane_at lanes lane;
      there = Contains-get_or lanes lane blank_lane at.0;
      keeps = inl (ap (λ (b : LaneBase). b.content) at.1);
    }
refused_seen w d found lanes base (Some next) seen (base_lane, lane, k, u, verdict, finds, next_is) =
    let at = next_at found lanes lane next seen next_is in
    record {
      seen = seen;
      lane = lane_at lanes lane;
      there = Contains-get_or lanes lane blank_lane at.0;
      keeps = inr (next_of next, at.1, refl);
    }

-- what a look that found nothing decided says of the lanes
pub undecided_seen : (w d : ℕ) (found : List (Option RegFile)) (lanes : List Lane) (base_lane lane k u : ℕ) (next : Next)
    → LookLaws → AreSeen found lanes → Overlap (length lanes) w d → VerdictRule w d (map row_of found) (Pending base_lane lane k u) → FindsNext found lane next
    → UndecidedSeen w found base_lane lane next lanes
undecided_seen w d found lanes base_lane lane k u next laws seen quorums verdict finds =
    let at = next_at found lanes lane next seen finds in
    record {
      seen = seen;
      inside = at.0;
      on_its_way = at.1;
      finds = λ last c content holds.
          let pending = laws.pending w d last c content lanes (map row_of found) base_lane lane k u quorums holds seen.rows verdict in
          subst (λ (n : LaneNext). FindsPending (map row_of found) lanes c base_lane lane n)
          (same_next pending.0 (next_of next) (sym pending.1.next_is ∙ at.1)) pending.1;
      stirred = λ last c content holds calm.
          let settles = laws.calm w d last c content lanes (map row_of found) (Pending base_lane lane k u) quorums holds calm seen.rows verdict.0 verdict in
          apart base_lane lane k u settles.0 settles.1;
    }
