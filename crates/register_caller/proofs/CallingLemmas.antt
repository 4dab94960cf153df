-- What a caller of the register concludes: lanes that a look left, and the premises of a forward.
use Rattle.std.proofs.Common.{◌≡◌, ◌<◌, ◌≤◌, ◌+◌, ◌∙◌, ℕ, List, Option, Some, length, map, ap, subst, sym, refl, inl, inr, arith}
use Rattle.std.specs.Prelude.{Bool, IsTrue, Contains, slice_index_or, Result, Ok, Err}
use Rattle.std.proofs.lemmas.List.Elements.{Contains-get_or}
use Rattle.call_types.specs.Good.{is_good}
use Rattle.call_types.specs.declared.why.Why.{Why}
use Rattle.drive_base.specs.declared.drive.Drive.{Ghosts}
use Rattle.drive_base.specs.Files.{Files}
use Rattle.register_file.specs.declared.record.Next.{Next}
use Rattle.stamp_id.specs.Rank.{rank_of}
use Rattle.stamp_id.specs.declared.stamp.Ballot.{Ballot}
use Rattle.vote_core.specs.Row.{is_good as is_good_row}
use Rattle.vote_core.specs.Lane.{Lane, HasNext, blank_lane, lane_at, Next as LaneNext}
use Rattle.vote_core.specs.Laws.{AboveLastIsFresh}
use Rattle.vote_core.specs.Sound.{HoldsValue}
use Rattle.register_caller.specs.BothWrites.{StaysOrSteps}
use Rattle.register_core.specs.LaneMoves.{MayPropose}
use Rattle.register_core.specs.Loose.{loose_name}
use Rattle.register_core.specs.OnLanes.{AllTell, AreLanes, AreUnused}
use Rattle.register_core.specs.Proposals.{Marks, Proposes}
use Rattle.register_core.specs.Records.{HasLane, again_of, base_of, next_of}
use Rattle.register_core.specs.Seen.{FindsValueOr}
use Rattle.register_core.specs.declared.drafts.Draft.{Draft}
use Rattle.register_core.specs.declared.faults.QuorumFault.{QuorumFault}
use Rattle.register_core.specs.declared.faults.QuorumFault.TheVariants.{ReadQuorum, WriteQuorum, Undecided, NoMemory}
use Rattle.register_core.specs.declared.looks.Looked.{Looked}
use Rattle.register_core.specs.declared.proposals.Prepared.{Prepared}

module _ {D : Type 0} (tells : D → Bool) (files : D → Files) where
  -- drives that tell as before
  pub tell_after : (out : ℕ) (old new : List D) → length new ≡ length old
      → ((k : ℕ) (d : D) → k < length old → tells (slice_index_or new k d) ≡ tells (slice_index_or old k d)) → AllTell tells out old → AllTell tells out new
  tell_after out old new long stay told k d below in_use = subst IsTrue (sym (stay k d (omega arith))) (told k d (omega arith) in_use)

  -- drives whose files stay keep the same records
  pub lanes_after_look : (out : ℕ) (name : List ℕ) (old new : List D) (lanes : List Lane) → length new ≡ length old
      → ((k : ℕ) (d : D) → k < length old → IsTrue (tells (slice_index_or old k d)) → files (slice_index_or new k d) ≡ files (slice_index_or old k d))
      → AllTell tells out old → AreLanes files out name old lanes → AreLanes files out name new lanes
  lanes_after_look out name old new lanes long stay told are = record {
    counted = are.counted ∙ sym long;
    each = λ k d below in_use. let low : k < length old = omega arith in
        subst (λ (f : Files). HasLane (f.kept name) (lane_at lanes k)) (sym (stay k d low (told k d low in_use))) (are.each k d low in_use);
  }

  -- and have no more loose files
  pub unused_after_look : (out term number : ℕ) (old new : List D) → length new ≡ length old
      → ((k : ℕ) (d : D) → k < length old → IsTrue (tells (slice_index_or old k d)) → files (slice_index_or new k d) ≡ files (slice_index_or old k d))
      → AllTell tells out old → AreUnused files out term number old → AreUnused files out term number new
  unused_after_look out term number old new long stay told unused k d later below in_use from fits =
      let low : k < length old = omega arith in
      ap (λ (f : Files). f.loose (loose_name term later)) (stay k d low (told k d low in_use)) ∙ unused k d later low in_use from fits

module _ {D : Type 0} (ghosts : Ghosts D) where
  -- a proposal uses up at most one number for each lane
  pub propose_few : (draft : Draft) (out term from to : ℕ) (result : Result Prepared QuorumFault) (old new : List D)
      → Proposes ghosts draft out term from to result old new → to ≤ from + length old
  propose_few draft out term from to (Ok took) old new is = is.2.few
  propose_few draft out term from to (Err (ReadQuorum whys)) old new is = absurd is
  propose_few draft out term from to (Err (WriteQuorum whys)) old new is = elim is [
    | inl unbegun ↦ let used = unbegun.none_used in omega arith
    | inr refused ↦ refused.2.few
  ]
  propose_few draft out term from to (Err (Undecided k u whys)) old new is = absurd is
  propose_few draft out term from to (Err NoMemory) old new is = absurd is

  -- and so does a mark
  pub mark_few : (draft : Draft) (took : Prepared) (term from to : ℕ) (result : Result (List Why) QuorumFault) (later : Draft) (old new : List D)
      → Marks ghosts draft took term from to result later old new → to ≤ from + length old
  mark_few draft took term from to (Ok whys) later old new is = is.2.few
  mark_few draft took term from to (Err (ReadQuorum whys)) later old new is = absurd is
  mark_few draft took term from to (Err (WriteQuorum whys)) later old new is = is.2.few
  mark_few draft took term from to (Err (Undecided k u whys)) later old new is = absurd is
  mark_few draft took term from to (Err NoMemory) later old new is = absurd is

-- what a pending look found
pub pending_found : (looked : Looked) (pending : Option Next) (found : Next) (lanes : List Lane) (c : ℕ) (content : List ℕ) → pending ≡ Some found
    → FindsValueOr pending looked lanes c content → FindsValueOr (Some found) looked lanes c content
pending_found looked pending found lanes c content is finds = subst (λ (p : Option Next). FindsValueOr p looked lanes c content) is finds

-- a pending change may be proposed again, under a ballot above the last one drawn
pub may_forward : AboveLastIsFresh → (w last c : ℕ) (content : List ℕ) (lanes : List Lane) (looked : Looked) (found : Next) (ballot : Ballot) (letters : List Why)
    → HoldsValue w last lanes c content → last < rank_of ballot → FindsValueOr (Some found) looked lanes c content
    → map is_good letters ≡ map is_good_row looked.rows.items
    → MayPropose w last (rank_of ballot) lanes c content letters (base_of looked.base) (next_of (again_of looked.base ballot found))
may_forward above w last c content lanes looked found ballot letters holds low (base_lane, lane, finds, base_is) on = record {
  rises = omega arith;
  holds = holds;
  may = inr (record {
    rows = looked.rows.items;
    base_lane = base_lane;
    lane = lane;
    found = next_of found;
    finds = finds;
    base_is = base_is;
    again = record {
      parent = refl;
      change = refl;
      content = refl;
      adds = refl;
      above = (above last (rank_of ballot) (rank_of ballot) lanes holds.sound.drawn low (omega arith)).0;
    };
    on = on;
  });
}

-- a next of the value's own change has the value's content
pub own_content : (w last c : ℕ) (content : List ℕ) (lanes : List Lane) (lane : Lane) (next : LaneNext) → HoldsValue w last lanes c content
    → Contains lanes lane → HasNext lane next → next.change ≡ c → next.content ≡ content
own_content w last c content lanes lane next holds there is same =
    let top = holds.sound.value in
    holds.sound.agree.contents lane top.lane c next.content top.lane.base.content there top.top.there (inr (next, is, same, refl)) (inl (top.carries, refl))
    ∙ holds.contents top.lane top.top.there top.carries

-- where what was found becomes the value, that is as it was, or a late step was made
pub found_steps : (w last c : ℕ) (content : List ℕ) (lanes : List Lane) (looked : Looked) (found : Next) (ballot : Ballot) → HoldsValue w last lanes c content
    → FindsValueOr (Some found) looked lanes c content
    → StaysOrSteps lanes c content (next_of (again_of looked.base ballot found)).change (next_of (again_of looked.base ballot found)).content
found_steps w last c content lanes looked found ballot holds (base_lane, lane, finds, base_is) =
    let there : Contains lanes (lane_at lanes lane) = Contains-get_or lanes lane blank_lane finds.next_read.there in
    elim finds.found [
      | inl own ↦ inl (own.same, own_content w last c content lanes (lane_at lanes lane) (next_of found) holds there finds.next_is own.same)
      | inr other ↦ inr (record {
        lane = lane_at lanes lane;
        there = there;
        next = next_of found;
        on_its_way = finds.next_is;
        live = other.live;
        change_is = refl;
        content_is = refl;
      })
    ]
