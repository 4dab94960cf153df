-- What a section leaves of lanes that stood for a state, once it completed what its look found pending.
use Rattle.std.proofs.Common.{◌≡◌, ◌<◌, ◌≤◌, ◌+◌, ◌*◌, ◌^◌, ◌∙◌, ℕ, false, List, [], Option, None, Some, Result, Ok, Err, length, map, ap, subst, sym, refl, inl, inr, arith}
use Rattle.std.specs.Prelude.{string_bytes}
use Rattle.std.specs.Str.{bytes_eq}
use Rattle.std.specs.Result.{IfOk}
use Rattle.std.proofs.lemmas.Bool.Decides.{nat_tests}
use Rattle.call_types.specs.Good.{is_good}
use Rattle.drive_base.specs.declared.drive.Drive.{Ghosts}
use Rattle.drive_base.specs.Plan.{write_drives}
use Rattle.drive_base.specs.declared.plan.SetPlan.{SetPlan}
use Rattle.stamp_id.specs.Rank.{change_of, rank_of}
use Rattle.stamp_id.specs.declared.stamp.Ballot.{Ballot}
use Rattle.register_file.specs.declared.record.Base.{Base}
use Rattle.register_file.specs.declared.record.Next.{Next}
use Rattle.vote_core.specs.Lane.{Lane}
use Rattle.vote_core.specs.Laws.{AboveLastIsFresh, DrawingKeeps, FreshIsCalm}
use Rattle.vote_core.specs.Loops.{Stands as StandsOn}
use Rattle.vote_core.specs.Row.{is_good as is_good_row}
use Rattle.vote_core.specs.Sound.{HoldsValue}
use Rattle.register_core.specs.Drafts.{IsDraftAfterLook, IsDraftOf}
use Rattle.register_core.specs.Found.{content_of}
use Rattle.register_core.specs.LaneMoves.{MarkMoves, MayPropose}
use Rattle.register_core.specs.LaneWrites.{KeepsDrives}
use Rattle.register_core.specs.OnLanes.{AllTell, AreLanes, AreUnused}
use Rattle.register_core.specs.Records.{again_of, base_of, marked_base, next_of}
use Rattle.register_core.specs.Seen.{FindsValueOr, LookedSeen}
use Rattle.register_core.specs.declared.drafts.Draft.{Draft}
use Rattle.register_core.specs.declared.looks.Looked.{Looked}
use Rattle.register_caller.specs.BothWrites.{BothLeave, WroteBoth}
use Rattle.register_caller.specs.WrittenLanes.{written_of}
use Rattle.register_caller.specs.Pending.{IsPending}
use Rattle.register_caller.proofs.CallingLemmas.{own_content}
use Rattle.register_caller.proofs.SettlingLemmas.{forward_seen}
use Rattle.slot_history.specs.Contents.{HasOpen}
use Rattle.slot_history.specs.Names.{key_name}
use Rattle.slot_history.specs.Standing.{Records}
use Rattle.slot_history.specs.State.{IsHeld, Register, Registers, State}
use Rattle.slot_history.proofs.MemberLemmas.{nil_none, same_or_other}
use Rattle.slot_history.proofs.NameLemmas.{key_not_part}
use Rattle.slot_data.specs.Holding.{Holding}
use Rattle.slot_data.specs.Moves.{LanesStand}
use Rattle.slot_data.specs.Standing.{DataStands}
use Rattle.slot_rules.specs.Owning.{base_after}
use Rattle.slot_rules.specs.Rules.{IsRegisterName}
use Rattle.slot_rules.specs.declared.ready.Ready.{Ready}
use Rattle.slot_rules.specs.declared.site.Drawn.{Drawn}
use Rattle.slot_rules.specs.declared.site.Site.{Site}
use Rattle.slot_core.specs.Calm.{IsCalmUnder}
use Rattle.slot_core.specs.Settlement.{FirstIs, IsReady, Settled, SettledOn, numbers_at}
use Rattle.slot_core.specs.Standing.{LanesHave, SlotStands}
use Rattle.slot_core.specs.Views.{SlotNumbers, last_of}
use Rattle.slot_core.proofs.AgainLemmas.{Forwarded, WroteAgain, forwarded}
use Rattle.slot_core.proofs.CalmingLemmas.{all_stays, wrote_stays}
use Rattle.slot_core.proofs.LaneLemmas.{have_after_look, have_after_write, lanes_stay, with_lanes, with_lanes_writes}
use Rattle.slot_core.proofs.OwnAgainLemmas.{Write}
use Rattle.slot_core.specs.LanesStay.{FilesStay, TellsStay}

-- the name of a bucket's or a key's register is held
pub name_held : (registers : Registers) (name : List ℕ) → IsRegisterName name → IsHeld registers name
name_held registers name named = elim named [
  | inl bucket ↦ inl bucket
  | inr key ↦ inr (inl key)
]

-- a name that is held stays so where no other register changes
pub held_after : (old new : Registers) (name : List ℕ) → IsHeld old name → ((other : List ℕ) → bytes_eq name other ≡ false → new other ≡ old other) → IsHeld new name
held_after old new name held stays = elim held [
  | inl bucket ↦ inl bucket
  | inr other ↦ elim other [
    | inl key ↦ inr (inl key)
    | inr p ↦ elim (same_or_other name (key_name p.at)) [
      | inl same ↦ absurd (key_not_part p.at p.at p.upload p.number (sym same ∙ p.name_is))
      | inr differs ↦ inr (inr (record {
        at = p.at;
        upload = p.upload;
        number = p.number;
        name_is = p.name_is;
        opened = subst (λ (r : Register). HasOpen r.content p.upload) (sym (stays (key_name p.at) differs)) p.opened;
      }))
    ]
  ]
]

-- what is drafted is what was found pending
pub first_found : (looked : Looked) (pending : Option Next) (ballot : Ballot) (first : Option Draft) (draft : Draft) → FirstIs looked pending ballot first
    → first ≡ Some draft → (found : Next) × (pending ≡ Some found) × IsDraftAfterLook looked (again_of looked.base ballot found) draft
first_found looked None ballot first draft is some = absurd (let none : None ≡ Some draft = sym is ∙ some in cc)
first_found looked (Some found) ballot first draft is some =
    let same : is.0 ≡ draft = (let both : Some is.0 ≡ Some draft = sym is.1 ∙ some in cc) in
    (found, refl, subst (λ (d : Draft). IsDraftAfterLook looked (again_of looked.base ballot found) d) same is.2)

-- where nothing is drafted nothing was pending
pub first_none : (looked : Looked) (pending : Option Next) (ballot : Ballot) (first : Option Draft) → FirstIs looked pending ballot first → first ≡ None → pending ≡ None
first_none looked None ballot first is none = refl
first_none looked (Some found) ballot first is none = absurd (let some : None ≡ Some is.0 = sym none ∙ is.1 in cc)

-- a set's write quorum is some of its drives
pub quorum_some : (set : SetPlan) → 1 ≤ write_drives set.drives set.parity
quorum_some set = grind (arith, nat_tests, set.some_parity, set.half_at_most)

pub quorum_enough : (set : SetPlan) → write_drives set.drives set.parity ≤ set.drives
quorum_enough set = grind (arith, nat_tests, set.some_parity, set.half_at_most)

-- the content that a look found, by what is pending
content_settled : (looked : Looked) (pending : Option Next) → pending ≡ None → content_of looked.base pending ≡ looked.base.content
content_settled looked None is = refl
content_settled looked (Some found) is = absurd cc

content_pending : (looked : Looked) (pending : Option Next) (found : Next) → pending ≡ Some found → content_of looked.base pending ≡ found.content
content_pending looked pending found is = ap (λ (p : Option Next). content_of looked.base p) is

finds_settled : (looked : Looked) (pending : Option Next) (lanes : List Lane) (c : ℕ) (content : List ℕ) → pending ≡ None → FindsValueOr pending looked lanes c content
    → (change_of looked.base.change ≡ c) × (looked.base.content ≡ content) × StandsOn lanes (base_of looked.base)
finds_settled looked None lanes c content is finds = finds
finds_settled looked (Some found) lanes c content is finds = absurd cc

-- the base is that of what was marked
base_drafted : (base : Base) (first : Option Draft) (draft : Draft) → first ≡ Some draft → base_after base first ≡ draft.value
base_drafted base first draft is = ap (λ (f : Option Draft). base_after base f) is

base_settled : (base : Base) (first : Option Draft) → first ≡ None → base_after base first ≡ base
base_settled base first is = ap (λ (f : Option Draft). base_after base f) is

-- a register by its parts
register_of : (r : Register) (c : ℕ) (bytes : List ℕ) → c ≡ r.change → bytes ≡ r.content → r ≡ record { change = c; content = bytes }
register_of r c bytes change content = λ i. record { change = sym change i; content = sym content i }

-- what is pending isn't on calm lanes
pending_not_calm : {Calm : Type 0} (looked : Looked) (found : Next) → looked.pending ≡ Some found → (Calm → looked.pending ≡ None) → Calm → ⊥
pending_not_calm looked found is none calm = absurd (let both : None ≡ Some found = sym (none calm) ∙ is in cc)

-- what is known after a forward that was marked
marked_known : {T E : Type 0} (result : Result T E) (name : List ℕ) (draft : Draft) (again : Next) (content : List ℕ) (w last c now : ℕ) (value shows : List ℕ)
    (records : Records) (state : State) → IsHeld state.registers name
    → state.registers name ≡ record { change = now; content = shows } → draft.value ≡ marked_base again → again.content ≡ content
    → IfOk result (λ done. (now ≡ change_of again.change) × (shows ≡ again.content))
    → MarkMoves result w last c value (next_of again) (records name)
    → IfOk result (λ done. SettledOn name draft.value content (Some draft.value.change) records state)
marked_known (Err fault) name draft again content w last c now value shows records state held is base same marked moves = tt
marked_known (Ok done) name draft again content w last c now value shows records state held is base same marked moves =
    let change : change_of draft.value.change ≡ now = ap (λ (b : Base). change_of b.change) base ∙ sym marked.0 in
    let bytes : content ≡ shows = sym same ∙ sym marked.1 in
    record {
      held = held;
      register_is = is ∙ (λ i. record { change = sym change i; content = sym bytes i });
      content_is = ap (λ (b : Base). b.content) base ∙ same;
      stands_on = subst (λ (b : Base). StandsOn (records name) (base_of b)) (sym base) moves.stands;
      is_last = ap (λ (r : Register). r.change) is ∙ sym change;
    }

module _ {D : Type 0} (ghosts : Ghosts D) where
  -- lanes that were only looked at
  pub looked_settled : (numbers : SlotNumbers) (holding : Holding) (Known : Records → State → Type 0) (old new : List D) (records : Records) (state : State)
      → length new ≡ length old → FilesStay ghosts old new → TellsStay ghosts old new → Known records state
      → SlotStands ghosts.tells ghosts.files numbers holding.flights old records state → Settled ghosts.tells ghosts.files numbers numbers holding Known new records state
  looked_settled numbers holding Known old new records state long stay tells_stay known s = record {
    after = records;
    now = state;
    stands = record { have = have_after_look ghosts numbers old new records long stay tells_stay s.have; stands = s.stands };
    stay = λ name k is_out. refl;
    lates = [];
    late_steps = refl;
    carried = λ p there. absurd (nil_none p there);
    rests = λ q way. way;
    calm = λ name calm. all_stays records state name;
    known = known;
    goes_on = λ disks hands d. d;
  }

  -- nothing was pending
  pub settled_none : (site : Site) (drawn : Drawn) (name : List ℕ) (rule : List ℕ → Option ℕ) (longest : ℕ) (ready : Ready) (old mid disks disks_after : List D)
      (holding : Holding) (records : Records) (state : State)
      → IsReady ghosts site drawn name rule longest ready old mid disks disks_after → length mid ≡ length old → FilesStay ghosts old mid
      → TellsStay ghosts old mid → IsHeld state.registers name → SlotStands ghosts.tells ghosts.files (numbers_at site drawn) holding.flights old records state → ready.first ≡ None
      → Settled ghosts.tells ghosts.files (numbers_at site drawn) (numbers_at site drawn) holding
      (SettledOn name (base_after ready.looked.base ready.first) (content_of ready.looked.base ready.looked.pending) None) mid records state
  settled_none site drawn name rule longest ready old mid disks disks_after holding records state is long stay tells_stay held s none =
      let looked : Looked = ready.looked in
      let pending : looked.pending ≡ None = first_none looked looked.pending is.ballot ready.first is.first none in
      let r : Register = state.registers name in
      let holds = (s.stands.under name held).holds in
      let seen = is.looks.seen (records name) s.have.tell (s.have.honest name) (s.have.are name) in
      let finds = finds_settled looked looked.pending (records name) r.change r.content pending
      (seen.value (last_of (numbers_at site drawn)) r.change r.content holds).finds in
      let content : content_of looked.base looked.pending ≡ looked.base.content = content_settled looked looked.pending pending in
      let base : base_after looked.base ready.first ≡ looked.base = base_settled looked.base ready.first none in
      looked_settled (numbers_at site drawn) holding
      (SettledOn name (base_after looked.base ready.first) (content_of looked.base looked.pending) None) old mid records state long stay tells_stay
      (record {
        held = held;
        register_is = register_of r (change_of (base_after looked.base ready.first).change) (content_of looked.base looked.pending)
            (ap (λ (b : Base). change_of b.change) base ∙ finds.0) (content ∙ finds.1);
        content_is = ap (λ (b : Base). b.content) base ∙ sym content;
        stands_on = subst (λ (b : Base). StandsOn (records name) (base_of b)) (sym base) finds.2;
        is_last = tt;
      }) s

  -- what was pending was written again
  pub settled_wrote : {T E : Type 0} → DrawingKeeps → FreshIsCalm → AboveLastIsFresh → (site : Site) (drawn later : Drawn) (name : List ℕ) (rule : List ℕ → Option ℕ)
      (longest : ℕ) (ready : Ready) (draft : Draft) (result : Result T E) (old mid new disks disks_after : List D) (holding : Holding) (records : Records) (state : State)
      → IsReady ghosts site drawn name rule longest ready old mid disks disks_after → length mid ≡ length old → length new ≡ length mid
      → FilesStay ghosts old mid → TellsStay ghosts old mid → IsHeld state.registers name
      → SlotStands ghosts.tells ghosts.files (numbers_at site drawn) holding.flights old records state → ready.first ≡ Some draft → later.seq ≡ drawn.seq + 1
      → ((base : Base) (next : Next) (recorded : List Lane) → IsDraftOf draft base next → AllTell ghosts.tells site.set.out mid
      → AreUnused ghosts.files site.set.out site.term drawn.count mid → AreLanes ghosts.files site.set.out (string_bytes draft.name) mid recorded
      → WroteBoth ghosts {T = T} {E = E} draft site.set.out site.term later.count base next result new recorded)
      → (AllTell ghosts.tells site.set.out mid → AreUnused ghosts.files site.set.out site.term drawn.count mid
      → KeepsDrives ghosts site.set.out (string_bytes draft.name) site.term drawn.count later.count mid new)
      → Settled ghosts.tells ghosts.files (numbers_at site drawn) (numbers_at site later) holding
      (λ after now. IfOk result (λ done. SettledOn name (base_after ready.looked.base ready.first) (content_of ready.looked.base ready.looked.pending)
      (Some draft.value.change) after now)) new records state
  settled_wrote {T} {E} drawing fresh above site drawn later name rule longest ready draft result old mid new disks disks_after holding records state
      is long longer stay tells_stay held s some seq wrote_of keeps_of =
      let looked : Looked = ready.looked in
      let set : SetPlan = site.set in
      let out : ℕ = set.out in
      let w : ℕ = write_drives set.drives set.parity in
      let numbers : SlotNumbers = numbers_at site drawn in
      let last : ℕ = last_of numbers in
      let found = first_found looked looked.pending is.ballot ready.first draft is.first some in
      let pending : Next = found.0 in
      let drafted = found.2 in
      let again : Next = again_of looked.base is.ballot pending in
      let r : Register = state.registers name in
      let lanes : List Lane = records name in
      let holds : HoldsValue w last lanes r.change r.content = (s.stands.under name held).holds in
      let have : LanesHave ghosts.tells ghosts.files numbers mid records = have_after_look ghosts numbers old mid records long stay tells_stay s.have in
      let plan : looked.set ≡ set = is.looks.plan in
      let name_is : string_bytes draft.name ≡ name = drafted.name ∙ is.looks.named in
      let low : last < rank_of is.ballot = (let t = is.term in let q = is.seq in
      subst (λ (n : ℕ). site.term * 2 ^ 64 + drawn.seq < n * 2 ^ 64 + is.ballot.seq) (sym t) (omega arith)) in
      let rank : rank_of is.ballot ≡ last_of (numbers_at site later) =
      ap (λ (n : ℕ). n * 2 ^ 64 + is.ballot.seq) is.term ∙ ap (λ (n : ℕ). site.term * 2 ^ 64 + n) (is.seq ∙ sym seq) in
      let seen : LookedSeen (write_drives looked.set.drives looked.set.parity) is.looks.found looked lanes =
      subst (λ (p : SetPlan). LookedSeen (write_drives p.drives p.parity) is.looks.found looked lanes) (sym plan)
      (is.looks.seen lanes s.have.tell (s.have.honest name) (s.have.are name)) in
      let holds_looked : HoldsValue (write_drives looked.set.drives looked.set.parity) last lanes r.change r.content =
      subst (λ (p : SetPlan). HoldsValue (write_drives p.drives p.parity) last lanes r.change r.content) (sym plan) holds in
      let wrote = wrote_of looked.base again lanes drafted.«of» have.tell have.unused
      (subst (λ (n : List ℕ). AreLanes ghosts.files out n mid lanes) (sym name_is) (have.are name)) in
      let on : map is_good looked.whys ≡ map is_good_row looked.rows.items = is.looks.read.on ∙ ap (map is_good_row) (sym is.looks.rows) in
      let known = forward_seen ghosts {T = T} {E = E} above out site.term later.count looked pending is.ballot draft result new is.looks.found lanes last
      r.change r.content found.1 drafted on seen holds_looked low wrote in
      let both : BothLeave {T = T} {E = E} w draft.letters (base_of looked.base) (next_of again) result lanes wrote.after =
      subst (λ (p : SetPlan). BothLeave {T = T} {E = E} (write_drives p.drives p.parity) draft.letters (base_of looked.base) (next_of again) result lanes wrote.after) plan known.0 in
      let may : MayPropose w last (rank_of is.ballot) lanes r.change r.content draft.letters (base_of looked.base) (next_of again) =
      subst (λ (p : SetPlan). MayPropose (write_drives p.drives p.parity) last (rank_of is.ballot) lanes r.change r.content draft.letters (base_of looked.base) (next_of again)) plan known.1 in
      let waits : IsPending lanes r.change (next_of pending) = known.3 in
      let left = both.leaving last (rank_of is.ballot) r.change r.content may in
      let writes = with_lanes_writes name wrote.after records in
      let write : Write = record {
        set = set;
        last = last;
        later = rank_of is.ballot;
        holding = holding;
        old = records;
        new = with_lanes name wrote.after records;
        state = state;
        name = name;
        x = written_of (next_of again);
        after = wrote.after;
        now = left.now;
        shows = left.shows;
      } in
      let again_wrote : WroteAgain write = record {
        some = quorum_some set;
        enough = quorum_enough set;
        up = omega arith;
        stands = s.stands;
        held = held;
        found = next_of pending;
        pending = waits;
        x_is = refl;
        own_content = own_content w last r.change r.content lanes waits.lane (next_of pending) holds waits.there waits.has;
        left = left.leaves;
        writes = writes;
      } in
      let f : Forwarded write = forwarded drawing fresh write again_wrote in
      let base : base_after looked.base ready.first ≡ draft.value = base_drafted looked.base ready.first draft some in
      record {
        after = with_lanes name wrote.after records;
        now = f.moved;
        stands = record {
          have = have_after_write ghosts numbers later.seq later.count name mid new records wrote.after longer have wrote.tell wrote.unused
              (subst (λ (n : List ℕ). AreLanes ghosts.files out n new wrote.after) name_is wrote.are)
              (subst (λ (n : List ℕ). KeepsDrives ghosts out n site.term drawn.count later.count mid new) name_is (keeps_of have.tell have.unused));
          stands = subst (λ (n : ℕ). LanesStand set n holding (with_lanes name wrote.after records) f.moved) rank f.stands;
        };
        stay = lanes_stay out name wrote.after records wrote.stay;
        lates = f.lates;
        late_steps = f.late_steps;
        carried = f.carried;
        rests = f.rests;
        calm = λ other calm. wrote_stays name wrote.after records state f.moved other f.others
            (λ same. pending_not_calm looked pending found.1 ((is.looks.seen lanes s.have.tell (s.have.honest name) (s.have.are name)).value last r.change r.content holds).calm
            (subst (λ (n : List ℕ). IsCalmUnder w records state n) (sym same) calm));
        known = subst (λ (b : Base). IfOk result (λ done. SettledOn name b (content_of looked.base looked.pending) (Some draft.value.change)
            (with_lanes name wrote.after records) f.moved)) (sym base)
            (marked_known {T = T} {E = E} result name draft again (content_of looked.base looked.pending) w (rank_of is.ballot) r.change left.now r.content left.shows
            (with_lanes name wrote.after records) f.moved (held_after state.registers f.moved.registers name held f.others) f.register_is drafted.«of».ends.value (sym (content_pending looked looked.pending pending found.1)) left.marked
            (subst (λ (l : List Lane). MarkMoves result w (rank_of is.ballot) r.change r.content (next_of again) l) (sym writes.is)
            (both.value last (rank_of is.ballot) r.change r.content may)));
        goes_on = λ disks hands d. subst (λ (n : ℕ). DataStands set site.index n (with_lanes name wrote.after records) f.moved holding disks hands) rank
            (f.goes_on site.index disks hands d);
      }
