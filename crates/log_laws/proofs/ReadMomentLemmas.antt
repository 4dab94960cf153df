-- The steps of a log in which a section of a read found data: before each the slot names the data or comes to, and drives keep the data's files.
use Rattle.std.proofs.Common.{◌≡◌, ◌∙◌, ◌<◌, ℕ, zero, suc, List, [], ◌∷◌, ◌++◌, Contains, ap, append_assoc, inl, refl, subst, sym, arith}
use Rattle.std.specs.Prelude.{All}
use Rattle.desk_base.specs.Telling.{Effect}
use Rattle.drive_base.specs.Calls.{MadeCall}
use Rattle.drive_base.specs.View.{DriveView}
use Rattle.drive_base.specs.declared.drive.Drive.{Ghosts}
use Rattle.drive_base.specs.declared.plan.SetPlan.{SetPlan}
use Rattle.manifest_file.specs.Canonical.{IsCanonical}
use Rattle.manifest_file.specs.Spelling.{file_of}
use Rattle.manifest_file.specs.declared.manifest.Manifest.{Manifest}
use Rattle.slot_history.specs.Contents.{NamedData}
use Rattle.slot_history.specs.Standing.{Stands}
use Rattle.slot_core.specs.Views.{last_of, quorum_of}
use Rattle.slot_data.specs.Disks.{Disks}
use Rattle.receipts.specs.Events.{Event, Log}
use Rattle.receipts.specs.Events.Event.{Called}
use Rattle.op_steps.specs.Claims.{Claim}
use Rattle.op_steps.specs.Leading.{Standing}
use Rattle.log_laws.specs.Reads.{CallServes, CallsServe, IsStill, LeavesSlot}
use Rattle.log_laws.specs.Refusing.{TookPlace}
use Rattle.op_steps.specs.Steps.{IsBarred, Ran, StepMoves, Turns}
use Rattle.op_steps.specs.Store.{Store}
use Rattle.log_laws.proofs.ReadBackLemmas.{Names, names_back, still_same}
use Rattle.log_laws.proofs.ReadFilesLemmas.{HoldsData, KeepsFiles, KeepsManifest, keeps_then}
use Rattle.log_laws.proofs.ReadFilesLemmas.{step_keeps}
use Rattle.log_laws.proofs.ReadStayLemmas.{Holds, SlotMoves, step_on}
use Rattle.op_steps.proofs.RunLemmas.{ran_join}
use Rattle.op_steps.proofs.SlotLemmas.{order_set}
use Rattle.log_laws.proofs.PlaceLemmas.{slot_at}

module _ {D T : Type 0} (ghosts : Ghosts D) (takes breaks : Effect T) (set : SetPlan) where
  -- a log of two parts, with the store between them
  pub record Parted (disks : ℕ) (first second : Log) (old new : Store D T) : Type 0 where
    pub mid : Store D T
    pub led : Ran ghosts takes breaks set first old mid
    pub leads_on : Ran ghosts takes breaks set second mid new
    pub serve : CallsServe ghosts takes breaks set disks first old mid led
    pub serve_on : CallsServe ghosts takes breaks set disks second mid new leads_on

  pub part_at : (disks : ℕ) (first second : Log) (old new : Store D T) (ran : Ran ghosts takes breaks set (first ++ second) old new)
      → CallsServe ghosts takes breaks set disks (first ++ second) old new ran → Parted disks first second old new
  part_at disks [] second old new ran serve = record { mid = old; led = refl; leads_on = ran; serve = tt; serve_on = serve }
  part_at disks (event ∷ first) second old new (next, step, ran) serve =
      let x = part_at disks first second next new ran serve.1 in
      record { mid = x.mid; led = (next, step, x.led); leads_on = x.leads_on; serve = (serve.0, x.serve); serve_on = x.serve_on }

  -- what took place in a part of a log took place in the log
  abbrev pub in_whole : (log before part after : Log) (old from to new : Store D T) (event : Event) → log ≡ before ++ (part ++ after)
      → Ran ghosts takes breaks set before old from → Ran ghosts takes breaks set after to new → TookPlace ghosts takes breaks set part from to event
      → TookPlace ghosts takes breaks set log old new event
  in_whole log before part after old from to new event is led leads_on x = record {
    front = before ++ x.front;
    rest = x.rest ++ after;
    parts = is ∙ (ap (λ (l : Log). before ++ (l ++ after)) x.parts
        ∙ (ap (λ (l : Log). before ++ l) (append_assoc x.front (event ∷ x.rest) after) ∙ sym (append_assoc before x.front (event ∷ (x.rest ++ after)))));
    before = x.before;
    after = x.after;
    led = ran_join (Turns ghosts) IsBarred takes breaks set before x.front old from x.before led x.led;
    step = x.step;
    leads_on = ran_join (Turns ghosts) IsBarred takes breaks set x.rest after x.after to new x.leads_on leads_on;
  }

  module _ (unseen : Disks) (front rest : List Claim) (slot : ℕ) (small : slot < 64) (name : List ℕ) (named : NamedData) where
    -- the register of a slot names the data, or comes to, before each step of a log
    abbrev pub Along : (log : Log) (old new : Store D T) → Ran ghosts takes breaks set log old new → Type 0
    Along [] old new ran = Unit {0}
    Along (event ∷ log) old new (mid, step, ran) = HoldsData ghosts takes breaks set unseen front rest slot small name named old × Along log mid new ran

    -- so it is behind a section that left it so, while none of its slot writes an entry
    pub along_still : (log : Log) (old new : Store D T) (ran : Ran ghosts takes breaks set log old new) → All (IsStill slot) log
        → HoldsData ghosts takes breaks set unseen front rest slot small name named old → Along log old new ran
    along_still [] old new ran still x = tt
    along_still (event ∷ log) old new (mid, step, ran) still x =
        let stepped = step_on ghosts takes breaks set unseen front rest slot event old mid step x.holds in
        let same = still_same slot event (x.holds.at slot) (stepped.next.at slot) (still 0 event (omega arith)) stepped.moves in (
          x,
          along_still log mid new ran (λ i d low. still (suc i) d (omega (arith, low)))
              (record { holds = stepped.next; names = subst (λ (s : Standing). Names name named s) (sym same) x.names }),
        )

    -- and it was so before it, while none of its slot changes anything
    step_back : (event : Event) (old mid : Store D T) (step : StepMoves ghosts takes breaks set event old mid) (x : Holds ghosts takes breaks set unseen front rest old)
        (y : Holds ghosts takes breaks set unseen front rest mid) → LeavesSlot slot event → SlotMoves slot event (x.at slot) (y.at slot)
        → Names name named (y.at slot) → Names name named (x.at slot)
    step_back event old mid step x y leaves moves names =
        let first = slot_at old.slots slot (let count = x.order.count in omega (arith, count, small)) in
        let last = slot_at mid.slots slot (let count = y.order.count in omega (arith, count, small)) in
        let before = x.held slot first.0 first.1 in
        let after = y.held slot last.0 last.1 in
        let same : last.0.numbers.set.drives ≡ first.0.numbers.set.drives = ap (λ (s : SetPlan). s.drives)
        (order_set set mid.slots mid.disks slot last.0 y.order last.1 ∙ sym (order_set set old.slots old.disks slot first.0 x.order first.1)) in
        names_back first.0.numbers.set.drives (quorum_of first.0.numbers) (last_of first.0.numbers) (quorum_of last.0.numbers) (last_of last.0.numbers)
        first.0.holding.flights last.0.holding.flights slot name named (x.at slot) (y.at slot) before.stands.stands
        (subst (λ (n : ℕ). Stands (quorum_of last.0.numbers) n (last_of last.0.numbers) last.0.holding.flights (y.at slot).records (y.at slot).state) same
        after.stands.stands) event leaves moves names

    -- what follows of a log from its last part
    pub along_back : (before part : Log) (old new : Store D T) (ran : Ran ghosts takes breaks set (before ++ part) old new) → All (LeavesSlot slot) before
        → (x : Holds ghosts takes breaks set unseen front rest old)
        → ((mid : Store D T) (last : Ran ghosts takes breaks set part mid new) (y : Holds ghosts takes breaks set unseen front rest mid)
        → Names name named (y.at slot) × Along part mid new last)
        → Names name named (x.at slot) × Along (before ++ part) old new ran
    along_back [] part old new ran leaves x last = last old ran x
    along_back (event ∷ before) part old new (mid, step, ran) leaves x last =
        let stepped = step_on ghosts takes breaks set unseen front rest slot event old mid step x in
        let later = along_back before part mid new ran (λ i d low. leaves (suc i) d (omega (arith, low))) stepped.next last in
        let names = step_back event old mid step x stepped.next (leaves 0 event (omega arith)) stepped.moves later.0 in
        (names, (record { holds = x; names = names }, later.1))

    -- at its section
    pub along_section : (event : Event) (after : Log) (old new : Store D T) (ran : Ran ghosts takes breaks set (event ∷ after) old new)
        (x : Holds ghosts takes breaks set unseen front rest old) → LeavesSlot slot event → All (IsStill slot) after
        → ((to : Standing) → SlotMoves slot event (x.at slot) to → Names name named to) → Names name named (x.at slot) × Along (event ∷ after) old new ran
    along_section event after old new (mid, step, ran) x leaves still found =
        let stepped = step_on ghosts takes breaks set unseen front rest slot event old mid step x in
        let left = found (stepped.next.at slot) stepped.moves in
        let names = step_back event old mid step x stepped.next leaves stepped.moves left in
        (names, (record { holds = x; names = names }, along_still after mid new ran still (record { holds = stepped.next; names = left })))

    module _ (m : Manifest) (canonical : IsCanonical m) (disks : ℕ) (first : List DriveView) (some : KeepsManifest set named.id m first) where
      -- a call of a data drive at its moment
      pub record ReadMoment (log : Log) (old new : Store D T) (k : ℕ) (made : MadeCall) : Type 0 where
        pub x : TookPlace ghosts takes breaks set log old new (Called k made)
        pub holds : HoldsData ghosts takes breaks set unseen front rest slot small name named x.before
        pub keeps : KeepsFiles set named.id m first x.before.disks
        pub serves : CallServes set disks (Called k made) x.before.disks x.after.disks

      pub read_moment : (log : Log) (old new : Store D T) (ran : Ran ghosts takes breaks set log old new) → CallsServe ghosts takes breaks set disks log old new ran
          → Along log old new ran → KeepsFiles set named.id m first old.disks → (k : ℕ) (made : MadeCall) → Contains log (Called k made) → ReadMoment log old new k made
      read_moment [] old new ran serve along keeps k made (j, inside, e) = absurd (omega (arith, inside))
      read_moment (event ∷ log) old new (mid, step, ran) serve along keeps k made (zero, inside, e) = record {
        x = record {
          front = [];
          rest = log;
          parts = ap (λ (v : Event). v ∷ log) e;
          before = old;
          after = mid;
          led = refl;
          step = subst (λ (v : Event). StepMoves ghosts takes breaks set v old mid) e step;
          leads_on = ran;
        };
        holds = along.0;
        keeps = keeps;
        serves = subst (λ (v : Event). CallServes set disks v old.disks mid.disks) e serve.0;
      }
      read_moment (event ∷ log) old new (mid, step, ran) serve along keeps k made (suc j, inside, e) =
          let kept : KeepsManifest set named.id m old.disks = record {
            drive = some.drive;
            within = some.within;
            in_use = some.in_use;
            kept = keeps.manifests some.drive named.id (file_of m) some.within some.in_use (inl refl) some.kept;
          } in
          let next = read_moment log mid new ran serve.1 along.1 (keeps_then set named.id m first old.disks mid.disks keeps
          (step_keeps ghosts takes breaks set unseen front rest slot small name named m canonical old along.0 kept event mid step))
          k made (j, omega (arith, inside), e) in
          record {
            x = record {
              front = event ∷ next.x.front;
              rest = next.x.rest;
              parts = ap (λ (l : Log). event ∷ l) next.x.parts;
              before = next.x.before;
              after = next.x.after;
              led = (mid, step, next.x.led);
              step = next.x.step;
              leads_on = next.x.leads_on;
            };
            holds = next.holds;
            keeps = next.keeps;
            serves = next.serves;
          }
