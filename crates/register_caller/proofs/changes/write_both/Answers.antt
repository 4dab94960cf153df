use Rattle.std.proofs.Common.{◌≡◌, ◌∙◌, ℕ, List, length, string_bytes, ap, inl, refl, subst, sym, arith}
use Rattle.std.specs.Prelude.{Ok, Err}
use Rattle.std.specs.Int.{IsBitSet}
use Rattle.drive_base.specs.View.{views}
use Rattle.drive_base.proofs.ViewLemmas.{two_calls_go_on}
use Rattle.register_core.specs.LaneWrites.{KeepsDrives}
use Rattle.register_core.proofs.ViewedLemmas.{tells_on}
use Rattle.register_core.specs.ServingLanes.{AllServe}
use Rattle.register_core.specs.OnLanes.{AllTell, AreLanes, AreUnused}
use Rattle.register_core.specs.Records.{base_of, next_of}
use Rattle.register_core.specs.declared.drafts.Draft.{Draft}
use Rattle.register_core.specs.Proposals.{quorum_of}
use Rattle.call_types.specs.declared.why.Whys.{Whys}
use Rattle.register_core.specs.declared.faults.QuorumFault.{QuorumFault}
use Rattle.register_caller.proofs.KeptLemmas.{mark_keeps}
use Rattle.register_caller.proofs.LeavingLemmas.{leaves_both, leaves_refused}
use Rattle.register_caller.proofs.LiveLemmas.{fresh_after_mark, fresh_after_prepare, live_after_both, live_refused}
use Rattle.register_caller.proofs.CallingLemmas.{mark_few, propose_few, tell_after}
use Rattle.register_caller.proofs.ServingLemmas.{serve_mark}
use Rattle.register_caller.proofs.StepLemmas.{both_taken, keeps_twice, mark_rises, propose_rises}
use Rattle.register_caller.proofs.changes.write_both.Goals as goal

pub returns-in-Err : goal.returns-in-Err
returns-in-Err g c = record {
  wrote = λ base next recorded is told unused are.
      let kept = c.in-Err.ensures.keeps base next recorded is told unused are in
      record {
        after = kept.after;
        tell = tell_after g.D.Drive.tells g.D.Drive.files c.args.out c.args.lanes.now c.propose.new.lanes (omega (arith, c.propose.auto.lanes))
            (tells_on g.D.Drive c.args.lanes.now c.propose.new.lanes c.in-Err.ensures.lanes) told;
        unused = (c.in-Err.ensures.drives told unused).unused;
        are = kept.are;
        stay = kept.stay;
        leaves = record {
          value = λ last later change content may. inl ((kept.leaves.value last later change content may).holds);
          live = λ last later change now content shows may here. live_refused c.live_laws.ensures.old_or_own c.value_laws.ensures.one
              (quorum_of c.args.draft.now) last later change now content shows recorded kept.after (base_of base) (next_of next) may.holds
              (kept.leaves.value last later change content may).holds kept.left here;
          leaving = λ last later change content may. leaves_refused {T = Whys} {E = QuorumFault} c.live_laws.ensures.old_or_own c.place_laws.ensures.members
              (quorum_of c.args.draft.now) last later change content recorded kept.after c.args.draft.now.letters (base_of base) (next_of next) c.in-Err.fault may
              (kept.leaves.value last later change content may).holds kept.left;
          fresh = λ other is_fresh base_else next_else. fresh_after_prepare c.fresh_laws.ensures.change other recorded kept.after (base_of base) (next_of next)
              is_fresh base_else next_else kept.left;
        };
      };
  value = refl;
  calls = inl c.in-Err.ensures.outcome;
  enough = c.in-Err.ensures.enough;
  drives = c.in-Err.ensures.drives;
  lanes = c.in-Err.ensures.lanes;
  rises = propose_rises g.D.Drive c.args.draft.now c.args.out c.args.term c.args.count.now c.propose.new.count
      (Err c.in-Err.fault) c.args.lanes.now c.propose.new.lanes c.in-Err.ensures.outcome;
  count = (let one = propose_few g.D.Drive c.args.draft.now c.args.out c.args.term c.args.count.now c.propose.new.count
      (Err c.in-Err.fault) c.args.lanes.now c.propose.new.lanes c.in-Err.ensures.outcome in let long = c.requires.drives in omega arith);
}

pub returns : goal.returns
returns g c = record {
  wrote = λ base next recorded is told unused are.
      let D : Type 0 = g.row.D.Denot in
      let tells = g.D.Drive.tells in
      let files = g.D.Drive.files in
      let out = c.args.out in
      let name : List ℕ = string_bytes c.args.draft.now.name in
      let took = c.in-Ok.prepared in
      let mid : List D = c.propose.new.lanes in
      let new : List D = c.mark.new.lanes in
      let same : took.out ≡ out = c.in-Ok.ensures.outcome.0 in
      let kept = c.in-Ok.ensures.keeps base next recorded is told unused are in
      let tell : AllTell tells out mid = tell_after tells files out c.args.lanes.now mid (omega (arith, c.propose.auto.lanes)) (tells_on g.D.Drive c.args.lanes.now mid c.in-Ok.ensures.lanes) told in
      let tell_took : AllTell tells took.out mid = subst (λ (o : ℕ). AllTell tells o mid) (sym same) tell in
      let unused_took : AreUnused files took.out c.args.term c.propose.new.count mid =
      subst (λ (o : ℕ). AreUnused files o c.args.term c.propose.new.count mid) (sym same) (c.in-Ok.ensures.drives told unused).unused in
      let marks = c.mark.ensures.keeps next kept.after is.ends tell_took unused_took (subst (λ (o : ℕ). AreLanes files o name mid kept.after) (sym same) kept.are) in
      record {
        after = marks.after;
        tell = tell_after tells files out mid new (omega (arith, c.mark.auto.lanes)) (tells_on g.D.Drive mid new c.mark.ensures.lanes) tell;
        unused = subst (λ (o : ℕ). AreUnused files o c.args.term c.mark.new.count new) same (c.mark.ensures.drives tell_took unused_took).unused;
        are = subst (λ (o : ℕ). AreLanes files o name new marks.after) same marks.are;
        stay = λ k bit. marks.stay k (subst (λ (o : ℕ). IsBitSet o k) (sym same) bit) ∙ kept.stay k bit;
        leaves = record {
          value = λ last later change content may.
              let stays = kept.leaves.value last later change content may in
              marks.value (base_of base) later change content (record { holds = stays.holds; ready = stays.ready; took = kept.took });
          live = λ last later change now content shows may here.
              let stays = kept.leaves.value last later change content may in
              live_after_both c.live_laws.ensures.old_or_own c.live_laws.ensures.marked c.value_laws.ensures.one c.mark.result
              (quorum_of c.args.draft.now) last later change now content shows recorded kept.after marks.after (base_of base) (next_of next)
              may.holds stays.holds stays.ready kept.left marks.left
              (marks.value (base_of base) later change content (record { holds = stays.holds; ready = stays.ready; took = kept.took })) here;
          leaving = λ last later change content may.
              let stays = kept.leaves.value last later change content may in
              leaves_both {T = Whys} {E = QuorumFault} c.live_laws.ensures.old_or_own c.live_laws.ensures.marked c.place_laws.ensures.members c.mark.result
              (quorum_of c.args.draft.now) last later change content recorded kept.after marks.after c.args.draft.now.letters (base_of base) (next_of next)
              may stays.holds stays.ready kept.left marks.left
              (marks.value (base_of base) later change content (record { holds = stays.holds; ready = stays.ready; took = kept.took }));
          fresh = λ other is_fresh base_else next_else. fresh_after_mark c.fresh_laws.ensures.change other kept.after marks.after (next_of next)
              (fresh_after_prepare c.fresh_laws.ensures.change other recorded kept.after (base_of base) (next_of next) is_fresh base_else next_else kept.left)
              next_else marks.left;
        };
      };
  value = ap (λ (d : Draft). d.value) c.mark.ensures.draft;
  calls = (let D : Type 0 = g.row.D.Denot in
      let tells = g.D.Drive.tells in
      let files = g.D.Drive.files in
      let out = c.args.out in
      let took = c.in-Ok.prepared in
      let old : List D = c.args.lanes.now in
      let mid : List D = c.propose.new.lanes in
      let new : List D = c.mark.new.lanes in
      let same : took.out ≡ out = c.in-Ok.ensures.outcome.0 in
      let tell_mid = λ (told : AllTell tells out old). tell_after tells files out old mid (omega (arith, c.propose.auto.lanes)) (tells_on g.D.Drive c.args.lanes.now mid c.in-Ok.ensures.lanes) told in
      let told_took = λ (told : AllTell tells out old). subst (λ (o : ℕ). AllTell tells o mid) (sym same) (tell_mid told) in
      let unused_took = λ (told : AllTell tells out old) (unused : AreUnused files out c.args.term c.args.count.now old).
      subst (λ (o : ℕ). AreUnused files o c.args.term c.propose.new.count mid) (sym same) (c.in-Ok.ensures.drives told unused).unused in
      both_taken g.D.Drive c.args.draft.now out c.args.term c.args.count.now c.mark.new.count c.mark.result old new
      (record {
        took = took;
        middle = c.propose.new.count;
        mid = mid;
        later = c.mark.new.draft;
        proposes = c.in-Ok.ensures.outcome;
        marks = c.mark.ensures.outcome;
        long = c.requires.drives;
        lanes_mid = c.in-Ok.ensures.lanes;
        lanes_new = c.mark.ensures.lanes;
        unused = λ told unused. subst (λ (o : ℕ). AreUnused files o c.args.term c.mark.new.count new) same
            (c.mark.ensures.drives (told_took told) (unused_took told unused)).unused;
        keep = λ told unused. mark_keeps g.D.Drive c.args.draft.now took c.args.term c.propose.new.count c.mark.new.count c.mark.result c.mark.new.draft mid new
            (let few = mark_few g.D.Drive c.args.draft.now took c.args.term c.propose.new.count c.mark.new.count c.mark.result c.mark.new.draft mid new
            c.mark.ensures.outcome in let first = propose_few g.D.Drive c.args.draft.now out c.args.term c.args.count.now c.propose.new.count (Ok took) old mid
            c.in-Ok.ensures.outcome in let long = c.requires.drives in let same = c.propose.auto.lanes in omega arith)
            (told_took told) (unused_took told unused) c.mark.ensures.outcome;
      }));
  enough = λ serving serve many.
      let D : Type 0 = g.row.D.Denot in
      let took = c.in-Ok.prepared in
      let draft = c.args.draft.now in
      c.mark.ensures.enough serving
      (subst (λ (o : ℕ). AllServe {D = D} g.D.Drive o serving took.whys c.propose.new.lanes c.mark.new.lanes) (sym c.in-Ok.ensures.outcome.0)
      (serve_mark {D = D} g.D.Drive c.args.out serving (string_bytes draft.name) draft.first.items c.args.term c.args.count.now c.propose.new.count
      draft.letters took.whys c.args.lanes.now c.propose.new.lanes c.mark.new.lanes (omega (arith, c.propose.auto.lanes)) c.in-Ok.ensures.outcome.2
      c.in-Ok.ensures.lanes c.mark.ensures.lanes serve))
      many;
  drives = λ told unused.
      let D : Type 0 = g.row.D.Denot in
      let tells = g.D.Drive.tells in
      let files = g.D.Drive.files in
      let out = c.args.out in
      let name : List ℕ = string_bytes c.args.draft.now.name in
      let took = c.in-Ok.prepared in
      let mid : List D = c.propose.new.lanes in
      let new : List D = c.mark.new.lanes in
      let same : took.out ≡ out = c.in-Ok.ensures.outcome.0 in
      let long : length mid ≡ length c.args.lanes.now = omega (arith, c.propose.auto.lanes) in
      let tell : AllTell tells out mid = tell_after tells files out c.args.lanes.now mid long (tells_on g.D.Drive c.args.lanes.now mid c.in-Ok.ensures.lanes) told in
      let first = c.in-Ok.ensures.drives told unused in
      let second = c.mark.ensures.drives (subst (λ (o : ℕ). AllTell tells o mid) (sym same) tell)
      (subst (λ (o : ℕ). AreUnused files o c.args.term c.propose.new.count mid) (sym same) first.unused) in
      keeps_twice {D = D} g.D.Drive out name c.args.term c.args.count.now c.propose.new.count c.mark.new.count c.args.lanes.now mid new long
      (propose_rises g.D.Drive c.args.draft.now out c.args.term c.args.count.now c.propose.new.count (Ok took) c.args.lanes.now mid c.in-Ok.ensures.outcome)
      (mark_rises g.D.Drive c.args.draft.now took c.args.term c.propose.new.count c.mark.new.count c.mark.result c.mark.new.draft mid new c.mark.ensures.outcome)
      first
      (subst (λ (o : ℕ). KeepsDrives {D = D} g.D.Drive o name c.args.term c.propose.new.count c.mark.new.count mid new) same second);
  lanes = two_calls_go_on (views g.D.Drive c.args.lanes.now) (views g.D.Drive c.propose.new.lanes) (views g.D.Drive c.mark.new.lanes)
      c.in-Ok.ensures.lanes c.mark.ensures.lanes;
  rises = (let one = propose_rises g.D.Drive c.args.draft.now c.args.out c.args.term c.args.count.now c.propose.new.count
      (Ok c.in-Ok.prepared) c.args.lanes.now c.propose.new.lanes c.in-Ok.ensures.outcome in
      let two = mark_rises g.D.Drive c.args.draft.now c.in-Ok.prepared c.args.term c.propose.new.count c.mark.new.count
      c.mark.result c.mark.new.draft c.propose.new.lanes c.mark.new.lanes c.mark.ensures.outcome in omega arith);
  count = (let one = propose_few g.D.Drive c.args.draft.now c.args.out c.args.term c.args.count.now c.propose.new.count
      (Ok c.in-Ok.prepared) c.args.lanes.now c.propose.new.lanes c.in-Ok.ensures.outcome in
      let two = mark_few g.D.Drive c.args.draft.now c.in-Ok.prepared c.args.term c.propose.new.count c.mark.new.count
      c.mark.result c.mark.new.draft c.propose.new.lanes c.mark.new.lanes c.mark.ensures.outcome in
      let long = c.requires.drives in let same = c.propose.auto.lanes in omega arith);
}
