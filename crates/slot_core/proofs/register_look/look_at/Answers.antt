use Rattle.std.proofs.Common.{◌+◌, ◌∙◌, Option, Some, subst, sym, refl, inr}
use Rattle.stamp_id.specs.declared.stamp.Ballot.{Ballot}
use Rattle.register_file.specs.declared.record.Next.{Next}
use Rattle.slot_core.specs.Settlement.{FirstIs}
use Rattle.slot_core.proofs.LanesStayLemmas.{files_stay}
use Rattle.slot_core.proofs.CauseLemmas.{few_good, first_fits, first_is_none}
use Rattle.slot_core.proofs.register_look.look_at.Goals as goal

pub returns-then-not-can_forward-clause-looks : goal.returns-then-not-can_forward-clause-looks
returns-then-not-can_forward-clause-looks g c =
    let D = g.D.Drive in
    inr (record {
      looked = c.in-Ok.looked;
      concluded = record { looks = c.in-Ok.ensures.outcome; stay = files_stay D c.args.lanes.now c.look.new.lanes c.in-Ok.ensures.lanes_read };
      found = c.in-Some.field-0;
      pending = c.in-Some.is;
      few = few_good D c.args.site.now.set c.in-Ok.looked.set c.in-Ok.looked.whys c.can_forward.result c.in-Ok.ensures.outcome.plan c.can_forward.ensures
          c.if-not-can_forward.true;
      letters = refl;
    })

pub returns-in-None-clause-looks : goal.returns-in-None-clause-looks
returns-in-None-clause-looks g c =
    let D = g.D.Drive in
    let ballot : Ballot = record {
      term = c.args.site.now.term;
      seq = c.args.drawn.now.seq + 1;
      term_fits = c.args.site.now.term_fits;
      seq_fits = c.requires.seq;
    } in
    record {
      looks = c.in-Ok.ensures.outcome;
      ballot = ballot;
      term = refl;
      seq = refl;
      first = first_is_none D c.in-Ok.looked c.in-Ok.looked.pending ballot c.in-None.is;
    }

pub returns-in-Ok-draft_again-clause-looks : goal.returns-in-Ok-draft_again-clause-looks
returns-in-Ok-draft_again-clause-looks g c =
    let found : Next = c.in-Some.field-0 in
    let looked = c.in-Ok.looked in
    let ballot : Ballot = c.next_ballot.result in
    record {
      looks = c.in-Ok.ensures.outcome;
      ballot = ballot;
      term = c.next_ballot.ensures.term;
      seq = c.next_ballot.ensures.seq;
      first = subst (λ (p : Option Next). FirstIs looked p ballot (Some c.in-Ok-draft_again.draft)) (sym c.in-Some.is)
          (c.in-Ok-draft_again.draft, refl, c.in-Ok-draft_again.ensures found c.in-Some.is);
    }

pub returns-in-Ok-draft_again-clause-fits : goal.returns-in-Ok-draft_again-clause-fits
returns-in-Ok-draft_again-clause-fits g c =
    let D = g.D.Drive in
    let looks = c.in-Ok.ensures.outcome in
    first_fits D c.args.site.now.set c.args.name.now c.in-Ok.looked c.in-Some.field-0 c.next_ballot.result c.in-Ok-draft_again.draft looks.plan looks.named
    c.requires.named (looks.read.lettered ∙ c.requires.lanes) c.in-Some.is (c.in-Ok-draft_again.ensures c.in-Some.field-0 c.in-Some.is)
