use Rattle.std.proofs.Common.{◌≢◌, ◌∙◌, ℕ, List, Some, subst, sym}
use Rattle.stamp_id.specs.declared.stamp.ChangeId.{ChangeId}
use Rattle.register_core.specs.Found.{content_of}
use Rattle.slot_rules.specs.Deeds.{call_of, name_of}
use Rattle.slot_rules.specs.Owning.{IsOwnChange, life_at}
use Rattle.slot_rules.specs.Planning.{DoesOver}
use Rattle.slot_rules.proofs.owning.own_of.Goals as goal

pub returns-clause-own : goal.returns-clause-own
returns-clause-own c now reply does changed =
    let next = c.next_of-next.result in
    let made = c.next_of-next.ensures in
    let id = c.args.id in
    let deed = c.args.deed.now in
    let found : List ℕ = content_of c.args.ready.now.looked.base c.args.ready.now.looked.pending in (
      record {
        next = next;
        drafted = c.in_ok-draft.ensures;
        parent = made.parent ∙ c.parent_of-parent.ensures;
        change = subst (λ (x : ChangeId). IsOwnChange (life_at c.args.site.now) c.args.last c.args.put x) (sym made.change) c.requires.id.change;
        change_is = sym made.change;
        term = made.term;
        seq = made.seq ∙ c.ballot_seq-seq.ensures;
        seq_is = c.ballot_seq-seq.ensures;
        adds = made.adds ∙ c.adds_of-adds.ensures.adds;
        id = id;
        id_change = sym made.change;
        id_slot = c.requires.id.slot;
        does = subst (λ (b : List ℕ). DoesOver (name_of deed) found (call_of deed (Some next.change) now) id reply b) (sym made.content)
            (subst (λ (x : ChangeId). DoesOver (name_of deed) found (call_of deed (Some x) now) id reply c.args.content) (sym made.change) does);
        changed = subst (λ (b : List ℕ). b ≢ found) (sym made.content) changed;
      },
      made.content,
    )
