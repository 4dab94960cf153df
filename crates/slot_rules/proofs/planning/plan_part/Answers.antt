use Rattle.std.proofs.Common.{None, refl, subst}
use Rattle.call_types.specs.declared.reply.Reply.TheVariants.{Stored}
use Rattle.call_types.specs.declared.version.PartRecord.{PartRecord}
use Rattle.upload_book.specs.Storing.{etag_of}
use Rattle.upload_book.specs.Table.{IsCanonical}
use Rattle.slot_rules.specs.Planning.{SpellsStored}
use Rattle.slot_rules.specs.declared.planning.Planned.{Planned}
use Rattle.slot_rules.proofs.PartLemmas.{part_planned}
use Rattle.slot_rules.proofs.planning.plan_part.Goals as goal

pub returns : goal.returns
returns c at upload number id content spells =
    let planned : Planned = record { reply = Stored (etag_of c.args.part.now) None; refused = None; content = c.in_ok-content.content; gone = c.new.result } in
    let stored = c.stored_at-stored.ensures in
    part_planned at upload number c.args.part.now c.args.now id c.args.row.now content spells c.row_laws.ensures.injective planned
    (subst (λ (p : PartRecord). IsCanonical p) stored.value stored.canonical)
    (subst (λ (p : PartRecord). SpellsStored c.args.row.now p c.in_ok-content.content) stored.value c.in_ok-content.ensures) refl refl c.new.ensures.items
