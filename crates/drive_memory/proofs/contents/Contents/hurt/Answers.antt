use Rattle.std.proofs.Common.{rules, Some}
use Rattle.drive_memory.specs.Contents.{held_files}
use Rattle.drive_memory.proofs.DamageLemmas.{hurt_leaves}
use Rattle.drive_memory.proofs.NameLemmas.{get_by_text-updates}
use Rattle.drive_memory.proofs.contents.Contents.hurt.Goals as goal

pub returns : goal.returns
unfolding held_files
returns c =
    let written = c.hurt.new.self in
    hurt_leaves c.args.self.now.placed (c.get_mut.follows.lender written) c.args.self.now.loose c.args.name.now c.in-Some.file.now written c.args.place c.hurt.result
    c.in-Some.ensures.value
    (get_by_text-updates c.args.self.now.placed (c.get_mut.follows.lender written) c.args.name.now (Some written) ((c.get_mut.follows.holds written).3 (search rules)))
    c.hurt.ensures.kept c.hurt.ensures.there c.hurt.ensures.hurt c.hurt.ensures.absent c.hurt.ensures.whole
