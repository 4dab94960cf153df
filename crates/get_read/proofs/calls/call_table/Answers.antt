use Rattle.std.proofs.Common.{refl, rules, ◌≡◌, ◌∙◌, ◌*◌, ℕ, length, subst, arith}
use Rattle.drive_base.specs.Calls.{Showed}
use Rattle.drive_base.specs.Plan.{data_drives}
use Rattle.drive_base.specs.View.{view}
use Rattle.shard_file.specs.Shards.{table_place}
use Rattle.shard_file.specs.Stripes.{stripe_count}
use Rattle.get_read.specs.Account.{WasSeen}
use Rattle.get_read.proofs.FetchLemmas.{table_damaged}
use Rattle.get_read.proofs.calls.call_table.Goals as goal

pub returns-in-Err-check_block-clause-called : goal.returns-in-Err-check_block-clause-called
returns-in-Err-check_block-clause-called g c =
    let d = data_drives c.args.set.now.drives c.args.set.now.parity in
    let part = c.args.part.now in
    let table = c.in-Ok.table.items in
    let was = view g.D.Drive c.args.drive.now in
    let now = view g.D.Drive c.call_piece.new.drive in
    let call = c.in-Ok.ensures.called in
    let size : length table ≡ 32 * stripe_count part.length = call.0 ∙ search rules in
    let at : c.layout-at.result.digest ≡ table_place d part.length = c.layout-at.ensures.digest ∙ omega arith in
    let seen : WasSeen (Showed c.args.name.now (table_place d part.length) table) was now = subst (λ (n : ℕ). WasSeen (Showed c.args.name.now n table) was now) at call.1 in
    let block : c.as_slice-in-Ok.result.now ≡ table = c.as_slice-in-Ok.ensures.value in
    let checks = c.in-Err-check_block.ensures.outcome in
    (refl, table_damaged d part _ c.args.name.now table c.in-Err-check_block.damage was now c.requires.name size seen (search rules))
