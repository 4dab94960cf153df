use Rattle.std.proofs.Common.{◌≡◌, length, rules}
use Rattle.version_list.proofs.NoId.{on_no_id}
use Rattle.version_list.proofs.ids.is_no_id.Goals as goal

pub returns-clause-zeros : goal.returns-clause-zeros
returns-clause-zeros c =
    let sized : length c.args.bytes.now ≡ 16 = search rules in
    on_no_id c.are_zeros.result c.args.bytes.now sized c.are_zeros.ensures
