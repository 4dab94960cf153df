-- A window of one stripe.
use Rattle.std.proofs.Common.{◌-◌, arith}
use Rattle.put_stage.proofs.WindowLemmas.{is_window_of_one}
use Rattle.put_stage.proofs.windows.coded_window.Goals as goal

pub returns : goal.returns
returns c =
    is_window_of_one c.args.set.now.drives (c.args.set.now.drives - c.args.set.now.parity) c.args.bytes.items c.in_ok-stripe.stripe c.of.result
    c.requires.some (omega arith) c.in_ok-stripe.ensures c.of.ensures
