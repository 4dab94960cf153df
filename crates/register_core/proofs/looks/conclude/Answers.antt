use Rattle.std.proofs.Common.{◌≤◌, List, refl, subst, sym, arith}
use Rattle.std.specs.Prelude.{Result}
use Rattle.drive_base.specs.Plan.{data_drives, write_drives}
use Rattle.vote_core.specs.Verdict.{VerdictRule}
use Rattle.vote_core.specs.declared.row.Row.{Row}
use Rattle.vote_core.specs.declared.verdict.Verdict.TheVariants.{Settled, Pending}
use Rattle.register_core.specs.Looks.{IsConcluded}
use Rattle.register_core.specs.declared.faults.QuorumFault.{QuorumFault}
use Rattle.register_core.specs.declared.looks.Concluded.{Concluded}
use Rattle.register_core.proofs.ConcludingLemmas.{base_there, err_is, next_there, stopped}
use Rattle.register_core.proofs.looks.conclude.Goals as goal

pub base_on-requires : goal.base_on-requires
base_on-requires g c =
    let set = c.args.set in
    let some : 1 ≤ data_drives set.drives set.parity = omega (arith, set.enough_drives, set.some_parity, set.half_at_most) in
    let rule = subst (λ (rows : List Row). VerdictRule (write_drives set.drives set.parity) (data_drives set.drives set.parity) rows (Settled c.in-Settled.lane))
    c.requires.rows c.in-Settled.ensures in
    base_there (data_drives set.drives set.parity) c.args.files.now c.in-Settled.lane some rule.0 rule.1

pub next_on-requires : goal.next_on-requires
next_on-requires g c =
    let set = c.args.set in
    let rule = subst (λ (rows : List Row). VerdictRule (write_drives set.drives set.parity) (data_drives set.drives set.parity) rows
    (Pending c.in-Pending.base_lane c.in-Pending.lane c.in-Pending.k c.in-Pending.u)) c.requires.rows c.in-Pending.ensures in
    next_there c.args.files.now c.in-Pending.lane _ rule.3.above

pub returns-in_err-may_forward-in-Pending-clause-outcome :
    goal.returns-in_err-may_forward-in-Pending-clause-outcome
returns-in_err-may_forward-in-Pending-clause-outcome g c =
    let set = c.args.set in
    let D = g.D.Drive in
    let rule = subst (λ (rows : List Row). VerdictRule (write_drives set.drives set.parity) (data_drives set.drives set.parity) rows
    (Pending c.in-Pending.base_lane c.in-Pending.lane c.in-Pending.k c.in-Pending.u)) c.requires.rows c.in-Pending.ensures in
    let fault = c.in_err-may_forward-in-Pending.field-0.0 in
    let passed = err_is c.from_residual-in_err-may_forward-in-Pending.result fault c.from_residual-in_err-may_forward-in-Pending.ensures.1 in
    subst (λ (result : Result Concluded QuorumFault). IsConcluded D set c.args.files.now c.args.whys result c.args.disks.now c.may_forward.new.disks)
    (sym passed)
    (stopped D (Unit {0}) set c.args.files.now c.args.whys c.in-Pending.base_lane c.in-Pending.lane c.in-Pending.k c.in-Pending.u
    c.in_ok-next-in-Pending.next fault c.args.disks.now c.may_forward.new.disks rule c.in_ok-next-in-Pending.ensures.next
    c.in_err-may_forward-in-Pending.ensures.outcome)

pub base_on-requires-in-Pending : goal.base_on-requires-in-Pending
base_on-requires-in-Pending g c =
    let set = c.args.set in
    let some : 1 ≤ data_drives set.drives set.parity = omega (arith, set.enough_drives, set.some_parity, set.half_at_most) in
    let rule = subst (λ (rows : List Row). VerdictRule (write_drives set.drives set.parity) (data_drives set.drives set.parity) rows
    (Pending c.in-Pending.base_lane c.in-Pending.lane c.in-Pending.k c.in-Pending.u)) c.requires.rows c.in-Pending.ensures in
    base_there (data_drives set.drives set.parity) c.args.files.now c.in-Pending.base_lane some rule.0 rule.1

pub returns-in_ok-base_on-in-Settled-clause-outcome :
    goal.returns-in_ok-base_on-in-Settled-clause-outcome
returns-in_ok-base_on-in-Settled-clause-outcome g c =
    let set = c.args.set in
    let rule = subst (λ (rows : List Row). VerdictRule (write_drives set.drives set.parity) (data_drives set.drives set.parity) rows (Settled c.in-Settled.lane))
    c.requires.rows c.in-Settled.ensures in
    ((c.in-Settled.lane, rule, c.in_ok-base_on-in-Settled.ensures.base), refl)
