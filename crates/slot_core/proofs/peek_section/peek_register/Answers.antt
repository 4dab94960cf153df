use Rattle.std.proofs.Common.{arith}
use Rattle.std.specs.Prelude.{Ok}
use Rattle.register_core.specs.Found.{content_of}
use Rattle.slot_history.specs.Standing.{Records}
use Rattle.slot_history.specs.State.{State}
use Rattle.slot_rules.specs.Owning.{base_after}
use Rattle.slot_rules.specs.Rules.{longest_for, rule_for}
use Rattle.slot_core.specs.Causes.{PeekCause}
use Rattle.slot_core.specs.PeekSection.{KnownContent}
use Rattle.slot_core.specs.Settlement.{SettledOn, numbers_at}
use Rattle.slot_core.proofs.LanesStayLemmas.{files_stay, goes_after_read, read_goes_on, tells_stay}
use Rattle.slot_core.proofs.CauseLemmas.{cause_of_forward, gives_of, longest_at, look_cause, ready_at, rule_at}
use Rattle.slot_core.proofs.SettlingLemmas.{looked_settled, name_held}
use Rattle.slot_core.proofs.TurnLemmas.{forward_has_memory, known_content, refusal_calls, refusal_leaves, settled_known, stands_looked}
use Rattle.slot_core.proofs.peek_section.peek_register.Goals as goal

pub returns-in-Err-clause-leaves : goal.returns-in-Err-clause-leaves
returns-in-Err-clause-leaves g c holding records state s =
    let D = g.D.Drive in
    let numbers = numbers_at c.args.site.now c.args.drawn.now in
    refusal_leaves D.tells D.files numbers numbers holding (λ content late now. KnownContent c.args.name.now content late now) c.in-Err.fault c.refusal.result c.look_at.new.lanes records state c.refusal.ensures
    (looked_settled D numbers holding (λ after now. Unit {0}) c.args.lanes.now c.look_at.new.lanes records state (omega (arith, c.look_at.auto.lanes))
    (files_stay g.D.Drive c.args.lanes.now c.look_at.new.lanes c.in-Err.ensures.lanes_read) (tells_stay g.D.Drive c.args.lanes.now c.look_at.new.lanes c.in-Err.ensures.lanes_read) tt s)
    (λ same. stands_looked D numbers holding c.args.lanes.now c.look_at.new.lanes records state (omega (arith, c.look_at.auto.lanes))
    (files_stay g.D.Drive c.args.lanes.now c.look_at.new.lanes c.in-Err.ensures.lanes_read) (tells_stay g.D.Drive c.args.lanes.now c.look_at.new.lanes c.in-Err.ensures.lanes_read) s)

pub returns-in-Err-clause-calls : goal.returns-in-Err-clause-calls
returns-in-Err-clause-calls g c =
    let D = g.D.Drive in
    let numbers = numbers_at c.args.site.now c.args.drawn.now in
    refusal_calls D numbers numbers c.args.name.now
    (λ content late. PeekCause D numbers numbers c.args.name.now (Ok content) late c.args.lanes.now c.look_at.new.lanes c.args.disks.now c.look_at.new.disks)
    c.in-Err.fault c.refusal.result c.args.lanes.now c.look_at.new.lanes c.args.disks.now c.look_at.new.disks
    c.refusal.ensures
    (λ other. look_cause D c.args.site.now c.args.drawn.now c.args.name.now c.rule_of-rule.result.bucket c.in-Err.fault c.args.lanes.now c.look_at.new.lanes
    c.args.disks.now c.look_at.new.disks c.requires.named c.rule_of-rule.ensures c.in-Err.ensures.looks)
    (λ same. (files_stay g.D.Drive c.args.lanes.now c.look_at.new.lanes c.in-Err.ensures.lanes_read))

pub returns-in-Err-content_of-clause-leaves : goal.returns-in-Err-content_of-clause-leaves
returns-in-Err-content_of-clause-leaves g c holding records state s =
    let D = g.D.Drive in
    stands_looked D (numbers_at c.args.site.now c.args.drawn.now) holding c.args.lanes.now c.look_at.new.lanes records state
    (omega (arith, c.look_at.auto.lanes)) (files_stay g.D.Drive c.args.lanes.now c.look_at.new.lanes c.in-Ok.ensures.lanes_read) (tells_stay g.D.Drive c.args.lanes.now c.look_at.new.lanes c.in-Ok.ensures.lanes_read) s

pub returns-in-Ok-forward-clause-leaves : goal.returns-in-Ok-forward-clause-leaves
returns-in-Ok-forward-clause-leaves g c holding records state s =
    let D = g.D.Drive in
    let site = c.args.site.now in
    let name = c.args.name.now in
    let ready = c.in-Ok.ready in
    let bucket = c.rule_of-rule.result.bucket in
    let late = c.in-Ok-forward.late in
    let content = c.in-Ok-content_of.content in
    let found = content_of ready.looked.base ready.looked.pending in
    settled_known D.tells D.files (numbers_at site c.args.drawn.now) (numbers_at site c.forward.new.drawn) holding
    (λ (after : Records) (now : State). SettledOn name (base_after ready.looked.base ready.first) found late after now)
    (λ (after : Records) (now : State). KnownContent name content late now) c.forward.new.lanes records state
    (λ after now known. known_content name (base_after ready.looked.base ready.first) found content late after now c.in-Ok-content_of.ensures known)
    (c.in-Ok-forward.ensures.settles (rule_at bucket) (longest_at bucket) c.args.lanes.now c.args.disks.now c.look_at.new.disks holding records state c.in-Ok.ensures.looks
    (omega (arith, c.look_at.auto.lanes)) (files_stay g.D.Drive c.args.lanes.now c.look_at.new.lanes c.in-Ok.ensures.lanes_read) (tells_stay g.D.Drive c.args.lanes.now c.look_at.new.lanes c.in-Ok.ensures.lanes_read) (name_held state.registers name c.requires.named) s)

pub returns-in-Ok-forward-clause-calls : goal.returns-in-Ok-forward-clause-calls
returns-in-Ok-forward-clause-calls g c =
    let D = g.D.Drive in
    let site = c.args.site.now in
    let name = c.args.name.now in
    let ready = c.in-Ok.ready in
    let is = ready_at D site c.args.drawn.now name c.rule_of-rule.result.bucket ready c.args.lanes.now c.look_at.new.lanes c.args.disks.now c.look_at.new.disks
    c.requires.named c.rule_of-rule.ensures c.in-Ok.ensures.looks in
    gives_of D site c.args.drawn.now c.forward.new.drawn name (rule_for name) (longest_for name) ready c.in-Ok-content_of.content c.in-Ok-forward.late c.args.lanes.now c.look_at.new.lanes
    c.forward.new.lanes c.args.disks.now c.look_at.new.disks is (files_stay g.D.Drive c.args.lanes.now c.look_at.new.lanes c.in-Ok.ensures.lanes_read) c.in-Ok-content_of.ensures c.in-Ok-forward.ensures.late c.in-Ok-forward.ensures.calls

pub returns-in-Ok-forward-clause-lanes : goal.returns-in-Ok-forward-clause-lanes
returns-in-Ok-forward-clause-lanes g c =
    goes_after_read g.D.Drive c.args.lanes.now c.look_at.new.lanes c.forward.new.lanes c.in-Ok.ensures.lanes_read c.in-Ok-forward.ensures.lanes

pub returns-in-Err-forward-clause-leaves : goal.returns-in-Err-forward-clause-leaves
returns-in-Err-forward-clause-leaves g c holding records state s =
    let D = g.D.Drive in
    let site = c.args.site.now in
    let name = c.args.name.now in
    let ready = c.in-Ok.ready in
    let bucket = c.rule_of-rule.result.bucket in
    let fault = c.in-Err-forward.fault in
    let numbers = numbers_at site c.args.drawn.now in
    let later = numbers_at site c.forward.new.drawn in
    refusal_leaves D.tells D.files numbers later holding (λ content late now. KnownContent name content late now) fault c.refusal-in-Err-forward.result c.forward.new.lanes records state c.refusal-in-Err-forward.ensures
    (c.in-Err-forward.ensures.settles (rule_at bucket) (longest_at bucket) c.args.lanes.now c.args.disks.now c.look_at.new.disks holding records state c.in-Ok.ensures.looks
    (omega (arith, c.look_at.auto.lanes)) (files_stay g.D.Drive c.args.lanes.now c.look_at.new.lanes c.in-Ok.ensures.lanes_read) (tells_stay g.D.Drive c.args.lanes.now c.look_at.new.lanes c.in-Ok.ensures.lanes_read) (name_held state.registers name c.requires.named) s)
    (λ same. absurd (forward_has_memory D site c.args.drawn.now c.forward.new.drawn ready.first fault c.look_at.new.lanes c.forward.new.lanes
    c.in-Err-forward.ensures.calls same))

pub returns-in-Err-forward-clause-calls : goal.returns-in-Err-forward-clause-calls
returns-in-Err-forward-clause-calls g c =
    let D = g.D.Drive in
    let site = c.args.site.now in
    let name = c.args.name.now in
    let ready = c.in-Ok.ready in
    let fault = c.in-Err-forward.fault in
    let is = ready_at D site c.args.drawn.now name c.rule_of-rule.result.bucket ready c.args.lanes.now c.look_at.new.lanes c.args.disks.now c.look_at.new.disks
    c.requires.named c.rule_of-rule.ensures c.in-Ok.ensures.looks in
    refusal_calls D (numbers_at site c.args.drawn.now) (numbers_at site c.forward.new.drawn) name
    (λ content late. PeekCause D (numbers_at site c.args.drawn.now) (numbers_at site c.forward.new.drawn) name (Ok content) late c.args.lanes.now
    c.forward.new.lanes c.args.disks.now c.look_at.new.disks) fault c.refusal-in-Err-forward.result c.args.lanes.now
    c.forward.new.lanes c.args.disks.now c.look_at.new.disks c.refusal-in-Err-forward.ensures
    (λ other. cause_of_forward D site c.args.drawn.now c.forward.new.drawn name (rule_for name) (longest_for name) ready fault c.args.lanes.now c.look_at.new.lanes c.forward.new.lanes c.args.disks.now
    c.look_at.new.disks is (files_stay g.D.Drive c.args.lanes.now c.look_at.new.lanes c.in-Ok.ensures.lanes_read) c.in-Err-forward.ensures.calls)
    (λ same. absurd (forward_has_memory D site c.args.drawn.now c.forward.new.drawn ready.first fault c.look_at.new.lanes c.forward.new.lanes
    c.in-Err-forward.ensures.calls same))

pub returns-in-Err-forward-clause-lanes : goal.returns-in-Err-forward-clause-lanes
returns-in-Err-forward-clause-lanes g c =
    goes_after_read g.D.Drive c.args.lanes.now c.look_at.new.lanes c.forward.new.lanes c.in-Ok.ensures.lanes_read c.in-Err-forward.ensures.lanes

pub returns-in-Err-content_of-clause-calls : goal.returns-in-Err-content_of-clause-calls
returns-in-Err-content_of-clause-calls g c = files_stay g.D.Drive c.args.lanes.now c.look_at.new.lanes c.in-Ok.ensures.lanes_read

pub returns-in-Err-content_of-clause-lanes : goal.returns-in-Err-content_of-clause-lanes
returns-in-Err-content_of-clause-lanes g c = read_goes_on g.D.Drive c.args.lanes.now c.look_at.new.lanes c.in-Ok.ensures.lanes_read

pub returns-in-Err-clause-lanes : goal.returns-in-Err-clause-lanes
returns-in-Err-clause-lanes g c = read_goes_on g.D.Drive c.args.lanes.now c.look_at.new.lanes c.in-Err.ensures.lanes_read
