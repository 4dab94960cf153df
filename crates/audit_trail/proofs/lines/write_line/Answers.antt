use Rattle.std.proofs.Common.{◌≡◌, ◌++◌, ◌∷◌, [], ℕ, List, refl, ap, ◌∙◌, subst, decimal}
use Rattle.io_base.proofs.Giving.{GaveFront-joined}
use Rattle.io_base.specs.Sink.{Gave, GaveFront}
use Rattle.percent_encoding.specs.Percent.{percent_encode}
use Rattle.audit_trail.specs.Lines.{deed_text, line_of}
use Rattle.audit_trail.specs.declared.lines.TheConstants.{ESCAPED}
use Rattle.audit_trail.proofs.LineLemmas.{counted_more, err_counted, err_gave, front_wider, gave_more}
use Rattle.audit_trail.proofs.lines.write_line.Goals as goal

pub returns-in_err-write_ticket-clause-given : goal.returns-in_err-write_ticket-clause-given
returns-in_err-write_ticket-clause-given g c =
    let K = g.K.Sink in
    let entry = c.args.entry.now in
    let old = K.given c.args.sink.now in
    let new = K.given c.write_ticket.new.sink in
    err_gave c.from_residual.result (line_of entry) old new c.from_residual.ensures.0
    (front_wider old new (decimal entry.ticket) (deed_text entry.deed ++ (percent_encode ESCAPED entry.name ++ 10 ∷ [])) c.in_err-write_ticket.ensures.given)

pub returns-in_err-write_ticket-clause-counted : goal.returns-in_err-write_ticket-clause-counted
returns-in_err-write_ticket-clause-counted g c =
    let K = g.K.Sink in
    err_counted c.from_residual.result (K.faults c.args.sink.now) (K.faults c.args.sink.now) (K.faults c.write_ticket.new.sink)
    c.from_residual.ensures.0 refl c.in_err-write_ticket.ensures.counted

pub returns-in_err-give-clause-given : goal.returns-in_err-give-clause-given
returns-in_err-give-clause-given g c =
    let K = g.K.Sink in
    let entry = c.args.entry.now in
    let old = K.given c.args.sink.now in
    let new = K.given c.give.new.self in
    let word = c.deed_word.result.now in
    let tail = percent_encode ESCAPED entry.name ++ 10 ∷ [] in
    let whole : decimal entry.ticket ++ (word ++ tail) ≡ line_of entry = ap (λ (b : List ℕ). decimal entry.ticket ++ (b ++ tail)) c.deed_word.ensures in
    err_gave c.from_residual-in_err-give.result (line_of entry) old new c.from_residual-in_err-give.ensures.0
    (subst (λ (all : List ℕ). GaveFront all old new) whole
    (GaveFront-joined old (K.given c.write_ticket.new.sink) new (decimal entry.ticket) (word ++ tail) c.in_ok-write_ticket.ensures.given
    (front_wider (K.given c.write_ticket.new.sink) new word tail c.in_err-give.ensures.given)))

pub returns-in_err-give-clause-counted : goal.returns-in_err-give-clause-counted
returns-in_err-give-clause-counted g c =
    let K = g.K.Sink in
    err_counted c.from_residual-in_err-give.result (K.faults c.args.sink.now) (K.faults c.write_ticket.new.sink) (K.faults c.give.new.self)
    c.from_residual-in_err-give.ensures.0 c.in_ok-write_ticket.ensures.counted c.in_err-give.ensures.counted

pub returns-in_err-write_name-clause-given : goal.returns-in_err-write_name-clause-given
returns-in_err-write_name-clause-given g c =
    let K = g.K.Sink in
    let entry = c.args.entry.now in
    let old = K.given c.args.sink.now in
    let one = K.given c.write_ticket.new.sink in
    let two = K.given c.give.new.self in
    let new = K.given c.write_name.new.sink in
    let ticket = decimal entry.ticket in
    let word = c.deed_word.result.now in
    let name = percent_encode ESCAPED c.as_slice.result.now in
    let whole : ticket ++ (word ++ (name ++ 10 ∷ [])) ≡ line_of entry =
    ap (λ (b : List ℕ). ticket ++ (b ++ (name ++ 10 ∷ []))) c.deed_word.ensures
    ∙ ap (λ (b : List ℕ). ticket ++ (deed_text entry.deed ++ (percent_encode ESCAPED b ++ 10 ∷ []))) c.as_slice.ensures in
    err_gave c.from_residual-in_err-write_name.result (line_of entry) old new c.from_residual-in_err-write_name.ensures.0
    (subst (λ (all : List ℕ). GaveFront all old new) whole
    (GaveFront-joined old one new ticket (word ++ (name ++ 10 ∷ [])) c.in_ok-write_ticket.ensures.given
    (GaveFront-joined one two new word (name ++ 10 ∷ []) c.in_ok-give.ensures.given
    (front_wider two new name (10 ∷ []) c.in_err-write_name.ensures.given))))

pub returns-in_err-write_name-clause-counted : goal.returns-in_err-write_name-clause-counted
returns-in_err-write_name-clause-counted g c =
    let K = g.K.Sink in
    err_counted c.from_residual-in_err-write_name.result (K.faults c.args.sink.now) (K.faults c.give.new.self) (K.faults c.write_name.new.sink)
    c.from_residual-in_err-write_name.ensures.0 (c.in_ok-give.ensures.counted ∙ c.in_ok-write_ticket.ensures.counted) c.in_err-write_name.ensures.counted

pub returns-clause-given : goal.returns-clause-given
returns-clause-given g c =
    let K = g.K.Sink in
    let entry = c.args.entry.now in
    let r = c.give-2.result in
    let old = K.given c.args.sink.now in
    let one = K.given c.write_ticket.new.sink in
    let two = K.given c.give.new.self in
    let three = K.given c.write_name.new.sink in
    let new = K.given c.give-2.new.self in
    let ticket = decimal entry.ticket in
    let word = c.deed_word.result.now in
    let name = percent_encode ESCAPED c.as_slice.result.now in
    let whole : ticket ++ (word ++ (name ++ 10 ∷ [])) ≡ line_of entry =
    ap (λ (b : List ℕ). ticket ++ (b ++ (name ++ 10 ∷ []))) c.deed_word.ensures
    ∙ ap (λ (b : List ℕ). ticket ++ (deed_text entry.deed ++ (percent_encode ESCAPED b ++ 10 ∷ []))) c.as_slice.ensures in
    subst (λ (all : List ℕ). Gave r all old new) whole
    (gave_more r old one new ticket (word ++ (name ++ 10 ∷ [])) c.in_ok-write_ticket.ensures.given
    (gave_more r one two new word (name ++ 10 ∷ []) c.in_ok-give.ensures.given
    (gave_more r two three new name (10 ∷ []) c.in_ok-write_name.ensures.given c.give-2.ensures.given)))

pub returns-clause-counted : goal.returns-clause-counted
returns-clause-counted g c =
    let K = g.K.Sink in
    counted_more c.give-2.result (K.faults c.args.sink.now) (K.faults c.write_name.new.sink) (K.faults c.give-2.new.self)
    (c.in_ok-write_name.ensures.counted ∙ c.in_ok-give.ensures.counted ∙ c.in_ok-write_ticket.ensures.counted) c.give-2.ensures.counted
