use Rattle.std.proofs.Common.{◌≡◌, ◌∙◌, ◌++◌, ℕ, List, length, refl, subst, sym}
use Rattle.std.specs.Prelude.{drop, take}
use Rattle.std.proofs.lemmas.List.{take_at}
use Rattle.field_reader.specs.Spelling.{IsBytes}
use Rattle.drive_base.specs.Calls.{Showed}
use Rattle.drive_base.specs.View.{view}
use Rattle.get_read.specs.Account.{WasSeen}
use Rattle.get_read.proofs.CallLemmas.{piece_failed, piece_read}
use Rattle.get_read.proofs.calls.call_piece.Goals as goal

pub returns-in-Ok-answer-clause-called : goal.returns-in-Ok-answer-clause-called
returns-in-Ok-answer-clause-called g c =
    let old = view g.D.Drive c.args.drive.now in
    let new = view g.D.Drive c.piece_into-answer.new.drive in
    let name = c.args.name.now in
    let into = c.as_mut_slice.result.now in
    let filled = c.piece_into-answer.new.into in
    let called = c.in-Ok-answer.ensures.called in
    let long : length filled ≡ c.in-Ok.bytes.len = c.piece_into-answer.auto.into ∙ c.as_mut_slice.ensures.len in
    let whole : take c.in-Ok.bytes.len (filled ++ drop (length filled) c.in-Ok.bytes.items) ≡ filled =
    take_at filled (drop (length filled) c.in-Ok.bytes.items) c.in-Ok.bytes.len long in
    let bytes : IsBytes filled = subst IsBytes (c.as_slice.ensures.value ∙ whole) c.byte_law.ensures in
    subst (λ (b : List ℕ). (length b ≡ c.args.long) × WasSeen (Showed name c.args.at b) old new) (sym whole)
    (long ∙ c.in-Ok.ensures.len, piece_read name c.args.at (length into) into filled called.0 old new refl called.1 called.2 bytes)

pub returns-in-Err-clause-called : goal.returns-in-Err-clause-called
returns-in-Err-clause-called g c =
    let into = c.as_mut_slice.result.now in
    let filled = c.piece_into-answer.new.into in
    let called = c.in-Err.ensures.called in
    let long : length filled ≡ c.in-Ok.bytes.len = c.piece_into-answer.auto.into ∙ c.as_mut_slice.ensures.len in
    let whole : take c.in-Ok.bytes.len (filled ++ drop (length filled) c.in-Ok.bytes.items) ≡ filled =
    take_at filled (drop (length filled) c.in-Ok.bytes.items) c.in-Ok.bytes.len long in
    let bytes : IsBytes filled = subst IsBytes (c.as_slice.ensures.value ∙ whole) c.byte_law.ensures in
    piece_failed c.args.kind c.args.name.now c.args.at c.args.long into filled c.in-Err.why called.0 (view g.D.Drive c.args.drive.now)
    (view g.D.Drive c.piece_into-answer.new.drive) (c.as_mut_slice.ensures.len ∙ c.in-Ok.ensures.len) called.1 called.2 bytes c.in-Err.ensures.cause
    c.in-Err.ensures.once
