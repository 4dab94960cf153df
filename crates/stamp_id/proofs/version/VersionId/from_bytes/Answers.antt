use Rattle.std.proofs.Common.{◌≡◌, ◌++◌, ap, ap₂, sym, ◌∙◌, Ok, arith}
use Rattle.std.specs.Int.{w64, to_be_bytes}
use Rattle.stamp_id.specs.Layout.{high_word_of, low_word_of}
use Rattle.stamp_id.specs.VersionId.{id_bytes}
use Rattle.stamp_id.proofs.IdLemmas.{id_bytes-injective}
use Rattle.stamp_id.proofs.version.VersionId.from_bytes.Goals as goal

pub returns-clause-ok : goal.returns-clause-ok
unfolding id_bytes
returns-clause-ok c =
    let words = c.from_bytes-high.result in
    let id = c.from_parts.result in
    let high : words.0 ≡ high_word_of id.change.0.term id.slot =
    rw (c.from_parts.ensures.change, c.from_parts.ensures.slot) (omega arith) in
    let low : words.1 ≡ low_word_of id.change.0.seq = rw c.from_parts.ensures.change (omega arith) in
    c.from_bytes-high.ensures.bytes ∙ ap₂ (λ h l. to_be_bytes w64 h ++ to_be_bytes w64 l) high low

-- the bytes are those of one id
pub returns-clause-reads : goal.returns-clause-reads
returns-clause-reads c = λ v same. ap Ok (id_bytes-injective _ v (sym (returns-clause-ok c) ∙ same))
