-- What was taken of a source, put together.
use Rattle.std.proofs.Common.{ℕ, List, [], ◌++◌, sym, ap, ◌∙◌, append_assoc, append-nil}
use Rattle.std.specs.Io.KnownBytes.{prepend_known}
use Rattle.io_base.proofs.Taking.{prepend_known-nil, prepend_known-joined}
use Rattle.http_wire.specs.Taking.{SourceView, Taken, TakenNone}

-- nothing was taken yet
pub taken_none : (source : SourceView) → Taken [] source source
taken_none source = record { left = prepend_known-nil source.left; takes = sym (append-nil _) }

-- two pieces, one behind the other
pub taken_both : (first second : List ℕ) (old mid new : SourceView) → Taken first old mid → Taken second mid new → Taken (first ++ second) old new
taken_both first second old mid new one two = record {
  left = prepend_known-joined old.left mid.left new.left first second one.left two.left;
  takes = two.takes ∙ ap (λ l. l ++ second) one.takes ∙ append_assoc _ first second;
}

-- and then a take that took nothing
pub taken_still : (bytes : List ℕ) (old mid new : SourceView) → Taken bytes old mid → TakenNone mid new → Taken bytes old new
taken_still bytes old mid new took none = record {
  left = took.left ∙ ap (prepend_known bytes) (sym none.left);
  takes = none.takes ∙ took.takes;
}
