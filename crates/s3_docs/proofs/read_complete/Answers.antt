use Rattle.std.proofs.Common.{◌≡◌, List, ◌∙◌, ap, sym, subst, inr}
use Rattle.call_types.specs.declared.version.PartRef.{PartRef}
use Rattle.s3_docs.specs.declared.prologue.Root.TheVariants.{CompleteMultipartUpload}
use Rattle.s3_docs.specs.Machine.{Value, Parts, Versioning}
use Rattle.s3_docs.specs.Documents.{IsDocument}
use Rattle.s3_docs.proofs.Law.{accepted_document}
use Rattle.s3_docs.proofs.Places.{place_of, one_value, no_value, one_place, no_place}
use Rattle.s3_docs.proofs.read_complete.Goals as goal

same_parts : (a b : List PartRef) → Parts a ≡ Parts b → a ≡ b
same_parts a b e = ap parts_in e
  where
    parts_in : Value → List PartRef
    parts_in (Parts parts) = parts
    parts_in (Versioning mode) = a

pub overflow_sub-result : goal.overflow_sub-result
overflow_sub-result c = (place_of CompleteMultipartUpload c.args.bytes.now c.in-Err-Left.left (rw c.in-Err-Left.field-0-is at c.in-Err-Left.ensures.stops)).0

pub returns-in-Ok-clause-reads : goal.returns-in-Ok-clause-reads
returns-in-Ok-clause-reads c =
    subst (λ (parts : List PartRef). IsDocument CompleteMultipartUpload c.args.bytes.now (Parts parts)) (sym c.from_vec.ensures)
    (accepted_document CompleteMultipartUpload c.args.bytes.now (Parts c.in-Ok.parts.items) c.in-Ok.ensures.reads)

pub returns-in-Ok-clause-only : goal.returns-in-Ok-clause-only
returns-in-Ok-clause-only c = λ parts document.
    c.from_vec.ensures ∙ same_parts c.in-Ok.parts.items parts
    (one_value CompleteMultipartUpload c.args.bytes.now (Parts c.in-Ok.parts.items) (Parts parts) c.in-Ok.ensures.reads document)

pub returns-in-Ok-clause-refused : goal.returns-in-Ok-clause-refused
returns-in-Ok-clause-refused c = λ place is. absurd (no_place CompleteMultipartUpload c.args.bytes.now place (Parts c.in-Ok.parts.items) c.in-Ok.ensures.reads is)

pub returns-in-Err-Left-clause-only : goal.returns-in-Err-Left-clause-only
returns-in-Err-Left-clause-only c = λ parts document.
    absurd (no_value CompleteMultipartUpload c.args.bytes.now c.in-Err-Left.left (Parts parts) (rw c.in-Err-Left.field-0-is at c.in-Err-Left.ensures.stops) document)

pub returns-in-Err-Left-clause-refuses : goal.returns-in-Err-Left-clause-refuses
returns-in-Err-Left-clause-refuses c =
    inr (place_of CompleteMultipartUpload c.args.bytes.now c.in-Err-Left.left (rw c.in-Err-Left.field-0-is at c.in-Err-Left.ensures.stops)).1

pub returns-in-Err-Left-clause-refused : goal.returns-in-Err-Left-clause-refused
returns-in-Err-Left-clause-refused c = λ place is.
    one_place CompleteMultipartUpload c.args.bytes.now c.in-Err-Left.left place (rw c.in-Err-Left.field-0-is at c.in-Err-Left.ensures.stops) is
