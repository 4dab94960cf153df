use Rattle.std.proofs.Common.{◌≡◌, ℕ, ap, Ok, Err}
use Rattle.call_types.specs.declared.names.Mode.{Mode}
use Rattle.s3_docs.specs.declared.prologue.Root.TheVariants.{VersioningConfiguration}
use Rattle.s3_docs.specs.declared.fault.DocFault.TheVariants.{MalformedXML}
use Rattle.s3_docs.specs.Machine.{Value, Parts, Versioning}
use Rattle.s3_docs.proofs.Law.{accepted_document}
use Rattle.s3_docs.proofs.Places.{place_of, one_value, no_value, one_place, no_place}
use Rattle.s3_docs.proofs.read_versioning.Goals as goal

same_mode : (a b : Mode) → Versioning a ≡ Versioning b → a ≡ b
same_mode a b e = ap mode_in e
  where
    mode_in : Value → Mode
    mode_in (Versioning mode) = mode
    mode_in (Parts parts) = a

pub overflow_sub-result : goal.overflow_sub-result
overflow_sub-result c = (place_of VersioningConfiguration c.args.bytes.now c.in-Err.left c.in-Err.ensures.stops).0

pub returns-in-Ok-clause-reads : goal.returns-in-Ok-clause-reads
returns-in-Ok-clause-reads c = accepted_document VersioningConfiguration c.args.bytes.now (Versioning c.in-Ok.mode) c.in-Ok.ensures.reads

pub returns-in-Ok-clause-only : goal.returns-in-Ok-clause-only
returns-in-Ok-clause-only c = λ mode document.
    ap Ok (same_mode c.in-Ok.mode mode (one_value VersioningConfiguration c.args.bytes.now (Versioning c.in-Ok.mode) (Versioning mode) c.in-Ok.ensures.reads document))

pub returns-in-Ok-clause-refused : goal.returns-in-Ok-clause-refused
returns-in-Ok-clause-refused c = λ place is. absurd (no_place VersioningConfiguration c.args.bytes.now place (Versioning c.in-Ok.mode) c.in-Ok.ensures.reads is)

pub returns-in-Err-clause-only : goal.returns-in-Err-clause-only
returns-in-Err-clause-only c = λ mode document. absurd (no_value VersioningConfiguration c.args.bytes.now c.in-Err.left (Versioning mode) c.in-Err.ensures.stops document)

pub returns-in-Err-clause-refuses : goal.returns-in-Err-clause-refuses
returns-in-Err-clause-refuses c = (place_of VersioningConfiguration c.args.bytes.now c.in-Err.left c.in-Err.ensures.stops).1

pub returns-in-Err-clause-refused : goal.returns-in-Err-clause-refused
returns-in-Err-clause-refused c = λ place is.
    ap (λ (place : ℕ). Err (MalformedXML place)) (one_place VersioningConfiguration c.args.bytes.now c.in-Err.left place c.in-Err.ensures.stops is)
