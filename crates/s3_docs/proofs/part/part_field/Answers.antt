use Rattle.std.proofs.Common.{◌≡◌, ◌∙◌, sym, subst, ℕ, List, codes}
use Rattle.std.proofs.lemmas.Result.{IfErr-weaker}
use Rattle.std.proofs.lemmas.Slice.Eq.{bytes_eq-Decides}
use Rattle.call_types.specs.declared.version.PartRef.{PartRef}
use Rattle.s3_docs.specs.Machine.{Part, Inner, Name}
use Rattle.s3_docs.specs.Reads.{Stops}
use Rattle.s3_docs.proofs.part.part_field.Goals as goal

pub returns-then-eq-clause-stops : goal.returns-then-eq-clause-stops
returns-then-eq-clause-stops c =
    let name = c.name_of-named.result.name.now in
    let same : name ≡ codes "PartNumber" =
    (bytes_eq-Decides name c.as_slice.result.now).0 (sym c.eq.ensures ∙ c.if-eq.true) ∙ c.as_slice.ensures in
    let number = c.args.fields.number in
    let md5 = c.args.fields.md5 in
    let rest = c.name_of-named.result.rest.now in
    IfErr-weaker c.number_field.result
    (λ (left : ℕ). (parts : List PartRef) → Stops (Name (Part parts number md5) (codes "PartNumber")) rest left)
    (λ (left : ℕ). (parts : List PartRef) → Stops (Inner (Part parts number md5)) c.args.text.now left)
    (λ left stops parts. c.name_of-named.ensures.reads (Part parts number md5)
    ∙ subst (λ (name : List ℕ). Stops (Name (Part parts number md5) name) rest left) (sym same) (stops parts))
    c.number_field.ensures.stops
