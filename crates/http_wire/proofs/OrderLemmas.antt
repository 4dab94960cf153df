-- What was unread, and what of it was given.
use Rattle.std.proofs.Common.{◌≡◌, ℕ, List, [], ◌++◌, take, refl, sym, ap, ◌∙◌, subst}
use Rattle.std.specs.Prelude.{Option}
use Rattle.std.specs.Io.KnownBytes.{prepend_known, IsAtEnd}
use Rattle.io_base.proofs.Taking.{prepend_known-nil, prepend_known-joined}
use Rattle.httparse.specs.Grammar.{RequestHead, print_request}
use Rattle.http_wire.specs.declared.fault.WireFault.{WireFault}
use Rattle.http_wire.specs.declared.reading.Reading.TheVariants.{Whole, End, Refused}
use Rattle.http_wire.specs.Parts.{HeadParts, parts_of}
use Rattle.http_wire.specs.Answers.{Wired, ReadsNext, GivesPart}
use Rattle.http_wire.specs.Taking.{HandsOn, SourceView}
use Rattle.http_wire.specs.Laws.{GivesInOrder}

joined : (front rest : List ℕ) (after : Option (List ℕ)) → prepend_known front (prepend_known rest after) ≡ prepend_known (front ++ rest) after
joined front rest after =
    prepend_known-joined (prepend_known front (prepend_known rest after)) (prepend_known rest after) after front rest refl refl

-- what was handed on was unread, and what waits and is left still is
in_order : (bytes before waits : List ℕ) (source after : SourceView) → HandsOn bytes before waits source after
    → HandsOn bytes before waits source after × (prepend_known before source.left ≡ prepend_known bytes (prepend_known waits after.left))
in_order bytes before waits source after hands = (
  hands,
  ap (prepend_known before) hands.took.left ∙ joined before hands.piece after.left
      ∙ ap (λ (t : List ℕ). prepend_known t after.left) hands.are ∙ sym (joined bytes waits after.left),
)

-- and so where nothing was
none_in_order : (before waits : List ℕ) (source after : SourceView) → HandsOn [] before waits source after
    → HandsOn [] before waits source after × (prepend_known before source.left ≡ prepend_known waits after.left)
none_in_order before waits source after hands = (
  hands,
  (in_order [] before waits source after hands).1 ∙ joined [] waits after.left,
)

head_in_order : (head : HeadParts) (n : ℕ) (before waits : List ℕ) (source after : SourceView) (faults faults_after : ℕ)
    → ReadsNext (Whole head n) before waits source after faults faults_after
    → (tree : RequestHead) × (head ≡ parts_of tree) × HandsOn (print_request tree) before waits source after
    × (prepend_known before source.left ≡ prepend_known (print_request tree) (prepend_known waits after.left))
head_in_order head n before waits source after faults faults_after reads =
    let gives = reads.decides.0 in
    let came = reads.came in
    let hands : HandsOn (print_request gives.tree) before waits source after =
    record { piece = came.piece; took = came.took; are = sym came.text_is ∙ gives.begins.reads.1 } in
    let so = in_order (print_request gives.tree) before waits source after hands in
    (gives.tree, gives.parts, so.0, so.1)

refused_in_order : (fault : WireFault) (before waits : List ℕ) (source after : SourceView) (faults faults_after : ℕ)
    → ReadsNext (Refused fault) before waits source after faults faults_after
    → HandsOn [] before waits source after × (prepend_known before source.left ≡ prepend_known waits after.left)
refused_in_order fault before waits source after faults faults_after reads =
    let came = reads.came in
    none_in_order before waits source after (record { piece = came.piece; took = came.took; are = sym came.text_is ∙ sym reads.decides.1 })

end_in_order : (before waits : List ℕ) (source after : SourceView) (faults faults_after : ℕ)
    → ReadsNext End before waits source after faults faults_after
    → HandsOn [] before waits source after × (prepend_known before source.left ≡ prepend_known waits after.left)
    × IsAtEnd (prepend_known before source.left)
end_in_order before waits source after faults faults_after reads =
    let ends = reads.decides in
    let came = reads.came in
    let hands = none_in_order before waits source after
    (record { piece = came.piece; took = came.took; are = sym came.text_is ∙ ends.0 ∙ sym ends.1 }) in (
      hands.0,
      hands.1,
      subst IsAtEnd (prepend_known-nil after.left ∙ ap (λ (t : List ℕ). prepend_known t after.left) (sym ends.1) ∙ sym hands.1) ends.2.left,
    )

part_in_order : (n : ℕ) (into : List ℕ) (old new : Wired) (source after : SourceView) (faults faults_after : ℕ)
    → GivesPart n into old new source after faults faults_after
    → HandsOn (take n into) old.waits new.waits source after
    × (prepend_known old.waits source.left ≡ prepend_known (take n into) (prepend_known new.waits after.left))
part_in_order n into old new source after faults faults_after gives =
    in_order (take n into) old.waits new.waits source after (record { piece = gives.piece; took = gives.took; are = gives.joined })

pub gives_in_order : GivesInOrder
gives_in_order = record { head = head_in_order; refused = refused_in_order; end = end_in_order; part = part_in_order }
