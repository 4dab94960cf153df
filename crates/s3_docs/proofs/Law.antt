-- What is accepted is exactly the bytes of the trees, with what they say.
use Rattle.std.proofs.Common.{◌≡◌, ◌≢◌, refl, ◌∙◌, ap, subst, ℕ, suc, false, eqb, List, [], ◌∷◌, length, codes, Some, None, arith}
use Rattle.call_types.specs.declared.names.Mode.{Mode}
use Rattle.call_types.specs.declared.version.PartRef.{PartRef}
use Rattle.s3_docs.specs.declared.prologue.Root.{Root}
use Rattle.s3_docs.specs.declared.prologue.Root.TheVariants.{CompleteMultipartUpload, VersioningConfiguration}
use Rattle.s3_docs.specs.Machine.{Value, Parts, Versioning, Configuration, Start, Between, Inside, After}
use Rattle.s3_docs.specs.Outcomes.{Says, outcome}
use Rattle.s3_docs.specs.Documents.{IsDocument}
use Rattle.s3_docs.specs.Grammar.{◌·◌, IsGap, prologue_text, CompleteTree, SaysComplete, complete_text, parts_text, VersioningTree, SaysVersioning, versioning_text, settings_text}
use Rattle.s3_docs.proofs.Forward.{gap_read}
use Rattle.s3_docs.proofs.ForwardParts.{parts_read}
use Rattle.s3_docs.proofs.BackParts.{PartsBack, parts_back}
use Rattle.s3_docs.proofs.Prologues.{PrologueBack, prologue_read, prologue_back}
use Rattle.s3_docs.proofs.Settings.{SettingsBack, settings_read, settings_back}

after_read : (value : Value) (after : List ℕ) → IsGap after → outcome (After value) after ≡ Says value
after_read value [] is = refl
after_read value (b ∷ after) is = rw is.0 (after_read value after is.1)

end_read : (parts : List PartRef) → parts ≢ [] → (after : List ℕ)
    → outcome (Between parts) (codes "</CompleteMultipartUpload>" · after) ≡ outcome (After (Parts parts)) after
end_read [] some after = absurd (some refl)
end_read (part ∷ parts) some after = let nonzero : eqb (suc (length parts)) 0 ≡ false = search arith in rw nonzero refl

complete_read : (tree : CompleteTree) (parts : List PartRef) → SaysComplete tree parts
    → outcome (Start CompleteMultipartUpload) (complete_text tree) ≡ Says (Parts parts)
complete_read tree parts says =
    let last = tree.last_gap · codes "</CompleteMultipartUpload>" · tree.after in
    prologue_read CompleteMultipartUpload tree.prologue says.prologue (parts_text tree.parts last)
    ∙ parts_read tree.parts parts [] says.says last
    ∙ gap_read (Between parts) refl tree.last_gap says.last_gap (codes "</CompleteMultipartUpload>" · tree.after)
    ∙ end_read parts says.some tree.after
    ∙ after_read (Parts parts) tree.after says.after

versioning_read : (tree : VersioningTree) (mode : Mode) → SaysVersioning tree mode
    → outcome (Start VersioningConfiguration) (versioning_text tree) ≡ Says (Versioning mode)
versioning_read tree mode says =
    let last = tree.last_gap · codes "</VersioningConfiguration>" · tree.after in
    prologue_read VersioningConfiguration tree.prologue says.prologue (settings_text tree.settings last)
    ∙ settings_read tree.settings None mode says.settings says.says last
    ∙ gap_read (Inside (Configuration (Some mode))) refl tree.last_gap says.last_gap (codes "</VersioningConfiguration>" · tree.after)
    ∙ after_read (Versioning mode) tree.after says.after

pub document_accepted : (root : Root) (bytes : List ℕ) (value : Value) → IsDocument root bytes value → outcome (Start root) bytes ≡ Says value
document_accepted CompleteMultipartUpload bytes (Parts parts) is = rw is.2 (complete_read is.0 parts is.1)
document_accepted CompleteMultipartUpload bytes (Versioning mode) is = absurd is
document_accepted VersioningConfiguration bytes (Versioning mode) is = rw is.2 (versioning_read is.0 mode is.1)
document_accepted VersioningConfiguration bytes (Parts parts) is = absurd is

pub accepted_document : (root : Root) (bytes : List ℕ) (value : Value) → outcome (Start root) bytes ≡ Says value → IsDocument root bytes value
accepted_document CompleteMultipartUpload bytes value goes =
    let start = prologue_back CompleteMultipartUpload value bytes goes in
    let parts = parts_back (suc (length start.rest)) [] value start.rest (omega arith) start.goes in
    subst (λ (value : Value). IsDocument CompleteMultipartUpload bytes value) parts.value_is (spelled start parts)
  where
    spelled : (start : PrologueBack CompleteMultipartUpload bytes value) (parts : PartsBack [] start.rest value) → IsDocument CompleteMultipartUpload bytes (Parts parts.parts)
    spelled start parts =
        let tree : CompleteTree = record { prologue = start.prologue; parts = parts.trees; last_gap = parts.last_gap; after = parts.after } in
        (tree, record { prologue = start.is; says = parts.say; some = parts.some; last_gap = parts.gap_is; after = parts.after_is }, start.whole ∙ ap (prologue_text CompleteMultipartUpload start.prologue) parts.whole)
accepted_document VersioningConfiguration bytes value goes =
    let start = prologue_back VersioningConfiguration value bytes goes in
    let settings = settings_back (suc (length start.rest)) None value start.rest (omega arith) start.goes in
    subst (λ (value : Value). IsDocument VersioningConfiguration bytes value) settings.value_is (spelled start settings)
  where
    spelled : (start : PrologueBack VersioningConfiguration bytes value) (settings : SettingsBack None start.rest value) → IsDocument VersioningConfiguration bytes (Versioning settings.mode)
    spelled start settings =
        let tree : VersioningTree = record { prologue = start.prologue; settings = settings.settings; last_gap = settings.last_gap; after = settings.after } in
        (tree, record { prologue = start.is; settings = settings.are; says = settings.one; last_gap = settings.gap_is; after = settings.after_is }, start.whole ∙ ap (prologue_text VersioningConfiguration start.prologue) settings.whole)
