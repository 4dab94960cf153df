-- Documents that are taken and read.
use Rattle.std.proofs.Common.{◌≡◌, ◌≤◌, ℕ, true, List, [], ◌∷◌, length, refl, ap, subst, arith}
use Rattle.std.proofs.lemmas.Str.{IsUtf8-from_ascii}
use Rattle.call_types.specs.declared.names.Mode.{Mode}
use Rattle.call_types.specs.declared.names.Mode.TheVariants.{Never, Enabled, Suspended}
use Rattle.bucket_book.specs.Step.{IsLawful}
use Rattle.bucket_book.specs.declared.step.BucketAct.TheVariants.{SetMode as SetModeAct}
use Rattle.s3_docs.specs.Documents.{IsDocument}
use Rattle.s3_docs.specs.Grammar.{AreSettings, IsAsked, Setting, modes}
use Rattle.s3_docs.specs.Grammar.Setting.{Else, Status}
use Rattle.s3_docs.specs.Machine.Value.{Versioning}
use Rattle.s3_docs.specs.declared.prologue.Root.TheVariants.{VersioningConfiguration}
use Rattle.bucket_ops.specs.Deeds.{AreLow, bucket_in, is_asked, is_on_bucket}
use Rattle.slot_rules.specs.Deeds.{IsLawfulDeed, IsNamedDeed, IsOfNoPart, name_of}
use Rattle.slot_rules.specs.declared.commit.Commit.TheVariants.{Key, Part, MakeBucket, SetMode}
use Rattle.slot_rules.specs.declared.commit.Commit.{Commit}

-- the first of some modes
abbrev first_of : Mode → List Mode → Mode
first_of other [] = other
first_of other (mode ∷ rest) = mode

-- each mode of a document is one that may be asked for
all_asked : (settings : List Setting) (mode : Mode) (rest : List Mode) → AreSettings settings → modes settings ≡ mode ∷ rest → IsAsked mode
all_asked [] mode rest are is = absurd cc
all_asked (Status gap before said after ∷ settings) mode rest are is = subst IsAsked (ap (first_of said) is) are.0.2
all_asked (Else passed ∷ settings) mode rest are is = all_asked settings mode rest are.1 is

asked_is : (mode : Mode) → IsAsked mode → is_asked mode ≡ true
asked_is Never asked = absurd asked
asked_is Enabled asked = refl
asked_is Suspended asked = refl

-- the mode that a document says may be set
pub mode_asked : (bytes : List ℕ) (mode : Mode) → IsDocument VersioningConfiguration bytes (Versioning mode) → is_asked mode ≡ true
mode_asked bytes mode is = asked_is mode (all_asked is.0.settings mode [] is.1.settings is.1.says)

-- a deed on a bucket is lawful, and its register has a lawful name
mode_lawful : (mode : Mode) → is_asked mode ≡ true → IsLawful (SetModeAct mode)
mode_lawful Never is = absurd cc
mode_lawful Enabled is = tt
mode_lawful Suspended is = tt

pub deed_lawful : (deed : Commit) → is_on_bucket deed ≡ true → IsLawfulDeed deed
deed_lawful (Key at mode done) is = absurd cc
deed_lawful (Part at upload number part) is = absurd cc
deed_lawful (MakeBucket bucket) is = tt
deed_lawful (SetMode bucket mode) is = mode_lawful mode is

-- it is of no part
pub deed_no_part : (deed : Commit) → is_on_bucket deed ≡ true → IsOfNoPart deed
deed_no_part (Key at mode done) is = absurd cc
deed_no_part (Part at upload number part) is = absurd cc
deed_no_part (MakeBucket bucket) is = tt
deed_no_part (SetMode bucket mode) is = tt

pub deed_text : (deed : Commit) → is_on_bucket deed ≡ true → AreLow (bucket_in deed) → IsNamedDeed deed
deed_text (Key at mode done) is low = absurd cc
deed_text (Part at upload number part) is low = absurd cc
deed_text (MakeBucket bucket) is low = IsUtf8-from_ascii bucket low
deed_text (SetMode bucket mode) is low = IsUtf8-from_ascii bucket low

pub deed_short : (deed : Commit) → is_on_bucket deed ≡ true → length (bucket_in deed) ≤ 63 → length (name_of deed) ≤ 1129
deed_short (Key at mode done) is short = absurd cc
deed_short (Part at upload number part) is short = absurd cc
deed_short (MakeBucket bucket) is short = omega (arith, short)
deed_short (SetMode bucket mode) is short = omega (arith, short)
