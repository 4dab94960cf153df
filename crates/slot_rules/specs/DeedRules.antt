-- The contents over which deeds are done, by the registers of their kinds.
use Rattle.std.specs.Prelude.{◌≡◌, ℕ, false, List, Option, Some, None}
use Rattle.stamp_id.specs.declared.version.VersionId.{VersionId}
use Rattle.bucket_book.specs.Content.{content_fault}
use Rattle.version_list.specs.NamesId.{names_id}
use Rattle.version_list.specs.declared.state.KeyState.{KeyState}
use Rattle.upload_book.specs.Content.{content_fault as part_fault}
use Rattle.slot_history.specs.Contents.{SpellsBucket, SpellsKey, SpellsPart}
use Rattle.slot_rules.specs.Rules.{IsRead, key_fault}
use Rattle.slot_rules.specs.declared.commit.Commit.{Commit}
use Rattle.slot_rules.specs.declared.commit.Commit.TheVariants as commit
use Rattle.slot_rules.specs.declared.deed_rule.DeedRule.{DeedRule}
use Rattle.slot_rules.specs.declared.deed_rule.DeedRule.TheVariants.{Bucket, Key, Part}
use Rattle.slot_rules.specs.declared.owning.OwnIds.{OwnIds}
use Rattle.slot_rules.specs.declared.rules.TheConstants.{BUCKET_BYTES, KEY_BYTES, PART_BYTES}

-- the place where a content breaks the rule
abbrev pub deed_fault : DeedRule → List ℕ → Option ℕ
deed_fault (Key rule) content = key_fault rule.first rule.second content
deed_fault (Bucket rule) content = content_fault content
deed_fault (Part rule) content = part_fault content

-- the most bytes of a content that meets it
abbrev pub deed_most : DeedRule → ℕ
deed_most (Key rule) = KEY_BYTES
deed_most (Bucket rule) = BUCKET_BYTES
deed_most (Part rule) = PART_BYTES

-- what it keeps of a content that it accepted
abbrev pub DeedHasRead : DeedRule → List ℕ → Type 0
DeedHasRead (Key rule) content = (state : KeyState) × (rule.state ≡ Some state) × IsRead rule.first rule.second content state
DeedHasRead (Bucket rule) content = SpellsBucket content rule.row
DeedHasRead (Part rule) content = SpellsPart content rule.row

-- it read a content at which a change of this id is new
abbrev pub IsReadFor : DeedRule → VersionId → List ℕ → Type 0
IsReadFor (Key rule) id content = (state : KeyState) × (rule.state ≡ Some state) × SpellsKey content state × (names_id id state ≡ false)
IsReadFor (Bucket rule) id content = SpellsBucket content rule.row
IsReadFor (Part rule) id content = SpellsPart content rule.row

-- the rule of a deed whose change has one of these ids
abbrev pub IsDeedRule : Commit → OwnIds → DeedRule → Type 0
IsDeedRule (commit.Key at mode act) ids rule = rule ≡ Key (record { first = Some ids.alone; second = Some ids.after; state = None })
IsDeedRule (commit.Part at upload number part) ids rule = rule ≡ Part (record { row = None })
IsDeedRule (commit.MakeBucket bucket) ids rule = rule ≡ Bucket (record { row = None })
IsDeedRule (commit.SetMode bucket mode) ids rule = rule ≡ Bucket (record { row = None })
