-- Texts of tags, ids and names that headers and documents share.
use Rattle.std.specs.Prelude.{ℕ, Bool, List, ◌++◌, codes, if◌then◌else◌}
use Rattle.header_values.specs.EntityTags.{tag_text}
use Rattle.stamp_id.specs.VersionId.{id_text}
use Rattle.call_types.specs.declared.names.Etag.{Etag}
use Rattle.call_types.specs.declared.names.VersionName.{VersionName}
use Rattle.call_types.specs.declared.names.VersionName.TheVariants.{Null, Id}

-- an entity tag, in its double quotes (RFC 9110, section 8.8.3)
abbrev pub quoted_tag : Etag → List ℕ
quoted_tag etag = codes "\"" ++ tag_text etag.md5 etag.parts ++ codes "\""

-- the text of a version's name
abbrev pub name_text : VersionName → List ℕ
name_text Null = codes "null"
name_text (Id id) = id_text id

-- `true` or `false`
abbrev pub truth_text : Bool → List ℕ
truth_text truth = if truth then codes "true" else codes "false"
