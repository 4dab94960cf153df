use Rattle.std.proofs.Common.{ap, ◌∙◌}
use Rattle.uuid.specs.Text.{hyphenated_text, lower}
use Rattle.stamp_id.specs.VersionId.{id_text}
use Rattle.stamp_id.proofs.version.VersionId.text.Goals as goal

pub returns : goal.returns
unfolding id_text
returns c =
    let bytes = c.hyphenated.ensures ∙ c.from_bytes-uuid.ensures ∙ c.bytes.ensures in
    c.in_ok-from_str.ensures.ok ∙ c.encode_lower-text.ensures.text ∙ ap (hyphenated_text lower) bytes
