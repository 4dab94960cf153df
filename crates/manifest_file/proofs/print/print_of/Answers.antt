use Rattle.std.proofs.Common.{◌≡◌, ℕ, [], length, ap, ◌∙◌}
use Rattle.std.specs.Int.{w16, to_be_bytes}
use Rattle.sha2.specs.Sha256.{sha256}
use Rattle.manifest_file.proofs.PrintText.{fed_text}
use Rattle.manifest_file.proofs.print.print_of.Goals as goal

pub returns : goal.returns
returns c =
    let manifest = c.args.manifest.now in
    let first = c.update.ensures [] c.new-hasher.ensures in
    let second = c.update-2.ensures _ first in
    let third = c.feed_parts.ensures _ second in
    let count : c.to_be_bytes.result ≡ to_be_bytes w16 (length manifest.parts) = c.to_be_bytes.ensures ∙ ap (λ (n : ℕ). to_be_bytes w16 n) c.len.ensures in
    let last = rw (c.as_slice.ensures, count) at (c.finalize.ensures _ third) in
    last ∙ ap sha256 (fed_text manifest.drives manifest.parity manifest.parts c.requires.drives c.requires.parity)
