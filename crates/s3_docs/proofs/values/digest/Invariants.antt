use Rattle.std.proofs.Common.{ℕ, [], length, ◌≤◌, ◌<◌, take, drop, get_or, ◌≡◌, true}
use Rattle.hex.specs.Hex.{is_hex_digit}
use Rattle.s3_docs.specs.Machine.{Holder, Quotation, Hex, behind_hex}
use Rattle.s3_docs.specs.Reads.{Reads}
use Rattle.s3_docs.proofs.values.digest.Given as goal

abbrev pub invariant-loop-i : goal.invariant-loop-i
invariant-loop-i l = record {
  within : l.i ≤ length l.text;
  digits : (k : ℕ) → k < l.i → is_hex_digit (get_or l.text k 0) ≡ true;
  reads : (holder : Holder) (quotation : Quotation)
      → Reads (Hex holder quotation []) l.text (behind_hex holder quotation (take l.i l.text)) (drop l.i l.text);
}
