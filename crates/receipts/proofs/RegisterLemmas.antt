-- The slots of registers are below 64.
use Rattle.std.proofs.Common.{◌+◌, ◌*◌, ◌%◌, ◌<◌, ℕ, List, [], ◌∷◌, fold, mod-lt, arith}
use Rattle.call_types.specs.declared.names.Key.{Key}
use Rattle.receipts.specs.Registers.{bucket_slot, key_slot, path_of}

below_from : (text : List ℕ) (h : ℕ) → h < 64 → fold (λ (n byte : ℕ). (31 * n + byte) % 64) h text < 64
below_from [] h low = low
below_from (byte ∷ text) h low = below_from text ((31 * h + byte) % 64) (mod-lt (31 * h + byte) (omega arith))

pub bucket_slot_below : (bucket : List ℕ) → bucket_slot bucket < 64
bucket_slot_below bucket = below_from bucket 0 (omega arith)

pub key_slot_below : (at : Key) → key_slot at < 64
key_slot_below at = below_from (path_of at) 0 (omega arith)
