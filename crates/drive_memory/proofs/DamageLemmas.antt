-- What a hurt byte leaves of the files.
use Rattle.std.specs.Prelude.{◌≡◌, ℕ, ◌<◌, ◌≤◌, Bool, true, false, List, length, Some, String}
use Rattle.std.proofs.Common.{ap, sym, inr}
use Rattle.std.specs.BTreeMap.{BTreeMap, get_by_text}
use Rattle.std.specs.Bool.{OnTrue, OnFalse}
use Rattle.std.specs.Option.{option_map}
use Rattle.drive_base.specs.Files.{with_name}
use Rattle.drive_memory.proofs.FilesLemmas.{files_in, files-hurt, files-whole}
use Rattle.drive_memory.specs.Damage.{HurtLeaves, hurt_bytes}
use Rattle.drive_memory.specs.Maps.{kept_bytes, shown_bytes}
use Rattle.drive_memory.specs.declared.loose.Loose.{Loose}
use Rattle.drive_memory.specs.declared.placed.PlacedFile.{PlacedFile}

-- a file in place was hurt, or the byte isn't there
pub hurt_leaves : {Y : Type 0} (p q : BTreeMap (String Y) PlacedFile) (m : BTreeMap (String Y) Loose) (name : List ℕ) (old new : PlacedFile) (place : ℕ) (hurt : Bool)
    → Some old ≡ get_by_text p name
    → get_by_text q ≡ with_name (get_by_text p) name (Some new)
    → kept_bytes new ≡ kept_bytes old
    → OnTrue hurt (place < length (shown_bytes old))
    → OnTrue hurt (shown_bytes new ≡ hurt_bytes (shown_bytes old) place)
    → OnFalse hurt (length (shown_bytes old) ≤ place)
    → OnFalse hurt (shown_bytes new ≡ shown_bytes old)
    → HurtLeaves (files_in p m) name place hurt (files_in q m)
hurt_leaves p q m name old new place true found written kept there turned absent whole =
    (shown_bytes old, ap (option_map shown_bytes) (sym found), there, files-hurt p m q name old new place found kept turned written)
hurt_leaves p q m name old new place false found written kept there turned absent whole =
    (inr (shown_bytes old, ap (option_map shown_bytes) (sym found), absent), files-whole p m q name old new found kept whole written)
