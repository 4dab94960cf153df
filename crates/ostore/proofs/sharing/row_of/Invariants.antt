use Rattle.std.proofs.Common.{◌≡◌, map, take}
use Rattle.ostore.specs.Sharing.{LeadTo}
use Rattle.ostore.proofs.sharing.row_of.Given as goal

-- ways to the drives so far
abbrev pub invariant-loop-disk : goal.invariant-loop-disk
invariant-loop-disk g l = LeadTo g.D.Drive g.D.Share.root (take l.disk-index l.disks) l.row.items
