use Rattle.std.proofs.Common.{◌≡◌, ◌+◌, ◌++◌, take, vec_capacity, vec_len}
use Rattle.slot_rules.proofs.trash.add_gone.Given as goal

-- the first ids are in the trash
abbrev pub invariant-loop-id : goal.invariant-loop-id
invariant-loop-id l = record {
  items : l.trash.items ≡ l.initial.trash.items ++ take l.id-index l.fn.gone;
  len : vec_len l.trash ≡ vec_len l.initial.trash + l.id-index;
  capacity : vec_capacity l.trash ≡ vec_capacity l.initial.trash;
}
