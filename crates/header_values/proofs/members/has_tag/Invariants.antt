use Rattle.std.proofs.Common.{◌≡◌, ◌≤◌, drop}
use Rattle.std.specs.List.{between, list_any}
use Rattle.header_values.specs.EntityTags.{is_tag, members_from, members_of}
use Rattle.header_values.proofs.members.has_tag.Given as goal

abbrev pub invariant-loop-i : goal.invariant-loop-i
invariant-loop-i l =
    (l.start ≤ l.i) × (list_any (is_tag l.tag) (members_of l.value) ≡ list_any (is_tag l.tag) (members_from l.quoted (between l.start l.i l.value) (drop l.i l.value)))
