use Rattle.std.proofs.Common.{sym, ◌∙◌}
use Rattle.version_list.proofs.PlaceLemmas.{version_place, behind_version}
use Rattle.version_list.proofs.places.place_in_version.Goals as goal

pub returns-then-is_named : goal.returns-then-is_named
returns-then-is_named c = sym (version_place c.args.version.now c.args.id c.args.at (sym c.is_named.ensures ∙ c.if-is_named.true))

pub returns : goal.returns
returns c = c.place_in_what.ensures ∙ sym (behind_version c.args.version.now c.args.id c.args.at (sym c.is_named.ensures ∙ c.if-is_named.false))
