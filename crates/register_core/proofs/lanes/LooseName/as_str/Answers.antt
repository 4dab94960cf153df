use Rattle.std.proofs.lemmas.Str.{IsUtf8-from_is_utf8}
use Rattle.register_core.proofs.lanes.LooseName.as_str.Goals as goal

pub unreachable-requires : goal.unreachable-requires
unreachable-requires c = c.in-Err.ensures.cases.0 (IsUtf8-from_is_utf8 c.args.self.now.letters c.args.self.now.text)
