use Rattle.http_wire.proofs.FramingLemmas.{none_say}
use Rattle.http_wire.proofs.framing.stated_length.Goals as goal

pub returns-in-None : goal.returns-in-None
returns-in-None c = none_say c.args.head.now.lines c.in-None.ensures
