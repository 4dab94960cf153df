use Rattle.s3_reply.proofs.UrlLemmas.{escaped_url}
use Rattle.s3_reply.proofs.escaping.push_listed.Goals as goal

pub returns-then-encoded : goal.returns-then-encoded
returns-then-encoded c = rw (c.if-encoded.true, escaped_url) c.push_url.ensures
