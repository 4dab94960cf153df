use Rattle.get_read.proofs.ReaderLemmas.{tells_found}
use Rattle.get_read.proofs.reader.Reader.manifest.Goals as goal

pub returns-in-Searching-clause-found : goal.returns-in-Searching-clause-found
returns-in-Searching-clause-found c = tells_found c.args.self.now

pub returns-in-Fetching-clause-found : goal.returns-in-Fetching-clause-found
returns-in-Fetching-clause-found c = tells_found c.args.self.now

pub returns-in-Ended-clause-found : goal.returns-in-Ended-clause-found
returns-in-Ended-clause-found c = tells_found c.args.self.now

pub returns-in-Refused-clause-found : goal.returns-in-Refused-clause-found
returns-in-Refused-clause-found c = tells_found c.args.self.now
