use Rattle.get_read.proofs.reader.Reader.begin.Goals as goal

pub returns-clause-begins : goal.returns-clause-begins
returns-clause-begins c =
    rw c.fetch_on.ensures.step (c.in_ok-fetching.fetching, c.fetch_on.ensures.state, c.in_ok-fetching.ensures.0, c.in_ok-fetching.ensures.1)
