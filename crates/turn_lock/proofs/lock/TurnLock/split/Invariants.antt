use Rattle.turn_lock.proofs.lock.TurnLock.split.Given as goal

-- the second pass has so many parts
abbrev pub ghosts-cut : goal.ghosts-cut
ghosts-cut g a = record { amount = a.parts }
