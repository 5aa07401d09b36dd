use Rattle.intake_lock.proofs.lock.TurnLock.leave.Given as goal

abbrev pub ghosts-publish : goal.ghosts-publish
ghosts-publish g a = record { office = g.V.Keeper.office a.keeper.now; items = a._log.now.view }
