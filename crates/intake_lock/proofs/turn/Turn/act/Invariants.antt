use Rattle.intake_lock.proofs.turn.Turn.act.Given as goal

abbrev pub ghosts-note_call : goal.ghosts-note_call
ghosts-note_call g a =
    record {
      before = g.V.Keeper.office a._before.now.value;
      request = a._request.now;
      reading = a._reading;
      reply = a._reply.now;
      after = g.V.Keeper.office a._keeper.now;
    }
