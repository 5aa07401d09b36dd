use Rattle.frame_service.proofs.serving.answer_frame.Goals as goal

pub returns-in-Ok-clause-answers : goal.returns-in-Ok-clause-answers
returns-in-Ok-clause-answers g c = λ front rest r. record {
  reply = _;
  answered = c.answer-spoken.ensures r.frame (record { key = r.key; number = r.number; verb = r.verb; body = r.body });
  writes = c.in-Ok.ensures.whole;
}

pub returns-clause-answers : goal.returns-clause-answers
returns-clause-answers g c = λ front rest r. record {
  reply = _;
  answered = c.answer-spoken.ensures r.frame (record { key = r.key; number = r.number; verb = r.verb; body = r.body });
  writes = c.in-Err.ensures.part;
}
