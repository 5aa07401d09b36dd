use Rattle.http_connection.proofs.laws.stream_laws.Goals as goal

pub returns : goal.returns
returns c =
    record {
      goes_on = c.goes_on.ensures.messages;
      now = c.never_a_message.ensures.now;
      later = c.never_a_message.ensures.later;
      some = c.never_a_message.ensures.some;
      nothing = c.no_message_yet.ensures.nothing;
    }
