use Rattle.http_connection.proofs.laws.call_laws.Goals as goal

pub returns : goal.returns
returns c =
    record {
      readings = c.readings_go_on.ensures;
      follow = c.beginnings.ensures.follow;
      longer = c.beginnings.ensures.longer;
      one = c.beginnings.ensures.one;
      here = c.calls_are_true.ensures.here;
      grows = c.calls_are_true.ensures.grows;
      place = c.calls_are_true.ensures.place;
      later = c.calls_are_true.ensures.later;
      has_stamp = c.stamps_grow.ensures.here;
      stamps = c.stamps_grow.ensures.grows;
      stamps_follow = c.stamps_grow.ensures.follow;
      stamped_later = c.stamps_grow.ensures.later;
    }
