use Rattle.std.proofs.Common.{◌≡◌, ℕ, Some}
use Rattle.tracklet_file.specs.declared.observation.Observation.{Observation}
use Rattle.tracklet_file.specs.Numbering.{numbered}
use Rattle.act_model.specs.Deeds.{deeds}
use Rattle.act_model.specs.Designations.{links_of, principals}
use Rattle.act_model.specs.Holdings.{holdings}
use Rattle.act_model.specs.Observations.{observations}
use Rattle.act_model.specs.Shelves.{numbers_to}
use Rattle.mirror_store.specs.Mirrored.{mirrored, sight_of}
use Rattle.mirror_store.specs.Rows.{IsSightRow}
use Rattle.mirror_store.proofs.NameLemmas.{observation_at, principals_are, principals_ascend}
use Rattle.mirror_store.proofs.ObjectLemmas.{objects_are, places_ascend, principals_differ}
use Rattle.mirror_store.proofs.SightLemmas.{IsKnown, all_given, id_is, ids_ascend, sight_is}
use Rattle.mirror_store.proofs.laws.rows_are_replaceable.Goals as goal

pub returns : goal.returns
unfolding mirrored
returns c = λ history.
    let past = deeds history in
    let acts = links_of past in
    let given = c.names_are_names.ensures in
    let named = principals_are given.given history in
    let known : (k : ℕ) (o : Observation) → numbered (holdings past).observations k ≡ Some o → IsKnown past o =
    λ k o there. record {
      filed = c.observations_are_filed.ensures history k o there;
      code = c.stations_are_codes.ensures history k o there;
      place = observation_at (λ before. (c.one_place.ensures before).homes) given.principal history o;
    } in
    record {
      objects = objects_are c.texts.ensures past (given.number history) 1 (principals acts) named;
      sights = all_given IsSightRow (sight_of past) (numbers_to (observations past)) (λ k row. sight_is c.texts.ensures past k row (known k));
      places = places_ascend past 1 (principals acts);
      principals = principals_differ c.given_ascend.ensures.itself c.printed_one_to_one.ensures.one_name past 1 (principals acts) named (principals_ascend acts (c.given_ascend.ensures.ascending acts));
      ids = ids_ascend (sight_of past) (id_is past) (observations past);
    }
