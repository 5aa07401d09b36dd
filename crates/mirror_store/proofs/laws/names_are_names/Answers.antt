use Rattle.std.proofs.lemmas.List.Elements.{All-from_recursion}
use Rattle.packed_names.specs.Ranges.{IsDesignation}
use Rattle.act_model.specs.Deeds.{deeds}
use Rattle.act_model.specs.Designations.{links_of, principals}
use Rattle.mirror_store.proofs.NameLemmas.{places_are, principals_are}
use Rattle.mirror_store.proofs.laws.names_are_names.Goals as goal

pub returns-clause-principals : goal.returns-clause-principals
returns-clause-principals c = λ history.
    All-from_recursion IsDesignation (principals (links_of (deeds history))) (principals_are c.names_are_names.ensures.given history)

pub returns-clause-places : goal.returns-clause-places
returns-clause-places c = places_are (λ history. (c.one_place.ensures history).homes) c.names_are_names.ensures.principal
