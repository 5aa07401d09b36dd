-- What the resolver reads in the texts, under the schema that each meets.
use Rattle.std.proofs.Common.{◌≡◌, ℕ, pos, negsuc, List, [], ◌∷◌, codes, false, None, Ok, refl}
pub use Rattle.mirror_sqlite.specs.Texts.{add_object, add_sight, list_objects, list_sights}
use Rattle.sqlite.specs.declared.types.Value.TheVariants.{Null, Int}
use Rattle.sqlite.specs.Term.{Term, lit, col, op2}
use Rattle.sqlite.specs.Query.{Query, inner, end}
use Rattle.sqlite.specs.Command.TheVariants.{CreateTable, Insert, Delete, Select}
use Rattle.sqlite.specs.Source.TheVariants.{Values}
use Rattle.sqlite.specs.Compile.{table_defined_by}
use Rattle.sqlite_sql.specs.declared.ops.BinaryOp.TheVariants.{Compare}
use Rattle.sqlite_sql.specs.declared.ops.CompareOp.TheVariants.{Ge, Lt}
use Rattle.sqlite_schema.specs.declared.program.Program.{Program}
use Rattle.sqlite_value.specs.Keys.{ascending}
use Rattle.sqlite_value.specs.declared.keys.Key.{Key}
use Rattle.sqlite.specs.Collation.TheVariants.{Binary}
use Rattle.sqlite_tied.specs.Compute.{everything}
use Rattle.sqlite.specs.Listing.{understood, reads_listing}
use Rattle.sqlite.proofs.Callers.{command_of, statement_of, IsPlain}
use Rattle.mirror_sqlite.specs.Tables.{object_table, sight_table, no_schema, object_schema, mirror_schema}

-- ---- the texts

abbrev pub make_objects : List ℕ
make_objects =
    codes "CREATE TABLE IF NOT EXISTS object (place INTEGER PRIMARY KEY, principal TEXT NOT NULL UNIQUE, number INTEGER NOT NULL, observations INTEGER NOT NULL) STRICT"

abbrev pub make_sights : List ℕ
make_sights =
    codes "CREATE TABLE IF NOT EXISTS sight (id INTEGER PRIMARY KEY, object TEXT NOT NULL, time INTEGER NOT NULL, ra INTEGER NOT NULL, dec INTEGER NOT NULL, station TEXT NOT NULL) STRICT"

abbrev pub empty_sights : List ℕ
empty_sights = codes "DELETE FROM sight"

abbrev pub empty_objects : List ℕ
empty_objects = codes "DELETE FROM object"

-- ---- what they are

-- the rows of a tree that pass the terms, what is shown of each, and in which order
abbrev pub query_of : ℕ → List Term → List Term → List (Term × Key) → Query
query_of tree tests shown order = record {
  from = inner tree end;
  filter = tests;
  group = None;
  project = shown;
  distinct = false;
  collations = [];
  order = order;
  limit = lit (Int (negsuc 0));
  offset = lit (Int (pos 0));
}

-- the rowids of a tree
abbrev pub rowids_query : ℕ → Query
rowids_query tree = query_of tree [] (col 1 0 ∷ []) []

abbrev pub objects_query : Query
objects_query = query_of 0 [] (col 1 0 ∷ col 1 2 ∷ col 1 3 ∷ col 1 4 ∷ []) ((col 1 0, ascending Binary) ∷ [])

abbrev pub in_time : List Term
in_time = op2 (Compare Ge Binary) (col 1 3) (col 0 0) ∷ op2 (Compare Lt Binary) (col 1 3) (col 0 1) ∷ []

abbrev pub sights_query : Query
sights_query =
    query_of 2 in_time (col 1 0 ∷ col 1 2 ∷ col 1 3 ∷ col 1 4 ∷ col 1 5 ∷ col 1 6 ∷ [])
    ((col 1 3, ascending Binary) ∷ (col 1 0, ascending Binary) ∷ [])

abbrev pub alone : Query → Program
alone query = record { lets = []; body = query }

abbrev pub object_terms : List Term
object_terms = col 0 0 ∷ lit Null ∷ col 0 1 ∷ col 0 2 ∷ col 0 3 ∷ []

abbrev pub sight_terms : List Term
sight_terms = col 0 0 ∷ lit Null ∷ col 0 1 ∷ col 0 2 ∷ col 0 3 ∷ col 0 4 ∷ col 0 5 ∷ []

pub make_objects_is : (command_of (understood no_schema make_objects) ≡ CreateTable)
    × (statement_of make_objects (understood no_schema make_objects) ≡ make_objects)
    × (table_defined_by make_objects ≡ Ok object_table) × IsPlain (understood no_schema make_objects)
unfolding understood everything
make_objects_is = (refl, refl, refl, (refl, refl))

pub make_sights_is : (command_of (understood object_schema make_sights) ≡ CreateTable)
    × (statement_of make_sights (understood object_schema make_sights) ≡ make_sights)
    × (table_defined_by make_sights ≡ Ok sight_table) × IsPlain (understood object_schema make_sights)
unfolding understood everything
make_sights_is = (refl, refl, refl, (refl, refl))

pub empty_sights_is : (command_of (understood mirror_schema empty_sights) ≡ Delete 1 (alone (rowids_query 2)))
    × IsPlain (understood mirror_schema empty_sights)
unfolding understood everything
empty_sights_is = (refl, (refl, refl))

pub empty_objects_is : (command_of (understood mirror_schema empty_objects) ≡ Delete 0 (alone (rowids_query 0)))
    × IsPlain (understood mirror_schema empty_objects)
unfolding understood everything
empty_objects_is = (refl, (refl, refl))

pub add_object_is : (command_of (understood mirror_schema add_object) ≡ Insert 0 (Values object_terms 5))
    × IsPlain (understood mirror_schema add_object)
unfolding understood everything
add_object_is = (refl, (refl, refl))

pub add_sight_is : (command_of (understood mirror_schema add_sight) ≡ Insert 1 (Values sight_terms 7))
    × IsPlain (understood mirror_schema add_sight)
unfolding understood everything
add_sight_is = (refl, (refl, refl))

abbrev pub object_names : List (List ℕ)
object_names = codes "place" ∷ codes "principal" ∷ codes "number" ∷ codes "observations" ∷ []

pub list_objects_is : (command_of (understood mirror_schema list_objects) ≡ Select (alone objects_query) object_names)
    × (reads_listing mirror_schema list_objects ≡ false) × IsPlain (understood mirror_schema list_objects)
unfolding understood everything
list_objects_is = (refl, refl, (refl, refl))

abbrev pub sight_names : List (List ℕ)
sight_names =
    codes "id" ∷ codes "object" ∷ codes "time" ∷ codes "ra" ∷ codes "dec" ∷ codes "station" ∷ []

pub list_sights_is : (command_of (understood mirror_schema list_sights) ≡ Select (alone sights_query) sight_names)
    × (reads_listing mirror_schema list_sights ≡ false) × IsPlain (understood mirror_schema list_sights)
unfolding understood everything
list_sights_is = (refl, refl, (refl, refl))
