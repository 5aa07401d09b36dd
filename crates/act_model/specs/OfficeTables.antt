-- The office's tables: the rows of the stations and codes that were entered, in their order.
use Rattle.std.specs.Prelude.{List, [], ◌∷◌}
use Rattle.station_tables.specs.Rows.{TableRows, no_rows}
use Rattle.station_tables.specs.Stations.{with_station_row}
use Rattle.station_tables.specs.Codes.{with_code_row}
use Rattle.act_model.specs.declared.deed.Deed.{Deed}
use Rattle.act_model.specs.declared.deed.Deed.TheVariants.{Stationed, Coded}

-- a station and a code add their row at the end, and no other deed does
abbrev pub with_row : Deed → TableRows → TableRows
with_row (Stationed code from to) tables = with_station_row tables (record { code = code; from = from; to = to })
with_row (Coded kind letter word) tables = with_code_row tables (record { kind = kind; letter = letter; word = word })
with_row _ tables = tables

abbrev pub tables_of : List Deed → TableRows
tables_of [] = no_rows
tables_of (deed ∷ past) = with_row deed (tables_of past)
