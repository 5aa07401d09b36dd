-- The office in memory alone, as a keeper.
use Rattle.std.specs.Prelude.{None}
use Rattle.act_model.specs.declared.keeper.Office.{Office}
use Rattle.act_model.specs.Turns.{at_rest}
use Rattle.desk_core.specs.Office.{Office as CoreState}

-- nothing is in doubt, the journal has no limit, no disk fails, and no act is stamped
abbrev pub plain_office : CoreState → Office
plain_office core = record {
  founder = core.founder;
  limit = None;
  state = at_rest core.history;
  faults = 0;
  stamps = None;
}
