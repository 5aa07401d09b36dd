-- When two keys of groups are the same.
use Rattle.std.specs.Prelude.{Bool}
use Rattle.batch_rules.specs.declared.keys.GroupKey.{GroupKey}
use Rattle.batch_rules.specs.contracts.keys.GroupKeyPartialEq.TheImpl as group_keys

abbrev pub same_key : GroupKey → GroupKey → Bool
same_key = (group_keys.ghosts).eq
