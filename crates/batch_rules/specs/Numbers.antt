-- Rulings by what was found of groups.
use Rattle.std.specs.Prelude.{◌≡◌, ℕ, true, List, map, Option, None, unwrap_or, position, Result, Ok}
use Rattle.std.specs.List.{list_any, position_or_len}
use Rattle.indexmap.specs.IndexSet.{insert_all}
use Rattle.obs_record.specs.declared.line.Line.{Line}
use Rattle.obs_record.specs.declared.sighting.Sighting.{Sighting}
use Rattle.obs_record.specs.declared.rule.RuleCode.{RuleCode}
use Rattle.act_model.specs.declared.ruling.Ruling.{Ruling}
use Rattle.act_model.specs.BatchRules.{passed_in}
use Rattle.batch_rules.specs.declared.keys.GroupKey.{GroupKey}
use Rattle.batch_rules.specs.declared.groups.Summary.{Summary}
use Rattle.batch_rules.specs.KeyTests.{same_key}
use Rattle.batch_rules.specs.Groups.{group_key, reading_by, accepted_by}

-- the group with a key is among these, and this is its place
abbrev pub StandsIn : GroupKey → ℕ → List GroupKey → Type 0
StandsIn key place keys = (list_any (same_key key) keys ≡ true) × (place ≡ position_or_len (same_key key) keys)

-- these keys of groups, and after them those of the accepted ones of these lines, each once
abbrev pub keys_after : (GroupKey → Option Summary) → List GroupKey → List Line → List GroupKey
keys_after found keys lines = insert_all same_key keys (map group_key (accepted_by found (passed_in lines)))

-- the place of an accepted observation's group among the keys of groups
abbrev pub number_by : List GroupKey → Option RuleCode → Result Sighting RuleCode → ℕ
number_by keys None (Ok s) = unwrap_or (position (same_key (group_key s)) keys) 0
number_by keys _ _ = 0

abbrev pub ruling_by : (GroupKey → Option Summary) → List GroupKey → Line → Ruling
ruling_by found keys line =
    record {
      line = line.number;
      fault = reading_by found line.read;
      group = number_by keys (reading_by found line.read) line.read;
    }
