-- The names of the rules that lines break.
use Rattle.std.specs.Prelude.{ℕ, List, codes}
use Rattle.obs_record.specs.declared.rule.RuleCode.{RuleCode}
use Rattle.obs_record.specs.declared.rule.RuleCode.TheVariants.{S1, S2, S3, S4, S5, S6, S7, S8, S9, S10, S11, S12, T1}
use Rattle.obs_record.specs.declared.rule.RuleCode.TheVariants.{T2, T3, T4, T5, B1, B2, B3, B4, B5, B6, B7, B8, B9}

abbrev pub rule_name : RuleCode → List ℕ
rule_name S1 = codes "S1"
rule_name S2 = codes "S2"
rule_name S3 = codes "S3"
rule_name S4 = codes "S4"
rule_name S5 = codes "S5"
rule_name S6 = codes "S6"
rule_name S7 = codes "S7"
rule_name S8 = codes "S8"
rule_name S9 = codes "S9"
rule_name S10 = codes "S10"
rule_name S11 = codes "S11"
rule_name S12 = codes "S12"
rule_name T1 = codes "T1"
rule_name T2 = codes "T2"
rule_name T3 = codes "T3"
rule_name T4 = codes "T4"
rule_name T5 = codes "T5"
rule_name B1 = codes "B1"
rule_name B2 = codes "B2"
rule_name B3 = codes "B3"
rule_name B4 = codes "B4"
rule_name B5 = codes "B5"
rule_name B6 = codes "B6"
rule_name B7 = codes "B7"
rule_name B8 = codes "B8"
rule_name B9 = codes "B9"
