-- Numbers that times and keys make, by which they are looked for.
use Rattle.std.specs.Prelude.{ℕ, ℤ, ◌/◌, ◌^◌, max}
use Rattle.std.specs.Int.{w64, cast_unsigned}
use Rattle.place_keys.specs.Marks.{mixed, text_mark}
use Rattle.batch_rules.specs.declared.keys.NameKey.{NameKey}
use Rattle.batch_rules.specs.declared.keys.NameKey.TheVariants as keys
use Rattle.batch_rules.specs.declared.keys.GroupKey.{GroupKey}

abbrev pub name_mark : NameKey → ℕ
name_mark (keys.Number number) = number
name_mark (keys.Provisional year index order) = mixed order (mixed year index)
name_mark (keys.Survey place number) = mixed place number
name_mark (keys.Sub len text) = text_mark text.bytes

abbrev pub group_mark : GroupKey → ℕ
group_mark key = mixed (text_mark key.bytes.bytes) (name_mark key.name)

-- a number from 1 that a group makes
abbrev pub key_mark : GroupKey → ℕ
key_mark key = max (mixed 0 (group_mark key) / 2 ^ 32) 1

-- a number from 1 that a time makes
abbrev pub time_mark : ℤ → ℕ
time_mark time = max (mixed 0 (cast_unsigned w64 time) / 2 ^ 32) 1
