-- What a look keeps at the two days that the words name, which are handed on as bits.
use mir.Val.{to_z, of_z, SFits}
use Rattle.std.proofs.Common.{◌≡◌, ℤ, Option, Some, sym, subst, w32, arith}
use Rattle.std.specs.Prelude.{pos, neg_ℤ, ◌≤ℤ◌, IfSome}
use Rattle.std.proofs.lemmas.Int.{ints, to_z-of_z}
use Rattle.command_line.specs.declared.command.Command.{Command}
use Rattle.command_line.specs.declared.command.Command.TheVariants.{Look}
use Rattle.command_line.specs.Commands.{IsInRange}
use Rattle.command_ends.specs.Courses.{SinkWords, Change}
use Rattle.command_ends.specs.declared.status.Status.{Status}
use Rattle.mirror_store.specs.Words.{MirrorWords}
use Rattle.look_command.specs.Promises.{KeepsLook}
use Rattle.obs_time.specs.Dates.{IsObservedDay}

fits : (day : ℤ) → neg_ℤ (pos 62_091) ≤ℤ day → day ≤ℤ pos 84_005 → SFits w32 day
fits day low high = omega (arith, ints)

-- a day of the years 1800 to 2199 is that of its bits
same_day : (day : ℤ) → IsObservedDay day → to_z w32 (of_z w32 day) ≡ day
same_day day seen = to_z-of_z w32 day (fits day seen.0 seen.1)

-- what is said of each command is said of the one that the words name
said : (P : Command → Type 0) (result : Option Command) (command one : Command) → result ≡ Some command → command ≡ one → IfSome result P → P one
said P result command one is same all = subst P same (subst (λ (r : Option Command). IfSome r P) is all)

pub look_kept : {K M : Type 0} (write : SinkWords K) (kept : MirrorWords M) (result : Option Command) (command : Command) (from to : ℤ) (sink : Change K) (mirror : Change M) (made status : Status)
    → result ≡ Some command → command ≡ Look from to → IfSome result IsInRange → status ≡ made
    → KeepsLook write kept (to_z w32 (of_z w32 from)) (to_z w32 (of_z w32 to)) sink mirror made → KeepsLook write kept from to sink mirror status
look_kept write kept result command from to sink mirror made status is same range ended keeps =
    let days : IsObservedDay from × IsObservedDay to = said IsInRange result command (Look from to) is same range in
    subst (λ (s : Status). KeepsLook write kept from to sink mirror s) (sym ended)
    (subst (λ (t : ℤ). KeepsLook write kept from t sink mirror made) (same_day to days.1)
    (subst (λ (f : ℤ). KeepsLook write kept f (to_z w32 (of_z w32 to)) sink mirror made) (same_day from days.0) keeps))
