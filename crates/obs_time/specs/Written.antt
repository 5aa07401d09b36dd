-- What contracts see of the numbers that a date and a time of day are written with.
use Rattle.obs_time.specs.declared.dates.Numbers.{Numbers}
use Rattle.obs_time.specs.declared.civil.Civil.{Civil}
use Rattle.obs_time.specs.declared.days.Day.{Day}
use Rattle.obs_time.specs.declared.iso.Clock.{Clock}
use Rattle.obs_time.specs.declared.iso.Time.{Time}
use Rattle.ascii_text.specs.declared.reading.Decimals.{Decimals}
use Rattle.obs_time.specs.DateText.{WrittenDate}
use Rattle.obs_time.specs.DayText.{WrittenDay}
use Rattle.obs_time.specs.IsoText.{WrittenClock, WrittenIso}

abbrev pub written : Numbers → WrittenDate
written date = record { year = date.year; month = date.month; day = date.day }

abbrev pub written_day : Day → WrittenDay
written_day day = record { date = written day.date; count = day.count; decimals = day.decimals }

-- the date of a moment's date and time
abbrev pub date_part : Civil → WrittenDate
date_part civil = record { year = civil.year; month = civil.month; day = civil.day }

abbrev pub written_clock : Clock → WrittenClock
written_clock clock = record { hour = clock.hour; minute = clock.minute; second = clock.second }

abbrev pub written_time : Time → WrittenDate × WrittenClock
written_time time = (written time.date, written_clock time.clock)

-- a date and a time of day with decimals of the second
abbrev pub written_iso : Time → Decimals → WrittenIso
written_iso time decimals = record {
  date = written time.date;
  clock = written_clock time.clock;
  count = decimals.count;
  decimals = decimals.value;
}
