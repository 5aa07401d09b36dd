use Rattle.std.proofs.Common.{◌≡◌, sym, length, rules, ap, ◌∙◌, ◌/◌, ℕ, List, ◌++◌, ◌-◌, append_assoc}
use Rattle.std.specs.Prelude.{IsOk}
use Rattle.ascii_text.specs.Digits.{decimals_text}
use Rattle.ascii_text.specs.Blanks.{blanks}
use Rattle.obs_time.specs.DateText.{date_text}
use Rattle.obs_time.specs.DayText.{decimal_unit}
use Rattle.obs_time.specs.Written.{date_part}
use Rattle.obs_time.proofs.RoundingLemmas.{rounded_nearest}
use Rattle.obs_time.proofs.DayLemmas.{unit_positive}
use Rattle.obs_time.proofs.TextLaws.{text_of, text_is}
use Rattle.obs_time.proofs.TextLaws.{text_is_read, one_text, text_is_kept}
use Rattle.obs_time.proofs.writing.write_day_fraction.Goals as goal

-- what is written are the date and the decimals, and blanks after them
spelled : (c : goal.After-unwrap) → c.unwrap.result ≡ date_text 32 (date_part c.rounded_civil-civil.result) (decimals_text c.args.decimals (c.rounded_civil-civil.result.ns_of_day / c.decimal_unit.result) ++ blanks (6 - c.args.decimals))
spelled c =
    let count = c.args.decimals in
    let value = c.rounded_civil-civil.result.ns_of_day / c.decimal_unit.result in
    let out = rw c.unwrap.ensures at c.into_inner.ensures.ok in
    out ∙ c.put_blanks.ensures.text ∙ ap (λ (x : List ℕ). x ++ blanks (6 - count)) c.put_decimals.ensures.text
    ∙ append_assoc c.put_date.new.out.items (decimals_text count value) (blanks (6 - count)) ∙ c.put_date.ensures.text (decimals_text count value ++ blanks (6 - count))

value_is : (c : goal.After-unwrap) → c.rounded_civil-civil.result.ns_of_day / c.decimal_unit.result ≡ c.rounded_civil-civil.result.ns_of_day / decimal_unit c.args.decimals
value_is c = ap (λ (k : ℕ). c.rounded_civil-civil.result.ns_of_day / k) c.decimal_unit.ensures.value

pub returns-clause-exact : goal.returns-clause-exact
returns-clause-exact c =
    text_is c.args.t c.args.decimals c.rounded_civil-civil.result (c.rounded_civil-civil.result.ns_of_day / c.decimal_unit.result) c.unwrap.result c.rounded_civil-civil.ensures.civil c.rounded_civil-civil.ensures.date (value_is c) (spelled c)

pub returns-clause-text : goal.returns-clause-text
returns-clause-text c =
    text_of c.args.t c.args.decimals c.rounded_civil-civil.result (c.rounded_civil-civil.result.ns_of_day / c.decimal_unit.result) c.unwrap.result c.requires.some c.requires.few c.rounded_civil-civil.ensures.civil c.rounded_civil-civil.ensures.year (value_is c) (spelled c)

seventeen : (c : goal.After-unwrap) → length c.unwrap.result ≡ 17
seventeen c =
    let out = rw c.unwrap.ensures at c.into_inner.ensures.ok in
    let ok : IsOk c.into_inner.result = rw c.unwrap.ensures (search rules) in
    ap length out ∙ c.into_inner.ensures.variant.0 ok

pub returns-clause-again : goal.returns-clause-again
returns-clause-again c = λ range. text_is_read c.texts.ensures c.args.t c.args.decimals c.unwrap.result c.requires.few (returns-clause-text c) range

pub returns-clause-only : goal.returns-clause-only
returns-clause-only c = λ other len is. one_text c.texts.ensures c.args.t c.args.decimals other c.unwrap.result c.requires.few is (returns-clause-text c) (len ∙ sym (seventeen c))

pub returns-clause-kept : goal.returns-clause-kept
returns-clause-kept c = λ text len read. text_is_kept c.texts.ensures c.args.t c.args.decimals c.unwrap.result text c.requires.few (returns-clause-text c) (len ∙ sym (seventeen c)) read

pub returns-clause-nearest : goal.returns-clause-nearest
returns-clause-nearest c = rounded_nearest c.args.t _ (unit_positive c.args.decimals c.requires.few)
