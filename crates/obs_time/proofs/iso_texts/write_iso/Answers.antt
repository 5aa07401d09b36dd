use Rattle.std.proofs.Common.{◌≡◌, sym, ap, ◌∙◌, List, ℕ, [], ◌∷◌, ◌++◌, append_assoc}
use Rattle.ascii_text.specs.Digits.{decimals_text}
use Rattle.obs_time.specs.IsoText.{clock_text, spelled_iso}
use Rattle.obs_time.proofs.IsoTextLaws.{civil_numbers, civil_text, civil_is_read, text_is_its}
use Rattle.obs_time.proofs.iso_texts.write_iso.Goals as goal

-- what is written are the numbers of the moment's date and time of day
spelled : (c : goal.After-unwrap) → c.unwrap.result ≡ spelled_iso (civil_numbers c.civil_of-civil.result)
spelled c =
    let numbers = civil_numbers c.civil_of-civil.result in
    let decimals = decimals_text 9 numbers.decimals in
    let clock = clock_text numbers.clock (decimals ++ 90 ∷ []) in
    let out = rw c.unwrap.ensures at c.into_inner.ensures.ok in
    out ∙ c.push-2.ensures.items
    ∙ ap (λ (x : List ℕ). x ++ 90 ∷ []) c.put_decimals.ensures.text ∙ append_assoc c.put_clock.new.out.items decimals (90 ∷ [])
    ∙ c.put_clock.ensures.text (decimals ++ 90 ∷ [])
    ∙ ap (λ (x : List ℕ). x ++ clock) c.push.ensures.items ∙ append_assoc c.put_date.new.out.items (84 ∷ []) clock
    ∙ c.put_date.ensures.text (84 ∷ clock)

pub returns-clause-exact : goal.returns-clause-exact
returns-clause-exact c = spelled c ∙ civil_text c.args.t c.civil_of-civil.result c.civil_of-civil.ensures.civil c.civil_of-civil.ensures.year

pub returns-clause-read : goal.returns-clause-read
returns-clause-read c = rw (spelled c) (civil_is_read c.texts.ensures c.args.t c.civil_of-civil.result c.civil_of-civil.ensures.civil c.civil_of-civil.ensures.year)

pub returns-clause-again : goal.returns-clause-again
returns-clause-again c = λ text len read. text_is_its c.texts.ensures c.args.t text len read ∙ sym (returns-clause-exact c)
