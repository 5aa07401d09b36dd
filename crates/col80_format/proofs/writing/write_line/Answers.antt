use Rattle.std.proofs.Common.{◌≡◌, ◌≤◌, ◌<◌, ◌*◌, ◌^◌, ℕ, List, sym, ◌++◌, length, ap, subst, ◌∙◌, rules, arith}
use Rattle.std.specs.Prelude.{IfSome}
use Rattle.col80_format.specs.declared.form.Form.{Form}
use Rattle.col80_format.specs.LineText.{form_of, steps_of, front_text, angles_text, back_text}
use Rattle.col80_format.proofs.LineTexts.{fits_columns, written_again, one_line_text, line_from}
use Rattle.col80_format.proofs.writing.write_line.Goals as goal

pub returns : goal.returns
returns c =
    let s = c.args.s.now in
    let form = c.form_of-form.result in
    let day : List ℕ = c.write_day_fraction.result in
    let front : List ℕ = front_text s c.args.front c.args.letters in
    let angles : List ℕ = angles_text s form in
    let back : List ℕ = back_text s form c.args.letters in
    let out = rw c.unwrap.ensures at c.into_inner.ensures.ok in
    let items : c.put_back.new.out.items ≡ front ++ day ++ angles ++ back = cc (c.put_back.ensures.text, c.put_angles.ensures.text, c.put.ensures.text, c.put_front.ensures.text) in
    let day_long : length day ≡ 17 = search rules in
    let line = line_from s c.args.front c.args.letters form day c.unwrap.result c.form_of-form.ensures.form day_long c.write_day_fraction.ensures.text c.write_day_fraction.ensures.exact (out ∙ items) in
    let front_long : length front ≡ 15 = omega (arith, c.put_front.ensures.len, ap length c.put_front.ensures.text) in
    let few : (form_of s.shape).days ≤ 6 = subst (λ (form : Form). form.days ≤ 6) c.form_of-form.ensures.form c.form_of-form.ensures.days.1 in
    record {
      exact = line.0;
      text = line.1;
      again = λ line_read reading mode band. written_again c.below.ensures line_read c.unwrap.result s c.args.front c.args.letters front_long line.1 reading.0.0 reading.1 mode band;
      only = λ other is. one_line_text c.below.ensures s c.args.front c.args.letters other c.unwrap.result few is line.1;
    }

pub put_back-requires-clause-fits : goal.put_back-requires-clause-fits
put_back-requires-clause-fits c =
    let form : c.form_of-form.result ≡ form_of c.args.s.now.shape = c.form_of-form.ensures.form in
    subst (λ (f : Form). IfSome c.args.s.now.mag (λ mag. steps_of f.places mag < 100 * 10 ^ f.places)) (sym form) (fits_columns c.args.s.now.shape c.args.s.now.mag c.requires.shape c.requires.magnitude c.requires.decimals)
