use Rattle.std.proofs.Common.{◌≡◌, ◌+◌, List, [], ◌∷◌, ◌++◌, get_or, map, drop, Bool, Result, refl, ap, sym, ◌∙◌, append_assoc, arith}
use Rattle.std.specs.Prelude.{reverse}
use Rattle.std.proofs.lemmas.List.{drop_more, get_or-map, map-append}
use Rattle.obs_record.specs.declared.line.Line.{Line}
use Rattle.obs_record.specs.declared.sighting.Sighting.{Sighting}
use Rattle.obs_record.specs.declared.rule.RuleCode.{RuleCode}
use Rattle.station_tables.specs.Rows.{TableRows}
use Rattle.tracklet_file.specs.Observations.{is_live_line}
use Rattle.act_model.specs.BatchRules.{checked_reading, with_passed, checked_lines, passed_in}
use Rattle.batch_rules.specs.Earlier.{reading_of, line_of}
use Rattle.batch_rules.proofs.Passed.{passed_more}
use Rattle.batch_rules.proofs.checking.checked_lines.Goals as goal

pub checked_reading-requires : goal.checked_reading-requires
checked_reading-requires g c =
    let is_live = is_live_line (g.V.Known.office c.args.known.now).has_live in
    let place = c.loop-place.place in
    c.index.ensures
    ∙ ap (λ (live : List Bool). get_or live place c.index.result.now) c.in_ok-live.ensures
    ∙ get_or-map is_live c.args.lines.now place c.index-lines-place.result c.index.result.now (omega arith)
    ∙ ap is_live (sym c.index-lines-place.is)

pub loop-place-preserved : goal.loop-place-preserved
loop-place-preserved g c =
    let left = λ (earlier : List Sighting) (lines : List Line). checked_lines (g.V.Known.office c.args.known.now) c.args.tables.now c.args.moment earlier lines in
    let done = map line_of c.loop-place.checked.items in
    let line = c.index-lines-place.result in
    let earlier = c.loop-place.earlier in
    let next = c.checked_reading.new.earlier in
    let read = reading_of c.in_ok-read.read in
    let rest = drop (c.loop-place.place + 1) c.args.lines.now in
    let of_tables = ap (λ (tables : TableRows). checked_reading (g.V.Known.office c.args.known.now) tables c.args.moment earlier line.read) c.loop-place.invariant.rows in
    let split : drop c.loop-place.place c.args.lines.now ≡ line ∷ rest =
    drop_more c.args.lines.now c.loop-place.place line (omega arith) ∙ ap (λ (y : Line). y ∷ rest) (sym c.index-lines-place.is) in
    let items : map line_of c.push.new.self.items ≡ done ++ record line { read = read } ∷ [] =
    ap (map line_of) c.in_ok-push.ensures.items ∙ map-append line_of c.loop-place.checked.items _ in record {
      lines =
          ap (λ (xs : List Line). xs ++ left next rest) items
          ∙ append_assoc done (record line { read = read } ∷ []) (left next rest)
          ∙ ap (λ (e : List Sighting). done ++ record line { read = read } ∷ left e rest) c.in_ok-read.ensures.earlier
          ∙ ap (λ (r : Result Sighting RuleCode). done ++ record line { read = r } ∷ left (with_passed r earlier) rest) (c.in_ok-read.ensures.read ∙ of_tables)
          ∙ ap (λ (lines : List Line). done ++ left earlier lines) (sym split)
          ∙ c.loop-place.invariant.lines;
      rows = c.in_ok-read.ensures.rows ∙ c.loop-place.invariant.rows;
      passed =
          ap reverse c.in_ok-read.ensures.earlier
          ∙ passed_more done (record line { read = read }) read earlier refl c.loop-place.invariant.passed
          ∙ ap passed_in (sym items);
    }
