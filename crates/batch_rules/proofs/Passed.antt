-- The observations that lines have, with one more line.
use Rattle.std.proofs.Common.{◌≡◌, List, [], ◌∷◌, ◌++◌, Result, Ok, Err, ap, sym, ◌∙◌}
use Rattle.std.specs.Prelude.{reverse}
use Rattle.std.specs.Result.{result_ok}
use Rattle.std.proofs.lemmas.List.{append-nil, reverse-append}
use Rattle.std.proofs.lemmas.List.Elements.{filter_map-append}
use Rattle.obs_record.specs.declared.line.Line.{Line}
use Rattle.obs_record.specs.declared.sighting.Sighting.{Sighting}
use Rattle.obs_record.specs.declared.rule.RuleCode.{RuleCode}
use Rattle.act_model.specs.BatchRules.{with_passed, passed_in}

pub passed_more : (lines : List Line) (line : Line) (read : Result Sighting RuleCode) (earlier : List Sighting) → line.read ≡ read → reverse earlier ≡ passed_in lines
    → reverse (with_passed read earlier) ≡ passed_in (lines ++ line ∷ [])
passed_more lines line read earlier is told =
    by read ∙ ap (λ (r : Result Sighting RuleCode). passed_in lines ++ passed_in (record line { read = r } ∷ [])) (sym is)
    ∙ sym (filter_map-append (λ l. result_ok l.read) lines (line ∷ []))
  where
    by : (r : Result Sighting RuleCode) → reverse (with_passed r earlier) ≡ passed_in lines ++ passed_in (record line { read = r } ∷ [])
    by (Ok s) = reverse-append (s ∷ []) earlier ∙ ap (λ (xs : List Sighting). xs ++ s ∷ []) told
    by (Err rule) = told ∙ sym (append-nil (passed_in lines))
