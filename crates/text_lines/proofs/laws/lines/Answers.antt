use Rattle.std.proofs.Common.{refl, ◌∙◌}
use Rattle.std.proofs.lemmas.List.{append-nil, nil_from_length}
use Rattle.text_lines.specs.Pieces.{complete_lines, unfinished}
use Rattle.text_lines.proofs.LineCuts.{lines_whole, complete_none, unfinished_whole, each_cut, any_cut, one_piece, complete_by, unfinished_by, lines_by, lines_end, few_by, unfinished_none}
use Rattle.text_lines.proofs.laws.lines.Goals as goal

pub returns : goal.returns
returns c = record {
  any_cut = any_cut;
  one_piece = one_piece;
  complete_on = λ text more. complete_by text more (each_cut text);
  unfinished_on = λ text more. unfinished_by text more (each_cut text);
  lines_on = λ text more. lines_by text more (each_cut text);
  whole = lines_end;
  last_line = λ text some. lines_end text ∙ rw (lines_whole (unfinished text) some (unfinished_none text)) refl;
  no_last_line = λ text none. lines_end text ∙ rw (nil_from_length (unfinished text) none) (append-nil (complete_lines text));
  few = λ text. few_by text (each_cut text);
  rest_goes_on = unfinished_none;
  none_complete = complete_none;
  all_unfinished = unfinished_whole;
  rest_alone = λ text. complete_none (unfinished text) (unfinished_none text);
  rest_again = λ text. unfinished_whole (unfinished text) (unfinished_none text);
}
