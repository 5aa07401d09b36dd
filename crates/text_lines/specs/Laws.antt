-- What holds of the lines of all texts.
use Rattle.std.specs.Prelude.{◌≡◌, ℕ, ◌==◌, false, List, [], ◌∷◌, ◌++◌, ◌+◌, ◌<◌, ◌≤◌, length, All}
use Rattle.std.specs.Str.Lines.{lines}
use Rattle.ascii_text.specs.Bytes.{line_feed}
use Rattle.text_lines.specs.Pieces.{complete_lines, unfinished, joined, uncut, cut_of, cut_on, cut_all, all_lines}

pub record LineLaws : Type 0 where
  -- in whatever pieces a text comes, its lines are those of the whole
  pub any_cut : (pieces : List (List ℕ)) → all_lines (cut_all uncut pieces) ≡ lines (joined pieces)
  -- One more piece: the complete lines stay, and those follow that the piece ends, the first of which began in the
  -- rest.
  pub one_piece : (text piece : List ℕ) → cut_of (text ++ piece) ≡ cut_on (cut_of text) piece
  pub complete_on : (text more : List ℕ) → complete_lines (text ++ more)
      ≡ complete_lines text ++ complete_lines (unfinished text ++ more)
  pub unfinished_on : (text more : List ℕ) → unfinished (text ++ more) ≡ unfinished (unfinished text ++ more)
  pub lines_on : (text more : List ℕ) → lines (text ++ more) ≡ complete_lines text ++ lines (unfinished text ++ more)
  -- a text that ends here: its complete lines, and the rest, which is a line where it isn't empty
  pub whole : (text : List ℕ) → lines text ≡ complete_lines text ++ lines (unfinished text)
  pub last_line : (text : List ℕ) → 0 < length (unfinished text) → lines text ≡ complete_lines text ++ unfinished text
      ∷ []
  pub no_last_line : (text : List ℕ) → length (unfinished text) ≡ 0 → lines text ≡ complete_lines text
  -- each complete line takes a byte at least, its line feed
  pub few : (text : List ℕ) → length (complete_lines text) + length (unfinished text) ≤ length text
  -- no line feed stands in the rest, and where none stands in a text, no line of it is complete
  pub rest_goes_on : (text : List ℕ) → All (λ byte. (byte == line_feed) ≡ false) (unfinished text)
  pub none_complete : (text : List ℕ) → All (λ byte. (byte == line_feed) ≡ false) text → complete_lines text ≡ []
  pub all_unfinished : (text : List ℕ) → All (λ byte. (byte == line_feed) ≡ false) text → unfinished text ≡ text
  pub rest_alone : (text : List ℕ) → complete_lines (unfinished text) ≡ []
  pub rest_again : (text : List ℕ) → unfinished (unfinished text) ≡ unfinished text
