-- Reply frames.
use Rattle.std.specs.Prelude.{ℕ, List, ◌∷◌, ◌++◌, length, decimal}

-- the bytes of a reply: status, blank, length of the text, line feed, text
abbrev pub reply_frame : ℕ → List ℕ → List ℕ
reply_frame status text = decimal status ++ 32 ∷ (decimal (length text) ++ 10 ∷ text)
