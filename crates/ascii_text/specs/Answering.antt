-- What holds of every reader: it answers, its answer is the only right one, and a text spells one thing. A clause can't
-- range over all types, so these laws stand beside the words that they are of.
use Rattle.std.proofs.Common.{◌≡◌, Option, Some, None, Result, refl, sym, ap, ◌∙◌, inl, inr}
use Rattle.std.proofs.lemmas.Option.{same_Some, none-some}
use Rattle.ascii_text.specs.Judged.{answer_of, Answers, IsReader}

answers_read : {T P V F : Type 0} (spells : P → T → Type 0) (read : T → Option P) (reader : IsReader spells read)
    (judge : P → Result V F) (wrong : F) (text : T) (found : Option P)
    → read text ≡ found → Answers spells judge wrong text (answer_of judge wrong found)
unfolding answer_of
answers_read spells read reader judge wrong text None e =
    inr (λ parts spelled. none-some parts (sym e ∙ reader.again parts text spelled), refl)
answers_read spells read reader judge wrong text (Some parts) e = inl (parts, reader.takes text parts e, refl)

-- What is worked out from what was read is a right answer.
pub it_answers : {T P V F : Type 0} (spells : P → T → Type 0) (read : T → Option P) (reader : IsReader spells read)
    (judge : P → Result V F) (wrong : F) (text : T)
    → Answers spells judge wrong text (answer_of judge wrong (read text))
it_answers spells read reader judge wrong text = answers_read spells read reader judge wrong text (read text) refl

-- A text spells one thing.
pub one_spelling : {T P : Type 0} (spells : P → T → Type 0) (read : T → Option P) (reader : IsReader spells read)
    (one other : P) (text : T) → spells one text → spells other text → one ≡ other
one_spelling spells read reader one other text a b = same_Some one other
    (sym (reader.again one text a) ∙ reader.again other text b)

-- No other answer is right.
pub one_answer : {T P V F : Type 0} (spells : P → T → Type 0) (read : T → Option P) (reader : IsReader spells read)
    (judge : P → Result V F) (wrong : F) (text : T) (one other : Result V F)
    → Answers spells judge wrong text one → Answers spells judge wrong text other → one ≡ other
one_answer spells read reader judge wrong text one other (inl a) (inl b) =
    a.2 ∙ ap judge (one_spelling spells read reader a.0 b.0 text a.1 b.1) ∙ sym b.2
one_answer spells read reader judge wrong text one other (inl a) (inr b) = absurd (b.0 a.0 a.1)
one_answer spells read reader judge wrong text one other (inr a) (inl b) = absurd (a.0 b.0 b.1)
one_answer spells read reader judge wrong text one other (inr a) (inr b) = a.1 ∙ sym b.1
