-- Lines that are read one after another.
use Rattle.std.proofs.Common.{◌≡◌, ℕ, ◌+◌, ◌≤◌, take, List, [], ◌∷◌, ◌++◌, append_assoc, length, map, Result, Ok, Err, refl, sym, ap, ◌∙◌, arith}
use Rattle.std.specs.List.{enumerate_from}
use Rattle.std.specs.Str.Lines.{lines}
use Rattle.std.proofs.lemmas.List.{append-nil, length-take, take-take}
use Rattle.obs_record.specs.declared.rule.HeaderFault.{HeaderFault}
use Rattle.obs_record.specs.declared.line.Line.{Line}
use Rattle.ades_psv.specs.declared.fault.PsvFault.{PsvFault}
use Rattle.ades_psv.specs.declared.fault.PsvFault.TheVariants as faults
use Rattle.ades_psv.specs.declared.header.Place.{Place}
use Rattle.ades_psv.specs.declared.header.Place.TheVariants.{Listing}
use Rattle.ades_psv.specs.declared.header.Step.{Step}
use Rattle.ades_psv.specs.declared.header.Step.TheVariants.{On, Data, Fault}
use Rattle.ades_psv.specs.declared.walking.Reached.{Reached}
use Rattle.text_lines.specs.Steps.{◌>>=◌}
use Rattle.text_lines.specs.Laws.{LineLaws}
use Rattle.text_lines.specs.Pieces.{complete_lines, unfinished}
use Rattle.ades_psv.specs.Headers.{step}
use Rattle.ades_psv.specs.Batch.{DataLine, Said, before, said_on, said_from, read_of}
use Rattle.ades_psv.specs.Feeding.{Progress, Fed, progress_at, read_lines, read_on, ended_at, read_end, lines_at_end, progress_of}
use Rattle.ades_psv.specs.Walking.{IsAnswer, line_on, line_read}

-- ---- steps

pub bind_bind : {A B C E : Type 0} (r : Result A E) (f : A → Result B E) (g : B → Result C E) → ((r >>= f) >>= g) ≡ (r >>= λ x. f x >>= g)
bind_bind (Ok x) f g = refl
bind_bind (Err fault) f g = refl

-- what may follow a step that fails
pub fails_on : {A B : Type 0} (said : Result A (HeaderFault × ℕ)) (go : A → Result B (HeaderFault × ℕ)) (fault : PsvFault) → IsAnswer said (Err fault) → IsAnswer (said >>= go) (Err fault)
fails_on said go (faults.Header fault line) is = rw is refl
fails_on said go faults.NoMemory is = tt

-- ---- a line, and lines behind it

counted : (p : Progress) (line : List ℕ) (more : List (List ℕ)) (rest : List ℕ) (place : Place) (r : Said)
    → (r >>= progress_at p (line ∷ more) rest) ≡ (r >>= progress_at (record p { place = place; count = p.count + 1 }) more rest)
counted p line more rest place (Ok end) =
    let count : p.count + length (line ∷ more) ≡ p.count + 1 + length more = omega arith in
    rw count refl
counted p line more rest place (Err fault) = refl

listed : (p : Progress) (data_line : DataLine) (line : List ℕ) (more : List (List ℕ)) (rest : List ℕ) (place : Place) (r : Said)
    → ((r >>= before data_line) >>= progress_at p (line ∷ more) rest) ≡ (r >>= progress_at (record p { place = place; count = p.count + 1; found = p.found ++ read_of data_line ∷ [] }) more rest)
listed p data_line line more rest place (Ok end) =
    let count : p.count + length (line ∷ more) ≡ p.count + 1 + length more = omega arith in
    rw (count, append_assoc p.found (read_of data_line ∷ []) (map read_of end.1)) refl
listed p data_line line more rest place (Err fault) = refl

first_by : (p : Progress) (line : List ℕ) (more : List (List ℕ)) (rest : List ℕ) (next : Step)
    → (said_on (p.count + 1) line (λ place. said_from place (enumerate_from (p.count + 1 + 1) more)) next >>= progress_at p (line ∷ more) rest) ≡ (line_on p line next >>= λ q. read_lines q more rest)
unfolding read_lines
first_by p line more rest (On next) = counted p line more rest next (said_from next (enumerate_from (p.count + 1 + 1) more))
first_by p line more rest (Data columns) =
    listed p (record { columns = columns; number = p.count + 1; text = line }) line more rest (Listing columns) (said_from (Listing columns) (enumerate_from (p.count + 1 + 1) more))
first_by p line more rest (Fault fault) = refl

pub read_first : (p : Progress) (line : List ℕ) (more : List (List ℕ)) (rest : List ℕ) → read_lines p (line ∷ more) rest ≡ (line_read p line >>= λ q. read_lines q more rest)
unfolding read_lines said_from
read_first p line more rest = first_by p line more rest (step p.place line)

pub read_none : (p : Progress) (rest : List ℕ) → read_lines p [] rest ≡ Ok (record p { rest = rest })
unfolding read_lines said_from
read_none p rest =
    let count : p.count + length (let none : List (List ℕ) = [] in none) ≡ p.count = omega arith in
    rw (count, append-nil p.found) refl

-- lines after lines
pub read_join : (p : Progress) (xs ys : List (List ℕ)) (old rest : List ℕ) → read_lines p (xs ++ ys) rest ≡ (read_lines p xs old >>= λ q. read_lines q ys rest)
unfolding read_lines
read_join p [] ys old rest = rw (read_none p old) refl
read_join p (x ∷ xs) ys old rest =
    read_first p x (xs ++ ys) rest ∙ ap (λ (f : Progress → Fed). line_read p x >>= f) (λ i q. read_join q xs ys old rest i)
    ∙ sym (bind_bind (line_read p x) (λ q. read_lines q xs old) (λ q. read_lines q ys rest)) ∙ ap (λ (r : Fed). r >>= λ q. read_lines q ys rest) (sym (read_first p x xs old))

-- ---- texts

rest_by : {B : Type 0} (p : Progress) (xs : List (List ℕ)) (rest : List ℕ) (r : Said) (F : Progress → List ℕ → Result B (HeaderFault × ℕ))
    → ((r >>= progress_at p xs rest) >>= λ q. F q rest) ≡ ((r >>= progress_at p xs rest) >>= λ q. F q q.rest)
rest_by p xs rest (Ok end) F = refl
rest_by p xs rest (Err fault) F = refl

-- what is left is the rest
pub rest_is : {B : Type 0} (p : Progress) (xs : List (List ℕ)) (rest : List ℕ) (F : Progress → List ℕ → Result B (HeaderFault × ℕ))
    → (read_lines p xs rest >>= λ q. F q rest) ≡ (read_lines p xs rest >>= λ q. F q q.rest)
unfolding read_lines
rest_is p xs rest F = rest_by p xs rest (said_from p.place (enumerate_from (p.count + 1) xs)) F

-- a text after a text
pub read_twice : (laws : LineLaws) (p : Progress) (first more : List ℕ) → read_on p (first ++ more) ≡ (read_on p first >>= λ q. read_on q more)
unfolding read_on
read_twice laws p first more =
    let left = unfinished (p.rest ++ first) in
    rw (← append_assoc p.rest first more, laws.complete_on (p.rest ++ first) more, laws.unfinished_on (p.rest ++ first) more)
    (read_join p (complete_lines (p.rest ++ first)) (complete_lines (left ++ more)) left (unfinished (left ++ more))
    ∙ rest_is p (complete_lines (p.rest ++ first)) left (λ q rest. read_lines q (complete_lines (rest ++ more)) (unfinished (rest ++ more))))

-- the first line of a text, and the text behind it
pub read_cut : (before : Reached) (text line behind : List ℕ) → complete_lines text ≡ line ∷ complete_lines behind → unfinished text ≡ unfinished behind
    → read_on (progress_of before []) text ≡ (line_read (progress_of before []) line >>= λ q. read_lines q (complete_lines behind) (unfinished behind))
unfolding read_on
read_cut before text line behind cut left = rw (cut, left) (read_first (progress_of before []) line (complete_lines behind) (unfinished behind))

-- a text without a line feed
pub read_uncut : (before : Reached) (rest text : List ℕ) → complete_lines (rest ++ text) ≡ [] → unfinished (rest ++ text) ≡ rest ++ text
    → read_on (progress_of before rest) text ≡ Ok (progress_of before (rest ++ text))
unfolding read_on
read_uncut before rest text none left = rw (none, left) (read_none (progress_of before rest) (rest ++ text))

-- a line alone
last_by : (before : Reached) (line : List ℕ) (next : Step) → (line_on (progress_of before []) line next >>= λ q. read_lines q [] []) ≡ line_on (progress_of before []) line next
last_by before line (On place) = read_none _ []
last_by before line (Data columns) = read_none _ []
last_by before line (Fault fault) = refl

pub read_one : (before : Reached) (line : List ℕ) → read_lines (progress_of before []) (line ∷ []) [] ≡ line_read (progress_of before []) line
read_one before line = read_first (progress_of before []) line [] [] ∙ last_by before line (step before.place line)

-- a piece whose front ends the unfinished line, which makes this text
pub read_parts : (laws : LineLaws) (before : Reached) (rest front behind piece text : List ℕ) → piece ≡ front ++ behind → text ≡ rest ++ front
    → read_on (progress_of before rest) piece ≡ (read_on (progress_of before []) text >>= λ q. read_on q behind)
unfolding read_on read_lines
read_parts laws before rest front behind piece text parts is = rw (parts, is) (read_twice laws (progress_of before rest) front behind)

pub read_then : (laws : LineLaws) (before middle : Reached) (rest front behind piece text left : List ℕ) → piece ≡ front ++ behind → text ≡ rest ++ front
    → read_on (progress_of before []) text ≡ Ok (progress_of middle left) → left ≡ unfinished text → unfinished (rest ++ front) ≡ []
    → read_on (progress_of before rest) piece ≡ read_on (progress_of middle []) behind
read_then laws before middle rest front behind piece text left parts is first over none =
    let nothing : left ≡ [] = over ∙ ap unfinished is ∙ none in
    read_parts laws before rest front behind piece text parts is ∙ ap (λ (r : Fed). r >>= λ q. read_on q behind) first ∙ rw nothing refl

-- the end of a batch
pub end_of : (reader : Fed) (before : Reached) (rest text : List ℕ) → reader ≡ Ok (progress_of before rest) → text ≡ rest
    → lines_at_end reader ≡ (read_lines (progress_of before []) (lines text) [] >>= ended_at)
unfolding read_end read_lines
end_of reader before rest text is same = rw (is, same) refl

-- ---- what was found before stays in front

pub kept_again : (old middle new : List Line) → take (length old) middle ≡ old → take (length middle) new ≡ middle → take (length old) new ≡ old
kept_again old middle new first second =
    let within : length old ≤ length middle = omega (arith, ap length first, length-take (length old) middle) in
    let again : take (length old) (take (length middle) new) ≡ take (length old) new = take-take (length old) (length middle) new within in
    sym again ∙ ap (take (length old)) second ∙ first
