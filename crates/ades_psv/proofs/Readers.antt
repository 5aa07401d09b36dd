-- A reader, from its first piece to its end.
use Rattle.std.proofs.Common.{◌≡◌, ℕ, ◌+◌, ◌<◌, List, [], ◌∷◌, ◌++◌, append_assoc, length, map, Some, None, Result, Ok, Err, eqb, false, refl, sym, ap, subst, ◌∙◌, arith}
use Rattle.std.specs.Prelude.{IsOk, IfOk, OnOk}
use Rattle.std.specs.List.{AllZip, enumerate_from}
use Rattle.std.specs.Str.Lines.{lines}
use Rattle.std.proofs.lemmas.List.{append-nil}
use Rattle.std.proofs.lemmas.List.Elements.{All-nil}
use Rattle.obs_record.specs.declared.line.Line.{Line}
use Rattle.obs_record.specs.declared.rule.HeaderFault.{HeaderFault}
use Rattle.text_lines.specs.Steps.{◌>>=◌, bind_ok}
use Rattle.text_lines.specs.Pieces.{complete_lines, unfinished, joined}
use Rattle.text_lines.specs.Laws.{LineLaws}
use Rattle.ades_psv.specs.declared.fault.PsvFault.{PsvFault}
use Rattle.ades_psv.specs.declared.fault.PsvFault.TheVariants as faults
use Rattle.ades_psv.specs.declared.header.Place.TheVariants.{Opening, Header, Listing}
use Rattle.ades_psv.specs.Batch.{DataLine, Said, said_from, ended, data_lines_of, read_of, all_read, psv_lines_of, IsReadFrom, AreReadFrom}
use Rattle.ades_psv.specs.Fields.{Fields, fields_of}
use Rattle.ades_psv.specs.Rules.{IsReading}
use Rattle.ades_psv.specs.Reading.{reading_of}
use Rattle.ades_psv.specs.Walking.{IsAnswer}
use Rattle.ades_psv.specs.Feeding.{Fed, start, unfed, progress_at, read_lines, read_on, feed_piece, feed_pieces, HasRoom, fault_in, complete_fault, ended_at, read_end, lines_at_end, Feeds}
use Rattle.ades_psv.proofs.Walks.{bind_bind, read_none, read_join, rest_is, read_twice}

-- ---- the end

whole_by : (ls : List (List ℕ)) (r : Said) → ((r >>= ended (length ls)) >>= all_read) ≡ ((r >>= progress_at start ls []) >>= ended_at)
whole_by ls (Ok (Opening, found)) = refl
whole_by ls (Ok (Header, found)) = (let all : 0 + length ls ≡ length ls = omega arith in rw all refl)
whole_by ls (Ok (Listing columns, found)) = refl
whole_by ls (Err fault) = refl

whole_text : (text : List ℕ) → psv_lines_of text ≡ (read_lines start (lines text) [] >>= ended_at)
unfolding psv_lines_of data_lines_of read_lines
whole_text text = whole_by (lines text) (said_from Opening (enumerate_from 1 (lines text)))

-- a reader that was fed a text says in the end what the text says
pub finished_text : (laws : LineLaws) (text : List ℕ) → lines_at_end (feed_piece unfed text) ≡ psv_lines_of text
unfolding read_on read_end
finished_text laws text =
    let complete = complete_lines text in
    let left = unfinished text in
    sym (whole_text text ∙ ap (λ (ls : List (List ℕ)). read_lines start ls [] >>= ended_at) (laws.whole text) ∙ ap (λ (r : Fed). r >>= ended_at) (read_join start complete (lines left) left [])
    ∙ bind_bind (read_lines start complete left) (λ q. read_lines q (lines left) []) ended_at ∙ rest_is start complete left (λ q rest. read_lines q (lines rest) [] >>= ended_at))

-- ---- room

room_by : (text : List ℕ) (more : ℕ) (r : Said) → length (complete_lines text) + length (unfinished text) + more < 4294967295
    → HasRoom (r >>= progress_at start (complete_lines text) (unfinished text)) more
room_by text more (Ok end) room = omega arith
room_by text more (Err fault) room = tt

pub text_room : (laws : LineLaws) (text : List ℕ) (more : ℕ) → length text + more < 4294967295 → HasRoom (feed_piece unfed text) more
unfolding read_on read_lines
text_room laws text more room =
    room_by text more (said_from Opening (enumerate_from 1 (complete_lines text))) (let few = laws.few text in omega arith)

-- ---- any pieces

fed_text : (laws : LineLaws) (text piece : List ℕ) → feed_piece (feed_piece unfed text) piece ≡ feed_piece unfed (text ++ piece)
fed_text laws text piece = sym (read_twice laws start text piece)

pub fed_nothing : (laws : LineLaws) → feed_piece unfed [] ≡ unfed
unfolding read_on
fed_nothing laws =
    let none : complete_lines [] ≡ [] = laws.none_complete [] (All-nil (λ b. eqb b 10 ≡ false)) in
    let left : unfinished [] ≡ [] = laws.all_unfinished [] (All-nil (λ b. eqb b 10 ≡ false)) in
    rw (none, left) (read_none start [])

fed_further : (laws : LineLaws) (text : List ℕ) (pieces : List (List ℕ)) → feed_pieces (feed_piece unfed text) pieces ≡ feed_piece unfed (text ++ joined pieces)
fed_further laws text [] = ap (feed_piece unfed) (sym (append-nil text))
fed_further laws text (piece ∷ pieces) =
    ap (λ (f : Fed). feed_pieces f pieces) (fed_text laws text piece) ∙ fed_further laws (text ++ piece) pieces ∙ ap (feed_piece unfed) (append_assoc text piece (joined pieces))

pub one_text : (laws : LineLaws) (pieces : List (List ℕ)) → feed_pieces unfed pieces ≡ feed_piece unfed (joined pieces)
one_text laws pieces = ap (λ (f : Fed). feed_pieces f pieces) (sym (fed_nothing laws)) ∙ fed_further laws [] pieces

-- ---- faults

-- a fault of complete lines is that of the batch, whatever may follow
pub fault_stays : (laws : LineLaws) (text more : List ℕ) (fault : HeaderFault × ℕ) → feed_piece unfed text ≡ Err fault → psv_lines_of (text ++ more) ≡ Err fault
fault_stays laws text more fault fails =
    sym (finished_text laws (text ++ more)) ∙ ap lines_at_end (sym (fed_text laws text more) ∙ ap (λ (f : Fed). feed_piece f more) fails)

fault_by : (complete : List (List ℕ)) (rest : List ℕ) (r : Said) → fault_in r ≡ fault_in (r >>= progress_at start complete rest)
fault_by complete rest (Ok end) = refl
fault_by complete rest (Err fault) = refl

fault_of : (text : List ℕ) → complete_fault text ≡ fault_in (feed_piece unfed text)
unfolding complete_fault read_on read_lines
fault_of text = fault_by (complete_lines text) (unfinished text) (said_from Opening (enumerate_from 1 (complete_lines text)))

no_fault : (reader : Fed) → IsOk reader → fault_in reader ≡ None
no_fault (Ok progress) fine = refl
no_fault (Err fault) fine = absurd cc

-- ---- the text that came

fed_on_text : (laws : LineLaws) (text piece : List ℕ) (before after : Fed) → after ≡ feed_piece before piece → before ≡ feed_piece unfed text → after ≡ feed_piece unfed (text ++ piece)
fed_on_text laws text piece before after new is = new ∙ ap (λ (f : Fed). feed_piece f piece) is ∙ fed_text laws text piece

-- a piece after a text, where all is well
pub feeds_text : (laws : LineLaws) (text piece : List ℕ) (before after : Fed) (result : Result (Unit {0}) PsvFault) → Feeds before piece after result → before ≡ feed_piece unfed text
    → OnOk result ((after ≡ feed_piece unfed (text ++ piece)) × (complete_fault (text ++ piece) ≡ None))
feeds_text laws text piece before after (Ok x) feeds is =
    let new = fed_on_text laws text piece before after feeds.0 is in
    (new, fault_of (text ++ piece) ∙ ap fault_in (sym new) ∙ no_fault after feeds.1)
feeds_text laws text piece before after (Err fault) feeds is = tt

-- and where a fault is told
pub feeds_fault : (laws : LineLaws) (text piece : List ℕ) (before after : Fed) (result : Result (Unit {0}) PsvFault) (fault : HeaderFault) (line : ℕ) → Feeds before piece after result
    → before ≡ feed_piece unfed text → result ≡ Err (faults.Header fault line) → (after ≡ feed_piece unfed (text ++ piece)) × (complete_fault (text ++ piece) ≡ Some (fault, line))
feeds_fault laws text piece before after result fault line feeds is told =
    let fails = rw told at feeds in
    let new = fed_on_text laws text piece before after fails.0 is in
    (new, fault_of (text ++ piece) ∙ ap fault_in (sym new ∙ fails.1))

-- what is said at the end is what the text says
pub finish_text : (laws : LineLaws) (text : List ℕ) (reader : Fed) (result : Result (List Line) PsvFault) → reader ≡ feed_piece unfed text → IsAnswer (lines_at_end reader) result
    → IsAnswer (psv_lines_of text) result
finish_text laws text reader result is said = rw (← finished_text laws text, ← is) said

-- a fault of a batch in one piece
pub whole_answer : (laws : LineLaws) (body : List ℕ) (before after : Fed) (fault : PsvFault) → before ≡ unfed → Feeds before body after (Err fault) → IsAnswer (psv_lines_of body) (Err fault)
whole_answer laws body before after (faults.Header fault line) new is =
    sym (finished_text laws body) ∙ ap lines_at_end (ap (λ (f : Fed). feed_piece f body) (sym new) ∙ sym is.0 ∙ is.1)
whole_answer laws body before after faults.NoMemory new is = tt

-- ---- readings

-- each line of a list is read from its data line
zip_read : ((fields : Fields) → IsReading fields (reading_of fields)) → (data_lines : List DataLine) → AllZip IsReadFrom data_lines (map read_of data_lines)
zip_read reads [] = tt
zip_read reads (line ∷ data_lines) = ((refl, reads (fields_of line.columns line.text)), zip_read reads data_lines)

pub answer_lines : ((fields : Fields) → IsReading fields (reading_of fields)) → (body : List ℕ) (result : Result (List Line) PsvFault) → IsAnswer (psv_lines_of body) result
    → IfOk result (λ found. AreReadFrom body found)
unfolding psv_lines_of
answer_lines reads body (Ok found) said =
    let lines_found = bind_ok (data_lines_of body) all_read found said in
    let same : map read_of lines_found.0 ≡ found = (let read = lines_found.2 in cc) in
    (lines_found.0, lines_found.1, subst (AllZip IsReadFrom lines_found.0) same (zip_read reads lines_found.0))
answer_lines reads body (Err fault) said = tt
