-- The letter of the body of `code`.
use Rattle.std.proofs.Common.{◌≡◌, ℕ, ◌&&◌, true, not, cond, eqb, List, length, codes, Some, None, subst, arith}
use Rattle.std.specs.Prelude.{slice_index, Contains}
use Rattle.std.specs.List.{list_any}
use Rattle.std.proofs.lemmas.Bool.{and_parts}
use Rattle.std.proofs.lemmas.Bool.Decides.{nat_tests}
use Rattle.std.proofs.lemmas.List.Folds.{list_any_at}
use Rattle.std.proofs.lemmas.Option.{cond_some}
use Rattle.serde_json.specs.Data.{Data}
use Rattle.ascii_text.specs.Bytes.{is_visible}
use Rattle.ascii_text.specs.Reading.{◌>>=◌, bind_some}
use Rattle.obs_record.specs.Modes.{refused_modes}
use Rattle.obs_record.specs.Sighting.{IsPrintable}
use Rattle.station_tables.specs.declared.kind.Kind.{Kind}
use Rattle.station_tables.specs.declared.kind.Kind.TheVariants.{Catalogue, Band, Mode}
use Rattle.station_tables.specs.Letters.{IsLetterOf}
use Rattle.act_bodies.specs.declared.code.Code.{Code}
use Rattle.act_bodies.specs.Members.{object_of, text_in, may_have, kind_in, letter_in, word_in}
use Rattle.act_bodies.specs.Bodies.{code_in, code_of}

visible_is_printed : (byte : ℕ) → is_visible byte ≡ true → IsPrintable byte
visible_is_printed byte is = (grind (arith, nat_tests), grind (arith, nat_tests))

among_refused : (modes : List ℕ) (mode : ℕ) → Contains modes mode → list_any (λ m. eqb m mode) modes ≡ true
among_refused modes mode among =
    let at = among.2 in
    list_any_at (λ m. eqb m mode) modes among.0 mode among.1 (grind (arith, nat_tests))

not_among : (letter : ℕ) → not (list_any (λ m. eqb m letter) refused_modes) ≡ true → ¬ Contains refused_modes letter
not_among letter free among = let refused = among_refused refused_modes letter among in cc

-- a letter that a kind may have
letter_of_kind : (kind : Kind) (letter : ℕ) → may_have kind letter ≡ true → IsLetterOf kind letter
letter_of_kind Mode letter may =
    let parts = and_parts _ _ may in
    record { printed = visible_is_printed letter parts.0; taken = λ _. not_among letter parts.1 }
letter_of_kind Catalogue letter may = record { printed = visible_is_printed letter may; taken = λ mode. absurd cc }
letter_of_kind Band letter may = record { printed = visible_is_printed letter may; taken = λ mode. absurd cc }

letter_in-is_letter : (kind : Kind) (value : Data) (letter : ℕ) → letter_in kind value ≡ Some letter → IsLetterOf kind letter
unfolding letter_in
letter_in-is_letter kind value letter found =
    let text = bind_some (text_in (codes "letter") value) (λ t. cond (eqb (length t) 1 && may_have kind (slice_index t 0)) (Some (slice_index t 0)) None) letter found in
    let tested = cond_some (eqb (length text.0) 1 && may_have kind (slice_index text.0 0)) (slice_index text.0 0) letter text.2 in
    subst (IsLetterOf kind) tested.1 (letter_of_kind kind (slice_index text.0 0) (and_parts _ _ tested.0).1)

code_in-is_letter : (value : Data) (code : Code) → code_in value ≡ Some code → IsLetterOf code.kind code.letter
unfolding code_in
code_in-is_letter value code found =
    let a = bind_some (kind_in value) (λ kind. letter_in kind value >>= λ letter. word_in value >>= λ word. Some (record { kind = kind; letter = letter; word = word })) code found in
    let b = bind_some (letter_in a.0 value) (λ letter. word_in value >>= λ word. Some (record { kind = a.0; letter = letter; word = word })) code a.2 in
    let w = bind_some (word_in value) (λ word. Some (record { kind = a.0; letter = b.0; word = word })) code b.2 in
    let same_kind : a.0 ≡ code.kind = cc in
    let same_letter : b.0 ≡ code.letter = cc in
    subst (λ (k : Kind). IsLetterOf k code.letter) same_kind (subst (IsLetterOf a.0) same_letter (letter_in-is_letter a.0 value b.0 b.1))

pub code_of-is_letter : (bytes : List ℕ) (code : Code) → code_of bytes ≡ Some code → IsLetterOf code.kind code.letter
unfolding code_of
code_of-is_letter bytes code found =
    let object = bind_some (object_of 3 bytes) code_in code found in
    code_in-is_letter object.0 code object.2
