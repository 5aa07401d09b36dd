use Rattle.std.proofs.Common.{◌≡◌, ◌<◌, ℕ, Bool, true, false, List, [], ◌∷◌, length, refl, ap, sym, subst, ◌∙◌, arith}
use Rattle.std.specs.Prelude.{IsTrue, ◌↔◌}
use Rattle.std.specs.List.{AllZip}
use Rattle.obs_record.specs.Lines.{AreInRange}
use Rattle.col80_format.specs.declared.batch.Seen.{Seen}
use Rattle.col80_format.specs.Batch.{observation_lines, IsReadFrom}
use Rattle.col80_format.specs.Feeding.{progress_of, seen_on}
use Rattle.col80_format.proofs.Batches.{room_left, ends_complete, ends_unfinished, all_read}
use Rattle.col80_format.proofs.reader.EightyReader.finish.Goals as goal
use Rattle.col80_format.proofs.reader.EightyReader.finish.Goals.{then-not-is_empty+in_ok-see_line, else-not-is_empty}

some_left : (rest : List ℕ) (empty : Bool) → IsTrue empty ↔ (rest ≡ []) → empty ≡ false → 0 < length rest
some_left [] empty is other = (let told = is.1 refl in absurd cc)
some_left (byte ∷ rest) empty is other = omega arith

none_left : (rest : List ℕ) (empty : Bool) → IsTrue empty ↔ (rest ≡ []) → empty ≡ true → length rest ≡ 0
none_left rest empty is other = ap length (is.0 other)

pub see_line-requires : goal.see_line-requires
see_line-requires c =
    let fed = c.self.invariant.0 in
    let some : 0 < length c.self.inside.rest = some_left c.self.inside.rest c.is_empty.result c.is_empty.ensures c.if-not-is_empty.true in
    omega (arith, some, room_left c.lines.ensures fed.0 0 c.self.inside.rest c.self.inside.seen fed.1 (omega (arith, fed.2)))

pub returns-clause-exact : goal.returns-clause-exact
returns-clause-exact c = λ text is.
    let stands : record { rest = c.self.inside.rest; seen = c.self.inside.seen } ≡ progress_of text = c.self.view_is ∙ is in
    elim c.if-not-is_empty.branch [
      | then-not-is_empty+in_ok-see_line w ↦
          let some : 0 < length c.self.inside.rest = some_left c.self.inside.rest c.is_empty.result c.is_empty.ensures w.if-not-is_empty.true in
          ap (λ (s : Seen). s.found) (w.seen-is ∙ w.in_ok-see_line.ensures.seen ∙ ap (seen_on c.self.inside.seen) w.as_slice.ensures)
          ∙ ends_unfinished c.lines.ensures text c.self.inside.rest c.self.inside.seen stands some
      | else-not-is_empty w ↦
          ap (λ (s : Seen). s.found) w.seen-is
          ∙ ends_complete c.lines.ensures text c.self.inside.rest c.self.inside.seen stands (none_left c.self.inside.rest c.is_empty.result c.is_empty.ensures w.if-not-is_empty.false)
    ]

pub returns-clause-lines : goal.returns-clause-lines
returns-clause-lines c = λ text is.
    subst (AllZip IsReadFrom (observation_lines text)) (sym (returns-clause-exact c text is)) (all_read c.below.ensures (observation_lines text))

pub returns-clause-range : goal.returns-clause-range
returns-clause-range c =
    elim c.if-not-is_empty.branch [
      | then-not-is_empty+in_ok-see_line w ↦
          subst (λ (s : Seen). AreInRange s.found) (sym w.seen-is) (w.in_ok-see_line.ensures.range c.self.invariant.1)
      | else-not-is_empty w ↦ subst (λ (s : Seen). AreInRange s.found) (sym w.seen-is) c.self.invariant.1
    ]
