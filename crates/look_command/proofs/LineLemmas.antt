-- The lines of rows, which are written one after the other.
use Rattle.std.proofs.Common.{◌≡◌, ℕ, ◌+◌, ◌<◌, ◌≤◌, List, [], ◌++◌, length, drop, flat_map, Option, refl, sym, ap, ◌∙◌, subst, append_assoc}
use Rattle.std.proofs.Math.ListN.{get_or}
use Rattle.std.proofs.lemmas.List.{append-nil, drop_more, drop_all}
use Rattle.std.proofs.lemmas.List.Concat.{flat_map-cons}
use Rattle.std.proofs.KnownBytes.{Appends-nil, Appends-trans}
use Rattle.std.specs.Io.KnownBytes.{Appends}
use Rattle.desk_io.specs.Outside.{AppendsPart}
use Rattle.look_command.proofs.Joining.{part_of_front, part_behind_front}

-- the sink took the lines of the first this many rows, and those of the others are left
pub record IsSent {Row : Type 0} (line : Row → List ℕ) (old now : Option (List ℕ)) (rows : List Row) (count : ℕ) : Type 0 where
  pub front : List ℕ
  pub joined : flat_map line rows ≡ front ++ flat_map line (drop count rows)
  pub took : Appends old now front

module _ {Row : Type 0} (line : Row → List ℕ) (old : Option (List ℕ)) (rows : List Row) where
  pub sent_none : IsSent line old old rows 0
  sent_none = record { front = []; joined = refl; took = Appends-nil old }

  module _ (now : Option (List ℕ)) (count : ℕ) (so_far : IsSent line old now rows count) where
    pub sent_all : length rows ≤ count → Appends old now (flat_map line rows)
    sent_all end =
        subst (Appends old now)
        (sym (so_far.joined ∙ ap (λ (left : List Row). so_far.front ++ flat_map line left) (drop_all count rows end) ∙ append-nil so_far.front)) so_far.took

    module _ (next : Option (List ℕ)) (d : Row) (within : count < length rows) where
      abbrev rest : List ℕ
      rest = flat_map line (drop (count + 1) rows)

      -- one line, and those that are then left
      next_line : flat_map line rows ≡ so_far.front ++ (line (get_or rows count d) ++ rest)
      next_line =
          so_far.joined ∙ ap (λ (left : List Row). so_far.front ++ flat_map line left) (drop_more rows count d within)
          ∙ ap (λ (text : List ℕ). so_far.front ++ text) (flat_map-cons line (get_or rows count d) (drop (count + 1) rows))

      pub sent_more : Appends now next (line (get_or rows count d)) → IsSent line old next rows (count + 1)
      sent_more took = record {
        front = so_far.front ++ line (get_or rows count d);
        joined = next_line ∙ sym (append_assoc so_far.front (line (get_or rows count d)) rest);
        took = Appends-trans old now next so_far.front (line (get_or rows count d)) so_far.took took;
      }

      pub sent_part : AppendsPart now next (line (get_or rows count d)) → AppendsPart old next (flat_map line rows)
      sent_part took =
          subst (AppendsPart old next) (sym next_line)
          (part_behind_front old next so_far.front (line (get_or rows count d) ++ rest) now so_far.took (part_of_front now next (line (get_or rows count d)) rest took))
