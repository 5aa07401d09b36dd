-- Keys of groups are the same where the groups are.
use Rattle.std.proofs.Common.{◌≡◌, ℕ, ◌==◌, Bool, ◌&&◌, refl, ap, ◌∙◌}
use Rattle.std.specs.Cmp.{unsigned_ties}
use Rattle.std.specs.Ordering.{nat_cmp, ordering_then, is_eq}
use Rattle.std.specs.declared.cmp.Ordering.{Ordering}
use Rattle.std.specs.declared.cmp.Ordering.TheVariants.{Less, Equal, Greater}
use Rattle.packed_names.specs.Order.{survey_place}
use Rattle.obs_record.specs.declared.sighting.Sighting.{Sighting}
use Rattle.obs_record.specs.declared.name.TrackName.{TrackName}
use Rattle.obs_record.specs.declared.name.TrackName.TheVariants as tracks
use Rattle.packed_names.specs.declared.name.Designation.TheVariants as designations
use Rattle.act_model.specs.BatchRules.{name_of}
use Rattle.obs_record.specs.Short.{same_short}
use Rattle.act_model.specs.BatchRules.{same_track, same_group}
use Rattle.batch_rules.specs.contracts.keys.NameKeyPartialEq.TheImpl as name_keys
use Rattle.batch_rules.specs.contracts.keys.GroupKeyPartialEq.TheImpl as group_keys
use Rattle.batch_rules.specs.Groups.{name_key, group_key}

-- what compares equal in two steps is equal in both
then_ties : (a b : Ordering) → (is_eq a && is_eq b) ≡ is_eq (ordering_then a b)
then_ties Less b = refl
then_ties Equal b = refl
then_ties Greater b = refl

then_all_tie : (a b c : Ordering) → (is_eq a && (is_eq b && is_eq c)) ≡ is_eq (ordering_then (ordering_then a b) c)
then_all_tie Less b c = refl
then_all_tie Equal b c = then_ties b c
then_all_tie Greater b c = refl

two_tie : (a b c d : ℕ) → ((a == b) && (c == d)) ≡ is_eq (ordering_then (nat_cmp a b) (nat_cmp c d))
two_tie a b c d =
    ap (λ (t : Bool). t && (c == d)) (unsigned_ties a b)
    ∙ ap (λ (t : Bool). is_eq (nat_cmp a b) && t) (unsigned_ties c d)
    ∙ then_ties (nat_cmp a b) (nat_cmp c d)

three_tie : (a b c d e f : ℕ) → ((a == b) && ((c == d) && (e == f)))
    ≡ is_eq (ordering_then (ordering_then (nat_cmp a b) (nat_cmp c d)) (nat_cmp e f))
three_tie a b c d e f =
    ap (λ (t : Bool). t && ((c == d) && (e == f))) (unsigned_ties a b)
    ∙ ap (λ (t : Bool). is_eq (nat_cmp a b) && (t && (e == f))) (unsigned_ties c d)
    ∙ ap (λ (t : Bool). is_eq (nat_cmp a b) && (is_eq (nat_cmp c d) && t)) (unsigned_ties e f)
    ∙ then_all_tie (nat_cmp a b) (nat_cmp c d) (nat_cmp e f)

same_names : (a b : TrackName) → (name_keys.ghosts).eq (name_key a) (name_key b) ≡ same_track a b
same_names (tracks.Number a) (tracks.Number b) = refl
same_names (tracks.Number a) (tracks.Designation (designations.Provisional b)) = refl
same_names (tracks.Number a) (tracks.Designation (designations.Survey b n)) = refl
same_names (tracks.Number a) (tracks.Sub b) = refl
same_names (tracks.Designation (designations.Provisional a)) (tracks.Number b) = refl
same_names (tracks.Designation (designations.Provisional a)) (tracks.Designation (designations.Provisional b)) =
    three_tie a.half.year b.half.year a.half.index b.half.index a.order b.order
same_names (tracks.Designation (designations.Provisional a)) (tracks.Designation (designations.Survey b n)) = refl
same_names (tracks.Designation (designations.Provisional a)) (tracks.Sub b) = refl
same_names (tracks.Designation (designations.Survey a m)) (tracks.Number b) = refl
same_names (tracks.Designation (designations.Survey a m)) (tracks.Designation (designations.Provisional b)) = refl
same_names (tracks.Designation (designations.Survey a m)) (tracks.Designation (designations.Survey b n)) =
    two_tie (survey_place a) (survey_place b) m n
same_names (tracks.Designation (designations.Survey a m)) (tracks.Sub b) = refl
same_names (tracks.Sub a) (tracks.Number b) = refl
same_names (tracks.Sub a) (tracks.Designation (designations.Provisional b)) = refl
same_names (tracks.Sub a) (tracks.Designation (designations.Survey b n)) = refl
same_names (tracks.Sub a) (tracks.Sub b) = refl

pub same_keys : (a b : Sighting) → (group_keys.ghosts).eq (group_key a) (group_key b) ≡ same_group a b
same_keys a b = ap (λ (same : Bool). same && same_short a.station b.station) (same_names (name_of a) (name_of b))
