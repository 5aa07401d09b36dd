-- What compares equal is the same.
use Rattle.std.proofs.Common.{◌≡◌, ℕ, true, refl, ap, sym, ◌∙◌}
use Rattle.std.specs.declared.cmp.Ordering.{Ordering}
use Rattle.std.specs.declared.cmp.Ordering.TheVariants.{Less, Equal, Greater}
use Rattle.std.specs.Ordering.{nat_cmp, ordering_then, ordering_reverse, eq_by_cmp, is_eq}
use Rattle.std.specs.Cmp.{IsTotalOrder}
use Rattle.std.proofs.lemmas.Cmp.{tied_itself, ranked, by_ranked}
use Rattle.packed_names.specs.declared.half_month.HalfMonth.{HalfMonth}
use Rattle.packed_names.specs.declared.provisional.Provisional.{Provisional}
use Rattle.packed_names.specs.declared.name.Designation.{Designation}
use Rattle.packed_names.specs.declared.name.Designation.TheVariants as designations
use Rattle.packed_names.specs.declared.survey.Survey.{Survey}
use Rattle.packed_names.specs.declared.survey.Survey.TheVariants.{PalomarLeiden, T1, T2, T3}
use Rattle.packed_names.specs.Order.{half_cmp, provisional_cmp, survey_place, designation_cmp}
use Rattle.packed_names.specs.contracts.survey.SurveyOrd.TheImpl as surveys
use Rattle.packed_names.specs.contracts.name.DesignationOrd.TheImpl as derived
use Rattle.packed_names.specs.contracts.name.DesignationOrd.TheImpl.Laws.{total-law}
use Rattle.identify_core.specs.contracts.link.LinkOrd.TheImpl as derived_links
use Rattle.identify_core.specs.contracts.link.LinkOrd.TheImpl.Laws.{total-law as links_total}
use Rattle.identify_core.specs.declared.link.Link.{Link}
use Rattle.identify_core.specs.Keeping.{link_cmp}

pub numbers_same : (x y : ℕ) → is_eq (nat_cmp x y) ≡ true → x ≡ y
numbers_same x y same = by_ranked _ _ _ (nat_cmp x y) (ranked x y _ refl) (λ e _. cc) (λ _ e. e) (λ e _. cc)

pub then_parts : (o p : Ordering) → is_eq (ordering_then o p) ≡ true → (is_eq o ≡ true) × (is_eq p ≡ true)
then_parts Less p h = cc
then_parts Equal p h = (refl, h)
then_parts Greater p h = cc

pub half_same : (one other : HalfMonth) → eq_by_cmp half_cmp one other ≡ true → one ≡ other
half_same one other same =
    let parts = then_parts (nat_cmp one.year other.year) (nat_cmp one.index other.index) same in
    let year = numbers_same one.year other.year parts.0 in
    let index = numbers_same one.index other.index parts.1 in
    ap (λ (y : ℕ). let half : HalfMonth = record { year = y; index = one.index } in half) year
    ∙ ap (λ (i : ℕ). let half : HalfMonth = record { year = other.year; index = i } in half) index

pub provisional_same : (one other : Provisional) → is_eq (provisional_cmp one other) ≡ true → one ≡ other
provisional_same one other same =
    let parts = then_parts (half_cmp one.half other.half) (nat_cmp one.order other.order) same in
    let half = half_same one.half other.half parts.0 in
    let order = numbers_same one.order other.order parts.1 in
    ap (λ (h : HalfMonth). let given : Provisional = record { half = h; order = one.order } in given) half
    ∙ ap (λ (n : ℕ). let given : Provisional = record { half = other.half; order = n } in given) order

survey_same : (one other : Survey) → survey_place one ≡ survey_place other → one ≡ other
survey_same PalomarLeiden PalomarLeiden e = refl
survey_same T1 T1 e = refl
survey_same T2 T2 e = refl
survey_same T3 T3 e = refl
survey_same one other e = cc

pub designation_same : (d e : Designation) → eq_by_cmp designation_cmp d e ≡ true → d ≡ e
designation_same (designations.Provisional one) (designations.Provisional other) same = let e = provisional_same one other same in ap (λ (p : Provisional). let d : Designation = designations.Provisional p in d) e
designation_same (designations.Provisional one) (designations.Survey survey number) same = cc
designation_same (designations.Survey survey number) (designations.Provisional other) same = cc
designation_same (designations.Survey survey number) (designations.Survey other_survey other_number) same =
    let parts = then_parts (nat_cmp (survey_place survey) (survey_place other_survey)) (nat_cmp number other_number) same in
    let surveys = survey_same survey other_survey (numbers_same (survey_place survey) (survey_place other_survey) parts.0) in
    let numbers = numbers_same number other_number parts.1 in
    ap (λ (s : Survey). let d : Designation = designations.Survey s number in d) surveys ∙ ap (λ (n : ℕ). let d : Designation = designations.Survey other_survey n in d) numbers

-- an order that compares as another one does is total where that one is
total_too : {K : Type 0} (R S : K → K → Ordering) → ((x y : K) → R x y ≡ S x y) → IsTotalOrder R → IsTotalOrder S
total_too R S same total = record {
  antisymm = λ x y. sym (same x y) ∙ total.antisymm x y ∙ ap ordering_reverse (same y x);
  trans = λ x y z one two. sym (same x z) ∙ total.trans x y z (same x y ∙ one) (same y z ∙ two);
  congr = λ x y z tied. sym (same x z) ∙ total.congr x y z (same x y ∙ tied) ∙ same y z;
}

survey_order : (one other : Survey) → (surveys.ghosts).cmp one other ≡ nat_cmp (survey_place one) (survey_place other)
survey_order PalomarLeiden PalomarLeiden = refl
survey_order T1 T1 = refl
survey_order T2 T2 = refl
survey_order T3 T3 = refl
survey_order one other = refl

pub designation_order : (d e : Designation) → (derived.ghosts).cmp d e ≡ designation_cmp d e
designation_order (designations.Provisional one) (designations.Provisional other) = refl
designation_order (designations.Provisional one) (designations.Survey survey number) = refl
designation_order (designations.Survey survey number) (designations.Provisional other) = refl
designation_order (designations.Survey survey number) (designations.Survey other_survey other_number) =
    ap (λ (o : Ordering). ordering_then o (nat_cmp number other_number)) (survey_order survey other_survey)

pub designation_total : IsTotalOrder designation_cmp
designation_total = total_too (derived.ghosts).cmp designation_cmp designation_order total-law

pub designation_itself : (d : Designation) → eq_by_cmp designation_cmp d d ≡ true
designation_itself d = ap is_eq (tied_itself designation_total d)

pub link_order : (one other : Link) → (derived_links.ghosts).cmp one other ≡ link_cmp one other
link_order one other =
    ap (λ (o : Ordering). ordering_then o ((derived.ghosts).cmp one.member other.member)) (designation_order one.principal other.principal)
    ∙ ap (ordering_then (designation_cmp one.principal other.principal)) (designation_order one.member other.member)

pub link_total : IsTotalOrder link_cmp
link_total = total_too (derived_links.ghosts).cmp link_cmp link_order links_total
