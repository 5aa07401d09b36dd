-- The data lines of a batch are the lines that stand below a column header.
use Rattle.std.proofs.Common.{◌≡◌, ◌⊎◌, ℕ, zero, suc, true, false, ◌||◌, eqb, List, [], ◌∷◌, ◌++◌, append_assoc, length, All, Result, Ok, Err, refl, sym, ap, subst, inl, inr, arith}
use Rattle.std.specs.List.{Contains, list_all, enumerate_from}
use Rattle.std.specs.Str.Lines.{lines}
use Rattle.std.proofs.lemmas.Bool.{cases_Bool, cond_both, eqb-true, and_parts, or_parts, or_from, or_left, or_right}
use Rattle.std.proofs.lemmas.List.Elements.{All-nil, All-cons, All-head, All-tail}
use Rattle.ascii_text.specs.Blanks.{are_blanks}
use Rattle.obs_record.specs.declared.rule.HeaderFault.{HeaderFault}
use Rattle.obs_record.specs.declared.rule.HeaderFault.TheVariants.{H1}
use Rattle.text_lines.specs.Steps.{◌>>=◌}
use Rattle.ades_psv.specs.declared.columns.Columns.{Columns}
use Rattle.ades_psv.specs.declared.header.Place.{Place}
use Rattle.ades_psv.specs.declared.header.Place.TheVariants.{Opening, Header, Listing}
use Rattle.ades_psv.specs.declared.header.Step.{Step}
use Rattle.ades_psv.specs.declared.header.Step.TheVariants.{On, Data, Fault}
use Rattle.ades_psv.specs.Columns.{columns_of}
use Rattle.ades_psv.specs.Headers.{is_version, is_group, is_element, below_header, filled_step, step}
use Rattle.ades_psv.specs.Batch.{DataLine, Said, before, said_on, said_from, ended, data_lines_of}
use Rattle.ades_psv.specs.Standing.{is_passed, StandsBelow}
use Rattle.ades_psv.proofs.laws.nearest_header.Goals as goal

abbrev Numbered : Type 0
Numbered = List (ℕ × List ℕ)

-- the line below these columns, as a data line
abbrev listed_as : Columns → ℕ × List ℕ → DataLine
listed_as known line = record { columns = known; number = line.0; text = line.1 }

-- ---- lists of data lines

first_or_later : (one d : DataLine) (ds : List DataLine) → Contains (one ∷ ds) d → (one ≡ d) ⊎ Contains ds d
first_or_later one d ds (zero, lt, same) = inl same
first_or_later one d ds (suc k, lt, same) = inr (k, omega arith, same)

later : (one d : DataLine) (ds : List DataLine) → Contains ds d → Contains (one ∷ ds) d
later one d ds is = (suc is.0, (let lt = is.1 in omega arith), is.2)

-- what is said behind a data line
before_said : (one : DataLine) (r : Said) (end : Place) (ds : List DataLine) → (r >>= before one) ≡ Ok (end, ds)
    → (rest : List DataLine) × (r ≡ Ok (end, rest)) × (one ∷ rest ≡ ds)
before_said one (Err fault) end ds said = absurd cc
before_said one (Ok (place, found)) end ds said =
    let same : (place, one ∷ found) ≡ (end, ds) = cc in
    (found, ap (λ (x : Place × List DataLine). Ok (x.0, found)) same, ap (λ (x : Place × List DataLine). x.1) same)

-- ---- single lines

-- a blank line opens no group
blank_no_group : (line : List ℕ) → are_blanks line ≡ true → is_group line ≡ false
unfolding are_blanks
blank_no_group [] blank = refl
blank_no_group (byte ∷ line) blank =
    let is : byte ≡ 32 = eqb-true byte 32 (and_parts (eqb byte 32) (list_all (λ b. eqb b 32) line) blank).0 in
    rw is refl

-- and a line that opens a group isn't blank
group_no_blank : (line : List ℕ) → is_group line ≡ true → are_blanks line ≡ false
group_no_blank line opens = elim (cases_Bool (are_blanks line)) [
  | inl blank ↦ absurd (let no = blank_no_group line blank in cc)
  | inr filled ↦ filled
]

-- the line of the version opens a group
version_group : (line : List ℕ) → is_version line ≡ true → is_group line ≡ true
unfolding is_version
version_group line version = (and_parts (is_group line) _ version).0

not_passed : (line : List ℕ) → is_passed line ≡ false → (are_blanks line ≡ false) × (is_group line ≡ false) × (is_element line ≡ false)
not_passed line listed =
    let tests = or_parts (are_blanks line) (is_group line || is_element line) listed in
    let signs = or_parts (is_group line) (is_element line) tests.1 in
    (tests.0, signs.0, signs.1)

-- ---- from the data lines to where they stand

-- lines below these columns: whatever follows that opens no group, a line behind it stands below them
abbrev AreListed : Columns → Numbered → Type 0
AreListed known front = (between : Numbered) (line : ℕ × List ℕ) (more : Numbered) → All (λ l. is_group l.1 ≡ false) between → is_passed line.1 ≡ false
    → StandsBelow (front ++ (between ++ line ∷ more)) (listed_as known line)

-- the lines end in this place; in a header the column header is still to come
abbrev EndsIn : Place → Numbered → Type 0
EndsIn Opening front = Unit {0}
EndsIn Header front = (group : Numbered) (header : ℕ × List ℕ) (known : Columns) → All (λ l. is_passed l.1 ≡ true) group → is_passed header.1 ≡ false → columns_of header.1 ≡ Ok known
    → AreListed known (front ++ (group ++ header ∷ []))
EndsIn (Listing known) front = AreListed known front

opened : (front : Numbered) (line : ℕ × List ℕ) → is_group line.1 ≡ true → EndsIn Header (front ++ line ∷ [])
opened front opening opens = λ group header known passed names columns between line more nearest listed. record {
  above = front;
  opening = opening;
  group = group;
  header = header;
  between = between;
  below = more;
  are = simp append_assoc;
  opens = opens;
  passed = passed;
  names = names;
  columns = columns;
  nearest = nearest;
  listed = listed;
}

header_on : (front : Numbered) (line : ℕ × List ℕ) → EndsIn Header front → is_passed line.1 ≡ true → EndsIn Header (front ++ line ∷ [])
header_on front line at passed = λ group header known all names columns.
    subst (AreListed known) (sym (append_assoc front (line ∷ []) (group ++ header ∷ [])))
    (at (line ∷ group) header known (All-cons (λ l. is_passed l.1 ≡ true) line group passed all) names columns)

listing_on : (front : Numbered) (line : ℕ × List ℕ) (known : Columns) → EndsIn (Listing known) front → is_group line.1 ≡ false → EndsIn (Listing known) (front ++ line ∷ [])
listing_on front line known at other = λ between next more nearest listed.
    subst (λ (ls : Numbered). StandsBelow ls (listed_as known next)) (sym (append_assoc front (line ∷ []) (between ++ next ∷ more)))
    (at (line ∷ between) next more (All-cons (λ l. is_group l.1 ≡ false) line between other nearest) listed)

-- one line behind those that end in a place, where what the lines behind it lead to is known
module _ (front : Numbered) (line : ℕ × List ℕ) (more : Numbered) (end : Place) (ds : List DataLine) (d : DataLine)
    (further : (next : Place) (rest : List DataLine) → EndsIn next (front ++ line ∷ []) → said_from next more ≡ Ok (end, rest) → Contains rest d → StandsBelow (front ++ line ∷ more) d) where
  abbrev Leads : Step → Type 0
  Leads next = said_on line.0 line.1 (λ place. said_from place more) next ≡ Ok (end, ds) → Contains ds d → StandsBelow (front ++ line ∷ more) d

  named_by : (named : Result Columns HeaderFault) → columns_of line.1 ≡ named → is_passed line.1 ≡ false → EndsIn Header front → Leads (below_header named)
  named_by (Ok known) n names at = further (Listing known) ds (at [] line known (All-nil _) names n)
  named_by (Err fault) n names at = λ said is. absurd cc

  listed_by : (known : Columns) → EndsIn (Listing known) front → is_passed line.1 ≡ false → is_group line.1 ≡ false → Leads (Data known)
  listed_by known at listed g said is =
      let rest = before_said (listed_as known line) (said_from (Listing known) more) end ds said in
      elim (first_or_later (listed_as known line) d rest.0 (subst (λ (ls : List DataLine). Contains ls d) (sym rest.2) is)) [
        | inl same ↦ subst (StandsBelow (front ++ line ∷ more)) same (at [] line more (All-nil _) listed)
        | inr behind ↦ further (Listing known) rest.0 (listing_on front line known at g) rest.1 behind
      ]

  stands_by : (place : Place) → EndsIn place front → Leads (step place line.1)
  unfolding step filled_step
  stands_by Opening at =
      cond_both (are_blanks line.1) (On Opening) _ Leads (λ b. further Opening ds tt) (λ b.
      cond_both (is_version line.1) (On Header) (Fault H1) Leads (λ v. further Header ds (opened front line (version_group line.1 v))) (λ v said is. absurd cc))
  stands_by Header at =
      cond_both (are_blanks line.1) (On Header) _ Leads (λ b. further Header ds (header_on front line at (or_left _ _ b))) (λ b.
      cond_both (is_group line.1 || is_element line.1) (On Header) _ Leads (λ g. further Header ds (header_on front line at (or_right (are_blanks line.1) _ g))) (λ g.
      named_by (columns_of line.1) refl (or_from _ _ b g) at))
  stands_by (Listing known) at =
      cond_both (are_blanks line.1) (On (Listing known)) _ Leads (λ b. further (Listing known) ds (listing_on front line known at (blank_no_group line.1 b))) (λ b.
      cond_both (is_group line.1) (On Header) _ Leads (λ g. further Header ds (opened front line g)) (λ g.
      cond_both (is_element line.1) (On (Listing known)) (Data known) Leads (λ e. further (Listing known) ds (listing_on front line known at g)) (λ e.
      listed_by known at (or_from (are_blanks line.1) _ b (or_from (is_group line.1) _ g e)) g)))

stands : (place : Place) (front numbered : Numbered) (end : Place) (ds : List DataLine) (d : DataLine) → EndsIn place front → said_from place numbered ≡ Ok (end, ds)
    → Contains ds d → StandsBelow (front ++ numbered) d
unfolding said_from
stands place front [] end ds d at said is =
    let none : Place × List DataLine = (place, []) in
    let same : (end, ds) ≡ none = cc in
    absurd (omega (arith, is.1, ap (λ (x : Place × List DataLine). length x.1) same))
stands place front (line ∷ more) end ds d at said is =
    stands_by front line more end ds d
    (λ next rest ends s i. subst (λ (ls : Numbered). StandsBelow ls d) (append_assoc front (line ∷ []) more) (stands next (front ++ line ∷ []) more end rest d ends s i)) place at said is

-- ---- from where a line stands to the data lines

-- where the next line stands; a fault leads nowhere, so that it may be said to lead into a header
abbrev place_after : Step → Place
place_after (On next) = next
place_after (Data columns) = Listing columns
place_after (Fault fault) = Header

abbrev LeadsTo : Place → Step → Type 0
LeadsTo place next = place_after next ≡ place

-- the data lines of the lines behind this one are among those of all
record AreBehind (next : Place) (more : Numbered) (end : Place) (ds : List DataLine) : Type 0 where
  rest : List DataLine
  said : said_from next more ≡ Ok (end, rest)
  among : (d : DataLine) → Contains rest d → Contains ds d

behind_by : (next : Step) (line : ℕ × List ℕ) (more : Numbered) (end : Place) (ds : List DataLine) → said_on line.0 line.1 (λ p. said_from p more) next ≡ Ok (end, ds)
    → AreBehind (place_after next) more end ds
behind_by (On next) line more end ds said = record { rest = ds; said = said; among = λ d is. is }
behind_by (Fault fault) line more end ds said = absurd cc
behind_by (Data columns) line more end ds said =
    let rest = before_said (listed_as columns line) (said_from (Listing columns) more) end ds said in
    record { rest = rest.0; said = rest.1; among = λ d is. subst (λ (ls : List DataLine). Contains ls d) rest.2 (later (listed_as columns line) d rest.0 is) }

behind_line : (place next : Place) (line : ℕ × List ℕ) (more : Numbered) (end : Place) (ds : List DataLine) → place_after (step place line.1) ≡ next → said_from place (line ∷ more) ≡ Ok (end, ds)
    → AreBehind next more end ds
unfolding said_from
behind_line place next line more end ds leads said = subst (λ (p : Place). AreBehind p more end ds) leads (behind_by (step place line.1) line more end ds said)

-- lines each of which leads on to the place in which it stands
behind_lines : (place : Place) (front more : Numbered) (end : Place) (ds : List DataLine) → All (λ line. LeadsTo place (step place line.1)) front → said_from place (front ++ more) ≡ Ok (end, ds)
    → AreBehind place more end ds
behind_lines place [] more end ds stay said = record { rest = ds; said = said; among = λ d is. is }
behind_lines place (line ∷ front) more end ds stay said =
    let Stays = λ (l : ℕ × List ℕ). LeadsTo place (step place l.1) in
    let next = behind_line place place line (front ++ more) end ds (All-head Stays line front stay) said in
    let far = behind_lines place front more end next.rest (All-tail Stays line front stay) next.said in
    record { rest = far.rest; said = far.said; among = λ d is. next.among d (far.among d is) }

-- lines wherever they lead
behind_any : (place : Place) (front more : Numbered) (end : Place) (ds : List DataLine) → said_from place (front ++ more) ≡ Ok (end, ds) → (next : Place) × AreBehind next more end ds
behind_any place [] more end ds said = (place, record { rest = ds; said = said; among = λ d is. is })
behind_any place (line ∷ front) more end ds said =
    let next = behind_line place (place_after (step place line.1)) line (front ++ more) end ds refl said in
    let far = behind_any (place_after (step place line.1)) front more end next.rest next.said in
    (far.0, record { rest = far.1.rest; said = far.1.said; among = λ d is. next.among d (far.1.among d is) })

-- a line that opens a group leads into a header, if anywhere
into_header : (place : Place) (line : List ℕ) → is_group line ≡ true → LeadsTo Header (step place line)
unfolding step filled_step
into_header Opening line g = rw (group_no_blank line g) (cond_both (is_version line) (On Header) (Fault H1) (LeadsTo Header) (λ v. refl) (λ v. refl))
into_header Header line g = rw (group_no_blank line g, g) refl
into_header (Listing known) line g = rw (group_no_blank line g, g) refl

header_stays : (line : List ℕ) → is_passed line ≡ true → LeadsTo Header (step Header line)
unfolding step filled_step
header_stays line passed =
    cond_both (are_blanks line) (On Header) _ (LeadsTo Header) (λ b. refl) (λ b.
    cond_both (is_group line || is_element line) (On Header) _ (LeadsTo Header) (λ g. refl) (λ g. absurd (let none = or_from (are_blanks line) _ b g in cc)))

listing_stays : (known : Columns) (line : List ℕ) → is_group line ≡ false → LeadsTo (Listing known) (step (Listing known) line)
unfolding step filled_step
listing_stays known line g =
    cond_both (are_blanks line) (On (Listing known)) _ (LeadsTo (Listing known)) (λ b. refl) (λ b.
    rw g (cond_both (is_element line) (On (Listing known)) (Data known) (LeadsTo (Listing known)) (λ e. refl) (λ e. refl)))

into_listing : (known : Columns) (line : List ℕ) → is_passed line ≡ false → columns_of line ≡ Ok known → place_after (step Header line) ≡ Listing known
unfolding step filled_step
into_listing known line names columns = let tests = not_passed line names in rw (tests.0, tests.1, tests.2, columns) refl

-- a line that isn't passed over, below columns
listed_first : (known : Columns) (line : ℕ × List ℕ) (more : Numbered) (end : Place) (ds : List DataLine) → is_passed line.1 ≡ false
    → said_from (Listing known) (line ∷ more) ≡ Ok (end, ds) → Contains ds (listed_as known line)
unfolding said_from step filled_step
listed_first known line more end ds listed said =
    let tests = not_passed line.1 listed in
    let rest = before_said (listed_as known line) (said_from (Listing known) more) end ds (rw (tests.0, tests.1, tests.2) at said) in
    subst (λ (ls : List DataLine). Contains ls (listed_as known line)) rest.2 (0, omega arith, refl)

stands_in : (numbered : Numbered) (end : Place) (ds : List DataLine) (d : DataLine) → said_from Opening numbered ≡ Ok (end, ds) → StandsBelow numbered d → Contains ds d
stands_in numbered end ds d said is =
    let above = behind_any Opening is.above _ end ds (rw is.are at said) in
    let opening = behind_line above.0 Header is.opening _ end above.1.rest (into_header above.0 is.opening.1 is.opens) above.1.said in
    let group = behind_lines Header is.group _ end opening.rest (λ k line lt. header_stays _ (is.passed k line lt)) opening.said in
    let header = behind_line Header (Listing d.columns) is.header _ end group.rest (into_listing d.columns is.header.1 is.names is.columns) group.said in
    let between = behind_lines (Listing d.columns) is.between _ end header.rest (λ k line lt. listing_stays d.columns _ (is.nearest k line lt)) header.said in
    above.1.among d (opening.among d (group.among d (header.among d (between.among d
    (listed_first d.columns (d.number, d.text) is.below end between.rest is.listed between.said)))))

-- ---- whole batches

well_ended : (r : Said) (last : ℕ) (ds : List DataLine) → (r >>= ended last) ≡ Ok ds → (end : Place) × (r ≡ Ok (end, ds))
well_ended (Ok (Opening, found)) last ds said = absurd cc
well_ended (Ok (Header, found)) last ds said = absurd cc
well_ended (Ok (Listing known, found)) last ds said = (Listing known, (let same : found ≡ ds = cc in ap (λ (x : List DataLine). Ok (Listing known, x)) same))
well_ended (Err fault) last ds said = absurd cc

pub returns : goal.returns
unfolding data_lines_of
returns c = λ body ds said d.
    let whole = well_ended (said_from Opening (enumerate_from 1 (lines body))) (length (lines body)) ds said in
    (stands Opening [] (enumerate_from 1 (lines body)) whole.0 ds d tt whole.1, stands_in (enumerate_from 1 (lines body)) whole.0 ds d whole.1)
