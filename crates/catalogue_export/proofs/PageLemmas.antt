-- Pages, one after the other.
use Rattle.std.proofs.Common.{◌≡◌, ℕ, ◌+◌, ◌-◌, ◌^◌, ◌<◌, min, List, ◌++◌, length, take, drop, refl, sym, ap, subst, ◌∙◌, append_assoc, arith, true, false, is_err, Result, Ok, Err, OnOk, OnErr}
use Rattle.std.proofs.lemmas.List.{take-append-drop, length-append, length-take, length-take-le, take_at}
use Rattle.std.specs.declared.option.Option.{Option}
use Rattle.std.specs.Io.KnownBytes.{Appends}
use Rattle.std.proofs.KnownBytes.{Appends-trans}
use Rattle.desk_io.specs.Outside.{AppendsPart}
use Rattle.catalogue_export.specs.Exports.{AppendsFront}

-- ---- one page

-- ---- all pages

-- with one page more
pub joined : (text page come rest : List ℕ) (n : ℕ) → page ≡ take n come → rest ≡ drop n come → (text ++ page) ++ rest ≡ text ++ come
joined text page come rest n page_is rest_is =
    append_assoc text page rest
    ∙ ap (λ (l : List ℕ). text ++ l) (ap (λ (l : List ℕ). l ++ rest) page_is ∙ ap (λ (l : List ℕ). take n come ++ l) rest_is ∙ take-append-drop n come)

-- ---- what a sink took

-- bytes were sent, and with what is to come they are the whole text
pub record Sends (old new : Option (List ℕ)) (all come : List ℕ) (written : ℕ) : Type 0 where
  pub sent : List ℕ
  pub taken : Appends old new sent
  pub whole : sent ++ come ≡ all
  pub amount : written ≡ min (length sent) (2 ^ 64 - 1)

pub page_sent : (old mid new : Option (List ℕ)) (all come rest page : List ℕ) (n written more : ℕ) → Sends old mid all come written → page ≡ take n come → rest ≡ drop n come
    → n ≡ min 4096 (length come) → Appends mid new page → more ≡ min (written + n) (2 ^ 64 - 1) → Sends old new all rest more
page_sent old mid new all come rest page n written more sends page_is rest_is count appends added =
    record {
      sent = sends.sent ++ page;
      taken = Appends-trans old mid new sends.sent page sends.taken appends;
      whole = joined sends.sent page come rest n page_is rest_is ∙ sends.whole;
      amount = omega (arith, length-append sends.sent page, ap length page_is, length-take n come, count, added, sends.amount);
    }

pub front_sent : (old new : Option (List ℕ)) (all come : List ℕ) (written : ℕ) → Sends old new all come written → AppendsFront old new all
front_sent old new all come written sends = (
  length sends.sent,
  omega (arith, ap length sends.whole, length-append sends.sent come),
  subst (λ (l : List ℕ). Appends old new l) (sym (ap (take (length sends.sent)) (sym sends.whole) ∙ take_at sends.sent come (length sends.sent) refl)) sends.taken,
)

pub part_sent : (old mid new : Option (List ℕ)) (all come page : List ℕ) (n written : ℕ) → Sends old mid all come written → page ≡ take n come → AppendsPart mid new page
    → AppendsPart old new all
part_sent old mid new all come page n written sends page_is part =
    let m = part.0 in
    let short : m < length page = part.1 in
    let front : List ℕ = take m page in
    let rest : List ℕ = drop n come in
    let whole : sends.sent ++ (page ++ rest) ≡ all = ap (λ (l : List ℕ). sends.sent ++ l) (ap (λ (l : List ℕ). l ++ rest) page_is ∙ take-append-drop n come) ∙ sends.whole in
    let long : length (sends.sent ++ front) ≡ length sends.sent + m = omega (arith, length-append sends.sent front, length-take-le m page (omega arith)) in
    let split : (sends.sent ++ front) ++ (drop m page ++ rest) ≡ all =
    append_assoc sends.sent front (drop m page ++ rest) ∙ ap (λ (l : List ℕ). sends.sent ++ l) (sym (append_assoc front (drop m page) rest) ∙ ap (λ (l : List ℕ). l ++ rest) (take-append-drop m page)) ∙ whole in (
      length sends.sent + m,
      omega (arith, ap length whole, length-append sends.sent (page ++ rest), length-append page rest),
      subst (λ (l : List ℕ). Appends old new l) (sym (ap (take (length sends.sent + m)) (sym split) ∙ take_at (sends.sent ++ front) (drop m page ++ rest) (length sends.sent + m) long))
          (Appends-trans old mid new sends.sent front sends.taken part.2),
    )

pub part_is_front : (old new : Option (List ℕ)) (all : List ℕ) → AppendsPart old new all → AppendsFront old new all
part_is_front old new all part = (part.0, omega (arith, part.1), part.2)

-- ---- what a call's answer says

pub on_ok : {A E : Type 0} (answer : Result A E) (P : Type 0) → is_err answer ≡ false → OnOk answer P → P
on_ok (Ok a) P is holds = holds
on_ok (Err e) P is holds = absurd cc

pub on_err : {A E : Type 0} (answer : Result A E) (P : Type 0) → is_err answer ≡ true → OnErr answer P → P
on_err (Ok a) P is holds = absurd cc
on_err (Err e) P is holds = holds
