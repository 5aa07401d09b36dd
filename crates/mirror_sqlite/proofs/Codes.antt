-- Short texts, and rows of six columns.
use Rattle.std.proofs.Common.{◌≡◌, ℕ, List, [], ◌∷◌, length, true, refl, ap, ◌∙◌, arith}
use Rattle.std.specs.Prelude.{◌==◌}
use Rattle.std.specs.List.{list_all}
use Rattle.std.proofs.lemmas.Bool.{and_parts}
use Rattle.std.proofs.lemmas.Bool.Decides.{nat_tests}
use Rattle.act_bodies.specs.Members.{is_station_code, is_alphanumeric}
use Rattle.obs_record.specs.declared.short.Short.{Short}
use Rattle.obs_record.specs.Short.{IsShort, kept_short}
use Rattle.sqlite.specs.declared.types.Value.{Value}
use Rattle.sqlite.specs.Order.{Row, column}
use Rattle.mirror_store.specs.Rows.{IsStation}
use Rattle.mirror_sqlite.specs.Stored.{code_text}

code_kept : (text : List ℕ) → length text ≡ 3 → code_text (kept_short text) ≡ text
unfolding kept_short
code_kept [] three = absurd (omega arith)
code_kept (a ∷ []) three = absurd (omega arith)
code_kept (a ∷ b ∷ []) three = absurd (omega arith)
code_kept (a ∷ b ∷ c ∷ []) three = refl
code_kept (a ∷ b ∷ c ∷ d ∷ more) three = absurd (omega arith)

pub station_kept : (text : List ℕ) (code : Short) → is_station_code text ≡ true → IsShort code → code ≡ kept_short text
    → IsStation code × (code_text code ≡ text)
station_kept text code is short kept =
    let first = (and_parts (length text == 3) (list_all is_alphanumeric text) is).0 in
    let three : length text ≡ 3 = grind (arith, nat_tests, first) in
    let text_is = ap code_text kept ∙ code_kept text three in
    ((short, ap is_station_code text_is ∙ is), text_is)

pub six : (row : Row) (a b c d e f : Value) → length row ≡ 6 → column row 0 ≡ a → column row 1 ≡ b → column row 2 ≡ c
    → column row 3 ≡ d → column row 4 ≡ e → column row 5 ≡ f → row ≡ a ∷ b ∷ c ∷ d ∷ e ∷ f ∷ []
six [] a b c d e f len p q r s t u = absurd (omega arith)
six (x ∷ []) a b c d e f len p q r s t u = absurd (omega arith)
six (x ∷ y ∷ []) a b c d e f len p q r s t u = absurd (omega arith)
six (x ∷ y ∷ z ∷ []) a b c d e f len p q r s t u = absurd (omega arith)
six (x ∷ y ∷ z ∷ v ∷ []) a b c d e f len p q r s t u = absurd (omega arith)
six (x ∷ y ∷ z ∷ v ∷ w ∷ []) a b c d e f len p q r s t u = absurd (omega arith)
six (x ∷ y ∷ z ∷ v ∷ w ∷ last ∷ []) a b c d e f len p q r s t u = cc
six (x ∷ y ∷ z ∷ v ∷ w ∷ last ∷ more ∷ rest) a b c d e f len p q r s t u = absurd (omega arith)
