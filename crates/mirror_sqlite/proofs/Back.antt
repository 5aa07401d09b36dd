-- The tables read back are the lists that they hold.
use Rattle.std.proofs.Common.{◌≡◌, ℕ, ℤ, ◌-◌, List, [], ◌∷◌, ◌++◌, map, length, false, Ok, Err, Result, IfOk, OnOk, OnErr, refl, sym, ap, ap₂, subst, ◌∙◌, arith}
use Rattle.std.specs.Prelude.{replicate}
use Rattle.std.specs.List.{AllByRecursion}
use Rattle.std.proofs.lemmas.List.{take-append-drop, length-take}
use Rattle.packed_names.specs.declared.label.Label.{Label}
use Rattle.packed_names.specs.Labels.{IsLabelOf}
use Rattle.obs_record.specs.declared.short.Short.{Short}
use Rattle.obs_record.specs.Short.{IsShort}
use Rattle.sqlite.specs.declared.types.Value.TheVariants.{Text}
use Rattle.sqlite.specs.State.{State}
use Rattle.sqlite.specs.Held.{Held, state}
use Rattle.sqlite.specs.Steps.{over_memory}
use Rattle.sqlite_trees.specs.declared.memory.MemStore.{MemStore}
use Rattle.mirror_store.specs.declared.rows.ObjectRow.{ObjectRow}
use Rattle.mirror_store.specs.declared.rows.SightRow.{SightRow}
use Rattle.mirror_store.specs.declared.rows.MirrorRows.{MirrorRows}
use Rattle.mirror_store.specs.declared.mirror.MirrorErr.{MirrorErr}
use Rattle.mirror_store.specs.Rows.{IsObjectRow, IsSightRow, AreReplaceable}
use Rattle.mirror_store.specs.Mirrors.{between}
use Rattle.mirror_sqlite.specs.Stored.{name_text, code_text, stored_object, stored_sight, label_in, code_in, object_in, sight_in}
use Rattle.mirror_sqlite.specs.Holding.{Holds, ListsObjects, ListsSights, Replaces, KeepsTables}
use Rattle.mirror_sqlite.specs.SqlMirrors.{tables, IsReady}
use Rattle.mirror_sqlite.proofs.Same.{named}

label_back : (label : Label) (text : List ℕ) → IsLabelOf text label → label_in (Text (name_text label)) ≡ label
label_back label text p =
    let len : length (name_text label) ≡ label.len = ap length p.text_is ∙ sym p.len in
    let bytes : name_text label ++ replicate (13 - length (name_text label)) 0 ≡ label.bytes =
    ap (λ n. name_text label ++ replicate (13 - n) 0) len ∙ ap (λ z. name_text label ++ z) (sym p.zeros) ∙ take-append-drop label.len label.bytes in
    ap₂ (λ (n : ℕ) (bs : List ℕ). let l : Label = record { len = n; bytes = bs } in l) len bytes

code_back : (code : Short) → IsShort code → code_in (Text (code_text code)) ≡ code
code_back code p =
    let len : length (code_text code) ≡ code.len = length-take code.len code.bytes ∙ omega (arith, p.room, p.within) in
    let bytes : code_text code ++ replicate (12 - length (code_text code)) 0 ≡ code.bytes =
    ap (λ n. code_text code ++ replicate (12 - n) 0) len ∙ sym p.zeros in
    ap₂ (λ (n : ℕ) (bs : List ℕ). let c : Short = record { len = n; bytes = bs } in c) len bytes

objects_back : (rows : List ObjectRow) → AllByRecursion IsObjectRow rows → map object_in (map stored_object rows) ≡ rows
objects_back [] all = refl
objects_back (row ∷ rows) all =
    let principal = label_back row.principal all.0.principal.1 all.0.principal.3 in
    let same : object_in (stored_object row) ≡ row = λ j. record { place = row.place; principal = principal j; number = row.number; observations = row.observations } in
    ap₂ (λ r rs. r ∷ rs) same (objects_back rows all.1)

sights_back : (rows : List SightRow) → AllByRecursion IsSightRow rows → map sight_in (map stored_sight rows) ≡ rows
sights_back [] all = refl
sights_back (row ∷ rows) all =
    let name = named row.object all.0.object in
    let object = label_back row.object name.0 name.1 in
    let station = code_back row.station all.0.station.0 in
    let same : sight_in (stored_sight row) ≡ row = λ j. record { id = row.id; object = object j; time = row.time; ra = row.ra; dec = row.dec; station = station j } in
    ap₂ (λ r rs. r ∷ rs) same (sights_back rows all.1)

pub tables_are : (s : State) (lists : MirrorRows) → Holds s lists → AreReplaceable lists → tables s ≡ lists
tables_are s lists held rows =
    ap₂ (λ (a : List ObjectRow) (b : List SightRow). let l : MirrorRows = record { objects = a; sights = b } in l)
    (ap (map object_in) held.objects ∙ objects_back lists.objects rows.objects)
    (ap (map sight_in) held.sights ∙ sights_back lists.sights rows.sights)

pub is_ready : (conn : Held MemStore) (lists : MirrorRows) → conn.in_transaction ≡ false → Holds (state over_memory conn) lists
    → AreReplaceable lists → IsReady conn
is_ready conn lists autocommit held rows =
    let same = sym (tables_are (state over_memory conn) lists held rows) in
    record { autocommit = autocommit; held = subst (Holds (state over_memory conn)) same held; rows = subst AreReplaceable same rows }

-- the tables after a replacing, where no transaction was open
pub after_replace : {A : Type 0} (old new : Held MemStore) (rows before : MirrorRows) (result : Result A MirrorErr) → IsReady old
    → tables (state over_memory old) ≡ before → AreReplaceable rows → new.in_transaction ≡ false
    → (state over_memory old).now ≡ (state over_memory old).committed
    → OnOk result (Replaces rows (state over_memory old) (state over_memory new))
    → OnErr result (KeepsTables (state over_memory old) (state over_memory new))
    → IsReady new × OnOk result (tables (state over_memory new) ≡ rows) × OnErr result (tables (state over_memory new) ≡ before)
after_replace old new rows before (Ok u) ready same all mode settled put kept =
    let held = put _ ready.held in (is_ready new rows mode held all, tables_are (state over_memory new) rows held all, tt)
after_replace old new rows before (Err e) ready same all mode settled put kept =
    let held = kept (tables (state over_memory old)) ready.held settled refl in
    (is_ready new _ mode held ready.rows, tt, tables_are (state over_memory new) _ held ready.rows ∙ same)

-- the tables after a query, where no transaction was open
pub after_query : (old new : Held MemStore) (before : MirrorRows) → IsReady old → tables (state over_memory old) ≡ before
    → new.in_transaction ≡ false → (state over_memory old).now ≡ (state over_memory old).committed
    → KeepsTables (state over_memory old) (state over_memory new) → IsReady new × (tables (state over_memory new) ≡ before)
after_query old new before ready same mode settled kept =
    let held = kept (tables (state over_memory old)) ready.held settled refl in
    (is_ready new _ mode held ready.rows, tables_are (state over_memory new) _ held ready.rows ∙ same)

pub objects_given : (old : Held MemStore) (before : MirrorRows) (result : Result (List ObjectRow) MirrorErr) → IsReady old
    → tables (state over_memory old) ≡ before → IfOk result (ListsObjects (state over_memory old))
    → IfOk result (λ objects. objects ≡ before.objects)
objects_given old before (Err e) ready same lists = tt
objects_given old before (Ok objects) ready same lists =
    lists (tables (state over_memory old)) ready.held ready.rows.objects ready.rows.places ∙ ap (λ (l : MirrorRows). l.objects) same

pub sights_given : (from to first last : ℤ) (old : Held MemStore) (before : MirrorRows) (result : Result (List SightRow) MirrorErr)
    → first ≡ from → last ≡ to → IsReady old → tables (state over_memory old) ≡ before
    → IfOk result (ListsSights first last (state over_memory old)) → IfOk result (λ sights. sights ≡ between from to before.sights)
sights_given from to first last old before (Err e) from_is to_is ready same lists = tt
sights_given from to first last old before (Ok sights) from_is to_is ready same lists =
    lists (tables (state over_memory old)) ready.held ready.rows.sights ready.rows.ids
    ∙ ap (λ (l : MirrorRows). between first last l.sights) same ∙ ap₂ (λ f t. between f t before.sights) from_is to_is
