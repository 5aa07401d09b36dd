-- What the texts that make the tables do.
use Rattle.std.proofs.Common.{◌≡◌, ℕ, [], false, None, Ok, Err, Result, OnOk, sym, ap, subst, ◌∙◌}
use Rattle.sqlite.specs.Command.TheVariants.{CreateTable}
use Rattle.sqlite.specs.Change.{created, next_tree, KeepsRows}
use Rattle.sqlite.specs.Does.{Tally, lacks_sequence}
use Rattle.sqlite.specs.Effect.{Database}
use Rattle.sqlite.specs.declared.error.Error.{Error}
use Rattle.sqlite.specs.State.{State, Writes, Executes}
use Rattle.sqlite.proofs.Callers.{runs_as}
use Rattle.mirror_sqlite.specs.Tables.{object_table, sight_table, no_schema, object_schema, mirror_schema}
use Rattle.mirror_sqlite.proofs.Commands.{make_objects, make_objects_is, make_sights, make_sights_is}
use Rattle.mirror_sqlite.proofs.Deleting.{went, same_value}

pub creates_objects : (old new : State) (r : Result ℕ Error) → old.now.schema ≡ no_schema → Executes make_objects [] old new r
    → OnOk r ((new.now.schema ≡ object_schema) × (new.now.trees 0 ≡ []) × (new.in_transaction ≡ old.in_transaction))
creates_objects old new (Err e) has h = tt
creates_objects old new (Ok count) has h =
    let w = subst (λ t. Writes old new None CreateTable t [] count) make_objects_is.1 (runs_as make_objects [] old new no_schema has CreateTable make_objects_is.0 make_objects_is.3 count h) in
    let all = went w.changed in
    let first = went all.1 in
    let made = first.1 in
    let both : Ok made.table ≡ Ok object_table = sym made.defined ∙ make_objects_is.2 in
    let same : made.table ≡ object_table = cc in
    let schema : first.0.schema ≡ object_schema = made.is ∙ ap (λ s. created s made.table) has ∙ ap (created no_schema) same in
    let plain : lacks_sequence first.0.schema ≡ false = ap lacks_sequence schema in
    let now : new.now ≡ first.0 = ap (λ (p : Tally × Database). p.1) (same_value all.2) ∙ same_value (rw plain at first.2) in
    (ap (λ (d : Database). d.schema) now ∙ schema, ap (λ (d : Database). d.trees 0) now ∙ subst (λ s. first.0.trees (next_tree s) ≡ []) has made.empty, w.shown.mode)

pub creates_sights : (old new : State) (r : Result ℕ Error) → old.now.schema ≡ object_schema → Executes make_sights [] old new r
    → OnOk r ((new.now.schema ≡ mirror_schema) × (new.now.trees 0 ≡ old.now.trees 0) × (new.now.trees 2 ≡ []) × (new.in_transaction ≡ old.in_transaction))
creates_sights old new (Err e) has h = tt
creates_sights old new (Ok count) has h =
    let w = subst (λ t. Writes old new None CreateTable t [] count) make_sights_is.1 (runs_as make_sights [] old new object_schema has CreateTable make_sights_is.0 make_sights_is.3 count h) in
    let all = went w.changed in
    let first = went all.1 in
    let made = first.1 in
    let both : Ok made.table ≡ Ok sight_table = sym made.defined ∙ make_sights_is.2 in
    let same : made.table ≡ sight_table = cc in
    let schema : first.0.schema ≡ mirror_schema = made.is ∙ ap (λ s. created s made.table) has ∙ ap (created object_schema) same in
    let plain : lacks_sequence first.0.schema ≡ false = ap lacks_sequence schema in
    let now : new.now ≡ first.0 = ap (λ (p : Tally × Database). p.1) (same_value all.2) ∙ same_value (rw plain at first.2) in
    let others = subst (λ s. KeepsRows s.tables old.now.trees first.0.trees) has made.others in (
      ap (λ (d : Database). d.schema) now ∙ schema,
      ap (λ (d : Database). d.trees 0) now ∙ others.0,
      ap (λ (d : Database). d.trees 2) now ∙ subst (λ s. first.0.trees (next_tree s) ≡ []) has made.empty,
      w.shown.mode,
    )
