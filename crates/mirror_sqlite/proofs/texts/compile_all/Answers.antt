use Rattle.std.proofs.Common.{◌≡◌, ◌∙◌, arith}
use Rattle.sqlite.specs.Held.{state}
use Rattle.sqlite.specs.State.{HasCleanDisk}
use Rattle.mirror_sqlite.specs.Texts.{add_object, add_sight, list_objects, list_sights}
use Rattle.mirror_sqlite.proofs.Compiling.{understood_before, all_understood}
use Rattle.mirror_sqlite.proofs.texts.compile_all.Goals as goal

pub returns-clause-understood : goal.returns-clause-understood
returns-clause-understood g c clean =
    let old = state g.S.Store c.args.conn.now in
    let one = state g.S.Store c.compile.new.conn in
    let two = state g.S.Store c.compile-2.new.conn in
    let three = state g.S.Store c.compile-3.new.conn in
    let third : HasCleanDisk three = omega (arith, c.compile-4.ensures.survives.clean, clean) in
    let second : HasCleanDisk two = omega (arith, c.compile-3.ensures.survives.clean, third) in
    let first : HasCleanDisk one = omega (arith, c.compile-2.ensures.survives.clean, second) in
    let on_one : one.now ≡ old.now = (c.in_ok-compile.ensures.unchanged first).0 in
    let on_two : two.now ≡ old.now = (c.in_ok-compile-2.ensures.unchanged second).0 ∙ on_one in
    let on_three : three.now ≡ old.now = (c.in_ok-compile-3.ensures.unchanged third).0 ∙ on_two in
    all_understood old three add_object add_sight list_objects list_sights c.compile-4.result on_three
    (c.in_ok-compile.ensures.understood first)
    (understood_before old one add_sight on_one (c.in_ok-compile-2.ensures.understood second))
    (understood_before old two list_objects on_two (c.in_ok-compile-3.ensures.understood third))
    (c.compile-4.ensures.understood clean)
