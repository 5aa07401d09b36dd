use Rattle.std.proofs.Common.{◌≡◌, ℤ, w32, ap, ◌∙◌, subst}
use Rattle.std.proofs.lemmas.Int.{to_z-of_z}
use Rattle.command_ends.specs.Courses.{sink_words, change}
use Rattle.look_command.specs.Looks.{first_moment}
use Rattle.look_command.specs.Ends.{Looks}
use Rattle.look_command.proofs.LookLemmas.{of_told, own, complete}
use Rattle.look_command.proofs.looking.look.Goals as goal

pub returns : goal.returns
returns g c =
    let write = sink_words g.K.Sink.taken g.K.Sink.faults g.K.Sink.is_open in
    let told = g.M.Mirror.told c.args.mirror.now in
    let sink = change c.args.sink.now c.look_all.new.sink in
    let status = c.look_all.result in
    let did = c.look_all.ensures in
    let start : c.first_moment-start.result ≡ first_moment c.args.from = c.first_moment-start.ensures ∙ ap first_moment (to_z-of_z w32 c.args.from c.ranges.from) in
    let end : c.first_moment-end.result ≡ first_moment c.args.to = c.first_moment-end.ensures ∙ ap first_moment (to_z-of_z w32 c.args.to c.ranges.to) in
    let looks : Looks write told (first_moment c.args.from) (first_moment c.args.to) sink status =
    subst (λ (t : ℤ). Looks write told (first_moment c.args.from) t sink status) end (subst (λ (t : ℤ). Looks write told t c.first_moment-end.result sink status) start did.looks) in
    record {
      promises = record {
        told = λ lists is. of_told write told c.args.from c.args.to sink lists is status looks;
        looks = looks;
        held = did.held;
        complete = λ no_write no_mirror. complete write told c.args.from c.args.to sink status looks (λ is. no_write (did.write_cause is)) (λ is. no_mirror (did.mirror_cause is));
        write_cause = (record { cause = did.write_cause; faultless = did.write_faultless }, record { counts = did.write_counts; stays = did.stays });
        mirror_cause = record { cause = did.mirror_cause; faultless = did.mirror_faultless };
        mirror_counts = did.mirror_counts;
        own = own write told c.args.from c.args.to sink status looks;
      };
    }
