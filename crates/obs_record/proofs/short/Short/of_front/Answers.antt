use Rattle.std.proofs.Common.{sym, subst}
use Rattle.obs_record.specs.Short.{IsShort}
use Rattle.obs_record.proofs.Texts.{kept_from, kept_is_short}
use Rattle.obs_record.proofs.short.Short.of_front.Goals as goal

pub returns-clause-text : goal.returns-clause-text
returns-clause-text c = kept_from c.args.text.now c.copy_from_slice.new.self c.args.len c.requires c.copy_from_slice.ensures.after

pub returns-clause-short : goal.returns-clause-short
returns-clause-short c =
    subst IsShort (sym (kept_from c.args.text.now c.copy_from_slice.new.self c.args.len c.requires c.copy_from_slice.ensures.after)) (kept_is_short c.args.text.now)
