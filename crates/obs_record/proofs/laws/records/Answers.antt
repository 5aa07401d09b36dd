use Rattle.obs_record.proofs.Texts.{kept_is_short, kept_again}
use Rattle.obs_record.proofs.Magnitudes.{made_of_decimals, decimals_below}
use Rattle.obs_record.proofs.laws.records.Goals as goal

pub returns : goal.returns
returns c = record {
  kept_is_short = kept_is_short;
  kept_again = kept_again;
  made_of_decimals = made_of_decimals;
  decimals_below = decimals_below;
}
