use Rattle.intake_lock.proofs.Histories.{extends_on, extends_length, one_beginning}
use Rattle.intake_lock.proofs.laws.beginnings.Goals as goal

pub returns : goal.returns
returns c = record { follow = extends_on; longer = extends_length; one = one_beginning }
