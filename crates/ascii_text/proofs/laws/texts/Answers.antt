use Rattle.ascii_text.proofs.BlankTexts.{blank_laws}
use Rattle.ascii_text.proofs.DigitTexts.{digit_laws}
use Rattle.ascii_text.proofs.NumberTexts.{number_laws}
use Rattle.ascii_text.proofs.laws.texts.Goals as goal

pub returns : goal.returns
returns c = assumption (blank_laws, digit_laws, number_laws)
