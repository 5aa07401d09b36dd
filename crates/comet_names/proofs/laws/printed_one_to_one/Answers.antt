use Rattle.std.proofs.Common.{◌∙◌, sym}
use Rattle.comet_names.specs.Printed.{printed_comet, FitsPrintedComet}
use Rattle.comet_names.specs.Reading.{printed_comet_in}
use Rattle.comet_names.proofs.JudgingLaws.{one_comet}
use Rattle.comet_names.proofs.PrintedLaws.{printed_reader, FitsPrintedComet-IsComet}
use Rattle.comet_names.proofs.laws.printed_one_to_one.Goals as goal

pub returns-clause-one_comet : goal.returns-clause-one_comet
returns-clause-one_comet c = λ one other text. one_comet printed_comet FitsPrintedComet FitsPrintedComet-IsComet printed_comet_in (printed_reader c.texts.ensures) text one other

pub returns-clause-one_text : goal.returns-clause-one_text
returns-clause-one_text c = λ comet one other first second. first.text_is ∙ sym second.text_is
