use Rattle.std.proofs.Common.{◌∙◌, sym}
use Rattle.packed_names.specs.Ranges.{IsName}
use Rattle.packed_names.specs.Judging.{is_in_range}
use Rattle.packed_names.specs.Printed.{printed_text, FitsPrinted}
use Rattle.packed_names.specs.PrintedReading.{printed_in}
use Rattle.packed_names.proofs.JudgingLaws.{name_test, one_value}
use Rattle.packed_names.proofs.PrintedLaws.{printed_reader, FitsPrinted-IsName}
use Rattle.packed_names.proofs.laws.printed_one_to_one.Goals as goal

pub returns-clause-one_name : goal.returns-clause-one_name
returns-clause-one_name c = λ one other text. one_value IsName is_in_range name_test printed_text FitsPrinted FitsPrinted-IsName printed_in (printed_reader c.texts.ensures) text one other

pub returns-clause-one_text : goal.returns-clause-one_text
returns-clause-one_text c = λ name one other first second. first.text_is ∙ sym second.text_is
