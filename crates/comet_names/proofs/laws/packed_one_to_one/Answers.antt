use Rattle.std.proofs.Common.{◌∙◌, sym}
use Rattle.comet_names.specs.Packed.{packed_comet, FitsPackedComet}
use Rattle.comet_names.specs.Reading.{packed_comet_in}
use Rattle.comet_names.proofs.JudgingLaws.{one_comet}
use Rattle.comet_names.proofs.PackedLaws.{packed_reader, FitsPackedComet-IsComet}
use Rattle.comet_names.proofs.laws.packed_one_to_one.Goals as goal

pub returns-clause-one_comet : goal.returns-clause-one_comet
returns-clause-one_comet c = λ one other text. one_comet packed_comet FitsPackedComet FitsPackedComet-IsComet packed_comet_in (packed_reader c.texts.ensures) text one other

pub returns-clause-one_text : goal.returns-clause-one_text
returns-clause-one_text c = λ comet one other first second. first.text_is ∙ sym second.text_is
