use Rattle.std.proofs.Common.{◌∙◌}
use Rattle.col80_format.proofs.reader.EightyReader.feed.Goals as goal

pub read_on-requires : goal.read_on-requires
read_on-requires c = (c.requires.0, c.self.view_is ∙ c.requires.1, c.requires.2)
