use Rattle.std.proofs.Common.{[], ◌∷◌, codes, decimal}
use Rattle.serve_command.specs.Summaries.{summary}
use Rattle.serve_command.proofs.Lines.{five_put}
use Rattle.serve_command.proofs.summaries.summary.Goals as goal

pub returns : goal.returns
unfolding summary
returns c =
    five_put c.new-lines.result.items c.put.new.lines.items c.put_number.new.lines.items c.put-2.new.lines.items c.put_number-2.new.lines.items
    c.put-3.new.lines.items (codes "connections ") (decimal c.args.connections) (codes "\nentries ") (decimal c.args.entries) (10 ∷ [])
    c.new-lines.ensures c.put.ensures.text c.put_number.ensures.text c.put-2.ensures.text c.put_number-2.ensures.text c.put-3.ensures.text
