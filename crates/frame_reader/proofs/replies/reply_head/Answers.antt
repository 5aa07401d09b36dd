use Rattle.std.proofs.Common.{◌<◌, ◌≤◌, ℕ, length, ap, decimal, arith, lit<}
use Rattle.std.proofs.lemmas.Fmt.{length-decimal-le}
use Rattle.frame_reader.proofs.replies.reply_head.Goals as goal

few : (status : ℕ) → status < 65536 → length (decimal status) ≤ 5
few status short = length-decimal-le 5 status (lit< tt) (omega arith) (omega arith)

pub put_decimal-requires : goal.put_decimal-requires
put_decimal-requires c = (lit< tt, omega (arith, few c.from.result (omega arith), ap length c.new-head.ensures))

pub push-requires : goal.push-requires
push-requires c = (lit< tt, omega (arith, few c.from.result (omega arith), ap length c.new-head.ensures))

pub put_decimal-requires-2 : goal.put_decimal-requires-2
put_decimal-requires-2 c =
    let long : length (decimal c.args.length) ≤ 20 = length-decimal-le 20 c.args.length (lit< tt) (omega arith) (omega arith) in
    (lit< tt, omega (arith, few c.from.result (omega arith), ap length c.new-head.ensures))

pub push-requires-2 : goal.push-requires-2
push-requires-2 c =
    let long : length (decimal c.args.length) ≤ 20 = length-decimal-le 20 c.args.length (lit< tt) (omega arith) (omega arith) in
    (lit< tt, omega (arith, few c.from.result (omega arith), ap length c.new-head.ensures))
