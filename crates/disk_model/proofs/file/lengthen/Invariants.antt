use Rattle.std.proofs.Common.{◌≡◌, ◌-◌, ◌≤◌, ◌++◌, max, length, replicate, vec_capacity}
use Rattle.disk_model.proofs.file.lengthen.Given as goal

abbrev pub invariant-loop-file : goal.invariant-loop-file
invariant-loop-file l = record {
  filled : l.file.items ≡ l.initial.file.items ++ replicate (length l.file.items - length l.initial.file.items) 0;
  longer : length l.initial.file.items ≤ length l.file.items;
  bound : length l.file.items ≤ max (length l.initial.file.items) l.len;
  room : vec_capacity l.file ≡ vec_capacity l.initial.file;
}

abbrev pub decreases-loop-file : goal.decreases-loop-file
decreases-loop-file l = l.len - length l.file.items
