use Rattle.std.proofs.Common.{◌≡◌, ◌≤◌, length, take, vec_capacity}
use Rattle.disk_model.specs.Memory.{file_after, IsImage, last_synced}
use Rattle.disk_model.specs.Entries.{deeds_of}
use Rattle.disk_model.proofs.record.Record.replay.Given as goal

abbrev pub invariant-loop-entry : goal.invariant-loop-entry
invariant-loop-entry l =
    let first = l.fn.image.items in
    let played = deeds_of l.self-inside.pool.items (take l.entry-index l.self-inside.entries.items) in
    record {
      file : l.file.items ≡ file_after first played;
      image : IsImage first played l.image.items;
      lost : l.pick ≡ 0 → l.image.items ≡ last_synced first played;
      digits : l.pick ≡ 0 → l.digits ≡ 0;
      file_fits : length l.file.items ≤ l.self-inside.capacity;
      image_fits : length l.image.items ≤ l.self-inside.capacity;
      file_room : l.self-inside.capacity ≤ vec_capacity l.file;
      image_room : l.self-inside.capacity ≤ vec_capacity l.image;
      file_capacity : vec_capacity l.fn.file ≤ vec_capacity l.file;
      image_capacity : vec_capacity l.fn.image ≤ vec_capacity l.image;
    }
