use Rattle.serve_command.proofs.serving.run.Given as goal

-- the desk as it was opened
abbrev pub ghosts-attend_watched : goal.ghosts-attend_watched
ghosts-attend_watched g a = record {
  history = a.desk.state.settled;
  moment = g.D.Disk.moment a.desk.disk;
  images = g.D.Disk.since a.desk.disk;
}
