-- Which commands the program does.
use Rattle.std.specs.Prelude.{Bool, true, false, Option, Some, None}
use Rattle.command_line.specs.declared.command.Command.{Command}
use Rattle.command_line.specs.declared.command.Command.TheVariants.{Run, Serve, Export, Mirror, Look, Workload, Comets}

-- the words name a command that is done without threads
abbrev pub is_done_alone : Option Command → Bool
is_done_alone None = false
is_done_alone (Some (Run key)) = true
is_done_alone (Some (Serve key connections)) = false
is_done_alone (Some Export) = true
is_done_alone (Some Mirror) = true
is_done_alone (Some (Look from to)) = true
is_done_alone (Some (Workload seed count)) = true
is_done_alone (Some (Comets key)) = true

-- the words name a command, and it is one that the program does
abbrev pub is_done : Option Command → Bool
is_done None = false
is_done (Some (Run key)) = true
is_done (Some (Serve key connections)) = true
is_done (Some Export) = true
is_done (Some Mirror) = true
is_done (Some (Look from to)) = true
is_done (Some (Workload seed count)) = true
is_done (Some (Comets key)) = true

-- the words name a command that calls the mirror
abbrev pub calls_mirror : Option Command → Bool
calls_mirror None = false
calls_mirror (Some (Run key)) = false
calls_mirror (Some (Serve key connections)) = false
calls_mirror (Some Export) = false
calls_mirror (Some Mirror) = true
calls_mirror (Some (Look from to)) = true
calls_mirror (Some (Workload seed count)) = false
calls_mirror (Some (Comets key)) = false

-- the words name the command that calls the register's disk
abbrev pub calls_register : Option Command → Bool
calls_register None = false
calls_register (Some (Run key)) = false
calls_register (Some (Serve key connections)) = false
calls_register (Some Export) = false
calls_register (Some Mirror) = false
calls_register (Some (Look from to)) = false
calls_register (Some (Workload seed count)) = false
calls_register (Some (Comets key)) = true
