-- What an error of the database is to the mirror.
use Rattle.sqlite.specs.declared.error.ErrorCode.TheVariants.{OutOfMemory}
use Rattle.sqlite.specs.declared.error.Error.{Error}
use Rattle.sqlite.specs.declared.error.Error.TheVariants.{SqliteFailure}
use Rattle.mirror_store.specs.declared.mirror.MirrorErr.{MirrorErr}
use Rattle.mirror_store.specs.declared.mirror.MirrorErr.TheVariants.{Failed, NoMemory}

-- out of memory is out of memory, and every other error a failure
abbrev pub fault_of : Error → MirrorErr
fault_of (SqliteFailure OutOfMemory) = NoMemory
fault_of _ = Failed
