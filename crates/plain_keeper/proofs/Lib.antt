mod MemoryTurns
