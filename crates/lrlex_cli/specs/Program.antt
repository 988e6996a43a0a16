-- What the program says of its faults, and the status with which it ends.
use Rattle.std.specs.Prelude.{ℕ, List, ◌++◌, codes, Result, Ok, Err}
use Rattle.lrlex_cli.specs.declared.engine.Ended.{Ended}
use Rattle.lrlex_cli.specs.declared.engine.Ended.TheVariants.{Lexed, Stopped, Refused}
use Rattle.lrlex_cli.specs.declared.engine.EngineFault.{EngineFault}
use Rattle.lrlex_cli.specs.declared.program.Fault.{Fault}
use Rattle.lrlex_cli.specs.declared.program.Fault.TheVariants.{Usage, CannotOpen, NotText, Memory, CannotWrite, BadEdit}

-- the line of a fault
abbrev pub fault_text : Fault → List ℕ
fault_text Usage = codes "Usage: lrlex <lexer.l> <input file>\n"
fault_text (CannotOpen path) = codes "Can't open file " ++ (path.now ++ codes "\n")
fault_text (NotText path) = codes "File " ++ (path.now ++ codes " is not UTF-8\n")
fault_text Memory = codes "Out of memory\n"
fault_text CannotWrite = codes "Can't write\n"
fault_text BadEdit = codes "Bad edit\n"

-- the status after a run: 0 where the whole input was lexed, else 1
abbrev pub status_of : Result Ended EngineFault → ℕ
status_of (Ok Lexed) = 0
status_of (Ok Stopped) = 1
status_of (Ok (Refused faults)) = 1
status_of (Err fault) = 1
