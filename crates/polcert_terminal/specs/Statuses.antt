-- The exit status of a command line that is refused, and which fault belongs to which file.
use Rattle.std.specs.Prelude.{ℕ}
use Rattle.clap.specs.declared.error.kind.ErrorKind.{ErrorKind}
use Rattle.clap.specs.declared.error.kind.ErrorKind.TheVariants.{DisplayHelp, DisplayVersion, OutOfMemory}
use Rattle.polcert_answer.specs.declared.fault.RunFault.{RunFault}
use Rattle.polcert_answer.specs.declared.fault.RunFault.TheVariants.{ReadModel, ReadGraph, ReadVectors, ReadPoints}
use Rattle.polcert_terminal.specs.declared.progress.InputText.{InputText}
use Rattle.polcert_terminal.specs.declared.progress.InputText.TheVariants.{Model, Graph, Vectors, Points}

-- the words are no command line
abbrev pub refused_status : ℕ
refused_status = 2

-- a text can't be written
abbrev pub unwritten_status : ℕ
unwritten_status = 3

-- memory ran out
abbrev pub memory_status : ℕ
memory_status = 4

-- of what clap says of the words: help and the version are no mistakes
abbrev pub words_status : ErrorKind → ℕ
words_status OutOfMemory = memory_status
words_status DisplayHelp = 0
words_status DisplayVersion = 0
words_status _ = refused_status

-- the file of the text cannot be opened
abbrev pub read_fault_of : InputText → RunFault
read_fault_of Model = ReadModel
read_fault_of Graph = ReadGraph
read_fault_of Vectors = ReadVectors
read_fault_of Points = ReadPoints
