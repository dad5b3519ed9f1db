-- What is printed of races is printed of the file that the text says.
use Rattle.std.proofs.Common.{Bool, ℕ, List, Ok, string_bytes, String}
use Rattle.std.specs.declared.alloc.Global.{Global}
use Rattle.bpf_names.specs.Names.{names_of}
use Rattle.bpf_file.specs.declared.file.RunFile.{RunFile}
use Rattle.bpf_file.specs.File.{file_of}
use Rattle.bpf_file.specs.Reading.{IsRunFile}
use Rattle.bpf_races.specs.declared.sync.Part.{Part}
use Rattle.bpf_races.specs.Sync.{ArePartsOf}
use Rattle.bpf_run.specs.Racing.{IsRacesFile, TellsRaces}
use Rattle.bpf_replies.specs.declared.reply.Reply.TheVariants as reply

pub raced : (patient : Bool) (limit : ℕ) (sync : List (List ℕ)) (text : List ℕ) (file : RunFile) (parts : List Part) (printed : String Global) (any all : Bool)
    → IsRunFile text (Ok (file_of file)) → ArePartsOf (names_of file.names) file.setup.shape.maps sync parts → TellsRaces patient limit
    (file_of file) parts (string_bytes printed) any all
    → IsRacesFile patient limit sync text (reply.Outcomes printed any all)
raced patient limit sync text file parts printed any all said named told = (file_of file, parts, said, named, told)
