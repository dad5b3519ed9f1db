-- The words that lines of a run file have, each with its one spelling (our own choice).
use Rattle.std.specs.Prelude.{ℕ, Bool, List, codes}
use Rattle.std.specs.Str.{bytes_eq}
use Rattle.bpf_file.specs.declared.key.Key.{Key}
use Rattle.bpf_file.specs.declared.key.Key.TheVariants as key

abbrev pub key_text : Key → List ℕ
key_text key.RunFile = codes "ebpf-run"
key_text key.One = codes "1"
key_text key.Two = codes "2"
key_text key.Three = codes "3"
key_text key.Cpus = codes "cpus"
key_text key.Seed = codes "seed"
key_text key.Map = codes "map"
key_text key.KeySize = codes "key"
key_text key.ValueSize = codes "value"
key_text key.Max = codes "max"
key_text key.Spare = codes "spare"
key_text key.Mask = codes "mask"
key_text key.Grow = codes "grow"
key_text key.Array = codes "array"
key_text key.PerCpu = codes "percpu"
key_text key.Frozen = codes "frozen"
key_text key.Data = codes "data"
key_text key.Variable = codes "var"
key_text key.Put = codes "put"
key_text key.Of = codes "of"
key_text key.Equals = codes "="
key_text key.Program = codes "prog"
key_text key.Hex = codes "hex"
key_text key.Job = codes "job"
key_text key.Budget = codes "budget"
key_text key.Context = codes "ctx"
key_text key.Xdp = codes "xdp"
key_text key.Tc = codes "tc"
key_text key.Time = codes "time"
key_text key.Random = codes "random"
key_text key.End = codes "end"

abbrev pub is_key : Key → List ℕ → Bool
is_key k field = bytes_eq (key_text k) field
