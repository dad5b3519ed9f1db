-- One name of a table. Private functions cite this.
use Rattle.std.specs.Prelude.{ℕ, if◌then◌else◌, List, Option, None}
use Rattle.std.specs.Str.{bytes_eq}
use Rattle.bpf_text.specs.declared.symbols.Symbol.{Symbol}
use Rattle.bpf_text.specs.Symbols.{Table}

abbrev pub named_in : List ℕ → Option Symbol → Table
named_in name symbol q = if bytes_eq name q then symbol else None
