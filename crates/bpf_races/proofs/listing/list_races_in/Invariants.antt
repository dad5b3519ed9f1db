use Rattle.std.proofs.Common.{◌≡◌, string_bytes}
use Rattle.bpf_names.specs.Names.{names_of}
use Rattle.bpf_races.specs.Lines.{here_lines}
use Rattle.bpf_races.proofs.listing.list_races_in.Given as goal

abbrev pub invariant-loop-race : goal.invariant-loop-race
invariant-loop-race l = string_bytes l.text ≡ here_lines l.named (names_of l.names) l.race-index l.races
