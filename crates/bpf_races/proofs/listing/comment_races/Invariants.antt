use Rattle.std.proofs.Common.{◌≡◌, map, string_bytes}
use Rattle.bpf_names.specs.Names.{names_of}
use Rattle.bpf_races.specs.Lines.{comment_lines}
use Rattle.bpf_races.proofs.listing.comment_races.Given as goal

abbrev pub invariant-loop-race : goal.invariant-loop-race
invariant-loop-race l = string_bytes l.text ≡ comment_lines l.named (names_of l.names) l.race-index l.races
