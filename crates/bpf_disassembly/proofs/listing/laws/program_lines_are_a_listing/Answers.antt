use Rattle.bpf_disassembly.proofs.ProgramLines.{program_listed}
use Rattle.bpf_disassembly.proofs.listing.laws.program_lines_are_a_listing.Goals as goal

pub returns : goal.returns
returns c = program_listed
