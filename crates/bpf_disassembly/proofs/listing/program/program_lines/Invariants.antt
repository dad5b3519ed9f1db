use Rattle.std.proofs.Common.{◌≡◌, ◌++◌, ◌*◌, ◌+◌, length, string_bytes}
use Rattle.bpf_insn.specs.Encoding.{IsEncodedAs}
use Rattle.bpf_disassembly.specs.Listing.Program.{program_lines}
use Rattle.bpf_disassembly.proofs.listing.program.program_lines.Given as goal

-- what is to come makes the text whole; the bytes left are those of the instructions left
abbrev pub invariant-loop-rest : goal.invariant-loop-rest
invariant-loop-rest l =
    (string_bytes l.text ++ program_lines l.pc l.left l.rest ≡ program_lines 0 l.fn.bytes l.fn.program)
    × IsEncodedAs l.rest l.left × (8 * l.pc + length l.left ≡ length l.fn.bytes)

abbrev pub decreases-loop-rest : goal.decreases-loop-rest
decreases-loop-rest l = length l.rest
