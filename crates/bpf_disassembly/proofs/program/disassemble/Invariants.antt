use Rattle.std.proofs.Common.{◌≡◌, ◌++◌, drop, take, string_bytes}
use Rattle.bpf_spelling.specs.Form.{canonical}
use Rattle.bpf_disassembly.proofs.ReadBack.{AllFit}
use Rattle.bpf_disassembly.proofs.program.disassemble.Given as goal

abbrev pub invariant-loop-insn : goal.invariant-loop-insn
invariant-loop-insn l =
    (string_bytes l.text ++ canonical (drop l.insn-index l.program) ≡ canonical l.program)
    × AllFit (take l.insn-index l.program)
