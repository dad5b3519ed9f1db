use Rattle.std.proofs.Common.{take}
use Rattle.bpf_insn.proofs.Bytes.{IsWritten}
use Rattle.bpf_insn.proofs.encoder.encode.Given as goal

abbrev pub invariant-loop-insn : goal.invariant-loop-insn
invariant-loop-insn l = IsWritten (take l.insn-index l.insns) l.bytes.items
