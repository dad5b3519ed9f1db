use Rattle.std.proofs.Common.{◌≡◌, take}
use Rattle.bpf_machine.proofs.machine.another.copy_programs.Given as goal

-- the first of them are copied
abbrev pub invariant-loop-program : goal.invariant-loop-program
invariant-loop-program l = l.copies.items ≡ take l.program-index l.programs
