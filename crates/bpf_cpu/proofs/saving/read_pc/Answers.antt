use Rattle.std.proofs.Common.{arith}
use Rattle.bpf_cpu.proofs.SavedStates.{pc_read}
use Rattle.bpf_cpu.proofs.saving.read_pc.Goals as goal

pub returns-clause-some : goal.returns-clause-some
returns-clause-some c =
    pc_read c.args.bytes.now c.load_word.result (omega arith) (λ i. let f = c.type_inv.bytes i in omega arith) c.load_word.ensures
