use Rattle.std.proofs.Common.{arith}
use Rattle.std.proofs.lemmas.Grind.{common_steps}
use Rattle.bpf_insn.proofs.Program.{begins_at, refused_at}
use Rattle.bpf_insn.proofs.decoder.instruction_at.Goals as goal

pub returns-in-Ok : goal.returns-in-Ok
returns-in-Ok c = begins_at c.args.bytes.now c.args.pc c.from_bytes-window.result c.in-Ok.insn c.requires (grind (arith, common_steps)) c.in-Ok.ensures

pub returns-in-Err : goal.returns-in-Err
returns-in-Err c = refused_at c.args.bytes.now c.args.pc c.from_bytes-window.result c.in-Err.fault _ (grind (arith, common_steps)) c.in-Err.ensures c.at.ensures
