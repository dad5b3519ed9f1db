use Rattle.bpf_debug.proofs.ShowLaws.{recalled_before}
use Rattle.bpf_debug.proofs.show.registers_before.Goals as goal

pub returns-in-Some : goal.returns-in-Some
returns-in-Some c = recalled_before c.args.recall.now c.in-Some.kept c.registers_of.result.now c.in-Some.is c.registers_of.ensures
