use Rattle.bpf_loader.proofs.CheckLemmas.{clear_from, some_of_begins}
use Rattle.bpf_loader.proofs.checks.check_insn.Goals as goal

pub check_write-requires-clause-clear : goal.check_write-requires-clause-clear
check_write-requires-clause-clear c = clear_from _ _ _ (some_of_begins _ _ _ c.requires.begins) c.requires.short
