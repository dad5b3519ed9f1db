use Rattle.std.proofs.Common.{◌≡◌, Some}
use Rattle.bpf_insn.specs.declared.register.Reg.TheVariants.{R10}
use Rattle.bpf_loader.specs.Rows.{destination}
use Rattle.bpf_loader.proofs.CheckLemmas.{clear_past}
use Rattle.bpf_loader.proofs.checks.check_write.Goals as goal

pub returns-clause-ok : goal.returns-clause-ok
returns-clause-ok c =
    let other : ¬ (destination c.args.insn ≡ Some R10) = λ e. cc (rw (c.destination.ensures, e) at c.eq.ensures, c.if-eq.false) in
    clear_past _ _ _ 8 _ _ c.requires.begins c.requires.clear (λ a. a) other
