use Rattle.std.proofs.Common.{◌∙◌, ℕ, List, length, sym, ap, subst}
use Rattle.bpf_cpu.specs.Task.{Task}
use Rattle.bpf_machine.specs.Saved.{ComeFrom}
use Rattle.bpf_machine.proofs.ComingFrom.{waiting_come}
use Rattle.bpf_expand.specs.Private.Home.{AreShort, CountUp}
use Rattle.bpf_expand.proofs.Lists.{are_short}
use Rattle.bpf_expand.proofs.expander.Expander.new.Goals as goal

pub invariant_of-result : goal.invariant_of-result
invariant_of-result c = record {
  shape = c.requires.shape;
  spare = c.in_ok-room.ensures;
  lists = c.requires.lists;
  short = subst (λ (l : List Task). AreShort l) (sym c.in_ok-first.ensures) (are_short c.args.machine c.stands.ensures);
  come = subst (λ (l : List Task). ComeFrom l c.args.machine.jobs) (sym c.in_ok-first.ensures) (waiting_come c.args.machine.jobs c.requires.waits);
  numbered = subst (λ (n : ℕ). CountUp c.in_ok-numbers.numbers.items n)
      (c.jobs.ensures ∙ ap (length {A = Task}) (sym c.in_ok-first.ensures)) c.in_ok-numbers.ensures;
  count = ap (length {A = Task}) (c.in_ok-jobs.ensures ∙ sym c.in_ok-first.ensures);
  read = tt;
  placed = λ is. cc;
}
