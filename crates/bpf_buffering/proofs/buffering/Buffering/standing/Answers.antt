use Rattle.std.proofs.Common.{List, subst}
use Rattle.bpf_machine.specs.Questions.{IsStanding}
use Rattle.bpf_buffering.specs.declared.jobs.Listed.{Listed}
use Rattle.bpf_buffering.specs.Jobs.{tasks_of}
use Rattle.bpf_buffering.specs.Search.{BufferedState}
use Rattle.bpf_buffering.proofs.buffering.Buffering.standing.Goals as goal

pub returns : goal.returns
returns c =
    let there = subst (λ (jobs : List Listed). IsStanding (tasks_of jobs) c.args.cpu c.standing_in.result) c.deref.ensures.value
    c.standing_in.ensures in
    subst (λ (s : BufferedState). IsStanding s.machine.jobs c.args.cpu c.standing_in.result) c.self.view_is there
