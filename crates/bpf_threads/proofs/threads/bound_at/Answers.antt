use Rattle.bpf_threads.proofs.Adding.{bound_of_program}
use Rattle.bpf_threads.proofs.threads.bound_at.Goals as goal

pub bound_by-requires : goal.bound_by-requires
bound_by-requires c = c.requires.charts c.args.place c.program_at-program.result.now c.chart_at.result.now c.program_at-program.ensures c.chart_at.ensures

pub returns : goal.returns
returns c = bound_of_program c.args.counted c.args.programs.now c.args.place c.program_at-program.result.now c.program_at-program.ensures
    c.bound_by.result c.bound_by.ensures
