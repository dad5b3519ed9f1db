use Rattle.std.proofs.Common.{◌∙◌, sym, ap, subst}
use Rattle.bpf_plain.specs.PlainStore.{Contents, has_cpu, held_spans, is_running, shape_of}
use Rattle.bpf_buffering.specs.Buffering.{IsSeenBy}
use Rattle.bpf_buffering.specs.Jobs.{task_of}
use Rattle.bpf_events.specs.Watched.{Recording}
use Rattle.bpf_buffer_events.proofs.Noted.{job_within, program_read, served_here, stage_fits, stage_watched}
use Rattle.bpf_buffer_events.proofs.watching.watch.Goals as goal

pub copy_of-requires : goal.copy_of-requires
copy_of-requires c = job_within c.args.machine.now.machine.jobs c.args.cpu c.in-Some.job c.in-Some.ensures.job

pub restart-requires : goal.restart-requires
restart-requires c = (
  λ d. ap (λ (r : Recording). has_cpu r.store d) c.forget.ensures ∙ (c.requires.0.0 d ∙ sym (c.see.ensures.shape.0 d)),
  ap (λ (r : Recording). shape_of r.store) c.forget.ensures ∙ (c.requires.0.1 ∙ sym c.see.ensures.shape.1),
)

pub note_stage-pc-requires-clause-serves : goal.note_stage-pc-requires-clause-serves
note_stage-pc-requires-clause-serves c =
    let m = c.args.machine.now in
    ap (λ (r : Recording). has_cpu r.store c.args.cpu) c.restart.ensures ∙ (c.see.ensures.shape.0 c.args.cpu
    ∙ served_here m.machine c.args.cpu c.in-Some.job c.stands.ensures.stands c.in-Some.ensures.job)

pub note_stage-pc-requires-clause-fits : goal.note_stage-pc-requires-clause-fits
note_stage-pc-requires-clause-fits c =
    let m = c.args.machine.now in
    let task = task_of c.in_ok-kept.kept in
    let program = c.index-programs-kept.result in
    let loaded = program_read m.machine c.in-Some.job task program c.programs.result.now c.stands.ensures.stands c.in_ok-kept.ensures
    c.programs.ensures c.index-programs-kept.is in
    let seen = ap (λ (r : Recording). r.store) c.restart.ensures in
    stage_fits m c.args.cpu c.in-Some.job task program c.restart.new.self c.stands.ensures.stands c.in-Some.ensures.job c.in_ok-kept.ensures loaded
    (ap held_spans seen ∙ c.see.ensures.held) (ap is_running seen ∙ c.see.ensures.running)

pub returns-clause-watched : goal.returns-clause-watched
returns-clause-watched c =
    let m = c.args.machine.now in
    let task = task_of c.in_ok-kept.kept in
    let program = c.index-programs-kept.result in
    let loaded = program_read m.machine c.in-Some.job task program c.programs.result.now c.stands.ensures.stands c.in_ok-kept.ensures
    c.programs.ensures c.index-programs-kept.is in
    let seen = ap (λ (r : Recording). r.store) c.restart.ensures in
    let fits = stage_fits m c.args.cpu c.in-Some.job task program c.restart.new.self c.stands.ensures.stands c.in-Some.ensures.job
    c.in_ok-kept.ensures loaded (ap held_spans seen ∙ c.see.ensures.held) (ap is_running seen ∙ c.see.ensures.running) in
    stage_watched m c.args.cpu c.in-Some.job c.note_stage-pc.result task program c.restart.new.self c.note_stage-pc.new.recorder
    c.in-Some.ensures.job c.in_ok-kept.ensures loaded (c.stands.ensures.stores c.args.cpu)
    (subst (λ (p : Contents). IsSeenBy m c.args.cpu p) (sym seen) c.see.ensures.sees)
    (ap (λ (r : Recording). r.events) c.restart.ensures) (sym c.is_lost.ensures ∙ c.if-is_lost.false) fits c.note_stage-pc.ensures.noted
