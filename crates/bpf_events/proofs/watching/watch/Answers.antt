use Rattle.std.proofs.Common.{◌∙◌, sym, ap}
use Rattle.bpf_machine.specs.Kept.{kept_stage}
use Rattle.bpf_events.specs.Private.Recording.{Recording}
use Rattle.bpf_events.proofs.Watched.{kept_fits, kept_steps, kept_watched, program_read, quiet_watched}
use Rattle.bpf_events.proofs.watching.watch.Goals as goal

pub make_quiet_step-requires : goal.make_quiet_step-requires
make_quiet_step-requires c =
    let m = c.args.machine.now in
    let task = c.in_ok-kept.kept in
    let program = c.index-programs-program.result in
    let loaded = program_read m c.in-Some.job task program c.programs.result.now c.program.result c.stands.ensures c.in_ok-kept.ensures
    c.programs.ensures c.program.ensures c.index-programs-program.is in
    kept_steps m c.args.cpu c.in-Some.job task program (kept_stage c.in_ok-stage.stage) c.stands.ensures c.in-Some.ensures.job
    c.in_ok-kept.ensures loaded c.in_ok-stage.ensures

pub returns-in-Some-make_quiet_step-clause-watched :
    goal.returns-in-Some-make_quiet_step-clause-watched
returns-in-Some-make_quiet_step-clause-watched c =
    let m = c.args.machine.now in
    let task = c.in_ok-kept.kept in
    let program = c.index-programs-program.result in
    let loaded = program_read m c.in-Some.job task program c.programs.result.now c.program.result c.stands.ensures c.in_ok-kept.ensures
    c.programs.ensures c.program.ensures c.index-programs-program.is in
    quiet_watched m c.args.cpu c.in-Some.job c.in-Some-make_quiet_step.pc task program c.forget.new.self
    (kept_stage c.in_ok-stage.stage) c.stands.ensures c.in-Some.ensures.job
    c.in_ok-kept.ensures loaded (ap (λ (r : Recording). r.events) c.forget.ensures) (ap (λ (r : Recording). r.lost) c.forget.ensures)
    c.in_ok-stage.ensures c.in-Some-make_quiet_step.ensures.quiet

pub note_stage-pc-requires-clause-fits : goal.note_stage-pc-requires-clause-fits
note_stage-pc-requires-clause-fits c =
    let m = c.args.machine.now in
    let task = c.in_ok-kept.kept in
    let program = c.index-programs-program.result in
    let loaded = program_read m c.in-Some.job task program c.programs.result.now c.program.result c.stands.ensures c.in_ok-kept.ensures
    c.programs.ensures c.program.ensures c.index-programs-program.is in
    kept_fits m c.args.cpu c.in-Some.job task program c.restart.new.self (kept_stage c.make_quiet_step.new.stage) c.stands.ensures
    c.in-Some.ensures.job c.in_ok-kept.ensures loaded
    (ap (λ (r : Recording). r.store) c.restart.ensures ∙ c.store.ensures) (c.in_default-make_quiet_step.ensures.same ∙ c.in_ok-stage.ensures)

pub returns-clause-watched : goal.returns-clause-watched
returns-clause-watched c =
    let m = c.args.machine.now in
    let task = c.in_ok-kept.kept in
    let program = c.index-programs-program.result in
    let loaded = program_read m c.in-Some.job task program c.programs.result.now c.program.result c.stands.ensures c.in_ok-kept.ensures
    c.programs.ensures c.program.ensures c.index-programs-program.is in
    kept_watched m c.args.cpu c.in-Some.job c.note_stage-pc.result task program c.restart.new.self c.note_stage-pc.new.recorder
    (kept_stage c.make_quiet_step.new.stage) c.budget-budget.result c.stands.ensures c.in-Some.ensures.job
    c.in_ok-kept.ensures loaded (ap (λ (r : Recording). r.store) c.restart.ensures ∙ c.store.ensures)
    (ap (λ (r : Recording). r.events) c.restart.ensures) (sym c.is_lost.ensures ∙ c.if-is_lost.false)
    (c.in_default-make_quiet_step.ensures.same ∙ c.in_ok-stage.ensures) c.budget-budget.ensures c.note_stage-pc.ensures.noted
