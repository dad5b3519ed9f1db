use Rattle.std.proofs.Common.{◌<◌, ◌≢◌, List, length, sym, subst}
use Rattle.std.specs.Prelude.{All, slice_index_or}
use Rattle.bpf_cpu.specs.Task.{Task}
use Rattle.bpf_machine.specs.Parts.{no_task}
use Rattle.bpf_explore.proofs.KeepLaws.{other_is, others_within}
use Rattle.bpf_explore.proofs.album.find_job.Goals as goal

pub other_number-requires : goal.other_number-requires
other_number-requires c =
    let room = c.args.room.now in
    subst (λ (ts : List Task). All (λ n. n < length ts) room.before.items) (sym c.jobs.ensures)
    (others_within c.args.parts.now room.before.items room.cpu c.args.machine.now.jobs c.requires.others)

pub returns-in-Some : goal.returns-in-Some
returns-in-Some c =
    let room = c.args.room.now in
    let number = c.in-Some.number in
    let differs = subst (λ (ts : List Task). (slice_index_or ts number no_task).cpu ≢ room.cpu) c.jobs.ensures c.in-Some.ensures.1 in
    other_is c.args.parts.now room.before.items room.cpu c.args.machine.now.jobs c.requires.others c.args.job number c.in-Some.ensures.0 differs
