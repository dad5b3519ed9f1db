use Rattle.bpf_jobs.specs.Printed.{first_of}
use Rattle.bpf_buffer_events.proofs.history.run_with_buffer_events.Goals as goal

pub returns : goal.returns
returns c = c.in_ok-stopped.ensures (first_of c.args.setup) c.in_ok-scene.ensures.shows c.in_ok-scene.ensures.text
