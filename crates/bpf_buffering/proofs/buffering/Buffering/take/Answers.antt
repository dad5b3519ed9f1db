use Rattle.std.proofs.Common.{map, ap, ◌∙◌}
use Rattle.bpf_plain.specs.PlainStore.{Contents}
use Rattle.bpf_buffering.specs.Search.{BufferedState}
use Rattle.bpf_buffering.specs.Waiting.{WaitingContents}
use Rattle.bpf_buffering.specs.Jobs.{tasks_of}
use Rattle.bpf_buffering.specs.Private.Kept.{state_with}
use Rattle.bpf_buffering.proofs.Keeping.{state_is}
use Rattle.bpf_buffering.proofs.Waits.{items_of}
use Rattle.bpf_buffering.proofs.buffering.Buffering.take.Goals as goal

pub returns : goal.returns
returns c =
    let m = c.self.inside in
    let jobs = tasks_of c.args.jobs.items in
    let items = map items_of c.args.buffers.items in
    state_is c.restore.new.self m.programs.items c.args.jobs.items c.args.buffers.items
    ∙ ap (λ (s : Contents). state_with s m.programs.items jobs items) (ap (λ (a : WaitingContents). a.store) c.restore.ensures)
    ∙ ap (λ (s : BufferedState). state_with c.args.store.now s.machine.programs jobs items) c.self.view_is
