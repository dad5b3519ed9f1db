use Rattle.std.proofs.Common.{subst, sym}
use Rattle.bpf_shared.specs.Access.{bytes_in}
use Rattle.bpf_shared.specs.Passage.{IsWritable}
use Rattle.bpf_plain.specs.PlainStore.{held_spans, shape_of}
use Rattle.bpf_events.specs.Private.Recording.{Recording}
use Rattle.bpf_events.proofs.recorder.RecorderShared.value_atomic.Goals as goal

pub value_atomic-found-requires-clause-place : goal.value_atomic-found-requires-clause-place
value_atomic-found-requires-clause-place c = subst (λ (r : Recording). IsWritable (shape_of r.store) (held_spans r.store c.args.cpu)
    c.args.at.at (bytes_in c.args.size)) (sym c.self.view_is) c.requires.place
