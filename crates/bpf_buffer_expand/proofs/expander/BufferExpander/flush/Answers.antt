use Rattle.std.proofs.Common.{Bool, ap, subst}
use Rattle.bpf_x86.specs.Machine.{FlushOf}
use Rattle.bpf_buffering.specs.Search.{BufferedState}
use Rattle.bpf_buffer_expand.specs.State.{ExpanderState, FillsX86, LeadsAhead}
use Rattle.bpf_buffer_expand.proofs.Stating.{flush_leads}
use Rattle.bpf_buffer_expand.proofs.expander.BufferExpander.flush.Goals as goal

pub returns-clause-flushed : goal.returns-clause-flushed
returns-clause-flushed c = λ is.
    let flushed = c.flush.new.self in
    let machine = ap (λ (e : ExpanderState). e.machine) c.self.view_is in
    let patient = ap (λ (e : ExpanderState). e.host.patient) c.self.view_is in (
      flushed,
      subst (λ (old : BufferedState). LeadsAhead old (FlushOf c.args.cpu) c.args.cpu 0 flushed) machine
          (flush_leads c.self.inside.machine flushed c.args.cpu (c.flush.ensures.flushed c.if-not-flush.false)),
      subst (λ (b : Bool). FillsX86 b flushed c.args.cpu c.fill.new.machine) patient c.fill.ensures.fills,
    )
