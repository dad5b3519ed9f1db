use Rattle.std.proofs.Common.{◌≡◌, List, map, sym, ap, subst, ◌∙◌}
use Rattle.std.specs.Prelude.{Vec}
use Rattle.std.specs.declared.alloc.Global.{Global}
use Rattle.bpf_buffering.specs.declared.waiting.Stored.{Stored}
use Rattle.bpf_buffering.specs.Search.{BufferedState}
use Rattle.bpf_buffering.specs.Jobs.{tasks_of}
use Rattle.bpf_buffering.specs.Private.Kept.{state_with}
use Rattle.bpf_buffering.proofs.Keeping.{state_is}
use Rattle.bpf_buffering.proofs.Waits.{items_of}
use Rattle.bpf_buffering.proofs.buffering.Buffering.waiting.Goals as goal

pub returns-clause-state : goal.returns-clause-state
returns-clause-state c =
    let m = c.self.inside in
    subst (λ (s : BufferedState). s ≡ state_with s.machine.store s.machine.programs s.machine.jobs (map items_of c.deref.result.now)) c.self.view_is
    (state_is m.here m.programs.items m.jobs.items m.buffers.items ∙ ap
    (λ (bs : List (Vec Stored Global)). state_with m.here.store m.programs.items (tasks_of m.jobs.items) (map items_of bs))
    (sym c.deref.ensures.value))
