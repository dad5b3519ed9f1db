use Rattle.std.proofs.Common.{ℕ, subst}
use Rattle.bpf_buffering.specs.Search.{BufferedState, buffer_at}
use Rattle.bpf_buffering.specs.Buffering.{Stands}
use Rattle.bpf_x86.specs.Forwarding.{AreStores}
use Rattle.bpf_buffering.proofs.Seeing.{stores_alone}
use Rattle.bpf_buffering.proofs.buffering.Buffering.stands.Goals as goal

pub returns-clause-stands : goal.returns-clause-stands
returns-clause-stands c = subst (λ (s : BufferedState). Stands s.machine) c.self.view_is c.self.invariant.stands

pub returns-clause-stores : goal.returns-clause-stores
returns-clause-stores c =
    let m = c.self.inside in
    subst (λ (s : BufferedState). (cpu : ℕ) → AreStores (buffer_at s.buffers cpu)) c.self.view_is
    (λ cpu. stores_alone m.here m.programs.items m.jobs.items m.buffers.items c.self.invariant cpu)
