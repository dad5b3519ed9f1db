use Rattle.std.proofs.Common.{◌≡◌, ◌<◌, [], length, refl, ap, subst, ◌∙◌, arith}
use Rattle.std.specs.Prelude.{slice_set}
use Rattle.bpf_machine.specs.Parts.{IsSameHost}
use Rattle.bpf_x86.specs.Machine.{FlushOf}
use Rattle.bpf_buffering.specs.Search.{BufferedState, MovesTo, CannotMove, buffer_at}
use Rattle.bpf_buffering.specs.Waiting.{WaitingContents}
use Rattle.bpf_buffering.specs.Buffering.{state_of}
use Rattle.bpf_buffering.proofs.Keeping.{same_host, host_through}
use Rattle.bpf_buffering.proofs.Flushing.{cannot_flush, none_beyond, can_take, serves, none_waits_here, can_put_back, board_now, flush_moves, stays}
use Rattle.bpf_buffering.proofs.buffering.Buffering.flush.Goals as goal

pub exchange-requires : goal.exchange-requires
exchange-requires c =
    let m = c.self.inside in
    let within : c.args.cpu < length m.buffers.items = omega (arith, m.buffers.ok.0) in
    can_take m.here m.programs.items m.jobs.items m.buffers.items c.self.invariant c.args.cpu within c.index_mut.result.now c.index_mut.ensures.value

pub flush-flushed-requires : goal.flush-flushed-requires
flush-flushed-requires c =
    let m = c.self.inside in
    let within : c.args.cpu < length m.buffers.items = omega (arith, m.buffers.ok.0) in
    serves m.here m.programs.items m.jobs.items m.buffers.items c.self.invariant c.args.cpu within c.index_mut.result.now
    c.index_mut.ensures.value c.exchange.new.self c.exchange.ensures.serves c.exchange.new.waiting c.exchange.ensures.before

pub exchange-requires-2 : goal.exchange-requires-2
exchange-requires-2 c =
    let m = c.self.inside in
    let within : c.args.cpu < length m.buffers.items = omega (arith, m.buffers.ok.0) in
    can_put_back m.here m.programs.items m.jobs.items m.buffers.items c.self.invariant c.args.cpu within c.index_mut.result.now
    c.index_mut.ensures.value c.exchange.new.self c.exchange.ensures.serves c.exchange.new.waiting c.exchange.ensures.before
    c.index_mut-2.result.now c.index_mut-2.ensures.value c.flush-flushed.new.self.store

pub invariant_of-self : goal.invariant_of-self
invariant_of-self c =
    let m = c.self.inside in
    let within : c.args.cpu < length m.buffers.items = omega (arith, m.buffers.ok.0) in
    board_now m.here m.programs.items m.jobs.items m.buffers.items c.self.invariant c.args.cpu within c.index_mut.result.now
    c.index_mut.ensures.value c.exchange.new.self c.exchange.ensures.serves c.exchange.new.waiting c.exchange.ensures.before
    c.index_mut-2.result.now c.index_mut-2.ensures.value c.flush-flushed.new.self c.flush-flushed.ensures.cpu.0
    c.flush-flushed.ensures.shape c.flush-flushed.ensures.held c.flush-flushed.ensures.running c.flush-flushed.ensures.serves
    c.exchange-2.new.self c.exchange-2.ensures.serves c.exchange-2.new.waiting c.exchange-2.ensures.before c.exchange-2.ensures.can_wait

pub returns-clause-flushed : goal.returns-clause-flushed
returns-clause-flushed c = λ yes.
    let m = c.self.inside in
    let within : c.args.cpu < length m.buffers.items = omega (arith, m.buffers.ok.0) in
    subst (λ (s : BufferedState). MovesTo s (FlushOf c.args.cpu)
    (state_of c.exchange-2.new.self m.programs.items m.jobs.items
    (slice_set (slice_set m.buffers.items c.args.cpu c.exchange.new.waiting) c.args.cpu c.exchange-2.new.waiting))) c.self.view_is
    (flush_moves m.here m.programs.items m.jobs.items m.buffers.items c.self.invariant c.args.cpu within c.index_mut.result.now
    c.index_mut.ensures.value c.exchange.new.self c.exchange.ensures.serves c.exchange.new.waiting c.exchange.ensures.before
    c.index_mut-2.result.now c.index_mut-2.ensures.value c.flush-flushed.new.self c.flush-flushed.ensures.cpu.0
    c.flush-flushed.ensures.shape c.flush-flushed.ensures.held c.flush-flushed.ensures.running c.flush-flushed.ensures.serves
    c.exchange-2.new.self c.exchange-2.ensures.serves c.exchange-2.new.waiting c.exchange-2.ensures.before c.exchange-2.ensures.can_wait
    (c.flush-flushed.ensures.flushed yes))

pub returns-clause-none : goal.returns-clause-none
returns-clause-none c = λ no.
    let m = c.self.inside in
    let within : c.args.cpu < length m.buffers.items = omega (arith, m.buffers.ok.0) in
    let none = c.flush-flushed.ensures.none no in
    subst (λ (s : BufferedState). CannotMove s (FlushOf c.args.cpu)) c.self.view_is
    (cannot_flush (state_of m.here m.programs.items m.jobs.items m.buffers.items) c.args.cpu
    (none_waits_here m.here m.programs.items m.jobs.items m.buffers.items c.self.invariant c.args.cpu within c.index_mut.result.now
    c.index_mut.ensures.value c.exchange.new.self c.exchange.ensures.serves c.exchange.new.waiting c.exchange.ensures.before none.0))

pub returns-clause-empty : goal.returns-clause-empty
returns-clause-empty c = λ no.
    let m = c.self.inside in
    let within : c.args.cpu < length m.buffers.items = omega (arith, m.buffers.ok.0) in
    let none = c.flush-flushed.ensures.none no in
    subst (λ (s : BufferedState). buffer_at s.buffers c.args.cpu ≡ []) c.self.view_is
    (none_waits_here m.here m.programs.items m.jobs.items m.buffers.items c.self.invariant c.args.cpu within c.index_mut.result.now
    c.index_mut.ensures.value c.exchange.new.self c.exchange.ensures.serves c.exchange.new.waiting c.exchange.ensures.before none.0)

pub returns-clause-unchanged : goal.returns-clause-unchanged
returns-clause-unchanged c = λ no.
    let m = c.self.inside in
    let within : c.args.cpu < length m.buffers.items = omega (arith, m.buffers.ok.0) in
    stays m.here m.programs.items m.jobs.items m.buffers.items c.self.invariant c.args.cpu within c.index_mut.result.now
    c.index_mut.ensures.value c.exchange.new.self c.exchange.ensures.serves c.exchange.new.waiting c.exchange.ensures.before
    c.index_mut-2.result.now c.index_mut-2.ensures.value c.flush-flushed.new.self c.flush-flushed.ensures.cpu.0
    c.flush-flushed.ensures.shape c.flush-flushed.ensures.held c.flush-flushed.ensures.running c.flush-flushed.ensures.serves
    c.exchange-2.new.self c.exchange-2.ensures.serves c.exchange-2.new.waiting c.exchange-2.ensures.before c.exchange-2.ensures.can_wait
    (c.flush-flushed.ensures.none no).1 ∙ c.self.view_is

-- a CPU that the machine doesn't have
pub returns-then-cpu-len-clause-none : goal.returns-then-cpu-len-clause-none
returns-then-cpu-len-clause-none c = λ no.
    let m = c.self.inside in
    subst (λ (s : BufferedState). CannotMove s (FlushOf c.args.cpu)) c.self.view_is
    (cannot_flush (state_of m.here m.programs.items m.jobs.items m.buffers.items) c.args.cpu
    (none_beyond m.here m.programs.items m.jobs.items m.buffers.items c.self.invariant c.args.cpu (omega arith)))

pub returns-then-cpu-len-clause-empty : goal.returns-then-cpu-len-clause-empty
returns-then-cpu-len-clause-empty c = λ no.
    let m = c.self.inside in
    subst (λ (s : BufferedState). buffer_at s.buffers c.args.cpu ≡ []) c.self.view_is
    (none_beyond m.here m.programs.items m.jobs.items m.buffers.items c.self.invariant c.args.cpu (omega arith))

pub returns-clause-host : goal.returns-clause-host
returns-clause-host c =
    let m = c.self.inside in
    let z = c.exchange-2.new.self in
    subst (λ (s : BufferedState). IsSameHost s.machine (state_of z m.programs.items m.jobs.items m.buffers.items).machine) c.self.view_is
    (host_through m.here c.exchange.new.self c.flush-flushed.new.self z m.programs.items m.jobs.items m.jobs.items m.buffers.items
    m.buffers.items (ap (λ (a : WaitingContents). a.store) c.exchange.ensures.serves) c.flush-flushed.ensures.shape
    c.flush-flushed.ensures.serves (ap (λ (a : WaitingContents). a.store) c.exchange-2.ensures.serves) refl)

pub returns-then-cpu-len-clause-host : goal.returns-then-cpu-len-clause-host
returns-then-cpu-len-clause-host c = same_host c.args.self.now.machine
