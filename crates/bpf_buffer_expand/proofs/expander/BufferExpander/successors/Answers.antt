use Rattle.std.proofs.Common.{◌≡◌, ◌∙◌, ◌≤◌, ap, sym, subst, arith}
use Rattle.bpf_expand.specs.State.{Host}
use Rattle.bpf_buffer_expand.specs.State.{ExpanderState, IsStateOf}
use Rattle.bpf_buffer_expand.proofs.Turning.{all_below}
use Rattle.bpf_buffer_expand.proofs.expander.BufferExpander.successors.Goals as goal

pub returns-then-not-branch-clause-none : goal.returns-then-not-branch-clause-none
returns-then-not-branch-clause-none c = c.in_ok-take.ensures.none c.if-not-branch.true

pub returns-clause-some : goal.returns-clause-some
returns-clause-some c =
    let e = c.take.new.self in
    let h : Host = c.loop-cpu.self.host in
    let bytes = c.args.bytes.now in
    let same : e.host ≡ h = c.take.ensures.same ∙ sym c.loop-cpu.invariant.host in
    let is = subst (λ (x : Host). IsStateOf x e.machine bytes) same (c.in_ok-take.ensures.taken c.if-not-branch.false) in
    let few : c.cpus-cpu-end.result ≡ h.shape.cpus = c.cpus-cpu-end.ensures.cpus ∙ ap (λ (x : ExpanderState). x.host.shape.cpus) c.self-2.view_is
    ∙ ap (λ (x : Host). x.shape.cpus) same in
    let past : h.shape.cpus ≤ c.loop-cpu.cpu = omega (arith, few, c.loop-cpu-test.false) in
    all_below h e.machine bytes c.loop-cpu.found.items c.loop-cpu.cpu is c.loop-cpu.invariant.below past
