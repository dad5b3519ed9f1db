use Rattle.std.proofs.Common.{◌≡◌, ◌∙◌, ◌+◌, ◌≤◌, ℕ, List, sym, ap, subst, arith}
use Rattle.std.specs.Prelude.{nat_lt}
use Rattle.bpf_plain.specs.PlainStore.{has_cpu}
use Rattle.bpf_machine.specs.Machine.{MachineState}
use Rattle.bpf_expand.specs.declared.successor.Successor.{Successor}
use Rattle.bpf_expand.specs.declared.expander.Next.{Next}
use Rattle.bpf_expand.specs.State.{ExpanderState, Host}
use Rattle.bpf_expand.specs.Private.Next.{IsNext}
use Rattle.bpf_expand.proofs.Turning.{AreBelow, IdleBeyond, none_below, idle_below, next_below, all_below, idle_beyond}
use Rattle.bpf_expand.proofs.expander.Expander.successors.Goals as goal
use Rattle.bpf_expand.proofs.expander.Expander.successors.Goals.{in-Idle, in-State+in_ok-push-in-State}

pub loop-cpu-init : goal.loop-cpu-init
loop-cpu-init c =
    let e = c.take.new.self in
    let machine = ap (λ (x : ExpanderState). x.machine) c.self-2.view_is in
    let serves : (k : ℕ) → has_cpu e.machine.store k ≡ nat_lt k c.cpus-cpus.result = subst
    (λ (m : MachineState). (k : ℕ) → has_cpu m.store k ≡ nat_lt k c.cpus-cpus.result) machine c.cpus-cpus.ensures in
    record {
      host = c.take.ensures.same;
      below = subst (λ (l : List Successor). AreBelow e.host c.args.bytes.now l 0) (sym c.new-found.ensures.items) (none_below e.host c.args.bytes.now);
      beyond = idle_beyond e.host e.machine c.args.bytes.now c.cpus-cpus.result (c.in_ok-take.ensures.taken c.if-not-branch.false) serves;
    }

pub loop-cpu-preserved : goal.loop-cpu-preserved
loop-cpu-preserved c =
    let bytes = c.args.bytes.now in
    let h : Host = c.next.new.self.host in
    let cpu = c.loop-cpu.cpu in
    let was = c.loop-cpu.found.items in
    let same : h ≡ c.loop-cpu.self.host = c.next.ensures.same in
    let before : AreBelow h bytes was cpu = subst (λ (x : Host). AreBelow x bytes was cpu) (sym same) c.loop-cpu.invariant.below in
    record {
      host = same ∙ c.loop-cpu.invariant.host;
      below = elim c.match-branch-3.branch [
        | in-Idle w ↦
            let found : c.match-branch-3.found.items ≡ was = cc (w.found-is) in
            subst (λ (l : List Successor). AreBelow h bytes l (cpu + 1)) (sym found)
            (idle_below h bytes was cpu before (subst (λ (n : Next). IsNext h bytes cpu n) w.in-Idle.is c.in_ok-next.ensures.next))
        | in-State+in_ok-push-in-State w ↦
            let s : Successor = w.in-State.successor in
            let is = subst (λ (n : Next). IsNext h bytes cpu n) w.in-State.is c.in_ok-next.ensures.next in
            let pushed = w.in_ok-push-in-State.ensures.items in
            let found : c.match-branch-3.found.items ≡ w.push.new.self.items = cc (w.found-is) in
            subst (λ (l : List Successor). AreBelow h bytes l (cpu + 1)) (sym (found ∙ pushed)) (next_below h bytes was cpu s before is)
      ];
      beyond = subst (λ (x : Host). IdleBeyond x bytes c.cpus-cpus.result) (sym same) c.loop-cpu.invariant.beyond;
    }

pub returns-clause-some : goal.returns-clause-some
returns-clause-some c =
    let past : c.cpus-cpus.result ≤ c.loop-cpu.cpu = omega arith in
    all_below c.loop-cpu.self.host c.args.bytes.now c.loop-cpu.found.items c.loop-cpu.cpu c.cpus-cpus.result c.loop-cpu.invariant.below past
    c.loop-cpu.invariant.beyond
