use Rattle.std.proofs.Common.{◌+◌, ◌*◌, false, List, refl, sym, subst}
use Rattle.bpf_expand.specs.State.{Host}
use Rattle.bpf_buffer_expand.specs.declared.successor.Successor.{Successor}
use Rattle.bpf_buffer_expand.specs.declared.expander.Next.{Next}
use Rattle.bpf_buffer_expand.specs.Private.Next.{AreBelow, IsNext}
use Rattle.bpf_buffer_expand.proofs.Turning.{idle_below, next_below}
use Rattle.bpf_buffer_expand.proofs.expander.BufferExpander.add_turn.Goals as goal

pub returns-in-Idle-clause-adds : goal.returns-in-Idle-clause-adds
returns-in-Idle-clause-adds c = λ is.
    let h : Host = c.next_turn.new.self.host in
    let bytes = c.args.bytes.now in
    let cpu = c.args.cpu in
    let was = c.args.found.now.items in
    let before = subst (λ (x : Host). AreBelow x bytes was (2 * cpu)) (sym c.next_turn.ensures.same) c.requires in
    idle_below h bytes was cpu false (2 * cpu) before refl (subst (λ (n : Next). IsNext h bytes cpu false n) c.in-Idle.is c.in_ok-next_turn.ensures.next)

pub returns-in_ok-push-in-State-clause-adds : goal.returns-in_ok-push-in-State-clause-adds
returns-in_ok-push-in-State-clause-adds c = λ is.
    let h : Host = c.next_turn.new.self.host in
    let bytes = c.args.bytes.now in
    let cpu = c.args.cpu in
    let was = c.args.found.now.items in
    let s : Successor = c.in-State.successor in
    let before = subst (λ (x : Host). AreBelow x bytes was (2 * cpu)) (sym c.next_turn.ensures.same) c.requires in
    subst (λ (l : List Successor). AreBelow h bytes l (2 * cpu + 1)) (sym c.in_ok-push-in-State.ensures.items)
    (next_below h bytes was cpu false (2 * cpu) s before refl (subst (λ (n : Next). IsNext h bytes cpu false n) c.in-State.is c.in_ok-next_turn.ensures.next))
