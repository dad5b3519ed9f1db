use Rattle.std.proofs.Common.{◌≡◌, ◌∙◌, ◌≤◌, ℕ, List, sym, ap, subst, arith}
use Rattle.bpf_explore.specs.Tuples.{tuple_at}
use Rattle.bpf_explore.specs.Private.Slots.{IsPut}
use Rattle.bpf_explore.specs.Private.States.{StateList, state_hash}
use Rattle.bpf_explore.proofs.StateLaws.{more_states_put, widened_states}
use Rattle.bpf_explore.proofs.states.States.widen.Goals as goal

pub loop-number-preserved : goal.loop-number-preserved
loop-number-preserved c = let m = c.self.inside in
    let hash : c.state_hash-hash.result ≡ state_hash m.hashes.items (tuple_at m.tuples c.loop-number.number) = c.state_hash-hash.ensures
    ∙ (ap (λ (hs : List ℕ). state_hash hs c.tuple.result.now) c.deref.ensures.value ∙ ap (state_hash m.hashes.items) (sym c.tuple.ensures.tuple.1)) in
    more_states_put m.tuples m.hashes.items c.loop-number.slots.items c.note.new.slots.items c.loop-number.number c.note.ensures.keeps
    c.loop-number.invariant (subst (λ (h : ℕ). IsPut c.note.new.slots.items h c.loop-number.number) hash c.in_ok-note.ensures.put)

pub invariant_of-self : goal.invariant_of-self
invariant_of-self c = let m = c.self.inside in
    let count = ap (λ (v : StateList). v.tuples.count) c.self.view_is in
    let number = c.count-count.ensures.count in
    let all : m.tuples.count ≤ c.loop-number.number = omega arith in
    widened_states m.tuples m.hashes.items m.slots.items c.loop-number.slots.items c.loop-number.number c.self.invariant all c.loop-number.invariant
