use Rattle.std.proofs.Common.{◌∙◌, ℕ, List, [], ◌∷◌, length, length-append, sym, ap, subst, arith}
use Rattle.bpf_explore.specs.Private.States.{HoldsStates}
use Rattle.bpf_explore.proofs.StateLaws.{more_learned}
use Rattle.bpf_explore.proofs.states.States.learn.Goals as goal

pub loop-number-preserved : goal.loop-number-preserved
loop-number-preserved c = let m = c.loop-number.self-inside in
    let before = c.loop-number.invariant in
    let items = c.in_ok-push.ensures.items in
    let size = ap (λ (hs : List ℕ). length hs) items ∙ length-append m.hashes.items (c.live_hash-hash.result ∷ []) in
    let known = before.learned in
    record {
      tuples = before.tuples;
      tables = before.tables;
      holds = subst (λ (hs : List ℕ). HoldsStates m.tuples hs m.slots.items) (sym items)
          (more_learned m.tuples m.hashes.items (c.live_hash-hash.result ∷ []) m.slots.items before.holds);
      learned = omega arith;
    }
