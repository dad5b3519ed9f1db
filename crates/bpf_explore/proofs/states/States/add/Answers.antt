use Rattle.std.proofs.Common.{◌≡◌, ◌∙◌, ◌<◌, ℕ, length, sym, ap, subst}
use Rattle.std.specs.Prelude.{All, drop}
use Rattle.bpf_explore.specs.Tuples.{TupleList, AreWhole, IsTuple, with_tuple}
use Rattle.bpf_explore.specs.Private.Slots.{IsPut}
use Rattle.bpf_explore.specs.Private.States.{HoldsStates, StateList, state_hash}
use Rattle.bpf_explore.proofs.KeptLaws.{added_tuple}
use Rattle.bpf_explore.proofs.StateLaws.{still_holds_states, one_more_state}
use Rattle.bpf_explore.proofs.states.States.add.Goals as goal

pub invariant_of-self : goal.invariant_of-self
invariant_of-self c = let m = c.self.inside in
    still_holds_states m.tuples m.hashes.items m.slots.items c.note.new.slots.items c.note.ensures.keeps c.self.invariant

pub invariant_of-self-2 : goal.invariant_of-self-2
invariant_of-self-2 c = let m = c.self.inside in
    let tuple = c.args.numbers.now in
    let V : StateList → Type 0 = λ v. (length tuple ≡ v.tuples.width) × (c.args.hash ≡ state_hash v.hashes tuple)
    × All (λ n. n < length v.hashes) (drop 1 tuple) × ((n : ℕ) → IsTuple v.tuples n tuple → ⊥) in
    let r = subst V (sym c.self.view_is) (c.requires.width, c.requires.hash, c.requires.learned, c.requires.new) in
    let put = subst (λ (h : ℕ). IsPut c.note.new.slots.items h c.count-number.result) r.1 c.in_ok-note.ensures.put in
    let count = c.count-number.ensures.count ∙ ap (λ (v : StateList). v.tuples.count) (sym c.self.view_is) in
    let whole = subst (λ (v : StateList). AreWhole v.tuples) (sym c.self.view_is) c.count-number.ensures.whole in
    let here = subst (IsPut c.note.new.slots.items (state_hash m.hashes.items tuple)) count put in
    subst (λ (t : TupleList). HoldsStates t m.hashes.items c.note.new.slots.items) (sym c.in_ok-push.ensures.adds)
    (one_more_state m.tuples tuple m.hashes.items m.slots.items c.note.new.slots.items whole
    c.note.ensures.keeps c.self.invariant r.0 r.2 r.3 here)

pub invariant_of-self-in_err-push : goal.invariant_of-self-in_err-push
invariant_of-self-in_err-push c =
    let m = c.self.inside in
    subst (λ (t : TupleList). HoldsStates t m.hashes.items c.note.new.slots.items) (sym c.in_err-push.ensures.err)
    (still_holds_states m.tuples m.hashes.items m.slots.items c.note.new.slots.items c.note.ensures.keeps c.self.invariant)

pub returns-clause-found : goal.returns-clause-found
returns-clause-found c = let m = c.self.inside in
    let tuple = c.args.numbers.now in
    let size = subst (λ (v : StateList). length tuple ≡ v.tuples.width) (sym c.self.view_is) c.requires.width in
    let count = c.count-number.ensures.count ∙ ap (λ (v : StateList). v.tuples.count) (sym c.self.view_is) in
    let whole = subst (λ (v : StateList). AreWhole v.tuples) (sym c.self.view_is) c.count-number.ensures.whole in
    subst (λ (t : TupleList). IsTuple t c.count-number.result tuple) (sym c.in_ok-push.ensures.adds)
    (subst (λ (n : ℕ). IsTuple (with_tuple m.tuples tuple) n tuple) (sym count) (added_tuple m.tuples tuple whole size))
