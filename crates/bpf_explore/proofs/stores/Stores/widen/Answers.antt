use Rattle.std.proofs.Common.{◌≡◌, ℕ, sym, subst, arith}
use Rattle.bpf_plain.specs.PlainStore.{Contents, IsSavedAs}
use Rattle.bpf_explore.specs.Private.Slots.{IsPut}
use Rattle.bpf_explore.specs.Private.Kept.{store_at}
use Rattle.bpf_explore.proofs.KeptLaws.{more_stores_put, widened_stores, read_store}
use Rattle.bpf_explore.proofs.stores.Stores.widen.Goals as goal

pub loop-number-preserved : goal.loop-number-preserved
loop-number-preserved c =
    let m = c.self.inside in
    let same : c.index.result.now ≡ store_at m.kept.items c.loop-number.number = read_store m.kept.items c.loop-number.number
    c.index.result.now (omega arith) c.index.ensures in
    more_stores_put m.kept.items c.loop-number.slots.items c.note.new.slots.items c.loop-number.number c.note.ensures.keeps c.loop-number.invariant
    (λ bytes saved. subst (λ (h : ℕ). IsPut c.note.new.slots.items h c.loop-number.number)
    (c.hash.ensures bytes (subst (λ (p : Contents). IsSavedAs p bytes) (sym same) saved)) c.in_ok-note.ensures.put)

pub invariant_of-self : goal.invariant_of-self
invariant_of-self c =
    let m = c.self.inside in
    widened_stores m.kept.items m.slots.items c.loop-number.slots.items c.loop-number.number c.self.invariant (omega arith) c.loop-number.invariant
