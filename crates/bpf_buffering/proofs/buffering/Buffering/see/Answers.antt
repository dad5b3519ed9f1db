use Rattle.std.proofs.Common.{◌≡◌, ◌<◌, ◌≤◌, ◌∙◌, ℕ, Bool, List, length, sym, ap, subst}
use Rattle.std.specs.Prelude.{Vec, slice_index_or}
use Rattle.std.specs.declared.alloc.Global.{Global}
use Rattle.std.proofs.lemmas.Bool.{eqb-true, ltb-false, ltb-true}
use Rattle.bpf_plain.specs.Alike.{IsSameShape}
use Rattle.bpf_plain.specs.PlainStore.{Contents, has_cpu, shape_of}
use Rattle.bpf_buffering.specs.Search.{BufferedState}
use Rattle.bpf_buffering.specs.Buffering.{IsSeenBy}
use Rattle.bpf_buffering.specs.declared.waiting.Stored.{Stored}
use Rattle.bpf_buffering.proofs.Flushing.{none_beyond}
use Rattle.bpf_buffering.proofs.Seeing.{empty_here, may_be_made, no_items, seen_made, seen_memory}
use Rattle.bpf_buffering.proofs.buffering.Buffering.see.Goals as goal

pub returns-in_default-clause-sees : goal.returns-in_default-clause-sees
returns-in_default-clause-sees c =
    let m = c.self.inside in
    let past : length m.buffers.items ≤ c.args.cpu = subst (λ (bs : List (Vec Stored Global)). length bs ≤ c.args.cpu) c.deref.ensures.value
    (ltb-false _ _ (sym c.in_default.ensures.lookup.0)) in
    subst (λ (s : BufferedState). IsSeenBy s c.args.cpu c.copy_from.new.self) c.self.view_is
    (seen_memory m.here m.programs.items m.jobs.items m.buffers.items c.self.invariant c.args.cpu c.copy_from.new.self
    (c.copy_from.ensures ∙ c.store.ensures)
    (none_beyond m.here m.programs.items m.jobs.items m.buffers.items c.self.invariant c.args.cpu past))

pub make_stores-requires-clause-places : goal.make_stores-requires-clause-places
make_stores-requires-clause-places c =
    let m = c.self.inside in
    let cpu = c.args.cpu in
    let v = c.in-Some.buffer.now in
    let bs = c.deref.ensures.value in
    let within : cpu < length m.buffers.items = subst (λ (xs : List (Vec Stored Global)). cpu < length xs) bs
    (ltb-true _ _ (sym c.in-Some.ensures.lookup.0)) in
    may_be_made m.here m.programs.items m.jobs.items m.buffers.items c.self.invariant cpu within v
    (c.in-Some.ensures.lookup.1 ∙ ap (λ (xs : List (Vec Stored Global)). slice_index_or xs cpu v) bs)
    c.copy_from.new.self c.deref-then-not-is_empty.result.now (c.copy_from.ensures ∙ c.store.ensures) c.deref-then-not-is_empty.ensures.value

pub returns-then-not-is_empty-clause-sees : goal.returns-then-not-is_empty-clause-sees
returns-then-not-is_empty-clause-sees c =
    let m = c.self.inside in
    let cpu = c.args.cpu in
    let v = c.in-Some.buffer.now in
    let bs = c.deref.ensures.value in
    let within : cpu < length m.buffers.items = subst (λ (xs : List (Vec Stored Global)). cpu < length xs) bs
    (ltb-true _ _ (sym c.in-Some.ensures.lookup.0)) in
    subst (λ (s : BufferedState). IsSeenBy s cpu c.make_stores.new.store) c.self.view_is
    (seen_made m.here m.programs.items m.jobs.items m.buffers.items c.self.invariant cpu within v
    (c.in-Some.ensures.lookup.1 ∙ ap (λ (xs : List (Vec Stored Global)). slice_index_or xs cpu v) bs)
    c.copy_from.new.self c.make_stores.new.store c.deref-then-not-is_empty.result.now (c.copy_from.ensures ∙ c.store.ensures)
    c.deref-then-not-is_empty.ensures.value c.make_stores.ensures.made)

pub returns-then-not-is_empty-clause-shape : goal.returns-then-not-is_empty-clause-shape
returns-then-not-is_empty-clause-shape c =
    let same = c.copy_from.ensures ∙ c.store.ensures in
    subst (λ (s : BufferedState). IsSameShape s.machine.store c.make_stores.new.store) c.self.view_is (
      λ d. ap (λ (f : ℕ → Bool). f d) c.make_stores.ensures.serves ∙ ap (λ (p : Contents). has_cpu p d) same,
      c.make_stores.ensures.shape ∙ ap shape_of same,
    )

pub returns-else-not-is_empty-clause-sees : goal.returns-else-not-is_empty-clause-sees
returns-else-not-is_empty-clause-sees c =
    let m = c.self.inside in
    let cpu = c.args.cpu in
    let v = c.in-Some.buffer.now in
    let bs = c.deref.ensures.value in
    let within : cpu < length m.buffers.items = subst (λ (xs : List (Vec Stored Global)). cpu < length xs) bs
    (ltb-true _ _ (sym c.in-Some.ensures.lookup.0)) in
    subst (λ (s : BufferedState). IsSeenBy s cpu c.copy_from.new.self) c.self.view_is
    (seen_memory m.here m.programs.items m.jobs.items m.buffers.items c.self.invariant cpu c.copy_from.new.self (c.copy_from.ensures ∙ c.store.ensures)
    (empty_here m.here m.programs.items m.jobs.items m.buffers.items c.self.invariant cpu within v
    (c.in-Some.ensures.lookup.1 ∙ ap (λ (xs : List (Vec Stored Global)). slice_index_or xs cpu v) bs)
    (no_items v (eqb-true _ 0 (sym c.is_empty.ensures ∙ c.if-not-is_empty.false)))))
