use Rattle.std.proofs.Common.{ap, sym, subst, ◌∙◌}
use Rattle.bpf_shared.specs.Access.{bytes_in}
use Rattle.bpf_shared.specs.Contents.{bytes_of_all}
use Rattle.bpf_shared.specs.Passage.{Calls, IsHeldPlace}
use Rattle.bpf_plain.specs.Private.Contents.{Contents, shape_of, has_cpu, held_spans, Passes, IsStore}
use Rattle.bpf_plain.proofs.Lifting.{call_lifted, held_beside, is_call, maps_store}
use Rattle.bpf_shared.specs.declared.events.Event.TheVariants.{Atomic}
use Rattle.bpf_plain.proofs.Places.{some_bytes, held_write, fixed_write}
use Rattle.bpf_plain.proofs.Accessing.{atomic_makes}
use Rattle.bpf_plain.proofs.plain.calls.PlainStoreShared.value_atomic.Goals as goal

pub invariant_of-self : goal.invariant_of-self
invariant_of-self c = maps_store (record {
  shape = c.self.inside.shape;
  maps = c.self.inside.maps;
  arrays = bytes_of_all
      c.self.inside.arrays.items;
}) c.value_atomic.new.self c.self.invariant c.value_atomic.ensures.same.0 c.value_atomic.ensures.same.1

pub returns-then-at-lt-FIRST_FIXED-clause-changed : goal.returns-then-at-lt-FIRST_FIXED-clause-changed
returns-then-at-lt-FIRST_FIXED-clause-changed c =
    call_lifted (record { shape = c.self.inside.shape; maps = c.self.inside.maps; arrays = bytes_of_all c.self.inside.arrays.items })
    c.args.self.now c.self.view_is c.value_atomic.new.self c.args.cpu
    (Atomic c.args.at.at c.args.size c.args.op c.args.operand c.args.expected c.value_atomic.result) c.value_atomic.ensures.changed
    (held_beside c.self.inside.maps c.args.cpu c.args.at.at (bytes_in c.args.size) (some_bytes c.args.size)
    (subst (λ (x : Contents). IsHeldPlace (held_spans x c.args.cpu) c.args.at.at (bytes_in c.args.size)) (sym c.self.view_is)
    (held_write (shape_of c.args.self.now) (held_spans c.args.self.now c.args.cpu) c.args.at.at (bytes_in c.args.size)
    c.if-at-lt-FIRST_FIXED.true c.requires.place)))

pub store_fixed-requires : goal.store_fixed-requires
store_fixed-requires c = (fixed_write (shape_of c.args.self.now) (held_spans c.args.self.now c.args.cpu) c.args.at.at (bytes_in c.args.size)
    (some_bytes c.args.size) (λ q e. c.values_are_low.ensures.held c.args.cpu q
    (ap (λ (x : Contents). held_spans x c.args.cpu q) c.self.view_is ∙ e)) c.if-at-lt-FIRST_FIXED.false c.requires.place)

pub returns-else-at-lt-FIRST_FIXED-clause-changed : goal.returns-else-at-lt-FIRST_FIXED-clause-changed
returns-else-at-lt-FIRST_FIXED-clause-changed c =
    let p = c.args.self.now in
    let is : IsStore p = (subst IsStore c.self.view_is c.self.invariant) in
    let place = (fixed_write (shape_of c.args.self.now) (held_spans c.args.self.now c.args.cpu) c.args.at.at (bytes_in c.args.size)
    (some_bytes c.args.size) (λ q e. c.values_are_low.ensures.held c.args.cpu q
    (ap (λ (x : Contents). held_spans x c.args.cpu q) c.self.view_is ∙ e)) c.if-at-lt-FIRST_FIXED.false c.requires.place) in
    subst (λ (q : Contents). Calls (Passes p q) (has_cpu p) c.args.cpu
    (Atomic c.args.at.at c.args.size c.args.op c.args.operand c.args.expected c.load_fixed-found.result)) (sym c.store_fixed.ensures)
    (is_call p _ c.args.cpu _ (atomic_makes p is c.args.cpu c.args.at.at c.args.size (some_bytes c.args.size) place.0 c.requires.in_run
    c.args.op c.args.operand c.args.expected c.load_fixed-found.result c.change-word.result place.1 c.load_fixed-found.ensures.value
    c.change-word.ensures))
