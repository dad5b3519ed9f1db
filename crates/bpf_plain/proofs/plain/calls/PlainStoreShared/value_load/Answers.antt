use Rattle.std.proofs.Common.{ℕ, ap, sym, subst, ◌∙◌}
use Rattle.bpf_shared.specs.Access.{bytes_in}
use Rattle.bpf_shared.specs.Contents.{bytes_of_all}
use Rattle.bpf_shared.specs.Passage.{Calls}
use Rattle.bpf_plain.specs.Private.Contents.{Contents, shape_of, has_cpu, held_spans, Passes, IsStore}
use Rattle.bpf_plain.proofs.Lifting.{call_lifted, is_call, maps_store}
use Rattle.bpf_shared.specs.declared.events.Event.TheVariants.{Load}
use Rattle.bpf_plain.proofs.Places.{some_bytes, fixed_read}
use Rattle.bpf_plain.proofs.Accessing.{load_makes}
use Rattle.bpf_plain.proofs.plain.calls.PlainStoreShared.value_load.Goals as goal

pub invariant_of-self : goal.invariant_of-self
invariant_of-self c = maps_store (record {
  shape = c.self.inside.shape;
  maps = c.self.inside.maps;
  arrays = bytes_of_all
      c.self.inside.arrays.items;
}) c.value_load.new.self c.self.invariant c.value_load.ensures.same.0 c.value_load.ensures.same.1

pub returns-then-at-lt-FIRST_FIXED-clause-loaded : goal.returns-then-at-lt-FIRST_FIXED-clause-loaded
returns-then-at-lt-FIRST_FIXED-clause-loaded c =
    call_lifted (record { shape = c.self.inside.shape; maps = c.self.inside.maps; arrays = bytes_of_all c.self.inside.arrays.items })
    c.args.self.now c.self.view_is c.value_load.new.self c.args.cpu (Load c.args.at.at c.args.size c.value_load.result)
    c.value_load.ensures.loaded
    (λ s so h v f into. into)

pub returns-else-at-lt-FIRST_FIXED-clause-loaded : goal.returns-else-at-lt-FIRST_FIXED-clause-loaded
returns-else-at-lt-FIRST_FIXED-clause-loaded c =
    let p = c.args.self.now in
    let is : IsStore p = (subst IsStore c.self.view_is c.self.invariant) in
    let place = (fixed_read (shape_of c.args.self.now) (held_spans c.args.self.now c.args.cpu) c.args.at.at (bytes_in c.args.size)
    (some_bytes c.args.size) (λ q e. c.values_are_low.ensures.held c.args.cpu q
    (ap (λ (x : Contents). held_spans x c.args.cpu q) c.self.view_is ∙ e)) c.if-at-lt-FIRST_FIXED.false c.requires.place) in
    subst (λ (r : ℕ). Calls (Passes p p) (has_cpu p) c.args.cpu (Load c.args.at.at c.args.size r)) (sym c.load_fixed.ensures.value)
    (is_call p p c.args.cpu _ (load_makes p is c.args.cpu c.args.at.at c.args.size (some_bytes c.args.size) place c.requires.in_run))
