use Rattle.std.proofs.Common.{◌≡◌, ◌∙◌, ◌==◌, ◌&&◌, ℕ, Bool, true, refl, sym, ap, subst}
use Rattle.std.specs.Prelude.{slice_index_or}
use Rattle.bpf_shared.specs.Access.{bytes_in}
use Rattle.bpf_shared.specs.Shape.{Shape}
use Rattle.bpf_shared.specs.declared.events.Span.{Span}
use Rattle.bpf_shared.specs.declared.events.Event.{Event}
use Rattle.bpf_shared.specs.declared.events.Event.TheVariants.{Lookup}
use Rattle.bpf_shared.specs.Passage.{Calls, IsWritable, held_with}
use Rattle.bpf_plain.specs.PlainStore.{has_cpu, is_running, shape_of, held_spans}
use Rattle.bpf_buffering.specs.Waiting.{WaitingContents, PassesWaiting, serves_one}
use Rattle.bpf_buffering.proofs.Serving.{its_cpu, has_its, writable_more, held_more}
use Rattle.bpf_buffering.proofs.Adapting.{Made, called, lookup_leads, made_of}
use Rattle.bpf_buffering.proofs.waiting.WaitingShared.lookup.Goals as goal

pub invariant_of-self : goal.invariant_of-self
invariant_of-self c =
    let same = c.lookup.ensures.same in (
      (λ k. c.self.invariant.0.0 k ∙ sym (ap (λ (f : ℕ → Bool). f k) same.1), c.self.invariant.0.1 ∙ sym same.0),
      λ k d less.
          (let was = c.self.invariant.1 k d less in
          let e = slice_index_or c.self.inside.waiting.items k d in
          subst (λ (h : Shape). IsWritable h (held_spans c.lookup.new.self c.self.inside.cpu) e.at (bytes_in e.size)) (sym same.0)
          (subst (λ (f : ℕ → Span → Bool). IsWritable (shape_of c.self.inside.store) (f c.self.inside.cpu) e.at (bytes_in e.size)) (sym c.lookup.ensures.held)
          (writable_more (shape_of c.self.inside.store) (held_spans c.self.inside.store c.self.inside.cpu)
          (held_with (held_spans c.self.inside.store) c.args.cpu c.lookup.result c.self.inside.cpu) e.at (bytes_in e.size)
          (held_more (held_spans c.self.inside.store) c.args.cpu c.self.inside.cpu c.lookup.result) was))),
      λ off. c.self.invariant.2 (sym (ap (λ (f : ℕ → Bool). f c.self.inside.cpu) same.2) ∙ off),
    )

pub returns-clause-found : goal.returns-clause-found
returns-clause-found c =
    let w : WaitingContents = record {
      store = c.self.inside.store;
      waiting = c.self.inside.waiting.items;
      cpu = c.self.inside.cpu;
      lost =
          c.self.inside.lost;
    } in
    let y : WaitingContents = record { store = c.lookup.new.self; waiting = c.self.inside.waiting.items; cpu = c.self.inside.cpu; lost = c.self.inside.lost } in
    let e : Event = Lookup c.args.map c.args.key.now c.lookup.result in
    let view : w ≡ c.args.self.now = c.self.view_is in
    let cpu : c.args.cpu ≡ w.cpu = its_cpu c.args.self.now c.args.cpu c.requires.serves ∙ ap (λ (v : WaitingContents). v.cpu) (sym view) in
    let served : has_cpu w.store c.args.cpu ≡ true = ap (λ (v : WaitingContents). has_cpu v.store c.args.cpu) view ∙ has_its c.args.self.now
    c.args.cpu c.requires.serves in
    let made = made_of w.store y.store c.args.cpu e served c.lookup.ensures.found c.lookup.ensures.same.1 in
    let own = called w y (serves_one w) e (record { cpu = refl; serves = c.lookup.ensures.same.1 })
    (λ kept. (
      kept,
      lookup_leads w y c.args.map c.args.key.now c.lookup.result refl
          (subst (λ (k : ℕ). Made w.store k e y.store) cpu made),
    )) in
    subst (λ (v : WaitingContents). Calls (PassesWaiting v y) (serves_one v) c.args.cpu e) view
    (subst (λ (k : ℕ). Calls (PassesWaiting w y) (serves_one w) k e) (sym cpu) own)

pub returns-clause-same : goal.returns-clause-same
returns-clause-same c =
    let same = c.lookup.ensures.same in (
      same.0 ∙ ap (λ (v : WaitingContents). shape_of v.store) c.self.view_is,
      ap (λ (f : ℕ → Bool). λ (k : ℕ). (k == c.self.inside.cpu) && f k) same.1 ∙ ap serves_one c.self.view_is,
      same.2 ∙ ap (λ (v : WaitingContents). is_running v.store) c.self.view_is,
    )
