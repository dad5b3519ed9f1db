use Rattle.std.proofs.Common.{◌≡◌, ◌∙◌, ◌==◌, ◌&&◌, ℕ, Bool, true, false, refl, sym, ap, subst}
use Rattle.std.specs.Prelude.{slice_index_or}
use Rattle.bpf_shared.specs.Access.{bytes_in}
use Rattle.bpf_shared.specs.Shape.{Shape}
use Rattle.bpf_shared.specs.declared.events.Span.{Span}
use Rattle.bpf_shared.specs.declared.events.Event.{Event}
use Rattle.bpf_shared.specs.declared.events.Event.TheVariants.{Keys}
use Rattle.bpf_shared.specs.Passage.{Calls, IsWritable}
use Rattle.bpf_plain.specs.PlainStore.{is_running, shape_of, held_spans}
use Rattle.bpf_buffering.specs.Waiting.{WaitingContents, PassesWaiting, serves_one}
use Rattle.bpf_buffering.proofs.Serving.{its_cpu}
use Rattle.bpf_buffering.proofs.Adapting.{called}
use Rattle.bpf_buffering.proofs.waiting.WaitingShared.keys.Goals as goal

pub returns-clause-listed : goal.returns-clause-listed
returns-clause-listed c =
    let w : WaitingContents = record {
      store = c.self.inside.store;
      waiting = c.self.inside.waiting.items;
      cpu = c.self.inside.cpu;
      lost =
          c.self.inside.lost;
    } in
    let y : WaitingContents = record { store = c.keys.new.self; waiting = c.self.inside.waiting.items; cpu = c.self.inside.cpu; lost = true } in
    let e : Event = Keys c.args.map c.keys.new.list.keys in
    let view : w ≡ c.args.self.now = c.self.view_is in
    let cpu : c.args.cpu ≡ w.cpu = its_cpu c.args.self.now c.args.cpu c.requires.serves ∙ ap (λ (v : WaitingContents). v.cpu) (sym view) in
    let own = called w y (serves_one w) e (record { cpu = refl; serves = c.keys.ensures.same.1 }) (λ kept. let no : true ≡ false = kept in cc) in
    subst (λ (v : WaitingContents). Calls (PassesWaiting v y) (serves_one v) c.args.cpu e) view
    (subst (λ (k : ℕ). Calls (PassesWaiting w y) (serves_one w) k e) (sym cpu) own)

pub invariant_of-self : goal.invariant_of-self
invariant_of-self c =
    let same = c.keys.ensures.same in (
      (λ k. c.self.invariant.0.0 k ∙ sym (ap (λ (f : ℕ → Bool). f k) same.1), c.self.invariant.0.1 ∙ sym same.0),
      λ k d less.
          (let was = c.self.invariant.1 k d less in
          let e = slice_index_or c.self.inside.waiting.items k d in
          subst (λ (h : Shape). IsWritable h (held_spans c.keys.new.self c.self.inside.cpu) e.at (bytes_in e.size)) (sym same.0)
          (subst (λ (f : ℕ → Span → Bool). IsWritable (shape_of c.self.inside.store) (f c.self.inside.cpu) e.at (bytes_in e.size))
          (sym c.keys.ensures.held) was)),
      λ off. c.self.invariant.2 (sym (ap (λ (f : ℕ → Bool). f c.self.inside.cpu) same.2) ∙ off),
    )

pub returns-clause-same : goal.returns-clause-same
returns-clause-same c =
    let same = c.keys.ensures.same in (
      same.0 ∙ ap (λ (v : WaitingContents). shape_of v.store) c.self.view_is,
      ap (λ (f : ℕ → Bool). λ (k : ℕ). (k == c.self.inside.cpu) && f k) same.1 ∙ ap serves_one c.self.view_is,
      same.2 ∙ ap (λ (v : WaitingContents). is_running v.store) c.self.view_is,
    )
