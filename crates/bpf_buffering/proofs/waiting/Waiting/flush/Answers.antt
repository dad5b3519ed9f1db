use Rattle.std.proofs.Common.{◌≡◌, ◌∙◌, ◌<◌, ℕ, Bool, true, false, List, ◌∷◌, length, sym, ap, subst, arith}
use Rattle.std.specs.Prelude.{remove}
use Rattle.bpf_shared.specs.Access.{bytes_in}
use Rattle.bpf_shared.specs.Shape.{Shape}
use Rattle.bpf_shared.specs.declared.events.Span.{Span}
use Rattle.bpf_shared.specs.Passage.{IsWritable}
use Rattle.bpf_plain.specs.PlainStore.{has_cpu, is_running, shape_of, held_spans}
use Rattle.bpf_machine.proofs.OwnEvents.{call_leads}
use Rattle.bpf_buffering.specs.declared.waiting.Stored.{Stored}
use Rattle.bpf_buffering.specs.Waiting.{WaitingContents, AreWritable, FlushesAlone, event_of}
use Rattle.bpf_buffering.proofs.Oldest.{oldest_first, later_writable, in_a_run}
use Rattle.bpf_buffering.proofs.waiting.Waiting.flush.Goals as goal

pub value_store-requires-clause-serves : goal.value_store-requires-clause-serves
value_store-requires-clause-serves c = ap (λ (w : WaitingContents). has_cpu w.store w.cpu) c.self.view_is ∙ c.requires

pub value_store-requires-clause-in_run : goal.value_store-requires-clause-in_run
value_store-requires-clause-in_run c =
    let i = c.self.inside in
    let some : 0 < length i.waiting.items = omega arith in
    in_a_run (is_running i.store i.cpu) i.waiting.items some c.self.invariant.2

pub value_store-requires-clause-place : goal.value_store-requires-clause-place
value_store-requires-clause-place c =
    let i = c.self.inside in
    let some : 0 < length i.waiting.items = omega arith in
    let first = c.self.invariant.1 0 c.remove-stored.result some in
    subst (λ (e : Stored). IsWritable (shape_of i.store) (held_spans i.store i.cpu) e.at (bytes_in e.size)) (sym c.remove-stored.ensures.value) first

pub invariant_of-self : goal.invariant_of-self
invariant_of-self c =
    let i = c.self.inside in
    let some : 0 < length i.waiting.items = omega arith in
    let same = c.value_store.ensures.same in
    let held = ap (λ (f : ℕ → Span → Bool). f i.cpu) c.value_store.ensures.held in
    let later = later_writable (shape_of i.store) (held_spans i.store i.cpu) i.waiting.items c.self.invariant.1 in
    let runs : is_running i.store i.cpu ≡ true = in_a_run (is_running i.store i.cpu) i.waiting.items some c.self.invariant.2 in (
      (λ k. c.self.invariant.0.0 k ∙ sym (ap (λ (f : ℕ → Bool). f k) same.1), c.self.invariant.0.1 ∙ sym same.0),
      subst (λ (es : List Stored). AreWritable (shape_of c.value_store.new.self) (held_spans c.value_store.new.self i.cpu) es)
          (sym c.remove-stored.ensures.items)
          (subst (λ (h : Shape). AreWritable h (held_spans c.value_store.new.self i.cpu) (remove i.waiting.items 0)) (sym same.0)
          (subst (λ (f : Span → Bool). AreWritable (shape_of i.store) f (remove i.waiting.items 0)) (sym held) later)),
      λ off. (let no : true ≡ false = sym (ap (λ (f : ℕ → Bool). f i.cpu) same.2 ∙ runs) ∙ off in cc),
    )

pub returns-clause-flushed : goal.returns-clause-flushed
returns-clause-flushed c = λ yes.
    let i = c.self.inside in
    let some : 0 < length i.waiting.items = omega arith in
    let e = c.remove-stored.result in
    let served : has_cpu i.store i.cpu ≡ true = ap (λ (w : WaitingContents). has_cpu w.store w.cpu) c.self.view_is ∙ c.requires in
    let y : WaitingContents = record { store = c.value_store.new.self; waiting = c.remove-stored.new.self.items; cpu = i.cpu; lost = i.lost } in
    subst (λ (w : WaitingContents). FlushesAlone w y) c.self.view_is (
      e,
      oldest_first i.waiting.items e some c.remove-stored.ensures.value ∙ ap (λ (es : List Stored). e ∷ es) (sym c.remove-stored.ensures.items),
      λ s so shows.
          (let t = call_leads i.store c.value_store.new.self i.cpu (event_of e) served c.value_store.ensures.stored c.value_store.ensures.same.1 s so shows in
          (t.0, t.2, t.3, t.1)),
    )

pub returns-clause-cpu : goal.returns-clause-cpu
returns-clause-cpu c = (ap (λ (w : WaitingContents). w.cpu) c.self.view_is, ap (λ (w : WaitingContents). w.lost) c.self.view_is)

pub returns-clause-shape : goal.returns-clause-shape
returns-clause-shape c = c.value_store.ensures.same.0 ∙ ap (λ (w : WaitingContents). shape_of w.store) c.self.view_is

pub returns-clause-held : goal.returns-clause-held
returns-clause-held c = c.value_store.ensures.held ∙ ap (λ (w : WaitingContents). held_spans w.store) c.self.view_is

pub returns-clause-running : goal.returns-clause-running
returns-clause-running c = c.value_store.ensures.same.2 ∙ ap (λ (w : WaitingContents). is_running w.store) c.self.view_is

pub returns-clause-serves : goal.returns-clause-serves
returns-clause-serves c = c.value_store.ensures.same.1 ∙ ap (λ (w : WaitingContents). has_cpu w.store) c.self.view_is
