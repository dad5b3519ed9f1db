use Rattle.std.proofs.Common.{◌≡◌, ◌∙◌, ◌==◌, ◌&&◌, ℕ, Bool, true, List, refl, sym, ap, subst, arith}
use Rattle.std.specs.Prelude.{slice_index_or}
use Rattle.bpf_shared.specs.Access.{bytes_in}
use Rattle.bpf_shared.specs.Shape.{Shape}
use Rattle.bpf_shared.specs.declared.events.Span.{Span}
use Rattle.bpf_shared.specs.declared.events.Event.{Event}
use Rattle.bpf_shared.specs.declared.events.Event.TheVariants.{Update}
use Rattle.bpf_shared.specs.Passage.{Calls, IsWritable}
use Rattle.bpf_plain.specs.PlainStore.{Contents, has_cpu, is_running, shape_of, held_spans}
use Rattle.bpf_buffering.specs.declared.waiting.Stored.{Stored}
use Rattle.bpf_buffering.specs.Waiting.{WaitingContents, AreWritable, PassesWaiting, serves_one}
use Rattle.bpf_buffering.proofs.Making.{Makes}
use Rattle.bpf_buffering.proofs.Serving.{its_cpu, has_its, is_more, is_no_more}
use Rattle.bpf_buffering.proofs.Adapting.{Made, called, update_leads, update_refused, made_of}
use Rattle.bpf_buffering.proofs.waiting.WaitingShared.update.Goals as goal

-- ---- refused for its flags: whatever waits stays
pub update-requires-clause-serves : goal.update-requires-clause-serves
update-requires-clause-serves c = ap (λ (w : WaitingContents). has_cpu w.store c.args.cpu) c.self.view_is ∙ has_its c.args.self.now c.args.cpu c.requires.serves

pub update-requires-clause-in_run : goal.update-requires-clause-in_run
update-requires-clause-in_run c = ap (λ (w : WaitingContents). is_running w.store c.args.cpu) c.self.view_is ∙ c.requires.in_run

pub invariant_of-self : goal.invariant_of-self
invariant_of-self c =
    let same = c.update.ensures.same in (
      (λ k. c.self.invariant.0.0 k ∙ sym (ap (λ (f : ℕ → Bool). f k) same.1), c.self.invariant.0.1 ∙ sym same.0),
      λ k d less.
          (let was = c.self.invariant.1 k d less in
          let e = slice_index_or c.self.inside.waiting.items k d in
          subst (λ (h : Shape). IsWritable h (held_spans c.update.new.self c.self.inside.cpu) e.at (bytes_in e.size)) (sym same.0)
          (subst (λ (f : ℕ → Span → Bool). IsWritable (shape_of c.self.inside.store) (f c.self.inside.cpu) e.at (bytes_in e.size))
          (sym c.update.ensures.held) was)),
      λ off. c.self.invariant.2 (sym (ap (λ (f : ℕ → Bool). f c.self.inside.cpu) same.2) ∙ off),
    )

pub returns-then-flags-gt2-clause-answered : goal.returns-then-flags-gt2-clause-answered
returns-then-flags-gt2-clause-answered c =
    let w : WaitingContents = record {
      store = c.self.inside.store;
      waiting = c.self.inside.waiting.items;
      cpu = c.self.inside.cpu;
      lost =
          c.self.inside.lost;
    } in
    let y : WaitingContents = record { store = c.update.new.self; waiting = c.self.inside.waiting.items; cpu = c.self.inside.cpu; lost = c.self.inside.lost } in
    let e : Event = Update c.args.map c.args.key.now c.args.value.now c.args.flags c.update.result in
    let view : w ≡ c.args.self.now = c.self.view_is in
    let cpu : c.args.cpu ≡ w.cpu = its_cpu c.args.self.now c.args.cpu c.requires.serves ∙ ap (λ (v : WaitingContents). v.cpu) (sym view) in
    let served : has_cpu w.store c.args.cpu ≡ true = ap (λ (v : WaitingContents). has_cpu v.store c.args.cpu) view ∙ has_its c.args.self.now
    c.args.cpu c.requires.serves in
    let made = made_of w.store y.store c.args.cpu e served c.update.ensures.answered c.update.ensures.same.1 in
    let own = called w y (serves_one w) e (record { cpu = refl; serves = c.update.ensures.same.1 }) (λ kept. (
      kept,
      update_refused w y c.args.map c.args.key.now c.args.value.now c.args.flags c.update.result
          (is_more c.args.flags c.if-flags-gt2.true) refl (subst (λ (k : ℕ). Made w.store k e y.store) cpu made),
    )) in
    subst (λ (v : WaitingContents). Calls (PassesWaiting v y) (serves_one v) c.args.cpu e) view
    (subst (λ (k : ℕ). Calls (PassesWaiting w y) (serves_one w) k e) (sym cpu) own)

pub returns-then-flags-gt2-clause-same : goal.returns-then-flags-gt2-clause-same
returns-then-flags-gt2-clause-same c =
    let same = c.update.ensures.same in (
      same.0 ∙ ap (λ (v : WaitingContents). shape_of v.store) c.self.view_is,
      ap (λ (f : ℕ → Bool). λ (k : ℕ). (k == c.self.inside.cpu) && f k) same.1 ∙ ap serves_one c.self.view_is,
      same.2 ∙ ap (λ (v : WaitingContents). is_running v.store) c.self.view_is,
    )

-- ---- after a drain
pub update-requires-2-clause-serves : goal.update-requires-2-clause-serves
update-requires-2-clause-serves c =
    ap (λ (f : ℕ → Bool). f c.args.cpu) c.make_stores.ensures.serves ∙ ap (λ (w : WaitingContents). has_cpu w.store c.args.cpu)
    c.self.view_is ∙ has_its c.args.self.now c.args.cpu c.requires.serves

pub update-requires-2-clause-in_run : goal.update-requires-2-clause-in_run
update-requires-2-clause-in_run c =
    ap (λ (f : ℕ → Bool). f c.args.cpu) c.make_stores.ensures.running ∙ ap (λ (w : WaitingContents). is_running w.store c.args.cpu)
    c.self.view_is ∙ c.requires.in_run

pub invariant_of-self-2 : goal.invariant_of-self-2
invariant_of-self-2 c =
    let m = c.make_stores.ensures in
    let same = c.update-2.ensures.same in (
      (λ k. c.self.invariant.0.0 k ∙ sym (ap (λ (f : ℕ → Bool). f k) (same.1 ∙ m.serves)), c.self.invariant.0.1 ∙ sym (same.0 ∙ m.shape)),
      subst (λ (es : List Stored). AreWritable (shape_of c.update-2.new.self) (held_spans c.update-2.new.self c.self.inside.cpu) es)
          (sym c.clear.ensures.items) (λ k d less. absurd (omega arith)),
      λ off. c.clear.ensures.items,
    )

pub returns-clause-answered : goal.returns-clause-answered
returns-clause-answered c =
    let w : WaitingContents = record {
      store = c.self.inside.store;
      waiting = c.self.inside.waiting.items;
      cpu = c.self.inside.cpu;
      lost =
          c.self.inside.lost;
    } in
    let y : WaitingContents = record { store = c.update-2.new.self; waiting = c.clear.new.self.items; cpu = c.self.inside.cpu; lost = c.self.inside.lost } in
    let mid : Contents = c.make_stores.new.store in
    let e : Event = Update c.args.map c.args.key.now c.args.value.now c.args.flags c.update-2.result in
    let view : w ≡ c.args.self.now = c.self.view_is in
    let cpu : c.args.cpu ≡ w.cpu = its_cpu c.args.self.now c.args.cpu c.requires.serves ∙ ap (λ (v : WaitingContents). v.cpu) (sym view) in
    let makes : Makes w.cpu w.store w.waiting mid = subst (λ (es : List Stored). Makes w.cpu w.store es mid) c.deref.ensures.value c.make_stores.ensures.made in
    let served : has_cpu mid c.args.cpu ≡ true =
    ap (λ (f : ℕ → Bool). f c.args.cpu) c.make_stores.ensures.serves ∙ ap (λ (v : WaitingContents). has_cpu v.store c.args.cpu) view ∙
    has_its c.args.self.now c.args.cpu c.requires.serves in
    let made = made_of mid y.store c.args.cpu e served c.update-2.ensures.answered c.update-2.ensures.same.1 in
    let own = called w y (serves_one w) e (record { cpu = refl; serves = c.update-2.ensures.same.1 ∙ c.make_stores.ensures.serves }) (λ kept. (
      kept,
      update_leads w y mid c.args.map c.args.key.now c.args.value.now c.args.flags c.update-2.result
          (is_no_more c.args.flags c.if-flags-gt2.false) c.clear.ensures.items makes (subst (λ (k : ℕ). Made mid k e y.store) cpu made),
    )) in
    subst (λ (v : WaitingContents). Calls (PassesWaiting v y) (serves_one v) c.args.cpu e) view
    (subst (λ (k : ℕ). Calls (PassesWaiting w y) (serves_one w) k e) (sym cpu) own)

pub returns-clause-same : goal.returns-clause-same
returns-clause-same c =
    let m = c.make_stores.ensures in
    let same = c.update-2.ensures.same in (
      same.0 ∙ m.shape ∙ ap (λ (v : WaitingContents). shape_of v.store) c.self.view_is,
      ap (λ (f : ℕ → Bool). λ (k : ℕ). (k == c.self.inside.cpu) && f k) (same.1 ∙ m.serves) ∙ ap serves_one c.self.view_is,
      same.2 ∙ m.running ∙ ap (λ (v : WaitingContents). is_running v.store) c.self.view_is,
    )
