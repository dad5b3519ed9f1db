use Rattle.std.proofs.Common.{◌≡◌, ◌∙◌, ℕ, Bool, true, false, List, [], ◌∷◌, ◌++◌, if◌then◌else◌, refl, sym, ap, subst}
use Rattle.std.proofs.lemmas.List.Elements.{All-push}
use Rattle.bpf_shared.specs.Access.{bytes_in}
use Rattle.bpf_shared.specs.Shape.{Shape}
use Rattle.bpf_shared.specs.declared.events.Span.{Span}
use Rattle.bpf_shared.specs.declared.events.Event.{Event}
use Rattle.bpf_shared.specs.declared.events.Event.TheVariants.{Store}
use Rattle.bpf_shared.specs.Passage.{Calls, IsWritable}
use Rattle.bpf_plain.specs.PlainStore.{Contents, has_cpu, is_running, shape_of, held_spans}
use Rattle.bpf_buffering.specs.declared.waiting.Stored.{Stored}
use Rattle.bpf_buffering.specs.Waiting.{WaitingContents, AreWritable, PassesWaiting, serves_one}
use Rattle.bpf_buffering.proofs.Making.{Makes}
use Rattle.bpf_buffering.proofs.Serving.{its_cpu, has_its}
use Rattle.bpf_buffering.proofs.Adapting.{Made, called, store_leads, made_of}
use Rattle.bpf_buffering.proofs.waiting.WaitingShared.value_store.Goals as goal

pub make_stores-requires-clause-places : goal.make_stores-requires-clause-places
make_stores-requires-clause-places c =
    subst (λ (p : Contents). AreWritable (shape_of p) (held_spans p c.self.inside.cpu) c.deref.result.now) (sym c.copy_from.ensures)
    (subst (λ (es : List Stored). AreWritable (shape_of c.self.inside.store) (held_spans c.self.inside.store c.self.inside.cpu) es)
    (sym c.deref.ensures.value) c.self.invariant.1)

pub value_store-requires-clause-serves : goal.value_store-requires-clause-serves
value_store-requires-clause-serves c =
    let has : has_cpu c.args.self.now.store c.args.cpu ≡ true = has_its c.args.self.now c.args.cpu c.requires.serves in
    ap (λ (f : ℕ → Bool). f c.args.cpu) c.make_stores.ensures.serves ∙ ap (λ (p : Contents). has_cpu p c.args.cpu) c.copy_from.ensures
    ∙ ap (λ (w : WaitingContents). has_cpu w.store c.args.cpu) c.self.view_is ∙ has

pub value_store-requires-clause-in_run : goal.value_store-requires-clause-in_run
value_store-requires-clause-in_run c =
    ap (λ (f : ℕ → Bool). f c.args.cpu) c.make_stores.ensures.running ∙ ap (λ (p : Contents). is_running p c.args.cpu) c.copy_from.ensures
    ∙ ap (λ (w : WaitingContents). is_running w.store c.args.cpu) c.self.view_is ∙ c.requires.in_run

pub value_store-requires-clause-place : goal.value_store-requires-clause-place
value_store-requires-clause-place c =
    let m = c.make_stores.ensures in
    let here = subst (λ (w : WaitingContents). IsWritable (shape_of w.store) (held_spans w.store c.args.cpu) c.args.at.at
    (bytes_in c.args.size)) (sym c.self.view_is) c.requires.place in
    let copied = subst (λ (p : Contents). IsWritable (shape_of p) (held_spans p c.args.cpu) c.args.at.at (bytes_in c.args.size))
    (sym c.copy_from.ensures) here in
    subst (λ (h : Shape). IsWritable h (held_spans c.make_stores.new.store c.args.cpu) c.args.at.at (bytes_in c.args.size)) (sym m.shape)
    (subst (λ (f : ℕ → Span → Bool). IsWritable (shape_of c.copy_from.new.self) (f c.args.cpu) c.args.at.at (bytes_in c.args.size)) (sym m.held) copied)

-- what is tried in the copy leaves its shape
pub invariant_of-self : goal.invariant_of-self
invariant_of-self c =
    let m = c.make_stores.ensures in
    let same = c.value_store.ensures.same in
    let kept : c.push.new.self.items ≡ c.self.inside.waiting.items = c.push.ensures.items ∙ ap
    (λ (b : Bool). if b then c.self.inside.waiting.items ++ record { at = c.args.at.at; size = c.args.size; word = c.args.word } ∷
    [] else c.self.inside.waiting.items) c.if-is_err.ensures.negation in (
      (
        λ k. ap (λ (f : ℕ → Bool). f k) (same.1 ∙ m.serves) ∙ ap (λ (p : Contents). has_cpu p k) c.copy_from.ensures,
        same.0 ∙ m.shape ∙ ap
            shape_of c.copy_from.ensures,
      ),
      subst (λ (es : List Stored). AreWritable (shape_of c.self.inside.store) (held_spans c.self.inside.store c.self.inside.cpu) es)
          (sym kept) c.self.invariant.1,
      λ off. kept ∙ c.self.invariant.2 off,
    )

pub invariant_of-self-else-is_err : goal.invariant_of-self-else-is_err
invariant_of-self-else-is_err c =
    let m = c.make_stores.ensures in
    let same = c.value_store.ensures.same in
    let e : Stored = record { at = c.args.at.at; size = c.args.size; word = c.args.word } in
    let more : c.push.new.self.items ≡ c.self.inside.waiting.items ++ e ∷ [] = c.push.ensures.items ∙ ap
    (λ (b : Bool). if b then c.self.inside.waiting.items ++ e ∷ [] else c.self.inside.waiting.items) c.if-is_err.ensures.negation in
    let cpu : c.args.cpu ≡ c.self.inside.cpu = its_cpu c.args.self.now c.args.cpu c.requires.serves ∙ ap (λ (v : WaitingContents). v.cpu)
    (sym c.self.view_is) in
    let here = subst (λ (w : WaitingContents). IsWritable (shape_of w.store) (held_spans w.store c.args.cpu) c.args.at.at
    (bytes_in c.args.size)) (sym c.self.view_is) c.requires.place in
    let own = subst (λ (k : ℕ). IsWritable (shape_of c.self.inside.store) (held_spans c.self.inside.store k) c.args.at.at (bytes_in c.args.size)) cpu here in
    let runs : is_running c.self.inside.store c.self.inside.cpu ≡ true = ap (is_running c.self.inside.store) (sym cpu) ∙ ap
    (λ (w : WaitingContents). is_running w.store c.args.cpu) c.self.view_is ∙ c.requires.in_run in (
      (
        λ k. ap (λ (f : ℕ → Bool). f k) (same.1 ∙ m.serves) ∙ ap (λ (p : Contents). has_cpu p k) c.copy_from.ensures,
        same.0 ∙ m.shape ∙ ap
            shape_of c.copy_from.ensures,
      ),
      subst (λ (es : List Stored). AreWritable (shape_of c.self.inside.store) (held_spans c.self.inside.store c.self.inside.cpu) es) (sym more)
          (All-push (λ (x : Stored). IsWritable (shape_of c.self.inside.store) (held_spans c.self.inside.store c.self.inside.cpu) x.at
          (bytes_in x.size)) c.self.inside.waiting.items e c.self.invariant.1 own),
      λ off. let no : true ≡ false = sym runs ∙ off in cc,
    )

pub returns-then-is_err-clause-stored : goal.returns-then-is_err-clause-stored
returns-then-is_err-clause-stored c =
    let w : WaitingContents = record {
      store = c.self.inside.store;
      waiting = c.self.inside.waiting.items;
      cpu = c.self.inside.cpu;
      lost =
          c.self.inside.lost;
    } in
    let y : WaitingContents = record { store = c.self.inside.store; waiting = c.push.new.self.items; cpu = c.self.inside.cpu; lost = true } in
    let e : Event = Store c.args.at.at c.args.size c.args.word in
    let view : w ≡ c.args.self.now = c.self.view_is in
    let cpu : c.args.cpu ≡ w.cpu = its_cpu c.args.self.now c.args.cpu c.requires.serves ∙ ap (λ (v : WaitingContents). v.cpu) (sym view) in
    let own = called w y (serves_one w) e (record { cpu = refl; serves = refl }) (λ kept. let no : true ≡ false = kept in cc) in
    subst (λ (v : WaitingContents). Calls (PassesWaiting v y) (serves_one v) c.args.cpu e) view
    (subst (λ (k : ℕ). Calls (PassesWaiting w y) (serves_one w) k e) (sym cpu) own)

pub returns-else-is_err-clause-stored : goal.returns-else-is_err-clause-stored
returns-else-is_err-clause-stored c =
    let w : WaitingContents = record {
      store = c.self.inside.store;
      waiting = c.self.inside.waiting.items;
      cpu = c.self.inside.cpu;
      lost =
          c.self.inside.lost;
    } in
    let y : WaitingContents = record { store = c.self.inside.store; waiting = c.push.new.self.items; cpu = c.self.inside.cpu; lost = c.self.inside.lost } in
    let mid : Contents = c.make_stores.new.store in
    let after : Contents = c.value_store.new.self in
    let stored : Stored = record { at = c.args.at.at; size = c.args.size; word = c.args.word } in
    let e : Event = Store c.args.at.at c.args.size c.args.word in
    let view : w ≡ c.args.self.now = c.self.view_is in
    let cpu : c.args.cpu ≡ w.cpu = its_cpu c.args.self.now c.args.cpu c.requires.serves ∙ ap (λ (v : WaitingContents). v.cpu) (sym view) in
    let more : y.waiting ≡ w.waiting ++ stored ∷ [] = c.push.ensures.items ∙ ap
    (λ (b : Bool). if b then w.waiting ++ stored ∷ [] else w.waiting) c.if-is_err.ensures.negation in
    let makes : Makes w.cpu w.store w.waiting mid =
    subst (λ (es : List Stored). Makes w.cpu w.store es mid) c.deref.ensures.value
    (subst (λ (p : Contents). Makes w.cpu p c.deref.result.now mid) c.copy_from.ensures c.make_stores.ensures.made) in
    let served : has_cpu mid c.args.cpu ≡ true =
    ap (λ (f : ℕ → Bool). f c.args.cpu) c.make_stores.ensures.serves ∙ ap (λ (p : Contents). has_cpu p c.args.cpu) c.copy_from.ensures ∙ ap
    (λ (v : WaitingContents). has_cpu v.store c.args.cpu) view ∙ has_its c.args.self.now c.args.cpu c.requires.serves in
    let made = made_of mid after c.args.cpu e served c.value_store.ensures.stored c.value_store.ensures.same.1 in
    let own = called w y (serves_one w) e (record { cpu = refl; serves = refl })
    (λ kept. (kept, store_leads w y mid after stored more refl makes (subst (λ (k : ℕ). Made mid k e after) cpu made))) in
    subst (λ (v : WaitingContents). Calls (PassesWaiting v y) (serves_one v) c.args.cpu e) view
    (subst (λ (k : ℕ). Calls (PassesWaiting w y) (serves_one w) k e) (sym cpu) own)
