use Rattle.std.proofs.Common.{◌≡◌, ◌∙◌, ◌==◌, ◌&&◌, ℕ, Bool, true, false, List, [], refl, sym, ap, subst, arith}
use Rattle.std.proofs.lemmas.Result.{on_ok_weaker, on_err_weaker}
use Rattle.bpf_shared.specs.declared.events.Event.TheVariants.{Begin}
use Rattle.bpf_shared.specs.Store.{put}
use Rattle.bpf_shared.specs.Passage.{Calls, held_without}
use Rattle.bpf_plain.specs.PlainStore.{has_cpu, is_running, shape_of, held_spans}
use Rattle.bpf_buffering.specs.declared.waiting.Stored.{Stored}
use Rattle.bpf_buffering.specs.Waiting.{WaitingContents, AreWritable, PassesWaiting, serves_one}
use Rattle.bpf_buffering.proofs.Serving.{its_cpu, has_its}
use Rattle.bpf_buffering.proofs.Adapting.{Made, called, begin_leads, made_of}
use Rattle.bpf_buffering.proofs.waiting.WaitingShared.begin.Goals as goal

pub begin-requires-clause-serves : goal.begin-requires-clause-serves
begin-requires-clause-serves c = ap (λ (w : WaitingContents). has_cpu w.store c.args.cpu) c.self.view_is ∙ has_its c.args.self.now c.args.cpu c.requires.serves

pub begin-requires-clause-idle : goal.begin-requires-clause-idle
begin-requires-clause-idle c = ap (λ (w : WaitingContents). is_running w.store c.args.cpu) c.self.view_is ∙ c.requires.idle

-- nothing waits before it
pub invariant_of-self : goal.invariant_of-self
invariant_of-self c =
    let same = c.begin.ensures.same in
    let cpu : c.args.cpu ≡ c.self.inside.cpu = its_cpu c.args.self.now c.args.cpu c.requires.serves ∙ ap (λ (v : WaitingContents). v.cpu)
    (sym c.self.view_is) in
    let idle : is_running c.self.inside.store c.self.inside.cpu ≡ false = ap (is_running c.self.inside.store) (sym cpu) ∙ ap
    (λ (w : WaitingContents). is_running w.store c.args.cpu) c.self.view_is ∙ c.requires.idle in
    let none : c.self.inside.waiting.items ≡ [] = c.self.invariant.2 idle in (
      (λ k. c.self.invariant.0.0 k ∙ sym (ap (λ (f : ℕ → Bool). f k) same.1), c.self.invariant.0.1 ∙ sym same.0),
      subst (λ (es : List Stored). AreWritable (shape_of c.begin.new.self) (held_spans c.begin.new.self c.self.inside.cpu) es) (sym none)
          (λ k d less. absurd (omega arith)),
      λ off. none,
    )

pub returns-clause-begun : goal.returns-clause-begun
returns-clause-begun c =
    let w : WaitingContents = record {
      store = c.self.inside.store;
      waiting = c.self.inside.waiting.items;
      cpu = c.self.inside.cpu;
      lost =
          c.self.inside.lost;
    } in
    let y : WaitingContents = record { store = c.begin.new.self; waiting = c.self.inside.waiting.items; cpu = c.self.inside.cpu; lost = c.self.inside.lost } in
    let view : w ≡ c.args.self.now = c.self.view_is in
    let cpu : c.args.cpu ≡ w.cpu = its_cpu c.args.self.now c.args.cpu c.requires.serves ∙ ap (λ (v : WaitingContents). v.cpu) (sym view) in
    let served : has_cpu w.store c.args.cpu ≡ true = ap (λ (v : WaitingContents). has_cpu v.store c.args.cpu) view ∙ has_its c.args.self.now
    c.args.cpu c.requires.serves in
    let idle : is_running w.store w.cpu ≡ false = ap (is_running w.store) (sym cpu) ∙ ap
    (λ (v : WaitingContents). is_running v.store c.args.cpu) view ∙ c.requires.idle in
    let none : w.waiting ≡ [] = c.self.invariant.2 idle in
    on_ok_weaker c.begin.result (λ call.
    (let made = made_of w.store y.store c.args.cpu Begin served call c.begin.ensures.same.1 in
    let own = called w y (serves_one w) Begin (record { cpu = refl; serves = c.begin.ensures.same.1 })
    (λ kept. (kept, begin_leads w y none none (subst (λ (k : ℕ). Made w.store k Begin y.store) cpu made))) in
    subst (λ (v : WaitingContents). Calls (PassesWaiting v y) (serves_one v) c.args.cpu Begin) view
    (subst (λ (k : ℕ). Calls (PassesWaiting w y) (serves_one w) k Begin) (sym cpu) own))) c.begin.ensures.begun

pub returns-clause-running : goal.returns-clause-running
returns-clause-running c = on_ok_weaker c.begin.result (λ e. e ∙ ap (λ (v : WaitingContents). put (is_running v.store) c.args.cpu true)
    c.self.view_is) c.begin.ensures.running

pub returns-clause-held : goal.returns-clause-held
returns-clause-held c = on_ok_weaker c.begin.result (λ e. e ∙ ap (λ (v : WaitingContents). held_without (held_spans v.store) c.args.cpu)
    c.self.view_is) c.begin.ensures.held

pub returns-clause-worn : goal.returns-clause-worn
returns-clause-worn c = c.begin.ensures.worn

pub returns-clause-unchanged : goal.returns-clause-unchanged
returns-clause-unchanged c = on_err_weaker c.begin.result (λ no. absurd no) c.begin.ensures.worn

pub returns-clause-same : goal.returns-clause-same
returns-clause-same c =
    let same = c.begin.ensures.same in (
      same.0 ∙ ap (λ (v : WaitingContents). shape_of v.store) c.self.view_is,
      ap (λ (f : ℕ → Bool). λ (k : ℕ). (k == c.self.inside.cpu) && f k) same.1 ∙ ap serves_one c.self.view_is,
    )
