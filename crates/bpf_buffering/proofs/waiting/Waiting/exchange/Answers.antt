use Rattle.std.proofs.Common.{◌≡◌, ◌∙◌, List, sym, ap, subst}
use Rattle.std.specs.Prelude.{Vec}
use Rattle.std.specs.declared.alloc.Global.{Global}
use Rattle.bpf_plain.specs.PlainStore.{shape_of, held_spans}
use Rattle.bpf_buffering.specs.declared.waiting.Stored.{Stored}
use Rattle.bpf_buffering.specs.Waiting.{WaitingContents, AreWritable, CanWait}
use Rattle.bpf_buffering.proofs.waiting.Waiting.exchange.Goals as goal

pub invariant_of-self : goal.invariant_of-self
invariant_of-self c =
    let s = c.self.inside.store in
    let items : c.swap.new.x.items ≡ c.args.waiting.now.items = ap (λ (v : Vec Stored Global). v.items) c.swap.ensures.x_after in
    let can : CanWait s c.args.cpu c.args.waiting.now.items = subst
    (λ (w : WaitingContents). CanWait w.store c.args.cpu c.args.waiting.now.items) (sym c.self.view_is) c.requires in (
      c.self.invariant.0,
      subst (λ (es : List Stored). AreWritable (shape_of s) (held_spans s c.args.cpu) es) (sym items) can.writable,
      λ off. items ∙ can.idle off,
    )

pub returns-clause-serves : goal.returns-clause-serves
returns-clause-serves c =
    let i = c.self.inside in
    let items : c.swap.new.x.items ≡ c.args.waiting.now.items = ap (λ (v : Vec Stored Global). v.items) c.swap.ensures.x_after in
    ap (λ (es : List Stored). record { store = i.store; waiting = es; cpu = c.args.cpu; lost = i.lost }) items ∙ ap
    (λ (w : WaitingContents). record w { waiting = c.args.waiting.now.items; cpu = c.args.cpu }) c.self.view_is

pub returns-clause-before : goal.returns-clause-before
returns-clause-before c = ap (λ (v : Vec Stored Global). v.items) c.swap.ensures.y_after ∙ ap (λ (w : WaitingContents). w.waiting) c.self.view_is

pub returns-clause-can_wait : goal.returns-clause-can_wait
returns-clause-can_wait c =
    let i = c.self.inside in
    let items : c.swap.new.y.items ≡ i.waiting.items = ap (λ (v : Vec Stored Global). v.items) c.swap.ensures.y_after in
    subst (λ (w : WaitingContents). CanWait w.store w.cpu c.swap.new.y.items) c.self.view_is
    (subst (λ (es : List Stored). CanWait i.store i.cpu es) (sym items) (record { writable = c.self.invariant.1; idle = c.self.invariant.2 }))
