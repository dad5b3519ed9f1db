use Rattle.std.proofs.Common.{◌+◌, ◌-◌, ◌*◌, Some, ap, sym, ◌∙◌, arith}
use Rattle.bpf_shared.specs.declared.events.Span.{Span}
use Rattle.bpf_helpers.specs.Private.Grid.{stride_of}
use Rattle.bpf_helpers.proofs.OnGrid.{within, element_is}
use Rattle.bpf_helpers.proofs.grid.Grid.element_at.Goals as goal

pub returns-in_err-map : goal.returns-in_err-map
returns-in_err-map c = λ p on inside.
    absurd (c.in_err-map.ensures.none on.map (on.element * stride_of p.size + (c.args.address - p.at))
    (within c.args.self.now.sizes p c.args.address on inside))

pub returns : goal.returns
returns c = λ p on inside.
    ap (λ (q : Span). Some q) (element_is c.args.self.now.sizes p c.args.address c.in_ok-map.map c.in_ok-map.offset c.from-2.result
    c.stride_of.result c.from.result
    on inside c.in_ok-map.ensures.some c.from-2.ensures (c.stride_of.ensures.stride ∙ ap stride_of (sym c.from-2.ensures))
    (omega (arith, c.in_ok-past.ensures)))
