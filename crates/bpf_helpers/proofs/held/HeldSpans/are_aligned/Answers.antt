use Rattle.std.proofs.Common.{ℕ, ◌+◌, ◌*◌, ◌/◌, ◌%◌, ◌≡◌, List, subst, arith}
use Rattle.std.specs.Prelude.{All}
use Rattle.std.proofs.lemmas.List.Elements.{All-weaker}
use Rattle.bpf_shared.specs.declared.events.Span.{Span}
use Rattle.bpf_helpers.specs.Private.Grid.{IsAligned, IsOnGrid}
use Rattle.bpf_helpers.proofs.held.HeldSpans.are_aligned.Goals as goal

even : (at m e s : ℕ) → at ≡ 0x10_0000_0000 + 0x1000_0000 * m + e * ((s + 7) / 8 * 8) → at % 8 ≡ 0
even at m e s is =
    let f : e * ((s + 7) / 8 * 8) ≡ e * ((s + 7) / 8) * 8 = grind arith in
    go (e * ((s + 7) / 8)) (e * ((s + 7) / 8 * 8)) f is
  where
    go : (x y : ℕ) → y ≡ x * 8 → at ≡ 0x10_0000_0000 + 0x1000_0000 * m + y → at % 8 ≡ 0
    go x y e f = omega arith

pub returns : goal.returns
returns c =
    let on : All (IsOnGrid c.self.inside.grid.sizes) c.args.self.now = subst
    (λ (spans : List Span). All (IsOnGrid c.self.inside.grid.sizes) spans) c.self.view_is c.self.invariant.on_grid in
    All-weaker (IsOnGrid c.self.inside.grid.sizes) IsAligned (λ p h. even p.at h.map h.element p.size h.start.at) c.args.self.now on
