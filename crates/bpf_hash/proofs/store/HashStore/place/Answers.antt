use Rattle.std.proofs.Common.{◌≡◌, ℕ, ◌-◌, ◌/◌, ◌%◌, ◌≤◌, List, length, get_or, subst, ap, ◌∙◌, arith}
use Rattle.bpf_shared.specs.Shape.{element_stride}
use Rattle.bpf_hash.specs.Private.Rows.{Rows, no_rows}
use Rattle.bpf_hash.specs.Private.Contents.{Contents, rows, IsStore}
use Rattle.bpf_hash.proofs.Listing.{found_place, found_map}
use Rattle.bpf_hash.proofs.store.HashStore.place.Goals as goal
use Rattle.bpf_hash.proofs.store.HashStore.place.Goals.{else-element-elements-via-then-element-elements+else-offset-shape}
use Rattle.bpf_hash.proofs.store.HashStore.place.Goals.{else-element-elements-via-else-element-elements}

pub returns-in_err-table-clause-none : goal.returns-in_err-table-clause-none
returns-in_err-table-clause-none c =
    let p = c.args.self.now in
    let a = c.args.address in
    let is : IsStore p = subst IsStore c.self.view_is c.self.invariant in
    let tables : c.deref.result.now ≡ p.tables = c.deref.ensures.value ∙ ap (λ (q : Contents). q.tables) c.self.view_is in
    let above : c.in_ok-above.above ≡ a - 0x10_0000_0000 = c.in_ok-above.ensures.1 in
    let past : length p.tables ≤ c.in_ok-above.above / 0x1000_0000 = subst
    (λ (ts : List Rows). length ts ≤ c.in_ok-above.above / 0x1000_0000) tables c.in_err-table.ensures.lookup.3 in
    let map = ap (λ (n : ℕ). n / 0x1000_0000) above in
    rw c.from_residual-in_err-table.ensures (λ v. (let inside = found_map p is a v in omega (arith, past, map, inside)))

pub returns-else-element-elements-clause-none : goal.returns-else-element-elements-clause-none
returns-else-element-elements-clause-none c v =
    let p = c.args.self.now in
    let a = c.args.address in
    let t = c.in_ok-table.table.now in
    let is : IsStore p = subst IsStore c.self.view_is c.self.invariant in
    let tables : c.deref.result.now ≡ p.tables = c.deref.ensures.value ∙ ap (λ (q : Contents). q.tables) c.self.view_is in
    let above : c.in_ok-above.above ≡ a - 0x10_0000_0000 = c.in_ok-above.ensures.1 in
    let row : t ≡ rows p ((a - 0x10_0000_0000) / 0x1000_0000) = c.in_ok-table.ensures.lookup.3.1 no_rows ∙
    (ap (λ (ts : List Rows). get_or ts (c.in_ok-above.above / 0x1000_0000) no_rows) tables ∙ ap
    (λ (x : ℕ). rows p (x / 0x1000_0000)) above) in
    let f = found_place p is a v t row in
    let element = ap (λ (x : ℕ). x % 0x1000_0000 / element_stride t.shape) above in
    let offset = ap (λ (x : ℕ). x % 0x1000_0000 % element_stride t.shape) above in
    let quotient = ap (λ (w : ℕ). c.in_ok-above.above % 0x1000_0000 / w) c.stride-stride.ensures.stride in
    let rest = ap (λ (w : ℕ). c.in_ok-above.above % 0x1000_0000 % w) c.stride-stride.ensures.stride in
    elim c.else-element-elements.branch [
      | else-element-elements-via-then-element-elements+else-offset-shape w ↦
          let shape = ap (λ (h : _). h.value) w.shape.ensures.shape in
          let no = w.if-offset-shape.false in
          omega (arith, f.1, offset, rest, shape, no)
      | else-element-elements-via-else-element-elements w ↦
          let no = w.if-element-elements.false in
          let most = c.elements.ensures in
          omega (arith, f.0, element, quotient, most, no)
    ]
