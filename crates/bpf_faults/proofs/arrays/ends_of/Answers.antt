use Rattle.std.proofs.Common.{◌≡◌, ◌<◌, ◌-◌, ◌∙◌, ℕ, ap, arith}
use Rattle.bpf_shared.specs.Shape.{copies}
use Rattle.bpf_helpers.specs.Arrays.{array_start}
use Rattle.bpf_faults.proofs.ArrayPlaces.{copies_some, last_low}
use Rattle.bpf_faults.proofs.arrays.ends_of.Goals as goal

pub overflow_add-result : goal.overflow_add-result
overflow_add-result c =
    let h = c.args.shape.now in
    let g = c.in_ok-array.array in
    let n = c.copies-copies.result in
    let few = c.in_ok-array.ensures.few in
    let most = c.in_ok-array.ensures.max in
    let value = c.in_ok-array.ensures.value in
    let many : n ≡ copies h.cpus g = c.copies-copies.ensures ∙ ap (λ (x : ℕ). copies x g) c.cpus.ensures.cpus in
    let some = copies_some n h.cpus g many c.cpus.ensures.in_range.cpus.0 in
    let low : c.address-last.result < array_start 16 = last_low h.cpus c.args.number (n - 1) (g.max - 1) n c.address-last.result g few.1
    c.in_ok-array.ensures.sized few.0 many (omega arith) (omega arith) c.address-last.ensures in
    omega arith
