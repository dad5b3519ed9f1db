use Rattle.std.proofs.Common.{◌≡◌, ℕ, ◌≤◌, ◌/◌, ◌%◌, refl, arith}
use Rattle.bpf_helpers.specs.Arrays.{area_of, array_start, offset_of}
use Rattle.bpf_helpers.proofs.ArrayPlaces.{array_byte, in_array}
use Rattle.bpf_helpers.proofs.arrays.array_with.Goals as goal

pub returns-then-has-clause-found : goal.returns-then-has-clause-found
returns-then-has-clause-found g c =
    let past = c.in_ok-above.ensures in
    let above : array_start 0 ≤ c.args.at = omega arith in
    let area : c.in_ok-above.above / 0x1000_0000 ≡ area_of c.args.at = omega arith in
    let offset : c.in_ok-above.above % 0x1000_0000 ≡ offset_of c.args.at = omega arith in
    in_array (g.S.Shared.shapes c.args.shared.now) c.args.at c.args.count c.cpus.result (c.in_ok-above.above / 0x1000_0000)
    (c.in_ok-above.above % 0x1000_0000) c.in_ok-array.array c.cpus.ensures.cpus above area offset c.in_ok-array.ensures.array
    (c.if-has.ensures.0 refl)

pub returns-then-has-clause-each : goal.returns-then-has-clause-each
returns-then-has-clause-each g c =
    let past = c.in_ok-above.ensures in
    let above : array_start 0 ≤ c.args.at = omega arith in
    let area : c.in_ok-above.above / 0x1000_0000 ≡ area_of c.args.at = omega arith in
    let offset : c.in_ok-above.above % 0x1000_0000 ≡ offset_of c.args.at = omega arith in
    let h = g.S.Shared.shapes c.args.shared.now in
    let there = in_array h c.args.at c.args.count c.cpus.result (c.in_ok-above.above / 0x1000_0000) (c.in_ok-above.above % 0x1000_0000)
    c.in_ok-array.array c.cpus.ensures.cpus above area offset c.in_ok-array.ensures.array (c.if-has.ensures.0 refl) in
    array_byte h c.args.at c.args.count c.in_ok-array.array (few c.cpus.result h.cpus c.cpus.ensures.cpus c.cpus.ensures.in_range.1)
    c.in_ok-array.ensures.in_range.1 there.0 there.1
  where
    few : (x y : ℕ) → x ≡ y → x ≤ 16 → y ≤ 16
    few x y e l = omega arith
