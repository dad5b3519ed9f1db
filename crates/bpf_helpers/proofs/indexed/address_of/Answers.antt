use Rattle.std.proofs.Common.{◌≡◌, ◌<◌, ◌≤◌, ℕ, sym, subst}
use Rattle.bpf_helpers.specs.Arrays.{array_start}
use Rattle.bpf_helpers.proofs.ArrayPlaces.{fixed_low}
use Rattle.bpf_helpers.proofs.indexed.address_of.Goals as goal

pub returns-clause-low : goal.returns-clause-low
returns-clause-low g c =
    let h = g.S.Shared.shapes c.args.shared.now in
    subst (λ (x : ℕ). x < array_start 16) (sym c.address.ensures)
    (fixed_low h.cpus c.args.number c.copy_for.result c.args.index c.args.array
    (few c.cpus-few.result h.cpus c.cpus-few.ensures.cpus c.cpus-few.ensures.in_range.1) c.requires.sized c.requires.few
    c.copy_for.ensures.there c.requires.index)
  where
    few : (x y : ℕ) → x ≡ y → x ≤ 16 → y ≤ 16
    few x y e l = subst (λ (n : ℕ). n ≤ 16) e l
