use Rattle.std.proofs.Common.{◌≡◌, ℕ, false, ap, subst}
use Rattle.bpf_shared.specs.declared.shapes.ArrayShape.{ArrayShape}
use Rattle.bpf_helpers.specs.Arrays.{IsInArray}
use Rattle.bpf_helpers.specs.Held.{is_covered}
use Rattle.bpf_cpu.proofs.cpu.Cpu.find_value.Goals as goal

pub returns-in-Some-clause-found : goal.returns-in-Some-clause-found
returns-in-Some-clause-found g c =
    let size = c.length-count.ensures.value in
    let there = c.in-Some.ensures.found in
    let out : is_covered c.args.self.now.held c.args.address c.length-count.result ≡ false =
    c.are_low.ensures c.args.address c.length-count.result there.0.after c.length-count.ensures.some in (
      subst (λ (n : ℕ). is_covered c.args.self.now.held c.args.address n ≡ false) size out,
      subst (λ (n : ℕ). (p : IsInArray (g.S.Shared.shapes c.args.shared.now) c.args.address n) × (p.array.frozen ≡ c.in-Some.array.frozen))
          size (there.0, ap (λ (x : ArrayShape). x.frozen) there.1),
    )
