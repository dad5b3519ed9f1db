use Rattle.std.proofs.Common.{inr, refl, slice_index}
use Rattle.bpf_helpers.proofs.IndexCalls.{even_key, source_readable}
use Rattle.bpf_helpers.proofs.indexed.delete_index.Goals as goal

pub returns : goal.returns
returns g c =
    let h = g.S.Shared.shapes c.args.shared.now in
    let at = slice_index c.args.registers.now 2 in
    let readable = source_readable h c.args.memory.now c.args.held.now at 4 c.in-Some.source c.in-Some.ensures.found in
    let even = even_key h c.args.memory.now c.args.held.now at c.in-Some.source c.in-Some.ensures.found
    (λ odd. let yes = c.is_odd.ensures.1 odd in let no = c.if-is_odd.false in absurd cc) in
    inr (readable, even, refl, refl, refl)
