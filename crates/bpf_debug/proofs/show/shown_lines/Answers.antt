use Rattle.std.proofs.Common.{◌≡◌, length, map, arith}
use Rattle.std.specs.Prelude.{string_bytes}
use Rattle.bpf_names.specs.Names.{names_of}
use Rattle.bpf_debug.proofs.ShowLaws.{all_lines}
use Rattle.bpf_debug.proofs.show.shown_lines.Goals as goal

pub returns-clause-lines : goal.returns-clause-lines
returns-clause-lines c s so stands =
    let ns = c.args.registers.now in
    let k = c.loop-register.register in
    let all : k ≡ length ns = omega (arith, c.loop-register-test.false, c.loop-register.auto.register-end) in
    all_lines (names_of c.args.names.now) s c.args.held.now k ns (map string_bytes c.loop-register.lines.items) all
    (c.loop-register.invariant.lines s so stands)
