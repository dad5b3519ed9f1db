use Rattle.std.proofs.Common.{refl}
use Rattle.std.proofs.lemmas.Bool.{false≢true}
use Rattle.bpf_cpu.specs.declared.outcome.Fault.TheVariants.{BadAddress, Misaligned}
use Rattle.bpf_cpu.proofs.ValueLaws.{holder_there}
use Rattle.bpf_cpu.proofs.cpu.Cpu.place_to_read.Goals as goal

pub returns-in_default-clause-refused : goal.returns-in_default-clause-refused
returns-in_default-clause-refused g c = (BadAddress, c.in_default.ensures.none, λ cpu. refl)

pub returns-then-not-is_multiple-clause-refused : goal.returns-then-not-is_multiple-clause-refused
returns-then-not-is_multiple-clause-refused g c =
    let there = holder_there (g.S.Shared.shapes c.args.shared.now) c.args.self.now c.args.address c.args.size c.in-Some._holder c.in-Some.ensures.found in
    (Misaligned, (there, λ e. false≢true (c.if-not-is_multiple.ensures.1 e)), λ cpu. refl)
