use Rattle.std.proofs.Common.{refl, sym, ◌∙◌}
use Rattle.std.proofs.lemmas.Bool.{false≢true}
use Rattle.bpf_cpu.specs.declared.outcome.Fault.TheVariants.{BadAddress, Misaligned, ReadOnly}
use Rattle.bpf_cpu.proofs.ValueLaws.{holder_there, holder_closed}
use Rattle.bpf_cpu.proofs.cpu.Cpu.place_to_write.Goals as goal

pub returns-in_default-clause-refused : goal.returns-in_default-clause-refused
returns-in_default-clause-refused g c = (BadAddress, c.in_default.ensures.none, λ cpu. refl)

pub returns-then-not-is_multiple-clause-refused : goal.returns-then-not-is_multiple-clause-refused
returns-then-not-is_multiple-clause-refused g c =
    let there = holder_there (g.S.Shared.shapes c.args.shared.now) c.args.self.now c.args.address c.args.size c.in-Some.holder c.in-Some.ensures.found in
    (Misaligned, (there, λ e. false≢true (c.if-not-is_multiple.ensures.1 e)), λ cpu. refl)

pub returns-then-is_read_only-clause-refused : goal.returns-then-is_read_only-clause-refused
returns-then-is_read_only-clause-refused g c = (
  ReadOnly,
  (
    holder_closed (g.S.Shared.shapes c.args.shared.now) c.args.self.now c.args.address c.args.size c.in-Some.holder
        c.in-Some.ensures.found (sym c.is_read_only.ensures ∙ c.if-is_read_only.true),
    c.if-not-is_multiple.ensures.0 refl,
  ),
  λ cpu. refl,
)
