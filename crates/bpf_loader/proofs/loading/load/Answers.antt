use Rattle.std.proofs.Common.{◌≡◌, length, sym, arith}
use Rattle.std.proofs.lemmas.Bool.{eqb-true}
use Rattle.std.proofs.lemmas.List.{nil_from_length}
use Rattle.bpf_loader.specs.declared.refusal.LoadError.TheVariants.{Empty, TooLong}
use Rattle.bpf_loader.proofs.loading.load.Goals as goal

pub returns-then-is_empty-clause-accepted : goal.returns-then-is_empty-clause-accepted
returns-then-is_empty-clause-accepted c = λ sound.
    let none = eqb-true _ 0 (sym c.if-is_empty.ensures) in
    let e : length c.args.insns.items ≡ 0 = omega (arith, none, c.args.insns.ok.0) in
    absurd (sound Empty (nil_from_length c.args.insns.items e))

pub returns-in_default-clause-accepted : goal.returns-in_default-clause-accepted
returns-in_default-clause-accepted c = λ sound. absurd (sound TooLong (rw (← c.deref.ensures.value) c.in_default.ensures.long))
