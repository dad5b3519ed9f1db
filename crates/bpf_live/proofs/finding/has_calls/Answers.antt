use Rattle.std.proofs.Common.{ℕ, ℤ, arith}
use Rattle.bpf_insn.specs.declared.instruction.Insn.TheVariants.{CallLocal}
use Rattle.bpf_loader.specs.Places.{Begins}
use Rattle.std.proofs.lemmas.Option.{slice_get_within}
use Rattle.bpf_live.proofs.Needed.{one_further}
use Rattle.bpf_live.proofs.finding.has_calls.Goals as goal

pub loop-pc-preserved : goal.loop-pc-preserved
loop-pc-preserved c =
    let P : ℕ → Type 0 = λ pc. (offset : ℤ) → Begins c.args.program.now.instructions pc (CallLocal offset) → ⊥ in
    one_further P c.loop-pc.pc c.loop-pc.invariant (c.calls_at.ensures c.if-calls_at.false)

pub returns : goal.returns
returns c = λ e (pc, offset, begins).
    let there = c.ops-words.ensures pc (CallLocal offset, begins) in
    let low = slice_get_within c.ops-words.result.now pc there.0 there.1 in
    c.loop-pc.invariant pc (omega (arith, low, c.loop-pc-test.false)) offset begins
