use Rattle.std.proofs.Common.{ℕ, arith}
use Rattle.std.proofs.lemmas.Option.{slice_get_within}
use Rattle.bpf_insn.specs.declared.instruction.Insn.TheVariants.{CallHelper}
use Rattle.bpf_loader.specs.Places.{Begins}
use Rattle.bpf_live.proofs.Needed.{one_further}
use Rattle.bpf_equal.specs.States.{TellsMarks}
use Rattle.bpf_equal.proofs.finding.asks_marks.Goals as goal

pub loop-pc-preserved : goal.loop-pc-preserved
loop-pc-preserved c =
    let P : ℕ → Type 0 = λ pc. (n : ℕ) → Begins c.args.program.now.instructions pc (CallHelper n) → TellsMarks n → ⊥ in
    one_further P c.loop-pc.pc c.loop-pc.invariant (c.asks_at.ensures c.if-asks_at.false)

pub returns : goal.returns
returns c = λ e pc n begins tells.
    let there = c.ops-words.ensures pc (CallHelper n, begins) in
    let low = slice_get_within c.ops-words.result.now pc there.0 there.1 in
    c.loop-pc.invariant pc (omega (arith, low, c.loop-pc-test.false)) n begins tells
