use Rattle.std.proofs.Common.{◌≡◌, true, false, Bool, ℕ, List, arith, refl}
use Rattle.bpf_insn.specs.declared.instruction.Insn.{Insn}
use Rattle.bpf_loader.specs.Places.{Begins}
use Rattle.bpf_live.specs.Live.{HasCalls}
use Rattle.bpf_live.specs.Private.Needs.{HasNeeded}
use Rattle.std.proofs.lemmas.Option.{slice_get_within}
use Rattle.bpf_live.proofs.Needed.{has_live, one_further}
use Rattle.bpf_live.proofs.finding.is_right.Goals as goal

some : (is : List Insn) (b : Bool) → (b ≡ false → HasCalls is → ⊥) → HasCalls is → b ≡ true
some is true none h = refl
some is false none h = absurd (none refl h)

pub loop-pc-preserved : goal.loop-pc-preserved
loop-pc-preserved c =
    let P : ℕ → Type 0 = λ pc. (i : Insn) → Begins c.args.program.now.instructions pc i → HasNeeded c.args.sets.now c.has_calls-calls.result pc i in
    one_further P c.loop-pc.pc c.loop-pc.invariant (c.is_right_at.ensures c.if-not-is_right_at.false)

pub returns : goal.returns
returns c = λ e pc i begins.
    let there = c.ops-words.ensures pc (i, begins) in
    let low = slice_get_within c.ops-words.result.now pc there.0 there.1 in
    has_live c.args.program.now.instructions c.args.sets.now c.has_calls-calls.result pc i
    (c.loop-pc.invariant pc (omega (arith, low, c.loop-pc-test.false)) i begins)
    (some c.args.program.now.instructions c.has_calls-calls.result c.has_calls-calls.ensures)
