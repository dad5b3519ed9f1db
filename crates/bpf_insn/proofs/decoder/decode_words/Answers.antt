use Rattle.std.proofs.Common.{rules, ◌≡◌, ◌++◌, ◌∷◌, []}
use Rattle.bpf_insn.proofs.Program.{reached_start, reached_next, reached_end, reached_wrong}
use Rattle.bpf_insn.proofs.decoder.decode_words.Goals as goal

pub loop-pc-init : goal.loop-pc-init
loop-pc-init c = rw c.new-insns.ensures.items (reached_start _ c.requires.whole)

pub loop-pc-preserved : goal.loop-pc-preserved
loop-pc-preserved c =
    let pushed : c.push.new.self.items ≡ c.loop-pc.insns.items ++ c.in_ok-insn.insn ∷ [] = search rules in
    reached_next _ _ _ _ _ _ c.loop-pc.invariant c.loop-pc-test.true c.in_ok-insn.ensures pushed (search rules)

pub returns-in_err-insn-clause-only : goal.returns-in_err-insn-clause-only
returns-in_err-insn-clause-only c is h =
    let e = reached_wrong _ _ _ c.in_err-insn.field-0.0 c.loop-pc.invariant c.requires c.loop-pc-test.true c.in_err-insn.ensures in
    absurd (e.none is h)

pub returns-in_err-insn-clause-refused : goal.returns-in_err-insn-clause-refused
returns-in_err-insn-clause-refused c =
    let e = reached_wrong _ _ _ c.in_err-insn.field-0.0 c.loop-pc.invariant c.requires c.loop-pc-test.true c.in_err-insn.ensures in
    let refused = e.refused in
    search rules

pub returns-clause-found : goal.returns-clause-found
returns-clause-found c = (reached_end _ _ _ c.loop-pc.invariant c.loop-pc-test.false).encoded

pub returns-clause-only : goal.returns-clause-only
returns-clause-only c is h = ((reached_end _ _ _ c.loop-pc.invariant c.loop-pc-test.false).only is h, tt)
