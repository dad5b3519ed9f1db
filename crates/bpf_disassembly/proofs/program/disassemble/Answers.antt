use Rattle.std.proofs.Common.{List, ℕ, sym, subst, Ok, ap, ◌++◌}
use Rattle.bpf_text.specs.Assembly.{Assembles}
use Rattle.bpf_spelling.specs.Form.{canonical}
use Rattle.bpf_disassembly.proofs.FormText.{grown, whole}
use Rattle.bpf_disassembly.proofs.ReadBack.{AllFit-more, AllFit-all, reads_back}
use Rattle.bpf_disassembly.proofs.program.disassemble.Goals as goal

pub loop-insn-init : goal.loop-insn-init
loop-insn-init c = (ap (λ t. t ++ canonical c.args.program.now) c.new-text.ensures.bytes, tt)

pub loop-insn-preserved : goal.loop-insn-preserved
loop-insn-preserved c = (
  grown _ _ c.args.program.now c.loop-insn.insn-index _ c.loop-insn-test.true c.in_ok-push_line.ensures.ok c.loop-insn.invariant.0,
  AllFit-more c.args.program.now c.loop-insn.insn-index _ c.loop-insn-test.true c.loop-insn.invariant.1 c.in_ok-push_line.ensures.fits,
)

pub returns-clause-canonical : goal.returns-clause-canonical
returns-clause-canonical c = whole _ c.args.program.now c.loop-insn.insn-index c.loop-insn-test.false c.loop-insn.invariant.0

pub returns-clause-reads_back : goal.returns-clause-reads_back
returns-clause-reads_back c =
    let text = whole _ c.args.program.now c.loop-insn.insn-index c.loop-insn-test.false c.loop-insn.invariant.0 in
    let fits = AllFit-all c.args.program.now c.loop-insn.insn-index c.loop-insn-test.false c.loop-insn.invariant.1 in
    let P : List ℕ → Type 0 = λ t. Assembles t (Ok c.args.program.now) in
    subst P (sym text) (reads_back c.args.program.now fits)
