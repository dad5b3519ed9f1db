use Rattle.std.proofs.Common.{List, [], ◌∷◌, ◌*◌, ℕ, Ok, drop, subst, sym}
use Rattle.bpf_insn.specs.declared.instruction.Insn.{Insn}
use Rattle.bpf_insn.specs.Encoding.{IsEncodedAs}
use Rattle.bpf_insn.specs.Table.{words}
use Rattle.bpf_text.specs.Assembly.{Assembles}
use Rattle.bpf_spelling.specs.Form.{canonical}
use Rattle.bpf_disassembly.proofs.ReadBack.{AllFit, reads_back}
use Rattle.bpf_disassembly.proofs.laws.words_are_shown_again.Goals as goal

encoded_fit : (is : List Insn) (bytes : List ℕ) → IsEncodedAs is bytes → AllFit is
encoded_fit [] bytes h = tt
encoded_fit (i ∷ is) bytes h = (h.0.fits, encoded_fit is (drop (8 * words i) bytes) h.1)

pub returns : goal.returns
returns c = λ bytes is js a b.
    let same = c.words_are_determined.ensures bytes js is b a in
    let P : List Insn → Type 0 = λ ks. Assembles (canonical ks) (Ok is) in
    (same, subst P (sym same) (reads_back is (encoded_fit is bytes a)))
