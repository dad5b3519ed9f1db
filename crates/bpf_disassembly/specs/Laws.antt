-- What follows from the definition of assembly text and from the encoding, of all texts.
use Rattle.std.specs.Prelude.{◌≡◌, ℕ, List, Ok}
use Rattle.bpf_insn.specs.Encoding.{IsEncodedAs}
use Rattle.bpf_insn.specs.declared.instruction.Insn.{Insn}
use Rattle.bpf_spelling.specs.Form.{canonical}
use Rattle.bpf_text.specs.Assembly.{Assembles}

-- words are those of one list alone, and that list's canonical text stands for it: the words of
-- what a text stands for are shown as a text that stands for the same
abbrev pub WordsAreShownAgain : Type 0
WordsAreShownAgain =
    (bytes : List ℕ) (is js : List Insn) → IsEncodedAs is bytes → IsEncodedAs js bytes
    → (js ≡ is) × Assembles (canonical js) (Ok is)
