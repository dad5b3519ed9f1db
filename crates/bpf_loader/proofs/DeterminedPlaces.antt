-- What is at a place of a program is known by the place.
use Rattle.std.proofs.Common.{◌≡◌, List, [], ◌∷◌, ◌++◌, sym, ap, ◌∙◌, arith}
use Rattle.bpf_insn.specs.declared.instruction.Insn.{Insn}
use Rattle.bpf_insn.specs.Table.{words}
use Rattle.bpf_insn.specs.Table.{word_length}
use Rattle.bpf_loader.specs.Laws.{OneInstructionBegins}
use Rattle.bpf_loader.proofs.WordLemmas.{words_some}

-- after as many words is the same instruction
same_place : (before other : List Insn) (i j : Insn) (after rest : List Insn) → before ++ i ∷ after ≡ other ++ j ∷ rest → word_length before
    ≡ word_length other → i ≡ j
same_place [] [] i j after rest e w = cc
same_place [] (b ∷ other) i j after rest e w = absurd (omega (arith, words_some b))
same_place (b ∷ before) [] i j after rest e w = absurd (omega (arith, words_some b))
same_place (b ∷ before) (c ∷ other) i j after rest e w =
    let first : b ≡ c = cc in
    let behind : before ++ i ∷ after ≡ other ++ j ∷ rest = cc in
    let same : words b ≡ words c = ap words first in
    same_place before other i j after rest behind (omega arith)

pub one_instruction_begins : OneInstructionBegins
one_instruction_begins is pc i j b c = same_place b.before c.before i j b.after c.after (sym b.parts ∙ c.parts) (sym b.counted ∙ c.counted)
