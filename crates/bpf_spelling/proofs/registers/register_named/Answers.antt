use Rattle.std.proofs.Common.{sym, ◌∙◌}
use Rattle.bpf_spelling.proofs.Letters.{no_register_short, first_r, first_w, no_register_first}
use Rattle.bpf_spelling.proofs.registers.register_named.Goals as goal

pub returns-in_default : goal.returns-in_default
returns-in_default c = sym (no_register_short c.args.word.now c.in_default.len_below)

pub returns-then-first-eq114 : goal.returns-then-first-eq114
returns-then-first-eq114 c =
    c.named.ensures ∙ first_r c.args.word.now c.in-len1-up.len_at_least c.if-first-eq114.true

pub returns-then-first-eq119 : goal.returns-then-first-eq119
returns-then-first-eq119 c =
    c.named-then-first-eq119.ensures ∙ first_w c.args.word.now c.in-len1-up.len_at_least c.if-first-eq119.true

pub returns-else-first-eq119 : goal.returns-else-first-eq119
returns-else-first-eq119 c =
    sym (no_register_first c.args.word.now c.in-len1-up.len_at_least
    c.if-first-eq114.false c.if-first-eq119.false)
