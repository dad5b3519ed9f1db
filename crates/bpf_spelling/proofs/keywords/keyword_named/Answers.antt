use Rattle.std.proofs.Common.{sym, ◌∙◌}
use Rattle.bpf_spelling.proofs.Letters.{no_keyword_short, first_s, first_i, first_g, first_c, first_e, first_l, first_m, first_u, first_b}
use Rattle.bpf_spelling.proofs.Letters.{first_a, first_x, no_keyword_first}
use Rattle.bpf_spelling.proofs.keywords.keyword_named.Goals as goal

pub returns-in_default : goal.returns-in_default
returns-in_default c = sym (no_keyword_short c.args.word.now c.in_default.len_below)

pub returns-then-first-eq115 : goal.returns-then-first-eq115
returns-then-first-eq115 c =
    c.spelled.ensures ∙ first_s c.args.word.now c.in-len1-up.len_at_least c.if-first-eq115.true

pub returns-then-first-eq105 : goal.returns-then-first-eq105
returns-then-first-eq105 c =
    c.spelled-then-first-eq105.ensures ∙ first_i c.args.word.now c.in-len1-up.len_at_least c.if-first-eq105.true

pub returns-then-first-eq103 : goal.returns-then-first-eq103
returns-then-first-eq103 c =
    c.spelled-then-first-eq103.ensures ∙ first_g c.args.word.now c.in-len1-up.len_at_least c.if-first-eq103.true

pub returns-then-first-eq99 : goal.returns-then-first-eq99
returns-then-first-eq99 c =
    c.spelled-then-first-eq99.ensures ∙ first_c c.args.word.now c.in-len1-up.len_at_least c.if-first-eq99.true

pub returns-then-first-eq101 : goal.returns-then-first-eq101
returns-then-first-eq101 c =
    c.spelled-then-first-eq101.ensures ∙ first_e c.args.word.now c.in-len1-up.len_at_least c.if-first-eq101.true

pub returns-then-first-eq108 : goal.returns-then-first-eq108
returns-then-first-eq108 c =
    c.spelled-then-first-eq108.ensures ∙ first_l c.args.word.now c.in-len1-up.len_at_least c.if-first-eq108.true

pub returns-then-first-eq109 : goal.returns-then-first-eq109
returns-then-first-eq109 c =
    c.spelled-then-first-eq109.ensures ∙ first_m c.args.word.now c.in-len1-up.len_at_least c.if-first-eq109.true

pub returns-then-first-eq117 : goal.returns-then-first-eq117
returns-then-first-eq117 c =
    c.spelled-then-first-eq117.ensures ∙ first_u c.args.word.now c.in-len1-up.len_at_least c.if-first-eq117.true

pub returns-then-first-eq98 : goal.returns-then-first-eq98
returns-then-first-eq98 c =
    c.spelled-then-first-eq98.ensures ∙ first_b c.args.word.now c.in-len1-up.len_at_least c.if-first-eq98.true

pub returns-then-first-eq97 : goal.returns-then-first-eq97
returns-then-first-eq97 c =
    c.spelled-then-first-eq97.ensures ∙ first_a c.args.word.now c.in-len1-up.len_at_least c.if-first-eq97.true

pub returns-then-first-eq120 : goal.returns-then-first-eq120
returns-then-first-eq120 c =
    c.spelled-then-first-eq120.ensures ∙ first_x c.args.word.now c.in-len1-up.len_at_least c.if-first-eq120.true

pub returns-else-first-eq120 : goal.returns-else-first-eq120
returns-else-first-eq120 c =
    sym (no_keyword_first c.args.word.now c.in-len1-up.len_at_least
    c.if-first-eq115.false c.if-first-eq105.false c.if-first-eq103.false c.if-first-eq99.false
    c.if-first-eq101.false c.if-first-eq108.false c.if-first-eq109.false c.if-first-eq117.false
    c.if-first-eq98.false c.if-first-eq97.false c.if-first-eq120.false)
