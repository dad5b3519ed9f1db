use Rattle.std.proofs.Common.{Bool, true, false, drop, ◌≡◌}
use Rattle.std.specs.Prelude.{IsTrue}
use Rattle.bpf_text.specs.Tokens.{IsEnd}
use Rattle.bpf_text.proofs.Scanning.{cut_start, cut_next, cut_end}
use Rattle.bpf_text.proofs.token.tokens_of.Goals as goal

pub line-init : goal.line-init
line-init c = (cut_start c.args.line.now _ _ c.new-tokens.ensures.items c.blank_len-at.ensures.value, c.blank_len-at.ensures.bound)

not_true : (b : Bool) → b ≡ false → IsTrue b → ⊥
not_true true h t = cc
not_true false h t = absurd (cc)

pub line-preserved : goal.line-preserved
line-preserved c =
    let line = c.args.line.now in
    let more = λ (e : IsEnd (drop c.line.at line)). not_true c.ends_at.result c.line-test.true (c.ends_at.ensures.1 e) in (
      cut_next line c.line.tokens.items c.keep.new.tokens.items c.front_at-len.result.0 c.line.at c.front_at-len.result.1 _
          c.line.invariant.0 more c.front_at-len.ensures.token c.front_at-len.ensures.len c.skip_blanks-at.ensures.value c.in_ok-keep.ensures.kept,
      c.skip_blanks-at.ensures.bound,
    )

pub returns-clause-found : goal.returns-clause-found
returns-clause-found c = cut_end c.args.line.now c.line.tokens.items c.line.at c.line.invariant.0 (c.ends_at.ensures.0 c.line-test.false)
