use Rattle.std.proofs.Common.{◌≡◌, ◌+◌, List, ℕ, Option, Some, None, ap, subst, sym, string_bytes}
use Rattle.std.specs.Option.{option_copied}
use Rattle.bpf_disassembly.proofs.SourceLines.{Listed, listed_end, listed_next}
use Rattle.bpf_disassembly.proofs.listing.source.source_lines.Goals as goal

pub lines-preserved : goal.lines-preserved
lines-preserved c =
    let rest : option_copied c.lines.rest ≡ Some c.in-Some.now.now = ap option_copied c.in-Some.is in
    let R : Option (List ℕ) → Type 0 = λ r. Listed c.args.source.now c.args.bytes.now (string_bytes c.lines.text) r c.lines.pc c.lines.left.now in
    let next = listed_next c.args.source.now c.args.bytes.now (string_bytes c.lines.text) c.in-Some.now.now c.first_line.result.0.now
    (option_copied c.first_line.result.1) c.lines.pc c.in_ok-size.size c.lines.left.now
    (string_bytes c.push_line.new.text) (string_bytes c.push_feed.new.text) (subst R rest c.lines.invariant) c.first_line.ensures.lines
    c.first_line.ensures.shorter
    c.in_ok-size.ensures.size c.in_ok-size.ensures.small c.in_ok-push_line.ensures.line c.in_ok-push_feed.ensures.feed in
    subst (λ (left : List ℕ). Listed c.args.source.now c.args.bytes.now (string_bytes c.push_feed.new.text)
    (option_copied c.first_line.result.1) (c.lines.pc + c.in_ok-size.size) left)
    (sym c.behind_words-left.ensures) next

pub returns-clause-listed : goal.returns-clause-listed
returns-clause-listed c =
    let R : Option (List ℕ) → Type 0 = λ r. Listed c.args.source.now c.args.bytes.now (string_bytes c.lines.text) r c.lines.pc c.lines.left.now in
    let ended : option_copied c.lines.rest ≡ None = ap option_copied c.in_default.is in
    listed_end c.args.source.now c.args.bytes.now (string_bytes c.lines.text) c.lines.pc c.lines.left.now (subst R ended c.lines.invariant)
