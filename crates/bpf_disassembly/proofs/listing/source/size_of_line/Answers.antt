use Rattle.std.proofs.Common.{rules, ◌≡◌, List, ℕ, length, subst, sym}
use Rattle.bpf_text.specs.Assembly.{IsLine, Source, words_of}
use Rattle.bpf_disassembly.proofs.SourceLines.{empty_line, no_bytes}
use Rattle.bpf_disassembly.proofs.listing.source.size_of_line.Goals as goal

pub returns-then-is_empty-clause-size : goal.returns-then-is_empty-clause-size
returns-then-is_empty-clause-size c =
    let zero : length c.args.line.now ≡ 0 = search rules in
    subst (λ (line : List ℕ). (s : Source) × IsLine line s × (0 ≡ words_of s.body)) (sym (no_bytes c.args.line.now zero)) empty_line
