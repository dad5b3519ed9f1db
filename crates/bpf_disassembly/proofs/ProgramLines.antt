-- The lines of a program with their pcs and words are the listing of its canonical text.
use Rattle.std.proofs.Common.{◌≡◌, ◌≢◌, ◌+◌, ◌*◌, [], ◌∷◌, ◌++◌, append_assoc, codes, drop, take, refl, sym, ap, subst, ◌∙◌, arith}
use Rattle.bpf_insn.specs.Table.{row_of, word_count, words}
use Rattle.bpf_insn.specs.declared.row.Encoding.{Encoding}
use Rattle.bpf_insn.specs.declared.row.Encoding.TheVariants.{Basic, Wide}
use Rattle.bpf_insn.specs.declared.instruction.Insn.{Insn}
use Rattle.bpf_text.specs.Form.{canonical, line_of}
use Rattle.bpf_lines.specs.Lines.{lines_of}
use Rattle.bpf_disassembly.proofs.ReadBack.{end_reads, end_source, first_line, line_reads, line_source}
use Rattle.bpf_disassembly.specs.Listing.Laws.{ProgramLinesAreAListing}
use Rattle.bpf_disassembly.specs.Listing.Program.{place_comment, program_lines}
use Rattle.bpf_disassembly.specs.Listing.Source.{IsSourceListing, behind_line, feed_before}
use Rattle.bpf_disassembly.proofs.SourceLines.{has_feed, has_place}

some_words : (i : Insn) → words i ≢ 0
some_words i = by_count (row_of i).encoding
  where
    by_count : (s : Encoding) → word_count s ≢ 0
    by_count Basic e = absurd (omega (arith, e))
    by_count (Wide n) e = absurd (omega (arith, e))

pub program_listed : ProgramLinesAreAListing
program_listed pc bytes [] h = (end_source, [], end_reads, refl, refl)
program_listed pc bytes (i ∷ is) h =
    let rest = program_lines (pc + words i) (drop (8 * words i) bytes) is in
    let place = place_comment pc (take (8 * words i) bytes) in
    let lines = lines_of (canonical is) in
    let behind = behind_line pc (words i) bytes in
    let printed : program_lines pc bytes (i ∷ is) ≡ line_of i ++ (behind ++ (feed_before lines ++ rest)) =
    append_assoc (line_of i) (place ++ codes "\n") rest
    ∙ ap (λ t. line_of i ++ t) (append_assoc place (codes "\n") rest)
    ∙ ap (λ b. line_of i ++ (b ++ (codes "\n" ++ rest))) (sym (has_place pc (words i) bytes (some_words i)))
    ∙ ap (λ f. line_of i ++ (behind ++ (f ++ rest))) (sym (has_feed (canonical is))) in
    let listing : IsSourceListing pc bytes (line_of i ∷ lines) (program_lines pc bytes (i ∷ is)) =
    (line_source i, rest, line_reads i h.0.fits, printed, program_listed (pc + words i) (drop (8 * words i) bytes) is h.1) in
    subst (λ ls. IsSourceListing pc bytes ls (program_lines pc bytes (i ∷ is))) (sym (first_line i is h.0.fits)) listing
