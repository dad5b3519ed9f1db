use Rattle.std.proofs.Common.{Ok}
use Rattle.bpf_text.specs.Form.{canonical}
use Rattle.bpf_disassembly.specs.Listing.Program.{program_lines}
use Rattle.bpf_disassembly.proofs.listing.laws.program_lines_assemble_to_their_words.Goals as goal

pub returns : goal.returns
returns c = λ pc bytes is h.
    let again = c.words_are_shown_again.ensures bytes is is h h in
    c.listings_assemble_alike.ensures pc bytes (canonical is) (program_lines pc bytes is) (Ok is) (c.program_lines_are_a_listing.ensures pc bytes is h) again.1
