-- Lines have one listing.
use Rattle.std.proofs.Common.{◌≡◌, ◌+◌, ◌*◌, [], ◌∷◌, ◌++◌, None, drop, ap, subst, sym, ◌∙◌}
use Rattle.bpf_text.specs.Assembly.{Source, words_of}
use Rattle.bpf_text.proofs.Unique.{one_line}
use Rattle.bpf_disassembly.specs.Listing.Laws.{SourceListingsAreDetermined}
use Rattle.bpf_disassembly.specs.Listing.Source.{IsSourceListing, behind_line, feed_before}

pub one_listing : SourceListingsAreDetermined
one_listing pc bytes [] p q a b = a ∙ sym b
one_listing pc bytes (line ∷ lines) p q a b =
    let same : a.0 ≡ b.0 = one_line None line a.0 b.0 a.2 b.2 in
    let feed = feed_before lines in
    let P : Source → Type 0 = λ s. IsSourceListing (pc + words_of s.body) (drop (8 * words_of s.body) bytes) lines b.1 in
    let more = one_listing (pc + words_of a.0.body) (drop (8 * words_of a.0.body) bytes) lines a.1 b.1 a.4 (subst P (sym same) b.4) in
    a.3 ∙ ap (λ (s : Source). line ++ (behind_line pc (words_of s.body) bytes ++ (feed ++ a.1))) same
    ∙ ap (λ m. line ++ (behind_line pc (words_of b.0.body) bytes ++ (feed ++ m))) more ∙ sym b.3
