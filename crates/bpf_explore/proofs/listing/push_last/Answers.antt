use Rattle.std.proofs.Common.{◌∙◌, ◌++◌, ℕ, List, ap, append_assoc, string_bytes}
use Rattle.bpf_explore.specs.Listing.{all_text, counts_text}
use Rattle.bpf_explore.proofs.listing.push_last.Goals as goal

pub returns : goal.returns
returns c =
    let old = string_bytes c.args.text.now in
    let counts = counts_text c.args.outcomes c.args.states in
    c.in_ok-push_counts.ensures
    ∙ (ap (λ (x : List ℕ). x ++ counts) (c.in_ok-push_str.ensures.bytes ∙ ap (λ (x : List ℕ). old ++ x) c.whether_all.ensures)
    ∙ append_assoc old (all_text c.args.all) counts)
