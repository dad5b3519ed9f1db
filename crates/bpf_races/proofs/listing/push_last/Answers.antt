use Rattle.std.proofs.Common.{◌∙◌, ◌++◌, ℕ, List, ap, append_assoc, string_bytes}
use Rattle.bpf_explore.specs.Listing.{all_text}
use Rattle.bpf_races.specs.Lines.{count_text}
use Rattle.bpf_races.proofs.listing.push_last.Goals as goal

pub returns : goal.returns
returns c =
    let old = string_bytes c.args.text.now in
    let count = count_text c.args.count in
    c.in_ok-push_count.ensures
    ∙ (ap (λ (x : List ℕ). x ++ count) (c.in_ok-push_str.ensures.bytes ∙ ap (λ (x : List ℕ). old ++ x) c.whether_all.ensures)
    ∙ append_assoc old (all_text c.args.all) count)
