use Rattle.std.proofs.Common.{◌∙◌, ◌++◌, ℕ, List, ap, string_bytes}
use Rattle.bpf_explore.proofs.listing.push_counts.Goals as goal

pub returns : goal.returns
returns c =
    c.in_ok-push_str.ensures.bytes
    ∙ ap (λ (x : List ℕ). string_bytes c.args.text.now ++ x) (c.as_str.ensures.value ∙ c.in_ok-counts.ensures.ok)
