use Rattle.std.proofs.Common.{◌∙◌, ◌++◌, ℕ, List, ap, refl}
use Rattle.std.specs.Prelude.{string_bytes}
use Rattle.bpf_names.specs.Names.{names_of}
use Rattle.bpf_jobs.proofs.Asked.{fixed_told}
use Rattle.bpf_workers.proofs.left.fixed_lines.Goals as goal

pub returns : goal.returns
returns c = λ last known same.
    let text = string_bytes c.in_ok-text.text in
    fixed_told last (names_of c.args.names.now) c.deref.result.now c.args.names.now.variables.items text
    (string_bytes c.in_ok-arrays.arrays) (string_bytes c.push_str.new.self) c.deref.ensures.value refl
    (c.in_ok-text.ensures last known same) (c.in_ok-arrays.ensures last known same)
    (c.in_ok-push_str.ensures.bytes ∙ ap (λ (t : List ℕ). text ++ t) c.as_str.ensures.value)
