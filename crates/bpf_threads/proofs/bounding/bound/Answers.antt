use Rattle.std.proofs.Common.{◌≡◌, ◌∙◌, ℕ, List, Option, refl, sym, subst}
use Rattle.std.specs.Prelude.{IfSome}
use Rattle.bpf_threads.specs.Counting.{HasNumber}
use Rattle.bpf_threads.proofs.Runs.{found_at_most}
use Rattle.bpf_threads.proofs.bounding.bound.Goals as goal

pub returns : goal.returns
returns c =
    let numbers = c.if-not-all_fall.ensures refl in
    let same : c.deref-2.result.now ≡ c.deref.result.now = c.deref-2.ensures.value ∙ sym c.deref.ensures.value in
    let first = subst (λ (most : List (Option ℕ)). IfSome c.number_of_first.result (HasNumber most 0)) same c.number_of_first.ensures in
    found_at_most c.args.program.now c.args.spots.now c.requires c.args.counted c.deref.result.now numbers c.number_of_first.result first
