use Rattle.std.proofs.Common.{List, ℕ, ◌∙◌, ◌+◌, ◌-◌, ap, arith, drop, length, slice_index}
use Rattle.std.proofs.lemmas.List.{get_or-drop, get_or-take}
use Rattle.bpf_plain.proofs.changes.is_as_first.Goals as goal

pub returns-in-Some : goal.returns-in-Some
returns-in-Some c same k l =
    let n = length c.args.part.now in
    ap (λ (bs : List ℕ). slice_index bs k) (c.is_same.ensures same ∙ c.in-Some.ensures.lookup.0.2)
    ∙ (get_or-take (c.args.place + n - c.args.place) (drop c.args.place c.args.first.now) k 0 (omega arith)
    ∙ get_or-drop c.args.place c.args.first.now k 0)
