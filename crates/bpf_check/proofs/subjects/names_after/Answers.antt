use Rattle.std.proofs.Common.{◌∙◌, ◌-◌, drop, length, map, sym, ap, arith}
use Rattle.std.specs.Prelude.{string_bytes}
use Rattle.std.proofs.lemmas.List.{drop-map, length-drop, take_all}
use Rattle.bpf_check.proofs.subjects.names_after.Goals as goal

pub returns-then-count-names : goal.returns-then-count-names
returns-then-count-names c =
    let names = c.args.names.now in
    let rest = drop c.args.count names in
    let long = length-drop c.args.count names in
    ap (λ xs. map string_bytes xs) (take_all (length names - c.args.count) rest (omega arith)) ∙ sym (drop-map string_bytes c.args.count names)
