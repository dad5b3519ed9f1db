use Rattle.std.proofs.Common.{◌≡◌, ℕ, List, length, map, Bor, arith}
use Rattle.std.proofs.lemmas.List.{length-map}
use Rattle.bpf_debug.proofs.CommandLaws.{too_many}
use Rattle.bpf_debug.proofs.command.command_of.Goals as goal

pub returns-in-len5-up : goal.returns-in-len5-up
returns-in-len5-up c =
    let fields : List (List ℕ) = map (λ (f : Bor (List ℕ)). f.now) c.args.fields.now in
    let count : length fields ≡ length c.args.fields.now = length-map c.args.fields.now (λ (f : Bor (List ℕ)). f.now) in
    too_many fields (omega (arith, count, c.in-len5-up.len_at_least))
