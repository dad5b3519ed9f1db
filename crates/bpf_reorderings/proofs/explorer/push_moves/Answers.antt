use Rattle.std.proofs.Common.{◌≡◌, ◌∙◌, ◌+◌, ◌++◌, ◌∷◌, [], ℕ, List, Option, replicate, reverse, sym, ap, arith}
use Rattle.std.specs.Option.{option_to_list}
use Rattle.bpf_machine.specs.Schedule.{unrolled}
use Rattle.bpf_explore.proofs.TrailLaws.{more_back}
use Rattle.bpf_reorderings.proofs.explorer.push_moves.Goals as goal

pub returns : goal.returns
returns c =
    let rest = c.pop.new.self.items in
    let made = c.args.made in
    let count = c.args.count in
    let old : c.args.by.now.items ≡ rest ++ (made, c.in-Some.more) ∷ [] = c.pop.ensures.items ∙
    (ap (λ (o : Option (ℕ × ℕ)). rest ++ option_to_list o) c.in-Some.is ∙ ap (λ (d : ℕ). rest ++ (d, c.in-Some.more) ∷ [])
    c.if-last-made.true) in
    let sum : c.in-Some-checked_add.sum ≡ c.in-Some.more + count = omega (arith, c.in-Some-checked_add.ensures) in
    ap (λ (xs : List (ℕ × ℕ)). unrolled (reverse xs)) c.in_ok-push-2.ensures.items
    ∙ (more_back rest made c.in-Some.more count c.in-Some-checked_add.sum sum ∙ ap
    (λ (xs : List (ℕ × ℕ)). replicate count made ++ unrolled (reverse xs)) (sym old))
