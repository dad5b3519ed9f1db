use Rattle.std.proofs.Common.{◌≡◌, ◌∙◌, ◌+◌, ◌++◌, ◌∷◌, [], ℕ, List, Option, ap, sym, arith}
use Rattle.std.specs.Option.{option_to_list}
use Rattle.bpf_explore.proofs.DiveLaws.{turns_added, turns_joined}
use Rattle.bpf_explore.proofs.diving.add_turns.Goals as goal

pub returns : goal.returns
returns c =
    let rest = c.pop.new.self.items in
    let cpu = c.args.cpu in
    let old : c.args.by.now.items ≡ rest ++ (cpu, c.in-Some-pop.more) ∷ [] = c.pop.ensures.items ∙
    (ap (λ (o : Option (ℕ × ℕ)). rest ++ option_to_list o) c.in-Some-pop.is ∙ ap (λ (d : ℕ). rest ++ (d, c.in-Some-pop.more) ∷ [])
    c.if-last-cpu.true) in
    let sum : c.in-Some-checked_add.sum ≡ c.in-Some-pop.more + c.in-Some.turns = omega (arith, c.in-Some-checked_add.ensures) in
    turns_joined rest c.args.by.now.items c.push-2.new.self.items cpu c.in-Some-pop.more c.in-Some.turns c.in-Some-checked_add.sum
    c.args.ahead (omega (arith, c.in-Some.ensures)) sum old c.in_ok-push-2.ensures.items

pub returns-2 : goal.returns-2
returns-2 c =
    let rest = c.pop.new.self.items in
    let old : c.args.by.now.items ≡ rest ++ (c.in-Some-pop.last, c.in-Some-pop.more) ∷ [] = c.pop.ensures.items ∙ ap
    (λ (o : Option (ℕ × ℕ)). rest ++ option_to_list o) c.in-Some-pop.is in
    turns_added c.args.by.now.items c.push-4.new.self.items c.args.cpu c.in-Some.turns c.args.ahead (omega (arith, c.in-Some.ensures))
    (c.in_ok-push-4.ensures.items ∙ ap (λ (xs : List (ℕ × ℕ)). xs ++ (c.args.cpu, c.in-Some.turns) ∷ []) (c.in_ok-push-3.ensures.items ∙ sym old))
