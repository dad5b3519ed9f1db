use Rattle.std.proofs.Common.{◌≡◌, ℕ, List, ◌++◌}
use Rattle.std.specs.Prelude.{codes, string_bytes}
use Rattle.bpf_workers.specs.Stats.{number_word}
use Rattle.bpf_workers.proofs.MapLines.{behind}
use Rattle.bpf_workers.proofs.stats.push_counts.Goals as goal

pub returns : goal.returns
returns c =
    let s = c.args.stats.now in
    let start = string_bytes c.args.text.now in
    let a = string_bytes c.push_number.new.text in
    let b = string_bytes c.push_number-2.new.text in
    let d = string_bytes c.push_number-3.new.text in
    let p : List ℕ = number_word (codes "splits") s.splits in
    let q : List ℕ = number_word (codes "disturbed") s.disturbed in
    let r : List ℕ = number_word (codes "locks") s.locks in
    let two : b ≡ start ++ (p ++ q) = behind start a b p q c.in_ok-push_number.ensures c.in_ok-push_number-2.ensures in
    behind start b d (p ++ q) r two c.in_ok-push_number-3.ensures
