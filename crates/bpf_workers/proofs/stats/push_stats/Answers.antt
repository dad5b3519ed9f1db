use Rattle.std.proofs.Common.{◌≡◌, ℕ, List, ◌++◌, ap, ◌∙◌}
use Rattle.std.specs.Prelude.{codes, string_bytes}
use Rattle.bpf_workers.specs.Stats.{words_told, counts_told}
use Rattle.bpf_workers.proofs.MapLines.{behind}
use Rattle.bpf_workers.proofs.stats.push_stats.Goals as goal

pub returns : goal.returns
returns c =
    let s = c.args.stats.now in
    let start = string_bytes c.args.text.now in
    let a = string_bytes c.push_str.new.self in
    let b = string_bytes c.push_words.new.text in
    let d = string_bytes c.push_counts.new.text in
    let e = string_bytes c.push_str-2.new.self in
    let head : List ℕ = codes "map " ++ c.args.name.now in
    let p : List ℕ = words_told s in
    let q : List ℕ = counts_told s in
    let one : a ≡ start ++ head = c.in_ok-push_str.ensures.bytes ∙ ap (λ (x : List ℕ). start ++ x) (c.as_str.ensures.value ∙ c.in_ok-head.ensures.ok) in
    let two : b ≡ start ++ (head ++ p) = behind start a b head p one c.in_ok-push_words.ensures in
    let three : d ≡ start ++ ((head ++ p) ++ q) = behind start b d (head ++ p) q two c.in_ok-push_counts.ensures in
    behind start d e ((head ++ p) ++ q) (codes "\n") three c.in_ok-push_str-2.ensures.bytes
