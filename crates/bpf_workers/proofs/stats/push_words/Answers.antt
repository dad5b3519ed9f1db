use Rattle.std.proofs.Common.{◌≡◌, ℕ, List, ◌++◌, ap, ◌∙◌}
use Rattle.std.specs.Prelude.{codes, string_bytes}
use Rattle.bpf_workers.specs.Stats.{number_word}
use Rattle.bpf_workers.proofs.MapLines.{behind}
use Rattle.bpf_workers.proofs.stats.push_words.Goals as goal

pub returns : goal.returns
returns c =
    let s = c.args.stats.now in
    let start = string_bytes c.args.text.now in
    let a = string_bytes c.push_number.new.text in
    let b = string_bytes c.push_number-2.new.text in
    let d = string_bytes c.push_number-3.new.text in
    let e = string_bytes c.push_number-4.new.text in
    let p : List ℕ = number_word (codes "segments") s.segments in
    let q : List ℕ = number_word (codes "keys") s.keys in
    let r : List ℕ = number_word (codes "overflow") s.overflow in
    let t : List ℕ = number_word (codes "free") s.free in
    let one : a ≡ start ++ p = c.in_ok-push_number.ensures ∙ ap (λ (n : ℕ). start ++ number_word (codes "segments") n) c.from.ensures in
    let four : e ≡ d ++ t = c.in_ok-push_number-4.ensures ∙ ap (λ (n : ℕ). d ++ number_word (codes "free") n) c.from-2.ensures in
    let two : b ≡ start ++ (p ++ q) = behind start a b p q one c.in_ok-push_number-2.ensures in
    let three : d ≡ start ++ ((p ++ q) ++ r) = behind start b d (p ++ q) r two c.in_ok-push_number-3.ensures in
    behind start d e ((p ++ q) ++ r) t three four
