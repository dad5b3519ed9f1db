use Rattle.std.proofs.Common.{◌≡◌, ℕ, List, ◌++◌, ap, ◌∙◌}
use Rattle.std.specs.Prelude.{codes, string_bytes}
use Rattle.std.specs.Fmt.{decimal}
use Rattle.bpf_debug.specs.Told.{grow_word}
use Rattle.bpf_debug.proofs.ToldLaws.{behind_both}
use Rattle.bpf_debug.proofs.told.put_sizes.Goals as goal

pub returns : goal.returns
returns c =
    let h = c.args.shape in
    let start = string_bytes c.args.out.now in
    let a = string_bytes c.put.new.out in
    let b = string_bytes c.put_number.new.out in
    let d = string_bytes c.put-2.new.out in
    let e = string_bytes c.put_number-2.new.out in
    let f = string_bytes c.put-3.new.out in
    let g = string_bytes c.put_number-3.new.out in
    let i = string_bytes c.put-4.new.out in
    let j = string_bytes c.put_number-4.new.out in
    let z = string_bytes c.put-5.new.out in
    let to_key : List ℕ = codes " key " ++ decimal h.key in
    let to_value : List ℕ = to_key ++ codes " value " in
    let value : List ℕ = to_value ++ decimal h.value in
    let to_max : List ℕ = value ++ codes " max " in
    let max : List ℕ = to_max ++ decimal h.max in
    let to_spare : List ℕ = max ++ codes " spare " in
    let spare : List ℕ = to_spare ++ decimal h.spare in
    let last : z ≡ j ++ grow_word h.grow = c.put-5.ensures.text ∙ ap (λ (word : List ℕ). j ++ word) c.grow_word.ensures.text in
    let at_key : b ≡ start ++ to_key = behind_both start a b (codes " key ") (decimal h.key) c.put.ensures.text c.put_number.ensures.text in
    let before_value : d ≡ start ++ to_value = behind_both start b d to_key (codes " value ") at_key c.put-2.ensures.text in
    let at_value : e ≡ start ++ value = behind_both start d e to_value (decimal h.value) before_value c.put_number-2.ensures.text in
    let before_max : f ≡ start ++ to_max = behind_both start e f value (codes " max ") at_value c.put-3.ensures.text in
    let at_max : g ≡ start ++ max = behind_both start f g to_max (decimal h.max) before_max c.put_number-3.ensures.text in
    let before_spare : i ≡ start ++ to_spare = behind_both start g i max (codes " spare ") at_max c.put-4.ensures.text in
    let at_spare : j ≡ start ++ spare = behind_both start i j to_spare (decimal h.spare) before_spare c.put_number-4.ensures.text in
    behind_both start j z spare (grow_word h.grow) at_spare last
