use Rattle.std.proofs.Common.{◌≡◌, ◌∙◌, ℕ, List, length, map, Bor, sym, arith}
use Rattle.std.proofs.lemmas.List.{length-map}
use Rattle.bpf_buffer_debug.proofs.CommandLaws.{many_plain, one_plain}
use Rattle.bpf_buffer_debug.proofs.command.asked_in.Goals as goal

pub returns-in-len1 : goal.returns-in-len1
returns-in-len1 c =
    let fields : List (List ℕ) = map (λ (f : Bor (List ℕ)). f.now) c.args.fields.now in
    let count : length fields ≡ length c.args.fields.now = length-map c.args.fields.now (λ (f : Bor (List ℕ)). f.now) in
    c.plain_words-in-len1.ensures ∙ sym (one_plain fields (omega (arith, count, c.in-len1.len_below)))

pub returns-in-len3-up : goal.returns-in-len3-up
returns-in-len3-up c =
    let fields : List (List ℕ) = map (λ (f : Bor (List ℕ)). f.now) c.args.fields.now in
    let count : length fields ≡ length c.args.fields.now = length-map c.args.fields.now (λ (f : Bor (List ℕ)). f.now) in
    c.plain_words-in-len3-up.ensures ∙ sym (many_plain fields (omega (arith, count, c.in-len3-up.len_at_least)))
