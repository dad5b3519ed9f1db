-- The first line of a text, and the lines after it.
use Rattle.std.proofs.Common.{◌≡◌, ℕ, ◌+◌, ◌-◌, ◌<◌, ◌≤◌, suc, Bool, true, false, ◌==◌, List, [], ◌∷◌, length, take, drop, take_while, refl}
use Rattle.std.proofs.Common.{sym, ap, subst, ◌∙◌, arith}
use Rattle.std.proofs.lemmas.List.{take_all, length-drop}
use Rattle.std.specs.List.{prefix_len}
use Rattle.bpf_lines.specs.Lines.{lines_of}
use Rattle.std.specs.List.{onto_first}
use Rattle.bpf_lines.specs.Private.Cutting.{in_line}

abbrev line_end : List ℕ → ℕ
line_end text = length (take_while in_line text)

end_at_feed : (b : ℕ) (bs : List ℕ) → b == 10 ≡ true → line_end (b ∷ bs) ≡ 0
end_at_feed b bs e = rw e refl

end_behind : (b : ℕ) (bs : List ℕ) → b == 10 ≡ false → line_end (b ∷ bs) ≡ suc (line_end bs)
end_behind b bs e =
    let one : 1 + prefix_len in_line bs ≡ suc (prefix_len in_line bs) = omega arith in
    rw e (ap (λ k. length (take k (b ∷ bs))) one)

cut_feed : (b : ℕ) (bs : List ℕ) (n : ℕ) → b == 10 ≡ true → n ≡ 0 → lines_of (b ∷ bs) ≡ take n (b ∷ bs) ∷ lines_of (drop (n + 1) (b ∷ bs))
cut_feed b bs n e z = rw (z, e) refl

cut_behind : (b : ℕ) (bs : List ℕ) (n m : ℕ) → b == 10 ≡ false → n ≡ suc m → lines_of bs ≡ take m bs ∷ lines_of (drop (m + 1) bs) → lines_of
    (b ∷ bs) ≡ take n (b ∷ bs) ∷ lines_of (drop (n + 1) (b ∷ bs))
cut_behind b bs n m e z h =
    let next : n + 1 ≡ suc (m + 1) = omega arith in
    rw (next, z, e) (ap (onto_first b) h)

by_feed : (b : ℕ) (bs : List ℕ) (feed : Bool) → b == 10 ≡ feed → line_end (b ∷ bs) < length (b ∷ bs) →
    (line_end bs < length bs → lines_of bs ≡ take (line_end bs) bs ∷ lines_of (drop (line_end bs + 1) bs))
    → lines_of (b ∷ bs) ≡ take (line_end (b ∷ bs)) (b ∷ bs) ∷ lines_of (drop (line_end (b ∷ bs) + 1) (b ∷ bs))
by_feed b bs true e h more = cut_feed b bs (line_end (b ∷ bs)) e (end_at_feed b bs e)
by_feed b bs false e h more = let z = end_behind b bs e in cut_behind b bs (line_end (b ∷ bs)) (line_end bs) e z (more (omega (arith, z, h)))

cut_lines : (text : List ℕ) → line_end text < length text → lines_of text ≡ take (line_end text) text ∷ lines_of (drop (line_end text + 1) text)
cut_lines [] h = absurd (omega arith)
cut_lines (b ∷ bs) h = by_feed b bs (b == 10) refl h (cut_lines bs)

last_by : (b : ℕ) (bs : List ℕ) (feed : Bool) → b == 10 ≡ feed → length (b ∷ bs) ≤ line_end (b ∷ bs) →
    (length bs ≤ line_end bs → lines_of bs ≡ bs ∷ []) → lines_of (b ∷ bs) ≡ (b ∷ bs) ∷ []
last_by b bs true e h more = let z = end_at_feed b bs e in absurd (omega (arith, z, h))
last_by b bs false e h more = let z = end_behind b bs e in rw e (ap (onto_first b) (more (omega (arith, z, h))))

last_line : (text : List ℕ) → length text ≤ line_end text → lines_of text ≡ text ∷ []
last_line [] h = refl
last_line (b ∷ bs) h = last_by b bs (b == 10) refl h (last_line bs)

-- as slices give them
pub lines_cut : (text : List ℕ) (n : ℕ) → n ≡ line_end text → n < length text → lines_of text ≡ take n text ∷ lines_of
    (take (length text - (n + 1)) (drop (n + 1) text))
lines_cut text n e h =
    let P : ℕ → Type 0 = λ k. lines_of text ≡ take k text ∷ lines_of (drop (k + 1) text) in
    let all : take (length text - (n + 1)) (drop (n + 1) text) ≡ drop (n + 1) text = take_all (length text - (n + 1)) (drop (n + 1) text)
    (omega (arith, length-drop (n + 1) text)) in
    subst P (sym e) (cut_lines text (omega (arith, e, h))) ∙ ap (λ x. take n text ∷ lines_of x) (sym all)

pub lines_last : (text : List ℕ) (n : ℕ) → n ≡ line_end text → length text ≤ n → lines_of text ≡ text ∷ []
lines_last text n e h = last_line text (omega (arith, e, h))
