-- What is left of a text after its first lines.
use Rattle.std.proofs.Common.{◌≡◌, ℕ, ◌+◌, ◌==◌, List, [], ◌∷◌, ◌++◌, length, length-append, take, append_assoc, append-nil, Option, Some}
use Rattle.std.proofs.Common.{None, refl, sym, ap, ◌∙◌, arith}
use Rattle.std.specs.List.{join_with_byte}
use Rattle.std.proofs.Math.Seq.{take-append_seam}
use Rattle.std.proofs.lemmas.List.Splits.{join_with_byte-slice_split, length-slice_split}
use Rattle.bpf_lines.specs.Lines.{lines_of, lines_behind, rest_size}
use Rattle.bpf_file.specs.Programs.{text_of_lines}

-- what follows a line, with its line feed
abbrev pub behind_line : Option (List ℕ) → List ℕ
behind_line None = []
behind_line (Some text) = 10 ∷ text

joined : (text : List ℕ) → join_with_byte 10 (lines_of text) ≡ text
joined text = join_with_byte-slice_split 10 text

join_more : (line : List ℕ) (ls : List (List ℕ)) (text : List ℕ) → ls ≡ lines_of text → join_with_byte 10 (line ∷ ls) ≡ line ++ 10 ∷ join_with_byte 10 ls
join_more line (l ∷ ls) text e = refl
join_more line [] text e =
    absurd (omega (arith, ap length e, length-slice_split (λ b. b == 10) text))

-- a text is its first line and what follows it
pub line_cut : (left line : List ℕ) (behind : Option (List ℕ)) → lines_of left ≡ line ∷ lines_behind behind → left ≡ line ++ behind_line behind
line_cut left line None e = sym (joined left) ∙ ap (join_with_byte 10) e ∙ sym (append-nil line)
line_cut left line (Some text) e =
    sym (joined left) ∙ ap (join_with_byte 10) e ∙ join_more line (lines_of text) text refl
    ∙ ap (λ t. line ++ 10 ∷ t) (joined text)

behind_size : (behind : Option (List ℕ)) → length (behind_line behind) ≡ rest_size behind
behind_size None = refl
behind_size (Some text) = omega arith

pub line_size : (left line : List ℕ) (behind : Option (List ℕ)) → lines_of left ≡ line ∷ lines_behind behind → length left ≡ length line + rest_size behind
line_size left line behind e =
    ap length (line_cut left line behind e) ∙ length-append line (behind_line behind)
    ∙ ap (λ k. length line + k) (behind_size behind)

text_of-append : (ls : List (List ℕ)) (l : List ℕ) (t : List ℕ) → text_of_lines (ls ++ l ∷ []) ++ t ≡ text_of_lines ls ++ (l ++ 10 ∷ t)
text_of-append [] l t = append_assoc l (10 ∷ []) t
text_of-append (m ∷ ls) l t =
    append_assoc m (10 ∷ text_of_lines (ls ++ l ∷ [])) t
    ∙ ap (λ x. m ++ 10 ∷ x) (text_of-append ls l t)
    ∙ sym (append_assoc m (10 ∷ text_of_lines ls) (l ++ 10 ∷ t))

-- where something is left, the text is that and the lines before it
abbrev pub Remains : List ℕ → List (List ℕ) → Option (List ℕ) → Type 0
Remains text body None = Unit {0}
Remains text body (Some left) = text ≡ text_of_lines body ++ left

pub remains_next : (text left line : List ℕ) (body : List (List ℕ)) (behind : Option (List ℕ)) → text ≡ text_of_lines body ++ left → left ≡
    line ++ behind_line behind → Remains text (body ++ line ∷ []) behind
remains_next text left line body None e h = tt
remains_next text left line body (Some b) e h =
    e ∙ ap (λ t. text_of_lines body ++ t) h ∙ sym (text_of-append body line b)

-- where so much of the text was passed over, those are the lines before what is left
pub passed_size : (text left : List ℕ) (body : List (List ℕ)) (size : ℕ) → Remains text body (Some left) → size + length left ≡ length text
    → size ≡ length (text_of_lines body)
passed_size text left body size is sum =
    let all : length text ≡ length (text_of_lines body) + length left = ap length is ∙ length-append (text_of_lines body) left in
    omega (arith, sum, all)

pub passed_text : (text left : List ℕ) (body : List (List ℕ)) (size : ℕ) → Remains text body (Some left) → size + length left ≡ length text
    → take size text ≡ text_of_lines body
passed_text text left body size is sum =
    ap (λ k. take k text) (passed_size text left body size is sum) ∙ ap (take (length (text_of_lines body))) is ∙ take-append_seam (text_of_lines body) left
