-- The lines of what was read, where more is read.
use Rattle.std.proofs.Common.{◌≡◌, ◌∙◌, ℕ, Bool, true, false, List, [], ◌∷◌, ◌++◌, ap, refl, subst, sym}
use Rattle.std.specs.Prelude.{◌==◌}
use Rattle.std.specs.List.{onto_first}
use Rattle.std.proofs.lemmas.List.Splits.{slice_split-cons_yes, slice_split-cons_no}
use Rattle.bpf_lines.specs.Lines.{lines_of}

-- all lines but the last, and the last
abbrev body_of : List (List ℕ) → List (List ℕ)
body_of [] = []
body_of (line ∷ []) = []
body_of (line ∷ next ∷ lines) = line ∷ body_of (next ∷ lines)

abbrev last_of : List (List ℕ) → List ℕ
last_of [] = []
last_of (line ∷ []) = line
last_of (line ∷ next ∷ lines) = last_of (next ∷ lines)

body_is : (lines : List (List ℕ)) (last : List ℕ) → body_of (lines ++ last ∷ []) ≡ lines
body_is [] last = refl
body_is (line ∷ []) last = refl
body_is (line ∷ next ∷ lines) last = ap (λ (ls : List (List ℕ)). line ∷ ls) (body_is (next ∷ lines) last)

last_is : (lines : List (List ℕ)) (last : List ℕ) → last_of (lines ++ last ∷ []) ≡ last
last_is [] last = refl
last_is (line ∷ []) last = refl
last_is (line ∷ next ∷ lines) last = last_is (next ∷ lines) last

abbrev First : List ℕ → Type 0
First text = (line : List ℕ) × (lines : List (List ℕ)) × (lines_of text ≡ line ∷ lines)

first_at : (b : ℕ) (text : List ℕ) (ends : Bool) → (b == 10) ≡ ends → First text → First (b ∷ text)
first_at b text true e rest = ([], lines_of text, slice_split-cons_yes (λ b. b == 10) b text e)
first_at b text false e rest = (b ∷ rest.0, rest.1, slice_split-cons_no (λ b. b == 10) b text e ∙ ap (onto_first b) rest.2)

-- there is a first line
first_of : (text : List ℕ) → First text
first_of [] = ([], [], refl)
first_of (b ∷ text) = first_at b text (b == 10) refl (first_of text)

abbrev Goes : (text more : List ℕ) (lines : List (List ℕ)) → Type 0
Goes text more lines = lines_of (text ++ more) ≡ body_of lines ++ lines_of (last_of lines ++ more)

one_more : (b : ℕ) (text more line : List ℕ) (lines : List (List ℕ)) (ends : Bool) → (b == 10) ≡ ends → lines_of text ≡ line ∷ lines → Goes
    text more (line ∷ lines)
    → Goes (b ∷ text) more (lines_of (b ∷ text))
one_more b text more line lines true e is goes =
    subst (Goes (b ∷ text) more) (sym (slice_split-cons_yes (λ b. b == 10) b text e ∙ ap (λ (ls : List (List ℕ)). [] ∷ ls) is))
    (slice_split-cons_yes (λ b. b == 10) b (text ++ more) e ∙ ap (λ (ls : List (List ℕ)). [] ∷ ls) goes)
one_more b text more line [] false e is goes =
    subst (Goes (b ∷ text) more) (sym (slice_split-cons_no (λ b. b == 10) b text e ∙ ap (onto_first b) is))
    (slice_split-cons_no (λ b. b == 10) b (text ++ more) e ∙ ap (onto_first b) goes ∙ sym (slice_split-cons_no (λ b. b == 10) b (line ++ more) e))
one_more b text more line (next ∷ lines) false e is goes =
    subst (Goes (b ∷ text) more) (sym (slice_split-cons_no (λ b. b == 10) b text e ∙ ap (onto_first b) is))
    (slice_split-cons_no (λ b. b == 10) b (text ++ more) e ∙ ap (onto_first b) goes)

goes : (text more : List ℕ) → Goes text more (lines_of text)
goes [] more = refl
goes (b ∷ text) more =
    let first = first_of text in
    one_more b text more first.0 first.1 (b == 10) refl first.2 (subst (Goes text more) first.2 (goes text more))

-- what is read goes on with the last line
pub lines_on : (text more : List ℕ) (lines : List (List ℕ)) (last : List ℕ) → lines_of text ≡ lines ++ last ∷ [] → lines_of (text ++ more) ≡
    lines ++ lines_of (last ++ more)
lines_on text more lines last is =
    goes text more ∙ ap (λ (ls : List (List ℕ)). body_of ls ++ lines_of (last_of ls ++ more)) is
    ∙ ap (λ (ls : List (List ℕ)). ls ++ lines_of (last_of (lines ++ last ∷ []) ++ more)) (body_is lines last)
    ∙ ap (λ (l : List ℕ). lines ++ lines_of (l ++ more)) (last_is lines last)
