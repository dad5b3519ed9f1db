-- The canonical text of forms, and of whole programs.
use Rattle.std.proofs.Common.{◌≡◌, ℕ, ◌+◌, ◌<◌, ◌≤◌, add-one, List, [], ◌∷◌, ◌++◌, append_assoc, append-nil, length, get_or, drop}
use Rattle.std.proofs.Common.{drop-cons, refl, sym, ap, ◌∙◌}
use Rattle.std.proofs.lemmas.List.{drop_all}
use Rattle.bpf_insn.specs.declared.instruction.Insn.{Insn}
use Rattle.bpf_spelling.specs.Form.{Item, item_text, text_of, line_of, canonical}

-- of one part of a line after another
pub append_texts : (is js : List Item) → text_of (is ++ js) ≡ text_of is ++ text_of js
append_texts [] js = refl
append_texts (i ∷ is) js = ap (λ t. item_text i ++ t) (append_texts is js) ∙ sym (append_assoc (item_text i) (text_of is) (text_of js))

behind : (line rest : List ℕ) → (line ++ 10 ∷ []) ++ rest ≡ line ++ 10 ∷ rest
behind line rest = append_assoc line (10 ∷ []) rest

-- one more line
pub grown : (text new : List ℕ) (is : List Insn) (k : ℕ) (d : Insn) → k < length is → new ≡ text ++ (line_of (get_or is k d) ++ 10 ∷ [])
    → text ++ canonical (drop k is) ≡ canonical is → new ++ canonical (drop (k + 1) is) ≡ canonical is
grown text new is k d lt e h =
    let line = line_of (get_or is k d) in
    let rest = canonical (drop (k + 1) is) in
    let next : canonical (drop k is) ≡ line ++ 10 ∷ rest = ap canonical (drop-cons is k d lt) ∙ ap (λ j. line ++ 10 ∷ canonical (drop j is))
    (sym (add-one k)) in
    ap (λ t. t ++ rest) e ∙ append_assoc text (line ++ 10 ∷ []) rest ∙ ap (λ t. text ++ t) (behind line rest ∙ sym next) ∙ h

-- no line is left
pub whole : (text : List ℕ) (is : List Insn) (k : ℕ) → length is ≤ k → text ++ canonical (drop k is) ≡ canonical is → text ≡ canonical is
whole text is k le h = sym (append-nil text) ∙ ap (λ js. text ++ canonical js) (sym (drop_all k is le)) ∙ h
