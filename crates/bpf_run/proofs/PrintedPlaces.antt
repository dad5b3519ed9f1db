-- What is printed, cut into lines, and what follows each.
use Rattle.std.proofs.Common.{◌≡◌, ◌∙◌, ◌<◌, ◌==◌, Bool, ℕ, List, [], ◌∷◌, ◌++◌, append_assoc, append-nil, length, refl, sym, ap, subst}
use Rattle.std.specs.Prelude.{codes}
use Rattle.std.specs.List.{after_first, before_first, position_or_len}
use Rattle.std.proofs.lemmas.List.Splits.{slice_split_first, slice_split_none}
use Rattle.std.proofs.lemmas.List.Sums.{fails_before_first}
use Rattle.bpf_lines.specs.Lines.{lines_of}
use Rattle.bpf_run.specs.Hung.{HavePlaces, MayFollow}

-- a text with a line feed, and one without
pub is_cut : (text line behind : List ℕ) → position_or_len (λ b. b == 10) text < length text → line ≡ before_first (λ b. b == 10) text
    → behind ≡ after_first (λ b. b == 10) text → lines_of text ≡ line ∷ lines_of behind
is_cut text line behind inside is rest =
    slice_split_first (λ b. b == 10) text 0 inside
    ∙ (ap (λ (l : List ℕ). l ∷ lines_of (after_first (λ b. b == 10) text)) (sym is) ∙ ap (λ (l : List ℕ). line ∷ lines_of l) (sym rest))

pub is_one : (text : List ℕ) → position_or_len (λ b. b == 10) text ≡ length text → lines_of text ≡ text ∷ []
is_one text whole = slice_split_none (λ b. b == 10) text
    (λ k d inside. fails_before_first (λ b. b == 10) text k d (subst (λ (n : ℕ). k < n) (sym whole) inside))

module _ (x86 : Bool) (file : List ℕ) (all : List (List ℕ)) where
  -- a text that begins what follows all lines, where these are left
  abbrev pub Begins : List (List ℕ) → List ℕ → Type 0
  Begins lines text = (more : List ℕ) → HavePlaces x86 file lines more → HavePlaces x86 file all (text ++ more)

  pub one_more : (rest lines : List (List ℕ)) (line text after : List ℕ) → Begins rest text → rest ≡ line ∷ lines
      → (places : List ℕ) × MayFollow x86 file line places × (after ≡ text ++ ((line ++ codes "\n") ++ places)) → Begins lines after
  one_more rest lines line text after begins is (places, may, same) more have =
      let head : List ℕ = line ++ codes "\n" in
      let next : HavePlaces x86 file (line ∷ lines) (head ++ (places ++ more)) = (places, more, may, have, refl) in
      let left : HavePlaces x86 file rest (head ++ (places ++ more)) =
      subst (λ (ls : List (List ℕ)). HavePlaces x86 file ls (head ++ (places ++ more))) (sym is) next in
      let joined : after ++ more ≡ text ++ (head ++ (places ++ more)) =
      ap (λ (t : List ℕ). t ++ more) same ∙ (append_assoc text (head ++ places) more ∙ ap (λ (t : List ℕ). text ++ t) (append_assoc head places more)) in
      subst (λ (t : List ℕ). HavePlaces x86 file all t) (sym joined) (begins (head ++ (places ++ more)) left)

  pub no_more : (rest : List (List ℕ)) (text : List ℕ) → Begins rest text → rest ≡ [] → HavePlaces x86 file all text
  no_more rest text begins none =
      subst (λ (t : List ℕ). HavePlaces x86 file all t) (append-nil text)
      (begins [] (subst (λ (ls : List (List ℕ)). HavePlaces x86 file ls []) (sym none) refl))
