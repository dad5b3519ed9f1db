-- Lines that were made objects, and what is left of a text.
use Rattle.std.proofs.Common.{◌≡◌, ℕ, ◌==◌, true, List, [], ◌∷◌, ◌++◌, refl, sym, ap, ◌∙◌, inl, inr, length, arith}
use Rattle.std.specs.Prelude.{All, codes}
use Rattle.std.proofs.lemmas.Bool.{eqb-true}
use Rattle.std.proofs.lemmas.List.{append_assoc, append-nil}
use Rattle.std.proofs.lemmas.List.Concat.{flat_map-append}
use Rattle.std.proofs.lemmas.List.Elements.{All-push}
use Rattle.bpf_json.specs.declared.known.Known.{Known}
use Rattle.bpf_json.specs.declared.line.Line.{Line}
use Rattle.bpf_json.specs.Lines.{IsRight, plain, object, lines_of, IsLineOf, AreObjectsOf}

-- so far these lines are printed, and this is left
abbrev pub Told : Known → (text rest objects : List ℕ) → Type 0
Told k text rest objects = (lines : List Line) × All IsRight lines
    × (text ≡ lines_of plain lines ++ rest) × (objects ≡ lines_of (object k) lines)

pub told_nothing : (k : Known) (text objects : List ℕ) → objects ≡ [] → Told k text text objects
told_nothing k text objects e = ([], (λ i d l. absurd (omega arith)), refl, e)

one_more : (write : Line → List ℕ) (lines : List Line) (l : Line) → lines_of write (lines ++ l ∷ []) ≡ lines_of write lines ++ (write l ++ codes "\n")
one_more write lines l = flat_map-append (λ l. write l ++ codes "\n") lines (l ∷ []) ∙ ap (λ (x : List ℕ). lines_of write lines ++ x)
    (append-nil (write l ++ codes "\n"))

-- what is written before a line, and after it
told_so : (write : Line → List ℕ) (lines : List Line) (l : Line) (behind : List ℕ) → lines_of write lines ++ (write l ++ (10 ∷ behind)) ≡
    lines_of write (lines ++ l ∷ []) ++ behind
told_so write lines l behind =
    ap (λ (x : List ℕ). lines_of write lines ++ x) (sym (append_assoc (write l) (codes "\n") behind))
    ∙ (sym (append_assoc (lines_of write lines) (write l ++ codes "\n") behind)
    ∙ ap (λ (x : List ℕ). x ++ behind) (sym (one_more write lines l)))

pub told_more : (k : Known) (text rest line behind old new : List ℕ) → Told k text rest old → rest ≡ line ++ (10 ∷ behind) → IsLineOf k line
    old new → Told k text behind new
told_more k text rest line behind old new (lines, right, is, are) cut (made, (l, r, same, of), more) = (
  lines ++ l ∷ [],
  All-push IsRight lines l right r,
  is ∙ (ap (λ (x : List ℕ). lines_of plain lines ++ x) (cut ∙ ap (λ (x : List ℕ). x ++ (10 ∷ behind)) (sym same)) ∙ told_so plain lines l behind),
  more ∙ (ap (λ (x : List ℕ). x ++ (made ++ codes "\n")) are ∙ (ap (λ (x : List ℕ). lines_of (object k) lines ++ (x ++ codes "\n"))
      of ∙ sym (one_more (object k) lines l))),
)

pub told_all : (k : Known) (text rest objects : List ℕ) → Told k text rest objects → rest ≡ [] → AreObjectsOf k text objects
told_all k text rest objects (lines, right, is, are) e =
    (lines, right, inl (is ∙ (ap (λ (x : List ℕ). lines_of plain lines ++ x) e ∙ append-nil (lines_of plain lines))), are)

pub told_last : (k : Known) (text rest old new : List ℕ) → Told k text rest old → IsLineOf k rest old new → AreObjectsOf k text new
told_last k text rest old new (lines, right, is, are) (made, (l, r, same, of), more) = (
  lines ++ l ∷ [],
  All-push IsRight lines l right r,
  inr (ap (λ (x : List ℕ). x ++ codes "\n") (is ∙ ap (λ (x : List ℕ). lines_of plain lines ++ x) (sym same))
      ∙ (append_assoc (lines_of plain lines) (plain l) (codes "\n") ∙ sym (one_more plain lines l))),
  more ∙ (ap (λ (x : List ℕ). x ++ (made ++ codes "\n")) are ∙ (ap (λ (x : List ℕ). lines_of (object k) lines ++ (x ++ codes "\n"))
      of ∙ sym (one_more (object k) lines l))),
)

pub none_left : (rest : List ℕ) → (length rest == 0) ≡ true → rest ≡ []
none_left [] e = refl
none_left (x ∷ xs) e = absurd (let none : length (x ∷ xs) ≡ 0 = eqb-true (length (x ∷ xs)) 0 e in omega (arith, none))
