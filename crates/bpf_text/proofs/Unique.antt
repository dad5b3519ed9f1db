-- A text stands for one thing alone.
use Rattle.std.proofs.Common.{◌≡◌, ℕ, List, [], ◌∷◌, Option, Some, None, Result, Ok, Err, refl, sym, ap, subst, ◌∙◌}
use Rattle.std.proofs.Common.{◌⊎◌, inl, inr}
use Rattle.std.specs.Prelude.{MatchResult, IfOk, IfErr}
use mathlib.Core.Path.{fun_ext}
use Rattle.bpf_text.specs.declared.labels.Place.{Place}
use Rattle.bpf_text.specs.declared.error.TextError.TheVariants.{OutOfMemory}
use Rattle.bpf_insn.specs.declared.instruction.Insn.{Insn}
use Rattle.bpf_insn.specs.Encoding.{Fits}
use Rattle.bpf_text.specs.declared.error.TextError.{TextError}
use Rattle.bpf_text.specs.declared.reading.LineError.{LineError}
use Rattle.bpf_text.specs.declared.reading.LineError.TheVariants.{BadLine, BadNumber, UnknownName}
use Rattle.bpf_spelling.specs.Token.{Tok}
use Rattle.bpf_text.specs.Tokens.{after_blanks}
use Rattle.bpf_text.specs.Line.{Written, IsSpelled}
use Rattle.bpf_text.specs.Private.Lines.{line_at}
use Rattle.bpf_text.specs.Symbols.{Table, Load, load_of}
use Rattle.bpf_text.specs.Assembly.{Source, IsBody, IsBodyOr, IsBodyWith, IsLineWith, AreLinesWith, AssemblesWith, label_of, unlabelled}
use Rattle.bpf_text.specs.Assembly.{first_place, program_of}
use Rattle.bpf_lines.specs.Lines.{lines_of}
use Rattle.bpf_text.proofs.Complete.{line_complete}
use Rattle.bpf_text.specs.Private.Sources.{KeptLine, kept_program, Gathers}
use Rattle.bpf_text.proofs.TextLemmas.{kept_means}
use Rattle.bpf_text.proofs.Scanning.{same_tokens}

one_insn : (ts : List Tok) (i j : Written) → IsSpelled i ts → IsSpelled j ts → i ≡ j
one_insn ts i j s t = let both : Some i ≡ Some j = sym (line_complete i.insn i.name ts s) ∙ line_complete j.insn j.name ts t in cc

nothing_read : line_at [] ≡ None
unfolding line_at
nothing_read = refl

pub not_nothing : (ts : List Tok) (i : Written) → IsSpelled i ts → ts ≡ [] → ⊥
not_nothing ts i s e = let both : Some i ≡ None = sym (line_complete i.insn i.name ts s) ∙ ap line_at e ∙ nothing_read in cc

pub one_body : (ts : List Tok) (a b : Result (Option Written) LineError) → IsBody a ts → IsBody b ts → a ≡ b
one_body ts (Ok None) (Ok None) x y = refl
one_body ts (Ok None) (Ok (Some j)) x y = absurd (not_nothing ts j y.0 x)
one_body ts (Ok None) (Err BadNumber) x y = absurd (not_nothing ts y.0 y.1 x)
one_body ts (Ok None) (Err BadLine) x y = absurd (y.0 x)
one_body ts (Ok (Some i)) (Ok None) x y = absurd (not_nothing ts i x.0 y)
one_body ts (Ok (Some i)) (Ok (Some j)) x y = ap (λ k. Ok (Some k)) (one_insn ts i j x.0 y.0)
one_body ts (Ok (Some i)) (Err BadNumber) x y = let P : Written → Type 0 = λ k. Fits k.insn in absurd (y.2 (subst P (one_insn ts i y.0 x.0 y.1) x.1))
one_body ts (Ok (Some i)) (Err BadLine) x y = absurd (y.1 i x.0)
one_body ts (Err BadNumber) (Ok None) x y = absurd (not_nothing ts x.0 x.1 y)
one_body ts (Err BadNumber) (Ok (Some j)) x y = let P : Written → Type 0 = λ k. Fits k.insn in absurd (x.2 (subst P (one_insn ts j x.0 y.0 x.1) y.1))
one_body ts (Err BadNumber) (Err BadNumber) x y = refl
one_body ts (Err BadNumber) (Err BadLine) x y = absurd (y.1 x.0 x.1)
one_body ts (Err BadLine) (Ok None) x y = absurd (x.0 y)
one_body ts (Err BadLine) (Ok (Some j)) x y = absurd (x.1 j y.0)
one_body ts (Err BadLine) (Err BadNumber) x y = absurd (x.1 y.0 y.1)
one_body ts (Err BadLine) (Err BadLine) x y = refl
one_body ts (Err UnknownName) b x y = absurd x
one_body ts a (Err UnknownName) x y = absurd y

one_body_or : (table : Table) (load : Option Load) (ts : List Tok) (a b : Result (Option Written) LineError) → IsBodyOr table load a ts →
    IsBodyOr table load b ts → a ≡ b
one_body_or table (Some load) ts a b x y = x ∙ sym y
one_body_or table None ts a b x y = one_body ts a b x y

pub one_body_with : (names : Option Table) (ts : List Tok) (a b : Result (Option Written) LineError) → IsBodyWith names a ts → IsBodyWith names b ts → a ≡ b
one_body_with None ts a b x y = one_body ts a b x y
one_body_with (Some table) ts a b x y = one_body_or table (load_of ts) ts a b x y

source : Option (List ℕ) → Result (Option Written) LineError → Source
source label body = record { label = label; body = body }

pub one_line : (names : Option Table) (line : List ℕ) (a b : Source) → IsLineWith names line a → IsLineWith names line b → a ≡ b
unfolding source
one_line names line a b x y =
    let tokens : y.tokens ≡ x.tokens = same_tokens x.tokens y.tokens (after_blanks line) x.cut_up y.cut_up in
    let labels : a.label ≡ b.label = x.labelled ∙ ap label_of (sym tokens) ∙ sym y.labelled in
    let P : List Tok → Type 0 = λ ts. IsBodyWith names b.body (unlabelled ts) in
    let bodies : a.body ≡ b.body = one_body_with names (unlabelled x.tokens) a.body b.body x.body (subst P tokens y.body) in
    let first : source a.label a.body ≡ source b.label a.body = ap (λ l. source l a.body) labels in
    let second : source b.label a.body ≡ source b.label b.body = ap (source b.label) bodies in
    first ∙ second

one_list : (names : Option Table) (ls : List (List ℕ)) (a b : List Source) → AreLinesWith names ls a → AreLinesWith names ls b → a ≡ b
one_list names [] [] [] x y = refl
one_list names [] [] (t ∷ ts) x y = absurd y
one_list names [] (s ∷ ss) b x y = absurd x
one_list names (l ∷ ls) [] b x y = absurd x
one_list names (l ∷ ls) (s ∷ ss) [] x y = absurd y
one_list names (l ∷ ls) (s ∷ ss) (t ∷ ts) x y = ap (λ z. z ∷ ss) (one_line names l s t x.0 y.0) ∙ ap (λ z. t ∷ z) (one_list names ls ss ts x.1 y.1)

pub one_outcome : (names : Option Table) (text : List ℕ) (r q : Result (List Insn) TextError) → AssemblesWith names text r → AssemblesWith names text q → q ≡ r
one_outcome names text r q x y =
    let same : y.sources ≡ x.sources = one_list names (lines_of text) y.sources x.sources y.lines x.lines in
    y.meant ∙ ap (λ ss. program_of (first_place ss 0 0) 0 0 ss) same ∙ sym x.meant

-- what the lines that are kept mean is what the text stands for
pub gathered_outcome : (names : Option Table) (text : List ℕ) (labels : List ℕ → Option Place) (kept : List KeptLine) → Gathers names text
    labels kept → AssemblesWith names text (kept_program labels 0 kept)
gathered_outcome names text labels kept g = record {
  sources = g.sources;
  lines = g.lines;
  meant = ap (kept_program labels 0) g.kept_lines ∙ kept_means labels 0 0 g.sources ∙ ap (λ f. program_of f 0 0 g.sources) (fun_ext g.places);
}

-- what a call answers, by what the lines mean
abbrev pub Answers : {V : Type 0} → (V → List Insn) → Result V TextError → Result (List Insn) TextError → Type 0
Answers items result outcome = MatchResult result (λ v. outcome ≡ Ok (items v)) (λ e. (e ≡ OutOfMemory) ⊎ (outcome ≡ Err e))

pub answered : {V : Type 0} (items : V → List Insn) (names : Option Table) (text : List ℕ) (outcome : Result (List Insn) TextError)
    (result : Result V TextError) → AssemblesWith names text outcome → Answers items result outcome → IfOk result
    (λ v. AssemblesWith names text (Ok (items v)))
answered items names text outcome (Ok v) h e = let P : Result (List Insn) TextError → Type 0 = λ r. AssemblesWith names text r in subst P e h
answered items names text outcome (Err e) h k = tt

pub answered_refusal : {V : Type 0} (items : V → List Insn) (names : Option Table) (text : List ℕ) (outcome : Result (List Insn) TextError)
    (result : Result V TextError) → AssemblesWith names text outcome → Answers items result outcome
    → IfErr result (λ e. (e ≡ OutOfMemory) ⊎ AssemblesWith names text (Err e))
answered_refusal items names text outcome (Ok v) h e = tt
answered_refusal items names text outcome (Err e) h (inl memory) = inl memory
answered_refusal items names text outcome (Err e) h (inr refused) = inr
    (let P : Result (List Insn) TextError → Type 0 = λ r. AssemblesWith names text r in subst P refused h)

pub answered_only : {V : Type 0} (items : V → List Insn) (names : Option Table) (text : List ℕ)
    (outcome other : Result (List Insn) TextError) (result : Result V TextError) → AssemblesWith names text outcome → Answers items result
    outcome → AssemblesWith names text other → Answers items result other
answered_only {V} items names text outcome other result h k o =
    let P : Result (List Insn) TextError → Type 0 = λ r. Answers items result r in subst P (sym (one_outcome names text outcome other h o)) k
