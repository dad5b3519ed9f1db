-- What tokens spell the pieces of a form.
use Rattle.std.specs.Prelude.{◌≡◌, ℕ, List, [], ◌∷◌, Option, Some, None, ℤ, pos, neg_ℤ}
use Rattle.bpf_insn.specs.declared.instruction.Insn.{Insn}
use Rattle.bpf_spelling.specs.declared.signs.Sign.TheVariants.{Plus, Minus}
use Rattle.bpf_spelling.specs.Names.{register_text, keyword_text}
use Rattle.bpf_spelling.specs.Token.{Tok, Register, Word, Name, Number, Mark}
use Rattle.bpf_spelling.specs.Form.{Item, Is, Blank, Signed, Natural, Hex, Offset, Target, Never, form_of}

-- the name that a word is: any word that doesn't begin with a digit
abbrev pub name_of : Tok → Option (List ℕ)
name_of (Register w r) = Some (register_text w r)
name_of (Word k) = Some (keyword_text k)
name_of (Name w) = Some w
name_of t = None

-- a token, and what follows it
abbrev pub TokenThen : Tok → (List Tok → Type 0) → List Tok → Type 0
TokenThen t next [] = ⊥
TokenThen t next (u ∷ us) = (u ≡ t) × next us

-- a number without a sign
abbrev pub NaturalThen : ℤ → (List Tok → Type 0) → List Tok → Type 0
NaturalThen z next (Number n ∷ ts) = (z ≡ pos n) × next ts
NaturalThen z next ts = ⊥

-- a number after `-`
abbrev pub NegatedThen : ℤ → (List Tok → Type 0) → List Tok → Type 0
NegatedThen z next (Number n ∷ ts) = (z ≡ neg_ℤ (pos n)) × next ts
NegatedThen z next ts = ⊥

-- a number, `-` before it where it is below zero (-0 is 0)
abbrev pub SignedThen : ℤ → (List Tok → Type 0) → List Tok → Type 0
SignedThen z next (Mark Minus ∷ ts) = NegatedThen z next ts
SignedThen z next ts = NaturalThen z next ts

-- a number after `+` or `-`
abbrev pub OffsetThen : ℤ → (List Tok → Type 0) → List Tok → Type 0
OffsetThen z next (Mark Minus ∷ ts) = NegatedThen z next ts
OffsetThen z next (Mark Plus ∷ ts) = NaturalThen z next ts
OffsetThen z next ts = ⊥

-- a label's name, which stands for no distance yet
abbrev pub LabelThen : ℤ → List ℕ → (List Tok → Type 0) → List Tok → Type 0
LabelThen z name next [] = ⊥
LabelThen z name next (t ∷ ts) = (z ≡ pos 0) × (name_of t ≡ Some name) × next ts

abbrev pub TargetThen : ℤ → Option (List ℕ) → (List Tok → Type 0) → List Tok → Type 0
TargetThen z None next ts = OffsetThen z next ts
TargetThen z (Some name) next ts = LabelThen z name next ts

abbrev pub ItemThen : Item → (List Tok → Type 0) → List Tok → Type 0
ItemThen (Is t) next ts = TokenThen t next ts
ItemThen Blank next ts = next ts
ItemThen (Signed z) next ts = SignedThen z next ts
ItemThen (Natural n) next ts = NaturalThen (pos n) next ts
ItemThen (Hex n) next ts = NaturalThen (pos n) next ts
ItemThen (Offset z) next ts = OffsetThen z next ts
ItemThen (Target z name) next ts = TargetThen z name next ts
ItemThen Never next ts = ⊥

-- the tokens are those of the items, one after the other
abbrev pub Spells : List Item → List Tok → Type 0
Spells [] ts = ts ≡ []
Spells (i ∷ is) ts = ItemThen i (Spells is) ts

-- an instruction as it is written: its numbers of any size, its target perhaps a label's name
pub record Written : Type 0 where
  pub insn : Insn
  pub name : Option (List ℕ)

abbrev pub IsSpelled : Written → List Tok → Type 0
IsSpelled i ts = Spells (form_of i.insn i.name) ts
