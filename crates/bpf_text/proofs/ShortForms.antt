-- No form has more than 40 tokens, so the first ones of a long line show as much as all.
use Rattle.std.proofs.Common.{◌≡◌, ℕ, ◌+◌, ◌*◌, ◌≤◌, List, [], ◌∷◌, ◌++◌, length, Option, Some, None, inl, inr, Ok, Err, Result, refl, sym}
use Rattle.std.proofs.Common.{ap, subst, ◌∙◌, arith, length-append, append-nil}
use Rattle.std.specs.Prelude.{ℤ}
use Rattle.bpf_insn.specs.declared.instruction.Insn.{Insn}
use Rattle.bpf_insn.specs.declared.instruction.Insn.TheVariants as insn
use Rattle.bpf_insn.specs.declared.register.Reg.{Reg}
use Rattle.bpf_insn.specs.declared.operation.widths.Width.{Width}
use Rattle.bpf_spelling.specs.declared.atomics.AtomicForm.{AtomicForm}
use Rattle.bpf_spelling.specs.declared.atomics.AtomicForm.TheVariants as form
use Rattle.bpf_spelling.specs.declared.keywords.Keyword.TheVariants as key
use Rattle.bpf_spelling.specs.declared.operators.Operator.{Operator}
use Rattle.bpf_spelling.specs.declared.operators.Operator.TheVariants.{Plain, Signed as SignedBy}
use Rattle.bpf_text.specs.declared.reading.LineError.{LineError}
use Rattle.bpf_text.specs.declared.reading.LineError.TheVariants.{BadLine, BadNumber, UnknownName}
use Rattle.bpf_spelling.specs.declared.signs.Sign.TheVariants.{Plus, Minus, Colon}
use Rattle.bpf_spelling.specs.Operators.{operator_of, comparison_of, atomic_form}
use Rattle.bpf_spelling.specs.Token.{Tok, Number, Mark}
use Rattle.bpf_spelling.specs.Form.{Item, Is, Blank, Signed, Natural, Hex, Offset, Target, Never, word, operand_item, operator_items, atomic_items, form_of}
use Rattle.bpf_text.specs.Line.{name_of, NaturalThen, NegatedThen, SignedThen, OffsetThen, TargetThen, ItemThen, Spells, Written, IsSpelled}
use Rattle.bpf_text.specs.Symbols.{Table, load_of}
use Rattle.bpf_text.specs.Assembly.{label_of, unlabelled, cut, Source, IsBody, IsBodyOr, IsBodyWith, IsLineWith}
use Rattle.bpf_text.specs.Tokens.{IsTokens}
use Rattle.bpf_text.specs.Private.Cutting.{BeginTokens}
use Rattle.bpf_text.proofs.ShortLoads.{no_load}

-- ---- what spells an item has two tokens at most

module _ (next : List Tok → Type 0) (k : ℕ) (short : (us : List Tok) → next us → length us ≤ k) where
  natural_short : (z : ℤ) (ts : List Tok) → NaturalThen z next ts → length ts ≤ k + 1
  natural_short z (Number n ∷ ts) s = let l = short ts s.1 in omega arith
  natural_short z ts s = absurd s

  negated_short : (z : ℤ) (ts : List Tok) → NegatedThen z next ts → length ts ≤ k + 1
  negated_short z (Number n ∷ ts) s = let l = short ts s.1 in omega arith
  negated_short z ts s = absurd s

  signed_short : (z : ℤ) (ts : List Tok) → SignedThen z next ts → length ts ≤ k + 2
  signed_short z (Mark Minus ∷ ts) s = let l = negated_short z ts s in omega arith
  signed_short z (Number n ∷ ts) s = let l = short ts s.1 in omega arith
  signed_short z ts s = absurd s

  offset_short : (z : ℤ) (ts : List Tok) → OffsetThen z next ts → length ts ≤ k + 2
  offset_short z (Mark Minus ∷ ts) s = let l = negated_short z ts s in omega arith
  offset_short z (Mark Plus ∷ ts) s = let l = natural_short z ts s in omega arith
  offset_short z ts s = absurd s

  target_short : (z : ℤ) (name : Option (List ℕ)) (ts : List Tok) → TargetThen z name next ts → length ts ≤ k + 2
  target_short z None ts s = offset_short z ts s
  target_short z (Some name) [] s = absurd s
  target_short z (Some name) (t ∷ ts) s = let l = short ts s.2 in omega arith

  item_short : (item : Item) (ts : List Tok) → ItemThen item next ts → length ts ≤ k + 2
  item_short (Is t) [] s = absurd s
  item_short (Is t) (u ∷ us) s = let l = short us s.1 in omega arith
  item_short Blank ts s = let l = short ts s in omega arith
  item_short (Signed z) ts s = signed_short z ts s
  item_short (Natural n) ts s = let l = natural_short _ ts s in omega arith
  item_short (Hex n) ts s = let l = natural_short _ ts s in omega arith
  item_short (Offset z) ts s = offset_short z ts s
  item_short (Target z name) ts s = target_short z name ts s
  item_short Never ts s = absurd s

spells_short : (is : List Item) (ts : List Tok) → Spells is ts → length ts ≤ 2 * length is
spells_short [] ts s = let none : length ts ≡ 0 = ap length s in omega arith
spells_short (i ∷ is) ts s = let l = item_short (Spells is) (2 * length is) (spells_short is) i ts s in omega arith

-- ---- a form has twenty items at most

operator_length : (o : Operator) → length (operator_items o) ≤ 2
operator_length (Plain s) = omega arith
operator_length (SignedBy s) = omega arith

atomic_length : (f : AtomicForm) (w : Width) (b : Reg) (o : ℤ) (r : Reg) → length (atomic_items f w b o r) ≤ 20
atomic_length (form.Locked s) w b o r = omega arith
atomic_length (form.Fetch k) w b o r = omega arith
atomic_length form.Exchange w b o r = omega arith
atomic_length form.CompareExchange w b o r = omega arith

form_length : (i : Insn) (name : Option (List ℕ)) → length (form_of i name) ≤ 20
form_length (insn.Alu w op d s) None = omega (
  arith,
  operator_length (operator_of op),
  length-append (operator_items (operator_of op))
      (Blank ∷ operand_item w s ∷ []),
)
form_length (insn.JumpIf w c d s o) name = omega (
  arith,
  operator_length (comparison_of c),
  length-append (operator_items (comparison_of c))
      (Blank ∷ operand_item w s ∷ Blank ∷ word key.Goto ∷ Blank ∷ Target o name ∷ []),
)
form_length (insn.Atomic w op b o s) None = atomic_length (atomic_form op) w b o s
form_length (insn.Negate w d) None = omega arith
form_length (insn.SignExtend e d s) None = omega arith
form_length (insn.SwapBytes k b d) None = omega arith
form_length (insn.Jump o) name = omega arith
form_length (insn.JumpLong o) name = omega arith
form_length (insn.CallHelper n) None = omega arith
form_length (insn.CallLocal o) name = omega arith
form_length insn.Exit None = omega arith
form_length (insn.Load z d b o) None = omega arith
form_length (insn.LoadSigned z d b o) None = omega arith
form_length (insn.StoreImmediate z b o v) None = omega arith
form_length (insn.Store z b o s) None = omega arith
form_length (insn.LoadNumber d n) None = omega arith
form_length (insn.LoadMap d n) None = omega arith
form_length (insn.Alu w op d s) (Some name) = omega arith
form_length (insn.Atomic w op b o s) (Some name) = omega arith
form_length (insn.Negate w d) (Some name) = omega arith
form_length (insn.SignExtend e d s) (Some name) = omega arith
form_length (insn.SwapBytes k b d) (Some name) = omega arith
form_length (insn.CallHelper n) (Some name) = omega arith
form_length insn.Exit (Some name) = omega arith
form_length (insn.Load z d b o) (Some name) = omega arith
form_length (insn.LoadSigned z d b o) (Some name) = omega arith
form_length (insn.StoreImmediate z b o v) (Some name) = omega arith
form_length (insn.Store z b o s) (Some name) = omega arith
form_length (insn.LoadNumber d n) (Some name) = omega arith
form_length (insn.LoadMap d n) (Some name) = omega arith

pub spelled_short : (i : Written) (ts : List Tok) → IsSpelled i ts → length ts ≤ 40
spelled_short i ts s = let l = spells_short (form_of i.insn i.name) ts s in let k = form_length i.insn i.name in omega arith

-- ---- the first tokens of a long line

front_label : (a b : Tok) (ts rest : List Tok) → label_of (a ∷ b ∷ (ts ++ rest)) ≡ label_of (a ∷ b ∷ ts)
unfolding label_of
front_label a (Mark Colon) ts rest = refl
front_label a b ts rest = refl

cut_more : (name : Option (List ℕ)) (us ts rest : List Tok) → cut name (us ++ rest) (ts ++ rest) ≡ cut name us ts ++ rest
cut_more (Some name) us ts rest = refl
cut_more None us ts rest = refl

pub front_body : (a b : Tok) (ts rest : List Tok) → unlabelled (a ∷ b ∷ (ts ++ rest)) ≡ unlabelled (a ∷ b ∷ ts) ++ rest
unfolding unlabelled
front_body a (Mark Colon) ts rest = cut_more (name_of a) ts (a ∷ Mark Colon ∷ ts) rest
front_body a b ts rest = refl

cut_long : (name : Option (List ℕ)) (us ts : List Tok) → length ts ≤ 2 + length us → length ts ≤ 2 + length (cut name us ts)
cut_long (Some name) us ts l = l
cut_long None us ts l = omega arith

pub body_long : (a b : Tok) (ts : List Tok) → length ts ≤ length (unlabelled (a ∷ b ∷ ts))
unfolding unlabelled
body_long a (Mark Colon) ts = let l = cut_long (name_of a) ts (a ∷ Mark Colon ∷ ts) (omega arith) in omega arith
body_long a b ts = omega arith

-- what is long has no form, and more of it hasn't either
still_none : (body : Result (Option Written) LineError) (ts rest : List Tok) → 41 ≤ length ts → IsBody body ts → IsBody body (ts ++ rest)
still_none (Ok None) ts rest long is = absurd (let none : length ts ≡ 0 = ap length is in omega arith)
still_none (Ok (Some i)) ts rest long is = absurd (let l = spelled_short i ts is.0 in omega arith)
still_none (Err BadNumber) ts rest long is = absurd (let l = spelled_short is.0 ts is.1 in omega arith)
still_none (Err BadLine) ts rest long is = (
  λ none. let z : length (ts ++ rest) ≡ 0 = ap length none in let l = length-append ts rest in absurd (omega arith),
  λ i s. let k = spelled_short i (ts ++ rest) s in let l = length-append ts rest in absurd (omega arith),
)
still_none (Err UnknownName) ts rest long is = absurd is

pub still_refused : (names : Option Table) (body : Result (Option Written) LineError) (ts rest : List Tok) → 41 ≤ length ts → IsBodyWith
    names body ts → IsBodyWith names body (ts ++ rest)
still_refused None body ts rest long is = still_none body ts rest long is
still_refused (Some table) body ts rest long is =
    let none : load_of ts ≡ None = no_load ts (omega arith) in
    let still : load_of (ts ++ rest) ≡ None = no_load (ts ++ rest) (omega (arith, length-append ts rest)) in
    let unnamed : IsBody body ts = subst (λ l. IsBodyOr table l body ts) none is in
    subst (λ l. IsBodyOr table l body (ts ++ rest)) (sym still) (still_none body ts rest long unnamed)

long_line : (names : Option Table) (line : List ℕ) (ts rest : List Tok) (s : Source) → IsTokens line (ts ++ rest) → 64 ≤ length ts → s.label
    ≡ label_of ts → IsBodyWith names s.body (unlabelled ts) → IsLineWith names line s
long_line names line [] rest s cut_up long label body = absurd (omega arith)
long_line names line (a ∷ []) rest s cut_up long label body = absurd (omega arith)
long_line names line (a ∷ b ∷ ts) rest s cut_up long label body = record {
  tokens = a ∷ b ∷ (ts ++ rest);
  cut_up = cut_up;
  labelled = label ∙ sym (front_label a b ts rest);
  body =
      let l = body_long a b ts in
      let both = still_refused names s.body (unlabelled (a ∷ b ∷ ts)) rest (omega arith) body in
      subst (λ (us : List Tok). IsBodyWith names s.body us) (sym (front_body a b ts rest)) both;
}

-- a line by its first tokens
pub line_of_tokens : (names : Option Table) (line : List ℕ) (ts : List Tok) (s : Source) → BeginTokens line ts → s.label ≡ label_of ts →
    IsBodyWith names s.body (unlabelled ts) → IsLineWith names line s
line_of_tokens names line ts s (rest, cut_up, inl none) label body = record {
  tokens = ts;
  cut_up = subst (λ (us : List Tok). IsTokens line us) (ap (λ (r : List Tok). ts ++ r) none ∙ append-nil ts) cut_up;
  labelled = label;
  body = body;
}
line_of_tokens names line ts s (rest, cut_up, inr long) label body = long_line names line ts rest s cut_up long label body
