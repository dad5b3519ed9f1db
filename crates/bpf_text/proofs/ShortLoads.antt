-- A load by a name has four to six tokens.
use Rattle.std.proofs.Common.{◌≡◌, ℕ, ◌≤◌, List, [], ◌∷◌, length, Option, Some, None, Err, refl, arith}
use Rattle.std.specs.Option.{option_and_then}
use Rattle.bpf_insn.specs.declared.register.Reg.{Reg}
use Rattle.bpf_insn.specs.declared.operation.widths.Width.TheVariants.{Bits64}
use Rattle.bpf_spelling.specs.declared.keywords.Keyword.TheVariants as key
use Rattle.bpf_spelling.specs.declared.signs.Sign.TheVariants as sign
use Rattle.bpf_spelling.specs.Token.{Tok, Register, Word, Number, Mark}
use Rattle.bpf_text.specs.declared.reading.LineError.TheVariants.{UnknownName}
use Rattle.bpf_text.specs.Assembly.{IsBodyOr, IsBodyWith}
use Rattle.bpf_text.specs.Line.{name_of}
use Rattle.bpf_text.specs.Symbols.{Load, Table, beside, address_loaded, name_loaded, load_of}

-- ---- at most

beside_short : (d : Reg) (name : List ℕ) (ts : List Tok) (l : Load) → beside d name ts ≡ Some l → length ts ≤ 2
unfolding beside
beside_short d name [] l e = omega arith
beside_short d name (Mark sign.Plus ∷ Number n ∷ []) l e = omega arith
beside_short d name (Mark sign.Minus ∷ Number n ∷ []) l e = omega arith
beside_short d name ts l e = cc

address_short : (d : Reg) (ts : List Tok) (l : Load) → address_loaded d ts ≡ Some l → length ts ≤ 3
unfolding address_loaded
address_short d [] l e = cc
address_short d (t ∷ ts) l e = by_name (name_of t) e
  where
    by_name : (o : Option (List ℕ)) → option_and_then (λ name. beside d name ts) o ≡ Some l → length (t ∷ ts) ≤ 3
    by_name None h = cc
    by_name (Some name) h = let short = beside_short d name ts l h in omega arith

name_short : (d : Reg) (ts : List Tok) (l : Load) → name_loaded d ts ≡ Some l → length ts ≤ 4
unfolding name_loaded
name_short d (Word key.Map ∷ t ∷ []) l e = omega arith
name_short d (Mark sign.And ∷ ts) l e = let short = address_short d ts l e in omega arith
name_short d ts l e = cc

pub load_short : (ts : List Tok) (l : Load) → load_of ts ≡ Some l → length ts ≤ 6
unfolding load_of
load_short (Register Bits64 d ∷ Mark sign.Assign ∷ ts) l e = let short = name_short d ts l e in omega arith
load_short ts l e = cc

pub no_load : (ts : List Tok) → 7 ≤ length ts → load_of ts ≡ None
no_load ts long = by_result (load_of ts) refl
  where
    by_result : (o : Option Load) → load_of ts ≡ o → o ≡ None
    by_result None e = refl
    by_result (Some l) e = absurd (let short = load_short ts l e in omega arith)

-- ---- at least

address_long : (d : Reg) (ts : List Tok) (l : Load) → address_loaded d ts ≡ Some l → 1 ≤ length ts
unfolding address_loaded
address_long d [] l e = cc
address_long d (t ∷ ts) l e = omega arith

name_long : (d : Reg) (ts : List Tok) (l : Load) → name_loaded d ts ≡ Some l → 2 ≤ length ts
unfolding name_loaded
name_long d (Word key.Map ∷ t ∷ []) l e = omega arith
name_long d (Mark sign.And ∷ ts) l e = let long = address_long d ts l e in omega arith
name_long d ts l e = cc

load_long : (ts : List Tok) (l : Load) → load_of ts ≡ Some l → 4 ≤ length ts
unfolding load_of
load_long (Register Bits64 d ∷ Mark sign.Assign ∷ ts) l e = let long = name_long d ts l e in omega arith
load_long ts l e = cc

unknown_or_long : (table : Table) (ts : List Tok) (o : Option Load) → load_of ts ≡ o → IsBodyOr table o (Err UnknownName) ts → 3 ≤ length ts
unknown_or_long table ts (Some l) e h = let long = load_long ts l e in omega arith
unknown_or_long table ts None e h = absurd h

-- a line with a name that nothing has has it
pub unknown_long : (names : Option Table) (ts : List Tok) → IsBodyWith names (Err UnknownName) ts → 3 ≤ length ts
unknown_long None ts h = absurd h
unknown_long (Some table) ts h = unknown_or_long table ts (load_of ts) refl h
