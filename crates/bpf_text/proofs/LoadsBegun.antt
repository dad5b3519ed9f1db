-- Tokens that begin a load by a name.
use Rattle.std.proofs.Common.{◌≡◌, ℕ, Bool, true, ◌&&◌, is_some, List, [], ◌∷◌, ◌++◌, Option, Some, None, refl, sym, ◌∙◌}
use Rattle.std.specs.Prelude.{IsTrue, ◌↔◌}
use Rattle.std.specs.Option.{option_and_then}
use Rattle.std.proofs.lemmas.Bool.{and_parts}
use Rattle.bpf_insn.specs.declared.register.Reg.{Reg}
use Rattle.bpf_insn.specs.declared.register.Reg.TheVariants.{R0}
use Rattle.bpf_insn.specs.declared.operation.widths.Width.TheVariants.{Bits64}
use Rattle.bpf_spelling.specs.declared.keywords.Keyword.TheVariants as key
use Rattle.bpf_spelling.specs.declared.signs.Sign.TheVariants as sign
use Rattle.bpf_spelling.specs.Token.{Tok, Register, Word, Name, Number, Mark}
use Rattle.bpf_text.specs.Line.{name_of}
use Rattle.bpf_text.specs.Misfit.{LoadGoesOn}
use Rattle.bpf_text.specs.Symbols.{Load, MapOf, After, Before, beside, address_loaded, name_loaded, load_of}
use Rattle.bpf_text.specs.Private.Loads.{begins_number, begins_beside, begins_address, begins_map, begins_name, begins_assigned, begins_load}

-- with some tokens after them they are a load, as this reads it
abbrev Ends : (List Tok → Option Load) → List Tok → Type 0
Ends read ts = (load : Load) × (others : List Tok) × (read (ts ++ others) ≡ Some load)

-- ---- what begins a load goes on to one

after_ends : (d : Reg) (name : List ℕ) (ts : List Tok) → begins_number ts ≡ true → Ends (λ us. beside d name (Mark sign.Plus ∷ us)) ts
unfolding beside
after_ends d name [] h = (After d name 0, Number 0 ∷ [], refl)
after_ends d name (Number n ∷ []) h = (After d name n, [], refl)
after_ends d name ts h = cc

before_ends : (d : Reg) (name : List ℕ) (ts : List Tok) → begins_number ts ≡ true → Ends (λ us. beside d name (Mark sign.Minus ∷ us)) ts
unfolding beside
before_ends d name [] h = (Before d name 0, Number 0 ∷ [], refl)
before_ends d name (Number n ∷ []) h = (Before d name n, [], refl)
before_ends d name ts h = cc

beside_ends : (d : Reg) (name : List ℕ) (ts : List Tok) → begins_beside ts ≡ true → Ends (beside d name) ts
unfolding beside
beside_ends d name [] h = (After d name 0, [], refl)
beside_ends d name (Mark sign.Plus ∷ ts) h = after_ends d name ts h
beside_ends d name (Mark sign.Minus ∷ ts) h = before_ends d name ts h
beside_ends d name ts h = cc

address_ends : (d : Reg) (ts : List Tok) → begins_address ts ≡ true → Ends (address_loaded d) ts
unfolding address_loaded beside
address_ends d [] h = (After d [] 0, Name [] ∷ [], refl)
address_ends d (t ∷ ts) h = let both = and_parts (is_some (name_of t)) (begins_beside ts) h in by_name (name_of t) both.0 both.1
  where
    by_name : (o : Option (List ℕ)) → is_some o ≡ true → begins_beside ts ≡ true → Ends (λ us. option_and_then (λ name. beside d name us) o) ts
    by_name None e g = cc
    by_name (Some name) e g = beside_ends d name ts g

map_ends : (d : Reg) (ts : List Tok) → begins_map ts ≡ true → Ends (λ us. name_loaded d (Word key.Map ∷ us)) ts
unfolding name_loaded
map_ends d [] h = (MapOf d [], Name [] ∷ [], refl)
map_ends d (t ∷ []) h = let found = by_name (name_of t) h in (found.0, [], found.1)
  where
    by_name : (o : Option (List ℕ)) → is_some o ≡ true → (load : Load) × (option_and_then (λ name. Some (MapOf d name)) o ≡ Some load)
    by_name None e = cc
    by_name (Some name) e = (MapOf d name, refl)
map_ends d ts h = cc

name_ends : (d : Reg) (ts : List Tok) → begins_name ts ≡ true → Ends (name_loaded d) ts
unfolding name_loaded
name_ends d [] h = (MapOf d [], Word key.Map ∷ Name [] ∷ [], refl)
name_ends d (Word key.Map ∷ ts) h = map_ends d ts h
name_ends d (Mark sign.And ∷ ts) h = address_ends d ts h
name_ends d ts h = cc

assigned_ends : (d : Reg) (ts : List Tok) → begins_assigned ts ≡ true → Ends (λ us. load_of (Register Bits64 d ∷ us)) ts
unfolding load_of name_loaded
assigned_ends d [] h = (MapOf d [], Mark sign.Assign ∷ Word key.Map ∷ Name [] ∷ [], refl)
assigned_ends d (Mark sign.Assign ∷ ts) h = name_ends d ts h
assigned_ends d ts h = cc

begun_goes_on : (ts : List Tok) → begins_load ts ≡ true → LoadGoesOn ts
unfolding load_of name_loaded
begun_goes_on [] h = (MapOf R0 [], Register Bits64 R0 ∷ Mark sign.Assign ∷ Word key.Map ∷ Name [] ∷ [], refl)
begun_goes_on (Register Bits64 d ∷ ts) h = assigned_ends d ts h
begun_goes_on ts h = cc

-- ---- what goes on to a load begins one

after_begun : (d : Reg) (name : List ℕ) (ts others : List Tok) (l : Load) → beside d name (Mark sign.Plus ∷ (ts ++ others)) ≡ Some l → begins_number ts ≡ true
unfolding beside
after_begun d name [] others l e = refl
after_begun d name (Number n ∷ []) others l e = refl
after_begun d name ts others l e = cc

before_begun : (d : Reg) (name : List ℕ) (ts others : List Tok) (l : Load) → beside d name (Mark sign.Minus ∷ (ts ++ others)) ≡ Some l → begins_number ts ≡ true
unfolding beside
before_begun d name [] others l e = refl
before_begun d name (Number n ∷ []) others l e = refl
before_begun d name ts others l e = cc

beside_begun : (d : Reg) (name : List ℕ) (ts others : List Tok) (l : Load) → beside d name (ts ++ others) ≡ Some l → begins_beside ts ≡ true
unfolding beside
beside_begun d name [] others l e = refl
beside_begun d name (Mark sign.Plus ∷ ts) others l e = after_begun d name ts others l e
beside_begun d name (Mark sign.Minus ∷ ts) others l e = before_begun d name ts others l e
beside_begun d name ts others l e = cc

address_begun : (d : Reg) (ts others : List Tok) (l : Load) → address_loaded d (ts ++ others) ≡ Some l → begins_address ts ≡ true
unfolding address_loaded
address_begun d [] others l e = refl
address_begun d (t ∷ ts) others l e = by_name (name_of t) e
  where
    by_name : (o : Option (List ℕ)) → option_and_then (λ name. beside d name (ts ++ others)) o ≡ Some l → (is_some o && begins_beside ts) ≡ true
    by_name None h = cc
    by_name (Some name) h = beside_begun d name ts others l h

map_begun : (d : Reg) (ts others : List Tok) (l : Load) → name_loaded d (Word key.Map ∷ (ts ++ others)) ≡ Some l → begins_map ts ≡ true
unfolding name_loaded
map_begun d [] others l e = refl
map_begun d (t ∷ []) [] l e = by_name (name_of t) e
  where
    by_name : (o : Option (List ℕ)) → option_and_then (λ name. Some (MapOf d name)) o ≡ Some l → is_some o ≡ true
    by_name None h = cc
    by_name (Some name) h = refl
map_begun d (t ∷ []) (u ∷ us) l e = cc
map_begun d (t ∷ u ∷ ts) others l e = cc

name_begun : (d : Reg) (ts others : List Tok) (l : Load) → name_loaded d (ts ++ others) ≡ Some l → begins_name ts ≡ true
unfolding name_loaded
name_begun d [] others l e = refl
name_begun d (Word key.Map ∷ ts) others l e = map_begun d ts others l e
name_begun d (Mark sign.And ∷ ts) others l e = address_begun d ts others l e
name_begun d ts others l e = cc

assigned_begun : (d : Reg) (ts others : List Tok) (l : Load) → load_of (Register Bits64 d ∷ (ts ++ others)) ≡ Some l → begins_assigned ts ≡ true
unfolding load_of
assigned_begun d [] others l e = refl
assigned_begun d (Mark sign.Assign ∷ ts) others l e = name_begun d ts others l e
assigned_begun d ts others l e = cc

goes_on_begun : (ts others : List Tok) (l : Load) → load_of (ts ++ others) ≡ Some l → begins_load ts ≡ true
unfolding load_of
goes_on_begun [] others l e = refl
goes_on_begun (Register Bits64 d ∷ ts) others l e = assigned_begun d ts others l e
goes_on_begun ts others l e = cc

pub load_goes_on_is : (b : Bool) (ts : List Tok) → b ≡ begins_load ts → IsTrue b ↔ LoadGoesOn ts
load_goes_on_is b ts e = (λ h. begun_goes_on ts (sym e ∙ h), λ g. e ∙ goes_on_begun ts g.1 g.0 g.2)
