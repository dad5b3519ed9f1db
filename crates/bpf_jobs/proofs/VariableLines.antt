-- Lines of variables.
use Rattle.std.proofs.Common.{◌≡◌, ℕ, zero, suc, ◌+◌, ◌<◌, ◌≤◌, Bool, false, true, ◌||◌, if◌then◌else◌, List, [], ◌∷◌, ◌++◌, Option, Some}
use Rattle.std.proofs.Common.{None, length, map, drop, get_or, refl, sym, ap, append-nil, subst, ◌∙◌, arith}
use Rattle.std.specs.Prelude.{slice_get, slice_index}
use Rattle.std.proofs.Math.Seq.{drop-cons}
use Rattle.std.proofs.lemmas.List.{drop_all}
use Rattle.bpf_shared.specs.declared.shapes.ArrayShape.{ArrayShape}
use Rattle.bpf_shared.specs.Shape.{IsArray}
use Rattle.bpf_shared.specs.Store.{Plain, fixed_number}
use Rattle.bpf_names.specs.declared.names.Variable.{Variable as NamedBytes}
use Rattle.bpf_names.specs.Names.{Variable, variable_of}
use Rattle.bpf_jobs.specs.Printed.{Called, is_set_outside, is_shown, line_of_variable, variable_line, variable_lines, variable_text}

-- ---- variables

there : (vs : List NamedBytes) (i : ℕ) (v : NamedBytes) → i < length vs → v ≡ get_or vs i v → slice_get (map variable_of vs) i ≡ Some (variable_of v)
there [] i v inside is = absurd (omega arith)
there (x ∷ vs) zero v inside is = ap (λ (y : NamedBytes). Some (variable_of y)) (sym is)
there (x ∷ vs) (suc i) v inside is = there vs i v (omega arith) is

-- one variable more
pub one_variable_more : (s : Plain) (vs : List NamedBytes) (i : ℕ) (v : NamedBytes) (text new : List ℕ) → i < length vs → v ≡ get_or vs i v
    → text ≡ variable_lines s (map variable_of vs) i → new ≡ text ++ variable_text s (variable_of v) (slice_get s.shape.arrays v.array)
    → new ≡ variable_lines s (map variable_of vs) (i + 1)
one_variable_more s vs i v text new inside is so_far more =
    let next : suc i ≡ i + 1 = omega arith in
    let all = map variable_of vs in
    let line = variable_text s (variable_of v) (slice_get s.shape.arrays v.array) in
    subst (λ (n : ℕ). new ≡ variable_lines s all n) next
    (more ∙ (ap (λ (t : List ℕ). t ++ line) so_far ∙ ap (λ (o : Option Variable). variable_lines s all i ++ line_of_variable s o)
    (sym (there vs i v inside is))))

-- the line of one whose array may be written
pub variable_open : (s : Plain) (v : Variable) (g : ArrayShape) → g.frozen ≡ false → IsArray s.shape.arrays v.array g
    → variable_text s v (slice_get s.shape.arrays v.array) ≡ variable_line v (s.value (fixed_number v.array 0 0)).bytes
variable_open s v g is array = ap (variable_text s v) array ∙ ap (λ (b : Bool). if b then [] else variable_line v (s.value (fixed_number v.array 0 0)).bytes) is

-- there is none of one whose array may only be read
pub variable_closed : (s : Plain) (v : Variable) (g : ArrayShape) → g.frozen ≡ true → IsArray s.shape.arrays v.array g → variable_text s v
    (slice_get s.shape.arrays v.array) ≡ []
variable_closed s v g is array = ap (variable_text s v) array ∙ ap
    (λ (b : Bool). if b then [] else variable_line v (s.value (fixed_number v.array 0 0)).bytes) is

-- that of its number
pub number_line : (s : Plain) (v : Variable) (g : ArrayShape) (value old new : List ℕ) → g.frozen ≡ false → IsArray s.shape.arrays v.array g
    → Some value ≡ Some (s.value (fixed_number v.array 0 0)).bytes
    → new ≡ old ++ variable_line v value → new ≡ old ++ variable_text s v (slice_get s.shape.arrays v.array)
number_line s v g value old new written there found more =
    let same : value ≡ (s.value (fixed_number v.array 0 0)).bytes = cc in
    more ∙ (ap (λ (b : List ℕ). old ++ variable_line v b) same ∙ ap (λ (t : List ℕ). old ++ t) (sym (variable_open s v g written there)))

-- and nothing
pub no_line : (s : Plain) (v : Variable) (g : ArrayShape) (old : List ℕ) → g.frozen ≡ true → IsArray s.shape.arrays v.array g → old ≡ old ++
    variable_text s v (slice_get s.shape.arrays v.array)
no_line s v g old closed there = sym (append-nil old) ∙ ap (λ (t : List ℕ). old ++ t) (sym (variable_closed s v g closed there))

-- ---- bytes of an array's first value
at_byte : (c : Called) (bytes : List ℕ) (at : ℕ) → at < length bytes → is_set_outside c at (drop at bytes) ≡
    (is_shown c at (slice_index bytes at) || is_set_outside c (at + 1) (drop (at + 1) bytes))
at_byte c bytes at inside =
    let next : suc at ≡ at + 1 = omega arith in
    ap (is_set_outside c at) (drop-cons bytes at 0 inside)
    ∙ ap (λ (n : ℕ). is_shown c at (slice_index bytes at) || is_set_outside c (at + 1) (drop n bytes)) next

pub byte_shown : (c : Called) (bytes : List ℕ) (at : ℕ) → at < length bytes → is_shown c at (slice_index bytes at) ≡ true → is_set_outside c
    at (drop at bytes) ≡ true
byte_shown c bytes at inside so = at_byte c bytes at inside ∙ ap (λ (b : Bool). b || is_set_outside c (at + 1) (drop (at + 1) bytes)) so

pub byte_hidden : (c : Called) (bytes : List ℕ) (at : ℕ) → at < length bytes → is_shown c at (slice_index bytes at) ≡ false → is_set_outside
    c at (drop at bytes) ≡ is_set_outside c (at + 1) (drop (at + 1) bytes)
byte_hidden c bytes at inside so = at_byte c bytes at inside ∙ ap (λ (b : Bool). b || is_set_outside c (at + 1) (drop (at + 1) bytes)) so

pub bytes_over : (c : Called) (bytes : List ℕ) (at : ℕ) → length bytes ≤ at → is_set_outside c at (drop at bytes) ≡ false
bytes_over c bytes at past = ap (is_set_outside c at) (drop_all at bytes past)
