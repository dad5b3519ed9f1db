-- A word is looked up among those with its first letter.
use Rattle.std.proofs.Common.{◌≡◌, ◌≢◌, ◌<◌, ◌≤◌, ℕ, ◌==◌, length, get_or, false, List, [], ◌∷◌, None, refl, sym, subst, arith}
use Rattle.std.proofs.lemmas.Bool.Decides.{nat_tests}
use Rattle.bpf_spelling.specs.declared.keywords.TheConstants.{ON_S, ON_I, ON_G, ON_C, ON_E, ON_L, ON_M, ON_U, ON_B, ON_A, ON_X}
use Rattle.bpf_spelling.specs.declared.registers.TheConstants.{WHOLE, LOW}
use Rattle.bpf_spelling.specs.Names.{register_of, keyword_of}
use Rattle.bpf_spelling.specs.Private.Letters.{named, spelled}

other : (a b : ℕ) → b ≢ a → (a == b) ≡ false
other a b h = grind (arith, nat_tests)

no_register : register_of [] ≡ None
unfolding register_of
no_register = refl

on_r : (b : ℕ) (w : List ℕ) → b ≡ 114 → named WHOLE (b ∷ w) ≡ register_of (b ∷ w)
unfolding register_of
on_r b w e = let P : ℕ → Type 0 = λ a. named WHOLE (a ∷ w) ≡ register_of (a ∷ w) in subst P (sym e) refl

on_w : (b : ℕ) (w : List ℕ) → b ≡ 119 → named LOW (b ∷ w) ≡ register_of (b ∷ w)
unfolding register_of
on_w b w e = let P : ℕ → Type 0 = λ a. named LOW (a ∷ w) ≡ register_of (a ∷ w) in subst P (sym e) refl

on_no_register : (b : ℕ) (w : List ℕ) → b ≢ 114 → b ≢ 119 → register_of (b ∷ w) ≡ None
unfolding register_of
on_no_register b w h k = let x = other 114 b h in let y = other 119 b k in simp (x, y)

no_keyword : keyword_of [] ≡ None
unfolding keyword_of
no_keyword = refl

on_s : (b : ℕ) (w : List ℕ) → b ≡ 115 → spelled ON_S (b ∷ w) ≡ keyword_of (b ∷ w)
unfolding keyword_of
on_s b w e = let P : ℕ → Type 0 = λ a. spelled ON_S (a ∷ w) ≡ keyword_of (a ∷ w) in subst P (sym e) refl

on_i : (b : ℕ) (w : List ℕ) → b ≡ 105 → spelled ON_I (b ∷ w) ≡ keyword_of (b ∷ w)
unfolding keyword_of
on_i b w e = let P : ℕ → Type 0 = λ a. spelled ON_I (a ∷ w) ≡ keyword_of (a ∷ w) in subst P (sym e) refl

on_g : (b : ℕ) (w : List ℕ) → b ≡ 103 → spelled ON_G (b ∷ w) ≡ keyword_of (b ∷ w)
unfolding keyword_of
on_g b w e = let P : ℕ → Type 0 = λ a. spelled ON_G (a ∷ w) ≡ keyword_of (a ∷ w) in subst P (sym e) refl

on_c : (b : ℕ) (w : List ℕ) → b ≡ 99 → spelled ON_C (b ∷ w) ≡ keyword_of (b ∷ w)
unfolding keyword_of
on_c b w e = let P : ℕ → Type 0 = λ a. spelled ON_C (a ∷ w) ≡ keyword_of (a ∷ w) in subst P (sym e) refl

on_e : (b : ℕ) (w : List ℕ) → b ≡ 101 → spelled ON_E (b ∷ w) ≡ keyword_of (b ∷ w)
unfolding keyword_of
on_e b w e = let P : ℕ → Type 0 = λ a. spelled ON_E (a ∷ w) ≡ keyword_of (a ∷ w) in subst P (sym e) refl

on_l : (b : ℕ) (w : List ℕ) → b ≡ 108 → spelled ON_L (b ∷ w) ≡ keyword_of (b ∷ w)
unfolding keyword_of
on_l b w e = let P : ℕ → Type 0 = λ a. spelled ON_L (a ∷ w) ≡ keyword_of (a ∷ w) in subst P (sym e) refl

on_m : (b : ℕ) (w : List ℕ) → b ≡ 109 → spelled ON_M (b ∷ w) ≡ keyword_of (b ∷ w)
unfolding keyword_of
on_m b w e = let P : ℕ → Type 0 = λ a. spelled ON_M (a ∷ w) ≡ keyword_of (a ∷ w) in subst P (sym e) refl

on_u : (b : ℕ) (w : List ℕ) → b ≡ 117 → spelled ON_U (b ∷ w) ≡ keyword_of (b ∷ w)
unfolding keyword_of
on_u b w e = let P : ℕ → Type 0 = λ a. spelled ON_U (a ∷ w) ≡ keyword_of (a ∷ w) in subst P (sym e) refl

on_b : (b : ℕ) (w : List ℕ) → b ≡ 98 → spelled ON_B (b ∷ w) ≡ keyword_of (b ∷ w)
unfolding keyword_of
on_b b w e = let P : ℕ → Type 0 = λ a. spelled ON_B (a ∷ w) ≡ keyword_of (a ∷ w) in subst P (sym e) refl

on_a : (b : ℕ) (w : List ℕ) → b ≡ 97 → spelled ON_A (b ∷ w) ≡ keyword_of (b ∷ w)
unfolding keyword_of
on_a b w e = let P : ℕ → Type 0 = λ a. spelled ON_A (a ∷ w) ≡ keyword_of (a ∷ w) in subst P (sym e) refl

on_x : (b : ℕ) (w : List ℕ) → b ≡ 120 → spelled ON_X (b ∷ w) ≡ keyword_of (b ∷ w)
unfolding keyword_of
on_x b w e = let P : ℕ → Type 0 = λ a. spelled ON_X (a ∷ w) ≡ keyword_of (a ∷ w) in subst P (sym e) refl

on_no_keyword : (b : ℕ) (w : List ℕ) → b ≢ 115 → b ≢ 105 → b ≢ 103 → b ≢ 99 → b ≢ 101 → b ≢ 108 → b ≢ 109 → b ≢ 117 → b ≢ 98 → b ≢ 97 → b ≢
    120 → keyword_of (b ∷ w) ≡ None
unfolding keyword_of
on_no_keyword b w hs hi hg hc he hl hm hu hb ha hx =
    let xs = other 115 b hs in
    let xi = other 105 b hi in
    let xg = other 103 b hg in
    let xc = other 99 b hc in
    let xe = other 101 b he in
    let xl = other 108 b hl in
    let xm = other 109 b hm in
    let xu = other 117 b hu in
    let xb = other 98 b hb in
    let xa = other 97 b ha in
    let xx = other 120 b hx in
    simp (xs, xi, xg, xc, xe, xl, xm, xu, xb, xa, xx)

-- ---- words, by their first byte

pub no_register_short : (w : List ℕ) → length w < 1 → register_of w ≡ None
no_register_short [] h = no_register
no_register_short (b ∷ w) h = absurd (omega arith)

pub first_r : (w : List ℕ) → 1 ≤ length w → get_or w 0 0 ≡ 114 → named WHOLE w ≡ register_of w
first_r [] h e = absurd (omega arith)
first_r (b ∷ w) h e = on_r b w e

pub first_w : (w : List ℕ) → 1 ≤ length w → get_or w 0 0 ≡ 119 → named LOW w ≡ register_of w
first_w [] h e = absurd (omega arith)
first_w (b ∷ w) h e = on_w b w e

pub no_register_first : (w : List ℕ) → 1 ≤ length w → get_or w 0 0 ≢ 114 → get_or w 0 0 ≢ 119 → register_of w ≡ None
no_register_first [] h hr hw = absurd (omega arith)
no_register_first (b ∷ w) h hr hw = on_no_register b w hr hw

pub no_keyword_short : (w : List ℕ) → length w < 1 → keyword_of w ≡ None
no_keyword_short [] h = no_keyword
no_keyword_short (b ∷ w) h = absurd (omega arith)

pub first_s : (w : List ℕ) → 1 ≤ length w → get_or w 0 0 ≡ 115 → spelled ON_S w ≡ keyword_of w
first_s [] h e = absurd (omega arith)
first_s (b ∷ w) h e = on_s b w e

pub first_i : (w : List ℕ) → 1 ≤ length w → get_or w 0 0 ≡ 105 → spelled ON_I w ≡ keyword_of w
first_i [] h e = absurd (omega arith)
first_i (b ∷ w) h e = on_i b w e

pub first_g : (w : List ℕ) → 1 ≤ length w → get_or w 0 0 ≡ 103 → spelled ON_G w ≡ keyword_of w
first_g [] h e = absurd (omega arith)
first_g (b ∷ w) h e = on_g b w e

pub first_c : (w : List ℕ) → 1 ≤ length w → get_or w 0 0 ≡ 99 → spelled ON_C w ≡ keyword_of w
first_c [] h e = absurd (omega arith)
first_c (b ∷ w) h e = on_c b w e

pub first_e : (w : List ℕ) → 1 ≤ length w → get_or w 0 0 ≡ 101 → spelled ON_E w ≡ keyword_of w
first_e [] h e = absurd (omega arith)
first_e (b ∷ w) h e = on_e b w e

pub first_l : (w : List ℕ) → 1 ≤ length w → get_or w 0 0 ≡ 108 → spelled ON_L w ≡ keyword_of w
first_l [] h e = absurd (omega arith)
first_l (b ∷ w) h e = on_l b w e

pub first_m : (w : List ℕ) → 1 ≤ length w → get_or w 0 0 ≡ 109 → spelled ON_M w ≡ keyword_of w
first_m [] h e = absurd (omega arith)
first_m (b ∷ w) h e = on_m b w e

pub first_u : (w : List ℕ) → 1 ≤ length w → get_or w 0 0 ≡ 117 → spelled ON_U w ≡ keyword_of w
first_u [] h e = absurd (omega arith)
first_u (b ∷ w) h e = on_u b w e

pub first_b : (w : List ℕ) → 1 ≤ length w → get_or w 0 0 ≡ 98 → spelled ON_B w ≡ keyword_of w
first_b [] h e = absurd (omega arith)
first_b (b ∷ w) h e = on_b b w e

pub first_a : (w : List ℕ) → 1 ≤ length w → get_or w 0 0 ≡ 97 → spelled ON_A w ≡ keyword_of w
first_a [] h e = absurd (omega arith)
first_a (b ∷ w) h e = on_a b w e

pub first_x : (w : List ℕ) → 1 ≤ length w → get_or w 0 0 ≡ 120 → spelled ON_X w ≡ keyword_of w
first_x [] h e = absurd (omega arith)
first_x (b ∷ w) h e = on_x b w e

pub no_keyword_first : (w : List ℕ) → 1 ≤ length w → get_or w 0 0 ≢ 115 → get_or w 0 0 ≢ 105 → get_or w 0 0 ≢ 103 → get_or w 0 0 ≢ 99 →
    get_or w 0 0 ≢ 101 → get_or w 0 0 ≢ 108 → get_or w 0 0 ≢ 109 → get_or w 0 0 ≢ 117 → get_or w 0 0 ≢ 98 → get_or w 0 0 ≢ 97 → get_or w 0 0
    ≢ 120 → keyword_of w ≡ None
no_keyword_first [] h hs hi hg hc he hl hm hu hb ha hx = absurd (omega arith)
no_keyword_first (b ∷ w) h hs hi hg hc he hl hm hu hb ha hx = on_no_keyword b w hs hi hg hc he hl hm hu hb ha hx
