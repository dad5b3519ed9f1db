-- What covers some bytes, where each span is on the grid: the element there, if it is among the spans.
use Rattle.std.proofs.Common.{◌≡◌, ℕ, ◌-◌, ◌<◌, ◌≤◌, Bool, true, false, List, [], ◌∷◌, Option, Some, None, refl, sym, ap, ◌∙◌, ◌==◌, ◌&&◌}
use Rattle.std.proofs.Common.{◌||◌, nat_le, nat_lt, arith, eq-eqb}
use Rattle.std.specs.Prelude.{All}
use Rattle.std.specs.List.{list_any}
use Rattle.std.proofs.lemmas.Bool.{and_parts, leb-true, ltb-true}
use Rattle.std.proofs.lemmas.Bool.Decides.{nat_tests}
use Rattle.std.proofs.lemmas.List.Elements.{All-head, All-tail}
use Rattle.bpf_shared.specs.declared.events.Span.{Span}
use Rattle.bpf_shared.specs.Passage.{same_span}
use Rattle.bpf_shared.specs.Shape.{IsIn}
use Rattle.bpf_helpers.specs.Arrays.{array_start}
use Rattle.bpf_helpers.specs.Held.{covers, has_span, is_covered, is_in, reaches}
use Rattle.bpf_helpers.specs.Private.Grid.{IsOnGrid}
use Rattle.bpf_helpers.proofs.Binned.{or_true, same_parts, settled}

-- ---- a span that covers bytes
covers_parts : (a n : ℕ) (p : Span) → covers a n p ≡ true → (p.at ≤ a) × (n ≤ p.size) × (a - p.at ≤ p.size - n)
covers_parts a n p e =
    let parts = and_parts (nat_le p.at a) (nat_le n p.size && nat_le (a - p.at) (p.size - n)) e in
    let rest = and_parts (nat_le n p.size) (nat_le (a - p.at) (p.size - n)) parts.1 in
    (leb-true p.at a parts.0, leb-true n p.size rest.0, leb-true (a - p.at) (p.size - n) rest.1)

first_in : (a n : ℕ) (p : Span) → 1 ≤ n → covers a n p ≡ true → IsIn a p
first_in a n p some e =
    let parts = covers_parts a n p e in
    let since = parts.0 in
    let fits = parts.1 in
    let near = parts.2 in
    (since, omega arith)

same_self : (p : Span) → same_span p p ≡ true
same_self p =
    let at : (p.at == p.at) ≡ true = eq-eqb p.at p.at refl in
    let size : (p.size == p.size) ≡ true = eq-eqb p.size p.size refl in
    ap (λ (b : Bool). b && (p.size == p.size)) at ∙ size

-- ---- among spans
record Covering (sizes : List ℕ) (spans : List Span) (a n : ℕ) : Type 0 where
  span : Span
  on : IsOnGrid sizes span
  covered : covers a n span ≡ true
  among : has_span spans span ≡ true

here : (sizes : List ℕ) (x : Span) (xs : List Span) (a n : ℕ) (b : Bool) → IsOnGrid sizes x → covers a n x ≡ b → b || list_any (covers a n) xs ≡ true
    → (list_any (covers a n) xs ≡ true → Covering sizes xs a n) → Covering sizes (x ∷ xs) a n
here sizes x xs a n true on is e rest = record {
  span = x;
  on = on;
  covered = is;
  among = ap (λ (b : Bool). b || list_any (λ q. same_span q x) xs) (same_self x);
}
here sizes x xs a n false on is e rest =
    let r = rest e in
    record {
      span = r.span;
      on = r.on;
      covered = r.covered;
      among = ap (λ (b : Bool). same_span x r.span || b) r.among ∙ or_true (same_span x r.span);
    }

covering : (sizes : List ℕ) (spans : List Span) (a n : ℕ) → All (IsOnGrid sizes) spans → is_covered spans a n ≡ true → Covering sizes spans a n
covering sizes [] a n all e = absurd cc
covering sizes (x ∷ xs) a n all e =
    here sizes x xs a n (covers a n x) (All-head (IsOnGrid sizes) x xs all) refl e (covering sizes xs a n (All-tail (IsOnGrid sizes) x xs all))

one_covers : (x q : Span) (xs : List Span) (a n : ℕ) (b : Bool) → covers a n q ≡ true → same_span x q ≡ b → b || has_span xs q ≡ true
    → (has_span xs q ≡ true → is_covered xs a n ≡ true) → covers a n x || is_covered xs a n ≡ true
one_covers x q xs a n true covered is e rest =
    let parts = same_parts x q is in
    let at : x.at ≡ q.at = parts.0 in
    let size : x.size ≡ q.size = parts.1 in
    let same : covers a n x ≡ covers a n q =
    ap (λ (k : ℕ). nat_le k a && (nat_le n x.size && nat_le (a - k) (x.size - n))) at
    ∙ ap (λ (k : ℕ). nat_le q.at a && (nat_le n k && nat_le (a - q.at) (k - n))) size in
    ap (λ (b : Bool). b || is_covered xs a n) (same ∙ covered)
one_covers x q xs a n false covered is e rest = ap (λ (b : Bool). covers a n x || b) (rest e) ∙ or_true (covers a n x)

sound : (spans : List Span) (q : Span) (a n : ℕ) → covers a n q ≡ true → has_span spans q ≡ true → is_covered spans a n ≡ true
sound [] q a n covered e = cc
sound (x ∷ xs) q a n covered e = one_covers x q xs a n (same_span x q) covered refl e (sound xs q a n covered)

agree : (b c : Bool) → (b ≡ true → c ≡ true) → (c ≡ true → b ≡ true) → b ≡ c
agree true c f g = sym (f refl)
agree false true f g = g refl
agree false false f g = refl

-- ---- the one element there
module _ (sizes : List ℕ) (spans : List Span) (a n : ℕ) (o : Option Span) (all : All (IsOnGrid sizes) spans) (some : 1 ≤ n)
    (there : (p : Span) → IsOnGrid sizes p → IsIn a p → o ≡ Some p) where
  pub not_there : o ≡ None → false ≡ is_covered spans a n
  not_there none = sym (settled (is_covered spans a n) (λ e.
      let c = covering sizes spans a n all e in
      let found = there c.span c.on (first_in a n c.span some c.covered) in
      absurd cc))

  one : (q : Span) (c : Covering sizes spans a n) → o ≡ Some q → c.span ≡ q
  one q c found =
      let other = there c.span c.on (first_in a n c.span some c.covered) in
      cc

  pub too_short : (q : Span) → o ≡ Some q → covers a n q ≡ false → false ≡ is_covered spans a n
  too_short q found short = sym (settled (is_covered spans a n) (λ e.
      let c = covering sizes spans a n all e in
      let same : covers a n c.span ≡ covers a n q = ap (covers a n) (one q c found) in
      let covered = c.covered in
      absurd cc))

  pub if_among : (q : Span) → o ≡ Some q → covers a n q ≡ true → has_span spans q ≡ is_covered spans a n
  if_among q found covered = agree (has_span spans q) (is_covered spans a n) (sound spans q a n covered) (λ e.
      let c = covering sizes spans a n all e in
      ap (has_span spans) (sym (one q c found)) ∙ c.among)

-- ---- past all maps
pub past_maps : (sizes : List ℕ) (spans : List Span) (a n : ℕ) → All (IsOnGrid sizes) spans → array_start 0 ≤ a → 1 ≤ n → is_covered spans a n ≡ false
past_maps sizes spans a n all past some = settled (is_covered spans a n) (λ e.
    let c = covering sizes spans a n all e in
    let parts = covers_parts a n c.span c.covered in
    let since = parts.0 in
    let fits = parts.1 in
    let near = parts.2 in
    let map = c.on.start.map in
    let at = c.on.start.at in
    let room = c.on.room in
    omega arith)

-- ---- one byte
byte_covered : (a : ℕ) (p : Span) → is_in a p ≡ covers a 1 p
byte_covered a p = agree (is_in a p) (covers a 1 p)
    (λ e.
    let parts = and_parts (nat_le p.at a) (nat_lt (a - p.at) p.size) e in
    let since : p.at ≤ a = leb-true p.at a parts.0 in
    let gap : a - p.at < p.size = ltb-true (a - p.at) p.size parts.1 in
    let fits : 1 ≤ p.size = omega arith in
    let near : a - p.at ≤ p.size - 1 = omega arith in
    grind (arith, nat_tests))
    (λ e.
    let parts = covers_parts a 1 p e in
    let since : p.at ≤ a = parts.0 in
    let fits : 1 ≤ p.size = parts.1 in
    let near : a - p.at ≤ p.size - 1 = parts.2 in
    let gap : a - p.at < p.size = omega arith in
    grind (arith, nat_tests))

pub reaches_byte : (spans : List Span) (a : ℕ) → reaches spans a ≡ is_covered spans a 1
unfolding reaches
reaches_byte [] a = refl
reaches_byte (x ∷ xs) a = ap (λ (b : Bool). b || list_any (is_in a) xs) (byte_covered a x) ∙ ap (λ (b : Bool). covers a 1 x || b) (reaches_byte xs a)
