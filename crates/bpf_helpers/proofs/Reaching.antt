-- Addresses in held values.
use Rattle.std.proofs.Common.{◌≡◌, ℕ, suc, ◌+◌, ◌-◌, ◌<◌, ◌≤◌, Bool, true, false, List, [], ◌∷◌, ◌++◌, length, refl, ap, ◌∙◌, arith, nat_lt, nat_le}
use Rattle.std.specs.Prelude.{All, ◌&&◌, ◌||◌}
use Rattle.std.specs.List.{list_any}
use Rattle.std.proofs.lemmas.Bool.Decides.{nat_tests}
use Rattle.std.proofs.lemmas.List.Elements.{All-head, All-tail, All-weaker}
use Rattle.bpf_shared.specs.declared.events.Span.{Span}
use Rattle.bpf_shared.specs.declared.events.Size.TheVariants.{Byte}
use Rattle.bpf_shared.specs.declared.events.Event.{Event}
use Rattle.bpf_shared.specs.declared.events.Event.TheVariants.{Load}
use Rattle.bpf_shared.specs.Shape.{IsValueSpan}
use Rattle.bpf_shared.specs.Passage.{IsHeldPlace}
use Rattle.bpf_helpers.specs.Held.{AreHeld, covers, is_covered, is_in, reaches}
use Rattle.bpf_helpers.specs.Reads.{loads}

-- a span that has an address
pub record Found (P : Span → Type 0) (a : ℕ) : Type 0 where
  pub span : Span
  pub fact : P span
  pub since : span.at ≤ a
  pub before : a < span.at + span.size

both : (b c : Bool) → b && c ≡ true → (b ≡ true) × (c ≡ true)
both true true e = (refl, refl)
both true false e = cc
both false c e = cc

within : (a : ℕ) (p : Span) → is_in a p ≡ true → (p.at ≤ a) × (a < p.at + p.size)
within a p e =
    let parts = both (nat_le p.at a) (nat_lt (a - p.at) p.size) e in
    let low : nat_le p.at a ≡ true = parts.0 in
    let high : nat_lt (a - p.at) p.size ≡ true = parts.1 in
    let since : p.at ≤ a = grind (arith, nat_tests) in
    let gap : a - p.at < p.size = grind (arith, nat_tests) in
    (since, omega arith)

here : (P : Span → Type 0) (p : Span) (held : List Span) (a : ℕ) (b : Bool) → All P (p ∷ held) →
    (list_any (is_in a) held ≡ true → Found P a) → is_in a p ≡ b → b || list_any (is_in a) held ≡ true → Found P a
here P p held a true all rest inside e =
    let w = within a p inside in
    record { span = p; fact = All-head P p held all; since = w.0; before = w.1 }
here P p held a false all rest outside e = rest e

some : (P : Span → Type 0) (held : List Span) (a : ℕ) → All P held → list_any (is_in a) held ≡ true → Found P a
some P [] a all e = cc
some P (p ∷ held) a all e = here P p held a (is_in a p) all (some P held a (All-tail P p held all)) refl e

pub found : (P : Span → Type 0) (held : List Span) (a : ℕ) → All P held → reaches held a ≡ true → Found P a
unfolding reaches
found P held a all e = some P held a all e

-- a value's address
pub value_address : (held : List Span) (a : ℕ) → All IsValueSpan held → reaches held a ≡ true → a < 0x11_0000_0000
value_address held a all e =
    let f = found IsValueSpan held a all e in
    let to = f.fact.to in
    let before = f.before in
    omega arith

pub value_spans : (holds : Span → Bool) (held : List Span) → AreHeld holds held → All IsValueSpan held
value_spans holds held are = All-weaker (λ p. (holds p ≡ true) × IsValueSpan p) IsValueSpan (λ p h. h.1) held are

-- one byte of a held value may be loaded
pub held_byte : (holds : Span → Bool) (held : List Span) (a : ℕ) → AreHeld holds held → reaches held a ≡ true → IsHeldPlace holds a 1
held_byte holds held a are e =
    let f = found (λ p. (holds p ≡ true) × IsValueSpan p) held a are e in
    record {
      span = f.span;
      holds = f.fact.0;
      covers = (f.since, (let before = f.before in omega arith));
      aligned = omega arith;
    }

-- one load more
pub loads-append : (a b : ℕ) (bytes : List ℕ) (byte : ℕ) → b ≡ a + length bytes → loads a (bytes ++ byte ∷ []) ≡ loads a bytes ++ Load b Byte byte ∷ []
loads-append a b [] byte e = ap (λ (n : ℕ). Load n Byte byte ∷ []) (let same : a ≡ b = omega arith in same)
loads-append a b (x ∷ xs) byte e = ap (λ (es : List Event). Load a Byte x ∷ es) (loads-append (suc a) b xs byte (omega arith))

-- ---- bytes that one span has
or_true : (b : Bool) → b || true ≡ true
or_true true = refl
or_true false = refl

one_reached : (a n k : ℕ) (p : Span) → k < n → covers a n p ≡ true → is_in (a + k) p ≡ true
one_reached a n k p l e =
    let parts = both (nat_le p.at a) (nat_le n p.size && nat_le (a - p.at) (p.size - n)) e in
    let rest = both (nat_le n p.size) (nat_le (a - p.at) (p.size - n)) parts.1 in
    let low : nat_le p.at a ≡ true = parts.0 in
    let long : nat_le n p.size ≡ true = rest.0 in
    let near : nat_le (a - p.at) (p.size - n) ≡ true = rest.1 in
    let since : p.at ≤ a = grind (arith, nat_tests) in
    let fits : n ≤ p.size = grind (arith, nat_tests) in
    let gap : a - p.at ≤ p.size - n = grind (arith, nat_tests) in
    let from : p.at ≤ a + k = omega arith in
    let to : a + k - p.at < p.size = omega arith in
    let first : nat_le p.at (a + k) ≡ true = grind (arith, nat_tests) in
    let second : nat_lt (a + k - p.at) p.size ≡ true = grind (arith, nat_tests) in
    ap (λ (b : Bool). b && nat_lt (a + k - p.at) p.size) first ∙ second

next_reached : (p : Span) (held : List Span) (a n k : ℕ) → k < n → (b : Bool) → covers a n p ≡ b → b || list_any (covers a n) held ≡ true
    → (list_any (covers a n) held ≡ true → list_any (is_in (a + k)) held ≡ true) → is_in (a + k) p || list_any (is_in (a + k)) held ≡ true
next_reached p held a n k l true is e rest = ap (λ (b : Bool). b || list_any (is_in (a + k)) held) (one_reached a n k p l is)
next_reached p held a n k l false is e rest = ap (λ (b : Bool). is_in (a + k) p || b) (rest e) ∙ or_true (is_in (a + k) p)

all_reached : (held : List Span) (a n k : ℕ) → k < n → list_any (covers a n) held ≡ true → list_any (is_in (a + k)) held ≡ true
all_reached [] a n k l e = cc
all_reached (p ∷ held) a n k l e = next_reached p held a n k l (covers a n p) refl e (all_reached held a n k l)

pub covered_reached : (held : List Span) (a n k : ℕ) → is_covered held a n ≡ true → k < n → reaches held (a + k) ≡ true
unfolding reaches
covered_reached held a n k e l = all_reached held a n k l e
