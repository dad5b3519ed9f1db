-- What stores that wait make of a byte, the oldest first, and which addresses events touch.
use Rattle.std.proofs.Common.{◌≡◌, ℕ, ◌+◌, ◌-◌, ◌<◌, ◌≤◌, Bool, true, false, ◌||◌, if◌then◌else◌, List, [], ◌∷◌, ◌++◌, Option, ◌⊎◌, inl}
use Rattle.std.proofs.Common.{inr, refl, sym, ap, ◌∙◌, arith}
use Rattle.std.specs.Prelude.{slice_get}
use Rattle.std.proofs.lemmas.Bool.{or_parts, or_from, or_left, or_right, or_cases}
use Rattle.std.proofs.lemmas.Bool.Decides.{nat_tests}
use Rattle.bpf_base.specs.Bytes.{low_bytes}
use Rattle.bpf_shared.specs.Access.{bytes_in}
use Rattle.bpf_shared.specs.declared.events.Event.{Event}
use Rattle.bpf_shared.specs.declared.events.Event.TheVariants.{Load, Store, Atomic}
use Rattle.bpf_x86.specs.Forwarding.{within, written, byte_after, overlaid}

pub within_parts : (a n b : ℕ) → within a n b ≡ true → (a ≤ b) × (b < a + n)
within_parts a n b h = (grind (arith, nat_tests), grind (arith, nat_tests))

pub within_from : (a n b : ℕ) → a ≤ b → b < a + n → within a n b ≡ true
within_from a n b h k = grind (arith, nat_tests)

pub beside : (a n b : ℕ) → within a n b ≡ false → (b < a) ⊎ (a + n ≤ b)
beside a n b h = grind (arith, nat_tests)

-- the event touches the byte at this address
abbrev pub hits : Event → ℕ → Bool
hits (Load a size found) b = within a (bytes_in size) b
hits (Store a size x) b = within a (bytes_in size) b
hits (Atomic a size op operand expected found) b = within a (bytes_in size) b
hits _ b = false

-- and writes it
abbrev pub changes : Event → ℕ → Bool
changes (Store a size x) b = within a (bytes_in size) b
changes (Atomic a size op operand expected found) b = within a (bytes_in size) b
changes _ b = false

-- one of the events does
abbrev pub any_at : (Event → ℕ → Bool) → List Event → ℕ → Bool
any_at test [] b = false
any_at test (e ∷ es) b = test e b || any_at test es b

abbrev pub hits_any : List Event → ℕ → Bool
hits_any es b = any_at hits es b

abbrev pub changes_any : List Event → ℕ → Bool
changes_any es b = any_at changes es b

pub not_written : (a n x b : ℕ) (old : Option ℕ) → within a n b ≡ false → written a n x b old ≡ old
not_written a n x b old h = ap (λ (t : Bool). if t then slice_get (low_bytes n x) (b - a) else old) h

pub is_written : (a n x b : ℕ) (old : Option ℕ) → within a n b ≡ true → written a n x b old ≡ slice_get (low_bytes n x) (b - a)
is_written a n x b old h = ap (λ (t : Bool). if t then slice_get (low_bytes n x) (b - a) else old) h

pub missed : (e : Event) (b : ℕ) (old : Option ℕ) → hits e b ≡ false → byte_after e b old ≡ old
missed (Store a size x) b old h = not_written a (bytes_in size) x b old h
missed e b old h = refl

pub all_missed : (es : List Event) (b : ℕ) (old : Option ℕ) → hits_any es b ≡ false → overlaid es b old ≡ old
all_missed [] b old h = refl
all_missed (e ∷ es) b old h = let p = or_parts (hits e b) (hits_any es b) h in all_missed es b (byte_after e b old) p.1 ∙ missed e b old p.0

pub overlaid-last : (es : List Event) (e : Event) (b : ℕ) (old : Option ℕ) → overlaid (es ++ e ∷ []) b old ≡ byte_after e b (overlaid es b old)
overlaid-last [] e b old = refl
overlaid-last (f ∷ fs) e b old = overlaid-last fs e b (byte_after f b old)

-- ---- of lists joined
pub any_joined : (test : Event → ℕ → Bool) (es fs : List Event) (b : ℕ) → any_at test (es ++ fs) b ≡ any_at test es b || any_at test fs b
any_joined test [] fs b = refl
any_joined test (e ∷ es) fs b = ap (λ (t : Bool). test e b || t) (any_joined test es fs b) ∙ sym (or_assoc (test e b) (any_at test es b) (any_at test fs b))
  where
    or_assoc : (p q r : Bool) → (p || q) || r ≡ p || (q || r)
    or_assoc true q r = refl
    or_assoc false q r = refl

pub any_left : (test : Event → ℕ → Bool) (es fs : List Event) (b : ℕ) → any_at test es b ≡ true → any_at test (es ++ fs) b ≡ true
any_left test es fs b h = any_joined test es fs b ∙ or_left (any_at test es b) (any_at test fs b) h

pub any_right : (test : Event → ℕ → Bool) (es fs : List Event) (b : ℕ) → any_at test fs b ≡ true → any_at test (es ++ fs) b ≡ true
any_right test es fs b h = any_joined test es fs b ∙ or_right (any_at test es b) (any_at test fs b) h

pub any_cases : (test : Event → ℕ → Bool) (es fs : List Event) (b : ℕ) → any_at test (es ++ fs) b ≡ true → (any_at test es b ≡ true) ⊎ (any_at test fs b ≡ true)
any_cases test es fs b h = or_cases (any_at test es b) (any_at test fs b) (sym (any_joined test es fs b) ∙ h)

pub last_missed : (test : Event → ℕ → Bool) (es : List Event) (e : Event) (b : ℕ) → any_at test (es ++ e ∷ []) b ≡ false →
    (any_at test es b ≡ false) × (test e b ≡ false)
last_missed test [] e b h = (refl, (or_parts (test e b) false h).0)
last_missed test (f ∷ fs) e b h =
    let p = or_parts (test f b) (any_at test (fs ++ e ∷ []) b) h in
    let rest = last_missed test fs e b p.1 in
    (or_from (test f b) (any_at test fs b) p.0 rest.0, rest.1)

pub last_hits : (es : List Event) (e : Event) (b : ℕ) → hits_any (es ++ e ∷ []) b ≡ true → (hits_any es b ≡ true) ⊎ (hits e b ≡ true)
last_hits [] e b h = elim (or_cases (hits e b) false h) [ inl k ↦ inr k | inr k ↦ inl k ]
last_hits (f ∷ fs) e b h = elim (or_cases (hits f b) (hits_any (fs ++ e ∷ []) b) h) [
  | inl k ↦ inl (or_left (hits f b) (hits_any fs b) k)
  | inr k ↦ elim (last_hits fs e b k) [ inl l ↦ inl (or_right (hits f b) (hits_any fs b) l) | inr l ↦ inr l ]
]

-- what writes a byte touches it
pub changes_hits : (e : Event) (b : ℕ) → changes e b ≡ true → hits e b ≡ true
changes_hits (Store a size x) b h = h
changes_hits (Atomic a size op operand expected found) b h = h
changes_hits e b h = absurd (let no : false ≡ true = h in cc)

pub all_changes_hit : (es : List Event) (b : ℕ) → changes_any es b ≡ true → hits_any es b ≡ true
all_changes_hit [] b h = h
all_changes_hit (e ∷ es) b h = elim (or_cases (changes e b) (changes_any es b) h) [
  | inl k ↦ or_left (hits e b) (hits_any es b) (changes_hits e b k)
  | inr k ↦ or_right (hits e b) (hits_any es b) (all_changes_hit es b k)
]
