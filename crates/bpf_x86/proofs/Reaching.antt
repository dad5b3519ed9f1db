-- The values that a CPU reaches: those that it holds, and the fixed ones, as a test.
use Rattle.std.proofs.Common.{◌≡◌, ℕ, ◌<◌, Bool, true, false, ◌||◌, ◌&&◌, Option, Some, None, ◌⊎◌, inl, inr, refl, sym, ap, subst, ◌∙◌, arith}
use Rattle.std.specs.Prelude.{nat_lt, slice_get}
use Rattle.std.proofs.lemmas.Bool.{and_parts, or_cases, or_left, or_right}
use Rattle.std.proofs.lemmas.Bool.Decides.{nat_tests}
use Rattle.bpf_shared.specs.declared.shapes.ArrayShape.{ArrayShape}
use Rattle.bpf_shared.specs.Shape.{Shape, Covers, copies}
use Rattle.bpf_shared.specs.Store.{Plain, IsLive, IsFixed, IsFrozen, array_of, copy_of, index_of}
use Rattle.bpf_shared.specs.Events.{Reaches, MayWrite}
use Rattle.bpf_x86.proofs.Alike.{IsLike}

-- ---- fixed values
abbrev pub is_in_array : Shape → ℕ → Option ArrayShape → Bool
is_in_array h v None = false
is_in_array h v (Some g) = nat_lt (copy_of v) (copies h.cpus g) && nat_lt (index_of v) g.max

abbrev pub is_fixed : Shape → ℕ → Bool
is_fixed h v = is_in_array h v (slice_get h.arrays (array_of v))

fixed_from : (h : Shape) (v : ℕ) → is_fixed h v ≡ true → IsFixed h v
fixed_from h v is = from (slice_get h.arrays (array_of v)) refl is
  where
    from : (o : Option ArrayShape) → slice_get h.arrays (array_of v) ≡ o → is_in_array h v o ≡ true → IsFixed h v
    from None e k = absurd (let no : false ≡ true = k in cc)
    from (Some g) e k =
        let p = and_parts (nat_lt (copy_of v) (copies h.cpus g)) (nat_lt (index_of v) g.max) k in
        record { array = g; is = e; copy = less (copy_of v) (copies h.cpus g) p.0; index = less (index_of v) g.max p.1 }
      where
        less : (m n : ℕ) → nat_lt m n ≡ true → m < n
        less m n q = grind (arith, nat_tests)

fixed_so : (h : Shape) (v : ℕ) → IsFixed h v → is_fixed h v ≡ true
fixed_so h v f = ap (is_in_array h v) f.is ∙ both (copy_of v) (copies h.cpus f.array) (index_of v) f.array.max f.copy f.index
  where
    both : (k m i n : ℕ) → k < m → i < n → nat_lt k m && nat_lt i n ≡ true
    both k m i n p q =
        let first : nat_lt k m ≡ true = grind (arith, nat_tests) in
        let second : nat_lt i n ≡ true = grind (arith, nat_tests) in
        ap (λ (t : Bool). t && nat_lt i n) first ∙ second

-- ---- held or fixed
abbrev pub reached : Plain → ℕ → ℕ → Bool
reached s c v = s.held c v || is_fixed s.shape v

pub reached_parts : (s : Plain) (c v : ℕ) → reached s c v ≡ true → (s.held c v ≡ true) ⊎ IsFixed s.shape v
reached_parts s c v h = elim (or_cases (s.held c v) (is_fixed s.shape v) h) [ inl k ↦ inl k | inr k ↦ inr (fixed_from s.shape v k) ]

pub reached_so : (s : Plain) (c v : ℕ) → (s.held c v ≡ true) ⊎ IsFixed s.shape v → reached s c v ≡ true
reached_so s c v (inl h) = or_left (s.held c v) (is_fixed s.shape v) h
reached_so s c v (inr f) = or_right (s.held c v) (is_fixed s.shape v) (fixed_so s.shape v f)

pub reached_is_live : (s : Plain) (c v : ℕ) → reached s c v ≡ true → IsLive s v
reached_is_live s c v h = elim (reached_parts s c v h) [ inl k ↦ inr (inl (c, k)) | inr k ↦ inr (inr k) ]

-- in stores of one shape
pub reached_same : (s t : Plain) (c v : ℕ) → s.shape ≡ t.shape → s.held c v ≡ t.held c v → reached s c v ≡ reached t c v
reached_same s t c v shape held = ap (λ (b : Bool). b || is_fixed s.shape v) held ∙ ap (λ (h : Shape). t.held c v || is_fixed h v) shape

pub reached_more : (s t : Plain) (c v : ℕ) → s.shape ≡ t.shape → (s.held c v ≡ true → t.held c v ≡ true) → reached s c v ≡ true → reached t c v ≡ true
reached_more s t c v shape more h = elim (or_cases (s.held c v) (is_fixed s.shape v) h) [
  | inl k ↦ or_left (t.held c v) (is_fixed t.shape v) (more k)
  | inr k ↦ or_right (t.held c v) (is_fixed t.shape v) (ap (λ (g : Shape). is_fixed g v) (sym shape) ∙ k)
]

pub like_shape : (but : ℕ → Type 0) (s p : Plain) → IsLike but s p → s.shape ≡ p.shape
like_shape but s p like = ap (λ (z : Plain). z.shape) like.same

pub reached_like : (but : ℕ → Type 0) (s p : Plain) (c v : ℕ) → (but c → ⊥) → IsLike but s p → reached s c v ≡ reached p c v
reached_like but s p c v ne like = reached_same s p c v (like_shape but s p like) (ap (λ (f : ℕ → Bool). f v) (like.others c ne))

-- ---- with the bytes of an access
pub record ReachesAt (s : Plain) (c v a n : ℕ) : Type 0 where
  pub holds : reached s c v ≡ true
  pub covers : Covers (s.value v).span a n

pub at_reaches : (s : Plain) (c v a n : ℕ) → ReachesAt s c v a n → Reaches s c v a n
at_reaches s c v a n r = record { holds = reached_parts s c v r.holds; covers = r.covers }

pub reaches_at : (s : Plain) (c v a n : ℕ) → Reaches s c v a n → ReachesAt s c v a n
reaches_at s c v a n r = record { holds = reached_so s c v r.holds; covers = r.covers }

-- and they may be written
abbrev pub Writable : Plain → ℕ → Type 0
Writable s v = IsFrozen s.shape v → ⊥

pub at_writes : (s : Plain) (c v a n : ℕ) → Writable s v → ReachesAt s c v a n → MayWrite s c v a n
at_writes s c v a n may r = record { reaches = at_reaches s c v a n r; writable = may }

pub writable_too : (s t : Plain) (v : ℕ) → s.shape ≡ t.shape → Writable s v → Writable t v
writable_too s t v shape may frozen = may (subst (λ (h : Shape). IsFrozen h v) (sym shape) frozen)
