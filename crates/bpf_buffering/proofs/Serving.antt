-- The one CPU that an adapter serves.
use Rattle.std.proofs.Common.{◌≡◌, ◌<◌, ◌≤◌, ℕ, Bool, true, false, ◌&&◌, ◌==◌, Option, Some, None, inl, inr, arith}
use Rattle.std.specs.Prelude.{nat_lt}
use Rattle.std.proofs.lemmas.Bool.{and_parts, or_right, lt-ltb, le-ltb}
use Rattle.bpf_shared.specs.Shape.{Shape}
use Rattle.bpf_shared.specs.declared.events.Span.{Span}
use Rattle.bpf_shared.specs.Passage.{IsWritable, held_with, same_span}
use Rattle.std.proofs.lemmas.Bool.Decides.{nat_tests}
use Rattle.bpf_plain.specs.PlainStore.{has_cpu}
use Rattle.bpf_buffering.specs.Waiting.{WaitingContents, serves_one}

pub its_cpu : (w : WaitingContents) (c : ℕ) → serves_one w c ≡ true → c ≡ w.cpu
its_cpu w c h = same c w.cpu (and_parts (c == w.cpu) (has_cpu w.store c) h).0
  where
    same : (m n : ℕ) → (m == n) ≡ true → m ≡ n
    same m n e = grind (arith, nat_tests)

pub has_its : (w : WaitingContents) (c : ℕ) → serves_one w c ≡ true → has_cpu w.store c ≡ true
has_its w c h = (and_parts (c == w.cpu) (has_cpu w.store c) h).1

-- what may be written stays so where more is held
pub writable_more : (h : Shape) (f g : Span → Bool) (a n : ℕ) → ((q : Span) → f q ≡ true → g q ≡ true) → IsWritable h f a n → IsWritable h g a n
writable_more h f g a n more (inl p) = inl (record { span = p.span; holds = more p.span p.holds; covers = p.covers; aligned = p.aligned })
writable_more h f g a n more (inr p) = inr p

pub held_more : (held : ℕ → Span → Bool) (c d : ℕ) (o : Option Span) (q : Span) → held d q ≡ true → held_with held c o d q ≡ true
held_more held c d None q h = h
held_more held c d (Some p) q h = or_right ((d == c) && same_span q p) (held d q) h

-- flags above 2, and others
pub is_more : (flags : ℕ) → 2 < flags → nat_lt 2 flags ≡ true
is_more flags more = lt-ltb 2 flags more

pub is_no_more : (flags : ℕ) → flags ≤ 2 → nat_lt 2 flags ≡ false
is_no_more flags few = le-ltb 2 flags few
