-- No part of a CPU's own memory is longer than a packet.
use Rattle.std.proofs.Common.{◌≡◌, ℕ, ◌+◌, ◌-◌, ◌/◌, ◌%◌, ◌<◌, ◌≤◌, nat_lt, nat_le, Bool, true, false, length, refl, inl, inr, ◌∙◌, ap, arith}
use Rattle.std.specs.Prelude.{is_some, ◌&&◌}
use Rattle.std.proofs.lemmas.Bool.{cases_lt}
use Rattle.std.proofs.lemmas.Bool.Decides.{nat_tests}
use Rattle.bpf_mem.specs.declared.memory.PrivateMemory.{PrivateMemory}
use Rattle.bpf_mem.specs.Limits.{max_context, max_packet}
use Rattle.bpf_mem.specs.Memory.{bytes_at}
use Rattle.bpf_mem.proofs.AreaLemmas.{Sized}
use Rattle.bpf_mem.proofs.ReachLemmas.{reached-below, reached-context, reached-packet, reached-stack}

and_false : (b : Bool) → b && false ≡ false
and_false true = refl
and_false false = refl

module _ (m : PrivateMemory) (a n : ℕ) (small : length m.context ≤ max_context) (brief : length m.packet ≤ max_packet)
    (sized : Sized m.frames.live) (long : max_packet < n) where
  in_packet : (o : ℕ) → a ≡ 0x10000000 + o → a < 0x200000000 → is_some (bytes_at m a n) ≡ false
  in_packet o e low =
      let no : nat_le (o + n) (length m.packet) ≡ false = grind (arith, nat_tests) in
      reached-packet m a o n brief e low (omega arith) ∙ no

  in_context : (o : ℕ) → a ≡ 0x200000000 + o → o < 0x100000000 → is_some (bytes_at m a n) ≡ false
  in_context o e low =
      let no : nat_le (o + n) (length m.context) ≡ false = grind (arith, nat_tests) in
      reached-context m a o n small brief e low (omega arith) ∙ no

  in_stack : (o : ℕ) → a ≡ 0x300000000 + o → is_some (bytes_at m a n) ≡ false
  in_stack o e =
      let d = o / 0x1000 in
      let r = o % 0x1000 in
      let no : nat_le (r + n) 512 ≡ false = grind (arith, nat_tests) in
      reached-stack m a d r n small brief sized (omega arith) (omega arith) (omega arith) ∙
      (ap (λ (b : Bool). nat_lt d (length m.frames.live) && b) no ∙ and_false (nat_lt d (length m.frames.live)))

  pub long_not_own : is_some (bytes_at m a n) ≡ false
  long_not_own = elim (cases_lt a 0x200000000) [
    | inl below ↦
        elim (cases_lt a 0x10000000) [
          | inl low ↦ reached-below m a n low (omega arith)
          | inr since ↦ in_packet (a - 0x10000000) (omega arith) below
        ]
    | inr high ↦
        elim (cases_lt a 0x300000000) [
          | inl near ↦ in_context (a - 0x200000000) (omega arith) (omega arith)
          | inr far ↦ in_stack (a - 0x300000000) (omega arith)
        ]
  ]
