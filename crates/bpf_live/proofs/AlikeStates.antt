-- To be alike is symmetric and transitive.
use Rattle.std.proofs.Common.{◌≡◌, ◌⊎◌, ℕ, inl, inr, refl, sym, ap, subst, ◌∙◌}
use Rattle.bpf_loader.specs.Loaded.{Loaded}
use Rattle.bpf_cpu.specs.declared.cpu.Cpu.{Cpu}
use Rattle.bpf_live.specs.Live.{IsLive, Table}
use Rattle.bpf_live.specs.Alike.{AreAlike, IsEntered, with_registers}

module _ (program : Loaded) (table : Table) (a b : Cpu) (alike : AreAlike program table a b) where
  pub same_pc : b.pc ≡ a.pc
  same_pc = ap (λ (c : Cpu). c.pc) alike.rest

  same_callers : b.memory.frames.callers ≡ a.memory.frames.callers
  same_callers = ap (λ (c : Cpu). c.memory.frames.callers) alike.rest

  live_here : (r : ℕ) → IsLive table b.pc r → IsLive table a.pc r
  live_here r l = subst (λ (pc : ℕ). IsLive table pc r) same_pc l

  live_there : (r : ℕ) → IsLive table a.pc r → IsLive table b.pc r
  live_there r l = subst (λ (pc : ℕ). IsLive table pc r) (sym same_pc) l

  entered_there : IsEntered program a → IsEntered program b
  entered_there (inl none) = inl (same_callers ∙ none)
  entered_there (inr calls) = inr calls

  entered_here : IsEntered program b → IsEntered program a
  entered_here (inl none) = inl (sym same_callers ∙ none)
  entered_here (inr calls) = inr calls

  entered_back : (b.registers ≡ a.registers) ⊎ IsEntered program a → (a.registers ≡ b.registers) ⊎ IsEntered program b
  entered_back (inl same) = inl (sym same)
  entered_back (inr entered) = inr (entered_there entered)

  pub alike_back : AreAlike program table b a
  alike_back = record {
    rest = subst (λ (c : Cpu). a ≡ with_registers c a.registers) (sym alike.rest) refl;
    many = sym alike.many;
    live = λ r l. sym (alike.live r (live_here r l));
    entered = entered_back alike.entered;
  }

  module _ (c : Cpu) (more : AreAlike program table b c) where
    entered_on : (b.registers ≡ a.registers) ⊎ IsEntered program a → (c.registers ≡ b.registers) ⊎ IsEntered program b →
        (c.registers ≡ a.registers) ⊎ IsEntered program a
    entered_on (inl one) (inl two) = inl (two ∙ one)
    entered_on (inr entered) two = inr entered
    entered_on (inl one) (inr entered) = inr (entered_here entered)

    pub alike_again : AreAlike program table a c
    alike_again = record {
      rest = subst (λ (x : Cpu). c ≡ with_registers x c.registers) alike.rest more.rest;
      many = more.many ∙ alike.many;
      live = λ r l. more.live r (live_there r l) ∙ alike.live r l;
      entered = entered_on alike.entered more.entered;
    }

pub states_are_alike_back : (program : Loaded) (table : Table) (a b : Cpu) → AreAlike program table a b → AreAlike program table b a
states_are_alike_back program table a b alike = alike_back program table a b alike

pub states_are_alike_again : (program : Loaded) (table : Table) (a b c : Cpu) → AreAlike program table a b → AreAlike program table b c →
    AreAlike program table a c
states_are_alike_again program table a b c alike more = alike_again program table a b alike c more
