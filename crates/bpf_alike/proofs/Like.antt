-- What holds of states that are alike by one table holds of those that are by a chain of them.
use Rattle.std.proofs.Common.{◌≡◌, ◌∙◌, ℕ, zero, suc, List, [], ◌∷◌, inl, refl, sym, ap, subst}
use Rattle.bpf_shared.specs.declared.events.Event.{Event}
use Rattle.bpf_shared.specs.Shape.{Shape}
use Rattle.bpf_loader.specs.Loaded.{Loaded}
use Rattle.bpf_cpu.specs.declared.cpu.Cpu.{Cpu}
use Rattle.bpf_cpu.specs.declared.outcome.Progress.{Progress}
use Rattle.bpf_cpu.specs.declared.outcome.Progress.TheVariants.{On}
use Rattle.bpf_cpu.specs.Step.{Step}
use Rattle.bpf_cpu.specs.Task.{Task}
use Rattle.bpf_live.specs.Laws.{AlikeIsAnEquivalence, OneStateIsAlike, StepsAreAlike}
use Rattle.bpf_alike.specs.Worlds.{AllAlike, AreAlikeIn, AreLike}

module _ (program : Loaded) where
  abbrev In : ℕ → Cpu → Cpu → Type 0
  In = AreAlikeIn program

  pub like_same : (a : Cpu) → AreLike program a a
  like_same a = (0, refl)

  pc_in : (n : ℕ) (a b : Cpu) → In n a b → b.pc ≡ a.pc
  pc_in zero a b same = ap (λ (c : Cpu). c.pc) same
  pc_in (suc n) a b (table, mid, sound, alike, chain) = pc_in n mid b chain ∙ ap (λ (c : Cpu). c.pc) alike.rest

  pub like_pc : (a b : Cpu) → AreLike program a b → b.pc ≡ a.pc
  like_pc a b (n, chain) = pc_in n a b chain

  again_in : (n : ℕ) (a b c : Cpu) → In n a b → AreLike program b c → AreLike program a c
  again_in zero a b c same more = subst (λ (x : Cpu). AreLike program x c) same more
  again_in (suc n) a b c (table, mid, sound, alike, chain) more =
      let r = again_in n mid b c chain more in
      (suc r.0, (table, mid, sound, alike, r.1))

  pub like_again : (a b c : Cpu) → AreLike program a b → AreLike program b c → AreLike program a c
  like_again a b c (n, chain) more = again_in n a b c chain more

  back_in : AlikeIsAnEquivalence → (n : ℕ) (a b : Cpu) → In n a b → AreLike program b a
  back_in equal zero a b same = (0, sym same)
  back_in equal (suc n) a b (table, mid, sound, alike, chain) =
      like_again b mid a (back_in equal n mid b chain) (1, (table, a, sound, (equal program table a mid mid).1 alike, refl))

  pub like_back : AlikeIsAnEquivalence → (a b : Cpu) → AreLike program a b → AreLike program b a
  like_back equal a b (n, chain) = back_in equal n a b chain

  -- ---- steps
  abbrev Stepped : Shape → List Event → Progress → Cpu → Cpu → Type 0
  Stepped shape events progress other new = (next : Cpu) × Step shape program other events progress next × AreLike program new next

  steps_in : StepsAreAlike → (shape : Shape) (events : List Event) (progress : Progress) (n : ℕ) (old other new : Cpu) → In n old other
      → Step shape program old events progress new → Stepped shape events progress other new
  steps_in law shape events progress zero old other new same step =
      (new, subst (λ (x : Cpu). Step shape program x events progress new) (sym same) step, like_same new)
  steps_in law shape events progress (suc n) old other new (table, mid, sound, alike, chain) step =
      let r = law shape program table old mid new events progress sound alike step in
      let s = steps_in law shape events progress n mid other r.0 chain r.1 in
      (s.0, s.1, like_again new r.0 s.0 (1, (table, r.0, sound, r.2, refl)) s.2)

  pub like_steps : StepsAreAlike → (shape : Shape) (old other new : Cpu) (events : List Event) (progress : Progress) → AreLike program old other
      → Step shape program old events progress new → Stepped shape events progress other new
  like_steps law shape old other new events progress (n, chain) step = steps_in law shape events progress n old other new chain step

  -- where a step leads to one state whatever the store
  abbrev Once : Cpu → Cpu → Cpu → Type 0
  Once old other new = (next : Cpu) × AreLike program new next ×
      ((h : Shape) (es : List Event) → Step h program old es On new → Step h program other es On next)

  once_in : OneStateIsAlike → (shape : Shape) (events : List Event) (n : ℕ) (old other new : Cpu) → In n old other → Step shape program old events On new
      → Once old other new
  once_in law shape events zero old other new same step =
      (new, like_same new, λ h es made. subst (λ (x : Cpu). Step h program x es On new) (sym same) made)
  once_in law shape events (suc n) old other new (table, mid, sound, alike, chain) step =
      let r = law program table old mid new shape events sound alike step in
      let s = once_in law shape events n mid other r.0 chain (r.2 shape events step) in
      (s.0, like_again new r.0 s.0 (1, (table, r.0, sound, r.1, refl)) s.1, λ h es made. s.2 h es (r.2 h es made))

  pub like_once : OneStateIsAlike → (old other new : Cpu) (shape : Shape) (events : List Event) → AreLike program old other
      → Step shape program old events On new → Once old other new
  like_once law old other new shape events (n, chain) step = once_in law shape events n old other new chain step

-- ---- jobs
pub all_like : (programs : List Loaded) (jobs : List Task) → AllAlike programs jobs jobs
all_like programs [] = tt
all_like programs (job ∷ jobs) = (inl refl, all_like programs jobs)
