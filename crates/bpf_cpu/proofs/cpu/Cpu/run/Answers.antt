use Rattle.std.proofs.Common.{◌≡◌, ℕ, Bool, [], ◌∷◌, ◌++◌, inl, refl, ap, subst, ◌∙◌}
use Rattle.bpf_shared.specs.declared.events.Event.TheVariants.{Begin, End}
use Rattle.bpf_shared.specs.Shape.{Shape}
use Rattle.bpf_shared.specs.declared.events.Span.{Span}
use Rattle.bpf_shared.specs.Passage.{Calls}
use Rattle.bpf_shared.specs.Chain.{Chain}
use Rattle.bpf_shared.proofs.Chains.{chain_one, chain_join, chain_call}
use Rattle.bpf_cpu.specs.Step.{MakesSteps}
use Rattle.bpf_cpu.proofs.RowLaws.{start_ready}
use Rattle.bpf_cpu.proofs.HeldLaws.{nothing_held, others_without, run_and_back}
use Rattle.bpf_cpu.proofs.cpu.Cpu.run.Goals as goal

pub make_steps-outcome-requires-clause-ready : goal.make_steps-outcome-requires-clause-ready
make_steps-outcome-requires-clause-ready g c = start_ready c.args.program.now c.args.self.now c.requires.fresh.0 c.requires.fresh.1 c.starts.ensures

-- the run's begin, its steps and its end follow each other
pub returns-in-Ok-clause-explained : goal.returns-in-Ok-clause-explained
returns-in-Ok-clause-explained g c =
    let cpu = c.args.self.now.number in
    let x0 = c.args.shared.now in
    let x1 = c.begin.new.self in
    let x2 = c.make_steps-outcome.new.shared in
    let x3 = c.end.new.self in
    let begun = c.in-Ok.ensures in
    let made = c.make_steps-outcome.ensures.steps in
    let first : Chain g.S.Shared.passes g.S.Shared.serves cpu x0 x1 (Begin ∷ []) = chain_one g.S.Shared.passes g.S.Shared.serves cpu x0 x1
    Begin c.requires.serves begun.begun begun.same.1 in
    let both : Chain g.S.Shared.passes g.S.Shared.serves cpu x0 x2 (Begin ∷ made.0) = chain_join g.S.Shared.passes g.S.Shared.serves cpu
    g.met.S.Shared.follows x0 x1 x2 (Begin ∷ []) made.0 first made.1 in
    let ended = c.end.ensures in
    let P : ℕ → Type 0 = λ k. Calls (g.S.Shared.passes x2 x3) (g.S.Shared.serves x2) k End in
    let last : Calls (g.S.Shared.passes x2 x3) (g.S.Shared.serves x2) cpu End = subst P c.make_steps-outcome.ensures.number ended.ended in
    let Q : Shape → Type 0 = λ h. MakesSteps h c.args.program.now c.args.budget c.args.self.now made.0 c.make_steps-outcome.result
    c.make_steps-outcome.new.self in (
      Begin ∷ (made.0 ++ End ∷ []),
      chain_call g.S.Shared.passes g.S.Shared.serves cpu g.met.S.Shared.follows x0 x2 x3 (Begin ∷ made.0) End c.requires.serves both last ended.same.1,
      inl (made.0, c.make_steps-outcome.new.self, refl, subst Q begun.same.0 made.2),
    )

pub make_steps-outcome-requires-clause-held : goal.make_steps-outcome-requires-clause-held
make_steps-outcome-requires-clause-held g c = nothing_held (g.S.Shared.held c.begin.new.self c.args.self.now.number) c.args.self.now
    c.requires.fresh.0 c.requires.fresh.1

-- the CPU is out of its run again, and the others are as before
pub returns-in-Ok-clause-keeps : goal.returns-in-Ok-clause-keeps
returns-in-Ok-clause-keeps g c =
    let begun = c.in-Ok.ensures in
    let made = c.make_steps-outcome.ensures in
    let ended = c.end.ensures in
    let cpu = c.args.self.now.number in
    let same : c.make_steps-outcome.new.self.number ≡ cpu = made.number in
    record {
      shape = ended.same.0 ∙ made.keeps.shape ∙ begun.same.0;
      runs = run_and_back (g.S.Shared.running c.args.shared.now) cpu _ _ _ _ same c.requires.idle begun.running made.keeps.runs ended.running;
      others = λ d ne.
          ap (λ (held : ℕ → Span → Bool). held d) ended.held
          ∙ others_without (g.S.Shared.held c.make_steps-outcome.new.shared) c.make_steps-outcome.new.self.number d (λ e. ne (e ∙ same))
          ∙ made.keeps.others d ne
          ∙ ap (λ (held : ℕ → Span → Bool). held d) begun.held
          ∙ others_without (g.S.Shared.held c.args.shared.now) cpu d ne;
    }

pub returns-in-Err-clause-keeps : goal.returns-in-Err-clause-keeps
returns-in-Err-clause-keeps g c =
    let worn = c.in-Err.ensures in
    record { shape = worn.same.0; runs = worn.unchanged.1; others = λ d ne. ap (λ (held : ℕ → Span → Bool). held d) worn.unchanged.2 }
