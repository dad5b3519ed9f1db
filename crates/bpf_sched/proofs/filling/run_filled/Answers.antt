use Rattle.std.proofs.Common.{◌≡◌, ℕ, Result, Ok, Err, IfErr, ap, sym, subst, ◌∙◌}
use Rattle.std.specs.Prelude.{IsErrAnd}
use Rattle.hop_layout.specs.declared.about.About.{About}
use Rattle.bpf_sched.specs.Refusing.{IsFirstSchedError}
use Rattle.bpf_sched.proofs.filling.run_filled.Goals as goal

err_of : {E U : Type 0} (r : Result U E) (e : E) (P : E → Type 0) → P e → IsErrAnd r (λ f. f ≡ e) → IfErr r P
err_of (Ok u) e P h same = tt
err_of (Err f) e P h same = subst P (sym same) h

pub returns-in_err-check-clause-refused : goal.returns-in_err-check-clause-refused
returns-in_err-check-clause-refused g c =
    let has : c.cpus-cpus.result ≡ c.args.store.table.about.shape.cpus = c.cpus-cpus.ensures.cpus ∙ ap (λ (a : About). a.shape.cpus) c.about.ensures in
    err_of c.from_residual.result c.in_err-check.field-0.0 (IsFirstSchedError c.args.store.table.about.shape.cpus c.args.asked.now.workers
    c.args.asked.now.jobs.now)
    (subst (λ (n : ℕ). IsFirstSchedError n c.args.asked.now.workers c.args.asked.now.jobs.now c.in_err-check.field-0.0) has c.in_err-check.ensures.refused)
    c.from_residual.ensures.1
