use Rattle.std.proofs.Common.{◌≡◌, ◌<◌, Bool, List, length, inl, inr, sym, ap, subst, ◌∙◌, arith}
use Rattle.std.proofs.lemmas.Bool.{cases_lt}
use Rattle.bpf_hash.specs.declared.runs.Runs.{Runs}
use Rattle.bpf_hash.specs.Private.Rows.{Rows, AreMarked, ArePassed, GoOn, IsTable}
use Rattle.bpf_hash.proofs.Passing.{marked_passed, passed_on}
use Rattle.bpf_hash.proofs.table.Table.first_open.Goals as goal

pub returns-then-go_on : goal.returns-then-go_on
returns-then-go_on c i l =
    let t = c.args.self.now in
    let runs = c.args.runs.now in
    let seen = c.self.inside.seen.items in
    let is : IsTable t = subst IsTable c.self.view_is c.self.invariant.0 in
    let marks : c.self.inside.linked.items ≡ t.linked = ap (λ (r : Rows). r.linked) c.self.view_is in
    let cpus : c.self.inside.cpus ≡ t.cpus = ap (λ (r : Rows). r.cpus) c.self.view_is in
    let same : length seen ≡ length runs = c.self.invariant.3 ∙ (cpus ∙ sym c.requires) in
    let on : GoOn seen runs = subst (λ (s : List Runs). GoOn s runs) c.deref.ensures.value (c.go_on.ensures c.if-go_on.true) in
    elim (cases_lt i c.self.inside.filled) [
      | inl below ↦ marked_passed runs t c.self.inside.filled (subst (λ (m : List Bool). AreMarked m c.self.inside.filled) marks c.self.invariant.2) i below
      | inr from ↦
          let more : i < c.self.inside.passed = omega (arith, l, from, c.max.ensures) in
          passed_on seen runs t c.self.inside.passed same on (subst (λ (r : Rows). ArePassed seen r c.self.inside.passed) c.self.view_is
          c.self.invariant.4) i more
    ]

pub returns-else-go_on : goal.returns-else-go_on
returns-else-go_on c =
    let t = c.args.self.now in
    let is : IsTable t = subst IsTable c.self.view_is c.self.invariant.0 in
    let marks : c.self.inside.linked.items ≡ t.linked = ap (λ (r : Rows). r.linked) c.self.view_is in
    marked_passed c.args.runs.now t c.self.inside.filled (subst (λ (m : List Bool). AreMarked m c.self.inside.filled) marks c.self.invariant.2)
