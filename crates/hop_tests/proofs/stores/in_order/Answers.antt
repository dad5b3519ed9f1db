use Rattle.std.proofs.Common.{◌≡◌, ℕ, ◌<◌, sym, ap, ◌∙◌, arith, ⊎_elim, length}
use Rattle.std.proofs.lemmas.Bool.{cases_eq}
use lib.ListN.{get_elem?}
use Rattle.atomic_table.proofs.Lists.{at_index}
use Rattle.hop_layout.specs.declared.about.About.{About}
use Rattle.hop_tests.proofs.stores.in_order.Goals as goal

pub ports-preserved : goal.ports-preserved
ports-preserved c = λ k l. ⊎_elim
    (λ (e : k ≡ c.ports.place).
    let ports = c.args.ports.now in
    let p = c.index-ports-place.result in
    let inside : c.ports.place < length ports = (let t = c.ports-test.true in let n = c.if-ports-cpus.false in omega arith) in
    let same : p.known.cpu ≡ k = sym c.cpu.ensures ∙ (sym c.from.ensures ∙ (c.if-from-place.false ∙ sym e)) in
    (p, ap (λ (i : ℕ). get_elem? ports i) e ∙ at_index ports c.ports.place p inside c.index-ports-place.is, same))
    (λ ne. c.ports.invariant k (omega arith))
    (cases_eq k c.ports.place)

pub returns : goal.returns
returns c = λ yes. record {
  table = λ k d l. (c.requires.fit k d l).table;
  each = λ i inside.
      let cpus = c.cpus.ensures.cpus ∙ ap (λ (a : About). a.shape.cpus) c.about.ensures in
      let f = c.from-cpus.ensures in
      let t = c.ports-test.false in
      let p = c.ports.invariant i (omega arith) in
      (i, p.0, p.1, p.2);
}
